-- Calls in order have names of their own, and their report can be judged.
use Rattle.std.proofs.Common.{◌≡◌, ℕ, ◌+◌, ◌≤◌, Bool, true, false, cond, eqb, Some, None, List, [], ◌∷◌, ◌++◌, le_refl, refl, sym, ap, subst, ◌∙◌, arith}
use Rattle.std.specs.Prelude.{IsTrue}
use Rattle.std.specs.List.{AllByRecursion}
use Rattle.std.proofs.lemmas.Bool.{and_parts, eqb-true, eq-eqb}
use Rattle.std.proofs.lemmas.List.Elements.{All-from_recursion}
use Rattle.lin_report.specs.declared.calls.Client.{Client}
use Rattle.lin_report.specs.declared.calls.Client.TheVariants as client
use Rattle.lin_report.specs.declared.calls.Op.{Op}
use Rattle.lin_report.specs.Object.{is_command, object_of}
use Rattle.lin_report.specs.Calls.{Call, Report, calls_of, IsSameCall}
use Rattle.lin_report.specs.Writing.{IsPrintable}
use Rattle.report_check.specs.Orders.{IsName}
use Rattle.report_check.specs.Verdicts.{name_of, ended_before}
use Rattle.report_check.specs.Judging.{CanJudge}
use Rattle.report_check.specs.Beginnings.{last_from, in_turn, AreInOrder, BeginsWith}
use Rattle.report_check.specs.Reports.{report_from}
use Rattle.report_check.proofs.CallsRead.OneCallMore.{last_from_more}
use Rattle.report_check.proofs.CallsRead.InOrder.{ByPairs, pairs_from, pairs_apart, all_apart, printable, follows_parts}

-- no call behind has the name of this one
later_names : (client : Client) (before calls : List Call) (c l : Call) → last_from c.seat None before ≡ Some l → c.number ≤ l.number → AreInOrder client before calls → AllByRecursion (λ d. ¬ IsSameCall c d) calls
later_names client before [] c l last le order = tt
later_names client before (d ∷ calls) c l last le order = by_seat (λ m is low. later_names client (before ++ d ∷ []) calls c m is low order.1) (eqb d.seat c.seat) refl
  where
    by_seat : ((m : Call) → last_from c.seat None (before ++ d ∷ []) ≡ Some m → c.number ≤ m.number → AllByRecursion (λ e. ¬ IsSameCall c e) calls) → (b : Bool) → eqb d.seat c.seat ≡ b → AllByRecursion (λ e. ¬ IsSameCall c e) (d ∷ calls)
    by_seat rest false e = (
      λ same. let test = eq-eqb d.seat c.seat (sym same.seat) in absurd cc,
      rest l (last_from_more c.seat None before d ∙ ap (λ b. cond b (Some d) (last_from c.seat None before)) e ∙ last) le,
    )
    by_seat rest true e =
        let seat = eqb-true d.seat c.seat e in
        let turn : in_turn (Some l) d ≡ true = sym (ap (λ s. in_turn (last_from s None before) d) seat ∙ ap (λ o. in_turn o d) last) ∙ (follows_parts before d order.0.2).in_turn in
        let next = eqb-true (l.number + 1) d.number (and_parts (eqb (l.number + 1) d.number) (ended_before l.answer d) turn).0 in
        (λ same. omega (arith, le, next, same.number), rest d (last_from_more c.seat None before d ∙ ap (λ b. cond b (Some d) (last_from c.seat None before)) e) (omega (arith, le, next)))

names_once : (client : Client) (before calls : List Call) → AreInOrder client before calls → ByPairs (λ c d. ¬ IsSameCall c d) calls
names_once client before [] order = tt
names_once client before (c ∷ calls) order = (
  later_names client (before ++ c ∷ []) calls c c (last_from_more c.seat None before c ∙ ap (λ b. cond b (Some c) (last_from c.seat None before)) (eq-eqb c.seat c.seat refl)) (le_refl c.number) order.1,
  names_once client (before ++ c ∷ []) calls order.1,
)

names_fit : (calls : List Call) → AllByRecursion IsPrintable calls → AllByRecursion (λ c. IsName (name_of c)) calls
names_fit [] all = tt
names_fit (c ∷ calls) all = (record { seat = all.0.seat; counted = all.0.counted; number = all.0.number }, names_fit calls all.1)

serves : (c : Client) (op : Op) → IsTrue (is_command c op) → IsTrue ((object_of c).serves op)
serves client.Queue op command = command
serves client.List op command = command
serves client.Tree op command = command
serves client.Buckets op command = command

all_served : (client : Client) (before calls : List Call) → AreInOrder client before calls → AllByRecursion (λ c. IsTrue ((object_of client).serves c.op)) calls
all_served client before [] order = tt
all_served client before (c ∷ calls) order = (serves client c.op order.0.1, all_served client (before ++ c ∷ []) calls order.1)

-- the report of calls in order can be judged
pub can_judge : (client : Client) (calls : List Call) → AreInOrder client [] calls → CanJudge (object_of client) (report_from calls)
can_judge client calls order = record {
  names = All-from_recursion _ (calls_of (report_from calls)) (all_apart (λ c. IsName (name_of c)) calls (names_fit calls (printable client [] calls order)));
  served = All-from_recursion _ (calls_of (report_from calls)) (all_apart (λ c. IsTrue ((object_of client).serves c.op)) calls (all_served client [] calls order));
  once = pairs_from (λ c d. ¬ IsSameCall c d) (calls_of (report_from calls)) (pairs_apart (λ c d. ¬ IsSameCall c d) (λ c d other same. other (record { seat = sym same.seat; number = sym same.number })) calls (names_once client [] calls order));
}

pub read_can_be_judged : (client : Client) (bytes : List ℕ) (calls : List Call) (rest : List ℕ) (report : Report) → BeginsWith client bytes calls rest → report ≡ report_from calls → CanJudge (object_of client) report
read_can_be_judged client bytes calls rest report begins parted = subst (CanJudge (object_of client)) (sym parted) (can_judge client calls begins.in_order)
