-- What holds of calls of which each may stand behind those before it.
use Rattle.std.proofs.Common.{◌≡◌, ◌≢◌, ℕ, zero, suc, ◌<◌, ◌≤◌, Bool, true, ltb-true, ◌&&◌, not, Option, Some, None, IfSome, List, [], ◌∷◌, ◌++◌, map, AllPairs, le_refl, refl, sym, ap, subst, ◌∙◌, arith}
use Rattle.std.specs.Prelude.{IsTrue}
use Rattle.std.specs.List.{AllByRecursion, filter_map, cons_option, list_any}
use Rattle.std.specs.List.Sorted.{IsNonDecreasingBy}
use Rattle.std.proofs.lemmas.Bool.{and_parts}
use Rattle.std.proofs.lemmas.List.Elements.{All-from_recursion}
use Rattle.std.proofs.lemmas.List.Kept.{AllPairs-cons}
use Rattle.lin_report.specs.declared.calls.Client.{Client}
use Rattle.lin_report.specs.declared.calls.Reply.{Reply}
use Rattle.lin_report.specs.declared.calls.Receipt.{Receipt}
use Rattle.lin_report.specs.declared.calls.PendingCall.{PendingCall}
use Rattle.lin_report.specs.Calls.{Call, answered_call, pending_call, calls_of}
use Rattle.lin_report.specs.Writing.{IsPrintable, CanWrite}
use Rattle.lin_report.proofs.Sorting.{IsBelowAll}
use Rattle.report_check.specs.Beginnings.{last_line, rises, in_turn, ends_above, fresh_end, has_tick, last_from, may_follow, AreInOrder}
use Rattle.report_check.specs.Reports.{receipt_with, receipt_in, waiting_with, waiting_in, report_from}
use Rattle.report_check.proofs.CallsRead.OneCallMore.{last_line_more}
use Rattle.report_check.proofs.CallsRead.Apart.{IsRising, IsUp}

-- what it says that a call may follow
pub record MayFollow (before : List Call) (c : Call) : Type 0 where
  pub rises : rises (last_line None before) c ≡ true
  pub in_turn : in_turn (last_from c.seat None before) c ≡ true
  pub ends_above : ends_above c.answer c.begin ≡ true
  pub fresh_begin : not (list_any (has_tick c.begin) before) ≡ true
  pub fresh_end : fresh_end before c.answer ≡ true

pub follows_parts : (before : List Call) (c : Call) → IsTrue (may_follow before c) → MayFollow before c
follows_parts before c follows =
    let rise : Bool = rises (last_line None before) c in
    let turn : Bool = in_turn (last_from c.seat None before) c in
    let above : Bool = ends_above c.answer c.begin in
    let fresh : Bool = not (list_any (has_tick c.begin) before) in
    let four = and_parts (rise && turn && above && fresh) (fresh_end before c.answer) follows in
    let three = and_parts (rise && turn && above) fresh four.0 in
    let two = and_parts (rise && turn) above three.0 in
    let one = and_parts rise turn two.0 in
    record { rises = one.0; in_turn = one.1; ends_above = two.1; fresh_begin = three.1; fresh_end = four.1 }

-- the call on the line behind began later
rises_behind : (before : List Call) (c d : Call) → last_line None before ≡ Some c → IsTrue (may_follow before d) → c.begin < d.begin
rises_behind before c d last follows = ltb-true c.begin d.begin (ap (λ o. rises o d) (sym last) ∙ (follows_parts before d follows).rises)

pub below_more : (low tick : ℕ) (calls : List Call) → low < tick → IsBelowAll tick calls → IsBelowAll low calls
below_more low tick [] lt below = tt
below_more low tick (c ∷ calls) lt below = (omega (arith, lt, below.0), below_more low tick calls lt below.1)

below_behind : (client : Client) (before : List Call) (c : Call) (calls : List Call) → last_line None before ≡ Some c → AreInOrder client before calls → IsBelowAll c.begin calls
below_behind client before c [] last order = tt
below_behind client before c (d ∷ calls) last order =
    let later = rises_behind before c d last order.0.2 in
    (later, below_more c.begin d.begin calls later (below_behind client (before ++ d ∷ []) d calls (last_line_more None before d) order.1))

pub rising : (client : Client) (before calls : List Call) → AreInOrder client before calls → IsRising calls
rising client before [] order = tt
rising client before (c ∷ calls) order = (below_behind client (before ++ c ∷ []) c calls (last_line_more None before c) order.1, rising client (before ++ c ∷ []) calls order.1)

pub printable : (client : Client) (before calls : List Call) → AreInOrder client before calls → AllByRecursion IsPrintable calls
printable client before [] order = tt
printable client before (c ∷ calls) order = (order.0.0, printable client (before ++ c ∷ []) calls order.1)

-- each two, by recursion
abbrev pub ByPairs : (Call → Call → Type 0) → List Call → Type 0
ByPairs R [] = Unit {0}
ByPairs R (c ∷ calls) = AllByRecursion (R c) calls × ByPairs R calls

pub pairs_from : (R : Call → Call → Type 0) (calls : List Call) → ByPairs R calls → AllPairs R calls
pairs_from R [] pairs = λ i j d before within. absurd (omega arith)
pairs_from R (c ∷ calls) pairs = AllPairs-cons R c calls (All-from_recursion (R c) calls pairs.0) (pairs_from R calls pairs.1)

all_middle : (P : Call → Type 0) (c : Call) (xs ys : List Call) → P c → AllByRecursion P (xs ++ ys) → AllByRecursion P (xs ++ c ∷ ys)
all_middle P c [] ys here all = (here, all)
all_middle P c (x ∷ xs) ys here all = (all.0, all_middle P c xs ys here all.1)

pairs_middle : (R : Call → Call → Type 0) → ((c d : Call) → R c d → R d c) → (c : Call) (xs ys : List Call) → AllByRecursion (R c) (xs ++ ys) → ByPairs R (xs ++ ys) → ByPairs R (xs ++ c ∷ ys)
pairs_middle R turned c [] ys all pairs = (all, pairs)
pairs_middle R turned c (x ∷ xs) ys all pairs = (all_middle (R x) c xs ys (turned c x all.0) pairs.0, pairs_middle R turned c xs ys all.1 pairs.1)

abbrev with_answer : Call → Option (Reply × ℕ) → Call
with_answer c answer = record { seat = c.seat; number = c.number; op = c.op; answer = answer; begin = c.begin; path = c.path }

-- what holds of each call on the lines holds of each of their report
pub all_apart : (P : Call → Type 0) (calls : List Call) → AllByRecursion P calls → AllByRecursion P (calls_of (report_from calls))
all_apart P [] all = tt
all_apart P (c ∷ calls) all = by_answer (all_apart P calls all.1) c.answer refl
  where
    by_answer : AllByRecursion P (calls_of (report_from calls)) → (a : Option (Reply × ℕ)) → c.answer ≡ a
        → AllByRecursion P (map answered_call (cons_option (receipt_with c a) (filter_map receipt_in calls)) ++ map pending_call (cons_option (waiting_with c a) (filter_map waiting_in calls)))
    by_answer rest None e =
        all_middle P (with_answer c None) (map answered_call (filter_map receipt_in calls)) (map pending_call (filter_map waiting_in calls)) (subst (λ a. P (with_answer c a)) e all.0) rest
    by_answer rest (Some x) e = (subst (λ a. P (with_answer c a)) e all.0, rest)

-- and of each two
pub pairs_apart : (R : Call → Call → Type 0) → ((c d : Call) → R c d → R d c) → (calls : List Call) → ByPairs R calls → ByPairs R (calls_of (report_from calls))
pairs_apart R turned [] pairs = tt
pairs_apart R turned (c ∷ calls) pairs = by_answer (pairs_apart R turned calls pairs.1) (all_apart (R c) calls pairs.0) c.answer refl
  where
    by_answer : ByPairs R (calls_of (report_from calls)) → AllByRecursion (R c) (calls_of (report_from calls)) → (a : Option (Reply × ℕ)) → c.answer ≡ a
        → ByPairs R (map answered_call (cons_option (receipt_with c a) (filter_map receipt_in calls)) ++ map pending_call (cons_option (waiting_with c a) (filter_map waiting_in calls)))
    by_answer rest all None e =
        pairs_middle R turned (with_answer c None) (map answered_call (filter_map receipt_in calls)) (map pending_call (filter_map waiting_in calls))
        (subst (λ a. AllByRecursion (R (with_answer c a)) (calls_of (report_from calls))) e all) rest
    by_answer rest all (Some x) e = (subst (λ a. AllByRecursion (R (with_answer c a)) (calls_of (report_from calls))) e all, rest)

-- the calls of a kind began as their lines say
receipt_begin : (c : Call) (r : Receipt) → receipt_in c ≡ Some r → r.begin ≡ c.begin
receipt_begin c r e = by_answer c.answer e
  where
    by_answer : (a : Option (Reply × ℕ)) → receipt_with c a ≡ Some r → r.begin ≡ c.begin
    by_answer None e = absurd cc
    by_answer (Some x) e = cc

waiting_begin : (c : Call) (p : PendingCall) → waiting_in c ≡ Some p → p.begin ≡ c.begin
waiting_begin c p e = by_answer c.answer e
  where
    by_answer : (a : Option (Reply × ℕ)) → waiting_with c a ≡ Some p → p.begin ≡ c.begin
    by_answer None e = cc
    by_answer (Some x) e = absurd cc

module _ {X : Type 0} (kind : Call → Option X) (rank : X → ℕ) (begins : (c : Call) (x : X) → kind c ≡ Some x → rank x ≡ c.begin) where
  low_kind : (tick : ℕ) (calls : List Call) → IsBelowAll tick calls → AllByRecursion (λ x. tick ≤ rank x) (filter_map kind calls)
  low_kind tick [] below = tt
  low_kind tick (c ∷ calls) below = by_kind (low_kind tick calls below.1) (kind c) refl
    where
      by_kind : AllByRecursion (λ x. tick ≤ rank x) (filter_map kind calls) → (o : Option X) → kind c ≡ o → AllByRecursion (λ x. tick ≤ rank x) (cons_option o (filter_map kind calls))
      by_kind rest None e = rest
      by_kind rest (Some x) e = (omega (arith, begins c x e, below.0), rest)

  up_kind : (calls : List Call) → IsRising calls → IsUp rank (filter_map kind calls)
  up_kind [] rise = tt
  up_kind (c ∷ calls) rise = by_kind (up_kind calls rise.1) (kind c) refl
    where
      by_kind : IsUp rank (filter_map kind calls) → (o : Option X) → kind c ≡ o → IsUp rank (cons_option o (filter_map kind calls))
      by_kind rest None e = rest
      by_kind rest (Some x) e = (subst (λ n. AllByRecursion (λ y. n ≤ rank y) (filter_map kind calls)) (sym (begins c x e)) (low_kind c.begin calls rise.0), rest)

up_at : {X : Type 0} (rank : X → ℕ) (xs : List X) → IsUp rank xs → IsNonDecreasingBy rank xs
up_at rank [] up i j d before within = absurd (omega arith)
up_at rank (x ∷ xs) up zero zero d before within = le_refl (rank x)
up_at rank (x ∷ xs) up zero (suc j) d before within = All-from_recursion (λ y. rank x ≤ rank y) xs up.0 j d (omega arith)
up_at rank (x ∷ xs) up (suc i) zero d before within = absurd (omega arith)
up_at rank (x ∷ xs) up (suc i) (suc j) d before within = up_at rank xs up.1 i j d (omega arith) (omega arith)

differ_behind : (c : Call) (calls : List Call) → IsBelowAll c.begin calls → AllByRecursion (λ (d : Call). c.begin ≢ d.begin) calls
differ_behind c [] below = tt
differ_behind c (d ∷ calls) below = (λ same. omega (arith, below.0, same), differ_behind c calls below.1)

differ : (calls : List Call) → IsRising calls → ByPairs (λ c d. c.begin ≢ d.begin) calls
differ [] rise = tt
differ (c ∷ calls) rise = (differ_behind c calls rise.0, differ calls rise.1)

-- the report of calls in order can be written
pub can_write : (client : Client) (calls : List Call) (count : Option ℕ) → IfSome count (λ most. most ≤ 524280) → AreInOrder client [] calls → CanWrite (report_from calls) count
can_write client calls count few order =
    let rise = rising client [] calls order in
    record {
      receipts_in_order = up_at (λ (r : Receipt). r.begin) (filter_map receipt_in calls) (up_kind receipt_in (λ (r : Receipt). r.begin) receipt_begin calls rise);
      pending_in_order = up_at (λ (p : PendingCall). p.begin) (filter_map waiting_in calls) (up_kind waiting_in (λ (p : PendingCall). p.begin) waiting_begin calls rise);
      apart = pairs_from (λ c d. c.begin ≢ d.begin) (calls_of (report_from calls)) (pairs_apart (λ c d. c.begin ≢ d.begin) (λ c d other same. other (sym same)) calls (differ calls rise));
      printable = All-from_recursion IsPrintable (calls_of (report_from calls)) (all_apart IsPrintable calls (printable client [] calls order));
      overtaken = few;
    }
