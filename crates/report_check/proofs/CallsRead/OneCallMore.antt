-- A call more among those of which the last of each seat and the ticks are kept.
use Rattle.std.proofs.Common.{◌≡◌, ◌≢◌, ℕ, ◌<◌, Bool, true, false, cond, eqb, ◌||◌, Option, Some, None, List, [], ◌∷◌, ◌++◌, length, get_or, refl, sym, ap, ◌∙◌, arith}
use Rattle.std.specs.Option.{option_map}
use Rattle.std.specs.List.{list_any}
use Rattle.std.proofs.Math.ListN.{set, length-set}
use Rattle.std.proofs.lemmas.Bool.{eqb-true, eq-eqb}
use Rattle.std.proofs.lemmas.List.{get_or-set_other}
use Rattle.std.proofs.lemmas.List.Folds.{list_any-append}
use Rattle.std.proofs.lemmas.Grind.{get_or-set_at}
use Rattle.lin_report.specs.Calls.{Call}
use Rattle.report_check.specs.declared.call_lines.CallLine.{CallLine}
use Rattle.report_check.specs.CallLines.{call_of}
use Rattle.report_check.specs.Beginnings.{last_from, last_line, has_tick, ends_at, SEATS, TICKS, Knows}

-- the last of a seat, and of all, behind a call more
pub last_from_more : (seat : ℕ) (found : Option Call) (before : List Call) (c : Call)
    → last_from seat found (before ++ c ∷ []) ≡ cond (eqb c.seat seat) (Some c) (last_from seat found before)
last_from_more seat found [] c = refl
last_from_more seat found (d ∷ before) c = last_from_more seat (cond (eqb d.seat seat) (Some d) found) before c

pub last_line_more : (found : Option Call) (before : List Call) (c : Call) → last_line found (before ++ c ∷ []) ≡ Some c
last_line_more found [] c = refl
last_line_more found (d ∷ before) c = last_line_more (Some d) before c

differs : (a b : ℕ) → eqb a b ≡ false → b ≢ a
differs a b e same = let test = eq-eqb a b (sym same) in absurd cc

with_begin : (end before : Bool) → (end || true) ≡ (before || ((true || end) || false))
with_begin true true = refl
with_begin true false = refl
with_begin false true = refl
with_begin false false = refl

without_begin : (end before : Bool) → (end || before) ≡ (before || ((false || end) || false))
without_begin true true = refl
without_begin true false = refl
without_begin false true = refl
without_begin false false = refl

pub kept : (before : List Call) (l : CallLine) (last : List (Option CallLine)) (ticks drawn : List Bool) → l.seat < SEATS → l.begin < TICKS → length drawn ≡ TICKS
    → ((tick : ℕ) → get_or drawn tick false ≡ (ends_at l.answer tick || get_or (set ticks l.begin true) tick false))
    → Knows before last ticks → Knows (before ++ call_of l ∷ []) (set last l.seat (Some l)) drawn
kept before l last ticks drawn seat begin long marks knows = record {
  seats = length-set last l.seat (Some l) ∙ knows.seats;
  long = long;
  last_is = λ place lt. last_by place lt (eqb l.seat place) refl ∙ sym (last_from_more place None before (call_of l));
  drawn = λ tick lt. marks tick ∙ drawn_by tick lt (eqb l.begin tick) refl ∙ sym (list_any-append (has_tick tick) before (call_of l ∷ []));
}
  where
    last_by : (place : ℕ) → place < SEATS → (b : Bool) → eqb l.seat place ≡ b
        → option_map call_of (get_or (set last l.seat (Some l)) place None) ≡ cond b (Some (call_of l)) (last_from place None before)
    last_by place lt true e = ap (option_map call_of) (get_or-set_at last l.seat place (Some l) None (sym (eqb-true l.seat place e)) (omega (arith, knows.seats, seat)))
    last_by place lt false e = ap (option_map call_of) (get_or-set_other last l.seat place (Some l) None (differs l.seat place e)) ∙ knows.last_is place lt

    drawn_by : (tick : ℕ) → tick < TICKS → (b : Bool) → eqb l.begin tick ≡ b
        → (ends_at l.answer tick || get_or (set ticks l.begin true) tick false) ≡ (list_any (has_tick tick) before || ((b || ends_at l.answer tick) || false))
    drawn_by tick lt true e =
        ap (λ b. ends_at l.answer tick || b) (get_or-set_at ticks l.begin tick true false (sym (eqb-true l.begin tick e)) (omega (arith, knows.long, begin)))
        ∙ with_begin (ends_at l.answer tick) (list_any (has_tick tick) before)
    drawn_by tick lt false e =
        ap (λ b. ends_at l.answer tick || b) (get_or-set_other ticks l.begin tick true false (differs l.begin tick e) ∙ knows.drawn tick lt)
        ∙ without_begin (ends_at l.answer tick) (list_any (has_tick tick) before)
