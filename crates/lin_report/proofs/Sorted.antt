-- Calls put in rising order of begin are the same calls, and they rise.
use Rattle.std.proofs.Common.{◌≡◌, ℕ, zero, suc, ◌<◌, ◌≤◌, List, [], ◌∷◌, true, false, nat_lt, cond, length, get_or, IsPermutation, ltb-true, ltb-false, le_refl, refl, arith}
use Rattle.std.specs.List.{AllByRecursion}
use Rattle.std.proofs.lemmas.List.Elements.{All-from_recursion}
use Rattle.std.proofs.lemmas.List.Sorted.{IsPermutation-trans, IsPermutation-cons, IsPermutation-middle}
use Rattle.lin_report.specs.Calls.{Call}
use Rattle.lin_report.specs.Text.{insert_call, by_begin, ByBeginSorts}

-- each call began no later than each one behind it
abbrev IsRising : List Call → Type 0
IsRising [] = Unit {0}
IsRising (c ∷ calls) = AllByRecursion (λ (d : Call). c.begin ≤ d.begin) calls × IsRising calls

from_on : (low tick : ℕ) (calls : List Call) → low ≤ tick → AllByRecursion (λ (d : Call). tick ≤ d.begin) calls → AllByRecursion (λ (d : Call). low ≤ d.begin) calls
from_on low tick [] under rise = tt
from_on low tick (d ∷ calls) under rise = (omega (arith, rise.0), from_on low tick calls under rise.1)

insert_from : (low : ℕ) (c : Call) (calls : List Call) → low ≤ c.begin → AllByRecursion (λ (d : Call). low ≤ d.begin) calls → AllByRecursion (λ (d : Call). low ≤ d.begin) (insert_call c calls)
insert_from low c [] first rise = (first, tt)
insert_from low c (d ∷ calls) first rise =
    elim (nat_lt d.begin c.begin) as (λ b. AllByRecursion (λ (e : Call). low ≤ e.begin) (cond b (d ∷ insert_call c calls) (c ∷ d ∷ calls))) [
      | true ↦ (rise.0, insert_from low c calls first rise.1)
      | false ↦ (first, rise)
    ]

IsRising-insert : (c : Call) (calls : List Call) → IsRising calls → IsRising (insert_call c calls)
IsRising-insert c [] rise = (tt, tt)
IsRising-insert c (d ∷ calls) rise =
    elim (nat_lt d.begin c.begin) as (λ b. nat_lt d.begin c.begin ≡ b → IsRising (cond b (d ∷ insert_call c calls) (c ∷ d ∷ calls))) [
      | true ↦ λ below. (insert_from d.begin c calls (omega (arith, ltb-true d.begin c.begin below)) rise.0, IsRising-insert c calls rise.1)
      | false ↦ λ above. ((ltb-false d.begin c.begin above, from_on c.begin d.begin calls (ltb-false d.begin c.begin above) rise.0), rise)
    ] refl

rising_at : (calls : List Call) → IsRising calls → (i j : ℕ) (d : Call) → i ≤ j → j < length calls → (get_or calls i d).begin ≤ (get_or calls j d).begin
rising_at [] rise i j d before within = absurd (omega arith)
rising_at (c ∷ calls) rise zero zero d before within = le_refl c.begin
rising_at (c ∷ calls) rise zero (suc j) d before within = All-from_recursion (λ (e : Call). c.begin ≤ e.begin) calls rise.0 j d (omega arith)
rising_at (c ∷ calls) rise (suc i) zero d before within = absurd (omega arith)
rising_at (c ∷ calls) rise (suc i) (suc j) d before within = rising_at calls rise.1 i j d (omega arith) (omega arith)

rising : (calls : List Call) → IsRising (by_begin calls)
unfolding by_begin
rising [] = tt
rising (c ∷ calls) = IsRising-insert c (by_begin calls) (rising calls)

IsPermutation-insert : (c : Call) (calls : List Call) → IsPermutation (c ∷ calls) (insert_call c calls)
IsPermutation-insert c [] = record { moves = []; below = tt; is = refl }
IsPermutation-insert c (d ∷ calls) =
    elim (nat_lt d.begin c.begin) as (λ b. IsPermutation (c ∷ d ∷ calls) (cond b (d ∷ insert_call c calls) (c ∷ d ∷ calls))) [
      | true ↦ IsPermutation-trans _ _ _ (IsPermutation-middle (c ∷ []) d calls) (IsPermutation-cons d _ _ (IsPermutation-insert c calls))
      | false ↦ record { moves = []; below = tt; is = refl }
    ]

moved : (calls : List Call) → IsPermutation calls (by_begin calls)
unfolding by_begin
moved [] = record { moves = []; below = tt; is = refl }
moved (c ∷ calls) = IsPermutation-trans _ _ _ (IsPermutation-cons c _ _ (moved calls)) (IsPermutation-insert c (by_begin calls))

pub by_begin_sorts : ByBeginSorts
by_begin_sorts calls = (moved calls, rising_at (by_begin calls) (rising calls))
