-- The changes of a run, the newest first, and its history, the oldest first.
use Rattle.std.proofs.Common.{◌≡◌, ℕ, zero, suc, ◌-◌, ◌<◌, ◌≤◌, List, [], ◌∷◌, ◌++◌, map, take, drop, length, length-append, slice_get, Some, All, AllPairs, refl, sym, ap, subst, ◌∙◌, inl, inr, arith}
use Rattle.std.proofs.lemmas.Bool.{cases_order}
use Rattle.std.proofs.lemmas.List.{map-append, take-append-le, take_all}
use Rattle.std.proofs.lemmas.List.Elements.{All-append, All-cons, All-nil}
use Rattle.lin_report.specs.declared.calls.Op.{Op}
use Rattle.lin_report.specs.Object.{Object, held_after}
use Rattle.normal_traits.specs.World.{Change, first_changes}
use Rattle.normal_traits.specs.World as world
use Rattle.placing_law.specs.Placing.{IsChangeOf, held_at}
use Rattle.placing_law.specs.Placing as placing
use Rattle.run_laws.proofs.Pairs.{pairs_nil, pairs_one, pairs_append}
use Rattle.run_reports.specs.Endings.{StandsOver}
use Rattle.run_reports.specs.Placed.{placed, history_of}

pub length_history : (changes : List Change) → length (history_of changes) ≡ length changes
length_history [] = refl
length_history (change ∷ older) = omega (arith, length-append (history_of older) (placed change ∷ []), length_history older)

-- an element in front of others
get_in_front : {X : Type 0} (xs ys : List X) (k : ℕ) (x : X) → slice_get xs k ≡ Some x → slice_get (xs ++ ys) k ≡ Some x
get_in_front [] ys k x is = absurd cc
get_in_front (y ∷ xs) ys zero x is = is
get_in_front (y ∷ xs) ys (suc k) x is = get_in_front xs ys k x is

get_last : {X : Type 0} (xs : List X) (x : X) → slice_get (xs ++ x ∷ []) (length xs) ≡ Some x
get_last [] x = refl
get_last (y ∷ xs) x = get_last xs x

-- a change has as many before it in the history as there are older ones
pub at_place : (newer : List Change) (change : Change) (older : List Change) → slice_get (history_of (newer ++ change ∷ older)) (length older) ≡ Some (placed change)
at_place [] change older = subst (λ k. slice_get (history_of (change ∷ older)) k ≡ Some (placed change)) (length_history older) (get_last (history_of older) (placed change))
at_place (other ∷ newer) change older =
    get_in_front (history_of (newer ++ change ∷ older)) (placed other ∷ []) (length older) (placed change) (at_place newer change older)

-- the change at a place of the history
pub record IsAt (changes : List Change) (place : ℕ) : Type 0 where
  pub change : Change
  pub older : List Change
  pub stands : StandsOver changes change older
  pub place_is : length older ≡ place

pub change_at : (changes : List Change) (place : ℕ) → place < length changes → IsAt changes place
change_at [] place within = absurd (omega arith)
change_at (change ∷ older) place within = elim (cases_order place (length older)) [
  | inl even ↦ record { change = change; older = older; stands = ([], refl); place_is = sym even }
  | inr (inl less) ↦
      let there = change_at older place less in
      record { change = there.change; older = there.older; stands = (change ∷ there.stands.0, ap (λ cs. change ∷ cs) there.stands.1); place_is = there.place_is }
  | inr (inr more) ↦ absurd (omega arith)
]

-- ---- the first changes

pub first_of_older : (count : ℕ) (change : Change) (older : List Change) → count ≤ length older → first_changes count (change ∷ older) ≡ first_changes count older
first_of_older count change older within =
    let one : suc (length older) - count ≡ suc (length older - count) = omega (arith, within) in
    ap (λ n. drop n (change ∷ older)) one

pub first_all : (count : ℕ) (changes : List Change) → length changes ≤ count → first_changes count changes ≡ changes
first_all count changes within =
    let none : length changes - count ≡ 0 = omega (arith, within) in
    ap (λ n. drop n changes) none

pub first_older : (newer : List Change) (change : Change) (older : List Change) → first_changes (length older) (newer ++ change ∷ older) ≡ older
first_older [] change older = first_of_older (length older) change older (omega arith) ∙ first_all (length older) older (omega arith)
first_older (other ∷ newer) change older =
    first_of_older (length older) other (newer ++ change ∷ older) (omega (arith, length-append newer (change ∷ older))) ∙ first_older newer change older

take_front : (count : ℕ) (change : Change) (older : List Change) → count ≤ length older → take count (history_of older) ≡ history_of (first_changes count older)
    → take count (history_of (change ∷ older)) ≡ history_of (first_changes count (change ∷ older))
take_front count change older within is =
    take-append-le count (history_of older) (placed change ∷ []) (omega (arith, within, length_history older)) ∙ is
    ∙ ap history_of (sym (first_of_older count change older within))

pub take_history : (count : ℕ) (changes : List Change) → count ≤ length changes → take count (history_of changes) ≡ history_of (first_changes count changes)
take_history count [] within = take_all count [] (omega arith) ∙ ap history_of (sym (first_all count [] (omega arith)))
take_history count (change ∷ older) within = elim (cases_order count (length older)) [
  | inl even ↦ take_front count change older (omega (arith, even)) (take_history count older (omega (arith, even)))
  | inr (inl less) ↦ take_front count change older (omega (arith, less)) (take_history count older (omega (arith, less)))
  | inr (inr more) ↦
      take_all count (history_of (change ∷ older)) (omega (arith, more, length_history (change ∷ older)))
      ∙ ap history_of (sym (first_all count (change ∷ older) (omega (arith, more))))
]

-- ---- what is held

module _ (object : Object) where
  held_more : (held : object.Held) (ops : List Op) (op : Op) → held_after object held (ops ++ op ∷ []) ≡ (object.apply op (held_after object held ops)).0
  held_more held [] op = refl
  held_more held (first ∷ ops) op = held_more (object.apply first held).0 ops op

  pub held_history : (changes : List Change) → held_after object object.empty (map (λ (c : placing.ObjectChange). c.op) (history_of changes)) ≡ world.held_after object changes
  held_history [] = refl
  held_history (change ∷ older) =
      ap (held_after object object.empty) (map-append (λ (c : placing.ObjectChange). c.op) (history_of older) (placed change ∷ []))
      ∙ held_more object.empty (map (λ (c : placing.ObjectChange). c.op) (history_of older)) change.list.call.op
      ∙ ap (λ held. (object.apply change.list.call.op held).0) (held_history older)

  pub held_first : (count : ℕ) (changes : List Change) → count ≤ length changes → held_at object (history_of changes) count ≡ world.held_after object (first_changes count changes)
  held_first count changes within =
      ap (λ history. held_after object object.empty (map (λ (c : placing.ObjectChange). c.op) history)) (take_history count changes within)
      ∙ held_history (first_changes count changes)

  pub held_before : (newer : List Change) (change : Change) (older : List Change) → held_at object (history_of (newer ++ change ∷ older)) (length older) ≡ world.held_after object older
  held_before newer change older =
      held_first (length older) (newer ++ change ∷ older) (omega (arith, length-append newer (change ∷ older)))
      ∙ ap (world.held_after object) (first_older newer change older)

-- ---- what holds of each change, and of each two

pub each_placed : (P : placing.ObjectChange → Type 0) (changes : List Change) → ((change : Change) (older : List Change) → StandsOver changes change older → P (placed change)) → All P (history_of changes)
each_placed P [] each = All-nil P
each_placed P (change ∷ older) each =
    All-append P (history_of older) (placed change ∷ [])
    (each_placed P older (λ mate rest stands. each mate rest (change ∷ stands.0, ap (λ cs. change ∷ cs) stands.1)))
    (All-cons P (placed change) [] (each change older ([], refl)) (All-nil P))

-- no change is of a call whose change came before it
pub placed_once : (changes : List Change)
    → ((change mate : Change) (older rest : List Change) → StandsOver changes change older → StandsOver older mate rest → change.list.call.seat ≡ mate.list.call.seat → ¬ (change.list.call.number ≡ mate.list.call.number))
    → AllPairs (λ (earlier later : placing.ObjectChange). ¬ IsChangeOf earlier later.seat later.number) (history_of changes)
placed_once [] once = pairs_nil (λ (earlier later : placing.ObjectChange). ¬ IsChangeOf earlier later.seat later.number)
placed_once (change ∷ older) once =
    let R : placing.ObjectChange → placing.ObjectChange → Type 0 = λ earlier later. ¬ IsChangeOf earlier later.seat later.number in
    pairs_append R (history_of older) (placed change ∷ [])
    (placed_once older (λ one mate rest last stands over. once one mate rest last (change ∷ stands.0, ap (λ cs. change ∷ cs) stands.1) over))
    (pairs_one R (placed change))
    (each_placed (λ earlier. All (R earlier) (placed change ∷ [])) older
    (λ mate rest stands. All-cons (R (placed mate)) (placed change) [] (λ of. once change mate older rest ([], refl) stands (sym of.0) (sym of.1)) (All-nil (R (placed mate)))))
