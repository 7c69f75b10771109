-- A move that a seat has over its file stays its move where a file grows at its end.
use Rattle.std.proofs.Common.{rules, ◌≡◌, ◌∙◌, refl, subst, ap, ℕ, zero, suc, Bool, true, false, List, [], ◌∷◌, ◌++◌, slice_get, Option, Some, None, option_map}
use Rattle.lin_report.specs.declared.calls.Op.{Op}
use Rattle.fast_slow_engine.specs.Mechs.{Mech}
use Rattle.fast_slow_engine.specs.PhaseTable.{rests}
use Rattle.fast_slow_engine.specs.Runs.{Move, RunState, move_of_seat, move_over, next_move}
use Rattle.event_core.specs.Submissions.{grown}

-- each command of a file stands at its place in another one
abbrev pub Extends : List Op → List Op → Type 0
Extends file longer = (i : ℕ) (op : Op) → slice_get file i ≡ Some op → slice_get longer i ≡ Some op

last_extends : (file : List Op) (op : Op) → Extends file (file ++ op ∷ [])
last_extends [] op i x h = absurd (search rules)
last_extends (y ∷ file) op zero x h = h
last_extends (y ∷ file) op (suc i) x h = last_extends file op i x h

-- a file that there was is there, and extended
file_grown : (files : List (List Op)) (seat : ℕ) (op : Op) (i : ℕ) (file : List Op) → slice_get files i ≡ Some file → (longer : List Op) × (slice_get (grown seat op files) i ≡ Some longer) × Extends file longer
file_grown [] seat op i file at = absurd (search rules)
file_grown (x ∷ files) zero op zero file at = (x ++ op ∷ [], refl, subst (λ o. (j : ℕ) (y : Op) → slice_get o j ≡ Some y → slice_get (x ++ op ∷ []) j ≡ Some y) (let e : x ≡ file = search rules in e) (last_extends x op))
file_grown (x ∷ files) zero op (suc i) file at = (file, at, λ j y h. h)
file_grown (x ∷ files) (suc seat) op zero file at = (file, at, λ j y h. h)
file_grown (x ∷ files) (suc seat) op (suc i) file at = file_grown files seat op i file at

begins_still : (i : ℕ) (o longer : Option Op) (move : Move) → ((op : Op) → o ≡ Some op → longer ≡ Some op)
    → option_map {U = Move} (λ op. record { seat = i; begins = Some op }) o ≡ Some move → option_map {U = Move} (λ op. record { seat = i; begins = Some op }) longer ≡ Some move
begins_still i None longer move stays h = absurd (search rules)
begins_still i (Some op) longer move stays h = ap (option_map {U = Move} (λ x. record { seat = i; begins = Some x })) (stays op refl) ∙ h

module _ {S W : Type 0} where
  over_still : (i : ℕ) (file longer : List Op) (b : Bool) (mech : Mech S W) (move : Move) → Extends file longer → move_over i file b mech ≡ Some move → move_over i longer b mech ≡ Some move
  over_still i file longer true mech move extends h = begins_still i (slice_get file mech.number) (slice_get longer mech.number) move (λ op at. extends mech.number op at) h
  over_still i file longer false mech move extends h = h

  seat_still : (i : ℕ) (mech : Option (Mech S W)) (file longer : Option (List Op)) (move : Move)
      → ((f : List Op) → file ≡ Some f → (g : List Op) × (longer ≡ Some g) × Extends f g)
      → move_of_seat i mech file ≡ Some move → move_of_seat i mech longer ≡ Some move
  seat_still i None file longer move is h = absurd (search rules)
  seat_still i (Some mech) None longer move is h = absurd (search rules)
  seat_still i (Some mech) (Some f) longer move is h =
      let g = is f refl in
      ap (move_of_seat i (Some mech)) g.1 ∙ over_still i f g.0 (rests mech.phase) mech move g.2 h

  -- the move of a seat is its move over files one of which has grown
  pub move_stays : (files : List (List Op)) (seat : ℕ) (op : Op) (i : ℕ) (state : RunState S W) (move : Move) → next_move files i state ≡ Some move → next_move (grown seat op files) i state ≡ Some move
  move_stays files seat op i state move h = seat_still i (slice_get state.mechs i) (slice_get files i) (slice_get (grown seat op files) i) move (file_grown files seat op i) h
