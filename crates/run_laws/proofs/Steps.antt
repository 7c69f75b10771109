-- A move steps the machine of its seat, and the machines of the other seats stay.
use Rattle.std.proofs.Common.{◌≡◌, ◌≢◌, ◌∙◌, refl, sym, subst, ap, ℕ, zero, suc, ◌<◌, List, [], ◌∷◌, length, length-set, get_or-set_same, slice_get, slice_set, Some, inl, inr}
use Rattle.std.proofs.lemmas.Bool.{cases_eq}
use Rattle.std.proofs.lemmas.Option.{slice_get-get_or, slice_get_within}
use Rattle.normal_traits.specs.NormalForm.{NormalForm}
use Rattle.fast_slow_engine.specs.Mechs.{Mech}
use Rattle.fast_slow_engine.specs.Runs.{Move, RunState, begun, moved_by, run_step, stepped_by}
use Rattle.run_laws.specs.Seats.{EachMech}

-- a place that was written reads what was written, and the others stay
pub at_set : {A : Type 0} (xs : List A) (i : ℕ) (y : A) → i < length xs → slice_get (slice_set xs i y) i ≡ Some y
at_set xs i y inside =
    slice_get-get_or (slice_set xs i y) i y (subst (λ n. i < n) (sym (length-set xs i y)) inside) ∙ ap Some (get_or-set_same xs i y y inside)

pub beside_set : {A : Type 0} (xs : List A) (i j : ℕ) (y : A) → j ≢ i → slice_get (slice_set xs i y) j ≡ slice_get xs j
beside_set [] i j y apart = refl
beside_set (x ∷ xs) zero zero y apart = absurd (apart refl)
beside_set (x ∷ xs) zero (suc j) y apart = refl
beside_set (x ∷ xs) (suc i) zero y apart = refl
beside_set (x ∷ xs) (suc i) (suc j) y apart = beside_set xs i j y (λ e. apart (ap suc e))

pub some_same : {A : Type 0} (x y : A) → Some x ≡ Some y → x ≡ y
some_same x y e = cc

module _ {S W : Type 0} where
  -- what holds of each machine holds of each after a step of one, if it holds of that one
  pub each_set : (P Q : ℕ → Mech S W → Type 0) (mechs : List (Mech S W)) (i : ℕ) (old new : Mech S W) → slice_get mechs i ≡ Some old
      → EachMech P mechs → ((seat : ℕ) (mech : Mech S W) → P seat mech → Q seat mech) → Q i new → EachMech Q (slice_set mechs i new)
  each_set P Q mechs i old new at each keeps this seat mech found =
      elim (cases_eq seat i) [
        | inl same ↦ subst (λ k. Q k mech) (sym same) (subst (Q i) (some_same new mech (sym (at_set mechs i new (slice_get_within mechs i old at)) ∙ subst (λ k. slice_get (slice_set mechs i new) k ≡ Some mech) same found)) this)
        | inr apart ↦ keeps seat mech (each seat mech (sym (beside_set mechs i seat new apart) ∙ found))
      ]

  module _ (form : NormalForm S W) where
    -- a move is a step of its machine
    pub move_steps : (state : RunState S W) (move : Move) (mech : Mech S W) → slice_get state.mechs move.seat ≡ Some mech
        → run_step form state move ≡ stepped_by form move.seat (begun move.begins mech) state
    move_steps state move mech at = ap (λ o. moved_by form o move state) at
