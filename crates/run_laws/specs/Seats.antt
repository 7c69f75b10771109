-- Every seat keeps its machine, and its number counts its calls.
use Rattle.std.specs.Prelude.{◌≡◌, ℕ, ◌+◌, ◌==◌, ◌&&◌, if◌then◌else◌, List, ◌∷◌, length, slice_get, Some, is_some}
use Rattle.normal_traits.specs.NormalForm.{NormalForm}
use Rattle.fast_slow_engine.specs.declared.setup.Setup.{Setup}
use Rattle.fast_slow_engine.specs.Mechs.{Mech}
use Rattle.fast_slow_engine.specs.Runs.{Move, RunState, AreMoves, run_of}

-- the machine is that of the seat at this place of the run; every law of one seat's calls stands on it
pub record IsMechOf {S W : Type 0} (run : Setup) (place : ℕ) (mech : Mech S W) : Type 0 where
  pub seat : mech.seat ≡ place
  pub setup : mech.setup ≡ run

-- what holds of the machine of each seat
abbrev pub EachMech : {S W : Type 0} → (ℕ → Mech S W → Type 0) → List (Mech S W) → Type 0
EachMech P mechs = (seat : ℕ) (mech : Mech _ _) → slice_get mechs seat ≡ Some mech → P seat mech

-- there is a machine for each seat of the run
pub record IsSeated {S W : Type 0} (setup : Setup) (state : RunState S W) : Type 0 where
  pub count : length state.mechs ≡ setup.seats
  pub own : EachMech (IsMechOf setup) state.mechs

-- how many calls of a seat a move begins
abbrev pub calls_begun : ℕ → Move → ℕ
calls_begun seat move = if move.seat == seat && is_some move.begins then 1 else 0

module _ {S W : Type 0} (form : NormalForm S W) where
  -- every run has a machine for each seat
  abbrev pub SeatsStay : Type 0
  SeatsStay = (setup : Setup) (moves : List Move) → AreMoves form setup moves → IsSeated setup (run_of form setup moves)

  -- the number of a seat's machine counts the calls that moves begin
  abbrev pub NumbersCount : Type 0
  NumbersCount =
      (setup : Setup) (older : List Move) (move : Move) (seat : ℕ) (before after : Mech S W) → AreMoves form setup (move ∷ older)
      → slice_get (run_of form setup older).mechs seat ≡ Some before → slice_get (run_of form setup (move ∷ older)).mechs seat ≡ Some after
      → after.number ≡ before.number + calls_begun seat move
