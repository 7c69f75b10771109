-- What is known once the table is closed.
use Rattle.std.specs.Prelude.{◌≡◌, ◌≢◌, ℕ, ◌<◌, ◌≤◌, ◌==◌, if◌then◌else◌, true, List, [], ◌∷◌, slice_index}
use mathlib.Core.Option.{some}
use lib.ListN.{get_elem?}
use Rattle.lin_report.specs.declared.calls.Receipt.{Receipt}
use Rattle.node_arena.specs.declared.places.TheConstants.{TICKS, CLAIMS}
use Rattle.normal_traits.specs.NormalForm.{NormalForm}
use Rattle.fast_slow_engine.specs.Runs.{Move, AreMoves, run_of}
use Rattle.shared_memory.specs.declared.view.View.{View}
use Rattle.shared_memory.specs.declared.view.Gathered.{Gathered}
use Rattle.shared_memory.specs.Rule.{Rests}

-- the lines that gathered seats have of a seat
abbrev pub lines_among : List Gathered → ℕ → List Receipt
lines_among [] seat = []
lines_among (g ∷ gs) seat = if g.seat == seat then g.receipts else lines_among gs seat

module _ {C S W : Type 0} where
  -- the lines that a view has of a seat, its own or gathered
  abbrev pub lines_in : View C S W → ℕ → List Receipt
  lines_in v seat = lines_among (record { seat = v.machine.seat; receipts = v.receipts } ∷ v.gathered) seat

  -- the view counts the seats that were split off, and each of them is its own or was gathered into it
  pub record IsWhole (v : View C S W) : Type 0 where
    pub root : v.root ≡ true
    pub each : (seat : ℕ) → seat ≤ v.made → seat ≢ v.machine.seat → (i : ℕ) × (g : Gathered) × (get_elem? v.gathered i ≡ some g) × (g.seat ≡ seat)

  -- some run has these two counters, and each seat at rest with the lines that the view has of it
  pub record Closes (form : NormalForm S W) (v : View C S W) (ticks claimed : ℕ) : Type 0 where
    pub moves : List Move
    pub are : AreMoves form v.machine.setup moves
    pub drawn : slice_index (run_of form v.machine.setup moves).words TICKS ≡ ticks
    pub asked : slice_index (run_of form v.machine.setup moves).words CLAIMS ≡ claimed
    pub rest : (seat : ℕ) → seat < v.machine.setup.seats → Rests (run_of form v.machine.setup moves) seat (lines_in v seat)
