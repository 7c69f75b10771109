-- The rule of the table: its words are those of a run, and each live view has what that run gave its seat.
use Rattle.std.specs.Prelude.{◌≡◌, ◌≢◌, ℕ, ◌<◌, ◌≤◌, true, List, [], slice_get, Some}
use mathlib.Core.Option.{some}
use lib.ListN.{get_elem?}
use Rattle.atomic_table.specs.Table.{State}
use Rattle.lin_report.specs.declared.calls.Receipt.{Receipt}
use Rattle.normal_traits.specs.NormalForm.{NormalForm}
use Rattle.fast_slow_engine.specs.declared.setup.Setup.{Setup}
use Rattle.fast_slow_engine.specs.Mechs.{Mech}
use Rattle.fast_slow_engine.specs.PhaseTable.{mech_new, rests}
use Rattle.fast_slow_engine.specs.Runs.{Move, RunState, AreMoves, run_of}
use Rattle.move_orders.specs.SeatLines.{lines_of}
use Rattle.shared_memory.specs.declared.view.View.{View}
use Rattle.shared_memory.specs.declared.view.Gathered.{Gathered}

-- the run gave the seat this machine and these lines
pub record HasSeat {S W : Type 0} (state : RunState S W) (seat : ℕ) (mech : Mech S W) (receipts : List Receipt) : Type 0 where
  pub machine : slice_get state.mechs seat ≡ Some mech
  pub lines : lines_of seat state.receipts ≡ receipts

-- the run gave the seat these lines, and no call of it runs
pub record Rests {S W : Type 0} (state : RunState S W) (seat : ℕ) (receipts : List Receipt) : Type 0 where
  pub mech : Mech S W
  pub has : HasSeat state seat mech receipts
  pub idle : rests mech.phase ≡ true

module _ {C S W : Type 0} where
  -- the live view at place j has what the run gave its seat, and of each seat that was gathered into it, which
  -- rests, what it gave that one. `owner` says which view has a seat, so no seat stands in two views or twice in
  -- one. Seats 0 to `made` are there, and the view at place `rooted` counts them
  pub record Fits (setup : Setup) (state : RunState S W) (owner : ℕ → ℕ) (made rooted j : ℕ) (v : View C S W) : Type 0 where
    pub of_run : v.machine.setup ≡ setup
    pub mine : owner v.machine.seat ≡ j
    pub low : v.machine.seat ≤ made
    pub has : HasSeat state v.machine.seat v.machine v.receipts
    pub others : (k : ℕ) (g : Gathered) → get_elem? v.gathered k ≡ some g → (owner g.seat ≡ j) × (g.seat ≢ v.machine.seat) × (g.seat ≤ made) × Rests state g.seat g.receipts
    pub root : v.root ≡ true → (rooted ≡ j) × (v.made ≡ made)

  -- moves that can follow each other leave exactly these words, each live view fits them, and the seats that
  -- were not split off yet made no call
  pub record Kept (form : NormalForm S W) (setup : Setup) (s : State (Unit {0}) (View C S W)) : Type 0 where
    pub moves : List Move
    pub are : AreMoves form setup moves
    pub words : (run_of form setup moves).words ≡ s.words
    pub made : ℕ
    pub rooted : ℕ
    pub owner : ℕ → ℕ
    pub fits : (j : ℕ) (v : View C S W) → get_elem? s.views j ≡ some v → v.live ≡ true → Fits setup (run_of form setup moves) owner made rooted j v
    pub fresh_above : (seat : ℕ) → made < seat → seat < setup.seats → HasSeat (run_of form setup moves) seat (mech_new seat setup) []
