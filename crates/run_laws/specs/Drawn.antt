-- The move that drew a tick.
use Rattle.std.specs.Prelude.{◌≡◌, ℕ, ◌+◌, List, ◌∷◌, ◌++◌, slice_index}
use Rattle.node_arena.specs.declared.places.TheConstants.{TICKS}
use Rattle.normal_traits.specs.NormalForm.{NormalForm}
use Rattle.fast_slow_engine.specs.declared.setup.Setup.{Setup}
use Rattle.fast_slow_engine.specs.Runs.{Move, run_of}

-- the run came to this move after those older ones, found the tick in the counter, and left one more there; so a
-- tick of a line names a moment of the run, and what is said of the line is said of that moment
pub record IsDrawnAt {S W : Type 0} (form : NormalForm S W) (setup : Setup) (moves : List Move) (tick : ℕ) (move : Move) (older : List Move) : Type 0 where
  pub newer : List Move
  pub made : moves ≡ newer ++ move ∷ older
  pub before : slice_index (run_of form setup older).words TICKS ≡ tick
  pub after : slice_index (run_of form setup (move ∷ older)).words TICKS ≡ tick + 1
