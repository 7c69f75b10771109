-- The changes of a run by its ticks.
use Rattle.std.specs.Prelude.{ℕ, nat_lt, if◌then◌else◌, List, [], ◌∷◌, length, slice_index}
use Rattle.node_arena.specs.declared.places.TheConstants.{TICKS}
use Rattle.normal_traits.specs.NormalForm.{NormalForm}
use Rattle.fast_slow_engine.specs.declared.setup.Setup.{Setup}
use Rattle.fast_slow_engine.specs.Runs.{Move, run_of}
use Rattle.run_exchanges.specs.RunGhosts.{ghost_of}

module _ {S W : Type 0} (form : NormalForm S W) where
  -- how many changes there were when a tick was drawn, or are now where it wasn't drawn yet
  abbrev pub changes_at : Setup → List Move → ℕ → ℕ
  changes_at setup [] tick = 0
  changes_at setup (move ∷ older) tick =
      if nat_lt tick (slice_index (run_of form setup (move ∷ older)).words TICKS) then changes_at setup older tick
      else length (ghost_of form setup (move ∷ older)).changes
