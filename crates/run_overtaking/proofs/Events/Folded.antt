-- The events of a run, as a fold over its moves.
use Rattle.std.proofs.Common.{◌≡◌, ◌∙◌, refl, ap, List, [], ◌∷◌, ◌++◌, slice_get, Option, Some, None, append-nil}
use Rattle.lin_report.specs.declared.events.Event.{Event}
use Rattle.step_memory.specs.Step.{words_after}
use Rattle.normal_traits.specs.NormalForm.{NormalForm}
use Rattle.fast_slow_engine.specs.declared.setup.Setup.{Setup}
use Rattle.fast_slow_engine.specs.Events.{step_events}
use Rattle.fast_slow_engine.specs.Mechs.{Mech}
use Rattle.fast_slow_engine.specs.PhaseTable.{mech_request}
use Rattle.fast_slow_engine.specs.Runs.{Move, RunState, begun, moved_by, run_of}

module _ {S W : Type 0} (form : NormalForm S W) where
  -- the events of a move
  abbrev pub events_moved : Option (Mech S W) → Move → RunState S W → List Event
  events_moved None move state = []
  events_moved (Some mech) move state = step_events (begun move.begins mech) state.words (words_after (mech_request form (begun move.begins mech)) state.words)

  -- the events of moves, the newest move first and the newest event last
  abbrev pub events_of : Setup → List Move → List Event
  events_of setup [] = []
  events_of setup (move ∷ older) = let state = run_of form setup older in events_of setup older ++ events_moved (slice_get state.mechs move.seat) move state

  moved_events : (move : Move) (state : RunState S W) (o : Option (Mech S W)) → state.events ++ events_moved o move state ≡ (moved_by form o move state).events
  moved_events move state None = append-nil state.events
  moved_events move state (Some old) = refl

  -- they are the events of the run
  pub events_are : (setup : Setup) (moves : List Move) → events_of setup moves ≡ (run_of form setup moves).events
  events_are setup [] = refl
  events_are setup (move ∷ older) =
      let state = run_of form setup older in
      ap (λ es. es ++ events_moved (slice_get state.mechs move.seat) move state) (events_are setup older) ∙ moved_events move state (slice_get state.mechs move.seat)
