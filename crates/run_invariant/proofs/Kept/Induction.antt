-- So it holds of every run: it holds where a run opens, and each move keeps it, together with what the changes answer, on which
-- rests that the values which calls are told are in range.
use Rattle.std.proofs.Common.{List, [], ◌∷◌}
use Rattle.normal_traits.specs.NormalForm.{NormalForm}
use Rattle.normal_traits.specs.Laws.{Laws}
use Rattle.fast_slow_engine.specs.declared.setup.Setup.{Setup}
use Rattle.fast_slow_engine.specs.Runs.{AreMoves, Move}
use Rattle.kept_knowledge.specs.RunGhosts.{world_of}
use Rattle.kept_knowledge.specs.Kept.{IsKept, MovesKeep, RunsAreKept}
use Rattle.kept_knowledge.proofs.Counted.Opening.{opening_kept}
use Rattle.run_invariant.proofs.Kept.Moves.{move_keeps}
use Rattle.run_invariant.proofs.Tells.RunAnswers.{answers_after, run_answers_open}
use Rattle.run_invariant.proofs.Tells.Values.{AnswersWell}

module _ {S W : Type 0} (form : NormalForm S W) (laws : Laws form) where
  -- every run is kept, and its changes answer well
  all_keep : (setup : Setup) (moves : List Move) → AreMoves form setup moves → IsKept form setup moves × AnswersWell form (world_of form setup moves)
  all_keep setup [] are = (opening_kept form laws setup, run_answers_open form setup)
  all_keep setup (move ∷ older) are =
      let old = all_keep setup older are.0 in (
        move_keeps form laws setup older move are old.0 old.1,
        answers_after form laws setup older move are.1.mech are are.1.seated old.0 old.1,
      )

  pub runs_are_kept : RunsAreKept form
  runs_are_kept setup moves are = (all_keep setup moves are).0

  -- of each move alone: the moves before it are a run, whose changes answer well
  pub moves_keep : MovesKeep form
  moves_keep setup older move are kept = move_keeps form laws setup older move are kept (all_keep setup older are.0).1
