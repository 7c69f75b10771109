-- The values that calls are told are in range in every run: so it is at the opening, and each move keeps it.
use Rattle.std.proofs.Common.{◌≡◌, sym, subst, List, [], ◌∷◌, slice_get, Some}
use Rattle.normal_traits.specs.NormalForm.{NormalForm}
use Rattle.normal_traits.specs.Laws.{Laws}
use Rattle.fast_slow_engine.specs.declared.setup.Setup.{Setup}
use Rattle.fast_slow_engine.specs.Mechs.{Mech}
use Rattle.fast_slow_engine.specs.Runs.{AreMoves, Move, run_of}
use Rattle.kept_knowledge.specs.RunGhosts.{world_of}
use Rattle.kept_knowledge.specs.Kept.{IsKept}
use Rattle.kept_knowledge.proofs.Words.Opens.{world_opens}
use Rattle.kept_knowledge.proofs.InRuns.Leaves.{allowed}
use Rattle.run_invariant.proofs.Tells.Values.{AnswersWell, answers_kept, answers_open}

module _ {S W : Type 0} (form : NormalForm S W) where
  pub run_answers_open : (setup : Setup) → AnswersWell form (world_of form setup [])
  run_answers_open setup = subst (AnswersWell form) (sym (world_opens form setup)) (answers_open form)

  module _ (laws : Laws form) (setup : Setup) (older : List Move) (move : Move) (mech : Mech S W) (are : AreMoves form setup (move ∷ older)) (at : slice_get (run_of form setup older).mechs move.seat ≡ Some mech)
      (kept : IsKept form setup older) where
    pub answers_after : AnswersWell form (world_of form setup older) → AnswersWell form (world_of form setup (move ∷ older))
    answers_after = answers_kept form laws (world_of form setup older) (world_of form setup (move ∷ older)) kept.holds.shape (allowed form laws setup older move mech are at kept)
