-- In every run the changes are of commands and have the replies of the object, so no right outcome is Exhausted.
use Rattle.std.proofs.Common.{◌≡◌, ◌∙◌, ℕ, sym, List, [], ◌∷◌}
use Rattle.lin_report.specs.declared.calls.Op.{Op}
use Rattle.lin_report.specs.declared.calls.Outcome.TheVariants.{Plain}
use Rattle.lin_report.specs.declared.calls.Reply.{Reply}
use Rattle.lin_report.specs.declared.calls.Reply.TheVariants.{Exhausted}
use Rattle.lin_report.specs.Object.{Object}
use Rattle.lin_report.specs.Tellable.{IsTellable}
use Rattle.normal_traits.specs.World.{Change, ChangedBy, Listed, RightSince, World, first_changes, held_after}
use Rattle.normal_traits.specs.NormalForm.{NormalForm}
use Rattle.normal_traits.specs.Laws.{Laws}
use Rattle.fast_slow_engine.specs.declared.setup.Setup.{Setup}
use Rattle.fast_slow_engine.specs.Runs.{Move, AreMoves}
use Rattle.kept_knowledge.specs.RunGhosts.{world_of}
use Rattle.kept_knowledge.specs.Kept.{RunsAreKept}
use Rattle.run_invariant.proofs.Tells.RunAnswers.{answers_after, run_answers_open}
use Rattle.run_invariant.proofs.Tells.Values.{AnswersWell, AreCommandsOf, AreReplied, among_split}

-- ---- no reply of the object is Exhausted

-- what was observed tells another reply
pub right_not : (object : Object) → IsTellable object → (world : World) (op : Op) (since : ℕ) (reply : Reply) → RightSince object world op since (Plain reply) → ¬ (reply ≡ Exhausted)
right_not object tells world op since reply right exhausted = tells.answers op (held_after object (first_changes right.count world.changes)) (sym right.told ∙ exhausted)

-- and so does a change
pub changed_not : (object : Object) → IsTellable object → (world : World) (list : Listed) (reply : Reply) → AreReplied object world.changes → ChangedBy world list (Plain reply) → ¬ (reply ≡ Exhausted)
changed_not object tells world list reply replied by exhausted =
    let change : Change = record { list = list; reply = by.reply } in
    let split = among_split change world.changes by.change in
    let is = replied split.0 split.1 change split.2 in
    tells.answers list.call.op (held_after object split.1) (sym is ∙ sym by.told ∙ exhausted)

-- ---- every run

module _ {S W : Type 0} (form : NormalForm S W) (laws : Laws form) (kept : RunsAreKept form) where
  -- the changes of every run answer well
  run_answers : (setup : Setup) (moves : List Move) → AreMoves form setup moves → AnswersWell form (world_of form setup moves)
  run_answers setup [] are = run_answers_open form setup
  run_answers setup (move ∷ older) are = answers_after form laws setup older move are.1.mech are are.1.seated (kept setup older are.0) (run_answers setup older are.0)

  pub replies_right : (setup : Setup) (moves : List Move) → AreMoves form setup moves → AreReplied form.object (world_of form setup moves).changes
  replies_right setup moves are = (run_answers setup moves are).replied

  pub changes_commands : (setup : Setup) (moves : List Move) → AreMoves form setup moves → AreCommandsOf form.object (world_of form setup moves).changes
  changes_commands setup moves are = (run_answers setup moves are).commands
