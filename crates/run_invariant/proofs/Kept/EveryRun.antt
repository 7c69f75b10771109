-- What follows for every run.
use Rattle.normal_traits.specs.NormalForm.{NormalForm}
use Rattle.normal_traits.specs.Laws.{Laws}
use Rattle.run_laws.proofs.CountersLeft.{client_keeps_ticks}
use Rattle.kept_knowledge.specs.Kept.{RunsAreKept}
use Rattle.kept_knowledge.proofs.Bounds.InKept.{keeps_claims, keeps_queue}
use Rattle.kept_knowledge.proofs.InRuns.Leaves.{kind, leaves}
use Rattle.run_invariant.specs.Runs.{CountersKept, MovesAllowed, MovesOfKinds, QueuesKept}

module _ {S W : Type 0} (form : NormalForm S W) (laws : Laws form) (runs : RunsAreKept form) where
  pub moves_allowed : MovesAllowed form
  moves_allowed setup older move are = (leaves form laws setup older move are.1.mech are are.1.seated (runs setup older are.0)).step

  pub moves_of_kinds : MovesOfKinds form
  moves_of_kinds setup older move mech are at = kind form laws setup older move mech are at (runs setup older are.0)

  pub counters_kept : CountersKept form
  counters_kept setup moves are = (let kept = runs setup moves are in (client_keeps_ticks form setup moves kept.ticks, keeps_claims form setup moves are kept))

  pub queues_kept : QueuesKept form
  queues_kept setup moves are = keeps_queue form setup moves are (runs setup moves are)
