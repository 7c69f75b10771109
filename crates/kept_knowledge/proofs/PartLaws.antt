-- The laws, from the lemmas of each part.
use Rattle.std.proofs.Common.{◌∷◌}
use Rattle.normal_traits.specs.NormalForm.{NormalForm}
use Rattle.normal_traits.specs.Laws.{Laws}
use Rattle.fast_slow_engine.specs.Runs.{run_of}
use Rattle.run_knowledge.specs.RunGhosts.{ghost_of, world_of}
use Rattle.run_knowledge.specs.Known.{KnowsIn}
use Rattle.run_knowledge.specs.Kept.{KnowsWell, callers_in}
use Rattle.run_knowledge.proofs.Words.Seats.{seats_moved}
use Rattle.kept_knowledge.specs.Afterwards.{ContentsKept, MachinesKnow, OpeningsKept, PremisesKept, VersionsKept}
use Rattle.kept_knowledge.proofs.Counted.Contents.{contents_after}
use Rattle.kept_knowledge.proofs.Counted.Opening.{opening_kept}
use Rattle.kept_knowledge.proofs.Counted.Versions.{versions_after}
use Rattle.kept_knowledge.proofs.Mover.Knows.{knows_after}
use Rattle.kept_knowledge.proofs.Others.Know.{others_know_after}
use Rattle.kept_knowledge.proofs.Premises.Moves.{claims_after, queue_after, ticks_after}

module _ {S W : Type 0} (form : NormalForm S W) (laws : Laws form) where
  pub openings_kept : OpeningsKept form
  openings_kept = opening_kept form laws

  pub premises_kept : PremisesKept form
  premises_kept setup older move are kept = (
    ticks_after form laws setup older move are.1.mech are are.1.seated kept,
    claims_after form laws setup older move are.1.mech are are.1.seated kept,
    queue_after form laws setup older move are.1.mech are are.1.seated kept,
  )

  pub contents_kept : ContentsKept form
  contents_kept setup older move are kept = contents_after form laws setup older move are.1.mech are are.1.seated kept

  pub versions_kept : VersionsKept form
  versions_kept setup older move are kept = versions_after form laws setup older move are.1.mech are are.1.seated kept

  pub machines_know : MachinesKnow form
  machines_know setup older move are kept =
      let moves = move ∷ older in
      seats_moved form
      (λ seat mech own. KnowsWell form mech own (world_of form setup older) (ghost_of form setup older).offers (callers_in (run_of form setup older) (ghost_of form setup older)))
      (λ seat mech own. KnowsIn form mech.phase mech own (world_of form setup moves) (ghost_of form setup moves).offers (callers_in (run_of form setup moves) (ghost_of form setup moves)))
      setup older move are.1 kept.seats
      (λ seat mech apart at known. others_know_after form laws setup older move are.1.mech are are.1.seated kept seat mech apart at)
      (knows_after form laws setup older move are.1.mech are are.1.seated kept)
