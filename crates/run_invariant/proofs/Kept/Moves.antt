-- Each move keeps the invariant.
use Rattle.std.proofs.Common.{◌≡◌, ◌≢◌, ℕ, List, ◌∷◌, slice_get, Some}
use Rattle.normal_traits.specs.World.{World}
use Rattle.normal_traits.specs.NormalForm.{NormalForm}
use Rattle.normal_traits.specs.Laws.{Laws}
use Rattle.fast_slow_engine.specs.declared.setup.Setup.{Setup}
use Rattle.fast_slow_engine.specs.Mechs.{Mech}
use Rattle.fast_slow_engine.specs.Runs.{AreMoves, Move, run_of}
use Rattle.helper_knowledge.specs.Callers.{Caller}
use Rattle.run_queue.specs.Premises.{KeepsQueue}
use Rattle.kept_knowledge.specs.Ghosts.{SeatGhost}
use Rattle.kept_knowledge.specs.RunGhosts.{ghost_of, world_of}
use Rattle.kept_knowledge.specs.Kept.{IsKept, KnowsWell, callers_in}
use Rattle.kept_knowledge.proofs.Words.Moved.{seat_after}
use Rattle.kept_knowledge.proofs.Words.Seats.{machine_after, seats_moved}
use Rattle.kept_knowledge.proofs.InRuns.Leaves.{holds_after}
use Rattle.kept_knowledge.proofs.Counted.Announced.{announced_after, others_announced_after}
use Rattle.kept_knowledge.proofs.Counted.ChangesBelow.{changes_below_after, changes_below_mover}
use Rattle.kept_knowledge.proofs.Counted.Contents.{contents_after}
use Rattle.kept_knowledge.proofs.Counted.Searches.{counts_after, early_after, others_early_after}
use Rattle.kept_knowledge.proofs.Counted.Versions.{versions_after}
use Rattle.kept_knowledge.proofs.Mover.Commands.{command_moved}
use Rattle.kept_knowledge.proofs.Mover.Fresh.{used_after}
use Rattle.kept_knowledge.proofs.Mover.Knows.{knows_after}
use Rattle.kept_knowledge.proofs.Others.Know.{others_know_after}
use Rattle.kept_knowledge.proofs.Premises.Moves.{leaves_claims, leaves_queue, leaves_ticks, queue_after}
use Rattle.run_invariant.proofs.Records.Followed.{followed_after}
use Rattle.run_invariant.proofs.Records.Owned.{owned_after}
use Rattle.run_invariant.proofs.Records.RecordTells.{other_record_tells_after, own_record_tells_after}
use Rattle.run_invariant.proofs.Tells.OwnTells.{own_tells_after}
use Rattle.run_invariant.proofs.Tells.Stays.{other_tells_after}
use Rattle.run_invariant.proofs.Tells.Values.{AnswersWell}

module _ {S W : Type 0} (form : NormalForm S W) (laws : Laws form) (setup : Setup) (older : List Move) (move : Move) (are : AreMoves form setup (move ∷ older)) (kept : IsKept form setup older) where
  abbrev mover : Mech S W
  mover = are.1.mech

  abbrev found : slice_get (run_of form setup older).mechs move.seat ≡ Some mover
  found = are.1.seated

  abbrev world : World
  world = world_of form setup older

  abbrev after : World
  after = world_of form setup (move ∷ older)

  abbrev callers : ℕ → Caller
  callers = callers_in (run_of form setup older) (ghost_of form setup older)

  abbrev callers' : ℕ → Caller
  callers' = callers_in (run_of form setup (move ∷ older)) (ghost_of form setup (move ∷ older))

  abbrev Before : ℕ → Mech S W → SeatGhost S → Type 0
  Before seat mech own = KnowsWell form mech own world (ghost_of form setup older).offers callers

  abbrev After : ℕ → Mech S W → SeatGhost S → Type 0
  After seat mech own = KnowsWell form mech own after (ghost_of form setup (move ∷ older)).offers callers'

  keeps : KeepsQueue form setup (move ∷ older)
  keeps = queue_after form laws setup older move mover are found kept

  -- the seat that moved
  mover_well : AnswersWell form world → After move.seat (machine_after form setup older move mover) (seat_after form setup older move mover)
  mover_well well =
      let known = kept.seats move.seat mover found in
      record {
        command = command_moved form setup older move mover are.1.can known.command;
        knows = knows_after form laws setup older move mover are found kept;
        tells = own_tells_after form laws setup older move mover are found kept (used_after form laws setup older move mover are found kept) well;
        counts = counts_after form laws setup older move mover are found kept;
        early = early_after form laws setup older move mover are found kept;
        announced = announced_after form laws setup older move mover are found kept;
        below = changes_below_mover form laws setup older move mover are found kept;
        record_tells = own_record_tells_after form laws setup older move mover are found kept keeps;
      }

  -- each other seat
  other_well : (seat : ℕ) (mech : Mech S W) → seat ≢ move.seat → slice_get (run_of form setup older).mechs seat ≡ Some mech → Before seat mech ((ghost_of form setup older).seats seat) → After seat mech ((ghost_of form setup older).seats seat)
  other_well seat mech apart at known = record {
    command = known.command;
    knows = others_know_after form laws setup older move mover are found kept seat mech apart at;
    tells = other_tells_after form laws setup older move mover are found kept seat mech at;
    counts = known.counts;
    early = others_early_after form laws setup older move mover are found kept seat mech at;
    announced = others_announced_after form laws setup older move mover are found kept seat mech apart at;
    below = changes_below_after form laws setup older move mover are found kept seat mech at;
    record_tells = other_record_tells_after form laws setup older move mover are found kept keeps seat mech at apart;
  }

  pub move_keeps : AnswersWell form world → IsKept form setup (move ∷ older)
  move_keeps well = record {
    ticks = (kept.ticks, leaves_ticks form laws setup older move mover are found kept);
    claims = (kept.claims, leaves_claims form laws setup older move mover are found kept);
    queue = (kept.queue, leaves_queue form laws setup older move mover are found kept);
    holds = holds_after form laws setup older move mover are found kept;
    contents = contents_after form laws setup older move mover are found kept;
    owned = owned_after form laws setup older move mover are found kept keeps;
    followed = followed_after form laws setup older move mover are found kept keeps;
    versions = versions_after form laws setup older move mover are found kept;
    seats = seats_moved form Before After setup older move are.1 kept.seats other_well (mover_well well);
  }
