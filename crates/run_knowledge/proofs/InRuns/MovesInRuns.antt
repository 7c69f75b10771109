-- A move of a run of which the invariant holds, before the move and after it.
use Rattle.std.proofs.Common.{◌≡◌, ◌∙◌, ap, ℕ, List, [], ◌∷◌, ◌++◌, length, slice_get, Option, Some}
use Rattle.std.proofs.lemmas.Option.{slice_get_within}
use Rattle.step_memory.specs.declared.steps.Seen.{Seen}
use Rattle.normal_traits.specs.World.{World}
use Rattle.normal_traits.specs.NormalForm.{NormalForm}
use Rattle.normal_traits.specs.Steps.{IsStep}
use Rattle.normal_traits.specs.Laws.{Laws}
use Rattle.fast_slow_engine.specs.declared.setup.Setup.{Setup}
use Rattle.fast_slow_engine.specs.Mechs.{Mech}
use Rattle.fast_slow_engine.specs.Runs.{Move, RunState, AreMoves, CanMove, begun, run_of}
use Rattle.offered_blocks.specs.Blocks.{Offer}
use Rattle.move_kinds.specs.Kinds.{Kind}
use Rattle.run_laws.specs.Claims.{KeepsClaims}
use Rattle.run_laws.specs.Seats.{IsMechOf}
use Rattle.run_laws.specs.Ticks.{KeepsTicks}
use Rattle.run_laws.proofs.CountersLeft.{client_keeps_claims, client_keeps_ticks}
use Rattle.run_laws.proofs.MachinesKept.{begun_own, seats_stay}
use Rattle.run_laws.proofs.Steps.{at_set, move_steps}
use Rattle.run_queue.specs.Premises.{KeepsQueue}
use Rattle.run_world.specs.Ghosts.{SeatGhost}
use Rattle.run_world.specs.RunGhosts.{ghost_of, world_of}
use Rattle.run_world.proofs.Words.Moved as made
use Rattle.run_world.proofs.Words.Seats as seats
use Rattle.step_knowledge.specs.Moves.{StepsIn}
use Rattle.run_knowledge.specs.Kept.{IsKept, RunsAreKept}
use Rattle.run_knowledge.proofs.Bounds.InKept.{keeps_queue}
use Rattle.run_knowledge.proofs.InRuns.Leaves as leaving
use Rattle.run_knowledge.proofs.InRuns.MoveSteps.{moves_step}
use Rattle.run_knowledge.proofs.InRuns.Mover.{KnowsMover}
use Rattle.run_knowledge.proofs.InRuns.MovesKinds.{is_inside}
use Rattle.run_knowledge.proofs.InRuns.Rests as resting

module _ {S W : Type 0} (form : NormalForm S W) where
  -- moves that can follow each other could do so before the newest of them were made
  pub moves_before : (setup : Setup) (newer older : List Move) → AreMoves form setup (newer ++ older) → AreMoves form setup older
  moves_before setup [] older are = are
  moves_before setup (move ∷ newer) older are = moves_before setup newer older are.0

  pub record Moved (setup : Setup) (older : List Move) (move : Move) : Type 0 where
    pub laws : Laws form
    pub are : AreMoves form setup (move ∷ older)
    pub kept : IsKept form setup older
    pub later : IsKept form setup (move ∷ older)

  module _ {setup : Setup} {older : List Move} {move : Move} (m : Moved setup older move) where
    abbrev pub world : World
    world = world_of form setup older

    abbrev pub after : World
    after = world_of form setup (move ∷ older)

    abbrev pub offers : ℕ → Option (Offer S)
    offers = (ghost_of form setup older).offers

    -- the machine of the seat that moves, and the same with the call that it begins
    abbrev pub mech : Mech S W
    mech = m.are.1.mech

    abbrev pub mover : Mech S W
    mover = begun move.begins mech

    -- what is known of its seat, what its request sees, and what the machine becomes
    abbrev pub own : SeatGhost S
    own = (ghost_of form setup older).seats move.seat

    abbrev pub seen : Seen
    seen = made.seen_by form setup older move mech

    abbrev pub new : Mech S W
    new = seats.machine_after form setup older move mech

    pub seated : slice_get (run_of form setup older).mechs move.seat ≡ Some mech
    seated = m.are.1.seated

    pub can : CanMove form move.begins mech
    can = m.are.1.can

    pub new_seated : slice_get (run_of form setup (move ∷ older)).mechs move.seat ≡ Some new
    new_seated =
        let state = run_of form setup older in
        ap (λ (s : RunState S W). slice_get s.mechs move.seat) (move_steps form state move mech seated) ∙ at_set state.mechs move.seat new (slice_get_within state.mechs move.seat mech seated)

    pub of_seat : IsMechOf setup move.seat mover
    of_seat = begun_own form setup move.seat move.begins mech ((seats_stay form setup older m.are.0).own move.seat mech seated)

    -- its premises
    pub ticks : KeepsTicks form setup (move ∷ older)
    ticks = client_keeps_ticks form setup (move ∷ older) m.later.ticks

    pub claims : KeepsClaims form setup (move ∷ older)
    claims = client_keeps_claims form setup (move ∷ older) m.later.claims

    pub queued : KeepsQueue form setup older
    queued = keeps_queue form setup older m.are.0 m.kept

    pub queued_after : KeepsQueue form setup (move ∷ older)
    queued_after = keeps_queue form setup (move ∷ older) m.are m.later

    -- it is one of the kinds, and an allowed step
    pub kind : Kind form world after offers (ghost_of form setup (move ∷ older)).offers move.seat mech.hand
    kind = leaving.kind form m.laws setup older move mech m.are seated m.kept

    pub step : IsStep form world after
    step = leaving.allowed form m.laws setup older move mech m.are seated m.kept

    -- what the machine knows, and what its step does
    pub known : KnowsMover form setup older m.are.0 m.kept move.seat mover
    known = resting.known form m.laws setup older move mech m.are seated m.kept

    pub does : StepsIn form world after offers (ghost_of form setup (move ∷ older)).offers mover.phase mover own ((ghost_of form setup (move ∷ older)).seats move.seat) (length older) seen
    does = moves_step form setup older move mech seated (is_inside form m.laws setup older move mech m.are seated m.kept)

  -- each move of a run, where every run is kept
  pub moved : Laws form → RunsAreKept form → (setup : Setup) (older : List Move) (move : Move) → AreMoves form setup (move ∷ older) → Moved setup older move
  moved laws kept setup older move are = record { laws = laws; are = are; kept = kept setup older are.0; later = kept setup (move ∷ older) are }
