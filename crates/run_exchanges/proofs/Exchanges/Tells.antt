-- The journal of a run tells exactly the exchanges that were won, in order; and what it doesn't tell has but cleared a bit.
use Rattle.std.proofs.Common.{◌≡◌, ◌∙◌, refl, sym, subst, ap, List, [], ◌∷◌, ◌++◌, map, slice_get, Option}
use Rattle.step_memory.specs.Step.{seen_of}
use Rattle.normal_traits.specs.NormalForm.{NormalForm}
use Rattle.normal_traits.specs.Laws.{Laws}
use Rattle.fast_slow_engine.specs.declared.setup.Setup.{Setup}
use Rattle.fast_slow_engine.specs.Mechs.{Mech}
use Rattle.fast_slow_engine.specs.PhaseTable.{mech_request}
use Rattle.fast_slow_engine.specs.Runs.{AreMoves, Move, begun, run_of}
use Rattle.run_laws.proofs.Steps.{some_same}
use Rattle.run_invariant.specs.RunGhosts.{world_of}
use Rattle.run_invariant.specs.Kept.{RunsAreKept}
use Rattle.run_invariant.proofs.InRuns.MovesInRuns.{Moved, after, mech, mover, moved, moves_before, seated, seen, world}
use Rattle.run_exchanges.specs.Exchanges.{OnlyClears, WonExchange, moved_exchanges, told_exchange, won_exchanges}
use Rattle.run_exchanges.proofs.Exchanges.Asks.{move_asked}
use Rattle.run_exchanges.proofs.Exchanges.Requests as requests

module _ {S W : Type 0} (form : NormalForm S W) where
  -- the journal after a move tells what it has exchanged
  move_tells : {setup : Setup} {older : List Move} {move : Move} (m : Moved form setup older move)
      → map told_exchange (after form m).journal ≡ moved_exchanges form (slice_get (run_of form setup older).mechs move.seat) move (run_of form setup older) ++ map told_exchange (world form m).journal
  move_tells {setup} {older} {move} m =
      requests.tells form.is_versioned (mech_request form (mover form m)) (seen form m).won (world form m) (after form m) (move_asked form m)
      ∙ ap (λ (o : Option (Mech S W)). moved_exchanges form o move (run_of form setup older) ++ map told_exchange (world form m).journal) (sym (seated form m))

  module _ (laws : Laws form) (kept : RunsAreKept form) where
    pub journal_same : (setup : Setup) (moves : List Move) → AreMoves form setup moves → map told_exchange (world_of form setup moves).journal ≡ won_exchanges form setup moves
    journal_same setup [] are = refl
    journal_same setup (move ∷ older) are =
        move_tells (moved form laws kept setup older move are)
        ∙ ap (λ (l : List WonExchange). moved_exchanges form (slice_get (run_of form setup older).mechs move.seat) move (run_of form setup older) ++ l) (journal_same setup older are.0)

    pub only_clears : (setup : Setup) (moves : List Move) → AreMoves form setup moves → OnlyClears form setup moves
    only_clears setup moves are newer older move one at from to made at' asks on here versioned same =
        let are' : AreMoves form setup (move ∷ older) = moves_before form setup newer (move ∷ older) (subst (AreMoves form setup) made are) in
        let m = moved form laws kept setup older move are' in
        let is : mech form m ≡ one = some_same (mech form m) one (sym (seated form m) ∙ at') in
        requests.only_clears form.is_versioned (mech_request form (mover form m)) (seen form m).won (world form m) (after form m) (move_asked form m) at from to
        (ap (λ (x : Mech S W). mech_request form (begun move.begins x)) is ∙ asks) (ap (λ (x : Mech S W). (seen_of (mech_request form (begun move.begins x)) (run_of form setup older).words).won) is ∙ on) here versioned same
