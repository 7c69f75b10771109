-- Where fewer blocks are named than a round can count, every record that is wrapped up can count one more.
use Rattle.std.proofs.Common.{◌≡◌, refl, ap, sym, subst, ◌∙◌, ℕ, ◌+◌, ◌<◌, ◌≤◌, ◌^◌, List, [], ◌∷◌, slice_get, Option, Some, None, arith}
use Rattle.std.specs.Prelude.{slice_index}
use Rattle.std.proofs.lemmas.Option.{slice_get_within}
use Rattle.word_fields.specs.Fields.{field_of}
use Rattle.word_fields.specs.Records.{record_phase, record_round}
use Rattle.node_arena.specs.MemoryMap.{record_place}
use Rattle.normal_traits.specs.NormalForm.{NormalForm}
use Rattle.help_queue_laws.proofs.Known.Scenes.{scene_of}
use Rattle.help_queue_laws.proofs.Runs.EveryRunHolds.{same_some}
use Rattle.fast_slow_engine.specs.declared.setup.Setup.{Setup}
use Rattle.fast_slow_engine.specs.Mechs.{Mech}
use Rattle.fast_slow_engine.specs.Runs.{Move, IsMove, AreMoves, CanMove, begun, moved_by, run_of}
use Rattle.run_queue.specs.QueueGhosts.{queue_ghosts}
use Rattle.run_queue.specs.Premises.{HasRounds, KeepsQueue, ClientLeavesQueue, MoveLeavesQueue}
use Rattle.run_queue.specs.Rounds.{RoundsFit, blocks_named, named_by, rounds_by, rounds_in}
use Rattle.run_queue.proofs.Runs.Openings.{opens_zero}
use Rattle.run_queue.proofs.Blocks.RoundMoves.{phase_raises}
use Rattle.run_queue.proofs.Runs.RunMoves.{IsQueued, mover, runs_queued}

zero_rounds : rounds_in 0 ≡ 0
unfolding record_phase record_round field_of
zero_rounds = refl

-- the rounds of every record are at most so many
abbrev pub AtMost : ℕ → List ℕ → Type 0
AtMost count words = (t : ℕ) → t < 8 → rounds_in (slice_index words (record_place t)) ≤ count

rounds_fit : (count : ℕ) (words : List ℕ) → count < 2 ^ 17 → AtMost count words → HasRounds words
rounds_fit count words small most t few wraps =
    let more : rounds_in (slice_index words (record_place t)) ≡ record_round (slice_index words (record_place t)) + 1 = ap (λ p. rounds_by p (record_round (slice_index words (record_place t)))) wraps in
    let bound = most t few in
    omega (arith, more, bound, small)

module _ {S W : Type 0} (form : NormalForm S W) where
  moved_most : (setup : Setup) (move : Move) (older : List Move) (o : Option (Mech S W)) → slice_get (run_of form setup older).mechs move.seat ≡ o → IsMove form (run_of form setup older) move → MoveLeavesQueue form (run_of form setup older) move
      → IsQueued setup (run_of form setup older) (queue_ghosts form setup older) → (count : ℕ) → AtMost count (run_of form setup older).words
      → AtMost (count + named_by form o move (run_of form setup older)) (moved_by form o move (run_of form setup older)).words
  moved_most setup move older None at is leaves q count most t few = (let bound = most t few in omega (arith, bound))
  moved_most setup move older (Some old) at is leaves q count most t few =
      let state = run_of form setup older in
      let same : is.mech ≡ old = same_some is.mech old (sym is.seated ∙ at) in
      let can = subst (λ (m : Mech S W). CanMove form move.begins m) same is.can in
      let m = mover form setup move.seat (scene_of state.words (queue_ghosts form setup older)) move.begins old can (q.seats move.seat old at) (q.knows move.seat old at) in
      let mech = begun move.begins old in
      let inside : move.seat < setup.seats = subst (λ n. move.seat < n) q.count (slice_get_within state.mechs move.seat old at) in
      let below : mech.seat < 8 = let eight = setup.few_seats in let own = m.is.seat in omega (arith, eight, own, inside) in
      let raise = phase_raises form state.words q.long t few mech.phase mech setup.seats below m.is.most m.is.fits (leaves old at) in
      let bound = most t few in
      omega (arith, raise, bound)

  pub runs_most : (setup : Setup) (moves : List Move) → AreMoves form setup moves → ClientLeavesQueue form setup moves → blocks_named form setup moves < 2 ^ 17 → KeepsQueue form setup moves × AtMost (blocks_named form setup moves) (run_of form setup moves).words
  runs_most setup [] are leaves small = (tt, λ t few. let none = ap rounds_in (opens_zero form.opening form.opens setup.cap t few) ∙ zero_rounds in omega (arith, none))
  runs_most setup (move ∷ older) are leaves small =
      let fewer : blocks_named form setup older < 2 ^ 17 = omega (arith, small) in
      let before = runs_most setup older are.0 leaves.0 fewer in (
        (before.0, leaves.1, rounds_fit (blocks_named form setup older) (run_of form setup older).words fewer before.1),
        moved_most setup move older (slice_get (run_of form setup older).mechs move.seat) refl are.1 leaves.1 (runs_queued form setup older are.0 before.0) (blocks_named form setup older) before.1,
      )

  pub rounds_hold : RoundsFit form
  rounds_hold setup moves are leaves small = (runs_most setup moves are leaves small).0
