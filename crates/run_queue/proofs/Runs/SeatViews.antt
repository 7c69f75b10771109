-- In every run each machine, as a seat of the world of the queue, knows what that seat knows.
use Rattle.std.proofs.Common.{◌≡◌, refl, ap, subst, ℕ, ◌+◌, ◌-◌, ◌≤◌, false, List, slice_get, Some, arith}
use Rattle.normal_traits.specs.NormalForm.{NormalForm}
use Rattle.help_queue_laws.proofs.Known.Scenes.{scene_of, IsSound}
use Rattle.help_queue_laws.proofs.Known.Knowledge.{PhaseFacts, IsCallerOf}
use Rattle.fast_slow_engine.specs.declared.setup.Setup.{Setup}
use Rattle.fast_slow_engine.specs.declared.phases.Phase.{Phase}
use Rattle.fast_slow_engine.specs.declared.phases.Phase.TheVariants.{Idle, Begin, Look, Generate, Apply, Wrap, Announce, Enter, Drive, Help, Collect, Value, End}
use Rattle.fast_slow_engine.specs.Mechs.{Mech}
use Rattle.fast_slow_engine.specs.PhaseTable.{rests}
use Rattle.fast_slow_engine.specs.Runs.{Move, AreMoves, run_of}
use Rattle.run_queue.specs.QueueViews.{phase_view, next_number, queue_view}
use Rattle.run_queue.specs.QueueGhosts.{queue_ghosts}
use Rattle.run_queue.specs.Premises.{KeepsQueue}
use Rattle.run_queue.proofs.Runs.RunMoves.{runs_queued}

module _ {S W : Type 0} where
  some_next : (phase : Phase S W) (number : ℕ) → (rests phase ≡ false → 1 ≤ number) → 1 ≤ next_number phase number
  some_next Idle number some = omega arith
  some_next Begin number some = some refl
  some_next Look number some = some refl
  some_next (Generate s step) number some = some refl
  some_next (Apply run stores step) number some = some refl
  some_next (Wrap wrap) number some = some refl
  some_next (Announce step) number some = some refl
  some_next (Enter owner) number some = some refl
  some_next Drive number some = some refl
  some_next (Help drives help) number some = some refl
  some_next Collect number some = some refl
  some_next (Value reference) number some = omega arith
  some_next (End reply) number some = omega arith

  pub callers_hold : (form : NormalForm S W) (setup : Setup) (moves : List Move) → AreMoves form setup moves → KeepsQueue form setup moves
      → IsSound (scene_of (run_of form setup moves).words (queue_ghosts form setup moves))
      × ((seat : ℕ) (mech : Mech S W) → slice_get (run_of form setup moves).mechs seat ≡ Some mech → IsCallerOf (scene_of (run_of form setup moves).words (queue_ghosts form setup moves)) setup.seats seat (queue_view mech))
  callers_hold form setup moves are keeps =
      let q = runs_queued form setup moves are keeps in (
        q.sound,
        λ seat mech found.
            let is = q.seats seat mech found in
            let some = some_next mech.phase mech.number (λ runs. (is.runs runs).0) in
            let next : next_number mech.phase mech.number ≡ next_number mech.phase mech.number - 1 + 1 = omega (arith, some) in
            record {
              seat = is.seat;
              seats' = ap (λ (s : Setup). s.seats) is.setup';
              knows = subst (λ n. PhaseFacts (scene_of (run_of form setup moves).words (queue_ghosts form setup moves)) setup.seats seat n (phase_view mech.phase)) next (q.knows seat mech found);
            },
      )
