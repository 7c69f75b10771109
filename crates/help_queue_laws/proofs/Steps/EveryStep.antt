-- Every step of a seat keeps what holds of the scene, and what each seat knows.
use Rattle.std.proofs.Common.{◌≡◌, ℕ, ◌+◌, ◌<◌, ◌≤◌, List, length, sym, subst, arith}
use Rattle.lin_report.specs.declared.calls.TheConstants.{PUT}
use Rattle.help_queue.specs.Enters.{Owner}
use Rattle.help_queue_laws.specs.declared.phases.QueuePhase.{QueuePhase}
use Rattle.help_queue_laws.specs.declared.phases.QueuePhase.TheVariants.{Look, StoreValue, StoreOp, StoreRecord, Enters, Drive, Collect, Helps}
use Rattle.help_queue_laws.specs.Callers.{Caller, caller_request, caller_fed}
use Rattle.help_queue_laws.specs.Ghosts.{Ghosts}
use Rattle.help_queue_laws.proofs.Known.Scenes.{scene_of, IsSound}
use Rattle.help_queue_laws.proofs.Known.Knowledge.{PhaseFacts, IsCallerOf}
use Rattle.help_queue_laws.proofs.Steps.AnnounceAndCollect.{look_moves, value_moves, op_moves, record_moves, drive_moves, collect_moves}
use Rattle.help_queue_laws.proofs.Steps.OwnerSteps.{enter_moves}
use Rattle.help_queue_laws.proofs.Steps.HelperSteps.{help_moves}
use Rattle.help_queue_laws.proofs.Steps.Results.{Moved}

module _ (seats i : ℕ) (inside : i < seats) (few : seats ≤ 8) (words : List ℕ) (ghosts : Ghosts) (long : 32 ≤ length words) (sound : IsSound (scene_of words ghosts)) where
  abbrev Moves' : Caller → Type 0
  Moves' caller = Moved seats i words ghosts caller.phase (caller_request caller) (caller_fed caller)

  abbrev caller_at : ℕ → QueuePhase → Caller
  caller_at made phase = record { seat = i; seats = seats; made = made; phase = phase }

  -- the owner by its seat and the number of seats
  owner_is : (owner : Owner) → owner.seat ≡ i → owner.seats ≡ seats → record { seat = i; seats = seats; stage = owner.stage } ≡ owner
  owner_is owner seat among = λ j. record { seat = sym seat j; seats = sym among j; stage = owner.stage }

  phase_moves : (made : ℕ) → made < 65535 → (phase : QueuePhase) → PhaseFacts (scene_of words ghosts) seats i (made + 1) phase → Moves' (caller_at made phase)
  phase_moves made fewer Look h = look_moves seats i made inside few fewer words ghosts long sound h
  phase_moves made fewer StoreValue h = value_moves seats i made inside few fewer words ghosts long sound 0 h.0 h.1
  phase_moves made fewer StoreOp h = op_moves seats i made inside few fewer words ghosts long sound PUT 0 (omega arith) h.0 h.1 h.2
  phase_moves made fewer StoreRecord h = record_moves seats i made inside few fewer words ghosts long sound h.0 h.1 h.2 h.3
  phase_moves made fewer (Enters owner) h =
      subst (λ (o : Owner). Moves' (caller_at made (Enters o))) (owner_is owner h.seat h.seats')
      (enter_moves seats i made inside few words ghosts long sound h.mine owner.stage h.stage)
  phase_moves made fewer Drive h = drive_moves seats i made inside few fewer words ghosts long sound h.0 h.1
  phase_moves made fewer Collect h = collect_moves seats i made inside few fewer words ghosts long sound h.0 h.1
  phase_moves made fewer (Helps s announced at) h = help_moves seats i made s announced h.0 few words ghosts long sound at h.1 h.2

  pub caller_moves : (caller : Caller) → caller.made < 65535 → IsCallerOf (scene_of words ghosts) seats i caller → Moves' caller
  caller_moves caller fewer h =
      let is : caller_at caller.made caller.phase ≡ caller = λ j. record { seat = sym h.seat j; seats = sym h.seats' j; made = caller.made; phase = caller.phase } in
      subst Moves' is (phase_moves caller.made fewer caller.phase h.knows)
