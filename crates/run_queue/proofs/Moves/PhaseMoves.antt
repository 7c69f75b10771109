-- Every step of every phase keeps the scene sound and what each seat knows: the phases and works, each by its own lemma.
use Rattle.std.proofs.Common.{◌≡◌, refl, sym, subst, ℕ, ◌<◌, ◌≤◌, ◌^◌, Bool, true, false, List, length}
use Rattle.normal_traits.specs.NormalForm.{NormalForm}
use Rattle.help_queue_laws.specs.declared.phases.QueuePhase.TheVariants as in_queue
use Rattle.help_queue_laws.specs.declared.phases.Helping.TheVariants.{Complete}
use Rattle.help_queue_laws.specs.Ghosts.{Ghosts}
use Rattle.help_queue_laws.proofs.Known.Scenes.{scene_of, IsSound, IsOut}
use Rattle.help_queue_laws.proofs.Known.Knowledge.{PhaseFacts}
use Rattle.fast_slow_engine.specs.declared.phases.Phase.{Phase}
use Rattle.fast_slow_engine.specs.declared.phases.Phase.TheVariants.{Idle, Begin, Look, Generate, Apply, Wrap, Announce, Enter, Drive, Help, Collect, Value, End}
use Rattle.fast_slow_engine.specs.declared.phases.Announcing.TheVariants as announcing
use Rattle.fast_slow_engine.specs.declared.help.Helping.{Helping}
use Rattle.fast_slow_engine.specs.declared.help.Helping.TheVariants.{Record, Known, Remove}
use Rattle.fast_slow_engine.specs.declared.help.Work.{Work}
use Rattle.fast_slow_engine.specs.declared.help.Work.TheVariants as work
use Rattle.fast_slow_engine.specs.Mechs.{Mech}
use Rattle.fast_slow_engine.specs.HelpTable.{helping_request, work_request}
use Rattle.fast_slow_engine.specs.PhaseTable.{request_in, rests, stepped}
use Rattle.run_queue.specs.QueueViews.{phase_view, helping_view, next_number}
use Rattle.run_queue.specs.Fits.{HelpingFits, PhaseFits, WorkFits}
use Rattle.run_queue.specs.Premises.{LeavesQueue, HasRounds, is_for_client, helps_for_client, works_for_client}
use Rattle.run_queue.proofs.Moves.Beside.{Goes}
use Rattle.run_queue.proofs.Views.WorkViews.{IsBehind}
use Rattle.run_queue.proofs.Moves.WorkMoves.{work_goes}
use Rattle.run_queue.proofs.Moves.FastMoves as fast
use Rattle.run_queue.proofs.Moves.CallMoves as call

module _ {S W : Type 0} (form : NormalForm S W) (mech : Mech S W) (words : List ℕ) (ghosts : Ghosts) (few : mech.setup.seats ≤ 8) (inside : mech.seat < mech.setup.seats) (long : 32 ≤ length words) (sound : IsSound (scene_of words ghosts))
    (some : 1 ≤ mech.number) (most : mech.number ≤ 65535) (low : mech.op.code < 2 ^ 4) (rounds : HasRounds words) where
  abbrev Goes' : Phase S W → Type 0
  Goes' phase = Goes mech.setup.seats mech.seat words ghosts (phase_view phase) (request_in form phase mech) (λ seen. stepped form phase seen mech)

  -- ---- helping

  module _ (drives : Bool) (head p : ℕ) (among : p ≡ mech.setup.seats) where
    abbrev helper : Helping S W → Phase S W
    helper at' = Help drives (record { head = head; seats = p; at = at' })

    abbrev HelpKnows : Helping S W → Type 0
    HelpKnows at' = PhaseFacts (scene_of words ghosts) mech.setup.seats mech.seat mech.number (in_queue.Helps head drives (helping_view at'))

    abbrev TheirsLeave : Helping S W → Type 0
    TheirsLeave at' = helps_for_client at' ≡ true → LeavesQueue (helping_request form at' head) words

    among_seats : (at' : Helping S W) → Goes' (Help drives (record { head = head; seats = mech.setup.seats; at = at' })) → Goes' (helper at')
    among_seats at' h = subst (λ k. Goes' (Help drives (record { head = head; seats = k; at = at' }))) (sym among) h

    behind_goes : (word : ℕ) (does : Work S W) → IsBehind does → WorkFits word does → PhaseFacts (scene_of words ghosts) mech.setup.seats mech.seat mech.number (in_queue.Helps head drives (Complete word)) → (works_for_client does ≡ true → LeavesQueue (work_request form does head word) words)
        → Goes mech.setup.seats mech.seat words ghosts (in_queue.Helps head drives (Complete word)) (work_request form does head word) (λ seen. stepped form (helper (Known word does)) seen mech)
    behind_goes word does behind fits h client =
        work_goes form mech.setup.seats mech.seat few words ghosts long sound mech drives head p word among h.0 h.1.0 h.1.1 h.2 does behind fits rounds client

    help_goes : (at' : Helping S W) → HelpingFits at' → HelpKnows at' → TheirsLeave at' → Goes' (helper at')
    help_goes (Record known) fits h client = among_seats (Record known) (call.met_goes form mech words ghosts few inside long sound some most drives head known h)
    help_goes (Known word work.Head) fits h client = among_seats (Known word work.Head) (call.head_goes form mech words ghosts few inside long sound some most drives head word h)
    help_goes (Known word work.Op) fits h client = behind_goes word work.Op tt fits h client
    help_goes (Known word (work.Value op)) fits h client = behind_goes word (work.Value op) tt fits h client
    help_goes (Known word (work.Generate op s step)) fits h client = behind_goes word (work.Generate op s step) tt fits h client
    help_goes (Known word (work.Fill stores made)) fits h client = behind_goes word (work.Fill stores made) tt fits h client
    help_goes (Known word (work.Advance to)) fits h client = behind_goes word (work.Advance to) tt fits h client
    help_goes (Known word (work.Read read)) fits h client = behind_goes word (work.Read read) tt fits h client
    help_goes (Known word (work.Execute run)) fits h client = behind_goes word (work.Execute run) tt fits h client
    help_goes (Known word (work.Wrap wrap)) fits h client = behind_goes word (work.Wrap wrap) tt fits h client
    help_goes (Remove removal) fits h client = among_seats (Remove removal) (call.removal_goes form mech words ghosts few inside long sound some most drives head removal h)

  -- ---- all phases

  pub phase_goes : (phase : Phase S W) → rests phase ≡ false → PhaseFacts (scene_of words ghosts) mech.setup.seats mech.seat (next_number phase mech.number) (phase_view phase) → PhaseFits mech.setup.seats phase
      → (is_for_client phase ≡ true → LeavesQueue (request_in form phase mech) words) → Goes' phase
  phase_goes Idle runs h fits client = absurd cc
  phase_goes Begin runs h fits client = fast.begin_goes form mech words ghosts long sound h
  phase_goes Look runs h fits client = call.look_goes form mech words ghosts few inside long sound some most h
  phase_goes (Generate s step) runs h fits client = fast.generate_goes form mech words ghosts long sound s step client h.0 h.1
  phase_goes (Apply run stores step) runs h fits client = fast.apply_goes form mech words ghosts long sound run stores step fits client h.0 h.1
  phase_goes (Wrap wrap) runs h fits client = fast.wrap_goes form mech words ghosts long sound wrap (client refl) h.0 h.1
  phase_goes (Announce announcing.Value) runs h fits client = call.value_goes form mech words ghosts few inside long sound some most h
  phase_goes (Announce announcing.Op) runs h fits client = call.op_goes form mech words ghosts few inside long sound some most low h
  phase_goes (Announce announcing.Record) runs h fits client = call.record_goes form mech words ghosts few inside long sound some most h
  phase_goes (Enter owner) runs h fits client = call.enter_goes form mech words ghosts few inside long sound some most owner h
  phase_goes Drive runs h fits client = call.drive_goes form mech words ghosts few inside long sound some most h
  phase_goes (Help drives help) runs h fits client = help_goes drives help.head help.seats fits.0 help.at fits.1 h client
  phase_goes Collect runs h fits client = call.collect_goes form mech words ghosts few inside long sound some most h
  phase_goes (Value reference) runs h fits client = fast.value_goes form mech words ghosts long sound reference h
  phase_goes (End reply) runs h fits client = fast.end_goes form mech words ghosts long sound reply h
