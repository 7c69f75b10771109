-- A published call ends with the outcome of its record.
use Rattle.std.proofs.Common.{◌≡◌, refl, ap, sym, subst, ◌∙◌, ℕ, ◌<◌, Bool, true, false, cond, List, Some, arith}
use Rattle.std.specs.Prelude.{◌==◌, ◌&&◌}
use Rattle.std.proofs.lemmas.Bool.{cond-false, eqb-true, and_parts}
use Rattle.std.proofs.lemmas.Option.{same_Some, slice_get_within}
use Rattle.lin_report.specs.declared.calls.Outcome.{Outcome}
use Rattle.step_memory.specs.declared.steps.Request.TheVariants.{Load, Exchange}
use Rattle.step_memory.specs.Step.{seen_of}
use Rattle.step_memory.proofs.Words.{load_tells}
use Rattle.word_fields.specs.Records.{record_phase, record_number}
use Rattle.node_arena.specs.declared.places.TheConstants.{QUEUE}
use Rattle.node_arena.specs.MemoryMap.{record_place}
use Rattle.op_record.specs.Outcomes.{is_completed}
use Rattle.normal_traits.specs.NormalForm.{NormalForm}
use Rattle.help_queue.specs.declared.enter.Entering.TheVariants.{Running, Entered, Finished}
use Rattle.help_queue.specs.declared.enter.EnterStage.{EnterStage}
use Rattle.help_queue.specs.declared.enter.EnterStage.TheVariants as enter
use Rattle.help_queue.specs.Gathers.{among_seats, gather_over, holds, entered_word}
use Rattle.help_queue.specs.Enters.{entering_in, enter_request_in, finishes, outcome_or_done}
use Rattle.help_queue_laws.specs.Ghosts.{Ghosts}
use Rattle.help_queue_laws.specs.Runs.{record_in}
use Rattle.help_queue_laws.proofs.Known.Scenes.{scene_of}
use Rattle.help_queue_laws.proofs.Known.Knowledge.{PhaseFacts}
use Rattle.help_queue_laws.proofs.Steps.HelpsWithoutChange.{completed_phase}
use Rattle.help_queue_laws.proofs.Steps.Results.{seat_word}
use Rattle.fast_slow_engine.specs.declared.phases.Phase.{Phase}
use Rattle.fast_slow_engine.specs.declared.phases.Phase.TheVariants as phase
use Rattle.fast_slow_engine.specs.Mechs.{Mech}
use Rattle.fast_slow_engine.specs.PhaseTable.{request_in}
use Rattle.fast_slow_engine.specs.Runs.{run_of}
use Rattle.run_queue.specs.QueueViews.{phase_view, next_number}
use Rattle.run_queue.specs.QueueGhosts.{queue_ghosts}
use Rattle.run_queue.specs.QueueLaws.{EndsCompleted, OutcomesHold, finished_with, outcome_in}
use Rattle.run_queue.proofs.Runs.RunMoves.{runs_queued}

looks_none : (x : Bool) (outcome : Outcome) → finished_with (cond x Entered Running) ≡ Some outcome → ⊥
looks_none true outcome h = cc
looks_none false outcome h = cc

finished : (over won found own : Bool) (told outcome : Outcome) → finished_with (cond over (cond (won && found) Entered Running) (cond own (Finished told) Running)) ≡ Some outcome → (over ≡ false) × (own ≡ true) × (told ≡ outcome)
finished true true true own told outcome h = absurd (cc)
finished true true false own told outcome h = absurd (cc)
finished true false found own told outcome h = absurd (cc)
finished false won found true told outcome h = (refl, refl, same_Some told outcome h)
finished false won found false told outcome h = absurd (cc)

module _ {S W : Type 0} (form : NormalForm S W) (seats : ℕ) (words : List ℕ) (ghosts : Ghosts) (i : ℕ) (small : i < 8) (mech : Mech S W) (own : mech.seat ≡ i) where
  enter_ends : (seat : ℕ) (stage : EnterStage) (outcome : Outcome) → seat ≡ i → record_number (record_in words i) ≡ mech.number → finished_with (entering_in stage seat (seen_of (enter_request_in stage) words)) ≡ Some outcome → EndsCompleted words i mech outcome
  enter_ends seat enter.Look outcome same number h = absurd (looks_none (holds (seen_of (Load QUEUE) words).before seat) outcome h)
  enter_ends seat (enter.Gathers g) outcome same number h =
      let seen = seen_of (enter_request_in (enter.Gathers g)) words in
      let f = finished (gather_over g) seen.won (among_seats seat g.found) (finishes g seat seen.before) (outcome_or_done seen.before) outcome h in
      let parts = and_parts (g.next == seat) (is_completed (record_phase seen.before)) f.1 in
      let asked = cond-false (gather_over g) (Exchange QUEUE g.word (entered_word g)) (Load (record_place g.next)) f.0 in
      let loaded : seen.before ≡ record_in words i = ap (λ r. (seen_of r words).before) asked ∙ load_tells (record_place g.next) words ∙ ap (record_in words) (eqb-true g.next seat parts.0 ∙ same) in
      record { completed = ap record_phase (sym loaded) ∙ completed_phase (record_phase seen.before) parts.1; number = number; told = sym f.2 ∙ ap outcome_or_done loaded }

  ends : (p : Phase S W) (outcome : Outcome) → PhaseFacts (scene_of words ghosts) seats i (next_number p mech.number) (phase_view p) → outcome_in p (seen_of (request_in form p mech) words) ≡ Some outcome → EndsCompleted words i mech outcome
  ends (phase.Enter owner) outcome h is = enter_ends owner.seat owner.stage outcome h.seat (ap record_number (sym (seat_word i _ small)) ∙ h.mine.number) is
  ends phase.Collect outcome h is =
      let loaded = load_tells (record_place mech.seat) words ∙ ap (record_in words) own in
      record {
        completed = ap record_phase (sym (seat_word i (record_in words i) small)) ∙ h.1;
        number = ap record_number (sym (seat_word i (record_in words i) small)) ∙ h.0.number;
        told = sym (same_Some _ outcome is) ∙ ap outcome_or_done loaded;
      }
  ends phase.Idle outcome h is = absurd cc
  ends phase.Begin outcome h is = absurd cc
  ends phase.Look outcome h is = absurd cc
  ends (phase.Generate s step) outcome h is = absurd cc
  ends (phase.Apply run stores step) outcome h is = absurd cc
  ends (phase.Wrap wrap) outcome h is = absurd cc
  ends (phase.Announce step) outcome h is = absurd cc
  ends phase.Drive outcome h is = absurd cc
  ends (phase.Help drives help) outcome h is = absurd cc
  ends (phase.Value reference) outcome h is = absurd cc
  ends (phase.End reply) outcome h is = absurd cc

module _ {S W : Type 0} (form : NormalForm S W) where
  pub outcomes_hold : OutcomesHold form
  outcomes_hold setup moves are keeps i mech found outcome is =
      let q = runs_queued form setup moves are keeps in
      let state = run_of form setup moves in
      let inside = subst (λ n. i < n) q.count (slice_get_within state.mechs i mech found) in
      let few = setup.few_seats in
      ends form setup.seats state.words (queue_ghosts form setup moves) i (omega (arith, inside, few)) mech (q.seats i mech found).seat mech.phase outcome (q.knows i mech found) is
