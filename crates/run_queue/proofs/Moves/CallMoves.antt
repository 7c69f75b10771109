-- Steps of a call that looks at the queue, announces itself, enters, drives, helps and collects: they are those of
-- its seat in the queue.
use Rattle.std.proofs.Common.{◌≡◌, refl, ap, sym, subst, ℕ, ◌+◌, ◌-◌, ◌<◌, ◌≤◌, ◌^◌, Bool, true, false, if◌then◌else◌, List, length, arith, Option, None}
use Rattle.lin_report.specs.declared.calls.Outcome.{Outcome}
use Rattle.step_memory.specs.declared.steps.Request.{Request}
use Rattle.step_memory.specs.declared.steps.Request.TheVariants.{Load, Store}
use Rattle.step_memory.specs.declared.steps.Seen.{Seen}
use Rattle.step_memory.specs.Step.{seen_of}
use Rattle.word_fields.specs.declared.records.RecordPhase.TheVariants.{Generate as GENERATE}
use Rattle.word_fields.specs.Announced.{op_word, value_word}
use Rattle.word_fields.specs.Records.{record_word}
use Rattle.node_arena.specs.MemoryMap.{op_place, record_place, value_place}
use Rattle.normal_traits.specs.NormalForm.{NormalForm}
use Rattle.help_queue.specs.declared.enter.Entering.{Entering}
use Rattle.help_queue.specs.declared.enter.Entering.TheVariants as entering_to
use Rattle.help_queue.specs.Enters.{Owner, entering, enter_fed, outcome_or_done}
use Rattle.help_queue.specs.Gathers.{holds}
use Rattle.help_queue.specs.Heads.{head_of}
use Rattle.node_arena.specs.declared.places.TheConstants.{QUEUE}
use Rattle.help_queue.specs.Removes.{Removal}
use Rattle.help_queue_laws.specs.declared.phases.QueuePhase as queue
use Rattle.help_queue_laws.specs.declared.phases.QueuePhase.TheVariants as in_queue
use Rattle.help_queue_laws.specs.declared.phases.Helping as seen_at
use Rattle.help_queue_laws.specs.declared.phases.Helping.TheVariants as at
use Rattle.help_queue_laws.specs.Callers as callers
use Rattle.help_queue_laws.specs.Callers.{Caller, number_of, caller_request, caller_fed}
use Rattle.help_queue_laws.specs.Ghosts.{Ghosts}
use Rattle.help_queue_laws.proofs.Known.Scenes.{Scene, scene_of, IsSound, IsOut}
use Rattle.help_queue_laws.proofs.Known.Knowledge.{PhaseFacts}
use Rattle.help_queue_laws.proofs.Steps.Results.{Moved}
use Rattle.help_queue_laws.proofs.Steps.AnnounceAndCollect.{value_moves, op_moves}
use Rattle.help_queue_laws.proofs.Steps.EveryStep.{caller_moves}
use Rattle.fast_slow_engine.specs.declared.phases.Phase.{Phase}
use Rattle.fast_slow_engine.specs.declared.phases.Phase.TheVariants as phase
use Rattle.fast_slow_engine.specs.declared.phases.Announcing.TheVariants as announcing
use Rattle.fast_slow_engine.specs.declared.help.Helping.TheVariants.{Record, Known, Remove}
use Rattle.fast_slow_engine.specs.declared.help.Work.TheVariants as work
use Rattle.fast_slow_engine.specs.Mechs.{Mech}
use Rattle.fast_slow_engine.specs.PhaseTable.{told, tried, entered, head_helped, help_stepped, request_in, stepped}
use Rattle.run_queue.specs.QueueViews.{phase_view}
use Rattle.run_queue.proofs.Views.CallViews.{Views, knows_by, views_number, views_tried, views_begun, views_driven, views_told}
use Rattle.run_queue.proofs.Moves.Beside.{Goes, beside_goes, leaves_load, free_same, out_same}
use Rattle.run_queue.proofs.Views.HelpViews.{helper, record_views, head_views, remove_views}

module _ {S W : Type 0} (form : NormalForm S W) (mech : Mech S W) (words : List ℕ) (ghosts : Ghosts) (few : mech.setup.seats ≤ 8) (inside : mech.seat < mech.setup.seats) (long : 32 ≤ length words) (sound : IsSound (scene_of words ghosts))
    (some : 1 ≤ mech.number) (most : mech.number ≤ 65535) where
  abbrev was : Scene
  was = scene_of words ghosts

  abbrev seats : ℕ
  seats = mech.setup.seats

  abbrev i : ℕ
  i = mech.seat

  abbrev made : ℕ
  made = mech.number - 1

  number : mech.number ≡ made + 1
  number = omega (arith, some)

  abbrev caller_at : queue.QueuePhase → Caller
  caller_at at = record { seat = mech.seat; seats = mech.setup.seats; made = mech.number - 1; phase = at }

  abbrev Facts : queue.QueuePhase → Type 0
  Facts at = PhaseFacts (scene_of words ghosts) mech.setup.seats mech.seat mech.number at

  facts_made : (at : queue.QueuePhase) → Facts at → PhaseFacts was seats i (made + 1) at
  facts_made at h = subst (λ n. PhaseFacts was seats i n at) number h

  -- the step of its seat in the world of the queue
  by_caller : (at : queue.QueuePhase) → Facts at → Moved seats i words ghosts at (caller_request (caller_at at)) (caller_fed (caller_at at))
  by_caller at h = caller_moves seats i inside few words ghosts long sound (caller_at at) (omega (arith, some, most)) (record { seat = refl; seats' = refl; knows = facts_made at h })

  goes_by : (at : queue.QueuePhase) (request : Request) (next : Seen → Caller) (new : Seen → Mech S W) → Moved seats i words ghosts at request next → ((seen : Seen) → Views seats (new seen) (number_of (next seen)) (next seen).phase) → Goes seats i words ghosts at request new
  goes_by at request next new moved views =
      let seen = seen_of request words in
      record { sound = moved.sound; later = moved.later; knows = knows_by _ seats i (number_of (next seen)) (new seen) (next seen).phase (views seen) moved.knows.knows; fits = (views seen).fits }

  abbrev pub Goes' : Phase S W → Type 0
  Goes' phase = Goes mech.setup.seats mech.seat words ghosts (phase_view phase) (request_in form phase mech) (λ seen. stepped form phase seen mech)

  -- ---- looks

  pub look_goes : Facts in_queue.Look → Goes' phase.Look
  look_goes h =
      goes_by in_queue.Look _ (caller_fed (caller_at in_queue.Look)) (λ seen. head_helped form (head_of seen.before) false mech) (by_caller in_queue.Look h)
      (λ seen. views_number seats (made + 1) mech.number (head_helped form (head_of seen.before) false mech) (callers.help_begun seen.before seats false) number (views_begun form seen.before false mech))

  pub drive_goes : Facts in_queue.Drive → Goes' phase.Drive
  drive_goes h =
      goes_by in_queue.Drive _ (caller_fed (caller_at in_queue.Drive)) (λ seen. stepped form phase.Drive seen mech) (by_caller in_queue.Drive h)
      (λ seen. views_number seats (made + 1) mech.number (stepped form phase.Drive seen mech) (if holds seen.before mech.seat then callers.help_begun seen.before mech.setup.seats true else in_queue.Collect) number (views_driven form seen mech))

  -- ---- the call is announced

  pub value_goes : Facts in_queue.StoreValue → Goes' (phase.Announce announcing.Value)
  value_goes h =
      let new : Seen → Mech S W = λ seen. stepped form (phase.Announce announcing.Value) seen mech in
      let facts = facts_made in_queue.StoreValue h in
      subst (λ n. Goes seats i words ghosts in_queue.StoreValue (Store (value_place i) (value_word n mech.op.value)) new) (sym number)
      (goes_by in_queue.StoreValue (Store (value_place i) (value_word (made + 1) mech.op.value)) (caller_fed (caller_at in_queue.StoreValue)) new
      (value_moves seats i made inside few (omega (arith, some, most)) words ghosts long sound mech.op.value facts.0 facts.1)
      (λ seen. record { phase' = refl; number = number; fits = tt }))

  pub op_goes : mech.op.code < 2 ^ 4 → Facts in_queue.StoreOp → Goes' (phase.Announce announcing.Op)
  op_goes low h =
      let new : Seen → Mech S W = λ seen. stepped form (phase.Announce announcing.Op) seen mech in
      let facts = facts_made in_queue.StoreOp h in
      subst (λ n. Goes seats i words ghosts in_queue.StoreOp (Store (op_place i) (op_word mech.op.code n mech.op.key)) new) (sym number)
      (goes_by in_queue.StoreOp (Store (op_place i) (op_word mech.op.code (made + 1) mech.op.key)) (caller_fed (caller_at in_queue.StoreOp)) new
      (op_moves seats i made inside few (omega (arith, some, most)) words ghosts long sound mech.op.code mech.op.key low facts.0 facts.1 facts.2)
      (λ seen. record { phase' = refl; number = number; fits = tt }))

  pub record_goes : Facts in_queue.StoreRecord → Goes' (phase.Announce announcing.Record)
  record_goes h =
      let new : Seen → Mech S W = λ seen. stepped form (phase.Announce announcing.Record) seen mech in
      subst (λ n. Goes seats i words ghosts in_queue.StoreRecord (Store (record_place i) (record_word GENERATE n 0 0)) new) (sym number)
      (goes_by in_queue.StoreRecord (Store (record_place i) (record_word GENERATE (made + 1) 0 0)) (caller_fed (caller_at in_queue.StoreRecord)) new (by_caller in_queue.StoreRecord h)
      (λ seen. record { phase' = refl; number = number; fits = tt }))

  -- ---- entering, and the outcome

  told_views : (outcome : Outcome) → Views seats (told outcome mech) (made + 1 + 1) in_queue.Look
  told_views outcome = views_number seats (made + 1 + 1) (mech.number + 1) _ in_queue.Look (ap (λ n. n + 1) number) (views_told seats outcome mech)

  entered_views : (what : Entering) (owner : Owner) (at : queue.QueuePhase) → Views seats (entered what owner mech) (number_of (callers.entered what owner (caller_at at))) (callers.entered what owner (caller_at at)).phase
  entered_views entering_to.Running owner at = record { phase' = refl; number = number; fits = tt }
  entered_views entering_to.Entered owner at = record { phase' = refl; number = number; fits = tt }
  entered_views (entering_to.Finished outcome) owner at = told_views outcome

  pub enter_goes : (owner : Owner) → Facts (in_queue.Enters owner) → Goes' (phase.Enter owner)
  enter_goes owner h =
      goes_by (in_queue.Enters owner) _ (caller_fed (caller_at (in_queue.Enters owner))) (λ seen. stepped form (phase.Enter owner) seen mech) (by_caller (in_queue.Enters owner) h)
      (λ seen. entered_views (entering owner seen) (enter_fed owner seen) (in_queue.Enters owner))

  pub collect_goes : Facts in_queue.Collect → Goes' phase.Collect
  collect_goes h =
      goes_by in_queue.Collect _ (caller_fed (caller_at in_queue.Collect)) (λ seen. stepped form phase.Collect seen mech) (by_caller in_queue.Collect h)
      (λ seen. told_views (outcome_or_done seen.before))

  -- ---- helping

  module _ (drives : Bool) (head : ℕ) where
    abbrev view : seen_at.Helping → queue.QueuePhase
    view at' = in_queue.Helps head drives at'

    abbrev seen_phase : seen_at.Helping → Seen → queue.QueuePhase
    seen_phase at' seen = (caller_fed (caller_at (in_queue.Helps head drives at')) seen).phase

    at_made : (at' : seen_at.Helping) (seen : Seen) (new : Mech S W) → Views seats new mech.number (seen_phase at' seen) → Views seats new (made + 1) (seen_phase at' seen)
    at_made at' seen new v = views_number seats (made + 1) mech.number new (seen_phase at' seen) number v

    pub met_goes : (known : Option ℕ) → Facts (view (at.Record known)) → Goes' (phase.Help drives (helper form seats head mech.number drives (Record known)))
    met_goes known h =
        goes_by (view (at.Record known)) _ (caller_fed (caller_at (view (at.Record known)))) (λ seen. help_stepped form drives (helper form seats head mech.number drives (Record known)) seen mech) (by_caller (view (at.Record known)) h)
        (λ seen. at_made (at.Record known) seen _ (record_views form seats head mech.number drives known seen mech refl))

    pub head_goes : (word : ℕ) → Facts (view (at.Head word)) → Goes' (phase.Help drives (helper form seats head mech.number drives (Known word work.Head)))
    head_goes word h =
        goes_by (view (at.Head word)) _ (caller_fed (caller_at (view (at.Head word)))) (λ seen. help_stepped form drives (helper form seats head mech.number drives (Known word work.Head)) seen mech) (by_caller (view (at.Head word)) h)
        (λ seen. at_made (at.Head word) seen _ (head_views form seats head mech.number drives word seen mech h.1.0 refl))

    pub removal_goes : (removal : Removal) → Facts (view (at.Removes removal)) → Goes' (phase.Help drives (helper form seats head mech.number drives (Remove removal)))
    removal_goes removal h =
        goes_by (view (at.Removes removal)) _ (caller_fed (caller_at (view (at.Removes removal)))) (λ seen. help_stepped form drives (helper form seats head mech.number drives (Remove removal)) seen mech) (by_caller (view (at.Removes removal)) h)
        (λ seen. at_made (at.Removes removal) seen _ (remove_views form seats head mech.number drives removal seen mech refl))
