-- The laws of every run, from what holds of its scene and of each seat.
use Rattle.std.proofs.Common.{◌≡◌, ℕ, ◌+◌, ◌<◌, ◌≤◌, Bool, true, false, cond, List, [], ◌∷◌, ◌++◌, refl, ap, sym, ◌∙◌, subst, arith, inl, inr, ◌⊎◌, Option, Some, None, slice_get}
use Rattle.std.specs.Prelude.{nat_lt, ◌==◌, ◌&&◌, unwrap_or}
use Rattle.std.proofs.lemmas.Bool.{cases_Bool, cond-true, cond-false, eqb-true, and_parts, ltb-true}
use Rattle.std.proofs.lemmas.Option.{slice_get_within, same_Some}
use Rattle.lin_report.specs.declared.calls.Reply.TheVariants.{Done}
use Rattle.lin_report.specs.declared.calls.Outcome.{Outcome}
use Rattle.lin_report.specs.declared.calls.Outcome.TheVariants.{Plain}
use Rattle.step_memory.specs.declared.steps.Request.TheVariants.{Load, Exchange}
use Rattle.step_memory.specs.Step.{seen_of}
use Rattle.step_memory.proofs.Words.{load_tells}
use Rattle.word_fields.specs.Records.{record_phase, record_number, record_of}
use Rattle.word_fields.specs.Queues.{queue_version}
use Rattle.node_arena.specs.declared.places.TheConstants.{QUEUE}
use Rattle.node_arena.specs.MemoryMap.{record_place}
use Rattle.op_record.specs.Outcomes.{is_completed, outcome_of}
use Rattle.help_queue.specs.declared.enter.Entering.TheVariants.{Running, Entered, Finished}
use Rattle.help_queue.specs.declared.enter.EnterStage.{EnterStage}
use Rattle.help_queue.specs.declared.enter.EnterStage.TheVariants as enter
use Rattle.help_queue.specs.Gathers.{among_seats, holds, gather_over, entered_word}
use Rattle.help_queue.specs.Enters.{entering_in, enter_request_in, finishes, outcome_or_done}
use Rattle.help_queue_laws.specs.declared.phases.QueuePhase.{QueuePhase}
use Rattle.help_queue_laws.specs.declared.phases.QueuePhase.TheVariants.{Look, StoreValue, StoreOp, StoreRecord, Enters, Drive, Collect, Helps}
use Rattle.help_queue_laws.specs.Callers.{Caller, finished_with, number_of, outcome_in, request_in}
use Rattle.help_queue_laws.specs.Worlds.{QueueWorld, stepped_by, stepped_of, world_of}
use Rattle.help_queue_laws.specs.Ghosts.{Ghosts, ghosts_of}
use Rattle.help_queue_laws.specs.Runs.{queue_in, record_in}
use Rattle.help_queue_laws.specs.Members.{HasMembers, MembersHold, HelpedHold}
use Rattle.help_queue_laws.specs.Gatherings.{GathersHold, RemovalsHold}
use Rattle.help_queue_laws.specs.Entries.{EntriesHold, HasEntries}
use Rattle.help_queue_laws.specs.Endings.{EndingsHold, EndsDone}
use Rattle.help_queue_laws.specs.Versions.{OneWordEach, VersionsRise, queue_after}
use Rattle.help_queue_laws.proofs.Known.Scenes.{Scene, scene_of, IsDone}
use Rattle.help_queue_laws.proofs.Known.Knowledge.{IsMine, PhaseFacts}
use Rattle.help_queue_laws.proofs.Steps.HelpsWithoutChange.{completed_phase}
use Rattle.help_queue_laws.proofs.Steps.EveryStep.{caller_moves}
use Rattle.help_queue_laws.proofs.Known.SceneLaws.{record_is, members_in, belongs, helped, gather_known, gathered, removes, entry_known, by_second, loses_two}
use Rattle.help_queue_laws.proofs.Runs.EveryRunHolds.{IsRunning, every_run}

module _ (seats calls : ℕ) (world : QueueWorld) (ghosts : Ghosts) (few : seats ≤ 8) (run : IsRunning seats calls world ghosts) where
  abbrev here : Scene
  here = scene_of world.words ghosts

  inside : (i : ℕ) (caller : Caller) → slice_get world.callers i ≡ Some caller → i < seats
  inside i caller found = subst (λ n. i < n) run.count (slice_get_within world.callers i caller found)

  below : (i : ℕ) (caller : Caller) → slice_get world.callers i ≡ Some caller → i < 8
  below i caller found = let less = inside i caller found in omega (arith, less, few)

  members : HasMembers world
  members = record {
    queue = members_in seats world.words ghosts few run.sound;
    callers = λ i caller found. belongs seats world.words ghosts few run.sound i (number_of caller) caller.phase (below i caller found) (run.knows i caller found).knows;
  }

  entries : HasEntries world ghosts
  entries = record {
    exchanges = λ i caller found g is over. by_second seats world.words ghosts few run.sound i g (inside i caller found) (entry_known seats world.words ghosts few run.sound i (number_of caller) caller.phase g (run.knows i caller found).knows is) over;
    losses = λ i caller found. loses_two seats world.words ghosts few run.sound i (number_of caller) caller.phase (run.knows i caller found).knows;
  }

  -- ---- endings

  done_ends : (i : ℕ) (caller : Caller) (word : ℕ) (outcome : Outcome) → i < 8 → word ≡ record_in world.words i → IsDone here i → record_number (here.records i) ≡ number_of caller → outcome_or_done word ≡ outcome → EndsDone world.words i caller outcome
  done_ends i caller word outcome small loaded done number is =
      let same = record_is seats world.words ghosts few run.sound i small in
      let told : outcome_of (record_of (record_in world.words i)) ≡ Some (Plain Done) = sym (ap (λ w. outcome_of (record_of w)) same) ∙ run.ends i done in
      record {
        outcome' = sym is ∙ ap outcome_or_done loaded ∙ ap (λ o. unwrap_or o (Plain Done)) told;
        completed = sym (ap record_phase same) ∙ done;
        number = sym (ap record_number same) ∙ number;
        told = told;
      }

  looks_none : (x : Bool) (outcome : Outcome) → finished_with (cond x Entered Running) ≡ Some outcome → ⊥
  looks_none true outcome h = cc
  looks_none false outcome h = cc

  finished : (over won found own : Bool) (told outcome : Outcome) → finished_with (cond over (cond (won && found) Entered Running) (cond own (Finished told) Running)) ≡ Some outcome → (over ≡ false) × (own ≡ true) × (told ≡ outcome)
  finished true true true own told outcome h = absurd (cc)
  finished true true false own told outcome h = absurd (cc)
  finished true false found own told outcome h = absurd (cc)
  finished false won found true told outcome h = (refl, refl, same_Some told outcome h)
  finished false won found false told outcome h = absurd (cc)

  enter_ends : (i : ℕ) (caller : Caller) (seat : ℕ) (stage : EnterStage) (outcome : Outcome) → i < 8 → seat ≡ i → IsMine here i (number_of caller)
      → finished_with (entering_in stage seat (seen_of (enter_request_in stage) world.words)) ≡ Some outcome → EndsDone world.words i caller outcome
  enter_ends i caller seat enter.Look outcome small same mine h = absurd (looks_none (holds (seen_of (Load QUEUE) world.words).before seat) outcome h)
  enter_ends i caller seat (enter.Gathers g) outcome small same mine h =
      let seen = seen_of (enter_request_in (enter.Gathers g)) world.words in
      let f = finished (gather_over g) seen.won (among_seats seat g.found) (finishes g seat seen.before) (outcome_or_done seen.before) outcome h in
      let parts = and_parts (g.next == seat) (is_completed (record_phase seen.before)) f.1 in
      let asked = cond-false (gather_over g) (Exchange QUEUE g.word (entered_word g)) (Load (record_place g.next)) f.0 in
      let here' : g.next ≡ i = eqb-true g.next seat parts.0 ∙ same in
      let loaded : seen.before ≡ record_in world.words i = ap (λ r. (seen_of r world.words).before) asked ∙ load_tells (record_place g.next) world.words ∙ ap (record_in world.words) here' in
      let done : IsDone here i = ap record_phase (record_is seats world.words ghosts few run.sound i small) ∙ ap record_phase (sym loaded) ∙ completed_phase (record_phase seen.before) parts.1 in
      done_ends i caller seen.before outcome small loaded done mine.number f.2

  ends : (i : ℕ) (caller : Caller) (phase : QueuePhase) (outcome : Outcome) → i < 8 → caller.seat ≡ i → PhaseFacts here seats i (number_of caller) phase → outcome_in phase (seen_of (request_in phase caller) world.words) ≡ Some outcome → EndsDone world.words i caller outcome
  ends i caller Look outcome small same h is = absurd (cc)
  ends i caller StoreValue outcome small same h is = absurd (cc)
  ends i caller StoreOp outcome small same h is = absurd (cc)
  ends i caller StoreRecord outcome small same h is = absurd (cc)
  ends i caller (Enters owner) outcome small same h is = enter_ends i caller owner.seat owner.stage outcome small h.seat h.mine is
  ends i caller Drive outcome small same h is = absurd (cc)
  ends i caller Collect outcome small same h is =
      let loaded = load_tells (record_place caller.seat) world.words ∙ ap (record_in world.words) same in
      done_ends i caller (seen_of (Load (record_place caller.seat)) world.words).before outcome small loaded h.1 h.0.number (same_Some _ outcome is)
  ends i caller (Helps s announced at) outcome small same h is = absurd (cc)

  -- ---- versions

  version_step : (seat : ℕ) (o : Option Caller) → calls ≤ 65535 → slice_get world.callers seat ≡ o
      → (queue_in (stepped_of o seat world).words ≡ queue_in world.words) ⊎ (queue_version (queue_in (stepped_of o seat world).words) ≡ queue_version (queue_in world.words) + 1)
  version_step seat None fits found = inl refl
  version_step seat (Some caller) fits found =
      elim (cases_Bool (nat_lt caller.made world.calls)) [
        | inl more ↦ subst (λ (w : QueueWorld). (queue_in w.words ≡ queue_in world.words) ⊎ (queue_version (queue_in w.words) ≡ queue_version (queue_in world.words) + 1)) (sym (cond-true (nat_lt caller.made world.calls) (stepped_by seat caller world) world more))
            (let c = run.calls' in
            let fewer = ltb-true caller.made world.calls more in
            let moved = caller_moves seats seat (inside seat caller found) few world.words ghosts (omega (arith, run.long)) run.sound caller (omega (arith, fewer, c, fits)) (run.knows seat caller found) in
            elim moved.later.queue [ inl same ↦ inl same | inr changed ↦ inr changed.version ])
        | inr over ↦ inl (ap (λ (w : QueueWorld). queue_in w.words) (cond-false (nat_lt caller.made world.calls) (stepped_by seat caller world) world over))
      ]

-- ---- the laws

pub members_hold : MembersHold
members_hold seats calls steps few fits = members seats calls (world_of seats calls steps) (ghosts_of seats calls steps) few (every_run seats calls few fits steps)

pub helped_hold : HelpedHold
helped_hold seats calls steps few fits i caller found =
    let run = every_run seats calls few fits steps in
    helped seats (world_of seats calls steps).words (ghosts_of seats calls steps) few run.sound i (number_of caller) caller.phase (run.knows i caller found).knows

pub gathers_hold : GathersHold
gathers_hold seats calls steps few fits i caller found g is now =
    let run = every_run seats calls few fits steps in
    let world = world_of seats calls steps in
    let ghosts = ghosts_of seats calls steps in
    gathered seats world.words ghosts few run.sound i g (gather_known seats world.words ghosts few run.sound i (number_of caller) caller.phase g (run.knows i caller found).knows is) now

pub removals_hold : RemovalsHold
removals_hold seats calls steps few fits i caller found =
    let run = every_run seats calls few fits steps in
    removes seats (world_of seats calls steps).words (ghosts_of seats calls steps) few run.sound i (number_of caller) caller.phase (run.knows i caller found).knows

pub entries_hold : EntriesHold
entries_hold seats calls steps few fits = entries seats calls (world_of seats calls steps) (ghosts_of seats calls steps) few (every_run seats calls few fits steps)

pub endings_hold : EndingsHold
endings_hold seats calls steps few fits i caller found outcome is =
    let run = every_run seats calls few fits steps in
    let world = world_of seats calls steps in
    let ghosts = ghosts_of seats calls steps in
    let known = run.knows i caller found in
    ends seats calls world ghosts few run i caller caller.phase outcome (below seats calls world ghosts few run i caller found) known.seat known.knows is

pub versions_rise : VersionsRise
versions_rise seats calls seat older few fits =
    let world = world_of seats calls older in
    version_step seats calls world (ghosts_of seats calls older) few (every_run seats calls few fits older) seat (slice_get world.callers seat) fits refl

-- versions don't fall over steps, so where they agree nothing changed
never_falls : (seats calls : ℕ) (newer older : List ℕ) → seats ≤ 8 → calls ≤ 65535 → (queue_version (queue_after seats calls older) < queue_version (queue_after seats calls (newer ++ older))) ⊎ (queue_after seats calls (newer ++ older) ≡ queue_after seats calls older)
never_falls seats calls [] older few fits = inr refl
never_falls seats calls (seat ∷ newer) older few fits =
    elim (versions_rise seats calls seat (newer ++ older) few fits) [
      | inl same ↦ elim (never_falls seats calls newer older few fits) [
        | inl rose ↦ inl (subst (λ q. queue_version (queue_after seats calls older) < queue_version q) (sym same) rose)
        | inr still' ↦ inr (same ∙ still')
      ]
      | inr up ↦ elim (never_falls seats calls newer older few fits) [
        | inl rose ↦ inl (omega (arith, up, rose))
        | inr still' ↦ (let level = ap queue_version still' in inl (omega (arith, up, level)))
      ]
    ]

pub one_word_each : OneWordEach
one_word_each seats calls newer older few fits level =
    elim (never_falls seats calls newer older few fits) [ inl rose ↦ absurd (omega (arith, level, rose)) | inr same ↦ same ]
