-- The laws of every world, from its invariant.
use Rattle.std.proofs.Common.{◌≡◌, ◌≢◌, ◌∙◌, refl, sym, ap, subst, ℕ, ◌<◌, Bool, true, false, inl, inr, List, ◌∷◌, ◌++◌, length, slice_get, slice_index, Some, arith}
use Rattle.std.proofs.lemmas.Bool.{cases_eq, cases_lt}
use Rattle.std.proofs.lemmas.Option.{slice_get_within}
use Rattle.step_memory.specs.Step.{seen_of}
use Rattle.word_fields.specs.Versioned.{versioned_bit}
use Rattle.word_fields.proofs.ChangedWords.{bit_below}
use Rattle.normal_traits.specs.declared.lists.Entry.{Entry}
use Rattle.cas_executor.specs.declared.fast_run.Execution.{Execution}
use Rattle.cas_executor.specs.declared.fast_run.Execution.TheVariants.{Running, Stopped}
use Rattle.cas_executor.specs.declared.slow_run.EntryState.TheVariants.{Succeeded, Failed}
use Rattle.cas_executor.specs.declared.slow_run.SlowStep.TheVariants.{LoadTarget, Succeed, Fail}
use Rattle.cas_executor.specs.SlowRuns.{SlowWalk, at_step, entry_state, execution_at, fed_at, slow_request, state_place}
use Rattle.cas_executor_laws.specs.ExecRuns.{AreActs, ExecSetup, ExecState, Helping, Act, CanOpen, IsEntry, helper_fed, stepped_by, took, wins, world_of}
use Rattle.cas_executor_laws.specs.ExecRuns.Act.{Steps}
use Rattle.cas_executor_laws.specs.Entries.{IsPast}
use Rattle.cas_executor_laws.specs.Parts.{AreDone, KnowsEntry, Knows, KnowsStop, Helps}
use Rattle.cas_executor_laws.specs.Laws.{AreOf, BehindWaits, BitsBelong, EarlierDone, FailedNever, FailureIsSeen, IsFirstFailed, IsHelperAt, NeverFromAgain, NeverTakes, PendingShows, StopsAgree, StopsAtFirstFailed, StopsClear, SucceededTook, SuccessIsSeen, WinsOnce, reached, target_word}
use Rattle.cas_executor_laws.proofs.OneEntry.{true≢false, past_not_from, shown_bit}
use Rattle.cas_executor_laws.proofs.OfferedPartsKept.{entry_at, stop_clears}
use Rattle.cas_executor_laws.proofs.StepsAreDeeds.{state_failed, state_pending, state_succeeded, two_left}
use Rattle.cas_executor_laws.proofs.Sets.{at_set}
use Rattle.cas_executor_laws.proofs.Memories.{memory_of}
use Rattle.cas_executor_laws.proofs.SitesInside.{site_of, is_site}
use Rattle.cas_executor_laws.proofs.Kept.{count_none, kept, took_of}
use Rattle.cas_executor_laws.proofs.Laters.{acts_later, seen_in}

pub wins_once : WinsOnce
wins_once setup acts j are = (kept setup are.0 acts are.1).once j

pub bits_belong : BitsBelong
bits_belong setup acts j entry are listed set =
    let k = kept setup are.0 acts are.1 in
    let within = slice_get_within setup.entries j entry listed in
    let taken = (k.bits j entry listed).took set in
    record {
      shown = (k.bits j entry listed).shown set;
      taken = taken;
      earlier = λ i before. ap entry_state ((k.offered.order j within).taken taken i before);
      unfailed = λ failed. (let other = state_failed (slice_index (world_of setup acts).words (state_place setup.block j)) failed in
          true≢false (took setup acts j) taken ((k.offered.lives j entry listed).failed (two_left (slice_index (world_of setup acts).words (state_place setup.block j)) (k.offered.lives j entry listed).known other.0 other.1)));
    }

pub pending_shows : PendingShows
pending_shows setup acts j entry are listed pending =
    let k = kept setup are.0 acts are.1 in
    ((k.offered.lives j entry listed).pending (state_pending _ pending), λ shown. (k.bits j entry listed).took (shown_bit entry ((is_site setup are.0).raised j entry listed) _ shown))

pub succeeded_took : SucceededTook
succeeded_took setup acts j are within succeeded =
    let k = kept setup are.0 acts are.1 in
    let at = entry_at setup.entries j within in
    (k.offered.lives j at.0 at.1).succeeded (state_succeeded _ succeeded)

-- an entry that hasn't taken effect, and whose target is past `from`, never does
never_takes : (setup : ExecSetup) (acts : List Act) (j : ℕ) (entry : Entry) → CanOpen setup → IsEntry setup.entries j entry → IsPast entry (seen_in setup acts j entry) → took setup acts j ≡ false → NeverTakes setup acts j
never_takes setup acts j entry can listed past isnt newer are = count_none (wins setup (newer ++ acts) j) ((acts_later setup can newer acts are j entry listed).missed past isnt)

pub failed_never : FailedNever
failed_never setup acts j are within failed =
    let k = kept setup are.0 acts are.1 in
    let at = entry_at setup.entries j within in
    let life = k.offered.lives j at.0 at.1 in
    let other = state_failed (slice_index (world_of setup acts).words (state_place setup.block j)) failed in
    let two = two_left (slice_index (world_of setup acts).words (state_place setup.block j)) life.known other.0 other.1 in
    never_takes setup acts j at.0 are.0 at.1 (life.failed_past two) (life.failed two)

pub behind_waits : BehindWaits
behind_waits setup acts i j are before within unsucceeded =
    let k = kept setup are.0 acts are.1 in
    let order = k.offered.order j within in (
      elim (cases_eq (slice_index (world_of setup acts).words (state_place setup.block j)) 0) [
        | inl none ↦ ap entry_state none
        | inr some ↦ absurd (unsucceeded (ap entry_state (order.decided some i before)))
      ],
      untaken (took setup acts j) refl order.taken,
    )
  where
    untaken : (b : Bool) → took setup acts j ≡ b → (took setup acts j ≡ true → (i : ℕ) → i < j → slice_index (world_of setup acts).words (state_place setup.block i) ≡ 1) → took setup acts j ≡ false
    untaken true is earlier = absurd (unsucceeded (ap entry_state (earlier is i before)))
    untaken false isnt earlier = isnt

-- ---- helpers

-- a helper that hasn't stopped knows what its run needs
knows_of : (setup : ExecSetup) (acts : List Act) (at : ℕ) (helper : Helping) → AreOf setup acts → slice_get (world_of setup acts).helpers at ≡ Some helper → helper.execution ≡ Running
    → Knows (site_of setup) (memory_of (world_of setup acts).words) (took_of (wins setup acts)) helper.walk
knows_of setup acts at helper are here running =
    subst (λ e. Helps (site_of setup) (memory_of (world_of setup acts).words) (took_of (wins setup acts)) helper.walk e) running ((kept setup are.0 acts are.1).helps at helper here)

-- what it knows of its entry
knows_entry : (setup : ExecSetup) (acts : List Act) (at j : ℕ) (step : Rattle.cas_executor.specs.declared.slow_run.SlowStep.SlowStep) (entry : Entry) → AreOf setup acts → IsEntry setup.entries j entry → IsHelperAt (world_of setup acts) at j step
    → KnowsEntry step entry (seen_in setup acts j entry)
knows_entry setup acts at j step entry are listed h =
    let k = knows_of setup acts at h.helper are h.here h.running in
    subst (λ s. KnowsEntry s entry (seen_in setup acts j entry)) h.step_is
    (subst (λ i. KnowsEntry h.helper.walk.step entry (seen_in setup acts i entry)) h.place (k.at_entry entry (subst (λ i. IsEntry setup.entries i entry) (sym h.place) listed)))

pub success_is_seen : SuccessIsSeen
success_is_seen setup acts at j are within h =
    let own = entry_at setup.entries j within in
    (knows_entry setup acts at j Succeed own.0 are own.1 h).1

pub failure_is_seen : FailureIsSeen
failure_is_seen setup acts at j are within h =
    let own = entry_at setup.entries j within in
    let knows = knows_entry setup acts at j Fail own.0 are own.1 h in
    elim (cases_eq (slice_index (world_of setup acts).words (state_place setup.block j)) 0) [
      | inl open_ ↦ inr (never_takes setup acts j own.0 are.0 own.1 knows.0 (knows.1 open_).0)
      | inr some ↦ inl (λ pending. some (state_pending _ pending))
    ]

-- the helper after its step
stepped_here : (state : ExecState) (at : ℕ) (helper : Helping) → slice_get state.helpers at ≡ Some helper
    → slice_get (stepped_by at (slice_get state.helpers at) state).helpers at ≡ Some (helper_fed helper (seen_of (slow_request helper.walk) state.words))
stepped_here state at helper here =
    ap (λ o. slice_get (stepped_by at o state).helpers at) here
    ∙ at_set state.helpers at (helper_fed helper (seen_of (slow_request helper.walk) state.words)) (slice_get_within state.helpers at helper here)

pub never_from_again : NeverFromAgain
never_from_again setup acts at j entry are listed h newer are' =
    let state = world_of setup acts in
    let seen = seen_of (slow_request h.helper.walk) state.words in
    let helps = (kept setup are.0 (Steps at ∷ acts) are.1).helps at (helper_fed h.helper seen) (stepped_here state at h.helper h.here) in
    let knows : Knows (site_of setup) (memory_of (world_of setup (Steps at ∷ acts)).words) (took_of (wins setup (Steps at ∷ acts))) (at_step LoadTarget h.helper.walk) =
    subst (λ s. Helps (site_of setup) (memory_of (world_of setup (Steps at ∷ acts)).words) (took_of (wins setup (Steps at ∷ acts))) (fed_at s h.helper.walk seen) (execution_at s h.helper.walk seen)) h.step_is helps in
    let past : IsPast entry (seen_in setup (Steps at ∷ acts) j entry) =
    subst (λ i. IsPast entry (seen_in setup (Steps at ∷ acts) i entry)) h.place (knows.at_entry entry (subst (λ i. IsEntry setup.entries i entry) (sym h.place) listed)) in
    let later = acts_later setup are.0 newer (Steps at ∷ acts) are' j entry listed in
    past_not_from entry ((is_site setup are.0).raised j entry listed) (seen_in setup (newer ++ (Steps at ∷ acts)) j entry) (later.past past)

helps_done : (setup : ExecSetup) (words : ℕ → ℕ) (taken : ℕ → Bool) (walk : SlowWalk) (execution : Execution) → Helps (site_of setup) words taken walk execution → AreDone (site_of setup) words taken (reached execution walk)
helps_done setup words taken walk Running k = k.done
helps_done setup words taken walk (Stopped stop) k = k.done

pub earlier_done : EarlierDone
earlier_done setup acts at i helper entry are here before listed =
    let k = kept setup are.0 acts are.1 in
    let done = helps_done setup _ _ helper.walk helper.execution (k.helps at helper here) i entry listed before in (
      ap entry_state done.succeeded,
      elim (cases_eq (versioned_bit (target_word setup acts entry)) 1) [
        | inl set ↦ absurd (done.gone ((k.bits i entry listed).shown set))
        | inr unset ↦ omega (arith, unset, bit_below (target_word setup acts entry))
      ],
    )

-- ---- stops

-- what a helper that stopped knows
knows_stop : (setup : ExecSetup) (acts : List Act) (at stop : ℕ) (helper : Helping) → AreOf setup acts → slice_get (world_of setup acts).helpers at ≡ Some helper → helper.execution ≡ Stopped stop
    → KnowsStop (site_of setup) (memory_of (world_of setup acts).words) (took_of (wins setup acts)) stop
knows_stop setup acts at stop helper are here stopped =
    subst (λ e. Helps (site_of setup) (memory_of (world_of setup acts).words) (took_of (wins setup acts)) helper.walk e) stopped ((kept setup are.0 acts are.1).helps at helper here)

pub stops_at_first_failed : StopsAtFirstFailed
stops_at_first_failed setup acts at stop helper are here stopped =
    let k = knows_stop setup acts at stop helper are here stopped in
    record {
      within = k.within;
      earlier = λ i before. (let own = entry_at setup.entries i (omega (arith, before, k.within)) in ap entry_state (k.done i own.0 own.1 before).succeeded);
      failed = λ within. ap entry_state (k.failed within);
    }

pub stops_clear : StopsClear
stops_clear setup acts at stop j helper entry are here stopped listed =
    let k = kept setup are.0 acts are.1 in
    stop_clears (site_of setup) (is_site setup are.0) (memory_of (world_of setup acts).words) (took_of (wins setup acts)) k.offered k.bits stop (knows_stop setup acts at stop helper are here stopped) j entry listed

-- no place is the first failed entry where another before it is
not_before : (setup : ExecSetup) (acts : List Act) (stop stop' : ℕ) → IsFirstFailed setup acts stop → IsFirstFailed setup acts stop' → stop < stop' → ⊥
not_before setup acts stop stop' first second before =
    let both : Succeeded ≡ Failed = sym (second.earlier stop before) ∙ first.failed (omega (arith, before, second.within)) in
    absurd cc

-- the first failed entry stays that
stays_first : (setup : ExecSetup) (newer older : List Act) (stop : ℕ) → CanOpen setup → AreActs setup (newer ++ older) → IsFirstFailed setup older stop → IsFirstFailed setup (newer ++ older) stop
stays_first setup newer older stop can are first =
    record {
      within = first.within;
      earlier = λ i before. (let one = state_succeeded (slice_index (world_of setup older).words (state_place setup.block i)) (first.earlier i before) in
          ap entry_state (stays i (omega (arith, before, first.within)) (λ e. absurd (omega (arith, e, one)))) ∙ first.earlier i before);
      failed = λ within. ap entry_state (stays stop within (state_failed (slice_index (world_of setup older).words (state_place setup.block stop)) (first.failed within)).0) ∙ first.failed within;
    }
  where
    stays : (i : ℕ) → i < length setup.entries → slice_index (world_of setup older).words (state_place setup.block i) ≢ 0
        → slice_index (world_of setup (newer ++ older)).words (state_place setup.block i) ≡ slice_index (world_of setup older).words (state_place setup.block i)
    stays i within some = (let own = entry_at setup.entries i within in (acts_later setup can newer older are i own.0 own.1).decided some)

pub stops_agree : StopsAgree
stops_agree setup newer older at at' stop stop' helper helper' are more here stopped here' stopped' =
    let acts = newer ++ older in
    let first = stays_first setup newer older stop are.0 more (stops_at_first_failed setup older at stop helper are here stopped) in
    let second = stops_at_first_failed setup acts at' stop' helper' (are.0, more) here' stopped' in
    elim (cases_lt stop stop') [
      | inl before ↦ absurd (not_before setup acts stop stop' first second before)
      | inr other ↦ elim (cases_lt stop' stop) [
        | inl after ↦ absurd (not_before setup acts stop' stop second first after)
        | inr same ↦ omega (arith, other, same)
      ]
    ]
