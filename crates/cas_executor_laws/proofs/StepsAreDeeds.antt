-- A step of a run is a deed of its block, and the run knows what it needs afterwards.
use Rattle.std.proofs.Common.{◌≡◌, ◌≢◌, ◌∙◌, refl, sym, ap, subst, ℕ, ◌+◌, ◌<◌, ◌≤◌, ◌==◌, if◌then◌else◌, Bool, true, false, inl, inr, List, length, Some, slice_get, arith}
use Rattle.std.proofs.lemmas.Bool.{cases_eq, eq-eqb, ne_eqb}
use Rattle.std.proofs.lemmas.Option.{slice_get_within}
use Rattle.step_memory.specs.declared.steps.Seen.{Seen}
use Rattle.word_fields.specs.Versioned.{versioned_bit, marked_word}
use Rattle.normal_traits.specs.declared.lists.Entry.{Entry}
use Rattle.cas_executor.specs.declared.fast_run.Execution.TheVariants.{Running, Stopped}
use Rattle.cas_executor.specs.declared.slow_run.EntryState.{EntryState}
use Rattle.cas_executor.specs.declared.slow_run.EntryState.TheVariants.{Pending, Succeeded, Failed}
use Rattle.cas_executor.specs.declared.slow_run.SlowStep.{SlowStep}
use Rattle.cas_executor.specs.declared.slow_run.SlowStep.TheVariants.{LoadState, Install, LoadTarget, Succeed, Fail, LoadDecision, Clear}
use Rattle.cas_executor.specs.SlowRuns.{SlowWalk, state_place, entry_state, step_request, request_at, slow_request, slow_fed, slow_execution, fed_at, execution_at, at_step, past_entry, looked, decided, step_after_look, step_after_decision, step_after_target}
use Rattle.cas_executor_laws.specs.ExecRuns.{IsEntry}
use Rattle.cas_executor_laws.specs.Entries.{IsPast, Life, Later}
use Rattle.cas_executor_laws.specs.Parts.{Site, IsSite, Offered, OwnDeed, Deed, RequestMade, IsDone, KnowsEntry, Knows, KnowsStop, Helps, ShowsTaken, TookBy, view_in}
use Rattle.cas_executor_laws.proofs.OneEntry.{shown_past, shown_bit}
use Rattle.cas_executor_laws.proofs.OfferedPartsKept.{entry_at, all_later, knows_later, knows_kept}
use Rattle.cas_executor_laws.proofs.Exchanges.{load_saw, exchange_did}
use Rattle.cas_executor_laws.proofs.Exchanges.Exchanged.{won, lost}
use Rattle.cas_executor_laws.proofs.RunTurns.{OwnTurn, own_turn, other_turn, state_beside, same_entry}

-- the states by their words
pub failed_of : (word : ℕ) → word ≢ 0 → word ≢ 1 → entry_state word ≡ Failed
failed_of word some other = ap (λ b. if b then Pending else (if word == 1 then Succeeded else Failed)) (ne_eqb word 0 some) ∙ ap (λ b. if b then Succeeded else Failed) (ne_eqb word 1 other)

pub state_pending : (word : ℕ) → entry_state word ≡ Pending → word ≡ 0
state_pending word e =
    elim (cases_eq word 0) [
      | inl none ↦ none
      | inr some ↦ elim (cases_eq word 1) [
        | inl one ↦ absurd (let both : Succeeded ≡ Pending = sym (ap entry_state one) ∙ e in cc)
        | inr other ↦ absurd (let both : Failed ≡ Pending = sym (failed_of word some other) ∙ e in cc)
      ]
    ]

pub state_succeeded : (word : ℕ) → entry_state word ≡ Succeeded → word ≡ 1
state_succeeded word e =
    elim (cases_eq word 1) [
      | inl one ↦ one
      | inr other ↦ elim (cases_eq word 0) [
        | inl none ↦ absurd (let both : Pending ≡ Succeeded = sym (ap entry_state none) ∙ e in cc)
        | inr some ↦ absurd (let both : Failed ≡ Succeeded = sym (failed_of word some other) ∙ e in cc)
      ]
    ]

pub state_failed : (word : ℕ) → entry_state word ≡ Failed → (word ≢ 0) × (word ≢ 1)
state_failed word e =
    (λ none. absurd (let both : Pending ≡ Failed = sym (ap entry_state none) ∙ e in cc), λ one. absurd (let both : Succeeded ≡ Failed = sym (ap entry_state one) ∙ e in cc))

-- a known state that is neither 0 nor 1
pub two_left : (word : ℕ) → word ≤ 2 → word ≢ 0 → word ≢ 1 → word ≡ 2
two_left word small some other = omega (arith, small, some, other)

module _ (site : Site) (is : IsSite site) (words after : ℕ → ℕ) (took took' : ℕ → Bool) (walk : SlowWalk) (seen : Seen) where
  -- the request of a run that goes on is that of its step
  pub request_is : Knows site words took walk → (entry : Entry) → IsEntry site.entries walk.next entry → slow_request walk ≡ step_request site.block walk.next entry walk.step
  request_is k entry listed =
      ap (λ es. request_at walk (slice_get es walk.next)) k.entries ∙ ap (request_at walk) listed ∙ ap (λ b. step_request b walk.next entry walk.step) k.block

  made_is : Knows site words took walk → (entry : Entry) → IsEntry site.entries walk.next entry → RequestMade (slow_request walk) words after seen → RequestMade (step_request site.block walk.next entry walk.step) words after seen
  made_is k entry listed made = subst (λ r. RequestMade r words after seen) (request_is k entry listed) made

  -- ---- the deed

  turn_of : Knows site words took walk → RequestMade (slow_request walk) words after seen → TookBy walk seen took took' → (j : ℕ) (entry : Entry) → IsEntry site.entries j entry
      → OwnTurn entry (view_in site words took j entry) (view_in site after took' j entry)
  turn_of k made t j entry listed =
      elim (cases_eq j walk.next) [
        | inl same ↦ subst (λ i. OwnTurn entry (view_in site words took i entry) (view_in site after took' i entry)) (sym same)
            (let listed' : IsEntry site.entries walk.next entry = subst (λ i. IsEntry site.entries i entry) same listed in
            own_turn site is words after took took' seen walk.next entry k.within listed' walk.step (made_is k entry listed' made) (k.at_entry entry listed') t.won t.lost)
        | inr apart ↦ (let own = entry_at site.entries walk.next k.within in
            other_turn site is words after took took' seen walk.next own.0 k.within own.1 walk.step (made_is k own.0 own.1 made) j entry (slice_get_within site.entries j entry listed) listed apart (t.others j apart))
      ]

  earlier : Knows site words took walk → (j : ℕ) → j ≡ walk.next → (i : ℕ) → i < j → words (state_place site.block i) ≡ 1
  earlier k j same i before =
      let own = entry_at site.entries i (omega (arith, k.within, same, before)) in
      (k.done i own.0 own.1 (omega (arith, same, before))).succeeded

  pub deed_of : Knows site words took walk → RequestMade (slow_request walk) words after seen → TookBy walk seen took took' → OwnDeed site words took after took'
  deed_of k made t =
      record {
        deed = record {
          turns = λ j entry listed. (turn_of k made t j entry listed).turn;
          taken = λ j within differs. earlier k j (is_next_by_took j differs);
          decided = λ j within differs. earlier k j (is_next_by_state j within differs);
        };
        leaves = λ j entry listed. (turn_of k made t j entry listed).leaves;
      }
    where
      is_next_by_took : (j : ℕ) → took' j ≢ took j → j ≡ walk.next
      is_next_by_took j differs = elim (cases_eq j walk.next) [ inl same ↦ same | inr apart ↦ absurd (differs (t.others j apart)) ]

      is_next_by_state : (j : ℕ) → j < length site.entries → after (state_place site.block j) ≢ words (state_place site.block j) → j ≡ walk.next
      is_next_by_state j within differs =
          elim (cases_eq j walk.next) [
            | inl same ↦ same
            | inr apart ↦ absurd (differs (let own = entry_at site.entries walk.next k.within in
                (made_is k own.0 own.1 made).beside (state_place site.block j) (state_beside site is words after took took' seen walk.next own.0 k.within own.1 walk.step j within apart)))
          ]

  -- ---- what the run knows afterwards

  module _ (on : Offered site words took) (shows : ShowsTaken site words took walk.next) (k : Knows site words took walk) (deed : Deed site words took after took') (entry : Entry) (listed : IsEntry site.entries walk.next entry) where
    leaves : Later entry (view_in site words took walk.next entry) (view_in site after took' walk.next entry)
    leaves = all_later site is words took after took' deed on.lives walk.next entry listed

    life : Life entry (view_in site words took walk.next entry)
    life = on.lives walk.next entry listed

    kept : Knows site after took' walk
    kept = knows_kept site is words took after took' deed on.lives walk k

    -- the run goes on with a step for which it knows enough
    goes_on : (step : SlowStep) → KnowsEntry step entry (view_in site after took' walk.next entry) → Knows site after took' (at_step step walk)
    goes_on step knows =
        record {
          block = kept.block;
          entries = kept.entries;
          within = kept.within;
          done = kept.done;
          at_entry = λ other listed'. subst (λ e. KnowsEntry step e (view_in site after took' walk.next e)) (same_entry site.entries walk.next entry other listed listed') knows;
        }

    -- it stops where the entry failed
    stops : words (state_place site.block walk.next) ≡ 2 → KnowsStop site after took' walk.next
    stops two =
        record {
          within = omega (arith, k.within);
          done = kept.done;
          failed = λ within. leaves.decided (λ e. absurd (omega (arith, e, two))) ∙ two;
        }

    -- the first look at the state
    looked_helps : (state : EntryState) → entry_state (words (state_place site.block walk.next)) ≡ state → Helps site after took' (at_step (step_after_look state) walk) (looked state walk.next)
    looked_helps Pending e = goes_on Install tt
    looked_helps Succeeded e =
        let one = state_succeeded _ e in
        goes_on Clear (knows_later Clear entry _ _ leaves (life.taken (life.succeeded one), one))
    looked_helps Failed e = let other = state_failed _ e in stops (two_left _ life.known other.0 other.1)

    -- the look after the decision
    decided_helps : words (state_place site.block walk.next) ≢ 0 → IsPast entry (view_in site words took walk.next entry) → (state : EntryState) → entry_state (words (state_place site.block walk.next)) ≡ state
        → Helps site after took' (at_step (step_after_decision state) walk) (decided state walk.next)
    decided_helps some past Pending e = absurd (some (state_pending _ e))
    decided_helps some past Succeeded e = goes_on Clear (knows_later Clear entry _ _ leaves (past, state_succeeded _ e))
    decided_helps some past Failed e = let other = state_failed _ e in stops (two_left _ life.known other.0 other.1)

    -- the look at the target
    judged : IsPast entry (view_in site words took walk.next entry) → seen.before ≡ words entry.target → Knows site after took' (at_step (step_after_target (slice_get walk.entries walk.next) seen.before) walk)
    judged past saw =
        let there : slice_get walk.entries walk.next ≡ Some entry = ap (λ (es : List Entry). slice_get es walk.next) k.entries ∙ listed in
        subst (λ o. Knows site after took' (at_step (step_after_target o seen.before) walk)) (sym there)
        (elim (cases_eq seen.before (marked_word entry.to)) [
          | inl shown ↦ subst (λ b. Knows site after took' (at_step (if b then Succeed else Fail) walk)) (sym (eq-eqb seen.before (marked_word entry.to) shown))
              (goes_on Succeed (knows_later Succeed entry _ _ leaves (past, shows entry listed (sym saw ∙ shown))))
          | inr other ↦ subst (λ b. Knows site after took' (at_step (if b then Succeed else Fail) walk)) (sym (ne_eqb seen.before (marked_word entry.to) other))
              (goes_on Fail (knows_later Fail entry _ _ leaves (past, λ open_. (not_taken (took walk.next) refl open_ (λ shown. other (saw ∙ shown)), λ shown. other (saw ∙ shown)))))
        ])
      where
        not_taken : (b : Bool) → took walk.next ≡ b → words (state_place site.block walk.next) ≡ 0 → (words entry.target ≡ marked_word entry.to → ⊥) → took walk.next ≡ false
        not_taken true taken open_ gone = absurd (gone (life.pending open_ taken))
        not_taken false isnt open_ gone = isnt

    -- the bit is clear: the entry is done, and the run goes on with the next or stops behind the last
    done_more : IsDone entry (view_in site after took' walk.next entry) → (j : ℕ) (other : Entry) → IsEntry site.entries j other → j < walk.next + 1 → IsDone other (view_in site after took' j other)
    done_more done j other listed' before =
        elim (cases_eq j walk.next) [
          | inl same ↦ subst (λ i. IsDone other (view_in site after took' i other)) (sym same)
              (subst (λ e. IsDone e (view_in site after took' walk.next e)) (same_entry site.entries walk.next entry other listed (subst (λ i. IsEntry site.entries i other) same listed')) done)
          | inr apart ↦ kept.done j other listed' (omega (arith, before, apart))
        ]

    passed : IsDone entry (view_in site after took' walk.next entry) → Helps site after took' (past_entry walk) (if walk.next + 1 == length walk.entries then Stopped (length walk.entries) else Running)
    passed done =
        let same : length walk.entries ≡ length site.entries = ap length k.entries in
        elim (cases_eq (walk.next + 1) (length walk.entries)) [
          | inl last ↦ subst (λ b. Helps site after took' (past_entry walk) (if b then Stopped (length walk.entries) else Running)) (sym (eq-eqb (walk.next + 1) (length walk.entries) last))
              (let stop : KnowsStop site after took' (length walk.entries) = record {
                within = omega (arith, same);
                done = λ j other listed' before. done_more done j other listed' (omega (arith, before, last));
                failed = λ within. absurd (omega (arith, within, same));
              } in stop)
          | inr more ↦ subst (λ b. Helps site after took' (past_entry walk) (if b then Stopped (length walk.entries) else Running)) (sym (ne_eqb (walk.next + 1) (length walk.entries) more))
              (let on : Knows site after took' (past_entry walk) = record {
                block = k.block;
                entries = k.entries;
                within = omega (arith, k.within, same, more);
                done = done_more done;
                at_entry = λ other listed'. tt;
              } in on)
        ]

    -- each step
    step_helps : (step : SlowStep) → RequestMade (step_request site.block walk.next entry step) words after seen → KnowsEntry step entry (view_in site words took walk.next entry) → Helps site after took' (fed_at step walk seen) (execution_at step walk seen)
    step_helps LoadState made knows = looked_helps (entry_state seen.before) (sym (ap entry_state (load_saw _ words after seen made)))
    step_helps Install made knows =
        goes_on LoadTarget (elim (exchange_did _ _ _ words after seen made) [
          | won at there others saw ↦ shown_past entry (is.raised walk.next entry listed) (view_in site after took' walk.next entry) there
          | lost differs same saw ↦ leaves.past (elim (on.seen walk.next entry listed) [ inl at ↦ absurd (differs at) | inr past ↦ past ])
        ])
    step_helps LoadTarget made knows = judged knows (load_saw _ words after seen made)
    step_helps Succeed made knows =
        goes_on LoadDecision (
          leaves.past knows.0,
          elim (exchange_did _ _ _ words after seen made) [
            | won at there others saw ↦ λ e. absurd (omega (arith, e, there))
            | lost differs same saw ↦ λ e. differs (sym (same (state_place site.block walk.next)) ∙ e)
          ],
        )
    step_helps Fail made knows =
        goes_on LoadDecision (
          leaves.past knows.0,
          elim (exchange_did _ _ _ words after seen made) [
            | won at there others saw ↦ λ e. absurd (omega (arith, e, there))
            | lost differs same saw ↦ λ e. differs (sym (same (state_place site.block walk.next)) ∙ e)
          ],
        )
    step_helps LoadDecision made knows = decided_helps knows.1 knows.0 (entry_state seen.before) (sym (ap entry_state (load_saw _ words after seen made)))
    step_helps Clear made knows =
        passed (record {
          succeeded = leaves.decided (λ e. absurd (omega (arith, e, knows.1))) ∙ knows.1;
          past = leaves.past knows.0;
          gone = elim (exchange_did _ _ _ words after seen made) [
            | won at there others saw ↦ λ shown. absurd (omega (arith, shown_bit entry (is.raised walk.next entry listed) _ shown, ap versioned_bit there, (is.raised walk.next entry listed).to_clear))
            | lost differs same saw ↦ λ shown. differs (sym (same entry.target) ∙ shown)
          ];
        })

  pub helps_after : Offered site words took → ShowsTaken site words took walk.next → Knows site words took walk → RequestMade (slow_request walk) words after seen → TookBy walk seen took took'
      → Helps site after took' (slow_fed walk seen) (slow_execution walk seen)
  helps_after on shows k made t =
      let own = entry_at site.entries walk.next k.within in
      step_helps on shows k (deed_of k made t).deed own.0 own.1 walk.step (made_is k own.0 own.1 made) (k.at_entry own.0 own.1)
