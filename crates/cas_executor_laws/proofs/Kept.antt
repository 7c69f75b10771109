-- The invariant of a world, after any acts.
use Rattle.std.proofs.Common.{◌≡◌, ◌≢◌, ◌∙◌, refl, sym, ap, subst, ℕ, zero, suc, ◌+◌, ◌<◌, ◌≤◌, ◌==◌, if◌then◌else◌, Bool, true, false, nat_lt, inl, inr, List, [], ◌∷◌, length, length-set, Some, slice_get, slice_index, slice_set, arith}
use Rattle.std.proofs.lemmas.Bool.{cases_eq, eq-eqb, ne_eqb, lt-ltb}
use Rattle.std.proofs.lemmas.Option.{slice_get_within}
use Rattle.step_memory.specs.declared.steps.Seen.{Seen}
use Rattle.step_memory.specs.Step.{requested_place, words_after, seen_of}
use Rattle.step_memory.proofs.Words.{length-words_after}
use Rattle.word_fields.specs.Versioned.{versioned_bit, versioned_version, changed_word}
use Rattle.word_fields.proofs.ChangedWords.{bit-changed, version-changed_below}
use Rattle.normal_traits.specs.declared.lists.Entry.{Entry}
use Rattle.cas_executor.specs.declared.fast_run.Execution.TheVariants.{Running}
use Rattle.cas_executor.specs.declared.slow_run.SlowStep.{SlowStep}
use Rattle.cas_executor.specs.declared.slow_run.SlowStep.TheVariants.{LoadState, Install, LoadTarget, Succeed, Fail, LoadDecision, Clear}
use Rattle.cas_executor.specs.SlowRuns.{installs, slow_request, slow_fed, slow_execution, state_place, step_request}
use Rattle.cas_executor_laws.specs.ExecRuns.{ExecSetup, ExecState, Helping, Act, CanOpen, CanChange, AreActs, IsEntry, acted, helper_fed, helper_new, opening_world, stepped_by, wins, wins_by, world_of}
use Rattle.cas_executor_laws.specs.ExecRuns.Act.{Steps, Changes}
use Rattle.cas_executor_laws.specs.Entries.{Later}
use Rattle.cas_executor_laws.specs.Entries.Turn.{stays, moves}
use Rattle.cas_executor_laws.specs.Entries.Moves.{raised}
use Rattle.cas_executor_laws.specs.Parts.{Offered, OwnsBits, OwnDeed, RequestMade, Knows, Helps, ShowsTaken, TookBy, view_in, Site, IsSite}
use Rattle.cas_executor_laws.proofs.OneEntry.{true≢false, at_from, shown_bit}
use Rattle.cas_executor_laws.proofs.OfferedPartsKept.{all_later, shows_by_bits, entry_at, offered_kept, bits_kept, helps_kept}
use Rattle.cas_executor_laws.proofs.RunTurns.{OwnTurn}
use Rattle.cas_executor_laws.proofs.Exchanges.{exchange_did}
use Rattle.cas_executor_laws.proofs.Exchanges.Exchanged.{won, lost}
use Rattle.cas_executor_laws.proofs.StepsAreDeeds.{deed_of, helps_after, request_is}
use Rattle.cas_executor_laws.proofs.Sets.{at_set, beside_set, some_same, copy_at, all_three, first_fails, second_fails, third_fails, each_of_three}
use Rattle.cas_executor_laws.proofs.Memories.{memory_of, step_made, word_set, word_beside}
use Rattle.cas_executor_laws.proofs.SitesInside.{site_of, is_site, step_inside}

-- what a helper's step sees, and the words that it leaves
abbrev pub seen_by : Helping → List ℕ → Seen
seen_by helper words = seen_of (slow_request helper.walk) words

abbrev pub left_by : Helping → List ℕ → List ℕ
left_by helper words = words_after (slow_request helper.walk) words

-- the words after a change by someone else
abbrev pub changed_at : List ℕ → ℕ → ℕ → List ℕ
changed_at words at value = slice_set words at (changed_word (slice_index words at) value)

-- which entries took effect, by how often the listed exchange of each has won
abbrev pub took_of : (ℕ → ℕ) → ℕ → Bool
took_of count j = nat_lt 0 (count j)

pub record Kept (setup : ExecSetup) (state : ExecState) (count : ℕ → ℕ) : Type 0 where
  pub entries : state.entries ≡ setup.entries
  pub room : length state.words ≡ length setup.words
  pub offered : Offered (site_of setup) (memory_of state.words) (took_of count)
  pub bits : OwnsBits (site_of setup) (memory_of state.words) (took_of count)
  pub helps : (at : ℕ) (helper : Helping) → slice_get state.helpers at ≡ Some helper → Helps (site_of setup) (memory_of state.words) (took_of count) helper.walk helper.execution
  pub once : (j : ℕ) → count j ≤ 1

none_taken : (b : Bool) → b ≡ false → b ≡ true → ⊥
none_taken b isnt is = true≢false b is isnt

-- ---- the opening

module _ (setup : ExecSetup) (can : CanOpen setup) where
  all_pending : (j : ℕ) → j < length setup.entries → memory_of setup.words (state_place setup.block j) ≡ 0
  all_pending j within = can.pending j (omega (arith, within, can.short.1))

  opens_unset : (j : ℕ) (entry : Entry) → IsEntry setup.entries j entry → versioned_bit (memory_of setup.words entry.target) ≡ 0
  opens_unset j entry listed =
      let c = can.listed j entry listed in
      elim c.holds [
        | inl at ↦ ap versioned_bit at ∙ c.clear
        | inr past ↦ past.0
      ]

  opens_with : Offered (site_of setup) (memory_of setup.words) (λ j. false)
  opens_with =
      record {
        seen = λ j entry listed. (elim (can.listed j entry listed).holds [ inl at ↦ inl at | inr past ↦ inr past.1 ]);
        lives = λ j entry listed. (let waits : memory_of setup.words (state_place setup.block j) ≡ 0 = all_pending j (slice_get_within setup.entries j entry listed) in
            record {
              known = omega (arith, waits);
              taken = λ is. absurd (none_taken false refl is);
              pending = λ open_ is. absurd (none_taken false refl is);
              succeeded = λ one. absurd (omega (arith, waits, one));
              failed = λ two. refl;
              failed_past = λ two. absurd (omega (arith, waits, two));
              failed_gone = λ two. absurd (omega (arith, waits, two));
            });
        order = λ j within. record {
          taken = λ is. absurd (none_taken false refl is);
          decided = λ some. absurd (some (all_pending j within));
        };
      }

  pub kept_open : Kept setup (opening_world setup) (λ j. 0)
  kept_open =
      record {
        entries = refl;
        room = refl;
        offered = opens_with;
        bits = λ j entry listed. record {
          shown = λ set. absurd (omega (arith, set, opens_unset j entry listed));
          took = λ set. absurd (omega (arith, set, opens_unset j entry listed));
        };
        helps = λ at helper here. subst (λ (h : Helping). Helps (site_of setup) (memory_of setup.words) (λ j. false) h.walk h.execution) (sym (copy_at setup.helpers at (helper_new setup.block setup.entries) helper here))
            (let starts : Knows (site_of setup) (memory_of setup.words) (λ j. false) (helper_new setup.block setup.entries).walk = record {
              block = refl;
              entries = refl;
              within = can.short.0;
              done = λ j entry listed before. absurd (omega (arith, before));
              at_entry = λ entry listed. tt;
            } in starts);
        once = λ j. (omega arith);
      }

-- ---- counts

pub count_none : (n : ℕ) → nat_lt 0 n ≡ false → n ≡ 0
count_none zero e = refl
count_none (suc n) e = absurd (true≢false (nat_lt 0 (suc n)) (lt-ltb 0 (suc n) (omega arith)) e)

count_some : (n : ℕ) → nat_lt 0 (n + 1) ≡ true
count_some n = lt-ltb 0 (n + 1) (omega arith)

-- how often each has won, after a step of a helper
abbrev pub counted : Helping → List ℕ → (ℕ → ℕ) → ℕ → ℕ
counted helper words count j = if wins_by j (Some helper) words then count j + 1 else count j

is_install : (step : SlowStep) → installs step ≡ true → step ≡ Install
is_install Install e = refl
is_install LoadState e = absurd cc
is_install LoadTarget e = absurd cc
is_install Succeed e = absurd cc
is_install Fail e = absurd cc
is_install LoadDecision e = absurd cc
is_install Clear e = absurd cc

-- ---- a step of a helper

module _ (setup : ExecSetup) (can : CanOpen setup) (state : ExecState) (count : ℕ → ℕ) (k : Kept setup state count) where
  abbrev site : Site
  site = site_of setup

  abbrev was : ℕ → ℕ
  was = memory_of state.words

  abbrev took_before : ℕ → Bool
  took_before = took_of count

  good : IsSite (site_of setup)
  good = is_site setup can

  shows : (j : ℕ) → ShowsTaken site was took_before j
  shows j = shows_by_bits site good was took_before k.bits j

  module _ (at : ℕ) (helper : Helping) (here : slice_get state.helpers at ≡ Some helper) (running : helper.execution ≡ Running) where
    abbrev seen : Seen
    seen = seen_by helper state.words

    abbrev now : ℕ → ℕ
    now = memory_of (left_by helper state.words)

    abbrev took_now : ℕ → Bool
    took_now = took_of (counted helper state.words count)

    knows : Knows site was took_before helper.walk
    knows = subst (λ e. Helps site was took_before helper.walk e) running (k.helps at helper here)

    inside : requested_place (slow_request helper.walk) < length state.words
    inside =
        let own = entry_at setup.entries helper.walk.next knows.within in
        let asks = request_is site good was was took_before took_before helper.walk seen knows own.0 own.1 in
        subst (λ n. requested_place (slow_request helper.walk) < n) (sym k.room)
        (subst (λ r. requested_place r < length setup.words) (sym asks) (step_inside setup can helper.walk.next own.0 knows.within own.1 helper.walk.step))

    made : RequestMade (slow_request helper.walk) was now seen
    made = step_made (slow_request helper.walk) state.words inside

    took_by : TookBy helper.walk seen took_before took_now
    took_by =
        let more = λ (j : ℕ) (b : Bool). nat_lt 0 (if b then count j + 1 else count j) in
        let next = helper.walk.next in
        record {
          won = λ listed win. ap (more next) (all_three (installs helper.walk.step) (next == next) seen.won listed (eq-eqb next next refl) win) ∙ count_some (count next);
          others = λ j apart. ap (more j) (second_fails (installs helper.walk.step) (next == j) seen.won (ne_eqb next j (λ e. apart (sym e))));
          lost = λ either. elim either [
            | inl none ↦ ap (more next) (first_fails (installs helper.walk.step) (next == next) seen.won none)
            | inr fails ↦ ap (more next) (third_fails (installs helper.walk.step) (next == next) seen.won fails)
          ];
        }

    own : OwnDeed site was took_before now took_now
    own = deed_of site good was now took_before took_now helper.walk seen knows made took_by

    helps_now : Helps site now took_now (slow_fed helper.walk seen) (slow_execution helper.walk seen)
    helps_now = helps_after site good was now took_before took_now helper.walk seen k.offered (shows helper.walk.next) knows made took_by

    -- a listed exchange that wins finds an entry that hasn't taken effect
    first_win : installs helper.walk.step ≡ true → seen.won ≡ true → count helper.walk.next ≡ 0
    first_win listed win =
        let at_entry = entry_at setup.entries helper.walk.next knows.within in
        let asks = request_is site good was was took_before took_before helper.walk seen knows at_entry.0 at_entry.1 in
        let exchange : slow_request helper.walk ≡ step_request setup.block helper.walk.next at_entry.0 Install = asks ∙ ap (step_request setup.block helper.walk.next at_entry.0) (is_install helper.walk.step listed) in
        let made' = subst (λ r. RequestMade r was now seen) exchange made in
        elim (exchange_did _ _ _ was now seen made') [
          | won from there others saw ↦ count_none (count helper.walk.next) (at_from at_entry.0 (good.raised helper.walk.next at_entry.0 at_entry.1) (view_in site was took_before helper.walk.next at_entry.0) (k.offered.lives helper.walk.next at_entry.0 at_entry.1) from).1
          | lost differs same saw ↦ absurd (true≢false _ win saw)
        ]

    counts_once : (j : ℕ) (b : Bool) → wins_by j (Some helper) state.words ≡ b → (if b then count j + 1 else count j) ≤ 1
    counts_once j false e = k.once j
    counts_once j true e =
        let all = each_of_three (installs helper.walk.step) (helper.walk.next == j) seen.won e in
        elim (cases_eq helper.walk.next j) [
          | inl same ↦ omega (arith, first_win all.0 all.2, ap count same)
          | inr apart ↦ absurd (true≢false _ all.1 (ne_eqb helper.walk.next j apart))
        ]

    helps_all : (i : ℕ) (other : Helping) → slice_get (slice_set state.helpers at (helper_fed helper seen)) i ≡ Some other
        → Helps site now took_now other.walk other.execution
    helps_all i other there =
        let fed = helper_fed helper seen in
        elim (cases_eq i at) [
          | inl same ↦ subst (λ (h : Helping). Helps site now took_now h.walk h.execution)
              (some_same fed other (sym (at_set state.helpers at fed (slice_get_within state.helpers at helper here)) ∙ subst (λ n. slice_get (slice_set state.helpers at fed) n ≡ Some other) same there))
              helps_now
          | inr apart ↦ helps_kept site good was took_before now took_now own.deed k.offered.lives other.walk other.execution
              (k.helps i other (sym (beside_set state.helpers at i fed apart) ∙ there))
        ]

    -- what the step leaves of each entry
    pub run_later : (j : ℕ) (entry : Entry) → IsEntry setup.entries j entry → Later entry (view_in site was took_before j entry)
        (view_in site (memory_of (stepped_by at (Some helper) state).words) took_now j entry)
    run_later j entry listed = all_later site good was took_before now took_now own.deed k.offered.lives j entry listed

    pub run_kept : Kept setup (stepped_by at (Some helper) state) (counted helper state.words count)
    run_kept =
        record {
          entries = k.entries;
          room = length-words_after (slow_request helper.walk) state.words ∙ k.room;
          offered = offered_kept site good was took_before now took_now own.deed k.offered;
          bits = bits_kept site good was took_before now took_now own.deed own.leaves k.bits;
          helps = helps_all;
          once = λ j. counts_once j (wins_by j (Some helper) state.words) refl;
        }

  -- ---- a change by someone else

  module _ (at value : ℕ) (change : CanChange state at value) where
    abbrev changed : ℕ → ℕ
    changed = memory_of (changed_at state.words at value)

    listed_here : IsEntry setup.entries change.j change.entry
    listed_here = subst (λ es. IsEntry es change.j change.entry) k.entries change.listed

    at_inside : at < length state.words
    at_inside = omega (arith, (can.listed change.j change.entry listed_here).inside, change.target, k.room)

    no_state : (j : ℕ) → j < length setup.entries → state_place setup.block j ≢ at
    no_state j within e = good.outside j change.j change.entry (omega (arith, within, can.short.1)) listed_here (change.target ∙ sym e)

    state_same : (j : ℕ) → j < length setup.entries → memory_of (changed_at state.words at value) (state_place setup.block j) ≡ memory_of state.words (state_place setup.block j)
    state_same j within = word_beside state.words at (changed_word (slice_index state.words at) value) (state_place setup.block j) (no_state j within)

    here_now : (place : ℕ) → place ≡ at → memory_of (changed_at state.words at value) place ≡ changed_word (slice_index state.words at) value
    here_now place same = ap changed same ∙ word_set state.words at (changed_word (slice_index state.words at) value) at_inside

    change_turn : (j : ℕ) (entry : Entry) → IsEntry setup.entries j entry → OwnTurn entry (view_in site was took_before j entry) (view_in site changed took_before j entry)
    change_turn j entry listed =
        let within = slice_get_within setup.entries j entry listed in
        elim (cases_eq entry.target at) [
          | inl same ↦ (let old_word : memory_of state.words entry.target ≡ slice_index state.words at = ap was same in
              let new_word = here_now entry.target same in
              record {
                turn = moves (raised (omega (arith, ap versioned_version old_word, ap versioned_version new_word, version-changed_below (slice_index state.words at) value change.small (omega (arith, change.below)))))
                    (λ open_ is. absurd (omega (arith, change.clear, ap versioned_bit old_word, shown_bit entry (good.raised j entry listed) _ ((k.offered.lives j entry listed).pending open_ is))))
                    (state_same j within) refl;
                leaves = λ set. absurd (omega (arith, set, ap versioned_bit new_word, bit-changed (slice_index state.words at) value change.small));
              })
          | inr apart ↦ record { turn = stays (state_same j within) (word_beside state.words at (changed_word (slice_index state.words at) value) entry.target apart) refl; leaves = tt }
        ]

    change_deed : OwnDeed site was took_before changed took_before
    change_deed =
        record {
          deed = record {
            turns = λ j entry listed. (change_turn j entry listed).turn;
            taken = λ j within differs. absurd (differs refl);
            decided = λ j within differs. absurd (differs (state_same j within));
          };
          leaves = λ j entry listed. (change_turn j entry listed).leaves;
        }

    -- what the change leaves of each entry
    pub change_later : (j : ℕ) (entry : Entry) → IsEntry setup.entries j entry → Later entry (view_in site was took_before j entry)
        (view_in site (memory_of (acted (Changes at value) state).words) took_before j entry)
    change_later j entry listed = all_later site good was took_before changed took_before change_deed.deed k.offered.lives j entry listed

    pub change_kept : Kept setup (acted (Changes at value) state) count
    change_kept =
        record {
          entries = k.entries;
          room = length-set state.words at (changed_word (slice_index state.words at) value) ∙ k.room;
          offered = offered_kept site good was took_before changed took_before change_deed.deed k.offered;
          bits = bits_kept site good was took_before changed took_before change_deed.deed change_deed.leaves k.bits;
          helps = λ i other there. helps_kept site good was took_before changed took_before change_deed.deed k.offered.lives other.walk other.execution (k.helps i other there);
          once = k.once;
        }

-- ---- all acts

pub kept : (setup : ExecSetup) → CanOpen setup → (acts : List Act) → AreActs setup acts → Kept setup (world_of setup acts) (wins setup acts)
kept setup can [] are = kept_open setup can
kept setup can (Steps at ∷ older) are =
    let state = world_of setup older in
    let count = wins setup older in
    subst (λ o. Kept setup (stepped_by at o state) (λ j. if wins_by j o state.words then count j + 1 else count j)) (sym are.1.here)
    (run_kept setup can state count (kept setup can older are.0) at are.1.helper are.1.here are.1.running)
kept setup can (Changes at value ∷ older) are = change_kept setup can (world_of setup older) (wins setup older) (kept setup can older are.0) at value are.1
