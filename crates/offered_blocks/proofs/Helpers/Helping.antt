-- What a helper may do, as a step of a run: so it is an allowed step, and what holds of all blocks holds after it.
use Rattle.std.proofs.Common.{◌≡◌, ◌≢◌, ◌∙◌, refl, sym, subst, ap, ℕ, ◌<◌, ◌==◌, ◌||◌, Bool, true, false, if◌then◌else◌, inl, inr, Option, Some, ◌⊎◌, arith}
use Rattle.std.proofs.lemmas.Bool.{cases_Bool, cases_eq, eq-eqb, ne_eqb, or_right}
use Rattle.std.proofs.lemmas.Option.{slice_get_within}
use Rattle.step_memory.specs.declared.steps.Request.TheVariants.{Exchange}
use Rattle.step_memory.specs.declared.steps.Seen.{Seen}
use Rattle.word_fields.specs.Versioned.{versioned_version, marked_word}
use Rattle.normal_traits.specs.declared.lists.Entry.{Entry}
use Rattle.normal_traits.specs.World.{World}
use Rattle.normal_traits.specs.NormalForm.{NormalForm}
use Rattle.normal_traits.specs.Laws.{Laws}
use Rattle.normal_traits.specs.Steps.{IsStep, put_word, with_word}
use Rattle.normal_traits.specs.Steps.IsStep.{nothing}
use Rattle.normal_traits.specs.World.Maker.{By}
use Rattle.normal_traits.proofs.Stays.{word_beside, word_put}
use Rattle.cas_executor.specs.declared.slow_run.SlowStep.{SlowStep}
use Rattle.cas_executor.specs.declared.slow_run.SlowStep.TheVariants.{Install, Succeed, Fail, Clear}
use Rattle.cas_executor.specs.SlowRuns.{SlowWalk, installs, request_at, slow_request, state_place, step_request}
use Rattle.cas_executor_laws.specs.ExecRuns.{IsEntry}
use Rattle.cas_executor_laws.specs.Parts.{AreDone, RequestMade, Knows, KnowsEntry, view_in}
use Rattle.cas_executor_laws.proofs.OfferedPartsKept.{entry_at}
use Rattle.offered_blocks.specs.Blocks.{Offer, IsOffer, has_taken, site_of}
use Rattle.offered_blocks.specs.Holds.{HasOffers}
use Rattle.offered_blocks.specs.HelperSteps.{AreBehind, Helps, entered, first_entered, state_at}
use Rattle.offered_blocks.specs.HelperSteps.Helps.{looks, installs_first, installs_second, succeeds, fails, clears_bit}
use Rattle.offered_blocks.proofs.Blocks.Named.{bit_taken, named_now}
use Rattle.offered_blocks.proofs.Helpers.Allowed.{clear_allowed, decide_allowed, first_allowed, second_allowed}
use Rattle.offered_blocks.proofs.Helpers.Executes.{Executes, same_item}
use Rattle.offered_blocks.proofs.Helpers.Executes.Tells.{no_win, wins}
use Rattle.offered_blocks.proofs.Helpers.HelperBlocks.{executes_kept}

-- an exchange that wins, as a step
pub exchange_made : (at from to : ℕ) (words : ℕ → ℕ) → words at ≡ from → RequestMade (Exchange at from to) words (with_word at to words) (record { before = words at; won = words at == from })
exchange_made at from to words stood = record {
  here = word_put at to words at refl ∙ sym (ap (λ (b : Bool). if b then to else words at) (eq-eqb (words at) from stood));
  beside = λ place apart. word_beside at to words place apart;
  tells = refl;
}

or_split : (a b : Bool) → (a || b) ≡ true → (b ≡ true) ⊎ (a ≡ true)
or_split true b e = inr refl
or_split false b e = inl e

from_eqb : (a b : ℕ) → (a == b) ≡ true → a ≡ b
from_eqb a b e = elim (cases_eq a b) [ inl same ↦ same | inr apart ↦ (let none = ne_eqb a b apart in absurd cc) ]

module _ {S W : Type 0} (form : NormalForm S W) (laws : Laws form) (world : World) (offers : ℕ → Option (Offer S)) (holds : HasOffers form world offers)
    (block : ℕ) (offer : Offer S) (stands : offers block ≡ Some offer) where
  mine : IsOffer form world block offer
  mine = holds.blocks.offered block offer stands

  -- entries that succeeded and show nothing are done
  done_of : (j : ℕ) → AreBehind world offer j → AreDone (site_of offer) world.words (has_taken world.journal offer.list) j
  done_of j behind i entry listed before =
      let is = behind i entry listed before in
      let life = mine.parts.lives i entry listed in
      record { succeeded = is.0; past = life.taken (life.succeeded is.0); gone = is.1 }

  abbrev pub walk_at : ℕ → SlowStep → SlowWalk
  walk_at j step = record { block = offer.list.block; entries = offer.list.entries; next = j; step = step }

  some_entry : (a b : Entry) → Some a ≡ Some b → a ≡ b
  some_entry a b e = cc

  knows_of : (j : ℕ) (step : SlowStep) (entry : Entry) → IsEntry offer.list.entries j entry → AreBehind world offer j
      → KnowsEntry step entry (view_in (site_of offer) world.words (has_taken world.journal offer.list) j entry) → Knows (site_of offer) world.words (has_taken world.journal offer.list) (walk_at j step)
  knows_of j step entry listed behind known = record {
    block = refl;
    entries = refl;
    within = slice_get_within offer.list.entries j entry listed;
    done = done_of j behind;
    at_entry = λ other listed'. subst (λ (e : Entry). KnowsEntry step e (view_in (site_of offer) world.words (has_taken world.journal offer.list) j e)) (some_entry entry other (sym listed ∙ listed')) known;
  }

  request_of : (j : ℕ) (step : SlowStep) (entry : Entry) → IsEntry offer.list.entries j entry → step_request offer.list.block j entry step ≡ slow_request (walk_at j step)
  request_of j step entry listed =
      ap (λ (o : Option Entry). request_at (walk_at j step) o) (sym listed)

  few_of : (j : ℕ) (entry : Entry) → IsEntry offer.list.entries j entry → j < 2
  few_of j entry listed = let within = slice_get_within offer.list.entries j entry listed in let short = mine.site.short in omega (arith, within, short)

  -- an exchange that wins
  abbrev Did : ℕ → SlowStep → World → Type 0
  Did j step after = (seen : Seen) × Executes form world after offers block offer (walk_at j step) seen

  -- ---- entries

  nothing_behind : AreBehind world offer 0
  nothing_behind i entry listed before = absurd (omega (arith, before))

  first_did : (entry : Entry) → IsEntry offer.list.entries 0 entry → world.words entry.target ≡ entry.from → Did 0 Install (first_entered form world offer entry)
  first_did entry listed at = (
    record { before = world.words entry.target; won = world.words entry.target == entry.from },
    record {
      stands = stands;
      knows = knows_of 0 Install entry listed nothing_behind tt;
      made = subst (λ r. RequestMade r world.words (first_entered form world offer entry).words (record { before = world.words entry.target; won = world.words entry.target == entry.from })) (request_of 0 Install entry listed)
          (exchange_made entry.target entry.from (marked_word entry.to) world.words at);
      tells = wins refl (eq-eqb (world.words entry.target) entry.from at) entry (form.cause_of world (By offer.list 0) entry) listed at refl refl;
      used = λ other was. or_right (other == offer.list.block) (world.used other) was;
      uses = λ other on. elim (or_split (other == offer.list.block) (world.used other) on) [
        | inl was ↦ inl was
        | inr here ↦ inr (from_eqb other offer.list.block here ∙ mine.block_is, same_item offer.list 0 (has_taken world.journal offer.list 0))
      ];
      step = first_allowed form world offers holds.blocks block offer stands (holds.waits block offer stands) entry listed at;
    },
  )

  second_did : (entry : Entry) → IsEntry offer.list.entries 1 entry → AreBehind world offer 1 → world.words entry.target ≡ entry.from → Did 1 Install (entered form world offer 1 entry)
  second_did entry listed behind at = (
    record { before = world.words entry.target; won = world.words entry.target == entry.from },
    record {
      stands = stands;
      knows = knows_of 1 Install entry listed behind tt;
      made = subst (λ r. RequestMade r world.words (entered form world offer 1 entry).words (record { before = world.words entry.target; won = world.words entry.target == entry.from })) (request_of 1 Install entry listed)
          (exchange_made entry.target entry.from (marked_word entry.to) world.words at);
      tells = wins refl (eq-eqb (world.words entry.target) entry.from at) entry (form.cause_of world (By offer.list 1) entry) listed at refl refl;
      used = λ other was. was;
      uses = λ other on. inl on;
      step = second_allowed form world offers holds.blocks block offer stands entry listed behind at;
    },
  )

  -- ---- decisions and clearings

  put_did : (j at from to : ℕ) (step : SlowStep) (entry : Entry) (listed : IsEntry offer.list.entries j entry) → installs step ≡ false
      → step_request offer.list.block j entry step ≡ Exchange at from to → world.words at ≡ from
      → Knows (site_of offer) world.words (has_taken world.journal offer.list) (walk_at j step) → IsStep form world (put_word at to world) → Did j step (put_word at to world)
  put_did j at from to step entry listed no_install asks stood knows allowed = (
    record { before = world.words at; won = world.words at == from },
    record {
      stands = stands;
      knows = knows;
      made = subst (λ r. RequestMade r world.words (put_word at to world).words (record { before = world.words at; won = world.words at == from })) (sym asks ∙ request_of j step entry listed) (exchange_made at from to world.words stood);
      tells = no_win (inl no_install) refl refl;
      used = λ other was. was;
      uses = λ other on. inl on;
      step = allowed;
    },
  )

  -- a pending entry that is shown took effect, so its target is past `from`
  shown_took : (j : ℕ) (entry : Entry) → IsEntry offer.list.entries j entry → AreBehind world offer j → state_at world offer j ≡ 0 → world.words entry.target ≡ marked_word entry.to → has_taken world.journal offer.list j ≡ true
  shown_took j entry listed behind pending shown =
      bit_taken form world offers holds.blocks block offer stands
      (named_now form world offers holds.blocks block offer stands j (slice_get_within offer.list.entries j entry listed) (λ i before. done_before i before) pending) j entry listed shown
    where
      done_before : (i : ℕ) → i < j → world.words (state_place offer.list.block i) ≡ 1
      done_before i before =
          let within = slice_get_within offer.list.entries j entry listed in
          let own = entry_at offer.list.entries i (omega (arith, before, within)) in
          (behind i own.0 own.1 before).0

  untaken : (j : ℕ) (entry : Entry) → IsEntry offer.list.entries j entry → state_at world offer j ≡ 0 → world.words entry.target ≢ marked_word entry.to → has_taken world.journal offer.list j ≡ false
  untaken j entry listed pending hidden =
      elim (cases_Bool (has_taken world.journal offer.list j)) [
        | inr none ↦ none
        | inl took ↦ absurd (hidden ((mine.parts.lives j entry listed).pending pending took))
      ]

  succeed_did : (j : ℕ) (entry : Entry) → IsEntry offer.list.entries j entry → AreBehind world offer j → state_at world offer j ≡ 0 → world.words entry.target ≡ marked_word entry.to
      → Did j Succeed (put_word (state_place offer.list.block j) 1 world)
  succeed_did j entry listed behind pending shown =
      let took = shown_took j entry listed behind pending shown in
      put_did j (state_place offer.list.block j) 0 1 Succeed entry listed refl refl pending (knows_of j Succeed entry listed behind ((mine.parts.lives j entry listed).taken took, took))
      (decide_allowed form world offers holds.blocks block offer stands j 1 (few_of j entry listed))

  fail_did : (j : ℕ) (entry : Entry) → IsEntry offer.list.entries j entry → AreBehind world offer j → state_at world offer j ≡ 0
      → versioned_version entry.from < versioned_version (world.words entry.target) → world.words entry.target ≢ marked_word entry.to → Did j Fail (put_word (state_place offer.list.block j) 2 world)
  fail_did j entry listed behind pending past hidden =
      put_did j (state_place offer.list.block j) 0 2 Fail entry listed refl refl pending (knows_of j Fail entry listed behind (past, λ open_. (untaken j entry listed pending hidden, hidden)))
      (decide_allowed form world offers holds.blocks block offer stands j 2 (few_of j entry listed))

  clear_did : (j : ℕ) (entry : Entry) → IsEntry offer.list.entries j entry → AreBehind world offer j → state_at world offer j ≡ 1 → world.words entry.target ≡ marked_word entry.to → Did j Clear (put_word entry.target entry.to world)
  clear_did j entry listed behind succeeded shown =
      let life = mine.parts.lives j entry listed in
      put_did j entry.target (marked_word entry.to) entry.to Clear entry listed refl refl shown (knows_of j Clear entry listed behind (life.taken (life.succeeded succeeded), succeeded))
      (clear_allowed form world offers holds.blocks block offer stands j entry listed shown)

  -- ---- all

  kept_by : (j : ℕ) (step : SlowStep) (after : World) → Did j step after → HasOffers form after offers × IsStep form world after
  kept_by j step after did = (executes_kept form laws world after offers holds block offer (walk_at j step) did.0 did.1, did.1.step)

  -- it leaves all as it is, or is a step of a run
  pub helps_did : (after : World) → Helps form world offer after → (after ≡ world) ⊎ ((j : ℕ) × (step : SlowStep) × ((seen : Seen) × Executes form world after offers block offer (walk_at j step) seen))
  helps_did after looks = inl refl
  helps_did after (installs_first entry listed at) = inr (0, Install, first_did entry listed at)
  helps_did after (installs_second entry listed behind at) = inr (1, Install, second_did entry listed behind at)
  helps_did after (succeeds j entry listed behind pending shown) = inr (j, Succeed, succeed_did j entry listed behind pending shown)
  helps_did after (fails j entry listed behind pending past hidden) = inr (j, Fail, fail_did j entry listed behind pending past hidden)
  helps_did after (clears_bit j entry listed behind succeeded shown) = inr (j, Clear, clear_did j entry listed behind succeeded shown)

  pub helps_kept : (after : World) → Helps form world offer after → HasOffers form after offers × IsStep form world after
  helps_kept after looks = (holds, nothing)
  helps_kept after (installs_first entry listed at) = kept_by 0 Install (first_entered form world offer entry) (first_did entry listed at)
  helps_kept after (installs_second entry listed behind at) = kept_by 1 Install (entered form world offer 1 entry) (second_did entry listed behind at)
  helps_kept after (succeeds j entry listed behind pending shown) = kept_by j Succeed (put_word (state_place offer.list.block j) 1 world) (succeed_did j entry listed behind pending shown)
  helps_kept after (fails j entry listed behind pending past hidden) = kept_by j Fail (put_word (state_place offer.list.block j) 2 world) (fail_did j entry listed behind pending past hidden)
  helps_kept after (clears_bit j entry listed behind succeeded shown) = kept_by j Clear (put_word entry.target entry.to world) (clear_did j entry listed behind succeeded shown)
