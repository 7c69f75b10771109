-- What holds of all blocks holds after a step of a helper's run on the list of one of them.
use Rattle.std.proofs.Common.{◌≡◌, ◌≢◌, ◌∙◌, sym, subst, ap, ℕ, ◌+◌, ◌<◌, ◌≤◌, true, false, inl, inr, List, slice_get, Option, Some, arith}
use Rattle.std.proofs.lemmas.Bool.{cases_Bool, cases_eq, or_right}
use Rattle.step_memory.specs.declared.steps.Seen.{Seen}
use Rattle.word_fields.specs.Versioned.{versioned_version}
use Rattle.node_arena.specs.MemoryMap.{block_place, record_place}
use Rattle.node_arena.proofs.PlacesApart.{block_place_behind, same_block, same_field}
use Rattle.normal_traits.specs.declared.lists.Entry.{Entry}
use Rattle.normal_traits.specs.World.{Among, Listed, Took, Won, World, is_word}
use Rattle.normal_traits.specs.World.Maker.{By}
use Rattle.normal_traits.specs.NormalForm.{NormalForm}
use Rattle.normal_traits.specs.Laws.{Laws}
use Rattle.normal_traits.proofs.Stays.{passed_stays}
use Rattle.cas_executor.specs.declared.slow_run.SlowStep.{SlowStep}
use Rattle.cas_executor.specs.declared.slow_run.SlowStep.TheVariants.{LoadState, Install, LoadTarget, Succeed, Fail, LoadDecision, Clear}
use Rattle.cas_executor.specs.SlowRuns.{SlowWalk, state_place, step_request}
use Rattle.cas_executor_laws.specs.ExecRuns.{IsEntry}
use Rattle.cas_executor_laws.specs.Parts.{RequestMade, TookBy}
use Rattle.cas_executor_laws.proofs.StepsAreDeeds.{request_is}
use Rattle.cas_executor_laws.proofs.OfferedPartsKept.{entry_at}
use Rattle.offered_blocks.specs.Blocks.{Offer, HasBlocks, IsOffer, JournalRises, has_taken, is_of, site_of}
use Rattle.offered_blocks.specs.Holds.{HasOffers, IsUnnamed, JournalWords}
use Rattle.offered_blocks.specs.OtherSteps.{IsStored}
use Rattle.offered_blocks.proofs.Blocks.Items.{both}
use Rattle.offered_blocks.proofs.Blocks.HoldsKept.{holds_kept}
use Rattle.offered_blocks.proofs.Blocks.Named.{some_offer}
use Rattle.offered_blocks.proofs.Blocks.Places.{record_apart, spare_apart, word_grows}
use Rattle.offered_blocks.proofs.Blocks.Rises.{rises_same, rises_won}
use Rattle.offered_blocks.proofs.Helpers.Deeds.{word_no_state}
use Rattle.offered_blocks.proofs.Helpers.Executes.{Executes, Tells, other_items, taken_by}
use Rattle.offered_blocks.proofs.Helpers.Executes.Tells.{no_win, wins}
use Rattle.offered_blocks.proofs.Helpers.OwnDeeds.{own_parts}
use Rattle.offered_blocks.proofs.Helpers.RunKept.{run_kept}
use Rattle.offered_blocks.proofs.Others.Stores.{stored_no_state}

-- a step of a run is on a state of its block or on the target of its entry
step_beside : (block j : ℕ) (entry : Entry) (step : SlowStep) (words after : ℕ → ℕ) (seen : Seen) → RequestMade (step_request block j entry step) words after seen
    → (place : ℕ) → place ≢ state_place block j → place ≢ entry.target → after place ≡ words place
step_beside block j entry LoadState words after seen made place state target = made.beside place state
step_beside block j entry Install words after seen made place state target = made.beside place target
step_beside block j entry LoadTarget words after seen made place state target = made.beside place target
step_beside block j entry Succeed words after seen made place state target = made.beside place state
step_beside block j entry Fail words after seen made place state target = made.beside place state
step_beside block j entry LoadDecision words after seen made place state target = made.beside place state
step_beside block j entry Clear words after seen made place state target = made.beside place target

module _ {S W : Type 0} (form : NormalForm S W) (laws : Laws form) (world after : World) (offers : ℕ → Option (Offer S)) (holds : HasOffers form world offers)
    (block : ℕ) (offer : Offer S) (walk : SlowWalk) (seen : Seen) (is : Executes form world after offers block offer walk seen) where
  mine : IsOffer form world block offer
  mine = holds.blocks.offered block offer is.stands

  abbrev own : Entry
  own = (entry_at offer.list.entries walk.next is.knows.within).0

  own_listed : IsEntry offer.list.entries walk.next own
  own_listed = (entry_at offer.list.entries walk.next is.knows.within).1

  own_few : walk.next < 2
  own_few = omega (arith, is.knows.within, mine.site.short)

  own_word : is_word form.is_root world own.target ≡ true
  own_word = (mine.targets walk.next own own_listed).0

  made_on : RequestMade (step_request offer.list.block walk.next own walk.step) world.words after.words seen
  made_on =
      subst (λ r. RequestMade r world.words after.words seen)
      (request_is (site_of offer) mine.site world.words after.words (has_taken world.journal offer.list) (has_taken world.journal offer.list) walk seen is.knows own own_listed) is.made

  -- it leaves what is beside the state and the target of its entry
  pub helper_beside : (place : ℕ) → place ≢ state_place offer.list.block walk.next → place ≢ own.target → after.words place ≡ world.words place
  helper_beside = step_beside offer.list.block walk.next own walk.step world.words after.words seen made_on

  by : TookBy walk seen (has_taken world.journal offer.list) (has_taken after.journal offer.list)
  by = taken_by form world after offer.list walk seen is.tells

  record_stays : (seat : ℕ) → seat < 8 → after.words (record_place seat) ≡ world.words (record_place seat)
  record_stays seat few =
      helper_beside (record_place seat) (λ e. let behind = block_place_behind offer.list.block (9 + walk.next) in absurd (omega (arith, few, behind, e))) (record_apart form.is_root world own.target seat few own_word)

  -- ---- the items of each list

  old_took : (list : Listed) (j : ℕ) → ((won : Won) → Among won world.journal → Among won after.journal) → Took world list j → Took after list j
  old_took list j more t = record { entry = t.entry; cause = t.cause; listed = t.listed; won = more _ t.won }

  took_own : (j : ℕ) → Tells form world after offer.list walk seen → has_taken after.journal offer.list j ≡ true → Took after offer.list j
  took_own j (no_win why same kept) took =
      old_took offer.list j (λ won among. subst (λ (log : List Won). Among won log) (sym same) among) (mine.taken j (sym (ap (λ log. has_taken log offer.list j) same) ∙ took))
  took_own j (wins installing won entry cause listed stood grown made) took =
      elim (cases_eq j walk.next) [
        | inl same ↦ record {
          entry = entry;
          cause = cause;
          listed = ap (slice_get offer.list.entries) same ∙ listed;
          won = subst (λ (log : List Won). Among (record { place = entry.target; before = entry.from; after = entry.to; maker = By offer.list j; cause = cause }) log) (sym grown)
              (inl (ap (λ k. record { place = entry.target; before = entry.from; after = entry.to; maker = By offer.list k; cause = cause }) same));
        }
        | inr apart ↦ old_took offer.list j (λ w among. subst (λ (log : List Won). Among w log) (sym grown) (inr among)) (mine.taken j (sym (by.others j apart) ∙ took))
      ]

  took_other : (other : ℕ) (mate : Offer S) → offers other ≡ Some mate → (j : ℕ) → Tells form world after offer.list walk seen
      → has_taken after.journal mate.list j ≡ has_taken world.journal mate.list j → has_taken after.journal mate.list j ≡ true → Took after mate.list j
  took_other other mate stands j (no_win why same kept) items took =
      old_took mate.list j (λ won among. subst (λ (log : List Won). Among won log) (sym same) among) ((holds.blocks.offered other mate stands).taken j (sym items ∙ took))
  took_other other mate stands j (wins installing won entry cause listed stood grown made) items took =
      old_took mate.list j (λ w among. subst (λ (log : List Won). Among w log) (sym grown) (inr among)) ((holds.blocks.offered other mate stands).taken j (sym items ∙ took))

  others : (other : ℕ) (mate : Offer S) → offers other ≡ Some mate → block ≢ other → (j : ℕ) → has_taken after.journal mate.list j ≡ has_taken world.journal mate.list j
  others other mate stands apart = other_items form world after offer.list mate.list walk seen is.tells (λ same. apart (holds.blocks.apart block other offer mate is.stands stands same))

  same_offer : (other : ℕ) (mate : Offer S) → offers other ≡ Some mate → block ≡ other → offer ≡ mate
  same_offer other mate stands same = some_offer offer mate (offers other) (subst (λ b. offers b ≡ Some offer) same is.stands) stands

  taken : (other : ℕ) (mate : Offer S) → offers other ≡ Some mate → (j : ℕ) → has_taken after.journal mate.list j ≡ true → Took after mate.list j
  taken other mate stands j took =
      elim (cases_eq block other) [
        | inl same ↦
            let one = same_offer other mate stands same in
            subst (λ (o : Offer S). Took after o.list j) one (took_own j is.tells (subst (λ (o : Offer S). has_taken after.journal o.list j ≡ true) (sym one) took))
        | inr apart ↦ took_other other mate stands j is.tells (others other mate stands apart j) took
      ]

  taken_grows : Tells form world after offer.list walk seen → (list : Listed) (j : ℕ) → has_taken world.journal list j ≡ true → has_taken after.journal list j ≡ true
  taken_grows (no_win why same kept) list j took = ap (λ log. has_taken log list j) same ∙ took
  taken_grows (wins installing won entry cause listed stood grown made) list j took =
      ap (λ log. has_taken log list j) grown ∙ or_right (is_of list j (By offer.list walk.next)) (has_taken world.journal list j) took

  versions : (won : Won) → Among won world.journal → versioned_version (world.words won.place) ≤ versioned_version (after.words won.place)
  versions won among = passed_stays form world after won.place (holds.journal won among) is.step

  rises : Tells form world after offer.list walk seen → JournalRises after
  rises (no_win why same kept) = rises_same world after versions same holds.blocks.journal
  rises (wins installing won entry cause listed stood grown made) =
      let parts = own_parts form world offers holds.blocks block offer is.stands walk seen after.words (has_taken after.journal offer.list) is.knows is.made by in
      rises_won world after versions (record { place = entry.target; before = entry.from; after = entry.to; maker = By offer.list walk.next; cause = cause }) grown stood
      (mine.site.raised walk.next entry listed).version ((parts.lives walk.next entry listed).taken (by.won installing won)) holds.blocks.journal

  pub helper_blocks : HasBlocks form after offers
  helper_blocks =
      run_kept form laws world after holds.shape is.step (word_grows form.is_root world after is.used) offers holds.blocks block offer is.stands walk seen is.knows is.made by
      (λ i few. laws.of_world.notes_plain offer.list.block (9 + i) (let b = mine.block_is in let some = mine.some in omega (arith, b, some)) (omega (arith, few)))
      (taken_grows is.tells) record_stays others taken (rises is.tells)

  -- ---- the blocks besides

  words_after : Tells form world after offer.list walk seen → JournalWords form.is_root after
  words_after (no_win why same kept) won among = word_grows form.is_root world after is.used won.place (holds.journal won (subst (Among won) same among))
  words_after (wins installing win entry cause listed stood grown made) won among =
      word_grows form.is_root world after is.used won.place
      (elim (subst (Among won) grown among) [
        | inl new ↦ subst (λ (w : Won). is_word form.is_root world w.place ≡ true) (sym new) (mine.targets walk.next entry listed).0
        | inr old ↦ holds.journal won old
      ])

  field_stays : (other : ℕ) → world.used other ≡ false → (field : ℕ) → field < 32 → IsStored field → after.words (block_place other field) ≡ world.words (block_place other field)
  field_stays other free field small stored =
      helper_beside (block_place other field)
      (λ e. stored_no_state field walk.next own_few stored (sym (same_field other field offer.list.block (9 + walk.next) small (let few = own_few in omega (arith, few)) e)))
      (spare_apart form.is_root world other field own.target small free own_word)

  unused_after : (other : ℕ) (mate : Offer S) → offers other ≡ Some mate → has_taken after.journal mate.list 0 ≡ false → world.used other ≡ false → after.used other ≡ false
  unused_after other mate stands none free =
      elim (cases_Bool (after.used other)) [
        | inr off ↦ off
        | inl on ↦ elim (is.uses other on) [
          | inl was ↦ both (world.used other) was free
          | inr new ↦ both (has_taken after.journal mate.list 0) (subst (λ (o : Offer S). has_taken after.journal o.list 0 ≡ true) (same_offer other mate stands (sym new.0)) new.1) none
        ]
      ]

  state_stays : (other j : ℕ) → 0 < other → j < 2 → IsUnnamed offers other → after.words (state_place other j) ≡ world.words (state_place other j)
  state_stays other j some few unnamed =
      helper_beside (state_place other j)
      (λ e. unnamed offer (ap offers (same_block other (9 + j) offer.list.block (9 + walk.next) (omega (arith, few)) (let small = own_few in omega (arith, small)) e ∙ mine.block_is) ∙ is.stands))
      (λ e. word_no_state form.is_root world other j own.target some few own_word (sym e))

  pub executes_kept : HasOffers form after offers
  executes_kept =
      holds_kept form laws world after offers holds is.step (λ other mate stands free field small stored. field_stays other free field small stored) unused_after (taken_grows is.tells) state_stays helper_blocks
      (words_after is.tells)
