-- What anyone's step is to an offered block: a turn of each of its entries.
use Rattle.std.proofs.Common.{◌≡◌, ◌≢◌, ◌∙◌, sym, subst, ap, ℕ, ◌+◌, ◌<◌, Bool, true, inl, inr, length, Option, Some, arith}
use Rattle.std.proofs.lemmas.Bool.{cases_eq}
use Rattle.std.proofs.lemmas.Option.{slice_get_within}
use Rattle.step_memory.specs.declared.steps.Seen.{Seen}
use Rattle.word_fields.specs.Versioned.{versioned_bit, versioned_version, marked_word, cleared_word}
use Rattle.word_fields.proofs.ChangedWords.{bit-marked, version-marked, cleared-marked, cleared-clear}
use Rattle.node_arena.specs.declared.places.TheConstants.{STATE_FIELD}
use Rattle.node_arena.proofs.PlacesApart.{same_block}
use Rattle.normal_traits.specs.declared.lists.Entry.{Entry}
use Rattle.normal_traits.specs.World.{Listed, World, is_word}
use Rattle.normal_traits.specs.NormalForm.{NormalForm}
use Rattle.cas_executor.specs.declared.slow_run.SlowStep.{SlowStep}
use Rattle.cas_executor.specs.declared.slow_run.SlowStep.TheVariants.{LoadState, Install, LoadTarget, Succeed, Fail, LoadDecision, Clear}
use Rattle.cas_executor.specs.SlowRuns.{SlowWalk, slow_request, state_place, step_request}
use Rattle.cas_executor_laws.specs.ExecRuns.{IsEntry}
use Rattle.cas_executor_laws.specs.Entries.{Moves, Turn}
use Rattle.cas_executor_laws.specs.Entries.Moves.{cleared, raised}
use Rattle.cas_executor_laws.specs.Entries.Turn.{moves, stays}
use Rattle.cas_executor_laws.specs.Parts.{Deed, RequestMade, Knows, KnowsEntry, view_in}
use Rattle.cas_executor_laws.proofs.Exchanges.{load_leaves, exchange_did}
use Rattle.cas_executor_laws.proofs.Exchanges.Exchanged.{won, lost}
use Rattle.cas_executor_laws.proofs.OfferedPartsKept.{entry_at}
use Rattle.cas_executor_laws.proofs.StepsAreDeeds.{request_is}
use Rattle.offered_blocks.specs.Blocks.{Offer, site_of, has_taken, IsOffer, HasBlocks}
use Rattle.offered_blocks.proofs.Blocks.Items.{marked_same, one_taken}
use Rattle.offered_blocks.proofs.Blocks.Places.{words_apart, state_word}

-- a word with its bit clear shows no entry
clear_shows : (entry : Entry) (word : ℕ) → versioned_bit word ≡ 0 → word ≡ marked_word entry.to → ⊥
clear_shows entry word clear shown = let bit : versioned_bit word ≡ 1 = ap versioned_bit shown ∙ bit-marked entry.to in omega (arith, clear, bit)

-- the states of two blocks stand at different places
states_apart : (block other i j : ℕ) → i < 2 → j < 2 → block ≢ other → state_place block i ≢ state_place other j
states_apart block other i j few few' apart same = apart (same_block block (STATE_FIELD + i) other (STATE_FIELD + j) (omega (arith, few)) (omega (arith, few')) same)

pub word_no_state : (is_root : ℕ → Bool) (world : World) (block i place : ℕ) → 0 < block → i < 2 → is_word is_root world place ≡ true → place ≢ state_place block i
word_no_state is_root world block i place some few word e = words_apart is_root world place (state_place block i) word (state_word is_root world block i some few) e

module _ {S W : Type 0} (form : NormalForm S W) (world : World) (offers : ℕ → Option (Offer S)) (blocks : HasBlocks form world offers) where
  -- a helper of one block makes a step
  module _ (block : ℕ) (offer : Offer S) (stands : offers block ≡ Some offer) (walk : SlowWalk) (seen : Seen) (after : ℕ → ℕ)
      (knows : Knows (site_of offer) world.words (has_taken world.journal offer.list) walk) (made : RequestMade (slow_request walk) world.words after seen) where
    abbrev own : Entry
    own = (entry_at offer.list.entries walk.next knows.within).0

    own_listed : IsEntry offer.list.entries walk.next own
    own_listed = (entry_at offer.list.entries walk.next knows.within).1

    mine : IsOffer form world block offer
    mine = blocks.offered block offer stands

    own_few : walk.next < 2
    own_few = omega (arith, knows.within, mine.site.short)

    -- what it asks for is the step on its entry
    made_on : RequestMade (step_request offer.list.block walk.next own walk.step) world.words after seen
    made_on = subst (λ r. RequestMade r world.words after seen) (request_is (site_of offer) mine.site world.words after (has_taken world.journal offer.list) (has_taken world.journal offer.list) walk seen knows own own_listed) made

    -- another block, whose entries took effect as before
    module _ (other : ℕ) (mate : Offer S) (stands' : offers other ≡ Some mate) (apart : block ≢ other) (took' : ℕ → Bool) (same : (j : ℕ) → took' j ≡ has_taken world.journal mate.list j) where
      theirs : IsOffer form world other mate
      theirs = blocks.offered other mate stands'

      abbrev TurnOf : ℕ → Entry → Type 0
      TurnOf j entry = Turn entry (view_in (site_of mate) world.words (has_taken world.journal mate.list) j entry) (view_in (site_of mate) after took' j entry)

      blocks_apart : offer.list.block ≢ mate.list.block
      blocks_apart e = apart (sym mine.block_is ∙ e ∙ theirs.block_is)

      their_few : (j : ℕ) → j < length mate.list.entries → j < 2
      their_few j within = omega (arith, within, theirs.site.short)

      -- a state of their entry is no target of ours
      state_apart : (j : ℕ) → j < length mate.list.entries → state_place mate.list.block j ≢ own.target
      state_apart j within e =
          word_no_state form.is_root world mate.list.block j own.target (let is = theirs.block_is in let some = theirs.some in omega (arith, is, some)) (their_few j within) (mine.targets walk.next own own_listed).0 (sym e)

      all_stay : ((place : ℕ) → after place ≡ world.words place) → (j : ℕ) (entry : Entry) → TurnOf j entry
      all_stay leaves j entry = stays (leaves (state_place mate.list.block j)) (leaves entry.target) (same j)

      -- a state of our block was decided
      decided_turn : ((place : ℕ) → place ≢ state_place offer.list.block walk.next → after place ≡ world.words place) → (j : ℕ) (entry : Entry) → IsEntry mate.list.entries j entry → TurnOf j entry
      decided_turn beside j entry listed =
          let within = slice_get_within mate.list.entries j entry listed in
          stays
          (beside (state_place mate.list.block j) (λ e. states_apart offer.list.block mate.list.block walk.next j own_few (their_few j within) blocks_apart (sym e)))
          (beside entry.target (word_no_state form.is_root world offer.list.block walk.next entry.target (let is = mine.block_is in let some = mine.some in omega (arith, is, some)) own_few (theirs.targets j entry listed).0))
          (same j)

      -- our target was exchanged
      exchanged_turn : Moves (world.words own.target) (after own.target) → ((place : ℕ) → place ≢ own.target → after place ≡ world.words place)
          → ((j : ℕ) (entry : Entry) → IsEntry mate.list.entries j entry → entry.target ≡ own.target → world.words own.target ≡ marked_word entry.to → has_taken world.journal mate.list j ≡ true → ⊥)
          → (j : ℕ) (entry : Entry) → IsEntry mate.list.entries j entry → TurnOf j entry
      exchanged_turn how beside unshown j entry listed =
          let within = slice_get_within mate.list.entries j entry listed in
          let state = beside (state_place mate.list.block j) (state_apart j within) in
          elim (cases_eq entry.target own.target) [
            | inr other' ↦ stays state (beside entry.target other') (same j)
            | inl here ↦ moves (subst (λ p. Moves (world.words p) (after p)) (sym here) how)
                (λ pending took. absurd (unshown j entry listed here (ap world.words (sym here) ∙ (theirs.parts.lives j entry listed).pending pending took) took)) state (same j)
          ]

      -- where our target stood at `from`, it showed nothing
      from_unshown : world.words own.target ≡ own.from → (j : ℕ) (entry : Entry) → IsEntry mate.list.entries j entry → entry.target ≡ own.target → world.words own.target ≡ marked_word entry.to → has_taken world.journal mate.list j ≡ true → ⊥
      from_unshown at j entry listed here shown took = clear_shows entry (world.words own.target) (ap versioned_bit at ∙ (mine.site.raised walk.next own own_listed).from_clear) shown

      -- where it showed our own entry, it showed none of theirs
      own_unshown : has_taken world.journal offer.list walk.next ≡ true → world.words own.target ≡ marked_word own.to
          → (j : ℕ) (entry : Entry) → IsEntry mate.list.entries j entry → entry.target ≡ own.target → world.words own.target ≡ marked_word entry.to → has_taken world.journal mate.list j ≡ true → ⊥
      own_unshown own_took own_shown j entry listed here shown took =
          let raised = mine.site.raised walk.next own own_listed in
          let raised' = theirs.site.raised j entry listed in
          let to : own.to ≡ entry.to = marked_same own.to entry.to raised.to_clear raised'.to_clear (sym own_shown ∙ shown) in
          let both = one_taken world offer.list mate.list walk.next j own entry blocks.journal (mine.taken walk.next own_took) (theirs.taken j took) own_listed listed raised raised' (sym here) to in
          apart (blocks.apart block other offer mate stands stands' (ap (λ (l : Listed). l.identity) both.0))

      turn_at : (step : SlowStep) → RequestMade (step_request offer.list.block walk.next own step) world.words after seen → KnowsEntry step own (view_in (site_of offer) world.words (has_taken world.journal offer.list) walk.next own)
          → (j : ℕ) (entry : Entry) → IsEntry mate.list.entries j entry → TurnOf j entry
      turn_at LoadState made' k j entry listed = all_stay (load_leaves _ world.words after seen made') j entry
      turn_at LoadTarget made' k j entry listed = all_stay (load_leaves _ world.words after seen made') j entry
      turn_at LoadDecision made' k j entry listed = all_stay (load_leaves _ world.words after seen made') j entry
      turn_at Succeed made' k j entry listed = decided_turn made'.beside j entry listed
      turn_at Fail made' k j entry listed = decided_turn made'.beside j entry listed
      turn_at Install made' k j entry listed =
          elim (exchange_did _ _ _ world.words after seen made') [
            | lost differs leaves saw ↦ all_stay leaves j entry
            | won at there others saw ↦
                let raised' = mine.site.raised walk.next own own_listed in
                let v = ap versioned_version there in
                let was = ap versioned_version at in
                let m = version-marked own.to in
                exchanged_turn (raised (omega (arith, v, was, m, raised'.version))) others (from_unshown at) j entry listed
          ]
      turn_at Clear made' k j entry listed =
          elim (exchange_did _ _ _ world.words after seen made') [
            | lost differs leaves saw ↦ all_stay leaves j entry
            | won at there others saw ↦
                let raised' = mine.site.raised walk.next own own_listed in
                exchanged_turn (cleared (there ∙ sym (cleared-clear own.to raised'.to_clear) ∙ sym (cleared-marked own.to) ∙ ap cleared_word (sym at))) others
                (own_unshown ((mine.parts.lives walk.next own own_listed).succeeded k.1) at) j entry listed
          ]

      -- no state of theirs changes
      state_stays : (step : SlowStep) → RequestMade (step_request offer.list.block walk.next own step) world.words after seen → (j : ℕ) → j < length mate.list.entries → after (state_place mate.list.block j) ≡ world.words (state_place mate.list.block j)
      state_stays LoadState made' j within = load_leaves _ world.words after seen made' (state_place mate.list.block j)
      state_stays LoadTarget made' j within = load_leaves _ world.words after seen made' (state_place mate.list.block j)
      state_stays LoadDecision made' j within = load_leaves _ world.words after seen made' (state_place mate.list.block j)
      state_stays Succeed made' j within = made'.beside (state_place mate.list.block j) (λ e. states_apart offer.list.block mate.list.block walk.next j own_few (their_few j within) blocks_apart (sym e))
      state_stays Fail made' j within = made'.beside (state_place mate.list.block j) (λ e. states_apart offer.list.block mate.list.block walk.next j own_few (their_few j within) blocks_apart (sym e))
      state_stays Install made' j within = made'.beside (state_place mate.list.block j) (state_apart j within)
      state_stays Clear made' j within = made'.beside (state_place mate.list.block j) (state_apart j within)

      pub other_deed : Deed (site_of mate) world.words (has_taken world.journal mate.list) after took'
      other_deed = record {
        turns = turn_at walk.step made_on (knows.at_entry own own_listed);
        taken = λ j within differs. absurd (differs (same j));
        decided = λ j within differs. absurd (differs (state_stays walk.step made_on j within));
      }
