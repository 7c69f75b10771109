-- A listed exchange that a helper wins is an allowed step of the client's world, whoever the helper is and however
-- late it comes; so are a decision and the clearing of a bit.
use Rattle.std.proofs.Common.{◌≡◌, ◌∙◌, refl, sym, subst, ap, ℕ, ◌<◌, ◌==◌, true, false, inl, inr, List, [], ◌∷◌, Option, Some, arith}
use Rattle.std.proofs.lemmas.Bool.{cases_Bool, cases_eq, eq-eqb, and_from, or_left, or_right}
use Rattle.std.proofs.lemmas.Option.{slice_get_within}
use Rattle.word_fields.specs.Versioned.{versioned_version, marked_word, cleared_word}
use Rattle.word_fields.proofs.ChangedWords.{cleared-marked, cleared-clear}
use Rattle.normal_traits.specs.declared.lists.Entry.{Entry}
use Rattle.normal_traits.specs.World.{Listed, Won, World, Among, Took, is_word}
use Rattle.normal_traits.specs.World.Maker.{By}
use Rattle.normal_traits.specs.NormalForm.{NormalForm}
use Rattle.normal_traits.specs.Steps.{IsStep, IsFresh, IsExchanged, put_word}
use Rattle.normal_traits.specs.Steps.IsStep.{clears, elsewhere, first_of_block, second}
use Rattle.cas_executor.specs.SlowRuns.{state_place}
use Rattle.cas_executor_laws.specs.ExecRuns.{IsEntry}
use Rattle.cas_executor_laws.proofs.OfferedPartsKept.{entry_at}
use Rattle.offered_blocks.specs.Blocks.{Offer, is_of, has_taken, IsOffer, HasBlocks}
use Rattle.offered_blocks.specs.Holds.{Waits}
use Rattle.offered_blocks.specs.HelperSteps.{AreBehind, entered, first_entered}
use Rattle.offered_blocks.proofs.Blocks.Items.{both}
use Rattle.offered_blocks.proofs.Blocks.Places.{state_word}

-- an exchange of a list of this identity is found in the journal
pub taken_any : (journal : List Won) (list other : Listed) (j : ℕ) (won : Won) → Among won journal → won.maker ≡ By other j → other.identity ≡ list.identity → has_taken journal list j ≡ true
taken_any [] list other j won among maker same = absurd among
taken_any (w ∷ ws) list other j won (inl here) maker same =
    let m : w.maker ≡ By other j = ap (λ (x : Won). x.maker) (sym here) ∙ maker in
    or_left (is_of list j w.maker) (has_taken ws list j) (ap (is_of list j) m ∙ and_from (other.identity == list.identity) (j == j) (eq-eqb other.identity list.identity same) (eq-eqb j j refl))
taken_any (w ∷ ws) list other j won (inr rest) maker same = or_right (is_of list j w.maker) (has_taken ws list j) (taken_any ws list other j won rest maker same)

pub not_taken : (world : World) (list other : Listed) (j : ℕ) → has_taken world.journal list j ≡ false → other.identity ≡ list.identity → ¬ Took world other j
not_taken world list other j none same took = both (has_taken world.journal list j) (taken_any world.journal list other j _ took.won refl same) none

module _ {S W : Type 0} (form : NormalForm S W) (world : World) (offers : ℕ → Option (Offer S)) (blocks : HasBlocks form world offers)
    (block : ℕ) (offer : Offer S) (stands : offers block ≡ Some offer) where
  mine : IsOffer form world block offer
  mine = blocks.offered block offer stands

  pub block_some : 0 < offer.list.block
  block_some = let is = mine.block_is in let some = mine.some in omega (arith, is, some)

  -- the word with its bit set stands for `to`
  pub marks : (j : ℕ) (entry : Entry) → IsEntry offer.list.entries j entry → IsExchanged entry (marked_word entry.to)
  marks j entry listed = let is = mine.site.raised j entry listed in record { to = cleared-marked entry.to ∙ cleared-clear entry.to is.to_clear; raised = is.version }

  -- where the target stands at `from`, the entry did not take effect
  pub from_untaken : (j : ℕ) (entry : Entry) → IsEntry offer.list.entries j entry → world.words entry.target ≡ entry.from → has_taken world.journal offer.list j ≡ false
  from_untaken j entry listed at =
      elim (cases_Bool (has_taken world.journal offer.list j)) [
        | inr none ↦ none
        | inl took ↦ (let past = (mine.parts.lives j entry listed).taken took in let v = ap versioned_version at in absurd (omega (arith, past, v)))
      ]

  -- nor did the second where the first did not
  later_untaken : has_taken world.journal offer.list 0 ≡ false → has_taken world.journal offer.list 1 ≡ false
  later_untaken none =
      elim (cases_Bool (has_taken world.journal offer.list 1)) [
        | inr later ↦ later
        | inl took ↦
            let item = mine.taken 1 took in
            let within = slice_get_within offer.list.entries 1 item.entry item.listed in
            let first = entry_at offer.list.entries 0 (omega (arith, within)) in
            both (has_taken world.journal offer.list 0) ((mine.parts.lives 0 first.0 first.1).succeeded ((mine.parts.order 1 within).taken took 0 (omega arith))) none
      ]

  -- so no exchange was made for a list of this identity
  pub still_fresh : has_taken world.journal offer.list 0 ≡ false → IsFresh world offer.list
  still_fresh none other j same took =
      let some = taken_any world.journal offer.list other j _ took.won refl same in
      let item = mine.taken j some in
      let within = slice_get_within offer.list.entries j item.entry item.listed in
      let short = mine.site.short in
      elim (cases_eq j 0) [
        | inl first ↦ both (has_taken world.journal offer.list 0) (subst (λ k. has_taken world.journal offer.list k ≡ true) first some) none
        | inr rest ↦
            let e : j ≡ 1 = omega (arith, within, short, rest) in
            both (has_taken world.journal offer.list 1) (subst (λ k. has_taken world.journal offer.list k ≡ true) e some) (later_untaken none)
      ]

  -- entry 0 uses the block from then on
  pub first_allowed : Waits form world offer → (entry : Entry) → IsEntry offer.list.entries 0 entry → world.words entry.target ≡ entry.from → IsStep form world (first_entered form world offer entry)
  first_allowed waits entry listed at =
      let none = from_untaken 0 entry listed at in
      let free = waits none in
      first_of_block offer.list offer.offering offer.since entry (marked_word entry.to) mine.offered (still_fresh none) block_some free.0 free.1 listed at (marks 0 entry listed)

  -- entry 1 is behind entry 0, which took effect
  pub second_allowed : (entry : Entry) → IsEntry offer.list.entries 1 entry → AreBehind world offer 1 → world.words entry.target ≡ entry.from → IsStep form world (entered form world offer 1 entry)
  second_allowed entry listed behind at =
      let within = slice_get_within offer.list.entries 1 entry listed in
      let first = entry_at offer.list.entries 0 (omega (arith, within)) in
      let took = (mine.parts.lives 0 first.0 first.1).succeeded (behind 0 first.0 first.1 (omega arith)).0 in
      second offer.list offer.offering offer.since entry (marked_word entry.to) mine.offered (mine.taken 0 took) (not_taken world offer.list offer.list 1 (from_untaken 1 entry listed at) refl) listed at (marks 1 entry listed)

  -- the state of an entry is no word of the client
  pub state_no_word : (j : ℕ) → j < 2 → is_word form.is_root world (state_place offer.list.block j) ≡ false
  state_no_word j few =
      state_word form.is_root world offer.list.block j block_some few

  pub decide_allowed : (j word : ℕ) → j < 2 → IsStep form world (put_word (state_place offer.list.block j) word world)
  decide_allowed j word few = elsewhere (state_place offer.list.block j) word (state_no_word j few)

  -- a shown bit of an entry is cleared
  pub clear_allowed : (j : ℕ) (entry : Entry) → IsEntry offer.list.entries j entry → world.words entry.target ≡ marked_word entry.to → IsStep form world (put_word entry.target entry.to world)
  clear_allowed j entry listed at =
      let is = mine.targets j entry listed in
      let to : cleared_word (world.words entry.target) ≡ entry.to = ap cleared_word at ∙ (marks j entry listed).to in
      subst (λ w. IsStep form world (put_word entry.target w world)) to (clears entry.target is.0 is.1 is.2)
