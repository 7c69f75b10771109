-- An entry that is pending behind entries that succeeded is one of the list that is executed now; and a target
-- that shows an entry tells that it took effect.
use Rattle.std.proofs.Common.{◌≡◌, ◌≢◌, ◌∙◌, sym, subst, ap, ℕ, ◌<◌, Bool, true, false, inl, inr, length, Option, Some, arith}
use Rattle.std.proofs.lemmas.Bool.{cases_eq, cases_lt}
use Rattle.std.proofs.lemmas.Option.{slice_get_within}
use Rattle.word_fields.specs.Payloads.{payload_block}
use Rattle.word_fields.specs.Records.{record_payload}
use Rattle.word_fields.specs.Versioned.{versioned_bit, marked_word}
use Rattle.word_fields.proofs.ChangedWords.{bit-marked}
use Rattle.node_arena.specs.MemoryMap.{record_place}
use Rattle.normal_traits.specs.declared.lists.Entry.{Entry}
use Rattle.normal_traits.specs.World.{World, is_word}
use Rattle.normal_traits.specs.NormalForm.{NormalForm}
use Rattle.cas_executor.specs.SlowRuns.{SlowWalk, state_place}
use Rattle.cas_executor_laws.specs.ExecRuns.{IsEntry}
use Rattle.cas_executor_laws.specs.Parts.{KnowsStop, Knows, ShowsTaken}
use Rattle.cas_executor_laws.proofs.OfferedPartsKept.{entry_at}
use Rattle.offered_blocks.specs.Blocks.{Offer, site_of, has_taken, IsOffer, HasBlocks, MayBeMarked, IsExecuting, record_for}
use Rattle.offered_blocks.proofs.Blocks.Places.{word_may}

pub some_offer : {S : Type 0} (a b : Offer S) (o : Option (Offer S)) → o ≡ Some a → o ≡ Some b → a ≡ b
some_offer a b o e e' = cc

module _ {S W : Type 0} (form : NormalForm S W) (world : World) (offers : ℕ → Option (Offer S)) (blocks : HasBlocks form world offers) where
  pub word_marked : (place : ℕ) → is_word form.is_root world place ≡ true → form.is_versioned place ≡ true → form.is_listable place ≡ true → MayBeMarked form place
  word_marked place word versioned listable = record {
    place_is = word_may form.is_root world place word;
    versioned = versioned;
    listable = listable;
  }

  module _ (block : ℕ) (offer : Offer S) (stands : offers block ≡ Some offer) where
    mine : IsOffer form world block offer
    mine = blocks.offered block offer stands

    -- ---- the executed list

    not_stopped : (stop j : ℕ) → KnowsStop (site_of offer) world.words (has_taken world.journal offer.list) stop → j < length offer.list.entries → ((i : ℕ) → i < j → world.words (state_place offer.list.block i) ≡ 1)
        → world.words (state_place offer.list.block j) ≡ 0 → ⊥
    not_stopped stop j stopped within before pending =
        elim (cases_lt j stop) [
          | inl below ↦ (let own = entry_at offer.list.entries j within in let one = (stopped.done j own.0 own.1 below).succeeded in omega (arith, one, pending))
          | inr past ↦
              let failed = stopped.failed (omega (arith, past, within)) in
              elim (cases_eq j stop) [
                | inl same ↦ (let here = ap (λ k. world.words (state_place offer.list.block k)) same in omega (arith, here, failed, pending))
                | inr apart ↦ (let one = before stop (omega (arith, past, apart)) in omega (arith, one, failed))
              ]
        ]

    pub named_now : (j : ℕ) → j < length offer.list.entries → ((i : ℕ) → i < j → world.words (state_place offer.list.block i) ≡ 1) → world.words (state_place offer.list.block j) ≡ 0 → IsExecuting world offer.list
    named_now j within before pending = elim mine.settled [ inl named ↦ named | inr stopped ↦ absurd (not_stopped stopped.0 j stopped.1 within before pending) ]

    -- ---- what a target shows

    -- the bit at a target of the executed list is that of the entry there
    pub bit_taken : IsExecuting world offer.list → (j : ℕ) (entry : Entry) → IsEntry offer.list.entries j entry → world.words entry.target ≡ marked_word entry.to → has_taken world.journal offer.list j ≡ true
    bit_taken named j entry listed shown =
        let at = mine.targets j entry listed in
        let bit : versioned_bit (world.words entry.target) ≡ 1 = ap versioned_bit shown ∙ bit-marked entry.to in
        let k = blocks.bits entry.target (word_marked entry.target at.0 at.1 at.2) bit in
        let seat = blocks.one k.offer.list offer.list k.executing named in
        let record' : record_for world k.offer.list ≡ record_for world offer.list = ap (λ s. world.words (record_place s)) seat in
        let theirs = blocks.offered k.block k.offer k.stands in
        let same : k.block ≡ block = sym theirs.block_is ∙ sym k.executing.block ∙ ap (λ w. payload_block (record_payload w)) record' ∙ named.block ∙ mine.block_is in
        let one : k.offer ≡ offer = some_offer k.offer offer (offers block) (subst (λ b. offers b ≡ Some k.offer) same k.stands) stands in
        let listed' : IsEntry offer.list.entries k.j k.entry = subst (λ (o : Offer S). IsEntry o.list.entries k.j k.entry) one k.listed in
        let place : k.j ≡ j = mine.site.apart k.j j k.entry entry listed' listed k.here in
        subst (λ i. has_taken world.journal offer.list i ≡ true) place (subst (λ (o : Offer S). has_taken world.journal o.list k.j ≡ true) one k.took)

    -- so a helper that sees its entry shown knows that it took effect
    pub shows_taken : (walk : SlowWalk) → Knows (site_of offer) world.words (has_taken world.journal offer.list) walk → ShowsTaken (site_of offer) world.words (has_taken world.journal offer.list) walk.next
    shows_taken walk knows entry listed shown =
        let life = mine.parts.lives walk.next entry listed in
        let state = world.words (state_place offer.list.block walk.next) in
        elim (cases_eq state 0) [
          | inl pending ↦ bit_taken (named_now walk.next knows.within (λ i before. done_before i before) pending) walk.next entry listed shown
          | inr decided ↦ elim (cases_eq state 1) [
            | inl one ↦ life.succeeded one
            | inr other ↦ absurd (life.failed_gone (let known = life.known in omega (arith, known, decided, other)) shown)
          ]
        ]
      where
        done_before : (i : ℕ) → i < walk.next → world.words (state_place offer.list.block i) ≡ 1
        done_before i before =
            let own = entry_at offer.list.entries i (omega (arith, before, knows.within)) in
            (knows.done i own.0 own.1 before).succeeded

    -- ---- leaving the execution

    -- where the list has stopped, no target of it has its bit set by one of its entries
    pub leaves_none : (stop : ℕ) → KnowsStop (site_of offer) world.words (has_taken world.journal offer.list) stop → (j : ℕ) (entry : Entry) → IsEntry offer.list.entries j entry
        → has_taken world.journal offer.list j ≡ true → world.words entry.target ≢ marked_word entry.to
    leaves_none stop stopped j entry listed took shown =
        let within = slice_get_within offer.list.entries j entry listed in
        elim (cases_lt j stop) [
          | inl below ↦ (stopped.done j entry listed below).gone shown
          | inr past ↦
              let failed = stopped.failed (omega (arith, past, within)) in
              elim (cases_eq j stop) [
                | inl same ↦ (let life = mine.parts.lives j entry listed in
                    let two : world.words (state_place offer.list.block j) ≡ 2 = ap (λ k. world.words (state_place offer.list.block k)) same ∙ failed in
                    let none = life.failed two in
                    absurd (both (has_taken world.journal offer.list j) took none))
                | inr apart ↦ (let one = (mine.parts.order j within).taken took stop (omega (arith, past, apart)) in omega (arith, one, failed))
              ]
        ]
      where
        both : (b : Bool) → b ≡ true → b ≡ false → ⊥
        both b e e' = cc

    -- so when its record leaves Executing, no bit is set anywhere: the bits were those of this list
    pub no_bits : IsExecuting world offer.list → (stop : ℕ) → KnowsStop (site_of offer) world.words (has_taken world.journal offer.list) stop → (place : ℕ) → MayBeMarked form place → versioned_bit (world.words place) ≡ 1 → ⊥
    no_bits named stop stopped place may bit =
        let k = blocks.bits place may bit in
        let seat = blocks.one k.offer.list offer.list k.executing named in
        let record' : record_for world k.offer.list ≡ record_for world offer.list = ap (λ s. world.words (record_place s)) seat in
        let theirs = blocks.offered k.block k.offer k.stands in
        let same : k.block ≡ block = sym theirs.block_is ∙ sym k.executing.block ∙ ap (λ w. payload_block (record_payload w)) record' ∙ named.block ∙ mine.block_is in
        let one : k.offer ≡ offer = some_offer k.offer offer (offers block) (subst (λ b. offers b ≡ Some k.offer) same k.stands) stands in
        let listed' : IsEntry offer.list.entries k.j k.entry = subst (λ (o : Offer S). IsEntry o.list.entries k.j k.entry) one k.listed in
        let took' : has_taken world.journal offer.list k.j ≡ true = subst (λ (o : Offer S). has_taken world.journal o.list k.j ≡ true) one k.took in
        leaves_none stop stopped k.j k.entry listed' took' (ap world.words k.here ∙ k.shows)
