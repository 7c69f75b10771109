-- What is so of a list that has stopped, and of an entry that its target shows.
use Rattle.std.proofs.Common.{◌≡◌, ◌∙◌, sym, subst, ap, ℕ, ◌<◌, true, inl, inr, length, Option, Some, arith}
use Rattle.std.proofs.lemmas.Bool.{cases_eq, cases_lt}
use Rattle.std.proofs.lemmas.Option.{slice_get_within}
use Rattle.word_fields.specs.Versioned.{versioned_bit, versioned_version, marked_word}
use Rattle.word_fields.proofs.ChangedWords.{bit-marked, bit_below}
use Rattle.normal_traits.specs.declared.lists.Entry.{Entry}
use Rattle.normal_traits.specs.World.{World}
use Rattle.normal_traits.specs.NormalForm.{NormalForm}
use Rattle.cas_executor_laws.specs.ExecRuns.{IsEntry}
use Rattle.cas_executor_laws.specs.Parts.{KnowsStop}
use Rattle.cas_executor_laws.proofs.OfferedPartsKept.{entry_at}
use Rattle.offered_blocks.specs.Blocks.{Offer, IsExecuting, IsOffer, MayBeMarked, has_taken, site_of}
use Rattle.offered_blocks.specs.Holds.{HasOffers}
use Rattle.offered_blocks.specs.HelperSteps.{AreBehind, HasStopped, state_at}
use Rattle.offered_blocks.proofs.Blocks.Items.{marked_same, one_taken}
use Rattle.offered_blocks.proofs.Blocks.Named.{bit_taken, named_now, no_bits, word_marked}

module _ {S W : Type 0} (form : NormalForm S W) (world : World) (offers : ℕ → Option (Offer S)) (holds : HasOffers form world offers)
    (block : ℕ) (offer : Offer S) (stands : offers block ≡ Some offer) where
  mine : IsOffer form world block offer
  mine = holds.blocks.offered block offer stands

  -- ---- lists that have stopped

  pub stop_known : (stop : ℕ) → HasStopped world offer stop → KnowsStop (site_of offer) world.words (has_taken world.journal offer.list) stop
  stop_known stop stopped = record {
    within = stopped.within;
    done = λ i entry listed before. (let is = stopped.behind i entry listed before in let life = mine.parts.lives i entry listed in
        record { succeeded = is.0; past = life.taken (life.succeeded is.0); gone = is.1 });
    failed = λ below. (let own = entry_at offer.list.entries stop below in stopped.last own.0 own.1);
  }

  pub known_stop : (stop : ℕ) → KnowsStop (site_of offer) world.words (has_taken world.journal offer.list) stop → HasStopped world offer stop
  known_stop stop knows = record {
    within = knows.within;
    behind = λ i entry listed before. (let is = knows.done i entry listed before in (is.succeeded, is.gone));
    last = λ entry listed. knows.failed (slice_get_within offer.list.entries stop entry listed);
  }

  -- a stop at an entry that failed has none behind it
  not_past : (stop later : ℕ) → HasStopped world offer stop → HasStopped world offer later → stop < later → ⊥
  not_past stop later here there before =
      let within = there.within in
      let own = entry_at offer.list.entries stop (omega (arith, before, within)) in
      let failed = here.last own.0 own.1 in
      let succeeded = (there.behind stop own.0 own.1 before).0 in
      omega (arith, failed, succeeded)

  pub stops_agree : (stop other : ℕ) → HasStopped world offer stop → HasStopped world offer other → stop ≡ other
  stops_agree stop other here there =
      elim (cases_lt stop other) [
        | inl before ↦ absurd (not_past stop other here there before)
        | inr rest ↦ elim (cases_eq stop other) [ inl same ↦ same | inr apart ↦ absurd (not_past other stop there here (omega (arith, rest, apart))) ]
      ]

  pub none_marked : IsExecuting world offer.list → (stop : ℕ) → HasStopped world offer stop → (place : ℕ) → MayBeMarked form place → versioned_bit (world.words place) ≡ 0
  none_marked named stop stopped place may =
      elim (cases_eq (versioned_bit (world.words place)) 1) [
        | inl bit ↦ absurd (no_bits form world offers holds.blocks block offer stands named stop (stop_known stop stopped) place may bit)
        | inr other ↦ (let below = bit_below (world.words place) in omega (arith, below, other))
      ]

  -- ---- entries behind ones that are done

  module _ (j : ℕ) (entry : Entry) (listed : IsEntry offer.list.entries j entry) (behind : AreBehind world offer j) where
    within : j < length offer.list.entries
    within = slice_get_within offer.list.entries j entry listed

    done_before : (i : ℕ) → i < j → state_at world offer i ≡ 1
    done_before i before = let inside = within in let own = entry_at offer.list.entries i (omega (arith, before, inside)) in (behind i own.0 own.1 before).0

    -- one that is pending is of the executed list
    pub pending_executes : state_at world offer j ≡ 0 → IsExecuting world offer.list
    pending_executes pending = named_now form world offers holds.blocks block offer stands j within done_before pending

    -- where its target stands at `from` it is pending
    pub from_pending : world.words entry.target ≡ entry.from → state_at world offer j ≡ 0
    from_pending at =
        let life = mine.parts.lives j entry listed in
        let state = state_at world offer j in
        elim (cases_eq state 0) [
          | inl pending ↦ pending
          | inr decided ↦ (
              let past : versioned_version entry.from < versioned_version (world.words entry.target) = elim (cases_eq state 1) [
                | inl one ↦ life.taken (life.succeeded one)
                | inr other ↦ life.failed_past (let known = life.known in omega (arith, known, decided, other))
              ] in
              let v = ap versioned_version at in
              absurd (omega (arith, past, v)))
        ]

    -- where its target shows it, it took effect
    pub shown_took : world.words entry.target ≡ marked_word entry.to → has_taken world.journal offer.list j ≡ true
    shown_took shown =
        let life = mine.parts.lives j entry listed in
        let state = state_at world offer j in
        elim (cases_eq state 0) [
          | inl pending ↦ bit_taken form world offers holds.blocks block offer stands (pending_executes pending) j entry listed shown
          | inr decided ↦ elim (cases_eq state 1) [
            | inl one ↦ life.succeeded one
            | inr other ↦ absurd (life.failed_gone (let known = life.known in omega (arith, known, decided, other)) shown)
          ]
        ]

    -- and its list is the executed one
    pub shown_executes : world.words entry.target ≡ marked_word entry.to → IsExecuting world offer.list
    shown_executes shown =
        let at = mine.targets j entry listed in
        let bit : versioned_bit (world.words entry.target) ≡ 1 = ap versioned_bit shown ∙ bit-marked entry.to in
        let k = holds.blocks.bits entry.target (word_marked form world offers holds.blocks entry.target at.0 at.1 at.2) bit in
        let theirs = holds.blocks.offered k.block k.offer k.stands in
        let raised = mine.site.raised j entry listed in
        let raised' = theirs.site.raised k.j k.entry k.listed in
        let to : k.entry.to ≡ entry.to = marked_same k.entry.to entry.to raised'.to_clear raised.to_clear (sym k.shows ∙ shown) in
        let same = one_taken world k.offer.list offer.list k.j j k.entry entry holds.blocks.journal (theirs.taken k.j k.took) (mine.taken j (shown_took shown)) k.listed listed raised' raised k.here to in
        subst (IsExecuting world) same.0 k.executing
