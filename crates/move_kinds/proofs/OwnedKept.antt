-- The lists that took effect stay owned, whatever a move does.
use Rattle.std.proofs.Common.{◌≡◌, ◌≢◌, ◌∙◌, sym, subst, ap, ℕ, ◌<◌, inl, inr, Option, Some, None, arith}
use Rattle.std.proofs.lemmas.Bool.{cases_eq}
use Rattle.word_fields.specs.declared.records.RecordPhase.TheVariants.{Generate, Executing, Wrapping}
use Rattle.word_fields.specs.declared.records.RecordWord.{RecordWord}
use Rattle.word_fields.specs.Payloads.{payload_block}
use Rattle.word_fields.specs.Records.{record_number, record_of, record_payload, record_phase}
use Rattle.word_fields.proofs.RecordWords.{record_of-packed}
use Rattle.node_arena.specs.MemoryMap.{record_place}
use Rattle.normal_traits.specs.World.{Among, Change, Listed, World}
use Rattle.normal_traits.specs.NormalForm.{NormalForm}
use Rattle.normal_traits.specs.Laws.{Laws}
use Rattle.normal_traits.specs.Steps.{put_word}
use Rattle.normal_traits.proofs.Stays.{word_beside, word_put}
use Rattle.offered_blocks.specs.Blocks.{Offer, record_for}
use Rattle.offered_blocks.specs.Holds.{HasOffers}
use Rattle.offered_blocks.proofs.Blocks.Named.{some_offer}
use Rattle.fast_slow_engine.specs.HelpWords.{named_block}
use Rattle.move_kinds.specs.Kinds.{IsUnannounced, IsWon}
use Rattle.move_kinds.specs.Moves.{Leaves}
use Rattle.move_kinds.specs.Owned.{IsNamedNow, IsOwned}
use Rattle.move_kinds.specs.Owned.IsOwned.{unannounced, named, dead, changed}
use Rattle.move_kinds.proofs.OutcomesKept.{among_after}

module _ {S W : Type 0} (form : NormalForm S W) (laws : Laws form) (world after : World) (offers offers' : ℕ → Option (Offer S)) (holds : HasOffers form world offers)
    (leaves : Leaves form world after offers offers' None) where
  pub still_dead : (list : Listed) → form.dead list world → IsOwned form after offers' list
  still_dead list is = dead (laws.dead_kept world after list holds.shape is leaves.step)

  pub still_changed : (list : Listed) (change : Change) → Among change world.changes → change.list ≡ list → IsOwned form after offers' list
  still_changed list change among of =
      changed change (subst (Among change) (sym leaves.grows.changes.1) (among_after change leaves.grows.changes.0 world.changes among)) of

  -- a list is named still where its record stays
  pub still_named : (list : Listed) → record_for after list ≡ record_for world list → IsNamedNow world offers list → IsNamedNow after offers' list
  still_named list same now = record {
    offer = now.offer;
    stands = leaves.offered list.block now.offer now.stands;
    list_is = now.list_is;
    seated = now.seated;
    phase = elim now.phase [ inl executing ↦ inl (ap record_phase same ∙ executing) | inr wrapping ↦ inr (ap record_phase same ∙ wrapping) ];
    block = ap (λ w. payload_block (record_payload w)) same ∙ now.block;
  }

  pub still_unannounced : (list : Listed) → record_number (record_for after list) ≡ record_number (record_for world list) → IsUnannounced world list → IsUnannounced after list
  still_unannounced list same fast = (fast.0, λ e. fast.1 (sym same ∙ e))

  -- ---- the records stay

  pub stays_owned : ((seat : ℕ) → seat < 8 → after.words (record_place seat) ≡ world.words (record_place seat)) → (list : Listed) → IsOwned form world offers list → IsOwned form after offers' list
  stays_owned same list (unannounced fast) = unannounced (still_unannounced list (ap record_number (same list.call.seat fast.0)) fast)
  stays_owned same list (named now) = named (still_named list (same list.call.seat now.seated) now)
  stays_owned same list (dead is) = still_dead list is
  stays_owned same list (changed change among of) = still_changed list change among of

  -- ---- one record is put

  module _ (head to : ℕ) (put : after ≡ put_word (record_place head) to world) where
    pub at_head : (list : Listed) → list.call.seat ≡ head → record_for after list ≡ to
    at_head list same = ap (λ (w : World). w.words (record_place list.call.seat)) put ∙ word_put (record_place head) to world.words (record_place list.call.seat) (ap record_place same)

    pub apart : (list : Listed) → list.call.seat ≢ head → record_for after list ≡ record_for world list
    apart list other = ap (λ (w : World). w.words (record_place list.call.seat)) put ∙ word_beside (record_place head) to world.words (record_place list.call.seat) (λ e. other (omega (arith, e)))

    pub put_owned : ((list : Listed) → list.call.seat ≡ head → IsUnannounced world list → IsOwned form after offers' list) → ((list : Listed) → list.call.seat ≡ head → IsNamedNow world offers list → IsOwned form after offers' list)
        → (list : Listed) → IsOwned form world offers list → IsOwned form after offers' list
    put_owned fast now list (unannounced is) =
        elim (cases_eq list.call.seat head) [ inl same ↦ fast list same is | inr other ↦ unannounced (still_unannounced list (ap record_number (apart list other)) is) ]
    put_owned fast now list (named is) = elim (cases_eq list.call.seat head) [ inl same ↦ now list same is | inr other ↦ named (still_named list (apart list other) is) ]
    put_owned fast now list (dead is) = still_dead list is
    put_owned fast now list (changed change among of) = still_changed list change among of

  -- ---- an exchange of a record wins

  module _ (head word to : ℕ) (won : IsWon world after head word to) (number : record_number to ≡ record_number word) where
    fields : (list : Listed) → list.call.seat ≡ head → record_of (record_for world list) ≡ record_of word
    fields list same = ap (λ s. record_of (world.words (record_place s))) same ∙ ap record_of won.stood ∙ record_of-packed (record_of word)

    pub won_owned : ((list : Listed) → list.call.seat ≡ head → IsNamedNow world offers list → IsOwned form after offers' list) → (list : Listed) → IsOwned form world offers list → IsOwned form after offers' list
    won_owned =
        put_owned head to won.after_is
        (λ list same is. unannounced (still_unannounced list (ap record_number (at_head head to won.after_is list same) ∙ number ∙ sym (ap (λ (r : RecordWord). r.number) (fields list same))) is))

    -- the record is in the phase of the loaded word, and names the block that it names
    pub phase_of : (list : Listed) → list.call.seat ≡ head → record_phase (record_for world list) ≡ record_phase word
    phase_of list same = ap (λ (r : RecordWord). r.phase) (fields list same)

    pub block_of : (list : Listed) → list.call.seat ≡ head → IsNamedNow world offers list → named_block word ≡ list.block
    block_of list same now = sym (ap (λ (r : RecordWord). payload_block r.payload) (fields list same)) ∙ now.block

    pub generate_not : (list : Listed) → list.call.seat ≡ head → record_phase word ≡ Generate → IsNamedNow world offers list → IsOwned form after offers' list
    generate_not list same generates now =
        elim now.phase [
          | inl executing ↦ absurd (let both : Generate ≡ Executing = sym generates ∙ sym (phase_of list same) ∙ executing in cc)
          | inr wrapping ↦ absurd (let both : Generate ≡ Wrapping = sym generates ∙ sym (phase_of list same) ∙ wrapping in cc)
        ]

    -- the offer of the loaded word is that list
    pub one_list : (list : Listed) → list.call.seat ≡ head → IsNamedNow world offers list → (offer : Offer S) → offers (named_block word) ≡ Some offer → offer.list ≡ list
    one_list list same now offer stands =
        let one : offer ≡ now.offer = some_offer offer now.offer (offers list.block) (subst (λ b. offers b ≡ Some offer) (block_of list same now) stands) now.stands in
        ap (λ (o : Offer S). o.list) one ∙ now.list_is
