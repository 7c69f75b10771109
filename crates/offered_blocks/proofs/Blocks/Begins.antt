-- A block that a record names for the first time: its list is pending, and its bits are clear.
use Rattle.std.proofs.Common.{◌≡◌, ◌≢◌, ◌∙◌, sym, subst, ap, ℕ, ◌+◌, ◌<◌, ◌≤◌, ◌^◌, true, false, inl, inr, List, length, slice_get, Some, arith}
use Rattle.std.proofs.lemmas.Bool.{cases_eq, cases_lt}
use Rattle.std.proofs.lemmas.Option.{slice_get_within, get_or_from_slice_get}
use Rattle.std.specs.Prelude.{get_or}
use Rattle.word_fields.specs.Versioned.{versioned_bit, versioned_version}
use Rattle.word_fields.proofs.ChangedWords.{bit-changed, version-changed_below}
use Rattle.normal_traits.specs.declared.lists.Entry.{Entry}
use Rattle.normal_traits.specs.World.{World, is_word}
use Rattle.normal_traits.specs.NormalForm.{NormalForm}
use Rattle.normal_traits.specs.Steps.{IsOffered}
use Rattle.normal_traits.specs.Laws.{Laws, IsGoodEntry, IsGoodOffer}
use Rattle.normal_traits.proofs.Stays.{all_at}
use Rattle.cas_executor.specs.SlowRuns.{state_place}
use Rattle.cas_executor_laws.specs.ExecRuns.{IsEntry, HasOwnTargets}
use Rattle.cas_executor_laws.specs.Entries.{IsRaised, Life}
use Rattle.cas_executor_laws.specs.Parts.{IsSite, Offered, view_in}
use Rattle.offered_blocks.specs.Blocks.{Offer, site_of, has_taken, IsOffer, IsExecuting}
use Rattle.offered_blocks.proofs.Helpers.Deeds.{word_no_state}

module _ {S W : Type 0} (form : NormalForm S W) (laws : Laws form) (world : World) (shape : form.shape world) (block : ℕ) (offer : Offer S)
    (offered : IsOffered form world offer.list offer.offering offer.since) (block_is : offer.list.block ≡ block) (some : 0 < block)
    (room : (place : ℕ) → is_word form.is_root world place ≡ true → form.is_versioned place ≡ true → versioned_version (world.words place) + 1 < 2 ^ 39)
    (pending : (j : ℕ) → j < 2 → world.words (state_place block j) ≡ 0) (fresh : (j : ℕ) → has_taken world.journal offer.list j ≡ false) where
  good : IsGoodOffer form world offer.list.block (form.offer_of offer.offering offer.list.call.op offer.list.block)
  good = laws.of_world.offers world offer.offering offer.list.call.op offer.since offer.list.block offered.command shape offered.knows offered.ready offered.small

  entry_good : (j : ℕ) (entry : Entry) → IsEntry offer.list.entries j entry → IsGoodEntry form world entry
  entry_good j entry listed = all_at (IsGoodEntry form world) _ j entry good.entries (ap (λ (es : List Entry). slice_get es j) (sym offered.entries) ∙ listed)

  long : length offer.list.entries ≤ 2
  long = subst (λ (es : List Entry). length es ≤ 2) (sym offered.entries) good.few

  raised_of : (j : ℕ) (entry : Entry) → IsEntry offer.list.entries j entry → IsRaised entry
  raised_of j entry listed =
      let is = entry_good j entry listed in
      let v : versioned_version entry.from + 1 < 2 ^ 39 = elim (is.seen is.clear) [
        | inl same ↦ (let r = room entry.target is.word is.versioned in let e = ap versioned_version same in omega (arith, r, e))
        | inr past ↦ (let r = room entry.target is.word is.versioned in omega (arith, r, past))
      ] in
      record {
        from_clear = is.clear;
        to_clear = ap versioned_bit is.changed.2 ∙ bit-changed entry.from is.changed.0 is.changed.1;
        version = ap versioned_version is.changed.2 ∙ version-changed_below entry.from is.changed.0 is.changed.1 v;
      }

  -- two entries of one target are one
  same_target : HasOwnTargets offer.list.entries
  same_target i j first second at at' same =
      elim (cases_lt i j) [
        | inl before ↦ absurd (apart_at i j first second before at at' same)
        | inr rest ↦ elim (cases_eq i j) [ inl equal ↦ equal | inr other ↦ absurd (apart_at j i second first (omega (arith, rest, other)) at' at (sym same)) ]
      ]
    where
      apart_at : (i j : ℕ) (first second : Entry) → i < j → IsEntry offer.list.entries i first → IsEntry offer.list.entries j second → first.target ≢ second.target
      apart_at i j first second before at at' =
          let es = (form.offer_of offer.offering offer.list.call.op offer.list.block).entries in
          let here : slice_get es i ≡ Some first = ap (λ (l : List Entry). slice_get l i) (sym offered.entries) ∙ at in
          let there : slice_get es j ≡ Some second = ap (λ (l : List Entry). slice_get l j) (sym offered.entries) ∙ at' in
          let pair = good.apart i j first before (slice_get_within es j second there) in
          subst (λ (e : Entry). e.target ≢ second.target) (get_or_from_slice_get es i first first here)
          (subst (λ (e : Entry). (get_or es i first).target ≢ e.target) (get_or_from_slice_get es j second first there) pair)

  pub begins_site : IsSite (site_of offer)
  begins_site = record {
    short = long;
    raised = raised_of;
    apart = same_target;
    outside = λ i j entry few listed. word_no_state form.is_root world offer.list.block i entry.target (omega (arith, block_is, some)) few (entry_good j entry listed).word;
  }

  state_pending : (j : ℕ) → j < 2 → world.words (state_place offer.list.block j) ≡ 0
  state_pending j few = ap (λ b. world.words (state_place b j)) block_is ∙ pending j few

  none_taken : {A : Type 0} (j : ℕ) → has_taken world.journal offer.list j ≡ true → A
  none_taken j took = absurd (let none = fresh j in cc)

  life_of : (j : ℕ) (entry : Entry) → IsEntry offer.list.entries j entry → Life entry (view_in (site_of offer) world.words (has_taken world.journal offer.list) j entry)
  life_of j entry listed =
      let zero' = state_pending j (let within = slice_get_within offer.list.entries j entry listed in omega (arith, within, long)) in
      record {
        known = omega (arith, zero');
        taken = λ took. none_taken j took;
        pending = λ open_ took. none_taken j took;
        succeeded = λ one. absurd (omega (arith, one, zero'));
        failed = λ two. absurd (omega (arith, two, zero'));
        failed_past = λ two. absurd (omega (arith, two, zero'));
        failed_gone = λ two. absurd (omega (arith, two, zero'));
      }

  pub begins_parts : Offered (site_of offer) world.words (has_taken world.journal offer.list)
  begins_parts = record {
    seen = λ j entry listed. (let is = entry_good j entry listed in is.seen is.clear);
    lives = life_of;
    order = λ j within. record {
      taken = λ took i before. none_taken j took;
      decided = λ decided i before. absurd (decided (state_pending j (omega (arith, within, long))));
    };
  }

  -- so a block is an offered one as soon as the record names it
  pub begins_offer : IsExecuting world offer.list → IsOffer form world block offer
  begins_offer executing = record {
    block_is = block_is;
    some = some;
    offered = offered;
    site = begins_site;
    targets = λ j entry listed. (let is = entry_good j entry listed in (is.word, is.versioned, is.listable));
    taken = λ j took. none_taken j took;
    parts = begins_parts;
    settled = inl executing;
  }
