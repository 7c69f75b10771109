-- What a step of anyone but a helper of a block is to that block: a fast list, a search, a wrap-up, the engine.
use Rattle.std.proofs.Common.{◌≡◌, ◌≢◌, ◌∙◌, ap, ℕ, ◌<◌, length, Option, Some, arith}
use Rattle.std.proofs.lemmas.Option.{slice_get_within}
use Rattle.word_fields.specs.Versioned.{versioned_bit, marked_word, cleared_word}
use Rattle.word_fields.proofs.ChangedWords.{bit-marked}
use Rattle.normal_traits.specs.declared.lists.Entry.{Entry}
use Rattle.normal_traits.specs.World.{World}
use Rattle.normal_traits.specs.NormalForm.{NormalForm}
use Rattle.normal_traits.specs.Steps.{IsStep}
use Rattle.normal_traits.specs.Laws.{Laws}
use Rattle.cas_executor.specs.SlowRuns.{state_place}
use Rattle.cas_executor_laws.specs.ExecRuns.{IsEntry}
use Rattle.cas_executor_laws.specs.Entries.{Turn}
use Rattle.cas_executor_laws.specs.Entries.Turn.{moves}
use Rattle.cas_executor_laws.specs.Parts.{Deed, view_in}
use Rattle.offered_blocks.specs.Blocks.{Offer, site_of, has_taken, IsOffer, HasBlocks}
use Rattle.offered_blocks.proofs.Blocks.Guards.{Goes, moves_of, step_goes}
use Rattle.offered_blocks.proofs.Blocks.Guards.Goes.{stays, clears_bit, rises}

module _ {S W : Type 0} (form : NormalForm S W) (laws : Laws form) (world after : World) (offers : ℕ → Option (Offer S)) (blocks : HasBlocks form world offers) where
  -- a set bit stays: the step is no clearing of a bit
  abbrev pub KeepsBits : Type 0
  KeepsBits = (place : ℕ) → versioned_bit (world.words place) ≡ 1 → after.words place ≢ cleared_word (world.words place)

  module _ (shape : form.shape world) (step : IsStep form world after) (keeps : KeepsBits)
      (block : ℕ) (offer : Offer S) (stands : offers block ≡ Some offer)
      (states : (j : ℕ) → j < length offer.list.entries → after.words (state_place offer.list.block j) ≡ world.words (state_place offer.list.block j))
      (same : (j : ℕ) → has_taken after.journal offer.list j ≡ has_taken world.journal offer.list j) where
    mine : IsOffer form world block offer
    mine = blocks.offered block offer stands

    -- a target that shows its entry stays
    still : (j : ℕ) (entry : Entry) → IsEntry offer.list.entries j entry → world.words entry.target ≡ marked_word entry.to
        → Goes (form.is_listable entry.target) (world.words entry.target) (after.words entry.target) → after.words entry.target ≡ world.words entry.target
    still j entry listed shown (stays is) = is
    still j entry listed shown (clears_bit is) = absurd (keeps entry.target (ap versioned_bit shown ∙ bit-marked entry.to) is)
    still j entry listed shown (rises more clear) =
        let bit : versioned_bit (world.words entry.target) ≡ 1 = ap versioned_bit shown ∙ bit-marked entry.to in
        let none = clear (mine.targets j entry listed).2 in
        absurd (omega (arith, bit, none))

    turn : (j : ℕ) (entry : Entry) → IsEntry offer.list.entries j entry
        → Turn entry (view_in (site_of offer) world.words (has_taken world.journal offer.list) j entry) (view_in (site_of offer) after.words (has_taken after.journal offer.list) j entry)
    turn j entry listed =
        let goes = step_goes form laws world entry.target (mine.targets j entry listed).0 after shape step in
        moves (moves_of _ _ _ goes) (λ pending took. still j entry listed ((mine.parts.lives j entry listed).pending pending took) goes)
        (states j (slice_get_within offer.list.entries j entry listed)) (same j)

    pub foreign_deed : Deed (site_of offer) world.words (has_taken world.journal offer.list) after.words (has_taken after.journal offer.list)
    foreign_deed = record {
      turns = turn;
      taken = λ j within differs. absurd (differs (same j));
      decided = λ j within differs. absurd (differs (states j within));
    }
