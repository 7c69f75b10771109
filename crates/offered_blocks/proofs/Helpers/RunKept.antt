-- All that holds of offered blocks holds after a step of any helper of any of them.
use Rattle.std.proofs.Common.{◌≡◌, ◌≢◌, sym, subst, ℕ, ◌<◌, true, false, inl, inr, Option, Some}
use Rattle.std.proofs.lemmas.Bool.{cases_eq}
use Rattle.step_memory.specs.declared.steps.Seen.{Seen}
use Rattle.node_arena.specs.MemoryMap.{record_place}
use Rattle.normal_traits.specs.World.{Listed, World, Took, is_word}
use Rattle.normal_traits.specs.NormalForm.{NormalForm}
use Rattle.normal_traits.specs.Steps.{IsStep}
use Rattle.normal_traits.specs.Laws.{Laws}
use Rattle.cas_executor.specs.SlowRuns.{SlowWalk, slow_request, state_place}
use Rattle.cas_executor_laws.specs.Parts.{RequestMade, Knows, TookBy}
use Rattle.offered_blocks.specs.Blocks.{Offer, site_of, has_taken, IsOffer, HasBlocks, IsExecuting, JournalRises}
use Rattle.offered_blocks.proofs.Blocks.Named.{some_offer}
use Rattle.offered_blocks.proofs.Helpers.Deeds.{other_deed}
use Rattle.offered_blocks.proofs.Helpers.OwnDeeds.{own_deed}
use Rattle.offered_blocks.proofs.Helpers.BitsKept.{bits_after, executing_same}
use Rattle.offered_blocks.proofs.Blocks.Kept.{offer_kept}

module _ {S W : Type 0} (form : NormalForm S W) (laws : Laws form) (world after : World) (shape : form.shape world) (step : IsStep form world after)
    (words : (place : ℕ) → is_word form.is_root world place ≡ true → is_word form.is_root after place ≡ true)
    (offers : ℕ → Option (Offer S)) (blocks : HasBlocks form world offers)
    (block : ℕ) (offer : Offer S) (stands : offers block ≡ Some offer) (walk : SlowWalk) (seen : Seen)
    (knows : Knows (site_of offer) world.words (has_taken world.journal offer.list) walk) (made : RequestMade (slow_request walk) world.words after.words seen)
    (by : TookBy walk seen (has_taken world.journal offer.list) (has_taken after.journal offer.list))
    (states_plain : (i : ℕ) → i < 2 → form.is_versioned (state_place offer.list.block i) ≡ false)
    (grows : (list : Listed) (j : ℕ) → has_taken world.journal list j ≡ true → has_taken after.journal list j ≡ true)
    (records : (seat : ℕ) → seat < 8 → after.words (record_place seat) ≡ world.words (record_place seat))
    (others : (other : ℕ) (mate : Offer S) → offers other ≡ Some mate → block ≢ other → (j : ℕ) → has_taken after.journal mate.list j ≡ has_taken world.journal mate.list j)
    (taken : (other : ℕ) (mate : Offer S) → offers other ≡ Some mate → (j : ℕ) → has_taken after.journal mate.list j ≡ true → Took after mate.list j)
    (journal : JournalRises after) where
  still_executes : (list : Listed) → IsExecuting world list → IsExecuting after list
  still_executes list is = executing_same world after list (records list.call.seat is.seated) is

  executed_before : (list : Listed) → IsExecuting after list → IsExecuting world list
  executed_before list is = executing_same after world list (sym (records list.call.seat is.seated)) is

  offer_after : (other : ℕ) (mate : Offer S) → offers other ≡ Some mate → IsOffer form after other mate
  offer_after other mate stands' =
      elim (cases_eq block other) [
        | inl same ↦
            let one : offer ≡ mate = some_offer offer mate (offers other) (subst (λ b. offers b ≡ Some offer) same stands) stands' in
            subst (λ (o : Offer S). IsOffer form after other o) one
            (subst (λ b. IsOffer form after b offer) same
            (offer_kept form laws world after shape step words block offer (blocks.offered block offer stands)
            (own_deed form world offers blocks block offer stands walk seen after.words (has_taken after.journal offer.list) knows made by).deed
            (taken block offer stands) (λ named. inl (still_executes offer.list named))))
        | inr apart ↦
            offer_kept form laws world after shape step words other mate (blocks.offered other mate stands')
            (other_deed form world offers blocks block offer stands walk seen after.words knows made other mate stands' apart (has_taken after.journal mate.list) (others other mate stands' apart))
            (taken other mate stands') (λ named. inl (still_executes mate.list named))
      ]

  pub run_kept : HasBlocks form after offers
  run_kept = record {
    offered = offer_after;
    apart = blocks.apart;
    one = λ list other is is'. blocks.one list other (executed_before list is) (executed_before other is');
    bits = bits_after form world after offers blocks block offer stands walk seen knows made by states_plain grows records;
    journal = journal;
  }
