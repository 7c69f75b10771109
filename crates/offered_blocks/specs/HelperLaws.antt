-- What is so of helpers, of any structure in normalized form.
use Rattle.std.specs.Prelude.{◌≡◌, ℕ, true, false, Option, Some}
use Rattle.step_memory.specs.declared.steps.Seen.{Seen}
use Rattle.word_fields.specs.Versioned.{versioned_bit, marked_word}
use Rattle.normal_traits.specs.declared.lists.Entry.{Entry}
use Rattle.normal_traits.specs.World.{World}
use Rattle.normal_traits.specs.NormalForm.{NormalForm}
use Rattle.normal_traits.specs.Steps.{IsStep}
use Rattle.cas_executor.specs.declared.slow_run.EntryState.TheVariants.{Pending}
use Rattle.cas_executor.specs.SlowRuns.{SlowWalk, slow_execution, slow_fed, slow_request, state_word}
use Rattle.cas_executor_laws.specs.ExecRuns.{IsEntry}
use Rattle.cas_executor_laws.specs.Parts.{RequestMade, Knows, Helps as RunKnows}
use Rattle.offered_blocks.specs.Blocks.{Offer, IsExecuting, MayBeMarked, has_taken, site_of}
use Rattle.offered_blocks.specs.Holds.{HasOffers}
use Rattle.offered_blocks.specs.HelperSteps.{AreBehind, HasStopped, Helps, state_at}
use Rattle.offered_blocks.specs.RunWorlds.{ran_world}

module _ {S W : Type 0} (form : NormalForm S W) where
  -- what a helper does to the list of one block is an allowed step of the client, and what holds of all blocks holds
  -- after it
  abbrev pub HelpersKeep : Type 0
  HelpersKeep =
      (world after : World) (offers : ℕ → Option (Offer S)) (block : ℕ) (offer : Offer S) → HasOffers form world offers → offers block ≡ Some offer
      → Helps form world offer after → HasOffers form after offers × IsStep form world after

  -- a step of a run that knows what it must is one of these, and the run knows what it must afterwards, or where the list
  -- has stopped
  abbrev pub RunsHelp : Type 0
  RunsHelp =
      (world : World) (offers : ℕ → Option (Offer S)) (block : ℕ) (offer : Offer S) (walk : SlowWalk) (seen : Seen) (words : ℕ → ℕ) → HasOffers form world offers → offers block ≡ Some offer
      → Knows (site_of offer) world.words (has_taken world.journal offer.list) walk → RequestMade (slow_request walk) world.words words seen
      → Helps form world offer (ran_world form world offer walk seen words)
      × RunKnows (site_of offer) words (has_taken (ran_world form world offer walk seen words).journal offer.list) (slow_fed walk seen) (slow_execution walk seen)

  -- behind entries that are done a listed exchange wins for the executed list alone, for an entry that is pending and
  -- did not take effect: so a late one wins nothing
  abbrev pub LateWinsNothing : Type 0
  LateWinsNothing =
      (world : World) (offers : ℕ → Option (Offer S)) (block : ℕ) (offer : Offer S) (j : ℕ) (entry : Entry) → HasOffers form world offers → offers block ≡ Some offer
      → IsEntry offer.list.entries j entry → AreBehind world offer j → world.words entry.target ≡ entry.from
      → IsExecuting world offer.list × (state_at world offer j ≡ state_word Pending) × (has_taken world.journal offer.list j ≡ false)

  -- behind entries that are done, an entry that its target shows took effect, and its list is executed
  abbrev pub ShownTook : Type 0
  ShownTook =
      (world : World) (offers : ℕ → Option (Offer S)) (block : ℕ) (offer : Offer S) (j : ℕ) (entry : Entry) → HasOffers form world offers → offers block ≡ Some offer
      → IsEntry offer.list.entries j entry → AreBehind world offer j → world.words entry.target ≡ marked_word entry.to
      → (has_taken world.journal offer.list j ≡ true) × IsExecuting world offer.list

  -- a list stops at one place, whoever comes there
  abbrev pub StopsAgree : Type 0
  StopsAgree =
      (world : World) (offers : ℕ → Option (Offer S)) (block : ℕ) (offer : Offer S) (stop other : ℕ) → HasOffers form world offers → offers block ≡ Some offer
      → HasStopped world offer stop → HasStopped world offer other → stop ≡ other

  -- where the executed list has stopped no bit is left, at any place where lists may have entries
  abbrev pub NoBitsLeft : Type 0
  NoBitsLeft =
      (world : World) (offers : ℕ → Option (Offer S)) (block : ℕ) (offer : Offer S) (stop place : ℕ) → HasOffers form world offers → offers block ≡ Some offer
      → IsExecuting world offer.list → HasStopped world offer stop → MayBeMarked form place → versioned_bit (world.words place) ≡ 0
