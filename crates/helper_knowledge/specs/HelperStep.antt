-- A helper's own step: what it rests on, what it finds, and what it leaves.
use Rattle.std.specs.Prelude.{◌≡◌, ℕ, ◌+◌, ◌^◌, ◌<◌, ◌≤◌, true, length, slice_get, Option, Some}
use Rattle.lin_report.specs.declared.calls.Op.{Op}
use Rattle.lin_report.specs.Object.{IsCommandOf}
use Rattle.step_memory.specs.declared.steps.Seen.{Seen}
use Rattle.step_memory.specs.Step.{requested_place}
use Rattle.word_fields.specs.Records.{record_phase, record_number}
use Rattle.node_arena.specs.declared.places.TheConstants.{CLAIMS}
use Rattle.node_arena.specs.MemoryMap.{op_place, value_place}
use Rattle.help_queue.specs.Gathers.{is_open}
use Rattle.normal_traits.specs.declared.form.Found.TheVariants.{Ready}
use Rattle.normal_traits.specs.World.{Called, World}
use Rattle.normal_traits.specs.NormalForm.{NormalForm}
use Rattle.normal_traits.specs.Steps.{Requested, put_word}
use Rattle.cas_executor.specs.BlockReads.{read_request}
use Rattle.cas_executor.specs.SlowRuns.{slow_request}
use Rattle.cas_executor_laws.specs.Parts.{RequestMade}
use Rattle.fast_slow_engine.specs.declared.phases.Generating.TheVariants.{Search, LookForBlock, Claim}
use Rattle.fast_slow_engine.specs.declared.help.Work.{Work}
use Rattle.fast_slow_engine.specs.declared.help.Work.TheVariants as work
use Rattle.fast_slow_engine.specs.HelpWords.{named_block}
use Rattle.offered_blocks.specs.Blocks.{Offer}
use Rattle.offered_blocks.specs.Holds.{HasOffers}
use Rattle.offered_blocks.specs.OtherSteps.{IsSpare}
use Rattle.offered_blocks.specs.RunWorlds.{ran_world}
use Rattle.move_kinds.specs.Contents.{HasContents}
use Rattle.helper_knowledge.specs.Callers.{Caller, HasAnnounced}
use Rattle.helper_knowledge.specs.Carried.{Carried, list_named}

-- the blocks that are used are blocks of an arena, so a reference into one fits a record
abbrev pub UsedSmall : World → Type 0
UsedSmall world = (block : ℕ) → world.used block ≡ true → block < 2 ^ 17

-- what a helper rests on: what holds of all blocks, and of the call that the head's seat makes
pub record RestsOn {S W : Type 0} (form : NormalForm S W) (world : World) (offers : ℕ → Option (Offer S)) (head : ℕ) (caller : Caller) : Type 0 where
  pub holds : HasOffers form world offers
  pub contents : (block : ℕ) (offer : Offer S) → offers block ≡ Some offer → HasContents world offer
  pub announced : HasAnnounced world head caller
  pub command : IsCommandOf form.object caller.op
  pub few : caller.number < 2 ^ 16
  pub early : caller.begun ≤ length world.changes

-- the block in its hand, which no list uses and no record has named
abbrev pub HandIsSpare : {S : Type 0} → World → (ℕ → Option (Offer S)) → Option ℕ → Type 0
HandIsSpare world offers hand = (block : ℕ) → hand ≡ Some block → IsSpare world offers block

-- the call in a record word, with this operation
abbrev pub call_in : ℕ → ℕ → Op → Called
call_in head word op = record { seat = head; number = record_number word; op = op }

module _ {S W : Type 0} (form : NormalForm S W) (world after : World) (offers : ℕ → Option (Offer S)) (head word : ℕ) (hand : Option ℕ) (own own' : Carried S) (identity cap : ℕ) (seen : Seen) where
  -- a list is named for the block, of a search that is ready
  abbrev pub NamesList : S → Op → ℕ → Type 0
  NamesList search op block = (block < 2 ^ 17) × (own'.filled ≡ Some (list_named form identity search own.since (call_in head word op) block))

  -- a step of this work; of an exchange of the record, one that is lost
  abbrev pub Steps : Work S W → Type 0
  Steps work.Head = (after ≡ world) × (is_open (record_phase word) ≡ true)
  Steps work.Op = (after ≡ world) × (seen.before ≡ world.words (op_place head))
  Steps (work.Value op) = (after ≡ world) × (seen.before ≡ world.words (value_place head)) × (own'.since ≡ length world.changes)
  Steps (work.Generate op search Search) =
      Requested form (form.request_of search) world after seen × (own'.since ≡ own.since) × ((block : ℕ) → hand ≡ Some block → form.found_of search seen ≡ Ready → NamesList (form.feed_of search seen) op block)
  Steps (work.Generate op search LookForBlock) = (after ≡ world) × (own'.since ≡ own.since)
  Steps (work.Generate op search Claim) = ((claims : ℕ) × (after ≡ put_word CLAIMS claims world)) × (own'.since ≡ own.since) × (seen.before < cap → NamesList search op (seen.before + 1))
  Steps (work.Fill stores made) = (own'.filled ≡ own.filled) × ((store : ℕ × ℕ) → slice_get stores.items made ≡ Some store → after ≡ put_word store.0 store.1 world)
  Steps (work.Advance to) = after ≡ world
  Steps (work.Read read) = (after ≡ world) × (seen.before ≡ world.words (requested_place (read_request read)))
  Steps (work.Execute run) =
      RequestMade (slow_request run) world.words after.words seen × ((offer : Offer S) → offers (named_block word) ≡ Some offer → after ≡ ran_world form world offer run seen after.words)
  Steps (work.Wrap wrap) = Requested form (form.wrap_request_of wrap) world after seen
