-- The world after a step of a run on the list of an offered block: the words that the step left, and where it installed an
-- entry, what that entry adds.
use Rattle.std.specs.Prelude.{ℕ, ◌==◌, ◌&&◌, if◌then◌else◌, Bool, true, false, ◌∷◌, slice_get, Option, Some, None}
use Rattle.step_memory.specs.declared.steps.Seen.{Seen}
use Rattle.normal_traits.specs.declared.lists.Entry.{Entry}
use Rattle.normal_traits.specs.World.{World}
use Rattle.normal_traits.specs.World.Maker.{By}
use Rattle.normal_traits.specs.NormalForm.{NormalForm}
use Rattle.normal_traits.specs.Steps.{listed_if, using_block, with_change}
use Rattle.cas_executor.specs.SlowRuns.{SlowWalk, installs}
use Rattle.offered_blocks.specs.Blocks.{Offer}

-- the same with other words
abbrev pub with_words : World → (ℕ → ℕ) → World
with_words world words = record { words = words; changes = world.changes; used = world.used; journal = world.journal }

-- the first entry uses the block
abbrev pub used_by : ℕ → ℕ → (ℕ → Bool) → ℕ → Bool
used_by j block used = if j == 0 then using_block block used else used

module _ {S W : Type 0} (form : NormalForm S W) (world : World) (offer : Offer S) where
  -- by whether it installed this entry
  abbrev pub ran_by : ℕ → (ℕ → ℕ) → Bool → Option Entry → World
  ran_by j words false entry = with_words world words
  ran_by j words true None = with_words world words
  ran_by j words true (Some entry) =
      record {
        words = words;
        changes = with_change form.object (listed_if (form.adds offer.list j) offer.list) world.changes;
        used = used_by j offer.list.block world.used;
        journal = record { place = entry.target; before = entry.from; after = entry.to; maker = By offer.list j; cause = form.cause_of world (By offer.list j) entry } ∷ world.journal;
      }

  abbrev pub ran_world : SlowWalk → Seen → (ℕ → ℕ) → World
  ran_world walk seen words = ran_by walk.next words (installs walk.step && seen.won) (slice_get offer.list.entries walk.next)
