-- What a helper may do to the world, on the list of an offered block: however late it comes, and whoever it is. It is
-- said of the words alone, of no machine.
use Rattle.std.specs.Prelude.{◌≡◌, ◌≢◌, ℕ, ◌<◌, ◌≤◌, length}
use Rattle.word_fields.specs.Versioned.{versioned_version, marked_word}
use Rattle.normal_traits.specs.declared.lists.Entry.{Entry}
use Rattle.normal_traits.specs.World.{World}
use Rattle.normal_traits.specs.World.Maker.{By}
use Rattle.normal_traits.specs.NormalForm.{NormalForm}
use Rattle.normal_traits.specs.Steps.{exchanged, listed_if, put_word, using_block}
use Rattle.cas_executor.specs.declared.slow_run.EntryState.TheVariants.{Pending, Succeeded, Failed}
use Rattle.cas_executor.specs.SlowRuns.{state_place, state_word}
use Rattle.cas_executor_laws.specs.ExecRuns.{IsEntry}
use Rattle.offered_blocks.specs.Blocks.{Offer}

-- the word of the state of entry j
abbrev pub state_at : {S : Type 0} → World → Offer S → ℕ → ℕ
state_at world offer j = world.words (state_place offer.list.block j)

-- the entries before entry j succeeded, and show nothing any more
abbrev pub AreBehind : {S : Type 0} → World → Offer S → ℕ → Type 0
AreBehind world offer j =
    (i : ℕ) (entry : Entry) → IsEntry offer.list.entries i entry → i < j
    → (state_at world offer i ≡ state_word Succeeded) × (world.words entry.target ≢ marked_word entry.to)

-- the list has stopped: behind entries that succeeded stands one that failed, or none
pub record HasStopped {S : Type 0} (world : World) (offer : Offer S) (stop : ℕ) : Type 0 where
  pub within : stop ≤ length offer.list.entries
  pub behind : AreBehind world offer stop
  pub last : (entry : Entry) → IsEntry offer.list.entries stop entry → state_at world offer stop ≡ state_word Failed

module _ {S W : Type 0} (form : NormalForm S W) (world : World) (offer : Offer S) where
  -- the world in which entry j took effect: its target shows the entry
  abbrev pub entered : ℕ → Entry → World
  entered j entry = exchanged form (By offer.list j) (listed_if (form.adds offer.list j) offer.list) entry (marked_word entry.to) world

  -- the first entry uses the block
  abbrev pub first_entered : Entry → World
  first_entered entry =
      let after = entered 0 entry in record { words = after.words; changes = after.changes; used = using_block offer.list.block after.used; journal = after.journal }

  pub data Helps : World → Type 0 where
    -- it loads a word, or loses an exchange
    looks : Helps world
    -- it exchanges the target of an entry, for the entry with its bit set
    installs_first : (entry : Entry) → IsEntry offer.list.entries 0 entry → world.words entry.target ≡ entry.from → Helps (first_entered entry)
    installs_second : (entry : Entry) → IsEntry offer.list.entries 1 entry → AreBehind world offer 1 → world.words entry.target ≡ entry.from → Helps (entered 1 entry)
    -- it decides an entry: one that is shown succeeded
    succeeds : (j : ℕ) (entry : Entry) → IsEntry offer.list.entries j entry → AreBehind world offer j → state_at world offer j ≡ state_word Pending
        → world.words entry.target ≡ marked_word entry.to
        → Helps (put_word (state_place offer.list.block j) (state_word Succeeded) world)
    -- and one that is past and not shown failed
    fails : (j : ℕ) (entry : Entry) → IsEntry offer.list.entries j entry → AreBehind world offer j → state_at world offer j ≡ state_word Pending
        → versioned_version entry.from < versioned_version (world.words entry.target) → world.words entry.target ≢ marked_word entry.to
        → Helps (put_word (state_place offer.list.block j) (state_word Failed) world)
    -- it clears the bit of an entry that succeeded
    clears_bit : (j : ℕ) (entry : Entry) → IsEntry offer.list.entries j entry → AreBehind world offer j → state_at world offer j ≡ state_word Succeeded
        → world.words entry.target ≡ marked_word entry.to → Helps (put_word entry.target entry.to world)
