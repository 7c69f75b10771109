-- What may be said of one entry of an offered block, by three things: the word of its state, the word of its
-- target, and whether it took effect. Nothing here speaks of a memory.
use Rattle.std.specs.Prelude.{◌≡◌, ◌≢◌, ℕ, ◌+◌, ◌<◌, ◌≤◌, Bool, true, false, ◌⊎◌}
use Rattle.word_fields.specs.Versioned.{versioned_bit, versioned_version, marked_word, cleared_word}
use Rattle.normal_traits.specs.declared.lists.Entry.{Entry}
use Rattle.cas_executor.specs.declared.slow_run.EntryState.TheVariants.{Pending, Succeeded, Failed}
use Rattle.cas_executor.specs.SlowRuns.{state_word}

-- both words of an entry have their bits clear, and `to` is one version above `from`
pub record IsRaised (entry : Entry) : Type 0 where
  pub from_clear : versioned_bit entry.from ≡ 0
  pub to_clear : versioned_bit entry.to ≡ 0
  pub version : versioned_version entry.to ≡ versioned_version entry.from + 1

-- the state, the target's word, and whether the entry took effect
pub record View : Type 0 where
  pub state : ℕ
  pub word : ℕ
  pub took : Bool

-- the target is past `from`
abbrev pub IsPast : Entry → View → Type 0
IsPast entry view = versioned_version entry.from < versioned_version view.word

-- the target shows `to` with its bit set
abbrev pub IsShown : Entry → View → Type 0
IsShown entry view = view.word ≡ marked_word entry.to

-- ---- parts that hold of each entry

-- the target holds `from` or is past it
abbrev pub StandsOrPassed : Entry → View → Type 0
StandsOrPassed entry view = (view.word ≡ entry.from) ⊎ IsPast entry view

-- The life of an entry: pending and not taken; pending and taken, which its target shows; succeeded, and taken;
-- failed, not taken, and the target is past `from` and doesn't show the entry.
pub record Life (entry : Entry) (view : View) : Type 0 where
  pub known : view.state ≤ state_word Failed
  pub taken : view.took ≡ true → IsPast entry view
  pub pending : view.state ≡ state_word Pending → view.took ≡ true → IsShown entry view
  pub succeeded : view.state ≡ state_word Succeeded → view.took ≡ true
  pub failed : view.state ≡ state_word Failed → view.took ≡ false
  pub failed_past : view.state ≡ state_word Failed → IsPast entry view
  pub failed_gone : view.state ≡ state_word Failed → ¬ IsShown entry view

-- a set bit of the target is that of this entry, which took effect
pub record OwnsBit (entry : Entry) (view : View) : Type 0 where
  pub shown : versioned_bit view.word ≡ 1 → IsShown entry view
  pub took : versioned_bit view.word ≡ 1 → view.took ≡ true

-- ---- what a step of anyone does to an entry

-- what others do to a word: nothing, they clear its bit, or raise its version
pub data Moves (old new : ℕ) : Type 0 where
  kept : new ≡ old → Moves old new
  cleared : new ≡ cleared_word old → Moves old new
  raised : versioned_version old < versioned_version new → Moves old new

pub data Turn (entry : Entry) (old new : View) : Type 0 where
  -- nothing of it changes
  stays : new.state ≡ old.state → new.word ≡ old.word → new.took ≡ old.took → Turn entry old new
  -- its listed exchange wins
  installs : old.word ≡ entry.from → new.word ≡ marked_word entry.to → new.state ≡ old.state → new.took ≡ true → Turn entry old new
  -- it is decided that it succeeded
  succeeds : old.state ≡ state_word Pending → old.took ≡ true → new.state ≡ state_word Succeeded → new.word ≡ old.word → new.took ≡ old.took → Turn entry old new
  -- it is decided that it failed
  fails : old.state ≡ state_word Pending → old.took ≡ false → IsPast entry old → ¬ IsShown entry old → new.state ≡ state_word Failed → new.word ≡ old.word → new.took ≡ old.took → Turn entry old new
  -- its bit is cleared
  clears : old.state ≡ state_word Succeeded → IsShown entry old → new.word ≡ entry.to → new.state ≡ old.state → new.took ≡ old.took → Turn entry old new
  -- others change its target, which doesn't show it as taken and undecided
  moves : Moves old.word new.word → (old.state ≡ state_word Pending → old.took ≡ true → new.word ≡ old.word) → new.state ≡ old.state → new.took ≡ old.took → Turn entry old new

-- others leave no bit of their own at the target
abbrev pub LeavesBit : (entry : Entry) (old new : View) → Turn entry old new → Type 0
LeavesBit entry old new (moves m still state took) = versioned_bit new.word ≡ 1 → new.word ≡ old.word
LeavesBit entry old new _ = Unit {0}

-- what every step leaves of an entry: a decision, that it took effect, and that its target is past `from` stay;
-- past `from` it doesn't take effect any more, and isn't shown again
pub record Later (entry : Entry) (old new : View) : Type 0 where
  pub decided : old.state ≢ state_word Pending → new.state ≡ old.state
  pub taken : old.took ≡ true → new.took ≡ true
  pub past : IsPast entry old → IsPast entry new
  pub gone : IsPast entry old → ¬ IsShown entry old → ¬ IsShown entry new
  pub missed : IsPast entry old → old.took ≡ false → new.took ≡ false
