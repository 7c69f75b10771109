-- What the won exchanges of every run obey, whoever made them.
use Rattle.std.specs.Prelude.{◌≡◌, ◌≢◌, ℕ, ◌+◌, ◌*◌, ◌<◌, ◌≤◌, List, length, All, AllPairs}
use Rattle.word_fields.specs.Versioned.{versioned_version}
use Rattle.normal_traits.specs.World.{Listed, Won}
use Rattle.normal_traits.specs.World.Maker.{By}
use Rattle.normal_traits.specs.NormalForm.{NormalForm}
use Rattle.fast_slow_engine.specs.declared.setup.Setup.{Setup}
use Rattle.fast_slow_engine.specs.Runs.{Move, AreMoves}
use Rattle.run_invariant.specs.RunGhosts.{world_of}

-- what the won exchanges of a run obey: at one place no word before is another's word before, a won exchange
-- raises the version by one, and no two have one cause, which is of a block of the run and of one of eight kinds; so
-- there are few of them and no version wraps
pub record JournalLaws (cap : ℕ) (journal : List Won) : Type 0 where
  pub once_from : AllPairs (λ (a b : Won). a.place ≡ b.place → a.before ≢ b.before) journal
  pub raised : All (λ (won : Won). versioned_version won.after ≡ versioned_version won.before + 1) journal
  pub causes : AllPairs (λ (a b : Won). a.cause ≢ b.cause) journal
  pub bounded : All (λ (won : Won). (won.cause.block ≤ cap) × (won.cause.kind < 8)) journal
  pub few : length journal ≤ 8 * (cap + 1)

-- two won exchanges are not of one entry of lists of one identity
abbrev pub AreApart : Won → Won → Type 0
AreApart won mate = (list other : Listed) (j : ℕ) → won.maker ≡ By list j → mate.maker ≡ By other j → list.identity ≢ other.identity

module _ {S W : Type 0} (form : NormalForm S W) where
  -- the laws of the journal of every run
  abbrev pub JournalsObey : Type 0
  JournalsObey = (setup : Setup) (moves : List Move) → AreMoves form setup moves → JournalLaws setup.cap (world_of form setup moves).journal

  -- each exchange of a list takes effect at most once, however many helpers execute it
  abbrev pub WinsOnce : Type 0
  WinsOnce = (setup : Setup) (moves : List Move) → AreMoves form setup moves → AllPairs AreApart (world_of form setup moves).journal
