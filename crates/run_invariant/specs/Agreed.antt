-- Of what all agree that work on one call, in every run: what an offered block holds and where its list stops, and the outcome
-- that a completed record tells.
use Rattle.std.specs.Prelude.{◌≡◌, ℕ, ◌<◌, List, ◌++◌, Some}
use Rattle.word_fields.specs.declared.records.RecordPhase.TheVariants.{Completed}
use Rattle.word_fields.specs.Records.{record_number, record_phase}
use Rattle.normal_traits.specs.World.{World}
use Rattle.normal_traits.specs.NormalForm.{NormalForm}
use Rattle.help_queue_laws.specs.Runs.{record_in}
use Rattle.fast_slow_engine.specs.declared.setup.Setup.{Setup}
use Rattle.fast_slow_engine.specs.Runs.{Move, AreMoves, run_of}
use Rattle.offered_blocks.specs.Blocks.{Offer}
use Rattle.offered_blocks.specs.HelperSteps.{HasStopped}
use Rattle.move_kinds.specs.Contents.{HasContents}
use Rattle.kept_knowledge.specs.RunGhosts.{ghost_of, world_of}

-- any two who look at an offered block agree on it, one early and one late: what they read there is the operation and the list
-- that were offered, and where both find that the list has stopped, it is the same place
pub record IsAgreed {S : Type 0} (early late : World) (offer : Offer S) : Type 0 where
  pub contents : HasContents early offer × HasContents late offer
  pub stops : (stop other : ℕ) → HasStopped early offer stop → HasStopped late offer other → stop ≡ other

module _ {S W : Type 0} (form : NormalForm S W) where
  -- so it is with each block that a record has named, at any two moments of every run from then on, or at one: whoever looks,
  -- its owner or a helper
  abbrev pub BlocksAgreed : Type 0
  BlocksAgreed =
      (setup : Setup) (newer older : List Move) (block : ℕ) (offer : Offer S) → AreMoves form setup (newer ++ older) → (ghost_of form setup older).offers block ≡ Some offer
      → IsAgreed (world_of form setup older) (world_of form setup (newer ++ older)) offer

  -- the word of the record of a seat after moves
  abbrev pub record_after : Setup → List Move → ℕ → ℕ
  record_after setup moves seat = record_in (run_of form setup moves).words seat

  -- once the record of a call is completed it is that one word as long as it is of the call: so its outcome is fixed, whoever
  -- reads it and however late
  abbrev pub OutcomesFixed : Type 0
  OutcomesFixed =
      (setup : Setup) (newer older : List Move) (seat : ℕ) → seat < 8 → AreMoves form setup (newer ++ older) → record_phase (record_after setup older seat) ≡ Completed
      → record_number (record_after setup (newer ++ older) seat) ≡ record_number (record_after setup older seat)
      → record_after setup (newer ++ older) seat ≡ record_after setup older seat
