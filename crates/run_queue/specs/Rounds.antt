-- How often a record exchange has named a block. A call restarts only behind a list that it named a block for, so its rounds
-- are at most so many.
use Rattle.std.specs.Prelude.{ℕ, ◌+◌, ◌<◌, ◌^◌, ◌&&◌, Bool, true, false, List, [], ◌∷◌, slice_get, Option, Some, None}
use Rattle.step_memory.specs.declared.steps.Seen.{Seen}
use Rattle.step_memory.specs.Step.{seen_of}
use Rattle.word_fields.specs.declared.records.RecordPhase.{RecordPhase}
use Rattle.word_fields.specs.declared.records.RecordPhase.TheVariants.{Executing, Wrapping}
use Rattle.word_fields.specs.Records.{record_phase, record_round}
use Rattle.normal_traits.specs.NormalForm.{NormalForm}
use Rattle.fast_slow_engine.specs.declared.phases.Phase.{Phase}
use Rattle.fast_slow_engine.specs.declared.phases.Phase.TheVariants.{Help}
use Rattle.fast_slow_engine.specs.declared.help.Helping.{Helping}
use Rattle.fast_slow_engine.specs.declared.help.Helping.TheVariants.{Known}
use Rattle.fast_slow_engine.specs.declared.help.Work.{Work}
use Rattle.fast_slow_engine.specs.declared.help.Work.TheVariants as work
use Rattle.fast_slow_engine.specs.declared.setup.Setup.{Setup}
use Rattle.fast_slow_engine.specs.Mechs.{Mech}
use Rattle.fast_slow_engine.specs.HelpWords.{is_executing}
use Rattle.fast_slow_engine.specs.PhaseTable.{mech_request}
use Rattle.fast_slow_engine.specs.Runs.{Move, RunState, AreMoves, begun, run_of}
use Rattle.run_queue.specs.Premises.{ClientLeavesQueue, KeepsQueue}

-- whether the step is a record exchange that wins and names a block
abbrev pub names_work : {S W : Type 0} → Work S W → Seen → Bool
names_work (work.Advance to) seen = seen.won && is_executing (record_phase to)
names_work _ seen = false

abbrev pub names_helping : {S W : Type 0} → Helping S W → Seen → Bool
names_helping (Known word does) seen = names_work does seen
names_helping _ seen = false

abbrev pub names_in : {S W : Type 0} → Phase S W → Seen → Bool
names_in (Help drives help) seen = names_helping help.at seen
names_in _ seen = false

-- a fact as a number, to be summed
abbrev pub one_if : Bool → ℕ
one_if true = 1
one_if false = 0

-- the round of a record, and one more where it names a block: what a name raises by one, and nothing else does
abbrev pub rounds_by : RecordPhase → ℕ → ℕ
rounds_by Executing round = round + 1
rounds_by Wrapping round = round + 1
rounds_by _ round = round

abbrev pub rounds_in : ℕ → ℕ
rounds_in word = rounds_by (record_phase word) (record_round word)

module _ {S W : Type 0} (form : NormalForm S W) where
  -- whether the move names a block, as 1 or 0
  abbrev pub named_by : Option (Mech S W) → Move → RunState S W → ℕ
  named_by None move state = 0
  named_by (Some mech) move state = one_if (names_in (begun move.begins mech).phase (seen_of (mech_request form (begun move.begins mech)) state.words))

  -- how many blocks were named by moves, the newest first
  abbrev pub blocks_named : Setup → List Move → ℕ
  blocks_named setup [] = 0
  blocks_named setup (move ∷ older) = let state = run_of form setup older in blocks_named setup older + named_by (slice_get state.mechs move.seat) move state

  -- where fewer blocks were named than a round can count, every record that is wrapped up can count one more
  abbrev pub RoundsFit : Type 0
  RoundsFit = (setup : Setup) (moves : List Move) → AreMoves form setup moves → ClientLeavesQueue form setup moves → blocks_named setup moves < 2 ^ 17 → KeepsQueue form setup moves
