-- What is so in runs of the call that a helper works on: where it wins an exchange of a record, that is the call which
-- the head's seat makes; no record is of a call to come; and a seat that makes a call after a step has made it before.
use Rattle.std.specs.Prelude.{◌≡◌, ℕ, ◌<◌, ◌≤◌, slice_get, slice_index, Option, Some}
use Rattle.lin_report.specs.declared.calls.Op.{Op}
use Rattle.step_memory.specs.declared.steps.Seen.{Seen}
use Rattle.word_fields.specs.Records.{record_number, record_of, packed_record}
use Rattle.normal_traits.specs.World.{World}
use Rattle.normal_traits.specs.NormalForm.{NormalForm}
use Rattle.help_queue_laws.specs.Runs.{record_in}
use Rattle.fast_slow_engine.specs.declared.phases.Phase.{Phase}
use Rattle.fast_slow_engine.specs.declared.phases.Phase.TheVariants.{Help}
use Rattle.fast_slow_engine.specs.declared.help.Helping.{Helping}
use Rattle.fast_slow_engine.specs.declared.help.Helping.TheVariants.{Known}
use Rattle.fast_slow_engine.specs.declared.help.Work.{Work}
use Rattle.fast_slow_engine.specs.declared.help.Work.TheVariants.{Head}
use Rattle.fast_slow_engine.specs.Mechs.{Mech}
use Rattle.fast_slow_engine.specs.PhaseTable.{mech_fed}
use Rattle.fast_slow_engine.specs.Runs.{RunState, begun}
use Rattle.offered_blocks.specs.Blocks.{Offer}
use Rattle.move_kinds.specs.Owned.{RecordKnown}
use Rattle.run_queue.specs.QueueLaws.{Wins}
use Rattle.run_queue.specs.QueueRuns.{EachSeat, EveryRun}
use Rattle.helper_knowledge.specs.Callers.{KeepsCall, called, caller_of}
use Rattle.helper_knowledge.specs.Meetings.{Meets}

-- the word that a helper has loaded of its head's record, behind its look at the head, has at most the number that the
-- record has now
abbrev pub WorkBelow : {S W : Type 0} → ℕ → ℕ → Work S W → Type 0
WorkBelow word now Head = Unit {0}
WorkBelow word now _ = record_number word ≤ record_number now

abbrev pub HelpingBelow : {S W : Type 0} → ℕ → Helping S W → Type 0
HelpingBelow now (Known word does) = WorkBelow word now does
HelpingBelow now _ = Unit {0}

abbrev pub LoadedBelow : {S W : Type 0} → RunState S W → Phase S W → Type 0
LoadedBelow state (Help drives help) = HelpingBelow (record_in state.words help.head) help.at
LoadedBelow state _ = Unit {0}

module _ {S W : Type 0} (form : NormalForm S W) where
  -- what a won exchange of a record shows of the queue, with what the record tells of the call of its seat, is all that
  -- has to meet there
  abbrev pub WinsMeet : Type 0
  WinsMeet =
      (state : RunState S W) (world : World) (offers : ℕ → Option (Offer S)) (head word : ℕ) (mech : Mech S W) (count : ℕ) → head < 8 → ((place : ℕ) → world.words place ≡ slice_index state.words place)
      → record_in state.words head ≡ packed_record (record_of word) → Wins state head word → slice_get state.mechs head ≡ Some mech → mech.seat ≡ head
      → RecordKnown form world offers (called mech) count → Meets form world offers head word (called mech) count

  -- in every run no record has the number of a call to come, nor has a word that a helper has loaded
  abbrev pub NumbersBelow : Type 0
  NumbersBelow = EveryRun form (λ state ghosts. EachSeat (λ seat mech. (record_number (record_in state.words seat) ≤ mech.number) × LoadedBelow state mech.phase) state)

  -- a step of a call that goes on; and the first step of a call, where the number is not of a call to come
  abbrev pub CallsFollow : Type 0
  CallsFollow =
      (mech : Mech S W) (op : Op) (seen : Seen) (count number : ℕ)
      → KeepsCall (caller_of (called mech) count) (caller_of (called (mech_fed form mech seen)) count) number
      × ((now : ℕ) → number ≤ mech.number → KeepsCall (caller_of (called mech) count) (caller_of (called (mech_fed form (begun (Some op) mech) seen)) now) number)
