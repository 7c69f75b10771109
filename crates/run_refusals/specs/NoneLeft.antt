-- Where it is told that no block is left: by a call that ends so, by the record of a call, and by a helper that is about to tell
-- a record so. Each of these knows that none is left, and that the operation may be told so.
use Rattle.std.specs.Prelude.{◌≡◌, ℕ, ◌≤◌, IsTrue, List, slice_get, slice_index, Some}
use Rattle.lin_report.specs.declared.calls.Op.{Op}
use Rattle.lin_report.specs.declared.calls.Outcome.TheVariants.{Plain}
use Rattle.lin_report.specs.declared.calls.Reply.TheVariants.{Exhausted}
use Rattle.lin_report.specs.Commands.{may_exhaust}
use Rattle.word_fields.specs.Records.{record_number, record_of}
use Rattle.node_arena.specs.declared.places.TheConstants.{CLAIMS}
use Rattle.op_record.specs.Outcomes.{outcome_of}
use Rattle.help_queue_laws.specs.Runs.{record_in}
use Rattle.normal_traits.specs.NormalForm.{NormalForm}
use Rattle.fast_slow_engine.specs.declared.phases.Phase.{Phase}
use Rattle.fast_slow_engine.specs.declared.phases.Phase.TheVariants as phase
use Rattle.fast_slow_engine.specs.declared.help.Helping.{Helping}
use Rattle.fast_slow_engine.specs.declared.help.Helping.TheVariants.{Known}
use Rattle.fast_slow_engine.specs.declared.help.Work.{Work}
use Rattle.fast_slow_engine.specs.declared.help.Work.TheVariants as work
use Rattle.fast_slow_engine.specs.declared.setup.Setup.{Setup}
use Rattle.fast_slow_engine.specs.Mechs.{Mech}
use Rattle.fast_slow_engine.specs.Runs.{Move, RunState, AreMoves, run_of}
use Rattle.run_laws.specs.Seats.{EachMech}

-- the operation may be told that no block is left, and none is
pub record NoneLeft (cap claims : ℕ) (op : Op) : Type 0 where
  pub may : IsTrue (may_exhaust op)
  pub none_left : cap ≤ claims

-- the record word tells it
abbrev pub TellsNone : ℕ → Type 0
TellsNone word = outcome_of (record_of word) ≡ Some (Plain Exhausted)

module _ {S W : Type 0} (setup : Setup) (state : RunState S W) where
  -- so it is for the operation of the call of this number of the seat, while that is made: a helper may be late
  abbrev pub LeftFor : ℕ → ℕ → Type 0
  LeftFor seat number = (owner : Mech S W) → slice_get state.mechs seat ≡ Some owner → owner.number ≡ number → NoneLeft setup.cap (slice_index state.words CLAIMS) owner.op

  -- for the call of a head, where a helper is about to tell its record
  abbrev pub LeftWork : Work S W → ℕ → ℕ → Type 0
  LeftWork (work.Advance to) head word = TellsNone to → LeftFor head (record_number word)
  LeftWork _ head word = Unit {0}

  abbrev pub LeftHelp : Helping S W → ℕ → Type 0
  LeftHelp (Known word does) head = LeftWork does head word
  LeftHelp _ head = Unit {0}

  abbrev pub LeftHelping : Phase S W → Type 0
  LeftHelping (phase.Help drives help) = LeftHelp help.at help.head
  LeftHelping _ = Unit {0}

  -- of a seat: its call may be about to end so, its record may tell so of its call, and it may help one that is to be told so
  pub record LeftWell (seat : ℕ) (mech : Mech S W) : Type 0 where
    pub ends : mech.phase ≡ phase.End Exhausted → NoneLeft setup.cap (slice_index state.words CLAIMS) mech.op
    pub told : record_number (record_in state.words seat) ≡ mech.number → TellsNone (record_in state.words seat) → NoneLeft setup.cap (slice_index state.words CLAIMS) mech.op
    pub helps : LeftHelping mech.phase

module _ {S W : Type 0} (form : NormalForm S W) where
  abbrev pub EachLeft : Setup → List Move → Type 0
  EachLeft setup moves = EachMech (LeftWell setup (run_of form setup moves)) (run_of form setup moves).mechs

  -- so it is in every run
  abbrev pub NoneLeftHolds : Type 0
  NoneLeftHolds = (setup : Setup) (moves : List Move) → AreMoves form setup moves → EachLeft setup moves
