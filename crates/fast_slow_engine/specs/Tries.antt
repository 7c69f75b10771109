-- A call of which a try was made in one piece, as a machine.
use Rattle.std.specs.Prelude.{◌≡◌, Bool, true, false}
use Rattle.normal_traits.specs.NormalForm.{NormalForm}
use Rattle.fast_slow_engine.specs.declared.call.Call.{Call}
use Rattle.fast_slow_engine.specs.declared.tried.Tried.{Tried}
use Rattle.fast_slow_engine.specs.declared.tried.Tried.TheVariants as standing
use Rattle.fast_slow_engine.specs.declared.phases.Phase.{Phase}
use Rattle.fast_slow_engine.specs.declared.phases.Phase.TheVariants.{Idle, Generate, Wrap, End}
use Rattle.fast_slow_engine.specs.declared.phases.Generating.TheVariants.{Search}
use Rattle.fast_slow_engine.specs.Mechs.{Mech, mech_of}
use Rattle.fast_slow_engine.specs.PhaseTable.{tried}

-- it is the same call of the same seat
pub record IsSameCall (call older : Call) : Type 0 where
  pub setup : call.setup ≡ older.setup
  pub seat : call.seat ≡ older.seat
  pub number : call.number ≡ older.number
  pub op : call.op ≡ older.op

-- whether the next step is one of a search of the call's own
abbrev pub searches : {S W : Type 0} → Phase S W → Bool
searches (Generate search Search) = true
searches _ = false

module _ {S W : Type 0} (form : NormalForm S W) where
  -- the machine of a call that stands so
  abbrev pub mech_tried : Call → Tried S W → Mech S W
  mech_tried call (standing.Ended reply) = mech_of call (End reply)
  mech_tried call standing.Failed = tried form (mech_of call Idle)
  mech_tried call (standing.Searching search) = mech_of call (Generate search Search)
  mech_tried call (standing.Wrapping wrap) = mech_of call (Wrap wrap)

  -- a search or a wrap-up that goes on has a next step
  abbrev pub CanResume : Tried S W → Type 0
  CanResume (standing.Ended reply) = Unit {0}
  CanResume standing.Failed = Unit {0}
  CanResume (standing.Searching search) = form.asks search
  CanResume (standing.Wrapping wrap) = form.wraps wrap
