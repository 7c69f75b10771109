-- What a seat knows, and how its steps change that.
use Rattle.std.specs.Prelude.{◌≡◌, ℕ, ◌+◌, if◌then◌else◌, Bool, true, false, [], ◌∷◌, ◌++◌, Option, Some, None}
use Rattle.atomic_table.specs.Seated.{TableId}
use Rattle.atomic_table.specs.Table.{Me}
use Rattle.lin_report.specs.declared.calls.Op.{Op}
use Rattle.step_memory.specs.declared.steps.Seen.{Seen}
use Rattle.step_memory.specs.Step.{seen_at}
use Rattle.normal_traits.specs.NormalForm.{NormalForm}
use Rattle.fast_slow_engine.specs.declared.setup.Setup.{Setup}
use Rattle.fast_slow_engine.specs.declared.setup.Turn.{Turn}
use Rattle.fast_slow_engine.specs.Mechs.{Mech}
use Rattle.fast_slow_engine.specs.PhaseTable.{mech_fed, mech_new, mech_request, mech_turn, rests}
use Rattle.fast_slow_engine.specs.Runs.{CanMove, begun, returned}
use Rattle.shared_memory.specs.ProvedSetup.{one_seat}
use Rattle.shared_memory.specs.declared.view.View.{View}

-- what a caller sees of the memory: which table it is, and for what run it was made
pub record Memory : Type 0 where
  pub table : TableId
  pub setup : Setup

-- what a caller sees of a port
pub record Face (C S W : Type 0) : Type 0 where
  pub table : TableId
  pub view : View C S W

-- a step past the last word tells nothing
abbrev pub nothing_seen : Seen
nothing_seen = record { before = 0; won = false }

-- the command with which the second machine goes on from the first, where no call ran
abbrev pub command_of : {S W : Type 0} → Mech S W → Mech S W → Option Op
command_of before mech = if rests before.phase then Some mech.op else None

module _ {C S W : Type 0} where
  -- the view of a seat that made no step
  abbrev pub new_view : ℕ → Setup → Bool → View C S W
  new_view seat setup root = record { live = true; machine = mech_new seat setup; receipts = []; gathered = []; root = root; made = 0 }

  abbrev pub first_view : Setup → View C S W
  first_view setup = new_view 0 setup true

  -- the view of a seat that was gathered
  abbrev pub spent_view : View C S W
  spent_view = record { live = false; machine = mech_new 0 one_seat; receipts = []; gathered = []; root = false; made = 0 }

  abbrev pub cut_left : View C S W → View C S W
  cut_left v = record v { made = v.made + 1 }

  abbrev pub cut_right : View C S W → View C S W
  cut_right v = new_view (v.made + 1) v.machine.setup false

  abbrev pub glued : View C S W → View C S W → View C S W
  glued v w =
      record v { gathered = v.gathered ++ record { seat = w.machine.seat; receipts = w.receipts } ∷ w.gathered; root = (if v.root then true else w.root); made = (if v.root then v.made else w.made) }

  -- what of a port a step leaves as it is where its call goes on: all but the machine
  abbrev pub beside : Face C S W → Face C S W
  beside p = record p { view = record p.view { machine = mech_new 0 one_seat } }

  module _ (form : NormalForm S W) where
    -- after a step of its seat that begins this command, if any, and saw this
    abbrev pub moved : View C S W → Option Op → Seen → View C S W
    moved v begins seen =
        record v { machine = mech_fed form (begun begins v.machine) seen; receipts = v.receipts ++ returned (mech_turn (begun begins v.machine) seen) }

    -- a step on the word that the request names, which was found so
    abbrev pub Advances : Option Op → Me (Unit {0}) (View C S W) → ℕ → Me (Unit {0}) (View C S W) → Type 0
    Advances begins me word after = after ≡ (moved me.0 begins (seen_at (mech_request form (begun begins me.0.machine)) word), me.1)

    -- a step whose request names no word
    abbrev pub Misses : Option Op → Me (Unit {0}) (View C S W) → Me (Unit {0}) (View C S W) → Type 0
    Misses begins me after = after ≡ (moved me.0 begins nothing_seen, me.1)

    -- the machine is that of the view, or that one after one start, and a call of it runs
    pub record RunsOnFrom (v : View C S W) (mech : Mech S W) : Type 0 where
      pub is : mech ≡ begun (command_of v.machine mech) v.machine
      pub runs : rests mech.phase ≡ false
      pub can : CanMove form (command_of v.machine mech) v.machine

    -- one step on the table: the machine, the view and the answer are those of what was seen
    pub record Stepped (v : View C S W) (mech : Mech S W) (v' : View C S W) (mech' : Mech S W) (turn : Turn) : Type 0 where
      pub seen : Seen
      pub machine : mech' ≡ mech_fed form mech seen
      pub turns : turn ≡ mech_turn mech seen
      pub view : v' ≡ moved v (command_of v.machine mech) seen
