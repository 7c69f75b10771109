-- The call that a helper works on, as the seat of that call has it.
use Rattle.std.specs.Prelude.{◌≡◌, ℕ}
use Rattle.lin_report.specs.declared.calls.Op.{Op}
use Rattle.word_fields.specs.Announced.{op_number, op_word, value_number, value_word}
use Rattle.node_arena.specs.MemoryMap.{op_place, value_place}
use Rattle.normal_traits.specs.World.{Called, World}
use Rattle.fast_slow_engine.specs.Mechs.{Mech}

-- the call of a machine
abbrev pub called : {S W : Type 0} → Mech S W → Called
called mech = record { seat = mech.seat; number = mech.number; op = mech.op }

-- the call that a seat makes, and how many changes there were when it began
pub record Caller : Type 0 where
  pub number : ℕ
  pub op : Op
  pub begun : ℕ

abbrev pub caller_of : Called → ℕ → Caller
caller_of call begun = record { number = call.number; op = call.op; begun = begun }

-- what holds of the call of this number as long as its seat makes it: a helper may be late, and then it says nothing
abbrev pub IfStill : Caller → ℕ → Type 0 → Type 0
IfStill caller number P = caller.number ≡ number → P

-- a seat that makes the call of this number after a move has made it before: so what holds of it as long as it is made
-- is kept
abbrev pub KeepsCall : Caller → Caller → ℕ → Type 0
KeepsCall caller caller' number = caller'.number ≡ number → caller' ≡ caller

-- the op word and the value word of a seat, where they have the number of its call, are those of that call
pub record HasAnnounced (world : World) (seat : ℕ) (caller : Caller) : Type 0 where
  pub op : op_number (world.words (op_place seat)) ≡ caller.number → world.words (op_place seat) ≡ op_word caller.op.code caller.number caller.op.key
  pub value : value_number (world.words (value_place seat)) ≡ caller.number → world.words (value_place seat) ≡ value_word caller.number caller.op.value
