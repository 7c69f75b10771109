-- A map of at most the key 0: one register word is 0, or names the node that has the key's value. A call
-- that changes the map sets the flag word by its list; the flag names the list's block, in which the offer
-- put the call's value and noted the register as the call had read it. Whoever reads the flag has it decided
-- in the block whether the change is made or given up, changes the register from what is noted if it is
-- made, and then takes the flag away, all by exchanges beside the lists.
use Rattle.std.specs.Prelude.{ℕ, ◌+◌, ◌*◌, ◌/◌, ◌==◌, not, if◌then◌else◌, Bool, true, false, List, [], ◌∷◌}
use Rattle.lin_report.specs.declared.calls.Op.{Op}
use Rattle.lin_report.specs.declared.calls.Outcome.{Outcome}
use Rattle.lin_report.specs.declared.calls.Reply.TheVariants.{Yes, No, Absent}
use Rattle.lin_report.specs.declared.calls.Outcome.TheVariants.{Plain, ValueOf}
use Rattle.lin_report.specs.declared.calls.TheConstants.{SET, REM, GET}
use Rattle.step_memory.specs.declared.steps.Request.{Request}
use Rattle.step_memory.specs.declared.steps.Request.TheVariants.{Load, Exchange}
use Rattle.step_memory.specs.declared.steps.Seen.{Seen}
use Rattle.word_fields.specs.Versioned.{versioned_value, versioned_bit, changed_word}
use Rattle.node_arena.specs.MemoryMap.{block_place}
use Rattle.normal_traits.specs.declared.form.Found.{Found}
use Rattle.normal_traits.specs.declared.form.Found.TheVariants as found
use Rattle.normal_traits.specs.declared.form.Wrapped.{Wrapped}
use Rattle.normal_traits.specs.declared.form.Wrapped.TheVariants as wrapped
use Rattle.normal_traits.specs.declared.lists.Entry.{Entry}
use Rattle.normal_traits.specs.NormalForm.{Offered}

-- the two words of the structure, and the words of a block that have the value of its node 1 and the
-- register as its call noted it
abbrev pub FLAG : ℕ
FLAG = block_place 0 16

abbrev pub REGISTER : ℕ
REGISTER = block_place 0 14

abbrev pub value_at : ℕ → ℕ
value_at block = block_place block 13

abbrev pub note_place : ℕ → ℕ
note_place block = block_place block 27

-- the word of a block that says, once it isn't 0, whether the change of its call is made or given up
abbrev pub decision_place : ℕ → ℕ
decision_place block = block_place block 28

abbrev pub decided_value : Bool → ℕ
decided_value true = 1
decided_value false = 2

abbrev pub decided : Bool → ℕ
decided made = changed_word 0 (decided_value made)

-- the value of a flag that names a block; the value of a flag that is down is 0
abbrev pub flag_value : ℕ → ℕ
flag_value block = 4 * block + 1

abbrev pub flag_word : ℕ → ℕ → ℕ
flag_word from block = changed_word from (flag_value block)

-- whether the register says that the key has a value
abbrev pub is_in : ℕ → Bool
is_in register = not (versioned_value register == 0)

-- the register after the change of a block: it is 0, or names node 1 of the block
abbrev pub toggled_value : ℕ → ℕ → ℕ
toggled_value register block = if is_in register then 0 else flag_value block

abbrev pub toggled : ℕ → ℕ → ℕ
toggled register block = changed_word register (toggled_value register block)

-- whether an operation changes the map, by its register
abbrev pub toggles : Op → ℕ → Bool
toggles op register = if op.code == SET then not (is_in register) else (if op.code == REM then is_in register else false)

-- what an operation that doesn't is told
abbrev pub told : Op → ℕ → Outcome
told op register = if op.code == GET then (if is_in register then ValueOf (versioned_value register) else Plain Absent) else Plain No

-- help of a flag, by its word: it is decided whether its change is made, and what was decided is read; if
-- it is made, the note is read and the register is changed from it; the flag is taken away
pub data Help : Type 0 where
  Deciding : ℕ → Bool → Help
  Checking : ℕ → Help
  Reading : ℕ → Help
  Changing : ℕ → ℕ → Help
  Clearing : ℕ → Bool → Help

-- a search reads the flag and helps it, or reads the register; a key other than 0 it looks for without end
pub data Search : Type 0 where
  AtFlag : Op → Search
  AtRegister : Op → ℕ → Search
  Named : Op → ℕ → ℕ → Search
  Helping : Op → Help → Search

abbrev pub begin_of : Op → Search
begin_of op = AtFlag op

abbrev pub request_of_help : Help → Request
request_of_help (Deciding flag make) = Exchange (decision_place (versioned_value flag / 4)) 0 (decided make)
request_of_help (Checking flag) = Load (decision_place (versioned_value flag / 4))
request_of_help (Reading flag) = Load (note_place (versioned_value flag / 4))
request_of_help (Changing flag noted) = Exchange REGISTER noted (toggled noted (versioned_value flag / 4))
request_of_help (Clearing flag made) = Exchange FLAG flag (changed_word flag 0)

abbrev pub feed_help : Help → Seen → Help
feed_help (Deciding flag make) seen = Checking flag
feed_help (Checking flag) seen = if versioned_value seen.before == 1 then Reading flag else Clearing flag false
feed_help (Reading flag) seen = Changing flag seen.before
feed_help (Changing flag noted) seen = Clearing flag true
feed_help (Clearing flag made) seen = Clearing flag made

abbrev pub request_of : Search → Request
request_of (AtFlag op) = Load FLAG
request_of (AtRegister op flag) = Load REGISTER
request_of (Named op flag register) = Load FLAG
request_of (Helping op help) = request_of_help help

-- what is done with a flag: `get` would give the flag's change up, each other makes it; one that is set by a list that isn't decided yet is read again
abbrev pub after_flag : Op → ℕ → Search
after_flag op flag = if versioned_bit flag == 0 then (if versioned_value flag == 0 then AtRegister op flag else Helping op (Deciding flag (not (op.code == GET)))) else AtFlag op

abbrev pub after_register : Op → ℕ → ℕ → Search
after_register op flag register = if op.key == 0 then (if toggles op register then Named op flag register else AtFlag op) else AtFlag op

abbrev pub after_help : Op → Help → Seen → Search
after_help op (Clearing flag made) seen = AtFlag op
after_help op help seen = Helping op (feed_help help seen)

abbrev pub feed_of : Search → Seen → Search
feed_of (AtFlag op) seen = after_flag op seen.before
feed_of (AtRegister op flag) seen = after_register op flag seen.before
feed_of (Named op flag register) seen = Named op flag register
feed_of (Helping op help) seen = after_help op help seen

abbrev pub found_of : Search → Seen → Found
found_of (AtFlag op) seen = found.Going
found_of (AtRegister op flag) seen =
    if op.key == 0 then (if toggles op seen.before then found.Ready else found.Answer (told op seen.before)) else found.Going
found_of (Named op flag register) seen = found.Going
found_of (Helping op help) seen = found.Going

-- the entry that sets the flag for a block
abbrev pub flag_entry : ℕ → ℕ → Entry
flag_entry from block = record { target = FLAG; from = from; to = flag_word from block }

abbrev pub offer_of : Search → Op → ℕ → Offered
offer_of (Named o flag register) op block = record { entries = flag_entry flag block ∷ []; stores = (value_at block, op.value) ∷ (note_place block, register) ∷ (decision_place block, 0) ∷ [] }
offer_of _ op block = record { entries = []; stores = [] }

-- the word to which a list's first entry sets the flag
abbrev pub flag_of : List Entry → ℕ
flag_of [] = 0
flag_of (entry ∷ entries) = entry.to

-- a wrap-up helps the flag of its own list
abbrev pub begin_wrap_of : Op → List Entry → ℕ → Help
begin_wrap_of op entries stop = Deciding (flag_of entries) true

abbrev pub wrap_begun_of : Op → List Entry → ℕ → Wrapped
wrap_begun_of op entries stop = if stop == 0 then wrapped.Restart else wrapped.Going

abbrev pub wrap_found_of : Help → Seen → Wrapped
wrap_found_of (Clearing flag true) seen = wrapped.Done (Plain Yes)
wrap_found_of (Clearing flag false) seen = wrapped.Restart
wrap_found_of _ seen = wrapped.Going
