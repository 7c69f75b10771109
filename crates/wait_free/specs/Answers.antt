-- What each call tells by the reply of its line. A command may be given the replies that `may_answer` of
-- `lin_report/specs/Commands.antt` says; the answer to any other is named too, so that each answer is exact.
use Rattle.std.specs.Prelude.{ℕ, Bool, true, false, Option, Some, None, Result, Ok, Err, option_and_then}
use Rattle.lin_report.specs.declared.calls.Reply.{Reply}
use Rattle.lin_report.specs.declared.calls.Reply.TheVariants.{Yes, Value, Exhausted}
use Rattle.handles.specs.declared.handle.Spent.{Spent}
use Rattle.wait_free.specs.Keys.{key_of}
use Rattle.wait_free.specs.declared.refused.Refused.{Refused}
use Rattle.wait_free.specs.declared.refused.Refused.TheVariants.{Full}

-- whether a reply is yes
abbrev pub is_yes : Reply → Bool
is_yes Yes = true
is_yes _ = false

-- the value that a reply tells, if it tells one
abbrev pub value_told : Reply → Option ℕ
value_told (Value value) = Some value
value_told _ = None

-- what a call tells that may need a block: that it was refused as full exactly where its line says that none was left
abbrev pub unless_full : {A : Type 0} → (Reply → A) → Reply → Result A Refused
unless_full told Exhausted = Err Full
unless_full told reply = Ok (told reply)

-- put: that it was done; take: the first value, or that there was none
abbrev pub put_answer : Reply → Result (Unit {0}) Refused
put_answer reply = unless_full (λ _. tt) reply

abbrev pub take_answer : Reply → Result (Option ℕ) Refused
take_answer reply = unless_full value_told reply

-- peek and get: the value, or that there was none
abbrev pub look_answer : Reply → Result (Option ℕ) Spent
look_answer reply = Ok (value_told reply)

-- add, set and remove: whether the key joined or left
abbrev pub change_answer : Reply → Result Bool Refused
change_answer reply = unless_full is_yes reply

-- contains: whether the key was there
abbrev pub contains_answer : Reply → Result Bool Spent
contains_answer reply = Ok (is_yes reply)

-- least: the key, or that there was none
abbrev pub least_answer : Reply → Result (Option ℕ) Spent
least_answer reply = Ok (option_and_then key_of (value_told reply))
