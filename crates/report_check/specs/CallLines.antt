-- How the line of a call is read, field by field. What is read is told in the words of the report's text below.
use Rattle.std.specs.Prelude.{◌≡◌, ℕ, ◌+◌, ◌==◌, not, nat_lt, ◌&&◌, ◌||◌, Bool, true, if◌then◌else◌, List, [], ◌∷◌, ◌++◌, length, take, drop, slice_index_or, Option, Some, None, codes, IsTrue, MatchOption}
use Rattle.std.specs.List.{position_or_len}
use Rattle.std.specs.Str.{bytes_eq}
use Rattle.lin_report.specs.declared.calls.Client.{Client}
use Rattle.lin_report.specs.declared.calls.Op.{Op}
use Rattle.lin_report.specs.declared.calls.Reply.{Reply}
use Rattle.lin_report.specs.declared.calls.Reply.TheVariants.{Yes, No, Done, Value, Empty, Absent, Exhausted}
use Rattle.lin_report.specs.declared.calls.Path.{Path}
use Rattle.lin_report.specs.declared.calls.Path.TheVariants.{Fast, Slow}
use Rattle.lin_report.specs.Commands.{may_answer}
use Rattle.lin_report.specs.Object.{is_command}
use Rattle.lin_report.specs.Calls.{Call}
use Rattle.lin_report.specs.Text.{NEWLINE, call_line}
use Rattle.lin_report.specs.Writing.{IsPrintable}
use Rattle.script_reader.specs.declared.scripts.Numbers.{Numbers}
use Rattle.script_reader.specs.declared.scripts.Numbers.TheVariants.{NoNumber, OneValue, OneKey, KeyAndValue}
use Rattle.script_reader.specs.Words.{is_space, is_newline, number_up_to}
use Rattle.script_reader.specs.Scripts.{GREATEST_KEY, GREATEST_VALUE, command_named}
use Rattle.report_check.specs.declared.call_lines.CallLine.{CallLine}

infixl 10 ◌>>=◌
abbrev pub ◌>>=◌ : {A B : Type 0} → Option A → (A → Option B) → Option B
(Some x) >>= f = f x
None >>= f = None

-- what a function answers, seen by view, is what is read
abbrev pub AsOption : {X Y : Type 0} → (X → Y) → Option X → Option Y → Type 0
AsOption view None read = read ≡ None
AsOption view (Some x) read = read ≡ Some (view x)

-- a value, where it is so
abbrev pub if_so : {A : Type 0} → Bool → A → Option A
if_so test x = if test then Some x else None

-- what stands before the first byte that passes, and what stands behind it
abbrev pub cut_at : (ℕ → Bool) → List ℕ → Option (List ℕ × List ℕ)
cut_at passes bytes =
    if nat_lt (position_or_len passes bytes) (length bytes)
    then Some (take (position_or_len passes bytes) bytes, drop (position_or_len passes bytes + 1) bytes)
    else None

-- a field is a word, and the bytes behind the space after it
abbrev pub word_at : List ℕ → Option (List ℕ × List ℕ)
word_at bytes = cut_at is_space bytes

-- a line that a newline ends, and the bytes behind that
abbrev pub line_at : List ℕ → Option (List ℕ × List ℕ)
line_at bytes = cut_at is_newline bytes

-- digits without leading zeros
abbrev pub is_plain : List ℕ → Bool
is_plain word = nat_lt 0 (length word) && (not (slice_index_or word 0 0 == 48) || length word == 1)

abbrev pub plain_number : ℕ → List ℕ → Option ℕ
plain_number most word = if is_plain word then number_up_to most word else None

abbrev pub number_at : ℕ → List ℕ → Option (ℕ × List ℕ)
number_at most bytes = do
  word ← word_at bytes
  number ← plain_number most word.0
  Some (number, word.1)

-- the numbers of a command
abbrev pub op_at : ℕ → Numbers → List ℕ → Option (Op × List ℕ)
op_at code NoNumber bytes = Some (record { code = code; key = 0; value = 0 }, bytes)
op_at code OneValue bytes = do
  value ← number_at GREATEST_VALUE bytes
  Some (record { code = code; key = 0; value = value.0 }, value.1)
op_at code OneKey bytes = do
  key ← number_at GREATEST_KEY bytes
  Some (record { code = code; key = key.0; value = 0 }, key.1)
op_at code KeyAndValue bytes = do
  key ← number_at GREATEST_KEY bytes
  value ← number_at GREATEST_VALUE key.1
  Some (record { code = code; key = key.0; value = value.0 }, value.1)

-- a command of the client
abbrev pub command_at : Client → List ℕ → Option (Op × List ℕ)
command_at client bytes = do
  word ← word_at bytes
  command ← command_named client word.0
  op_at command.0 command.1 word.1

-- the replies that have no value
abbrev pub reply_of : List ℕ → Option Reply
reply_of word =
    if bytes_eq word (codes "yes") then Some Yes
    else (if bytes_eq word (codes "no") then Some No
    else (if bytes_eq word (codes "done") then Some Done
    else (if bytes_eq word (codes "empty") then Some Empty
    else (if bytes_eq word (codes "absent") then Some Absent
    else (if bytes_eq word (codes "exhausted") then Some Exhausted
    else None)))))

-- a reply, or that the call is pending
abbrev pub reply_named : List ℕ → List ℕ → Option (Option Reply × List ℕ)
reply_named word bytes =
    if bytes_eq word (codes "pending") then Some (None, bytes)
    else (if bytes_eq word (codes "value") then number_at GREATEST_VALUE bytes >>= (λ n. Some (Some (Value n.0), n.1))
    else reply_of word >>= (λ reply. Some (Some reply, bytes)))

abbrev pub reply_at : List ℕ → Option (Option Reply × List ℕ)
reply_at bytes = do
  word ← word_at bytes
  reply_named word.0 word.1

-- the greatest tick
abbrev pub GREATEST_TICK : ℕ
GREATEST_TICK = 1048575

-- the end of an answered call, or the dash of a pending one
abbrev pub answer_at : Option Reply → List ℕ → Option (Option (Reply × ℕ) × List ℕ)
answer_at None bytes = do
  word ← word_at bytes
  if_so (bytes_eq word.0 (codes "-")) (None, word.1)
answer_at (Some reply) bytes = do
  end ← number_at GREATEST_TICK bytes
  Some (Some (reply, end.0), end.1)

-- the last word
abbrev pub path_of : List ℕ → Option Path
path_of word = if bytes_eq word (codes "fast") then Some Fast else (if bytes_eq word (codes "slow") then Some Slow else None)

-- the reply is one that the command may be given
abbrev pub fits : Op → Option Reply → Bool
fits op None = true
fits op (Some reply) = may_answer op reply

-- the call on a line, which stands there without its newline
unfoldable pub call_at : Client → List ℕ → Option Call
call_at client bytes = do
  seat ← number_at 7 bytes
  number ← number_at 65535 seat.1
  command ← command_at client number.1
  reply ← reply_at command.1
  begin ← number_at GREATEST_TICK reply.1
  answer ← answer_at reply.0 begin.1
  path ← path_of answer.1
  if_so (nat_lt 0 number.0 && fits command.0 reply.0) (record { seat = seat.0; number = number.0; op = command.0; answer = answer.0; begin = begin.0; path = path })

-- what was read, as a call
abbrev pub call_of : CallLine → Call
call_of l = record { seat = l.seat; number = l.number; op = l.op; answer = l.answer; begin = l.begin; path = l.path }

-- the bytes, and a newline behind them, are the line of this call of the client
pub record IsLineOf (client : Client) (bytes : List ℕ) (c : Call) : Type 0 where
  pub printable : IsPrintable c
  pub command : IsTrue (is_command client c.op)
  pub text : bytes ++ NEWLINE ∷ [] ≡ call_line c

-- a line that is read is that of the call, and one that isn't is the line of none
abbrev pub TellsCall : Client → List ℕ → Option Call → Type 0
TellsCall client bytes found = MatchOption found ((c : Call) → ¬ IsLineOf client bytes c) (IsLineOf client bytes)
