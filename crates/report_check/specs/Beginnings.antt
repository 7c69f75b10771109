-- Calls as the lines of a report begin: which call may stand on the next line.
use Rattle.std.specs.Prelude.{◌≡◌, ℕ, ◌+◌, ◌<◌, ◌==◌, nat_lt, not, ◌&&◌, ◌||◌, Bool, true, false, if◌then◌else◌, Option, Some, None, List, [], ◌∷◌, ◌++◌, length, slice_index_or, IsTrue, MatchOption}
use Rattle.std.specs.Option.{option_map}
use Rattle.std.specs.List.{list_any}
use Rattle.lin_report.specs.declared.calls.Client.{Client}
use Rattle.lin_report.specs.declared.calls.Reply.{Reply}
use Rattle.lin_report.specs.Object.{is_command}
use Rattle.lin_report.specs.Calls.{Call}
use Rattle.lin_report.specs.Text.{call_line, lines}
use Rattle.lin_report.specs.Writing.{IsPrintable}
use Rattle.report_check.specs.declared.call_lines.CallLine.{CallLine}
use Rattle.report_check.specs.Verdicts.{ended_before}
use Rattle.report_check.specs.CallLines.{call_of}

-- the last of these calls that is of the seat, else the one that is given
abbrev pub last_from : ℕ → Option Call → List Call → Option Call
last_from seat found [] = found
last_from seat found (c ∷ calls) = last_from seat (if c.seat == seat then Some c else found) calls

-- the last of these calls, else the one that is given
abbrev pub last_line : Option Call → List Call → Option Call
last_line found [] = found
last_line found (c ∷ calls) = last_line (Some c) calls

-- the call begins above the one on the line before
abbrev pub rises : Option Call → Call → Bool
rises None c = true
rises (Some d) c = nat_lt d.begin c.begin

-- its number is 1, or one above that of its seat's last call, which had ended before it began
abbrev pub in_turn : Option Call → Call → Bool
in_turn None c = c.number == 1
in_turn (Some d) c = d.number + 1 == c.number && ended_before d.answer c

-- an end above the begin
abbrev pub ends_above : Option (Reply × ℕ) → ℕ → Bool
ends_above None begin = true
ends_above (Some answer) begin = nat_lt begin answer.1

abbrev pub ends_at : Option (Reply × ℕ) → ℕ → Bool
ends_at None tick = false
ends_at (Some answer) tick = answer.1 == tick

-- the call drew the tick
abbrev pub has_tick : ℕ → Call → Bool
has_tick tick c = c.begin == tick || ends_at c.answer tick

-- an end that no call before drew
abbrev pub fresh_end : List Call → Option (Reply × ℕ) → Bool
fresh_end before None = true
fresh_end before (Some answer) = not (list_any (has_tick answer.1) before)

-- the call may stand on the line behind these
abbrev pub may_follow : List Call → Call → Bool
may_follow before c =
    rises (last_line None before) c && in_turn (last_from c.seat None before) c && ends_above c.answer c.begin
    && not (list_any (has_tick c.begin) before) && fresh_end before c.answer

-- the bytes begin with the line of a call of the client that may stand behind these
pub record IsNext (client : Client) (before : List Call) (bytes : List ℕ) (c : Call) (rest : List ℕ) : Type 0 where
  pub printable : IsPrintable c
  pub command : IsTrue (is_command client c.op)
  pub follows : IsTrue (may_follow before c)
  pub text : bytes ≡ call_line c ++ rest

-- the call that is next, and what stands behind it; or none is
abbrev pub TellsNext : Client → List Call → List ℕ → Option (Call × List ℕ) → Type 0
TellsNext client before bytes found = MatchOption found ((c : Call) (rest : List ℕ) → ¬ IsNext client before bytes c rest) (λ next. IsNext client before bytes next.0 next.1)

-- each call may stand behind those before it
abbrev pub AreInOrder : Client → List Call → List Call → Type 0
AreInOrder client before [] = Unit {0}
AreInOrder client before (c ∷ calls) = (IsPrintable c × IsTrue (is_command client c.op) × IsTrue (may_follow before c)) × AreInOrder client (before ++ c ∷ []) calls

-- the bytes begin with the lines of these calls, and no call's line that may follow is next
pub record BeginsWith (client : Client) (bytes : List ℕ) (calls : List Call) (rest : List ℕ) : Type 0 where
  pub text : bytes ≡ lines calls ++ rest
  pub in_order : AreInOrder client [] calls
  pub no_more : (c : Call) (after : List ℕ) → ¬ IsNext client calls rest c after

-- seats, and ticks that may be printed
abbrev pub SEATS : ℕ
SEATS = 8

abbrev pub TICKS : ℕ
TICKS = 1048576

-- what is kept of the calls so far: the last one of each seat, and which ticks they drew
pub record Knows (before : List Call) (last : List (Option CallLine)) (ticks : List Bool) : Type 0 where
  pub seats : length last ≡ SEATS
  pub long : length ticks ≡ TICKS
  pub last_is : (seat : ℕ) → seat < SEATS → option_map call_of (slice_index_or last seat None) ≡ last_from seat None before
  pub drawn : (tick : ℕ) → tick < TICKS → slice_index_or ticks tick false ≡ list_any (has_tick tick) before
