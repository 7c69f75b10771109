-- The text of a report: a line for each call in rising order of begin, then the summary line.
use Rattle.std.specs.Prelude.{ℕ, ◌==◌, nat_lt, if◌then◌else◌, Bool, true, false, not, Option, Some, None, List, [], ◌∷◌, ◌++◌, length, count_by, codes, IsPermutation}
use Rattle.std.specs.List.Sorted.{IsNonDecreasingBy}
use Rattle.std.specs.List.{flat_map, join_with_byte}
use Rattle.std.specs.Fmt.{decimal}
use Rattle.lin_report.specs.declared.calls.Op.{Op}
use Rattle.lin_report.specs.declared.calls.Reply.{Reply}
use Rattle.lin_report.specs.declared.calls.Reply.TheVariants.{Yes, No, Done, Value, Empty, Absent, Exhausted}
use Rattle.lin_report.specs.declared.calls.Path.{Path}
use Rattle.lin_report.specs.declared.calls.Path.TheVariants.{Fast, Slow}
use Rattle.lin_report.specs.declared.calls.TheConstants.{PUT, TAKE, ADD, DEL, HAS, SET, REM, GET, PEEK}
use Rattle.lin_report.specs.Calls.{Call, Report, calls_of}

-- the byte between two words of a line, and the one at its end
abbrev pub SPACE : ℕ
SPACE = 32

abbrev pub NEWLINE : ℕ
NEWLINE = 10

-- words with a space before each, as the writer puts them behind the first word of a line
unfoldable pub spaced : List (List ℕ) → List ℕ
spaced words = flat_map (λ word. SPACE ∷ word) words

-- words with one space between, and a newline
unfoldable pub line : List (List ℕ) → List ℕ
line words = join_with_byte SPACE words ++ NEWLINE ∷ []

-- a command with its numbers
unfoldable pub command_words : Op → List (List ℕ)
command_words op =
    if op.code == PUT then codes "put" ∷ decimal op.value ∷ []
    else (if op.code == TAKE then codes "take" ∷ []
    else (if op.code == ADD then codes "add" ∷ decimal op.key ∷ []
    else (if op.code == DEL then codes "del" ∷ decimal op.key ∷ []
    else (if op.code == HAS then codes "has" ∷ decimal op.key ∷ []
    else (if op.code == SET then codes "set" ∷ decimal op.key ∷ decimal op.value ∷ []
    else (if op.code == REM then codes "rem" ∷ decimal op.key ∷ []
    else (if op.code == GET then codes "get" ∷ decimal op.key ∷ []
    else (if op.code == PEEK then codes "peek" ∷ []
    else codes "min" ∷ []))))))))

-- a reply with its value
unfoldable pub reply_words : Reply → List (List ℕ)
reply_words Yes = codes "yes" ∷ []
reply_words No = codes "no" ∷ []
reply_words Done = codes "done" ∷ []
reply_words (Value value) = codes "value" ∷ decimal value ∷ []
reply_words Empty = codes "empty" ∷ []
reply_words Absent = codes "absent" ∷ []
reply_words Exhausted = codes "exhausted" ∷ []

-- the reply of a call, or that it is pending
abbrev pub answer_words : Option (Reply × ℕ) → List (List ℕ)
answer_words None = codes "pending" ∷ []
answer_words (Some answer) = reply_words answer.0

-- the end tick, or a dash
abbrev pub end_word : Option (Reply × ℕ) → List ℕ
end_word None = codes "-"
end_word (Some answer) = decimal answer.1

-- how the call was made
unfoldable pub path_word : Path → List ℕ
path_word Fast = codes "fast"
path_word Slow = codes "slow"

-- the line of a call
unfoldable pub call_line : Call → List ℕ
call_line c =
    line (decimal c.seat ∷ decimal c.number ∷ command_words c.op ++ answer_words c.answer ++ decimal c.begin ∷ end_word c.answer ∷ path_word c.path ∷ [])

-- a call among others in rising order of begin
abbrev pub insert_call : Call → List Call → List Call
insert_call c [] = c ∷ []
insert_call c (d ∷ calls) = if nat_lt d.begin c.begin then d ∷ insert_call c calls else c ∷ d ∷ calls

-- the calls in rising order of begin
unfoldable pub by_begin : List Call → List Call
by_begin [] = []
by_begin (c ∷ calls) = insert_call c (by_begin calls)

-- putting calls in order moves them only, and they rise by begin afterwards
abbrev pub ByBeginSorts : Type 0
ByBeginSorts = (calls : List Call) → IsPermutation calls (by_begin calls) × IsNonDecreasingBy (λ (c : Call). c.begin) (by_begin calls)

-- the call was made by its own seat alone
abbrev pub path_is_fast : Path → Bool
path_is_fast Fast = true
path_is_fast Slow = false

-- the call found no block left
abbrev pub reply_is_exhausted : Reply → Bool
reply_is_exhausted Exhausted = true
reply_is_exhausted _ = false

-- a pending call has found nothing yet
abbrev pub answer_is_exhausted : Option (Reply × ℕ) → Bool
answer_is_exhausted None = false
answer_is_exhausted (Some answer) = reply_is_exhausted answer.0

-- the three kinds of calls that the summary counts by what they are
abbrev pub is_fast : Call → Bool
is_fast c = path_is_fast c.path

abbrev pub is_slow : Call → Bool
is_slow c = not (is_fast c)

abbrev pub is_exhausted : Call → Bool
is_exhausted c = answer_is_exhausted c.answer

-- the greatest overtaking count, where it is told
abbrev pub overtaken_words : Option ℕ → List (List ℕ)
overtaken_words None = []
overtaken_words (Some most) = codes "overtaken" ∷ decimal most ∷ []

-- how many calls there are, and how many of each kind behind its name
unfoldable pub count_words : (calls fast slow exhausted pending : ℕ) → List (List ℕ)
count_words calls fast slow exhausted pending =
    decimal calls ∷ codes "fast" ∷ decimal fast ∷ codes "slow" ∷ decimal slow
    ∷ codes "exhausted" ∷ decimal exhausted ∷ codes "pending" ∷ decimal pending ∷ []

-- the summary line, the last line of a report
unfoldable pub summary_text : Report → Option ℕ → List ℕ
summary_text report overtaken = let calls = calls_of report in
    line (codes "calls" ∷ count_words (length calls) (count_by is_fast calls) (count_by is_slow calls) (count_by is_exhausted calls) (length report.pending) ++ overtaken_words overtaken)

-- the lines of calls
unfoldable pub lines : List Call → List ℕ
lines calls = flat_map call_line calls

-- the text of a report
unfoldable pub report_text : Report → Option ℕ → List ℕ
report_text report overtaken = lines (by_begin (calls_of report)) ++ summary_text report overtaken
