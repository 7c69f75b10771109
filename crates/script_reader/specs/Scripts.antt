-- Command files: which commands a client has, and what a file of them is.
use Rattle.std.specs.Prelude.{ℕ, if◌then◌else◌, List, [], ◌∷◌, Option, Some, None, Result, Ok, Err, codes}
use Rattle.std.specs.Str.{bytes_eq}
use Rattle.lin_report.specs.declared.calls.Client.{Client}
use Rattle.lin_report.specs.declared.calls.Client.TheVariants as client
use Rattle.lin_report.specs.declared.calls.Op.{Op}
use Rattle.lin_report.specs.declared.calls.TheConstants.{PUT, TAKE, ADD, DEL, HAS, SET, REM, GET, PEEK, MIN}
use Rattle.script_reader.specs.declared.causes.Cause.{Cause}
use Rattle.script_reader.specs.declared.causes.Cause.TheVariants.{BadCommand, BadNumber}
use Rattle.script_reader.specs.declared.causes.Refusal.{Refusal}
use Rattle.script_reader.specs.declared.scripts.Numbers.{Numbers}
use Rattle.script_reader.specs.declared.scripts.Numbers.TheVariants.{NoNumber, OneValue, OneKey, KeyAndValue}
use Rattle.script_reader.specs.Words.{number_up_to}
use Rattle.script_reader.specs.Outcomes.{file_outcome}

-- lines with words of a command file
abbrev pub COMMAND_LIMIT : ℕ
COMMAND_LIMIT = 65535

-- the greatest key and the greatest value
abbrev pub GREATEST_KEY : ℕ
GREATEST_KEY = 1048575

abbrev pub GREATEST_VALUE : ℕ
GREATEST_VALUE = 4294967295

-- the commands of each client by their words: the code of the command, and which numbers follow its word
abbrev pub queue_command : List ℕ → Option (ℕ × Numbers)
queue_command word =
    if bytes_eq word (codes "put") then Some (PUT, OneValue)
    else (if bytes_eq word (codes "take") then Some (TAKE, NoNumber)
    else (if bytes_eq word (codes "peek") then Some (PEEK, NoNumber)
    else None))

abbrev pub set_command : List ℕ → Option (ℕ × Numbers)
set_command word =
    if bytes_eq word (codes "add") then Some (ADD, OneKey)
    else (if bytes_eq word (codes "del") then Some (DEL, OneKey)
    else (if bytes_eq word (codes "has") then Some (HAS, OneKey)
    else None))

-- a list has the commands of a set and min, which the set of buckets hasn't
abbrev pub list_command : List ℕ → Option (ℕ × Numbers)
list_command word = if bytes_eq word (codes "min") then Some (MIN, NoNumber) else set_command word

abbrev pub map_command : List ℕ → Option (ℕ × Numbers)
map_command word =
    if bytes_eq word (codes "set") then Some (SET, KeyAndValue)
    else (if bytes_eq word (codes "rem") then Some (REM, OneKey)
    else (if bytes_eq word (codes "get") then Some (GET, OneKey)
    else None))

abbrev pub command_named : Client → List ℕ → Option (ℕ × Numbers)
command_named client.Queue word = queue_command word
command_named client.List word = list_command word
command_named client.Buckets word = set_command word
command_named client.Tree word = map_command word

-- an operation from its key and its value, each a number or out of range
abbrev pub op_of : ℕ → Option ℕ → Option ℕ → Result Op Cause
op_of code (Some key) (Some value) = Ok (record { code = code; key = key; value = value })
op_of code (Some key) None = Err BadNumber
op_of code None value = Err BadNumber

-- a command's words after the first: as many as it takes numbers, and each in its range. A number that the
-- command doesn't take is 0
abbrev pub op_from_words : ℕ → Numbers → List (List ℕ) → Result Op Cause
op_from_words code NoNumber [] = op_of code (Some 0) (Some 0)
op_from_words code OneValue (value ∷ []) = op_of code (Some 0) (number_up_to GREATEST_VALUE value)
op_from_words code OneKey (key ∷ []) = op_of code (number_up_to GREATEST_KEY key) (Some 0)
op_from_words code KeyAndValue (key ∷ value ∷ []) = op_of code (number_up_to GREATEST_KEY key) (number_up_to GREATEST_VALUE value)
op_from_words _ _ _ = Err BadCommand

abbrev pub command_from : Option (ℕ × Numbers) → List (List ℕ) → Result Op Cause
command_from None words = Err BadCommand
command_from (Some command) words = op_from_words command.0 command.1 words

-- the words of a line as a command of the client
abbrev pub command_of : Client → List (List ℕ) → Result Op Cause
command_of client [] = Err BadCommand
command_of client (word ∷ words) = command_from (command_named client word) words

-- what a command file is: the commands of its lines, or the line and cause for which it is refused
unfoldable pub script_outcome : Client → List ℕ → Result (List Op) Refusal
script_outcome client bytes = file_outcome (command_of client) COMMAND_LIMIT bytes
