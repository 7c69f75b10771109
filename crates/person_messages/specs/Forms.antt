-- The forms of the command line: which words stand behind a command, and what each of them may be.
use Rattle.std.specs.Prelude.{ℕ, ◌+◌, ◌-◌, Bool, true, false, nat_lt, ◌&&◌, if◌then◌else◌, List, [], ◌∷◌, length, slice_get, Option, Some, None, is_some, codes}
use Rattle.std.specs.Str.{bytes_eq}
use Rattle.command_line.specs.Words.{client_named, number_in}
use Rattle.person_messages.specs.declared.forms.Command.{Command}
use Rattle.person_messages.specs.declared.forms.Command.TheVariants.{Replay, Run, Load, Sweep, Check}
use Rattle.person_messages.specs.declared.forms.Place.{Place}
use Rattle.person_messages.specs.declared.forms.Place.TheVariants.{Client, Cap, Limit, Schedule, Steps, Threads, Calls, Seed, Report, Order, File}

-- the command that the first word names
abbrev pub command_named : List ℕ → Option Command
command_named word =
    if bytes_eq word (codes "replay") then Some Replay
    else (if bytes_eq word (codes "run") then Some Run
    else (if bytes_eq word (codes "load") then Some Load
    else (if bytes_eq word (codes "sweep") then Some Sweep
    else (if bytes_eq word (codes "check") then Some Check else None))))

-- what the words behind it stand for, in front of command files
abbrev pub places_of : Command → List Place
places_of Replay = Client ∷ Cap ∷ Limit ∷ Schedule ∷ []
places_of Run = Client ∷ Cap ∷ Limit ∷ []
places_of Load = Client ∷ Cap ∷ Limit ∷ Threads ∷ Calls ∷ Seed ∷ []
places_of Sweep = Client ∷ Cap ∷ Limit ∷ Steps ∷ []
places_of Check = Client ∷ Report ∷ Order ∷ []

-- one to eight command files follow
abbrev pub takes_files : Command → Bool
takes_files Replay = true
takes_files Run = true
takes_files Sweep = true
takes_files Load = false
takes_files Check = false

-- the least and the greatest number at a place, where a number has to stand there
abbrev pub range_of : Place → Option (ℕ × ℕ)
range_of Cap = Some (1, 65536)
range_of Limit = Some (0, 255)
range_of Steps = Some (0, 255)
range_of Threads = Some (1, 8)
range_of Calls = Some (1, 65535)
range_of Seed = Some (0, 4294967295)
range_of Client = None
range_of Schedule = None
range_of Report = None
range_of Order = None
range_of File = None

-- a word is a number in the range, where there is one
abbrev pub is_in_range : Option (ℕ × ℕ) → List ℕ → Bool
is_in_range None word = true
is_in_range (Some range) word = is_some (number_in range.0 range.1 word)

-- a word may stand at a place; any word names a file
abbrev pub fits : Place → List ℕ → Bool
fits Client word = is_some (client_named word)
fits place word = is_in_range (range_of place) word

-- how many words have to stand behind a command
abbrev pub least_words : Command → ℕ
least_words command = length (places_of command) + (if takes_files command then 1 else 0)

-- what a word behind a command stands for, where one may stand there; words are counted from 0
abbrev pub place_at : Command → ℕ → Option Place
place_at command at =
    if nat_lt at (length (places_of command)) then slice_get (places_of command) at
    else (if takes_files command && nat_lt (at - length (places_of command)) 8 then Some File else None)

abbrev pub may_stand_at : Option Place → List ℕ → Bool
may_stand_at None word = false
may_stand_at (Some place) word = fits place word

-- a word may stand so far behind a command
abbrev pub may_stand : Command → ℕ → List ℕ → Bool
may_stand command at word = may_stand_at (place_at command at) word
