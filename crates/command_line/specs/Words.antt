-- What a word of the command line may be.
use Rattle.std.specs.Prelude.{ℕ, nat_lt, nat_le, ◌&&◌, if◌then◌else◌, List, length, Option, Some, None, codes}
use Rattle.std.specs.Option.{option_and_then}
use Rattle.std.specs.Str.{bytes_eq}
use Rattle.lin_report.specs.declared.calls.Client.{Client}
use Rattle.lin_report.specs.declared.calls.Client.TheVariants as client
use Rattle.script_reader.specs.Words.{number_up_to}

-- the client that a word names
abbrev pub client_named : List ℕ → Option Client
client_named word =
    if bytes_eq word (codes "queue") then Some client.Queue
    else (if bytes_eq word (codes "list") then Some client.List
    else (if bytes_eq word (codes "tree") then Some client.Tree
    else (if bytes_eq word (codes "buckets") then Some client.Buckets else None)))

-- a number word between two bounds: one or more ASCII digits, of which leading zeros count nothing
abbrev pub number_in : ℕ → ℕ → List ℕ → Option ℕ
number_in least most word =
    option_and_then (λ n. if nat_lt 0 (length word) && nat_le least n then Some n else None) (number_up_to most word)
