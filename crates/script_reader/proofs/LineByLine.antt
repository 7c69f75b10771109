-- Reading one line after another, as the reader's loop does.
use Rattle.std.proofs.Common.{List, ◌++◌, Result, Ok, Err}
use Rattle.script_reader.specs.declared.causes.Refusal.{Refusal}

-- entries that were read before, and those of the lines that follow
abbrev pub with_front : {X : Type 0} → List X → Result (List X) Refusal → Result (List X) Refusal
with_front front (Ok entries) = Ok (front ++ entries)
with_front front (Err refusal) = Err refusal
