use Rattle.std.proofs.Common.{◌≡◌, ◌≤◌, take}
use Rattle.std.specs.Str.Parse.{digits_value}
use Rattle.script_reader.proofs.numbers.number_up_to.Given as goal

-- the number so far is that of the digits so far, and not above the limit
abbrev pub invariant-loop-byte : goal.invariant-loop-byte
invariant-loop-byte l = (l.number ≡ digits_value 10 (take l.byte-index l.word)) × (l.number ≤ l.most)
