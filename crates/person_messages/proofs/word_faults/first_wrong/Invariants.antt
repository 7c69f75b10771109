use Rattle.std.proofs.Common.{length, ◌-◌, ◌≤◌, map, string_bytes}
use Rattle.person_messages.specs.WordFaults.{MayStandBelow}
use Rattle.person_messages.proofs.word_faults.first_wrong.Given as goal

-- the words before this one may stand where they stand
abbrev pub invariant-loop-at : goal.invariant-loop-at
invariant-loop-at l = record {
  within : l.at ≤ length l.words;
  before : MayStandBelow l.command (map string_bytes l.words) l.at;
}

abbrev pub decreases-loop-at : goal.decreases-loop-at
decreases-loop-at l = length l.words - l.at
