use Rattle.std.proofs.Common.{◌≡◌, ◌+◌, ◌≤◌, length}
use Rattle.script_reader.specs.Words.{lines_of}
use Rattle.script_reader.specs.Outcomes.{lines_outcome}
use Rattle.script_reader.proofs.LineByLine.{with_front}
use Rattle.script_reader.proofs.grammar.read_lines.Given as goal

-- the entries so far and those of what is left are those of all lines
abbrev pub invariant-loop-rest : goal.invariant-loop-rest
invariant-loop-rest g l =
    let entry = g.G.Grammar.entry_of l.grammar in
    record {
      counted : l.number + length l.rest ≤ length l.bytes;
      so_far : with_front l.entries.items (lines_outcome entry g.G.Grammar.limit (l.number + 1) (length l.entries.items) (lines_of l.rest))
          ≡ lines_outcome entry g.G.Grammar.limit 1 0 (lines_of l.bytes);
    }

abbrev pub decreases-loop-rest : goal.decreases-loop-rest
decreases-loop-rest g l = length l.rest
