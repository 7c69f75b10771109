use Rattle.std.proofs.Common.{length, ◌+◌, ◌-◌, ◌≡◌, ◌≤◌, ℕ, List, vec_len}
use Rattle.std.specs.Io.KnownBytes.{Consumes}
use Rattle.whole_files.specs.declared.reading.TheConstants.{PIECE}
use Rattle.whole_files.proofs.reading.read_left.Given as goal

-- what was read stood in front of what is left, and there was no fault
abbrev pub invariant-loop-piece : goal.invariant-loop-piece
invariant-loop-piece g l = record {
  within : vec_len l.bytes ≤ l.fn.limit + 1;
  room : length l.piece ≡ PIECE;
  read : Consumes (g.F.Files.left l.fn.files) (g.F.Files.left l.files) l.bytes.items;
  tells : g.F.Files.tells l.files ≡ g.F.Files.tells l.fn.files;
  held : (n : List ℕ) → g.F.Files.held l.files n ≡ g.F.Files.held l.fn.files n;
  opened : g.F.Files.opened l.files ≡ g.F.Files.opened l.fn.files;
  calm : g.F.Files.faults l.files ≡ g.F.Files.faults l.fn.files;
}

abbrev pub decreases-loop-piece : goal.decreases-loop-piece
decreases-loop-piece g l = l.fn.limit + 1 - vec_len l.bytes
