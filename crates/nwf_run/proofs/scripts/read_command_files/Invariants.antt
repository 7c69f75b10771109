use Rattle.std.proofs.Common.{◌≡◌, ◌≤◌, ◌+◌, ℕ, IsTrue, List, All, map, length, vec_len, vec_capacity}
use Rattle.lin_report.specs.CommandFiles.{IsCommandFile}
use Rattle.lin_report.specs.Object.{object_of}
use Rattle.client_reports.specs.Judging.{SayFirst}
use Rattle.nwf_run.specs.Reading.{Opens, files_by_name}
use Rattle.nwf_run.specs.Said.{said_run}
use Rattle.nwf_run.proofs.scripts.read_command_files.Given as goal

-- the files so far were opened in order and accepted, and there was no fault
abbrev pub invariant-loop-name : goal.invariant-loop-name
invariant-loop-name g l = record {
  say : IsTrue (g.F.Files.tells l.fn.files) → SayFirst l.words.client (length (said_run l.words).files) (files_by_name (g.F.Files.held l.fn.files) (said_run l.words)) (map (λ ops. ops.items) l.commands.items);
  commands : All (λ ops. IsCommandFile (object_of l.words.client) ops.items) l.commands.items;
  count : vec_len l.commands ≡ l.name-index;
  room : length l.words.files.now ≤ vec_capacity l.commands;
  tells : g.F.Files.tells l.files ≡ g.F.Files.tells l.fn.files;
  held : (n : List ℕ) → g.F.Files.held l.files n ≡ g.F.Files.held l.fn.files n;
  opened : Opens (said_run l.words) (l.name-index + 1) (g.F.Files.faults l.fn.files) (g.F.Files.opened l.fn.files) (g.F.Files.opened l.files);
  calm : g.F.Files.faults l.files ≡ g.F.Files.faults l.fn.files;
}
