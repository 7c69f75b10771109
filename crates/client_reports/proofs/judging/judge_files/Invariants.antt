use Rattle.std.proofs.Common.{◌≡◌, ◌≤◌, All, map, length, vec_len, vec_capacity}
use Rattle.lin_report.specs.CommandFiles.{IsCommandFile}
use Rattle.lin_report.specs.Object.{object_of}
use Rattle.client_reports.specs.Judging.{SayFirst, files_of_bytes}
use Rattle.client_reports.proofs.judging.judge_files.Given as goal

-- the files so far were accepted
abbrev pub invariant-loop-bytes : goal.invariant-loop-bytes
invariant-loop-bytes l = record {
  say : SayFirst l.client (length l.files) (files_of_bytes l.schedule (map (λ file. file.now) l.files)) (map (λ ops. ops.items) l.commands.items);
  commands : All (λ ops. IsCommandFile (object_of l.client) ops.items) l.commands.items;
  count : vec_len l.commands ≡ l.bytes-index;
  room : length l.files ≤ vec_capacity l.commands;
}
