use Rattle.std.proofs.Common.{◌≡◌, ◌≤◌, ◌*◌, length, take, sum_by}
use Rattle.client_reports.proofs.running.commands_of.Given as goal

-- the commands of the files so far
abbrev pub invariant-loop-file : goal.invariant-loop-file
invariant-loop-file l = (l.commands ≡ sum_by (λ file. length file.items) (take l.file-index l.files)) × (l.commands ≤ l.file-index * 65535)
