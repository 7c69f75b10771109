use Rattle.std.proofs.Common.{◌≡◌, ◌*◌, ◌≤◌, length, sum_by, take}
use Rattle.event_core.proofs.cores.commands_of.Given as goal

-- the commands of the files so far are counted
abbrev pub invariant-loop-file : goal.invariant-loop-file
invariant-loop-file l = (l.commands ≡ sum_by (λ file. length file.items) (take l.file-index l.files)) × (l.commands ≤ 65535 * l.file-index)
