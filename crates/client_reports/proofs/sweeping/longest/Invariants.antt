use Rattle.std.proofs.Common.{◌≡◌, ◌≤◌, map, take}
use Rattle.client_reports.specs.Sweeps.{longest}
use Rattle.client_reports.proofs.sweeping.longest.Given as goal

-- the longest of the files so far is found
abbrev pub invariant-loop-file : goal.invariant-loop-file
invariant-loop-file l = (l.longest ≡ longest (map (λ file. file.items) (take l.file-index l.files))) × (l.longest ≤ 65535)
