use Rattle.std.proofs.Common.{take}
use Rattle.lin_report.specs.Room.{Appends}
use Rattle.client_reports.proofs.sweeping.append.Given as goal

-- the bytes so far were put last
abbrev pub invariant-loop-byte : goal.invariant-loop-byte
invariant-loop-byte l = Appends l.fn.text l.text (take l.byte-index l.bytes)
