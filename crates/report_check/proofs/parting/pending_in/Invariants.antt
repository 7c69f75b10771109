use Rattle.std.proofs.Common.{◌≡◌, take}
use Rattle.std.specs.List.{filter_map}
use Rattle.report_check.specs.CallLines.{call_of}
use Rattle.report_check.specs.Reports.{waiting_in}
use Rattle.report_check.proofs.parting.pending_in.Given as goal

-- those of the lines so far
abbrev pub invariant-loop-call : goal.invariant-loop-call
invariant-loop-call l = l.pending.items ≡ filter_map (λ c. waiting_in (call_of c)) (take l.call-index l.calls)
