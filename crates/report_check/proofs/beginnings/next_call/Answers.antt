use Rattle.std.proofs.Common.{sym, ◌∙◌}
use Rattle.report_check.specs.CallLines.{call_of}
use Rattle.report_check.proofs.CallsRead.NextCalls.{no_line, no_call, no_follower, is_next, tells_none}
use Rattle.report_check.proofs.beginnings.next_call.Goals as goal

pub returns-in_err-first : goal.returns-in_err-first
returns-in_err-first c = λ before line knows.
    tells_none c.args.client before c.args.bytes.now c.from_residual.result (λ n. (call_of n.0, n.1.now)) c.from_residual.ensures (no_line c.args.client before c.args.bytes.now c.in_err-first.ensures)

pub returns-in_err-call : goal.returns-in_err-call
returns-in_err-call c = λ before line knows.
    tells_none c.args.client before c.args.bytes.now c.from_residual-in_err-call.result (λ n. (call_of n.0, n.1.now)) c.from_residual-in_err-call.ensures
    (no_call c.args.client before c.args.bytes.now c.in_ok-first.first.now c.in_ok-first.rest.now c.in_ok-first.ensures c.in_err-call.ensures)

pub returns-then-may_follow : goal.returns-then-may_follow
returns-then-may_follow c = λ before line knows.
    is_next c.args.client before c.args.bytes.now c.in_ok-first.first.now c.in_ok-first.rest.now (call_of c.in_ok-call.call) c.in_ok-first.ensures c.in_ok-call.ensures
    (sym (c.may_follow.ensures before line knows) ∙ c.if-may_follow.true)

pub returns-else-may_follow : goal.returns-else-may_follow
returns-else-may_follow c = λ before line knows.
    no_follower c.args.client before c.args.bytes.now c.in_ok-first.first.now c.in_ok-first.rest.now (call_of c.in_ok-call.call) c.in_ok-first.ensures c.in_ok-call.ensures
    (sym (c.may_follow.ensures before line knows) ∙ c.if-may_follow.false)
