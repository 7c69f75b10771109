use Rattle.std.proofs.Common.{None, Some, List, map, length, sym, ap, subst, ◌∙◌}
use Rattle.report_check.specs.declared.call_lines.CallLine.{CallLine}
use Rattle.report_check.specs.CallLines.{call_of}
use Rattle.report_check.proofs.CallsRead.Beginning.{Stands, nothing_known, stands_first, stands_more, begins_with, shorter, known_seen}
use Rattle.report_check.proofs.beginnings.read_calls.Goals as goal

pub loop-call-init : goal.loop-call-init
loop-call-init c =
    let last = c.in_ok-last.last.items in
    let ticks = c.in_ok-ticks.ticks.items in
    let knows = nothing_known last ticks c.in_ok-last.ensures.long c.in_ok-ticks.ensures.long c.in_ok-last.ensures.empty c.in_ok-ticks.ensures.empty in
    subst (λ (calls : List CallLine). Stands c.args.client c.args.bytes.now calls None last ticks c.args.bytes.now) (sym c.new-calls.ensures.items)
    (stands_first c.args.client c.args.bytes.now last ticks knows)

pub next_call-requires-clause-seats : goal.next_call-requires-clause-seats
next_call-requires-clause-seats c = ap length c.deref.ensures.value ∙ c.loop-call.invariant.knows.seats

pub next_call-requires-clause-long : goal.next_call-requires-clause-long
next_call-requires-clause-long c = ap length c.deref-in-loop-call.ensures.value ∙ c.loop-call.invariant.knows.long

pub keep-requires-clause-printable : goal.keep-requires-clause-printable
keep-requires-clause-printable c =
    let before = map call_of c.loop-call.calls.items in
    let seen = known_seen before _ _ _ _ c.deref.ensures.value c.deref-in-loop-call.ensures.value c.loop-call.invariant.knows in
    let next = c.in-Some.ensures before c.loop-call.invariant.line_is seen in
    next.printable

pub keep-requires-clause-seats : goal.keep-requires-clause-seats
keep-requires-clause-seats c = c.loop-call.invariant.knows.seats

pub keep-requires-clause-long : goal.keep-requires-clause-long
keep-requires-clause-long c = c.loop-call.invariant.knows.long

pub loop-call-smaller : goal.loop-call-smaller
loop-call-smaller c =
    let before = map call_of c.loop-call.calls.items in
    let seen = known_seen before _ _ _ _ c.deref.ensures.value c.deref-in-loop-call.ensures.value c.loop-call.invariant.knows in
    shorter c.args.client before c.loop-call.rest.now (call_of c.in-Some.call) c.in-Some.behind.now (c.in-Some.ensures before c.loop-call.invariant.line_is seen)

pub loop-call-preserved : goal.loop-call-preserved
loop-call-preserved c =
    let before = map call_of c.loop-call.calls.items in
    let seen = known_seen before _ _ _ _ c.deref.ensures.value c.deref-in-loop-call.ensures.value c.loop-call.invariant.knows in
    let next = c.in-Some.ensures before c.loop-call.invariant.line_is seen in
    subst (λ (calls : List CallLine). Stands c.args.client c.args.bytes.now calls (Some c.in-Some.call) c.keep.new.last.items c.keep.new.ticks.items c.in-Some.behind.now) (sym c.in_ok-push.ensures.items)
    (stands_more c.args.client c.args.bytes.now c.loop-call.calls.items c.loop-call.line c.loop-call.last.items c.keep.new.last.items c.loop-call.ticks.items c.keep.new.ticks.items c.loop-call.rest.now
    c.in-Some.behind.now c.in-Some.call c.loop-call.invariant next (c.keep.ensures before c.loop-call.invariant.knows))

pub returns-clause-begins : goal.returns-clause-begins
returns-clause-begins c =
    let before = map call_of c.loop-call.calls.items in
    let seen = known_seen before _ _ _ _ c.deref.ensures.value c.deref-in-loop-call.ensures.value c.loop-call.invariant.knows in
    begins_with c.args.client c.args.bytes.now c.loop-call.calls.items c.loop-call.line c.loop-call.last.items c.loop-call.ticks.items c.loop-call.rest.now c.loop-call.invariant
    (c.in_default.ensures before c.loop-call.invariant.line_is seen)

pub returns-clause-long : goal.returns-clause-long
returns-clause-long c = c.loop-call.invariant.knows.long

pub returns-clause-drawn : goal.returns-clause-drawn
returns-clause-drawn c = c.loop-call.invariant.knows.drawn
