use Rattle.std.proofs.Common.{rules, ◌∙◌}
use Rattle.schedule_runs.specs.Spans.{reaches_at}
use Rattle.schedule_runs.proofs.DriveLoops.{gone_on, gone_to, reaches_now}
use Rattle.schedule_runs.proofs.driver.go_to_exchange.Goals as goal

pub returns-then-step_reaches-clause-steps : goal.returns-then-step_reaches-clause-steps
returns-then-step_reaches-clause-steps g c =
    let form = g.C.Normalized.form in
    gone_to form (reaches_at form c.args.seat c.args.core.now) c.args.seat c.args.core.now c.loop.core c.step_reaches.new.core c.loop.counter c.loop.invariant.0 (search rules) c.step_reaches.ensures.step
    (reaches_now form c.args.seat c.args.core.now c.loop.core c.step_reaches.new.core c.loop.counter _ c.loop.invariant.0.steps c.step_reaches.ensures.step c.step_reaches.ensures.reaches ∙ c.if-step_reaches.true)

pub loop-preserved : goal.loop-preserved
loop-preserved g c =
    let form = g.C.Normalized.form in (
      gone_on form (reaches_at form c.args.seat c.args.core.now) c.args.seat c.args.core.now c.loop.core c.step_reaches.new.core c.loop.counter c.loop.invariant.0 c.step_reaches.ensures.step
          (reaches_now form c.args.seat c.args.core.now c.loop.core c.step_reaches.new.core c.loop.counter _ c.loop.invariant.0.steps c.step_reaches.ensures.step c.step_reaches.ensures.reaches ∙ c.if-step_reaches.false),
      search rules,
    )
