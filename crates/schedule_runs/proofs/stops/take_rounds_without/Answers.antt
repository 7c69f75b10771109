use Rattle.std.proofs.Common.{rules}
use Rattle.schedule_runs.specs.Stops.{round_without}
use Rattle.schedule_runs.proofs.RoundsTakeTurns.{none_repeated, repeated_more, repeated_over}
use Rattle.schedule_runs.proofs.stops.take_rounds_without.Goals as goal

pub loop-init : goal.loop-init
loop-init g c = (none_repeated g.C.Normalized.form (round_without c.args.stopped c.args.seats) c.args.core.now, search rules)

pub returns-then-take_round_without-clause-steps : goal.returns-then-take_round_without-clause-steps
returns-then-take_round_without-clause-steps g c =
    repeated_over g.C.Normalized.form (round_without c.args.stopped c.args.seats) c.args.core.now c.loop.core c.loop.counter c.loop.invariant.0 c.take_round_without.new.core c.args.count (search rules) c.take_round_without.ensures.steps (c.take_round_without.ensures.idle c.if-take_round_without.true)

pub loop-preserved : goal.loop-preserved
loop-preserved g c = (
  repeated_more g.C.Normalized.form (round_without c.args.stopped c.args.seats) c.args.core.now c.loop.core c.loop.counter c.loop.invariant.0 c.take_round_without.new.core c.take_round_without.ensures.steps,
  search rules,
)
