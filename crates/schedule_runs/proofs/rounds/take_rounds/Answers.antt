use Rattle.std.proofs.Common.{rules}
use Rattle.schedule_runs.specs.Rounds.{round}
use Rattle.schedule_runs.proofs.RoundsTakeTurns.{none_repeated, repeated_more, repeated_over}
use Rattle.schedule_runs.proofs.rounds.take_rounds.Goals as goal

pub loop-init : goal.loop-init
loop-init g c = (none_repeated g.C.Normalized.form (round c.args.seats) c.args.core.now, search rules)

pub returns-then-take_round-clause-steps : goal.returns-then-take_round-clause-steps
returns-then-take_round-clause-steps g c =
    repeated_over g.C.Normalized.form (round c.args.seats) c.args.core.now c.loop.core c.loop.counter c.loop.invariant.0 c.take_round.new.core c.args.count (search rules) c.take_round.ensures.steps (c.take_round.ensures.idle c.if-take_round.true)

pub loop-preserved : goal.loop-preserved
loop-preserved g c = (
  repeated_more g.C.Normalized.form (round c.args.seats) c.args.core.now c.loop.core c.loop.counter c.loop.invariant.0 c.take_round.new.core c.take_round.ensures.steps,
  search rules,
)
