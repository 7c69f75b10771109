use Rattle.schedule_runs.proofs.RoundsWithoutOne.{stop_made}
use Rattle.schedule_runs.proofs.stops.run_past_stop.Goals as goal

pub returns-clause-steps : goal.returns-clause-steps
returns-clause-steps g c = stop_made g.C.Normalized.form c.args.seats c.args.stopped c.args.steps c.args.count c.args.core.now c.make_steps.new.core c.take_rounds_without.new.core c.make_steps.ensures.steps c.take_rounds_without.ensures.steps
