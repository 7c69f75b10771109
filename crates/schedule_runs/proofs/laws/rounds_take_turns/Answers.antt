use Rattle.schedule_runs.proofs.RoundsTakeTurns.{rounds_take_turns}
use Rattle.schedule_runs.proofs.laws.rounds_take_turns.Goals as goal

pub returns : goal.returns
returns c = rounds_take_turns
