use Rattle.std.proofs.Common.{All, ◌≤◌}
use Rattle.std.specs.Prelude.{IsTrue}
use Rattle.lin_report.specs.Object.{is_command}
use Rattle.script_reader.specs.Scripts.{COMMAND_LIMIT, GREATEST_VALUE, script_outcome}
use Rattle.script_reader.proofs.Outcomes.{script_lines, script_commands, script_values, answered, counted}
use Rattle.script_reader.proofs.scripts.read_script.Goals as goal

pub returns-clause-outcome : goal.returns-clause-outcome
unfolding script_outcome
returns-clause-outcome c = c.read_file.ensures

pub returns-clause-lines : goal.returns-clause-lines
returns-clause-lines c = script_lines c.args.client c.args.bytes.now

pub returns-clause-commands : goal.returns-clause-commands
unfolding script_outcome
returns-clause-commands c =
    answered (All (λ op. IsTrue (is_command c.args.client op))) c.read_file.result (script_outcome c.args.client c.args.bytes.now)
    (λ ops e. (script_commands c.args.client c.args.bytes.now ops e).0) c.read_file.ensures

pub returns-clause-count : goal.returns-clause-count
unfolding script_outcome
returns-clause-count c =
    counted COMMAND_LIMIT c.read_file.result (script_outcome c.args.client c.args.bytes.now)
    (λ ops e. (script_commands c.args.client c.args.bytes.now ops e).1) c.read_file.ensures

pub returns-clause-values : goal.returns-clause-values
unfolding script_outcome
returns-clause-values c =
    answered (All (λ op. op.value ≤ GREATEST_VALUE)) c.read_file.result (script_outcome c.args.client c.args.bytes.now)
    (script_values c.args.client c.args.bytes.now) c.read_file.ensures
