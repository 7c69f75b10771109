use Rattle.std.proofs.Common.{◌<◌, All}
use Rattle.script_reader.specs.declared.schedules.ScheduleEntry.{ScheduleEntry}
use Rattle.script_reader.specs.Schedules.{ENTRY_LIMIT, IsSpanInRange, schedule_outcome}
use Rattle.script_reader.proofs.Outcomes.{schedule_lines, schedule_entries, answered, counted}
use Rattle.script_reader.proofs.schedules.read_schedule.Goals as goal

pub returns-clause-outcome : goal.returns-clause-outcome
unfolding schedule_outcome
returns-clause-outcome c = c.read_file.ensures

pub returns-clause-lines : goal.returns-clause-lines
returns-clause-lines c = schedule_lines c.args.seats c.args.bytes.now

pub returns-clause-seats : goal.returns-clause-seats
unfolding schedule_outcome
returns-clause-seats c =
    answered (All (λ (entry : ScheduleEntry). entry.seat < c.args.seats)) c.read_file.result (schedule_outcome c.args.seats c.args.bytes.now)
    (λ entries e. (schedule_entries c.args.seats c.args.bytes.now entries e).0) c.read_file.ensures

pub returns-clause-spans : goal.returns-clause-spans
unfolding schedule_outcome
returns-clause-spans c =
    answered (All (λ (entry : ScheduleEntry). IsSpanInRange entry.span)) c.read_file.result (schedule_outcome c.args.seats c.args.bytes.now)
    (λ entries e. (schedule_entries c.args.seats c.args.bytes.now entries e).1) c.read_file.ensures

pub returns-clause-count : goal.returns-clause-count
unfolding schedule_outcome
returns-clause-count c =
    counted ENTRY_LIMIT c.read_file.result (schedule_outcome c.args.seats c.args.bytes.now)
    (λ entries e. (schedule_entries c.args.seats c.args.bytes.now entries e).2) c.read_file.ensures
