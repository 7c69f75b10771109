-- The report of a run.
use Rattle.lin_report.specs.Calls.{Report, report_of}
use Rattle.fast_slow_engine.specs.Runs.{RunState, pending_of}

-- the calls that returned and those that run; what is written of a run is the text of this, and every law of
-- reports is said of it
abbrev pub report_of_run : {S W : Type 0} → RunState S W → Report
report_of_run state = report_of state.receipts (pending_of state.mechs)
