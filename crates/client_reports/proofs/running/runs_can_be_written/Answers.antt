use Rattle.fast_slow_engine.specs.Runs.{moves_over}
use Rattle.run_laws.proofs.CommandsMade.{files_run}
use Rattle.run_reports.proofs.Kept.Induction.{runs_are_kept}
use Rattle.run_reports.proofs.Kept.EveryRun.{counters_kept}
use Rattle.run_reports.proofs.Placed.Linearized.{replies_all_fit}
use Rattle.client_reports.proofs.Writable as writable
use Rattle.client_reports.proofs.running.runs_can_be_written.Goals as goal

pub returns : goal.returns
returns g c =
    let form = g.C.Normalized.form in
    let laws = g.met.C.Normalized.laws in
    writable.runs_can_be_written form
    (λ setup files order fit. (counters_kept form laws (runs_are_kept form laws) setup (moves_over form setup files order) (files_run form setup files order fit).follow).0)
    (replies_all_fit form laws (runs_are_kept form laws))
