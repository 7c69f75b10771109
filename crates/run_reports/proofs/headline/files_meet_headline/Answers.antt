use Rattle.run_exchanges.proofs.Kept.Induction.{runs_are_kept}
use Rattle.run_reports.proofs.Placed.HeadlineMet.{files_meet_headline}
use Rattle.run_reports.proofs.headline.files_meet_headline.Goals as goal

pub returns : goal.returns
returns g c = files_meet_headline g.C.Normalized.form g.met.C.Normalized.laws (runs_are_kept g.C.Normalized.form g.met.C.Normalized.laws)
