use Rattle.run_reports.proofs.Kept.Induction.{runs_are_kept}
use Rattle.any_moves.proofs.HeadlineMet.{any_moves_meet_headline}
use Rattle.any_moves.proofs.headline.any_moves_meet_headline.Goals as goal

pub returns : goal.returns
returns g c = any_moves_meet_headline g.C.Normalized.form g.met.C.Normalized.laws (runs_are_kept g.C.Normalized.form g.met.C.Normalized.laws)
