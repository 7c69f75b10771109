use Rattle.run_invariant.proofs.Kept.Induction.{runs_are_kept}
use Rattle.run_exchanges.proofs.Exchanges.Made.{journals_tell}
use Rattle.run_exchanges.proofs.exchange_laws.journals_tell.Goals as goal

pub returns : goal.returns
returns g c = journals_tell g.C.Normalized.form g.met.C.Normalized.laws (runs_are_kept g.C.Normalized.form g.met.C.Normalized.laws)
