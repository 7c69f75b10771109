use Rattle.run_invariant.proofs.Kept.Induction.{runs_are_kept}
use Rattle.run_exchanges.proofs.Exchanges.Made.{exchanges_once}
use Rattle.run_exchanges.proofs.exchange_laws.exchanges_once.Goals as goal

pub returns : goal.returns
returns g c = exchanges_once g.C.Normalized.form g.met.C.Normalized.laws (runs_are_kept g.C.Normalized.form g.met.C.Normalized.laws)
