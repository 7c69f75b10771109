use Rattle.run_invariant.proofs.Kept.Induction.{runs_are_kept}
use Rattle.run_exchanges.proofs.Journals.Obey.{obeys}
use Rattle.run_exchanges.proofs.exchange_laws.journals_obey.Goals as goal

pub returns : goal.returns
returns g c = obeys g.C.Normalized.form g.met.C.Normalized.laws (runs_are_kept g.C.Normalized.form g.met.C.Normalized.laws)
