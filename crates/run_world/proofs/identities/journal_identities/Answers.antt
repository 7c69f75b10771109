use Rattle.run_world.proofs.Names.Journal.{journal_identities}
use Rattle.run_world.proofs.identities.journal_identities.Goals as goal

pub returns : goal.returns
returns g c = journal_identities g.C.Normalized.form
