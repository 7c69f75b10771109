use Rattle.cas_executor_laws.proofs.ReadsAreExact.{reads_are_exact}
use Rattle.cas_executor_laws.proofs.reads.reads_are_exact.Goals as goal

pub returns : goal.returns
returns c = reads_are_exact
