use Rattle.cas_executor_laws.proofs.ReadsAreExact.{reads_go_on}
use Rattle.cas_executor_laws.proofs.reads.reads_go_on.Goals as goal

pub returns : goal.returns
returns c = reads_go_on
