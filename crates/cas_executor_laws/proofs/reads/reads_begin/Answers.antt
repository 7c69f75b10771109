use Rattle.cas_executor_laws.proofs.ReadsAreExact.{reads_begin}
use Rattle.cas_executor_laws.proofs.reads.reads_begin.Goals as goal

pub returns : goal.returns
returns c = reads_begin
