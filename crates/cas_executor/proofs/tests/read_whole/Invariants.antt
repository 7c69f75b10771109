use Rattle.cas_executor.specs.BlockReads.{IsReading}
use Rattle.cas_executor.proofs.tests.read_whole.Given as goal

abbrev pub invariant-loop-loads : goal.invariant-loop-loads
invariant-loop-loads l = IsReading l.read
