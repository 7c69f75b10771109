use Rattle.generated_files.proofs.Runnable.{each_runs}
use Rattle.generated_files.proofs.laws.each_runs.Goals as goal

pub returns : goal.returns
returns c = each_runs
