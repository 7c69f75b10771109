use Rattle.run_overtaking.proofs.Accounts.Allowances.{bound_is_sharper}
use Rattle.run_overtaking.proofs.laws.bound_is_sharper.Goals as goal

pub returns : goal.returns
returns c = bound_is_sharper
