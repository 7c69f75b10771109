use Rattle.lin_report.proofs.Tellable.{objects_are_tellable}
use Rattle.lin_report.proofs.laws.objects_are_tellable.Goals as goal

pub returns : goal.returns
returns c = objects_are_tellable
