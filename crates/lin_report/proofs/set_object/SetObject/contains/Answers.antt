use Rattle.std.proofs.Common.{◌∙◌}
use Rattle.lin_report.proofs.Sets.{kept-contains}
use Rattle.lin_report.proofs.set_object.SetObject.contains.Goals as goal

pub returns : goal.returns
returns c = c.contains.ensures ∙ kept-contains c.self.inside.keys.keys _ c.self.view_is c.args.key
