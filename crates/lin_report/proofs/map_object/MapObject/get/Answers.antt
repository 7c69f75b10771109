use Rattle.std.proofs.Common.{ap, ◌∙◌}
use Rattle.lin_report.specs.Object.{value_or_absent}
use Rattle.lin_report.proofs.Maps.{kept-get}
use Rattle.lin_report.proofs.map_object.MapObject.get.Goals as goal

pub returns-in-Some : goal.returns-in-Some
returns-in-Some c = ap value_or_absent (c.in-Some.ensures.value ∙ kept-get c.self.inside.pairs.entries _ c.self.view_is c.args.key)

pub returns-in-None : goal.returns-in-None
returns-in-None c = ap value_or_absent (c.in-None.ensures.value ∙ kept-get c.self.inside.pairs.entries _ c.self.view_is c.args.key)
