use Rattle.std.proofs.Common.{is_some, ap, ◌∙◌}
use Rattle.lin_report.proofs.Maps.{kept-get, kept-remove}
use Rattle.lin_report.proofs.map_object.MapObject.remove.Goals as goal

pub returns-clause-was_present : goal.returns-clause-was_present
returns-clause-was_present c =
    c.is_some.ensures ∙ ap is_some (c.remove.ensures.value ∙ kept-get c.self.inside.pairs.entries _ c.self.view_is c.args.key)

pub returns-clause-removed : goal.returns-clause-removed
returns-clause-removed c =
    kept-remove c.self.inside.pairs.entries _ c.self.view_is c.remove.new.self.entries c.args.key c.remove.ensures.updates.0
