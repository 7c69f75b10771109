use Rattle.std.proofs.Common.{◌∙◌}
use Rattle.lin_report.proofs.Sets.{kept-contains, kept-remove}
use Rattle.lin_report.proofs.set_object.SetObject.remove.Goals as goal

pub returns-clause-was_present : goal.returns-clause-was_present
returns-clause-was_present c = c.remove.ensures.test ∙ kept-contains c.self.inside.keys.keys _ c.self.view_is c.args.key

pub returns-clause-removed : goal.returns-clause-removed
returns-clause-removed c =
    kept-remove c.self.inside.keys.keys _ c.self.view_is c.remove.new.self.keys c.args.key c.remove.ensures.updates.0
