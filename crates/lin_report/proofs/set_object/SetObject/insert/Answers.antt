use Rattle.std.proofs.Common.{not, ap, ◌∙◌}
use Rattle.lin_report.proofs.Sets.{kept-contains, kept-insert}
use Rattle.lin_report.proofs.set_object.SetObject.insert.Goals as goal

pub returns-clause-was_absent : goal.returns-clause-was_absent
returns-clause-was_absent c =
    c.in_ok-insert.ensures.added ∙ ap not (kept-contains c.self.inside.keys.keys _ c.self.view_is c.args.key)

pub returns-clause-ok : goal.returns-clause-ok
returns-clause-ok c =
    kept-insert c.self.inside.keys.keys _ c.self.view_is c.insert.new.self.keys c.args.key c.in_ok-insert.ensures.updates.0
