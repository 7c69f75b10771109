use Rattle.std.proofs.Common.{not, sym, ap, ◌∙◌}
use Rattle.lin_report.proofs.Maps.{kept-contains_key, kept-insert, set_absent-present, set_absent-absent}
use Rattle.lin_report.proofs.map_object.MapObject.set.Goals as goal

pub returns-then-contains_key-clause-was_absent : goal.returns-then-contains_key-clause-was_absent
returns-then-contains_key-clause-was_absent c =
    ap not (sym c.if-contains_key.true ∙ c.contains_key.ensures ∙ kept-contains_key c.self.inside.pairs.entries _ c.self.view_is c.args.key)

pub returns-then-contains_key-clause-ok : goal.returns-then-contains_key-clause-ok
returns-then-contains_key-clause-ok c =
    set_absent-present c.args.key c.args.value _
    (sym c.if-contains_key.true ∙ c.contains_key.ensures ∙ kept-contains_key c.self.inside.pairs.entries _ c.self.view_is c.args.key)

pub returns-clause-was_absent : goal.returns-clause-was_absent
returns-clause-was_absent c =
    ap not (sym c.if-contains_key.false ∙ c.contains_key.ensures ∙ kept-contains_key c.self.inside.pairs.entries _ c.self.view_is c.args.key)

pub returns-clause-ok : goal.returns-clause-ok
returns-clause-ok c =
    kept-insert c.self.inside.pairs.entries _ c.self.view_is c.insert.new.self.entries c.args.key c.args.value c.in_ok-insert.ensures.updates.0
    ∙ set_absent-absent c.args.key c.args.value _
    (sym c.if-contains_key.false ∙ c.contains_key.ensures ∙ kept-contains_key c.self.inside.pairs.entries _ c.self.view_is c.args.key)
