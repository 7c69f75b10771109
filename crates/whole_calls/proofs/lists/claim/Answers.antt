use Rattle.std.proofs.Common.{rules, ◌<◌}
use Rattle.whole_calls.proofs.Parts.{claims}
use Rattle.whole_calls.proofs.lists.claim.Goals as goal

pub returns-clause-claimed : goal.returns-clause-claimed
returns-clause-claimed g c =
    let left : c.load-asked.result < c.args.call.now.setup.cap = (let f = c.if-none_is_left.false in let e = c.none_is_left.ensures in search rules) in
    let more : c.add-claimed.result < c.args.call.now.setup.cap = (let f = c.if-none_is_left-2.false in let e = c.none_is_left-2.ensures in search rules) in
    λ yes. claims g.C.Normalized.form c.args.search.now c.args.call.now _ _ _ _ _ _ _ c.requires.looks c.load-asked.ensures.machine.1 left c.add-claimed.ensures.machine.1 more
