use Rattle.std.proofs.Common.{arith, ◌∙◌, ap, length}
use Rattle.std.proofs.lemmas.List.Folds.{length-flat_map-take}
use Rattle.thread_runs.proofs.Places.{get_any}
use Rattle.thread_runs.proofs.run.put_together.Goals as goal

pub unreachable-requires : goal.unreachable-requires
unreachable-requires c =
    let full = c.in_default.ensures.full in
    let room = c.loop-i.invariant.1 in
    let there = ap length c.loop-i.invariant.0 in
    let own = c.loop-i.lines.ok.0 in
    let piece = ap length c.as_slice.ensures.value in
    let is = ap (λ v. length v.items) (c.index-rooms-i.is ∙ get_any c.args.rooms.now c.loop-i.i _ c.index-rooms-i.result c.loop-i-test.true) in
    let step = length-flat_map-take (λ v. v.items) c.args.rooms.now c.loop-i.i c.index-rooms-i.result c.loop-i-test.true in
    omega (arith, full, room, there, own, piece, is, step)
