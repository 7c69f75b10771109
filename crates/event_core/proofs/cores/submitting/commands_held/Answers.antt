use Rattle.std.proofs.Common.{rules}
use Rattle.event_core.proofs.Submitting.{one_counted}
use Rattle.event_core.proofs.cores.submitting.commands_held.Goals as goal

pub loop-seat-preserved : goal.loop-seat-preserved
loop-seat-preserved g c = one_counted c.args.seats.now c.loop-seat.seat-index c.seat-item.result c.loop-seat.commands _ c.loop-seat.invariant (search rules) c.seat-item.is c.commands-commands.ensures.count c.commands-commands.ensures.few
