use Rattle.std.proofs.Common.{arith, ◌∙◌, ap, sym}
use Rattle.event_core.proofs.Renewals.{all_renewed, next_renewed}
use Rattle.event_core.proofs.resets.renew_seats.Goals as goal

pub loop-number-preserved : goal.loop-number-preserved
loop-number-preserved g c =
    next_renewed c.args.setup c.args.seats.now c.loop-number.seats c.loop-number.number c.index-seats-number.result c.renew.new.self c.loop-number.invariant (omega (arith, c.requires.seats, c.loop-number-test.true)) c.index-seats-number.is c.renew.ensures.mech (c.renew.ensures.file ∙ ap (λ seat. seat.file) (sym c.index-seats-number.is))

pub returns : goal.returns
returns g c = record { seats = c.loop-number.invariant ∙ all_renewed c.args.setup 0 c.loop-number.number c.args.seats.now (omega (arith, c.requires.seats, c.loop-number-test.false)) }
