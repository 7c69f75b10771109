use Rattle.std.proofs.Common.{sym, ◌∙◌, arith}
use Rattle.help_queue.proofs.SeatsGathered.{passed_more}
use Rattle.help_queue.proofs.gather.first_out.Goals as goal

pub loop-seat-preserved : goal.loop-seat-preserved
loop-seat-preserved c =
    passed_more c.args.word c.args.at c.loop-seat.seat c.args.seats c.loop-seat.invariant c.loop-seat-test.true
    (sym (c.members-held.ensures c.loop-seat.seat (omega (arith, c.loop-seat-test.true, c.requires.few))) ∙ c.if-not-held-seat.false)
