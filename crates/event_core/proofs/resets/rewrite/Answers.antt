use Rattle.std.proofs.Common.{rules, arith, refl}
use Rattle.event_core.proofs.Renewals.{one_written}
use Rattle.event_core.proofs.resets.rewrite.Goals as goal

pub loop-at-init : goal.loop-at-init
loop-at-init c = record { count = refl; each = λ place below. absurd (omega (arith, below)) }

pub loop-at-preserved : goal.loop-at-preserved
loop-at-preserved c = one_written c.args.words.now c.args.cells.now c.loop-at.cells c.apply.new.self c.loop-at.at _ (search rules) c.word_at-value.ensures c.apply.ensures.changes c.loop-at.invariant
