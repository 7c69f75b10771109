use Rattle.std.proofs.Common.{sym, ◌∙◌}
use Rattle.help_queue.proofs.StepsThatEnd.{removal_fed}
use Rattle.help_queue.proofs.remove.Remove.advance.Goals as goal

pub invariant_of-self-else-is_over : goal.invariant_of-self-else-is_over
invariant_of-self-else-is_over c =
    removal_fed c.self.inside.seat c.self.inside.number c.self.inside.seats c.self.inside.stage c.in-Gathers.gather c.take.new.self c.args.seen.before c.self.invariant c.in-Gathers.is (sym c.is_over.ensures ∙ c.if-is_over.false) c.take.ensures
