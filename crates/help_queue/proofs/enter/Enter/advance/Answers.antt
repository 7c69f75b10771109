use Rattle.std.proofs.Common.{sym, ◌∙◌}
use Rattle.help_queue.proofs.StepsThatEnd.{owner_fed}
use Rattle.help_queue.proofs.enter.Enter.advance.Goals as goal

pub invariant_of-self-then-is_completed : goal.invariant_of-self-then-is_completed
invariant_of-self-then-is_completed c =
    owner_fed c.self.inside.seat c.self.inside.seats c.self.inside.stage c.in-Gathers.gather c.take.new.self c.args.seen.before c.self.invariant c.in-Gathers.is (sym c.is_over.ensures ∙ c.if-is_over.false) c.take.ensures

pub invariant_of-self-in-Gathers : goal.invariant_of-self-in-Gathers
invariant_of-self-in-Gathers c =
    owner_fed c.self.inside.seat c.self.inside.seats c.self.inside.stage c.in-Gathers.gather c.take.new.self c.args.seen.before c.self.invariant c.in-Gathers.is (sym c.is_over.ensures ∙ c.if-is_over.false) c.take.ensures
