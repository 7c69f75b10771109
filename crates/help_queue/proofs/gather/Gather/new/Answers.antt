use Rattle.help_queue.proofs.SeatsGathered.{gather_made}
use Rattle.help_queue.proofs.gather.Gather.new.Goals as goal

pub invariant_of-result : goal.invariant_of-result
invariant_of-result c = gather_made c.args.seats c.args.word c.first_out.result c.new.result.items c.requires c.first_out.ensures.first c.new.ensures
