use Rattle.std.proofs.Common.{sym, subst}
use Rattle.shared_memory.specs.Closing.{IsWhole}
use Rattle.thread_tests.proofs.Wholes.{whole_of_two}
use Rattle.thread_tests.proofs.ports.close_two.Goals as goal

pub close-requires-clause-whole : goal.close-requires-clause-whole
close-requires-clause-whole c κs = subst IsWhole (sym c.gather.ensures.view) (whole_of_two c.args.first.view c.args.second.view c.requires.root c.requires.seat)
