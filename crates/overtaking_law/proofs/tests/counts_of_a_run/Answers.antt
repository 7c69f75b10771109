use Rattle.std.proofs.Common.{refl}
use Rattle.overtaking_law.proofs.EventsOrdered.{ordered_by_test}
use Rattle.overtaking_law.proofs.tests.counts_of_a_run.Goals as goal

pub greatest_overtaken-requires : goal.greatest_overtaken-requires
greatest_overtaken-requires g c = ordered_by_test _ refl

pub greatest_overtaken-requires-2 : goal.greatest_overtaken-requires-2
greatest_overtaken-requires-2 g c = ordered_by_test _ refl
