use Rattle.lin_report.specs.Object.{object_of}
use Rattle.lin_report.proofs.Sequences.{object_answers}
use Rattle.placing_law.proofs.Placed.CallOrder.{placed_is_linearizable}
use Rattle.placing_law.proofs.laws.placed_is_linearizable.Goals as goal

pub returns : goal.returns
returns c client files report history count_at is placed = placed_is_linearizable (object_of client) (object_answers client) files report history count_at is placed
