use Rattle.node_arena.proofs.Openings.{clients_open}
use Rattle.node_arena.proofs.opening.clients_open.Goals as goal

pub returns : goal.returns
returns c = clients_open
