use Rattle.run_laws.proofs.MachinesKept.{numbers_count}
use Rattle.run_laws.proofs.seats.numbers_count.Goals as goal

pub returns : goal.returns
returns g c = numbers_count g.C.Normalized.form
