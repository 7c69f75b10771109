use Rattle.run_laws.proofs.MachinesKept.{seats_stay}
use Rattle.run_laws.proofs.seats.seats_stay.Goals as goal

pub returns : goal.returns
returns g c = seats_stay g.C.Normalized.form
