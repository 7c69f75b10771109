use Rattle.flagged_register_form.proofs.Whole.{flagged_laws}
use Rattle.flagged_register_form.proofs.every_law.Goals as goal

pub returns : goal.returns
returns c = flagged_laws
