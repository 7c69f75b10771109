use Rattle.refuted_forms.proofs.TailNotMoved.{no_laws_with_a_restart}
use Rattle.refuted_forms.proofs.restart_after_the_change.Goals as goal

pub returns : goal.returns
returns c = no_laws_with_a_restart
