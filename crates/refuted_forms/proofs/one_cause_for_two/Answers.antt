use Rattle.refuted_forms.proofs.TailNotMoved.{no_laws_with_one_cause}
use Rattle.refuted_forms.proofs.one_cause_for_two.Goals as goal

pub returns : goal.returns
returns c = no_laws_with_one_cause
