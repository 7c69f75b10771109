use Rattle.refuted_forms.proofs.TailNotMoved.{no_laws_without_a_look}
use Rattle.refuted_forms.proofs.empty_without_a_look.Goals as goal

pub returns : goal.returns
returns c = no_laws_without_a_look
