use Rattle.refuted_forms.proofs.SetBitsAndMarks.{no_laws_from_a_set_bit}
use Rattle.refuted_forms.proofs.offered_from_a_set_bit.Goals as goal

pub returns : goal.returns
returns c = no_laws_from_a_set_bit
