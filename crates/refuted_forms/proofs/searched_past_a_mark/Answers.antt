use Rattle.refuted_forms.proofs.SetBitsAndMarks.{no_laws_past_a_mark}
use Rattle.refuted_forms.proofs.searched_past_a_mark.Goals as goal

pub returns : goal.returns
returns c = no_laws_past_a_mark
