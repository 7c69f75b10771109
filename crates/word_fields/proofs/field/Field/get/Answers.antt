use Rattle.word_fields.proofs.MasksAndShifts.{and_mask_reads}
use Rattle.word_fields.proofs.field.Field.get.Goals as goal

pub returns-clause-value : goal.returns-clause-value
returns-clause-value g c = and_mask_reads g.row.AT g.row.WIDTH c.args.word c.mask.result c.mask.ensures
