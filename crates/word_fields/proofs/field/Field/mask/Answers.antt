use Rattle.word_fields.proofs.MasksAndShifts.{ones_of}
use Rattle.std.proofs.Common.{arith}
use Rattle.word_fields.proofs.field.Field.mask.Goals as goal

pub returns : goal.returns
returns g c = ones_of g.row.WIDTH (omega arith)
