use Rattle.word_fields.proofs.MasksAndShifts.{put_bits, read_back, other_field}
use Rattle.std.proofs.Common.{◌∙◌, ap, arith}
use Rattle.word_fields.specs.Fields.{field_of}
use Rattle.word_fields.proofs.field.Field.put.Goals as goal

pub returns-clause-exact : goal.returns-clause-exact
returns-clause-exact g c =
    put_bits g.row.AT g.row.WIDTH c.args.word c.args.value c.mask.result c.mask.ensures (omega arith) (omega arith) (omega arith)

pub returns-clause-read_back : goal.returns-clause-read_back
returns-clause-read_back g c =
    ap (field_of g.row.AT g.row.WIDTH) (returns-clause-exact g c)
    ∙ read_back g.row.AT g.row.WIDTH c.args.word c.args.value (omega arith)

pub returns-clause-others_stay : goal.returns-clause-others_stay
returns-clause-others_stay g c at width apart =
    ap (field_of at width) (returns-clause-exact g c)
    ∙ other_field g.row.AT g.row.WIDTH c.args.word c.args.value at width (omega arith) apart
