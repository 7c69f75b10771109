use Rattle.std.proofs.Common.{eqb, arith}
use Rattle.std.proofs.lemmas.List.{take_rest}
use Rattle.report_check.proofs.LineTexts.LineFields.{cut_is}
use Rattle.report_check.proofs.fields.cut_at.Goals as goal

pub returns-in-len1-up : goal.returns-in-len1-up
returns-in-len1-up c =
    let rest = c.split_at.result.1.now in
    cut_is (λ b. eqb b c.args.mark) c.args.bytes.now c.split_at.result.0.now rest _ c.len_before.result c.len_before.ensures.len c.split_at.ensures.front c.split_at.ensures.back (take_rest rest 1) (omega arith)
