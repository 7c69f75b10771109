use Rattle.std.proofs.Common.{sym, arith, rules}
use Rattle.script_reader.proofs.Digits.{value_more, too_great}
use Rattle.script_reader.proofs.numbers.number_up_to.Goals as goal

pub returns-then-number-from : goal.returns-then-number-from
returns-then-number-from c =
    sym (too_great c.args.most c.args.word.now (omega (arith, value_more c.args.word.now c.loop-byte.byte-index (search rules) (omega arith))))
