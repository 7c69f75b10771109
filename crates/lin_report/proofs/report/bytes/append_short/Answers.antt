use Rattle.std.proofs.Common.{arith}
use Rattle.lin_report.proofs.Rooms.{Appends-trans}
use Rattle.lin_report.proofs.Digits.{decimal_pair, length_pair}
use Rattle.lin_report.proofs.report.bytes.append_short.Goals as goal

pub append_first-requires-else-number-lt100-clause-room : goal.append_first-requires-else-number-lt100-clause-room
append_first-requires-else-number-lt100-clause-room c = omega (arith, length_pair c.args.number (omega arith) (omega arith))

pub append_pair-requires-clause-room : goal.append_pair-requires-clause-room
append_pair-requires-clause-room c = omega (arith, length_pair c.args.number (omega arith) (omega arith))

pub returns-else-number-lt100 : goal.returns-else-number-lt100
returns-else-number-lt100 c =
    rw (decimal_pair c.args.number (omega arith) (omega arith)) (Appends-trans c.append_first-else-number-lt100.ensures c.append_pair.ensures)
