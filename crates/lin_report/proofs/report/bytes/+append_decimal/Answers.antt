use Rattle.std.proofs.Common.{arith}
use Rattle.lin_report.proofs.Rooms.{Appends-trans}
use Rattle.lin_report.proofs.Digits.{decimal_four, length_four}
use Rattle.lin_report.proofs.report.bytes.+append_decimal.Goals as goal

pub append_decimal-requires : goal.append_decimal-requires
append_decimal-requires t c = (omega arith, omega (arith, length_four c.args.number (omega arith) (omega arith)))

pub append_pair-requires-clause-room : goal.append_pair-requires-clause-room
append_pair-requires-clause-room t c = omega (arith, length_four c.args.number (omega arith) (omega arith))

pub append_pair-requires-else-number-lt10000-clause-room : goal.append_pair-requires-else-number-lt10000-clause-room
append_pair-requires-else-number-lt10000-clause-room t c = omega (arith, length_four c.args.number (omega arith) (omega arith))

pub returns-else-number-lt10000 : goal.returns-else-number-lt10000
returns-else-number-lt10000 t c =
    rw (decimal_four c.args.number (omega arith) (omega arith))
    (Appends-trans c.append_decimal.ensures (Appends-trans c.append_pair.ensures c.append_pair-else-number-lt10000.ensures))
