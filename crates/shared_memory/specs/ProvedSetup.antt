-- A setup for a view that nobody looks at.
use Rattle.std.proofs.Common.{arith}
use Rattle.fast_slow_engine.specs.declared.setup.Setup.{Setup}

pub one_seat : Setup
one_seat = record { seats = 1; cap = 1; limit = 0; some_seat = omega arith; few_seats = omega arith; some_block = omega arith; few_blocks = omega arith; few_failures = omega arith }
