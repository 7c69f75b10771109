use Rattle.std.proofs.Common.{All}
use Rattle.script_reader.proofs.Outcomes.{answered, counted}
use Rattle.report_check.specs.Orders.{NAME_LIMIT, IsName, order_outcome}
use Rattle.report_check.proofs.JudgedOrders.NamesRead.{order_lines, order_names}
use Rattle.report_check.proofs.orders.read_order.Goals as goal

pub returns-clause-outcome : goal.returns-clause-outcome
unfolding order_outcome
returns-clause-outcome c = c.read_file.ensures

pub returns-clause-lines : goal.returns-clause-lines
returns-clause-lines c = order_lines c.args.bytes.now

pub returns-clause-names : goal.returns-clause-names
unfolding order_outcome
returns-clause-names c =
    answered (All IsName) c.read_file.result (order_outcome c.args.bytes.now) (λ names e. (order_names c.args.bytes.now names e).0) c.read_file.ensures

pub returns-clause-count : goal.returns-clause-count
unfolding order_outcome
returns-clause-count c =
    counted NAME_LIMIT c.read_file.result (order_outcome c.args.bytes.now) (λ names e. (order_names c.args.bytes.now names e).1) c.read_file.ensures
