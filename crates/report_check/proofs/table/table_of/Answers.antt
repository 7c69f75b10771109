use Rattle.std.proofs.Common.{[], map}
use Rattle.lin_report.specs.Calls.{Call, answered_call, pending_call, IsSameCall}
use Rattle.report_check.specs.Orders.{IsName}
use Rattle.report_check.specs.Verdicts.{name_of}
use Rattle.report_check.proofs.Pairs.{all_front, all_back, all_mapped, pairs_front}
use Rattle.report_check.proofs.CallsRead.Tables.{none_stand}
use Rattle.report_check.proofs.table.table_of.Goals as goal

abbrev HasName : Call → Type 0
HasName c = IsName (name_of c)

pub put_answered-requires-clause-names : goal.put_answered-requires-clause-names
put_answered-requires-clause-names c =
    all_mapped answered_call HasName c.args.receipts.now
    (all_front HasName (map answered_call c.args.receipts.now) (map pending_call c.args.pending.now) c.requires.names)

pub put_pending-requires-clause-names : goal.put_pending-requires-clause-names
put_pending-requires-clause-names c =
    all_mapped pending_call HasName c.args.pending.now
    (all_back HasName (map answered_call c.args.receipts.now) (map pending_call c.args.pending.now) c.requires.names)

pub returns : goal.returns
returns c =
    let answered = map answered_call c.args.receipts.now in
    let apart = pairs_front (λ (a b : Call). ¬ IsSameCall a b) answered (map pending_call c.args.pending.now) c.requires.once in
    c.put_pending.ensures.stand answered (c.put_answered.ensures.stand [] (none_stand c.in_ok-table.table.items c.in_ok-table.ensures.long c.in_ok-table.ensures.empty) apart) c.requires.once
