use Rattle.std.proofs.Common.{◌+◌, length, refl, arith}
use Rattle.lin_report.specs.Calls.{report_of}
use Rattle.lin_report.proofs.Rooms.{Appends-trans}
use Rattle.lin_report.proofs.Summaries.{summary_pieces, summary_length}
use Rattle.lin_report.proofs.report.summary.append_summary.Goals as goal

pub append_counts-requires-clause-room : goal.append_counts-requires-clause-room
append_counts-requires-clause-room c =
    let report = report_of c.args.receipts.now c.args.pending.now in
    omega (arith, summary_length report c.args.overtaken (length report.receipts + length report.pending) _ _ c.requires.report refl c.count_fast-fast.ensures c.count_exhausted-exhausted.ensures)

pub append_overtaken-requires : goal.append_overtaken-requires
append_overtaken-requires c =
    let report = report_of c.args.receipts.now c.args.pending.now in
    omega (arith, summary_length report c.args.overtaken (length report.receipts + length report.pending) _ _ c.requires.report refl c.count_fast-fast.ensures c.count_exhausted-exhausted.ensures)

pub returns : goal.returns
returns c =
    let report = report_of c.args.receipts.now c.args.pending.now in
    rw (summary_pieces report c.args.overtaken _ _ _ refl c.count_fast-fast.ensures c.count_exhausted-exhausted.ensures)
    (Appends-trans c.append_counts.ensures c.append_overtaken.ensures)
