use Rattle.lin_report.proofs.LinePieces.{call_line-answered}
use Rattle.lin_report.proofs.Rooms.{Appends-trans}
use Rattle.lin_report.proofs.report.lines.append_receipt.Goals as goal

-- the pieces of the line, one after another
pub returns : goal.returns
returns c =
    rw call_line-answered (Appends-trans c.append_request.ensures (Appends-trans c.append_reply.ensures
    (Appends-trans c.append_number.ensures (Appends-trans c.append_number-2.ensures c.append_path.ensures))))
