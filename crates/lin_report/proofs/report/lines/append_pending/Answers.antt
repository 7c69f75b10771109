use Rattle.lin_report.proofs.LinePieces.{call_line-pending}
use Rattle.lin_report.proofs.Rooms.{Appends-trans}
use Rattle.lin_report.proofs.report.lines.append_pending.Goals as goal

-- the pieces of the line, one after another
pub returns : goal.returns
returns c =
    rw call_line-pending (Appends-trans c.append_request.ensures (Appends-trans c.append_word.ensures
    (Appends-trans c.append_number.ensures (Appends-trans c.append_word-2.ensures c.append_path.ensures))))
