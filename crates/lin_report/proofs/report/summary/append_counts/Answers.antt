use Rattle.lin_report.proofs.Rooms.{Appends-trans}
use Rattle.lin_report.proofs.Summaries.{spaced-count_words}
use Rattle.lin_report.proofs.report.summary.append_counts.Goals as goal

-- the pieces of the line, one after another
pub returns : goal.returns
returns c =
    rw spaced-count_words (Appends-trans c.append.ensures (Appends-trans c.append_number.ensures (Appends-trans c.append_named.ensures
    (Appends-trans c.append_named-2.ensures (Appends-trans c.append_named-3.ensures c.append_named-4.ensures)))))
