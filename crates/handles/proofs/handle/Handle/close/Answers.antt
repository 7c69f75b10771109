use Rattle.std.proofs.Common.{subst}
use Rattle.std.proofs.lemmas.List.FromFn.{length-map-range_with_len}
use Rattle.move_orders.specs.SeatLines.{ops_of}
use Rattle.shared_memory.specs.Closing.{lines_in}
use Rattle.shared_memory.specs.Views.{Face}
use Rattle.thread_runs.specs.Whole.{IsRun}
use Rattle.handles.specs.Closing.{all_lines, files_in}
use Rattle.handles.proofs.Closed.{closes_are_runs}
use Rattle.handles.proofs.handle.Handle.close.Goals as goal

pub returns-clause-run : goal.returns-clause-run
returns-clause-run g c =
    subst (λ (f : Face g.row.C.Denot g.row.C-Search.Denot g.row.C-Wrap.Denot). IsRun g.C.Normalized.form f.view.machine.setup (files_in f.view) (all_lines f.view) c.close.result.ticks c.close.result.claimed) c.self.view_is
    (closes_are_runs g.C.Normalized.form _ _ _ c.close.ensures)

pub returns-clause-seats : goal.returns-clause-seats
returns-clause-seats g c = length-map-range_with_len (λ seat. ops_of (lines_in c.args.self.view seat)) 0 c.args.self.view.machine.setup.seats

pub returns-clause-headline : goal.returns-clause-headline
returns-clause-headline g c =
    c.threads_meet_headline.ensures _ _ _ _ _ (length-map-range_with_len (λ seat. ops_of (lines_in c.args.self.view seat)) 0 c.args.self.view.machine.setup.seats)
    (subst (λ (f : Face g.row.C.Denot g.row.C-Search.Denot g.row.C-Wrap.Denot). IsRun g.C.Normalized.form f.view.machine.setup (files_in f.view) (all_lines f.view) c.close.result.ticks c.close.result.claimed) c.self.view_is
    (closes_are_runs g.C.Normalized.form _ _ _ c.close.ensures))
