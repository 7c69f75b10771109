use Rattle.std.proofs.Common.{List, ℕ, sym, subst}
use Rattle.lin_report.specs.Calls.{report_of}
use Rattle.report_check.specs.Reports.{IsNoReport, IsTextOf}
use Rattle.checking.specs.Reading.{StopsAtReport}
use Rattle.checking.specs.Words.{said}
use Rattle.checking.proofs.ReadFiles.{report_stops, report_there}
use Rattle.checking.proofs.reading.report_in.Goals as goal

pub returns-in-Ok-clause-there : goal.returns-in-Ok-clause-there
returns-in-Ok-clause-there g c =
    let check = said c.args.check.now in
    let report = report_of c.in-Ok.report.receipts.items c.in-Ok.report.pending.items in
    report_there (g.F.Files.tells c.args.files.now) (g.F.Files.held c.args.files.now) check c.in_ok-bytes.bytes.items report c.in_ok-bytes.ensures.bytes
    (subst (λ (b : List ℕ). IsTextOf check.client b report) c.deref.ensures.value c.in-Ok.ensures.read)

pub returns-clause-stops : goal.returns-clause-stops
returns-clause-stops g c =
    let check = said c.args.check.now in
    let tells = g.F.Files.tells c.args.files.now in
    let held = g.F.Files.held c.args.files.now in
    subst (StopsAtReport tells held check) (sym c.from.ensures)
    (report_stops tells held check c.in_ok-bytes.bytes.items c.in-Err.fault c.in_ok-bytes.ensures.bytes
    (subst (λ (b : List ℕ). IsNoReport check.client b c.in-Err.fault) c.deref.ensures.value c.in-Err.ensures.refused))
