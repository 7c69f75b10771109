use Rattle.std.proofs.Common.{List, ℕ, Err, sym, ap, ◌∙◌, subst}
use Rattle.script_reader.specs.Outcomes.{ReadsAs}
use Rattle.report_check.specs.declared.orders.Named.{Named}
use Rattle.report_check.specs.Orders.{order_outcome}
use Rattle.checking.specs.Reading.{StopsAtOrder}
use Rattle.checking.specs.Words.{said}
use Rattle.checking.proofs.ReadFiles.{names_there, order_stops}
use Rattle.checking.proofs.reading.names_in.Goals as goal

pub returns-in-Ok-clause-there : goal.returns-in-Ok-clause-there
returns-in-Ok-clause-there g c =
    names_there (g.F.Files.tells c.args.files.now) (g.F.Files.held c.args.files.now) (said c.args.check.now) c.in_ok-bytes.bytes.items c.in-Ok.names.items c.in_ok-bytes.ensures.bytes
    (ap order_outcome (sym c.deref.ensures.value) ∙ c.in-Ok.ensures.outcome)

pub returns-clause-stops : goal.returns-clause-stops
returns-clause-stops g c =
    let check = said c.args.check.now in
    let tells = g.F.Files.tells c.args.files.now in
    let held = g.F.Files.held c.args.files.now in
    subst (StopsAtOrder tells held check) (sym c.from.ensures)
    (order_stops tells held check c.in_ok-bytes.bytes.items c.in-Err.fault c.in_ok-bytes.ensures.bytes
    (subst (λ (b : List ℕ). ReadsAs {X = Named} (Err c.in-Err.fault) (order_outcome b)) c.deref.ensures.value c.in-Err.ensures.outcome))
