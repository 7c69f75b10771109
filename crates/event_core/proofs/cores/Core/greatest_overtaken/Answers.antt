use Rattle.std.proofs.Common.{◌∙◌, ◌≤◌, sym, subst, ap}
use Rattle.overtaking_law.specs.Order.{AreOrdered}
use Rattle.overtaking_law.specs.Overtaking.{greatest_overtaken}
use Rattle.run_invariant.proofs.Kept.Induction.{runs_are_kept}
use Rattle.run_invariant.proofs.Kept.EveryRun.{queues_kept}
use Rattle.run_overtaking.specs.Accounts.{most_overtaken}
use Rattle.run_overtaking.proofs.EventLaws.{greatest_bounded}
use Rattle.run_overtaking.proofs.OrderLaws.{events_ordered}
use Rattle.event_core.proofs.cores.Core.greatest_overtaken.Goals as goal

pub greatest_overtaken-requires : goal.greatest_overtaken-requires
greatest_overtaken-requires g c =
    let form = g.C.Normalized.form in
    let laws = g.met.C.Normalized.laws in
    let run = c.self.invariant.run in
    subst AreOrdered (run.events_are ∙ sym c.as_slice.ensures.value) (events_ordered form c.self.inside.setup run.moves run.are (queues_kept form laws (runs_are_kept form laws) c.self.inside.setup run.moves run.are))

pub returns-clause-most : goal.returns-clause-most
returns-clause-most g c =
    let form = g.C.Normalized.form in
    let laws = g.met.C.Normalized.laws in
    let run = c.self.invariant.run in
    let most = greatest_bounded form c.self.inside.setup run.moves run.are (queues_kept form laws (runs_are_kept form laws) c.self.inside.setup run.moves run.are) in
    subst (λ v. c.greatest_overtaken.result ≤ most_overtaken v.setup.seats) c.self.view_is
    (subst (λ n. n ≤ most_overtaken c.self.inside.setup.seats) (sym (c.greatest_overtaken.ensures.greatest ∙ ap greatest_overtaken (c.as_slice.ensures.value ∙ sym run.events_are))) most)
