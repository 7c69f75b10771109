use Rattle.event_core.proofs.HeldRuns.{deeds_hold, submit_holds}
use Rattle.event_core.proofs.submissions.holds_run.Goals as goal

pub returns-clause-submit : goal.returns-clause-submit
returns-clause-submit g c = submit_holds g.C.Normalized.form

pub returns-clause-deeds : goal.returns-clause-deeds
returns-clause-deeds g c = deeds_hold g.C.Normalized.form
