use Rattle.std.proofs.Common.{sym, subst}
use Rattle.shared_memory.specs.Closing.{IsWhole}
use Rattle.thread_laws.specs.Headline.{MeetsInSomeOrder}
use Rattle.thread_runs.specs.Whole.{IsRun}
use Rattle.handles.proofs.Wholes.{has_all, told}
use Rattle.handles.proofs.closing.close.Goals as goal

pub close-requires-clause-whole : goal.close-requires-clause-whole
close-requires-clause-whole g c κs within = subst IsWhole (sym c.gather-whole.ensures.view) (has_all c.args.shared c.args.handles.items c.requires.all).whole

pub returns-clause-run : goal.returns-clause-run
returns-clause-run g c =
    told c.args.shared c.args.handles.items _ (λ setup files lines. IsRun g.C.Normalized.form setup files lines c.close.result.ticks c.close.result.claimed) c.gather-whole.ensures.view c.requires.all c.close.ensures.run

pub returns-clause-headline : goal.returns-clause-headline
returns-clause-headline g c =
    told c.args.shared c.args.handles.items _ (λ setup files lines. MeetsInSomeOrder g.C.Normalized.form setup files lines c.close.result.ticks c.close.result.claimed) c.gather-whole.ensures.view c.requires.all c.close.ensures.headline
