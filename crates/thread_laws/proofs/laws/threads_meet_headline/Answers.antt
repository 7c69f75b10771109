use Rattle.thread_laws.proofs.ThreadsRunFiles.{threads_meet_headline}
use Rattle.thread_laws.proofs.laws.threads_meet_headline.Goals as goal

pub returns : goal.returns
returns g c = threads_meet_headline g.C.Normalized.form g.met.C.Normalized.laws
