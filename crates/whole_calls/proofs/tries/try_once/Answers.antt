use Rattle.whole_calls.proofs.Parts.{fails, readies}
use Rattle.whole_calls.proofs.tries.try_once.Goals as goal

pub go_on-requires-clause-after : goal.go_on-requires-clause-after
go_on-requires-clause-after g c κs within = readies g.C.Normalized.form _ _ c.args.call.now _ _ _ c.requires.begins c.search-search.ensures.machine c.in-Ready.is

pub fail-requires-clause-after : goal.fail-requires-clause-after
fail-requires-clause-after g c κs within = fails g.C.Normalized.form _ _ c.args.call.now _ _ _ c.requires.begins c.search-search.ensures.machine c.in-Contended.is
