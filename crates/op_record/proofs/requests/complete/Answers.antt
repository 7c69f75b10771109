use Rattle.op_record.proofs.OutcomesReadBack.{outcome_of-completed}
use Rattle.op_record.proofs.requests.complete.Goals as goal

pub returns-clause-tells : goal.returns-clause-tells
returns-clause-tells c = outcome_of-completed c.args.from c.args.outcome c.requires.fits
