use Rattle.std.proofs.Common.{◌∙◌, ap, refl}
use Rattle.fast_slow_engine.specs.PhaseTable.{mech_fed}
use Rattle.shared_memory.proofs.port.Shared.store.Goals as goal

pub returns-clause-machine : goal.returns-clause-machine
returns-clause-machine g c = (
  c.step_as.result.won,
  ap (λ v. v.machine) c.step_as.ensures.view ∙ ap (λ n. mech_fed g.C.Normalized.form c.args.port.now.view.machine (record { before = n; won = c.step_as.result.won })) (c.step_as.ensures.stored _ _ refl),
)
