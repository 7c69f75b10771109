use Rattle.std.proofs.Common.{◌∙◌, ap, List, ℕ}
use Rattle.cas_executor_laws.specs.ExecRuns.{ExecState, acted}
use Rattle.cas_executor_laws.specs.ExecRuns.Act.{Changes}
use Rattle.cas_executor_laws.proofs.WorldSteps.{act_done}
use Rattle.cas_executor_laws.proofs.worlds.ExecWorld.foreign.Goals as goal

pub returns-clause-state : goal.returns-clause-state
returns-clause-state c =
    ap (λ (words : List ℕ). (let state : ExecState = record { entries = c.self.inside.list.items; words = words; helpers = c.self.inside.helpers.items } in state)) c.change.ensures
    ∙ ap (acted (Changes c.args.at c.args.value)) c.self.view_is

pub returns-clause-world : goal.returns-clause-world
returns-clause-world c = act_done (Changes c.args.at c.args.value) _ _ c.requires (returns-clause-state c)
