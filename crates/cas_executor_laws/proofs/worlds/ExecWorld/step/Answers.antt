use Rattle.std.proofs.Common.{◌∙◌, ap}
use Rattle.cas_executor_laws.specs.ExecRuns.{acted, execution_of}
use Rattle.cas_executor_laws.specs.ExecRuns.Act.{Steps}
use Rattle.cas_executor_laws.proofs.WorldSteps.{act_done, can_inside, execution_is, stepped_is}
use Rattle.cas_executor_laws.proofs.worlds.ExecWorld.step.Goals as goal

pub returns-clause-state : goal.returns-clause-state
returns-clause-state c =
    stepped_is c.self.inside.list.items c.self.inside.cells _ c.self.inside.helpers.items c.deref_mut.result.now c.args.helper c.index-deref_mut-helper.result _
    (can_inside _ _ _ _ _ _ c.self.view_is c.requires.here) c.deref_mut.ensures.value c.step.ensures.words c.step.ensures.helper
    ∙ ap (acted (Steps c.args.helper)) c.self.view_is

pub returns-clause-execution : goal.returns-clause-execution
returns-clause-execution c =
    execution_is c.self.inside.list.items c.self.inside.cells c.step.new.cells c.self.inside.helpers.items c.deref_mut.result.now c.args.helper c.index-deref_mut-helper.result c.step.new.self
    (can_inside _ _ _ _ _ _ c.self.view_is c.requires.here) c.deref_mut.ensures.value _ c.step.ensures.execution
    ∙ ap (execution_of c.args.helper) c.self.view_is

pub returns-clause-world : goal.returns-clause-world
returns-clause-world c = act_done (Steps c.args.helper) _ _ c.requires (returns-clause-state c)
