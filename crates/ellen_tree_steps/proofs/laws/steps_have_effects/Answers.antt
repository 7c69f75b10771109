use Rattle.ellen_tree_steps.proofs.Steps.{effect_of}
use Rattle.ellen_tree_steps.proofs.laws.steps_have_effects.Goals as goal

pub returns : goal.returns
returns c = λ world after shape step. effect_of world after shape step
