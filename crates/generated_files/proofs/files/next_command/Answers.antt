use Rattle.std.proofs.Common.{◌∙◌, ap}
use Rattle.generated_files.specs.Numbers.{next_number}
use Rattle.generated_files.proofs.Numbering.{shows_three, three}
use Rattle.generated_files.proofs.Moved.{of_draws}
use Rattle.generated_files.proofs.files.next_command.Goals as goal

pub returns-clause-command : goal.returns-clause-command
returns-clause-command c =
    let t = shows_three _ _ _ _ c.draw-kind.ensures.next c.draw-second.ensures.next c.draw-third.ensures.next in
    c.command.ensures ∙ of_draws c.args.client (c.draw-kind.ensures.shows ∙ t.0) (c.draw-second.ensures.shows ∙ t.1) (c.draw-third.ensures.shows ∙ t.2)

pub returns-clause-drawn : goal.returns-clause-drawn
returns-clause-drawn c = c.draw-third.ensures.next ∙ (ap next_number (c.draw-second.ensures.next ∙ ap next_number c.draw-kind.ensures.next) ∙ three _)
