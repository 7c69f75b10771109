use Rattle.std.proofs.Common.{◌∙◌, ap, [], ◌∷◌, ◌++◌}
use Rattle.cas_executor_laws.proofs.Openings.{changes_zero, two_open}
use Rattle.cas_executor_laws.proofs.tests.two_entries.Goals as goal

pub new-requires : goal.new-requires
new-requires c =
    two_open _ _
    (c.push-2.ensures.items
    ∙ ap (λ l. l ++ (c.entry-2.result ∷ [])) (c.push.ensures.items ∙ ap (λ l. l ++ (c.entry.result ∷ [])) c.new-list.ensures ∙ ap (λ e. e ∷ []) c.entry.ensures)
    ∙ ap (λ e. changes_zero 46 ∷ e ∷ []) c.entry-2.ensures)
    c.in_ok-zeros.ensures
