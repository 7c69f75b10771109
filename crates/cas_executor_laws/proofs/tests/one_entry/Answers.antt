use Rattle.std.proofs.Common.{◌∙◌, ap, [], ◌∷◌, ◌++◌}
use Rattle.cas_executor_laws.proofs.Openings.{one_opens}
use Rattle.cas_executor_laws.proofs.tests.one_entry.Goals as goal

pub new-requires : goal.new-requires
new-requires c =
    one_opens _ _ (c.push.ensures.items ∙ ap (λ l. l ++ (c.entry.result ∷ [])) c.new-list.ensures ∙ ap (λ e. e ∷ []) c.entry.ensures) c.in_ok-zeros.ensures
