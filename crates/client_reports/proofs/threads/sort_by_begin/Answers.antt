use Rattle.std.proofs.Common.{rules}
use Rattle.std.proofs.lemmas.List.Sorted.{IsNonDecreasingBy-from_sort_by_key}
use Rattle.client_reports.proofs.threads.sort_by_begin.Goals as goal

pub returns-in_default-clause-order : goal.returns-in_default-clause-order
returns-in_default-clause-order c = IsNonDecreasingBy-from_sort_by_key (λ line. line.begin) _ c.sort_unstable_by_key.ensures.sorted (λ a r q k. search rules)

pub returns-clause-order : goal.returns-clause-order
returns-clause-order c = IsNonDecreasingBy-from_sort_by_key (λ line. line.begin) _ c.in-Ok.ensures.sorted (λ a r q k. search rules)
