use Rattle.std.proofs.Common.{◌≡◌, ℕ, ◌<◌, slice_get, Some}
use Rattle.normal_traits.specs.declared.lists.Entry.{Entry}
use Rattle.cas_executor_laws.proofs.worlds.is_target.Given as goal

abbrev pub invariant-loop-entry : goal.invariant-loop-entry
invariant-loop-entry l = (j : ℕ) (entry : Entry) → j < l.entry-index → slice_get l.list.items j ≡ Some entry → entry.target ≡ l.at → ⊥
