-- What a leaf told after some of the changes, it told after any allowed step too.
use Rattle.std.proofs.Common.{◌≡◌, ℕ, suc, ◌-◌, ◌≤◌, List, ◌∷◌, length, sym, ap, ◌∙◌, inl, inr, ◌⊎◌, arith}
use Rattle.std.specs.Prelude.{drop}
use Rattle.std.specs.FinMap as map
use Rattle.lin_report.specs.Object.{map_object}
use Rattle.normal_traits.specs.World.{Change, World, held_after, first_changes}
use Rattle.ellen_tree_form.specs.Shape.{Shape}
use Rattle.ellen_tree_form.specs.Knowledge.{WasTold}
use Rattle.ellen_tree_form.proofs.Steps.Later.{Later}
use Rattle.ellen_tree_steps.proofs.Lists.FlagsLast.{leaf_later, told_later}

module _ (world after : World) (shape : Shape world) (l : Later world after) where
  -- the first changes are the same, and there are no fewer
  first_later : (count : ℕ) → count ≤ length world.changes → (after.changes ≡ world.changes) ⊎ ((change : Change) × (after.changes ≡ change ∷ world.changes)) → first_changes count after.changes ≡ first_changes count world.changes
  first_later count small (inl same) = ap (first_changes count) same
  first_later count small (inr more) =
      let one : length (more.0 ∷ world.changes) - count ≡ suc (length world.changes - count) = omega (arith, small) in
      ap (first_changes count) more.1 ∙ ap (λ n. drop n (more.0 ∷ world.changes)) one

  pub length_later : (after.changes ≡ world.changes) ⊎ ((change : Change) × (after.changes ≡ change ∷ world.changes)) → length world.changes ≤ length after.changes
  length_later (inl same) = omega (arith, ap length same)
  length_later (inr more) = omega (arith, ap length more.1)

  -- what a leaf told it told before
  pub was_told_later : (since key leaf : ℕ) → WasTold world since key leaf → WasTold after since key leaf
  was_told_later since key leaf t = record {
    is = leaf_later world after shape l leaf t.is;
    count = t.count;
    not_before = t.not_before;
    made = omega (arith, t.made, length_later l.changes);
    told = ap (λ (cs : List Change). map.get (held_after map_object cs) key) (first_later t.count t.made l.changes) ∙ t.told ∙ sym (told_later world after shape l key leaf t.is);
  }
