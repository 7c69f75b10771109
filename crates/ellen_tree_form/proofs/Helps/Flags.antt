-- What a ready removal has learnt, at the moment when its flag is set: what is so from then on of its list.
use Rattle.std.proofs.Common.{◌≡◌, ℕ, ◌%◌, ◌<◌, true, refl, sym, ap, subst, ◌∙◌, inl, inr, ◌⊎◌, arith}
use Rattle.std.proofs.lemmas.Bool.{eq-eqb}
use Rattle.word_fields.specs.Versioned.{versioned_value, versioned_version}
use Rattle.lin_report.specs.declared.calls.Op.{Op}
use Rattle.normal_traits.specs.World.{World}
use Rattle.tree_help.specs.declared.states.TheConstants.{CLEAN}
use Rattle.tree_help.specs.Updates.{state_of, inner}
use Rattle.ellen_tree_form.specs.Words.{is_internal, child_at, update_at, leaf_key_at}
use Rattle.ellen_tree_form.specs.declared.states.Passed.{Passed}
use Rattle.ellen_tree_form.specs.Search.{leaf_of}
use Rattle.ellen_tree_form.specs.declared.states.TreeSearch.TheVariants.{SetReady, RemReady}
use Rattle.ellen_tree_form.specs.Shape.{IsLeaf, child_of, way, OnWay}
use Rattle.ellen_tree_form.specs.Knowledge.{Knows, Reaches, HasPassed, HasLeaf, IsClear}
use Rattle.ellen_tree_form.specs.Knowledge.Reaches.{on, off, told}

inner_same : (a b : ℕ) → inner a ≡ inner b → a ≡ b
inner_same a b e = omega (arith, e)

-- the way comes to a node that was passed where its update word is still clean: it isn't marked
pub still_on : (world : World) (since key node : ℕ) (reference : ℕ) → reference ≡ inner node → state_of (world.words (update_at node)) ≡ CLEAN → Reaches world since key reference → OnWay world.words key node
still_on world since key node reference e clean (on other named w) = subst (OnWay world.words key) (inner_same other node (sym named ∙ e)) w
still_on world since key node reference e clean (off other named is mark rest) = absurd (omega (arith, clean, mark, ap (λ n. state_of (world.words (update_at n))) (inner_same other node (sym named ∙ e))))
still_on world since key node reference e clean (told leaf t) =
    let is : is_internal reference ≡ true = eq-eqb (reference % 4) 2 (omega (arith, e)) in absurd cc

-- of a node that was passed and may be flagged: while its update word stands, so does its child, on the key's way
pub record Stands (world : World) (key : ℕ) (passed : Passed) : Type 0 where
  pub reached : OnWay world.words key passed.node
  pub child : world.words (child_at passed.node passed.left) ≡ passed.child

pub stands : (world : World) (since key : ℕ) (passed : Passed) → HasPassed world since key passed → IsClear passed → world.words (update_at passed.node) ≡ passed.update → Stands world key passed
stands world since key passed has clear here = record {
  reached = still_on world since key passed.node (inner passed.node) refl (ap state_of here ∙ clear.clean) has.reaches;
  child = has.same clear.clear clear.clean here;
}

-- the leaf of the key is still below the node that is to go
pub record LeafBelow (world : World) (key : ℕ) (last : Passed) : Type 0 where
  pub leaf : IsLeaf world.changes (way world.words key last.node)
  pub key_is : world.words (leaf_key_at (way world.words key last.node)) ≡ key

-- where the flag of a removal is set: the node above stands; and the node below stands with the key's leaf, or can't be marked any more
pub rem_flags : (world : World) (since : ℕ) (op : Op) (above last : Passed) → Knows (RemReady above last) op world since → world.words (update_at above.node) ≡ above.update
    → Stands world op.key above × ((Stands world op.key last × LeafBelow world op.key last) ⊎ (versioned_version last.update < versioned_version (world.words (update_at last.node))))
rem_flags world since op above last knows here = (stands world since op.key above knows.learnt.2.0 clear_above here, by_seen (leaf'.passed.seen clear_last.clear))
  where
    leaf' : HasLeaf world since op.key last
    leaf' = knows.learnt.0

    clear_above : IsClear above
    clear_above = knows.learnt.3

    clear_last : IsClear last
    clear_last = knows.learnt.4

    by_seen : (world.words (update_at last.node) ≡ last.update) ⊎ (versioned_version last.update < versioned_version (world.words (update_at last.node)))
        → (Stands world op.key last × LeafBelow world op.key last) ⊎ (versioned_version last.update < versioned_version (world.words (update_at last.node)))
    by_seen (inr passed) = inr passed
    by_seen (inl same) =
        let s = stands world since op.key last leaf'.passed clear_last same in
        let to_leaf : leaf_of last ≡ way world.words op.key last.node = ap versioned_value (sym s.child) ∙ ap (λ b. child_of world.words last.node b) leaf'.passed.side in
        inl (s, record { leaf = subst (IsLeaf world.changes) to_leaf leaf'.told.is; key_is = ap (λ l. world.words (leaf_key_at l)) (sym to_leaf) ∙ knows.learnt.5 })

-- and where that of an insertion is set
pub set_flags : (world : World) (since key value : ℕ) (op : Op) (last : Passed) → Knows (SetReady last key value) op world since → world.words (update_at last.node) ≡ last.update → Stands world op.key last
set_flags world since key value op last knows here = stands world since op.key last knows.learnt.0.passed knows.learnt.2 here
