-- A search at a leaf: what it goes on to, by its operation and the leaf's key.
use Rattle.std.proofs.Common.{◌≡◌, ◌≢◌, ℕ, ◌≤◌, Bool, true, false, not, ◌||◌, ◌&&◌, length, Option, refl, sym, ◌∙◌, inl, inr, arith}
use Rattle.std.specs.Prelude.{◌==◌, if◌then◌else◌, Some, None}
use Rattle.std.proofs.lemmas.Bool.{eqb-true, eq-eqb, and_parts, true≢false}
use Rattle.word_fields.specs.Versioned.{versioned_bit, is_modified}
use Rattle.word_fields.proofs.ChangedWords.{bit_below}
use Rattle.lin_report.specs.declared.calls.Op.{Op}
use Rattle.lin_report.specs.Object.{IsCommandOf, map_object}
use Rattle.normal_traits.specs.declared.form.Found.{Found}
use Rattle.normal_traits.specs.declared.form.Found.TheVariants as found
use Rattle.normal_traits.specs.World.{World}
use Rattle.normal_traits.specs.Laws.{FoundWell}
use Rattle.tree_help.specs.declared.states.TheConstants.{CLEAN, MARKED}
use Rattle.tree_help.specs.Updates.{state_of, is_clean}
use Rattle.ellen_tree_form.specs.declared.states.TreeSearch.{TreeSearch}
use Rattle.ellen_tree_form.specs.declared.states.TreeSearch.TheVariants.{AtLeaf, Again, AtValue, RemReady}
use Rattle.ellen_tree_form.specs.declared.states.Passed.{Passed}
use Rattle.ellen_tree_form.specs.Words.{update_at, leaf_key_at, is_set, is_rem}
use Rattle.ellen_tree_form.specs.Search.{leaf_of, helped, set_at, rem_at, met_leaf, met_again, told, InRange, AboveInRange}
use Rattle.ellen_tree_form.specs.Shape.{Shape}
use Rattle.ellen_tree_form.specs.Knowledge.{Knows, Learnt, HasPassed, HasLeaf, CameFrom}
use Rattle.ellen_tree_form.specs.Form.{tree_form}
use Rattle.ellen_tree_search.proofs.Known.{help_fits, marked_now}
use Rattle.ellen_tree_search.proofs.Answers.{answers}

-- ---- tests

and_false : (a b : Bool) → (a && b) ≡ false → a ≡ true → b ≡ false
and_false true b e is = e
and_false false b e is = absurd cc

or_false : (a b : Bool) → (a || b) ≡ false → (a ≡ false) × (b ≡ false)
or_false true b e = absurd cc
or_false false b e = (refl, e)

not_false : (b : Bool) → not b ≡ false → b ≡ true
not_false true e = refl
not_false false e = absurd cc

not_true : (b : Bool) → not b ≡ true → b ≡ false
not_true true e = absurd cc
not_true false e = refl

unmodified : (word : ℕ) → is_modified word ≡ false → versioned_bit word ≡ 0
unmodified word e = omega (arith, bit_below word, one)
  where
    one : versioned_bit word ≢ 1
    one is = true≢false (sym (eq-eqb (versioned_bit word) 1 is) ∙ e)

-- a search of an operation that knows and can go on, after what it found
abbrev pub Fed : World → Op → ℕ → TreeSearch × Found → Type 0
Fed world op since p = Knows p.0 op world since × FoundWell tree_form world op since p.0 p.1

module _ (world : World) (shape : Shape world) (op : Op) (since : ℕ) (began : since ≤ length world.changes) where
  knows : (search : TreeSearch) → Learnt search op world since → Knows search op world since
  knows search learnt = record { began = began; learnt = learnt }

  -- an update word of a passed node that isn't clean is helped
  helped_well : (at : Passed) → HasPassed world since op.key at → versioned_bit at.update ≡ 0 → is_clean at.update ≡ false → Fed world op since (helped (update_at at.node) at.update)
  helped_well at has clear dirty = elim (has.known clear) [
    | inl clean ↦ absurd (true≢false (sym (eq-eqb (state_of at.update) CLEAN clean) ∙ dirty))
    | inr follows ↦ (knows _ follows, help_fits (record { place = update_at at.node; word = at.update }))
  ]

  module _ (above : Option Passed) (last : Passed) (came : CameFrom world since op.key above last.node) (leaf : HasLeaf world since op.key last) (asks : AboveInRange above × InRange last) where
    abbrev stay : TreeSearch
    stay = AtLeaf op above last

    abbrev key : ℕ
    key = world.words (leaf_key_at (leaf_of last))

    stays : Knows stay op world since
    stays = knows stay (refl, came, leaf)

    -- ---- a set of another key

    set_well : is_set op ≡ true → key ≢ op.key → Fed world op since (set_at stay last key)
    set_well set other = by_bit (is_modified last.update) refl
      where
        by_clean : versioned_bit last.update ≡ 0 → (b : Bool) → is_clean last.update ≡ b → let next : TreeSearch × Found = if b then (AtValue last key, found.Going) else helped (update_at last.node) last.update in Fed world op since next
        by_clean clear true clean = (knows (AtValue last key) (leaf, set, record { clean = eqb-true (state_of last.update) CLEAN clean; clear = clear }, refl, other), asks.1)
        by_clean clear false dirty = helped_well last leaf.passed clear dirty

        by_bit : (b : Bool) → is_modified last.update ≡ b
            → let next : TreeSearch × Found = if b then (stay, found.Contended) else (if is_clean last.update then (AtValue last key, found.Going) else helped (update_at last.node) last.update) in Fed world op since next
        by_bit true e = (stays, tt)
        by_bit false e = by_clean (unmodified last.update e) (is_clean last.update) refl

    -- ---- an observation

    again_well : (is : Bool) → (key == op.key) ≡ is → (is_set op ≡ true → is ≡ true) × (is_rem op ≡ true → is ≡ false) → Fed world op since (Again op last is, found.Going)
    again_well is e only = (knows (Again op last is) (refl, leaf, e, only), asks.1)

  -- ---- a removal of the leaf's key

  module _ (last : Passed) (leaf : HasLeaf world since op.key last) where
    rem_well : (above : Option Passed) → CameFrom world since op.key above last.node → AboveInRange above × InRange last → is_rem op ≡ true → world.words (leaf_key_at (leaf_of last)) ≡ op.key → Fed world op since (rem_at (AtLeaf op above last) above last)
    rem_well None came asks rem same = (knows (AtLeaf op None last) (refl, came, leaf), tt)
    rem_well (Some above) came asks rem same = by_bits (is_modified above.update || is_modified last.update) refl
      where
        by_lower : (versioned_bit above.update ≡ 0) × (versioned_bit last.update ≡ 0) → state_of above.update ≡ CLEAN → (b : Bool) → is_clean last.update ≡ b
            → let next : TreeSearch × Found = if not b then helped (update_at last.node) last.update else (RemReady above last, found.Ready) in Fed world op since next
        by_lower clear upper true clean =
            (knows (RemReady above last) (leaf, rem, came, record { clean = upper; clear = clear.0 }, record { clean = eqb-true (state_of last.update) CLEAN clean; clear = clear.1 }, same), (asks.0, asks.1))
        by_lower clear upper false dirty = helped_well last leaf.passed clear.1 dirty

        by_upper : (versioned_bit above.update ≡ 0) × (versioned_bit last.update ≡ 0) → (b : Bool) → is_clean above.update ≡ b
            → let next : TreeSearch × Found = if not b then helped (update_at above.node) above.update else (if not (is_clean last.update) then helped (update_at last.node) last.update else (RemReady above last, found.Ready)) in Fed world op since next
        by_upper clear true clean = by_lower clear (eqb-true (state_of above.update) CLEAN clean) (is_clean last.update) refl
        by_upper clear false dirty = helped_well above came.0 clear.0 dirty

        by_bits : (b : Bool) → (is_modified above.update || is_modified last.update) ≡ b
            → let next : TreeSearch × Found = if b then (AtLeaf op (Some above) last, found.Contended)
            else (if not (is_clean above.update) then helped (update_at above.node) above.update
            else (if not (is_clean last.update) then helped (update_at last.node) last.update else (RemReady above last, found.Ready))) in Fed world op since next
        by_bits true e = (knows (AtLeaf op (Some above) last) (refl, came, leaf), tt)
        by_bits false e =
            let none = or_false (is_modified above.update) (is_modified last.update) e in
            by_upper (unmodified above.update none.0, unmodified last.update none.1) (is_clean above.update) refl

  -- ---- the leaf's key was loaded

  pub leaf_fed : (above : Option Passed) (last : Passed) → CameFrom world since op.key above last.node → HasLeaf world since op.key last → AboveInRange above × InRange last
      → Fed world op since (met_leaf (AtLeaf op above last) op above last (world.words (leaf_key_at (leaf_of last))) (world.words (leaf_key_at (leaf_of last)) == op.key))
  leaf_fed above last came leaf asks = by_set (is_set op && not is) refl
    where
      is : Bool
      is = world.words (leaf_key_at (leaf_of last)) == op.key

      by_rem : (is_set op && not is) ≡ false → (b : Bool) → (is_rem op && is) ≡ b → let next : TreeSearch × Found = if b then rem_at (AtLeaf op above last) above last else (Again op last is, found.Going) in Fed world op since next
      by_rem no_set true rem = let parts = and_parts (is_rem op) is rem in rem_well last leaf above came asks parts.0 (eqb-true (world.words (leaf_key_at (leaf_of last))) op.key parts.1)
      by_rem no_set false no_rem = again_well above last came leaf asks is refl (λ set. not_false is (and_false (is_set op) (not is) no_set set), λ rem. and_false (is_rem op) is no_rem rem)

      by_set : (a : Bool) → (is_set op && not is) ≡ a
          → let next : TreeSearch × Found = if a then set_at (AtLeaf op above last) last (world.words (leaf_key_at (leaf_of last))) else (if is_rem op && is then rem_at (AtLeaf op above last) above last else (Again op last is, found.Going)) in Fed world op since next
      by_set true set =
          let parts = and_parts (is_set op) (not is) set in
          set_well above last came leaf asks parts.0 (λ e. true≢false (sym (eq-eqb (world.words (leaf_key_at (leaf_of last))) op.key e) ∙ not_true is parts.1))
      by_set false no_set = by_rem no_set (is_rem op && is) refl

  -- ---- the second look

  pub again_fed : (last : Passed) (is : Bool) → IsCommandOf map_object op → HasLeaf world since op.key last → (world.words (leaf_key_at (leaf_of last)) == op.key) ≡ is → (is_set op ≡ true → is ≡ true) × (is_rem op ≡ true → is ≡ false)
      → Fed world op since (met_again (Again op last is) op last is (world.words (update_at last.node)))
  again_fed last is command leaf e only = by_mark (state_of (world.words (update_at last.node)) == MARKED) refl
    where
      by_mark : (b : Bool) → (state_of (world.words (update_at last.node)) == MARKED) ≡ b
          → let next : TreeSearch × Found = if b then helped (update_at last.node) (world.words (update_at last.node)) else (Again op last is, found.Answer (told op last is)) in Fed world op since next
      by_mark true marked =
          (knows _ (marked_now world shape last.node leaf.passed.is (eqb-true (state_of (world.words (update_at last.node))) MARKED marked)), help_fits (record { place = update_at last.node; word = world.words (update_at last.node) }))
      by_mark false other = (knows (Again op last is) (refl, leaf, e, only), answers world shape op since last is leaf e command only)
