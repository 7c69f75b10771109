-- The end of a flag keeps the shape.
use Rattle.std.proofs.Common.{◌≡◌, ◌≢◌, ℕ, ◌+◌, ◌*◌, ◌^◌, ◌<◌, true, sym, ap, subst, ◌∙◌, inl, inr, ◌⊎◌, arith}
use Rattle.word_fields.specs.Versioned.{versioned_value, versioned_version, cleared_word}
use Rattle.word_fields.proofs.ChangedWords.{value-changed, cleared-changed}
use Rattle.normal_traits.specs.World.{Listed, World}
use Rattle.tree_help.specs.declared.states.TheConstants.{CLEAN}
use Rattle.tree_help.specs.Updates.{state_of, updated}
use Rattle.ellen_tree_form.specs.Words.{update_at}
use Rattle.ellen_tree_form.specs.Shape.{Shape, Flagged, IsFlagger, Inserts, InsertWaits, Removes, RemoveStands, Changed, IsGone, IsUp, IsMarked, IsOver, flags_at, flag_state, noted, is_node}
use Rattle.ellen_tree_form.proofs.Plain.{both_ops, update_same, marked_value}
use Rattle.ellen_tree_form.proofs.Helps.Wraps.{state_below}
use Rattle.ellen_tree_form.proofs.Steps.Later.{Later}
use Rattle.ellen_tree_form.proofs.Steps.Spares.{Spares}
use Rattle.ellen_tree_form.proofs.Helps.FollowedStays.{flagged_later}
use Rattle.ellen_tree_steps.specs.Effects.{Ends}
use Rattle.ellen_tree_steps.proofs.Lists.FlagsLast.{flagger_later}
use Rattle.ellen_tree_steps.proofs.Lists.Waiting.{same_flag, same_up, up_dirty, insert_unmade, remove_unmade}
use Rattle.ellen_tree_steps.proofs.Words.UpdateWords.{update_here, child_same_word, inserts_other, waits_other, marked_other, stored_update}
use Rattle.ellen_tree_steps.proofs.Lists.Journals.{beside_flags, beside_causes}
use Rattle.ellen_tree_steps.proofs.Shape.Assembled.{shape_aside}

module _ (world after : World) (shape : Shape world) (l : Later world after) (s : Spares world after) (x : Ends world after) where
  abbrev node : ℕ
  node = x.flagged.node

  abbrev flag : ℕ
  flag = (flags_at x.flagged.node x.flagged.from x.list).to

  abbrev to : ℕ
  to = updated flag x.list.block CLEAN

  small : x.list.block < 2 ^ 17
  small = (shape.flaggers x.list x.flagged).small

  is : is_node world.changes node ≡ true
  is = (shape.flaggers x.list x.flagged).is

  -- the flag is up
  up : IsUp world x.list node x.flagged.from
  up = ap cleared_word x.stood ∙ cleared-changed x.flagged.from (4 * x.list.block + flag_state x.list.call.op) (omega (arith, small, state_below x.list small))

  value : versioned_value to ≡ 4 * x.list.block + CLEAN
  value = value-changed flag (4 * x.list.block + CLEAN) (omega (arith, small))

  -- ---- lists that wait have their flags at other nodes

  insert_apart : (list : Listed) (flagged : Flagged world list) (i : Inserts world list flagged.node flagged.from) → InsertWaits world list flagged.node flagged.from i.left → flagged.node ≢ node
  insert_apart list flagged i waits e =
      let own : x.list ≡ list = same_up world shape x.list list x.flagged flagged up waits.up (sym e) in
      elim x.done [
        | inl changed ↦ insert_unmade world shape list flagged i waits (subst (Changed world) own changed)
        | inr gone ↦ both_ops list.call.op i.set (subst (IsGone world) own gone).0
      ]

  remove_apart : (list : Listed) (flagged : Flagged world list) (r : Removes world list flagged.node flagged.from) → RemoveStands world list flagged.node flagged.from r.left r.gone
      → (world.words (update_at r.gone) ≡ noted world list 1) ⊎ IsMarked world list r.gone → flagged.node ≢ node
  remove_apart list flagged r stands how e =
      let own : x.list ≡ list = same_up world shape x.list list x.flagged flagged up stands.up (sym e) in
      elim x.done [
        | inl changed ↦ remove_unmade world shape list flagged r stands (subst (Changed world) own changed)
        | inr gone ↦
            let given : IsGone world list = subst (IsGone world) own gone in
            let same : given.1.0 ≡ r.gone = update_same given.1.0 r.gone (sym given.1.1 ∙ r.update) in
            elim how [
              | inl here ↦ omega (arith, given.1.2.passed, ap (λ g. versioned_version (world.words (update_at g))) same, ap versioned_version here)
              | inr marked ↦ given.1.2.unmarked (ap (λ g. versioned_value (world.words (update_at g))) same ∙ marked_value world list r.gone (shape.flaggers list flagged).small marked)
            ]
      ]

  gone_apart : (list : Listed) (flagged : Flagged world list) (r : Removes world list flagged.node flagged.from) → world.words (update_at r.gone) ≡ noted world list 1 → r.gone ≢ node
  gone_apart list flagged r here e = up_dirty world x.list node x.flagged.from up small (ap (λ g. state_of (world.words (update_at g))) (sym e) ∙ ap state_of here ∙ r.clean)

  flagger_end : (list : Listed) (flagged : Flagged world list) → IsFlagger after list flagged.node flagged.from
  flagger_end list flagged =
      flagger_later world after shape l s list flagged
      (λ i waits. inserts_other world after shape l s node to is x.beside.words x.changes list flagged (insert_apart list flagged i waits) i waits)
      (λ r stands here. waits_other world after shape l s node to is x.beside.words x.changes list flagged (remove_apart list flagged r stands (inl here)) r (gone_apart list flagged r here) stands here)
      (λ r stands marked. marked_other world after shape l s node to is x.beside.words x.changes list flagged (remove_apart list flagged r stands (inr marked)) r stands marked)

  -- ---- its cause

  yet : IsOver world x.list 2 → ⊥
  yet over =
      let same = same_flag world x.list over.0 x.flagged in
      omega (arith, over.1, ap (λ n. versioned_version (world.words (update_at n))) same.0, ap versioned_version x.stood, ap (λ f. versioned_version (updated f x.list.block (flag_state x.list.call.op))) same.1)

  over : IsOver after x.list 2
  unfolding flagged_later
  over = (
    flagged_later world after shape l s x.list x.flagged,
    omega (arith, x.beside.raised, ap versioned_version x.stood, ap versioned_version (update_here world after shape l s node to is x.beside.words x.changes)),
  )

  pub shape_end : Shape after
  shape_end =
      shape_aside world after shape l s x.changes (λ n left is'. child_same_word world after shape l s node to is x.beside.words x.changes n left)
      (stored_update world after shape l s node to is x.beside.words x.changes x.beside.fits (inl (ap state_of (update_here world after shape l s node to is x.beside.words x.changes) ∙ omega (arith, value))))
      (beside_flags world after shape l s x.list 2 (update_at node) to x.beside flagger_end) (beside_causes world after shape l s x.list 2 (update_at node) to x.beside x.flagged yet over)
