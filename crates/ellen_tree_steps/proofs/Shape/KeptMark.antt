-- A mark keeps the shape.
use Rattle.std.proofs.Common.{◌≡◌, ◌≢◌, ℕ, ◌^◌, ◌<◌, true, sym, ap, subst, ◌∙◌, inl, inr, arith}
use Rattle.std.proofs.lemmas.Bool.{cases_eq}
use Rattle.normal_traits.specs.World.{Listed, World}
use Rattle.tree_help.specs.declared.states.TheConstants.{CLEAN, MARKED}
use Rattle.tree_help.specs.Updates.{state_of, updated, inner}
use Rattle.ellen_tree_form.specs.Words.{update_at}
use Rattle.ellen_tree_form.specs.Shape.{Shape, Flagged, IsFlagger, Removes, RemoveStands, IsUp, IsMarked, IsOver, noted, is_node}
use Rattle.ellen_tree_form.proofs.Plain.{update_same, marked_value}
use Rattle.ellen_tree_form.proofs.Helps.Owners.{one_removal}
use Rattle.ellen_tree_form.proofs.Steps.Later.{Later}
use Rattle.ellen_tree_form.proofs.Steps.Spares.{Spares}
use Rattle.ellen_tree_form.proofs.Helps.FollowedStays.{flagged_later, update_later}
use Rattle.ellen_tree_steps.specs.Effects.{Marks}
use Rattle.ellen_tree_steps.proofs.Lists.FlagsLast.{RemoveFate, flagger_later, note_later}
use Rattle.ellen_tree_steps.proofs.Lists.Waiting.{up_dirty}
use Rattle.ellen_tree_steps.proofs.Words.UpdateWords.{update_here, child_same_word, inserts_other, stands_other, waits_other, marked_other, stored_update}
use Rattle.ellen_tree_steps.proofs.Lists.Journals.{beside_flags, beside_causes}
use Rattle.ellen_tree_steps.proofs.Shape.Assembled.{shape_aside}

module _ (world after : World) (shape : Shape world) (l : Later world after) (s : Spares world after) (x : Marks world after) where
  abbrev gone : ℕ
  gone = x.removes.gone

  abbrev to : ℕ
  to = updated (noted world x.list 1) x.list.block MARKED

  small : x.list.block < 2 ^ 17
  small = (shape.flaggers x.list x.flagged).small

  is : is_node world.changes gone ≡ true
  is = x.removes.is

  here : after.words (update_at gone) ≡ to
  here = update_here world after shape l s gone to is x.beside.words x.changes

  clean : state_of (world.words (update_at gone)) ≡ CLEAN
  clean = ap state_of x.stood ∙ x.removes.clean

  -- the node had no flag
  apart : (list : Listed) (flagged : Flagged world list) → IsUp world list flagged.node flagged.from → flagged.node ≢ gone
  apart list flagged up e = up_dirty world list flagged.node flagged.from up (shape.flaggers list flagged).small (ap (λ n. state_of (world.words (update_at n))) e ∙ clean)

  -- a removal that waits for the node is this one, and is marked now
  waits_mark : (list : Listed) (flagged : Flagged world list) (r : Removes world list flagged.node flagged.from) → RemoveStands world list flagged.node flagged.from r.left r.gone → world.words (update_at r.gone) ≡ noted world list 1 → RemoveFate after list flagged.node flagged.from r.left r.gone
  waits_mark list flagged r stands was = elim (cases_eq r.gone gone) [
    | inr differs ↦ waits_other world after shape l s gone to is x.beside.words x.changes list flagged (apart list flagged stands.up) r differs stands was
    | inl same ↦
        let stands' : RemoveStands world list flagged.node flagged.from r.left gone = subst (RemoveStands world list flagged.node flagged.from r.left) same stands in
        let own : x.list ≡ list = one_removal world x.list list gone x.removes.left r.left shape x.flagged flagged x.stands stands' x.removes.child (r.child ∙ ap inner same) in
        let marked : IsMarked after list r.gone =
        ap (λ g. after.words (update_at g)) same ∙ here ∙ ap (λ (y : Listed). updated (noted world y 1) y.block MARKED) own ∙ ap (λ w. updated w list.block MARKED) (sym (note_later world after shape l s list flagged 1 (omega arith))) in
        inr (inl (stands_other world after shape l s gone to is x.beside.words x.changes list flagged (apart list flagged stands.up) r stands, marked))
  ]

  flagger_mark : (list : Listed) (flagged : Flagged world list) → IsFlagger after list flagged.node flagged.from
  flagger_mark list flagged =
      flagger_later world after shape l s list flagged (λ i waits. inserts_other world after shape l s gone to is x.beside.words x.changes list flagged (apart list flagged waits.up) i waits) (waits_mark list flagged)
      (λ r stands marked. marked_other world after shape l s gone to is x.beside.words x.changes list flagged (apart list flagged stands.up) r stands marked)

  -- ---- its cause

  marked : IsMarked after x.list gone
  marked = here ∙ ap (λ w. updated w x.list.block MARKED) (sym (note_later world after shape l s x.list x.flagged 1 (omega arith)))

  update : noted after x.list 0 ≡ update_at gone
  update = update_later world after shape l s x.list x.flagged x.rem gone x.removes.update

  yet : IsOver world x.list 3 → ⊥
  yet over =
      let same : over.0 ≡ gone = update_same over.0 gone (sym over.1 ∙ x.removes.update) in
      omega (arith, marked_value world x.list over.0 small over.2, clean, ap (λ g. state_of (world.words (update_at g))) same)

  pub shape_mark : Shape after
  shape_mark =
      shape_aside world after shape l s x.changes (λ n left is'. child_same_word world after shape l s gone to is x.beside.words x.changes n left)
      (stored_update world after shape l s gone to is x.beside.words x.changes x.beside.fits (inr (inr (record { list = x.list; flagged = flagged_later world after shape l s x.list x.flagged; rem = x.rem; update = update; marked = marked }))))
      (beside_flags world after shape l s x.list 3 (update_at gone) to x.beside flagger_mark) (beside_causes world after shape l s x.list 3 (update_at gone) to x.beside x.flagged yet (gone, update, marked))
