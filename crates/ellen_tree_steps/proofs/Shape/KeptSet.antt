-- The setting of a flag keeps the shape.
use Rattle.std.proofs.Common.{◌≡◌, ◌≢◌, ℕ, zero, ◌+◌, ◌*◌, true, List, refl, sym, ap, subst, ◌∙◌, inl, inr, ◌⊎◌, arith}
use Rattle.std.proofs.lemmas.Bool.{cases_eq, true≢false}
use Rattle.word_fields.specs.Versioned.{versioned_value, versioned_version, cleared_word}
use Rattle.word_fields.proofs.ChangedWords.{value-cleared, version-cleared}
use Rattle.normal_traits.specs.World.{Listed, Maker, Won, Cause, Change, World, Among}
use Rattle.normal_traits.specs.World.Maker.{By, Beside}
use Rattle.tree_help.specs.declared.states.TheConstants.{CLEAN}
use Rattle.tree_help.specs.Updates.{state_of}
use Rattle.ellen_tree_form.specs.Words.{update_at}
use Rattle.ellen_tree_form.specs.Shape.{Shape, Flagged, IsFlagger, IsBy, IsSpent, Removes, RemoveStands, IsUp, flag_won, flag_state, noted, is_node}
use Rattle.ellen_tree_form.proofs.Plain.{update_same}
use Rattle.ellen_tree_form.proofs.Helps.Journal.{took_of}
use Rattle.ellen_tree_form.proofs.Helps.Wraps.{flag_value}
use Rattle.ellen_tree_form.proofs.Steps.Later.{Later}
use Rattle.ellen_tree_form.proofs.Steps.Spares.{Spares}
use Rattle.ellen_tree_steps.specs.Effects.{Sets}
use Rattle.ellen_tree_steps.proofs.Lists.FlagsLast.{RemoveFate, flagger_later, note_later}
use Rattle.ellen_tree_steps.proofs.Lists.Made.{spent_later}
use Rattle.ellen_tree_steps.proofs.Lists.Waiting.{up_dirty, flag_states}
use Rattle.ellen_tree_steps.proofs.Words.UpdateWords.{update_here, child_same_word, inserts_other, waits_other, marked_other, stored_update}
use Rattle.ellen_tree_steps.proofs.Lists.Journals.{Flags, Causes, by_still}
use Rattle.ellen_tree_steps.proofs.Shape.Assembled.{shape_aside}
use Rattle.client_lemmas.proofs.Growing.{each_more, pairs_more}

-- the list of a maker
list_or : Listed → Maker → Listed
list_or other (By list j) = list
list_or other Beside = other

-- two settings of a flag that are one
pub record SameFlag (a b : Listed) (node from at word : ℕ) : Type 0 where
  pub list : a ≡ b
  pub node_is : node ≡ at
  pub from_is : from ≡ word

same_won : (a b : Listed) (node from at word : ℕ) → flag_won node from a ≡ flag_won at word b → SameFlag a b node from at word
unfolding list_or
same_won a b node from at word e = record {
  list = ap (λ (w : Won). list_or a w.maker) e;
  node_is = update_same node at (ap (λ (w : Won). w.place) e);
  from_is = ap (λ (w : Won). w.before) e;
}

module _ (world after : World) (shape : Shape world) (l : Later world after) (s : Spares world after) (x : Sets world after) where
  is : is_node world.changes x.node ≡ true
  is = ap (λ (cs : List Change). is_node cs x.node) (sym x.changes) ∙ x.is.is

  here : after.words (update_at x.node) ≡ x.word
  here = update_here world after shape l s x.node x.word is x.words x.changes

  clean : state_of (world.words (update_at x.node)) ≡ CLEAN
  clean = ap state_of x.stood ∙ x.clean

  value : versioned_value x.word ≡ 4 * x.list.block + flag_state x.list.call.op
  value = sym (value-cleared x.word) ∙ ap versioned_value x.written ∙ flag_value x.list x.is.small x.node x.from

  -- the node had no flag
  apart : (list : Listed) (flagged : Flagged world list) → IsUp world list flagged.node flagged.from → flagged.node ≢ x.node
  apart list flagged up e = up_dirty world list flagged.node flagged.from up (shape.flaggers list flagged).small (ap (λ n. state_of (world.words (update_at n))) e ∙ clean)

  -- a removal that waited for the node can't mark it any more
  waits_set : (list : Listed) (flagged : Flagged world list) (r : Removes world list flagged.node flagged.from) → RemoveStands world list flagged.node flagged.from r.left r.gone → world.words (update_at r.gone) ≡ noted world list 1 → RemoveFate after list flagged.node flagged.from r.left r.gone
  waits_set list flagged r stands was = elim (cases_eq r.gone x.node) [
    | inr differs ↦ waits_other world after shape l s x.node x.word is x.words x.changes list flagged (apart list flagged stands.up) r differs stands was
    | inl same ↦
        let now : after.words (update_at r.gone) ≡ x.word = ap (λ g. after.words (update_at g)) same ∙ here in
        inr (inr (inr (record {
          passed = omega (
            arith,
            ap versioned_version now,
            ap versioned_version (note_later world after shape l s list flagged 1 (omega arith)),
            ap versioned_version was,
            ap (λ g. versioned_version (world.words (update_at g))) same,
            ap versioned_version x.stood,
            x.raised,
            ap versioned_version x.written,
            version-cleared x.word,
          );
          unmarked = λ e. elim (flag_states x.list.call.op) [
            | inl ins ↦ absurd (omega (arith, ap versioned_value now, e, value, ins))
            | inr del ↦ absurd (omega (arith, ap versioned_value now, e, value, del))
          ];
        })))
  ]

  flagger_old : (list : Listed) (flagged : Flagged world list) → IsFlagger after list flagged.node flagged.from
  flagger_old list flagged =
      flagger_later world after shape l s list flagged (λ i waits. inserts_other world after shape l s x.node x.word is x.words x.changes list flagged (apart list flagged waits.up) i waits) (waits_set list flagged)
      (λ r stands marked. marked_other world after shape l s x.node x.word is x.words x.changes list flagged (apart list flagged stands.up) r stands marked)

  -- ---- the journal

  new_flag : Flagged after x.list
  new_flag = record { node = x.node; from = x.from; entries = x.entries; won = subst (Among (flag_won x.node x.from x.list)) (sym x.journal) (inl refl) }

  -- a list set its flag before, or is the new one
  before : (list : Listed) → Flagged after list → Flagged world list ⊎ (list ≡ x.list)
  before list f = elim (subst (Among (flag_won f.node f.from list)) x.journal f.won) [
    | inl same ↦ inr (same_won list x.list f.node f.from x.node x.from same).list
    | inr old ↦ inl (record { node = f.node; from = f.from; entries = f.entries; won = old })
  ]

  -- the new list's block was not used
  new_block : (list : Listed) → Flagged world list → list.block ≢ x.list.block
  new_block list f e = true≢false (sym (shape.flaggers list f).used ∙ ap world.used e ∙ x.unused)

  flags : Flags after
  flags = record {
    items = each_more (λ (w : Won). IsBy after w w.maker) (flag_won x.node x.from x.list) world.journal after.journal x.journal (x.node, x.from, refl, x.entries) (λ won old. by_still world after won won.maker (shape.items won old));
    flaggers = λ list f. elim (subst (Among (flag_won f.node f.from list)) x.journal f.won) [
      | inl same ↦
          let e = same_won list x.list f.node f.from x.node x.from same in
          subst (λ (y : Listed). IsFlagger after y f.node f.from) (sym e.list) (subst (λ n. IsFlagger after x.list n f.from) (sym e.node_is) (subst (λ w. IsFlagger after x.list x.node w) (sym e.from_is) x.is))
      | inr old ↦ flagger_old list (record { node = f.node; from = f.from; entries = f.entries; won = old })
    ];
    same_identity = λ a b fa fb e. elim (before a fa) [
      | inl oa ↦ elim (before b fb) [
        | inl ob ↦ shape.same_identity a b oa ob e
        | inr nb ↦ absurd (x.fresh a zero (e ∙ ap (λ (y : Listed). y.identity) nb) (took_of world a oa))
      ]
      | inr na ↦ elim (before b fb) [
        | inl ob ↦ absurd (x.fresh b zero (sym e ∙ ap (λ (y : Listed). y.identity) na) (took_of world b ob))
        | inr nb ↦ na ∙ sym nb
      ]
    ];
    same_block = λ a b fa fb e. elim (before a fa) [
      | inl oa ↦ elim (before b fb) [
        | inl ob ↦ shape.same_block a b oa ob e
        | inr nb ↦ absurd (new_block a oa (e ∙ ap (λ (y : Listed). y.block) nb))
      ]
      | inr na ↦ elim (before b fb) [
        | inl ob ↦ absurd (new_block b ob (sym e ∙ ap (λ (y : Listed). y.block) na))
        | inr nb ↦ na ∙ sym nb
      ]
    ];
  }

  -- ---- its cause

  causes : Causes after
  causes = record {
    spent = each_more (λ (w : Won). IsSpent after w.cause) (flag_won x.node x.from x.list) world.journal after.journal x.journal (record { list = x.list; flagged = new_flag; block = refl; over = tt })
        (λ won old. spent_later world after shape l s won.cause (shape.spent won old));
    differ = pairs_more (λ (a b : Won). a.cause ≢ b.cause) (flag_won x.node x.from x.list) world.journal after.journal x.journal
        (λ old among e. let spent = shape.spent old among in new_block spent.list spent.flagged (spent.block ∙ ap (λ (c : Cause). c.block) (sym e))) shape.causes_differ;
  }

  pub shape_set : Shape after
  unfolding new_flag
  shape_set =
      shape_aside world after shape l s x.changes (λ n left is'. child_same_word world after shape l s x.node x.word is x.words x.changes n left)
      (stored_update world after shape l s x.node x.word is x.words x.changes x.fits (inr (inl (record { list = x.list; flagged = new_flag; here = refl; up = ap cleared_word here ∙ x.written })))) flags causes
