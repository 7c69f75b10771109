-- A quiet step keeps the shape.
use Rattle.std.proofs.Common.{◌≡◌, ℕ, true, sym, ap, subst, ◌∙◌, inl, inr, ◌⊎◌, arith}
use Rattle.word_fields.specs.Versioned.{versioned_value, versioned_bit, versioned_version, cleared_word}
use Rattle.word_fields.proofs.ChangedWords.{value-cleared, bit-cleared, cleared-clear}
use Rattle.normal_traits.specs.World.{Listed, World}
use Rattle.flagged_register_form.specs.Register.{FLAG, toggles, decision_place}
use Rattle.flagged_register_form.specs.Meanings.{Flagged, Made, Stands, IsFlagger, Shape, IsGone, IsName}
use Rattle.flagged_register_form.proofs.Effects.{Quiet}
use Rattle.flagged_register_form.proofs.Effects.Effect.{quiet}
use Rattle.flagged_register_form.proofs.Later.{Later, later, flagged_later, note_later, made_later, decided_later, value_later, content_later}
use Rattle.flagged_register_form.proofs.Kept.FlagLists.{flagged_from, IsDecision}
use Rattle.flagged_register_form.proofs.Kept.SpentCauses.{spent_later}

quiet_cleared : (world : World) (words : ℕ → ℕ) → Quiet world words → cleared_word (words FLAG) ≡ cleared_word (world.words FLAG)
quiet_cleared world words q = elim q.flag [
  | inl same ↦ ap cleared_word same
  | inr cleared ↦ ap cleared_word cleared ∙ cleared-clear (cleared_word (world.words FLAG)) (bit-cleared (world.words FLAG))
]

abbrev pub with_words : World → (ℕ → ℕ) → World
with_words world words = record { words = words; changes = world.changes; used = world.used; journal = world.journal }

pub quiet_kept : (world : World) (words : ℕ → ℕ) → Shape world → Quiet world words → Shape (with_words world words)
quiet_kept world words shape q = record {
  opened = shape.opened;
  items = shape.items;
  flaggers = λ list flagged. flagger list (back list flagged);
  same_identity = λ a b fa fb. shape.same_identity a b (back a fa) (back b fb);
  same_block = λ a b fa fb. shape.same_block a b (back a fa) (back b fb);
  flag = elim shape.flag [
    | inl down ↦ inl (value ∙ down)
    | inr up ↦ inr (record { list = up.list; flagged = flagged_later world after shape l up.list up.flagged; flag = quiet_cleared world words q ∙ up.flag })
  ];
  tells = shape.tells ∙ sym (content_later world after shape l q.register);
  names = subst (λ r. IsName r world.used) (sym q.register) shape.names;
  clear = ap versioned_bit q.register ∙ shape.clear;
  fits = omega (arith, shape.fits, q.register);
  flagged = λ change among. flagged_later world after shape l change.list (shape.flagged change among);
  passed = λ change among. omega (arith, shape.passed change among, ap versioned_version q.register, ap versioned_version (note_later world after shape l change.list (shape.flagged change among)));
  agreed = λ change among. decided_later world after shape l change.list true (shape.flagged change among) (shape.agreed change among);
  effective = shape.effective;
  one_list = shape.one_list;
  one_block = shape.one_block;
  spent = λ item among. spent_later world after l (λ block used. used) (λ block used e. sym value ∙ e) item.cause (shape.spent item among);
  causes_differ = shape.causes_differ;
}
  where
    after : World
    after = with_words world words

    l : Later world after
    l = later world after shape (quiet words q)

    value : versioned_value (words FLAG) ≡ versioned_value (world.words FLAG)
    value = sym (value-cleared (words FLAG)) ∙ ap versioned_value (quiet_cleared world words q) ∙ value-cleared (world.words FLAG)

    back : (list : Listed) → Flagged after list → Flagged world list
    back list flagged = flagged_from after world list (λ item among. among) flagged

    flagger : (list : Listed) → Flagged world list → IsFlagger after list
    flagger list flagged = let f = shape.flaggers list flagged in record { some = f.some; small = f.small; used = f.used; key = f.key; value = value_later world after shape l list flagged ∙ f.value; fate = fate f.fate; decision = subst IsDecision (sym same) f.decision }
      where
        same : words (decision_place list.block) ≡ world.words (decision_place list.block)
        same = q.decisions list.block (shape.flaggers list flagged).used

        fate : Stands world list ⊎ (Made world list ⊎ IsGone world list) → Stands after list ⊎ (Made after list ⊎ IsGone after list)
        fate (inr (inr gone)) = inr (inr (same ∙ gone))
        fate (inr (inl made)) = inr (inl (made_later world after shape l list flagged made))
        fate (inl stands) = inl (record {
          flag = quiet_cleared world words q ∙ stands.flag;
          register = q.register ∙ stands.register ∙ sym (note_later world after shape l list flagged);
          toggles = subst (λ r. toggles list.call.op r ≡ true) (sym q.register) stands.toggles;
          not_gone = λ gone. stands.not_gone (sym same ∙ gone);
        })
