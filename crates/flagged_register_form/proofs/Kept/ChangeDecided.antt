-- The step that decides whether a change is made keeps the shape.
use Rattle.std.proofs.Common.{◌≡◌, ◌≢◌, Bool, true, false, refl, sym, ap, subst, ◌∙◌, inl, inr, ◌⊎◌, arith}
use Rattle.std.proofs.lemmas.Bool.{cases_eq}
use Rattle.word_fields.specs.Versioned.{versioned_value, versioned_bit, versioned_version, cleared_word}
use Rattle.normal_traits.specs.World.{Listed, Won, World}
use Rattle.flagged_register_form.specs.Register.{FLAG, REGISTER, toggles, decided, decision_place}
use Rattle.flagged_register_form.specs.Meanings.{Flagged, Made, Stands, IsFlagger, Shape, IsBy, IsSpent, cause_here, IsGone, IsName}
use Rattle.flagged_register_form.proofs.Basics.{decision_flag, decided_some, decision_register, decided_once, same_decision}
use Rattle.flagged_register_form.proofs.Effects.{Decides, change_decided, decided_won}
use Rattle.flagged_register_form.proofs.Effects.Effect.{decides}
use Rattle.flagged_register_form.proofs.Later.{Later, later, flagged_later, note_later, made_later, decided_later, value_later, content_later}
use Rattle.flagged_register_form.proofs.Kept.FlagLists.{unset, IsDecision}
use Rattle.flagged_register_form.proofs.Kept.SpentCauses.{spent_later, differs}
use Rattle.normal_traits.proofs.Stays.{word_beside}
use Rattle.client_lemmas.proofs.Words.{same_place}
use Rattle.client_lemmas.proofs.Growing.{each_more, pairs_more}

pub decides_kept : (world : World) (list : Listed) (made : Bool) → Shape world → Decides world list → Shape (change_decided list made world)
decides_kept world list made shape d = record {
  opened = shape.opened;
  items = each_more (λ (w : Won). IsBy w w.maker) (decided_won list made) world.journal after.journal refl tt shape.items;
  flaggers = λ other flagged. flagger other (before other flagged);
  same_identity = λ a b fa fb. shape.same_identity a b (before a fa) (before b fb);
  same_block = λ a b fa fb. shape.same_block a b (before a fa) (before b fb);
  flag = elim shape.flag [
    | inl down ↦ inl (ap versioned_value flag ∙ down)
    | inr up ↦ inr (record { list = up.list; flagged = flagged_later world after shape l up.list up.flagged; flag = ap cleared_word flag ∙ up.flag })
  ];
  tells = shape.tells ∙ sym (content_later world after shape l register);
  names = subst (λ r. IsName r after.used) (sym register) shape.names;
  clear = ap versioned_bit register ∙ shape.clear;
  fits = omega (arith, shape.fits, register);
  flagged = λ change among. flagged_later world after shape l change.list (shape.flagged change among);
  passed = λ change among. omega (arith, shape.passed change among, ap versioned_version register, ap versioned_version (note_later world after shape l change.list (shape.flagged change among)));
  agreed = λ change among. decided_later world after shape l change.list true (shape.flagged change among) (shape.agreed change among);
  effective = shape.effective;
  one_list = shape.one_list;
  one_block = shape.one_block;
  spent = each_more (λ (w : Won). IsSpent after w.cause) (decided_won list made) world.journal after.journal refl (record { used = (shape.flaggers list d.flagged).used; over = λ e'. decided_some made (sym own ∙ e') }) (λ item among. spent_later world after l (λ block used. used) (λ block used e. sym (ap versioned_value flag) ∙ e) item.cause (shape.spent item among));
  causes_differ = pairs_more (λ (a b : Won). a.cause ≢ b.cause) (decided_won list made) world.journal after.journal refl (differs world shape (cause_here list.block 3) (λ spent'. spent'.over d.undecided)) shape.causes_differ;
}
  where
    after : World
    after = change_decided list made world

    l : Later world after
    l = later world after shape (decides list made d)

    flag : after.words FLAG ≡ world.words FLAG
    flag = word_beside (decision_place list.block) (decided made) world.words FLAG (λ e. decision_flag list.block (sym e))

    register : after.words REGISTER ≡ world.words REGISTER
    register = word_beside (decision_place list.block) (decided made) world.words REGISTER (λ e. decision_register list.block (sym e))

    own : after.words (decision_place list.block) ≡ decided made
    own = same_place (decision_place list.block) (decided made) world.words

    before : (other : Listed) → Flagged after other → Flagged world other
    before = unset world after (decided_won list made) refl refl

    stands_later : (other : Listed) → Flagged world other → Stands world other → ¬ IsGone after other → Stands after other
    stands_later other flagged stands not_gone = record {
      flag = ap cleared_word flag ∙ stands.flag;
      register = register ∙ stands.register ∙ sym (note_later world after shape l other flagged);
      toggles = subst (λ r. toggles other.call.op r ≡ true) (sym register) stands.toggles;
      not_gone = not_gone;
    }

    -- the list itself
    own_fate : Stands world list ⊎ (Made world list ⊎ IsGone world list) → Stands after list ⊎ (Made after list ⊎ IsGone after list)
    own_fate (inr (inr gone)) = absurd (decided_some false (sym gone ∙ d.undecided))
    own_fate (inr (inl done)) = absurd (decided_some true (sym done.agreed ∙ d.undecided))
    own_fate (inl stands) = by_made made own
      where
        by_made : (m : Bool) → after.words (decision_place list.block) ≡ decided m → Stands after list ⊎ (Made after list ⊎ IsGone after list)
        by_made true e = inl (stands_later list d.flagged stands (λ gone. decided_once (sym e ∙ gone)))
        by_made false e = inr (inr e)

    own_decision : (m : Bool) → after.words (decision_place list.block) ≡ decided m → IsDecision (after.words (decision_place list.block))
    own_decision true e = inr (inl e)
    own_decision false e = inr (inr e)

    own_flagger : IsFlagger after list
    own_flagger = let f = shape.flaggers list d.flagged in record { some = f.some; small = f.small; used = f.used; key = f.key; value = value_later world after shape l list d.flagged ∙ f.value; fate = own_fate f.fate; decision = own_decision made own }

    other_flagger : (other : Listed) → Flagged world other → other.block ≢ list.block → IsFlagger after other
    other_flagger other flagged apart = let f = shape.flaggers other flagged in record { some = f.some; small = f.small; used = f.used; key = f.key; value = value_later world after shape l other flagged ∙ f.value; fate = fate f.fate; decision = subst IsDecision (sym same) f.decision }
      where
        same : after.words (decision_place other.block) ≡ world.words (decision_place other.block)
        same = word_beside (decision_place list.block) (decided made) world.words (decision_place other.block) (λ e. apart (same_decision other.block list.block e))

        fate : Stands world other ⊎ (Made world other ⊎ IsGone world other) → Stands after other ⊎ (Made after other ⊎ IsGone after other)
        fate (inr (inr gone)) = inr (inr (same ∙ gone))
        fate (inr (inl done)) = inr (inl (made_later world after shape l other flagged done))
        fate (inl stands) = inl (stands_later other flagged stands (λ gone. stands.not_gone (sym same ∙ gone)))

    flagger : (other : Listed) → Flagged world other → IsFlagger after other
    flagger other flagged = elim (cases_eq other.block list.block) [
      | inl e ↦ subst (IsFlagger after) (shape.same_block list other d.flagged flagged (sym e)) own_flagger
      | inr apart ↦ other_flagger other flagged apart
    ]
