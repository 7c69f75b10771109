-- The step that takes a flag away keeps the shape.
use Rattle.std.proofs.Common.{◌≡◌, ◌≢◌, ℕ, true, refl, sym, ap, subst, ◌∙◌, inl, inr, ◌⊎◌, arith}
use Rattle.word_fields.specs.Versioned.{versioned_value, versioned_bit, versioned_version, changed_word, cleared_word}
use Rattle.word_fields.proofs.ChangedWords.{cleared-clear, value-changed}
use Rattle.normal_traits.specs.World.{Listed, Won, World}
use Rattle.flagged_register_form.specs.Register.{FLAG, REGISTER, flag_of, decision_place}
use Rattle.flagged_register_form.specs.Meanings.{Flagged, Made, Stands, IsFlagger, Shape, IsBy, IsSpent, cause_here, IsGone, IsName}
use Rattle.flagged_register_form.proofs.Basics.{register_flag, decision_flag}
use Rattle.flagged_register_form.proofs.Effects.{Clears, flag_cleared, cleared_won}
use Rattle.flagged_register_form.proofs.Effects.Effect.{clears}
use Rattle.flagged_register_form.proofs.Later.{Later, later, flag_clear, flagged_later, note_later, made_later, decided_later, value_later, content_later}
use Rattle.flagged_register_form.proofs.Kept.FlagLists.{unset, one_up, not_both, up_value, IsDecision}
use Rattle.flagged_register_form.proofs.Kept.SpentCauses.{spent_later, differs}
use Rattle.normal_traits.proofs.Stays.{word_beside}
use Rattle.client_lemmas.proofs.Words.{same_place}
use Rattle.client_lemmas.proofs.Growing.{each_more, pairs_more}

pub clears_kept : (world : World) (list : Listed) (flag : ℕ) → Shape world → Clears world list flag → Shape (flag_cleared list flag world)
clears_kept world list flag shape c = record {
  opened = shape.opened;
  items = each_more (λ (w : Won). IsBy w w.maker) (cleared_won list flag) world.journal after.journal refl tt shape.items;
  flaggers = λ other flagged. flagger other (before other flagged);
  same_identity = λ a b fa fb. shape.same_identity a b (before a fa) (before b fb);
  same_block = λ a b fa fb. shape.same_block a b (before a fa) (before b fb);
  flag = inl down;
  tells = shape.tells ∙ sym (content_later world after shape l register);
  names = subst (λ r. IsName r after.used) (sym register) shape.names;
  clear = ap versioned_bit register ∙ shape.clear;
  fits = omega (arith, shape.fits, register);
  flagged = λ change among. flagged_later world after shape l change.list (shape.flagged change among);
  passed = λ change among. omega (arith, shape.passed change among, ap versioned_version register, ap versioned_version (note_later world after shape l change.list (shape.flagged change among)));
  agreed = λ change among. decided_later world after shape l change.list true (shape.flagged change among) (shape.agreed change among);
  effective = shape.effective;
  one_list = shape.one_list;
  one_block = shape.one_block;
  spent = each_more (λ (w : Won). IsSpent after w.cause) (cleared_won list flag) world.journal after.journal refl (record { used = (shape.flaggers list c.flagged).used; over = λ e'. absurd (omega (arith, e', down)) }) (λ item among. spent_later world after l (λ block used. used) (λ block used e'. absurd (omega (arith, e', down))) item.cause (shape.spent item among));
  causes_differ = pairs_more (λ (a b : Won). a.cause ≢ b.cause) (cleared_won list flag) world.journal after.journal refl (differs world shape (cause_here list.block 2) (λ spent'. spent'.over (up_value world shape list c.flagged up))) shape.causes_differ;
}
  where
    after : World
    after = flag_cleared list flag world

    l : Later world after
    l = later world after shape (clears list flag c)

    register : after.words REGISTER ≡ world.words REGISTER
    register = word_beside FLAG (changed_word flag 0) world.words REGISTER register_flag

    down : versioned_value (after.words FLAG) ≡ 0
    down = ap versioned_value (same_place FLAG (changed_word flag 0) world.words) ∙ value-changed flag 0 (omega arith)

    up : cleared_word (world.words FLAG) ≡ flag_of list.entries
    up = ap cleared_word (c.here ∙ c.own) ∙ cleared-clear (flag_of list.entries) (flag_clear world list shape c.flagged)

    before : (other : Listed) → Flagged after other → Flagged world other
    before = unset world after (cleared_won list flag) refl refl

    flagger : (other : Listed) → Flagged world other → IsFlagger after other
    flagger other flagged = let f = shape.flaggers other flagged in record { some = f.some; small = f.small; used = f.used; key = f.key; value = value_later world after shape l other flagged ∙ f.value; fate = inr (fate f.fate); decision = subst IsDecision (sym same) f.decision }
      where
        same : after.words (decision_place other.block) ≡ world.words (decision_place other.block)
        same = word_beside FLAG (changed_word flag 0) world.words (decision_place other.block) (decision_flag other.block)

        ended : Stands world list → Made world list ⊎ IsGone world list → ⊥
        ended stands (inl made) = not_both world shape list stands made.passed
        ended stands (inr gone) = stands.not_gone gone

        fate : Stands world other ⊎ (Made world other ⊎ IsGone world other) → Made after other ⊎ IsGone after other
        fate (inr (inr gone)) = inr (same ∙ gone)
        fate (inr (inl made)) = inl (made_later world after shape l other flagged made)
        fate (inl stands) = absurd (ended (subst (Stands world) (one_up world shape other list flagged c.flagged stands.flag up) stands) c.ends)
