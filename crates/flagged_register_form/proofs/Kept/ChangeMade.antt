-- The step that makes the change of a flag keeps the shape.
use Rattle.std.proofs.Common.{◌≡◌, ◌≢◌, ℕ, ◌<◌, Bool, true, false, refl, sym, ap, subst, ◌∙◌, inl, inr, ◌⊎◌, arith, None, Some}
use Rattle.std.specs.Prelude.{if◌then◌else◌}
use Rattle.std.specs.FinMap as map
use Rattle.word_fields.specs.Versioned.{versioned_value, versioned_bit, versioned_version, cleared_word}
use Rattle.word_fields.proofs.ChangedWords.{value-changed, bit-changed, changed_below}
use Rattle.lin_report.specs.Object.{map_object}
use Rattle.lin_report.specs.declared.calls.Reply.{Reply}
use Rattle.normal_traits.specs.World.{Listed, Won, Change, World, Among, held_after}
use Rattle.normal_traits.specs.Steps.{change_of}
use Rattle.flagged_register_form.specs.Register.{FLAG, REGISTER, note_place, flag_value, is_in, toggled, decided, decision_place, toggled_value}
use Rattle.flagged_register_form.specs.Meanings.{Flagged, Made, Stands, IsFlagger, Shape, IsBy, IsSpent, cause_here, IsGone, IsName, content}
use Rattle.flagged_register_form.proofs.Basics.{flag_register, toggled_below, tells-apply, yes-apply, changes-apply, decision_register}
use Rattle.flagged_register_form.proofs.Effects.{Makes, change_made, made_won}
use Rattle.flagged_register_form.proofs.Effects.Effect.{makes}
use Rattle.flagged_register_form.proofs.Observed.{has_key, none_content, some_content}
use Rattle.flagged_register_form.proofs.Later.{Later, later, flagged_later, note_later, made_later, decided_later, value_later}
use Rattle.flagged_register_form.proofs.Kept.FlagLists.{unset, one_up, not_both, IsDecision}
use Rattle.flagged_register_form.proofs.Kept.SpentCauses.{spent_later, differs}
use Rattle.normal_traits.proofs.Stays.{word_beside}
use Rattle.client_lemmas.proofs.Words.{same_place}
use Rattle.client_lemmas.proofs.Growing.{each_more, pairs_more}

pub makes_kept : (world : World) (list : Listed) → Shape world → Makes world list → Shape (change_made list world)
makes_kept world list shape m = record {
  opened = shape.opened;
  items = each_more (λ (w : Won). IsBy w w.maker) (made_won list (world.words REGISTER)) world.journal after.journal refl tt shape.items;
  flaggers = λ other flagged. flagger other (before other flagged);
  same_identity = λ a b fa fb. shape.same_identity a b (before a fa) (before b fb);
  same_block = λ a b fa fb. shape.same_block a b (before a fa) (before b fb);
  flag = inr (record { list = list; flagged = flagged_later world after shape l list m.flagged; flag = ap cleared_word flag ∙ m.stands.flag });
  tells = tells-apply list.call.op (world.words REGISTER) held key m.stands.toggles has ∙ sym (content_made (is_in (world.words REGISTER)) toggled_is);
  names = name_made (is_in (world.words REGISTER)) toggled_is;
  clear = ap versioned_bit register ∙ bit-changed (world.words REGISTER) (toggled_value (world.words REGISTER) list.block) (toggled_below (world.words REGISTER) list.block (shape.flaggers list m.flagged).small);
  fits = omega (arith, register, changed_below (world.words REGISTER) (toggled_value (world.words REGISTER) list.block) (toggled_below (world.words REGISTER) list.block (shape.flaggers list m.flagged).small));
  flagged = each_more (λ (c : Change). Flagged after c.list) new world.changes after.changes refl (flagged_later world after shape l list m.flagged) (λ change among. flagged_later world after shape l change.list (shape.flagged change among));
  passed = each_more (λ (c : Change). versioned_version (after.words (note_place c.list.block)) < versioned_version (after.words REGISTER)) new world.changes after.changes refl own_passed
      (λ change among. omega (arith, shape.passed change among, l.register, ap versioned_version (note_later world after shape l change.list (shape.flagged change among))));
  agreed = each_more (λ (c : Change). after.words (decision_place c.list.block) ≡ decided true) new world.changes after.changes refl own_agreed (λ change among. decided_later world after shape l change.list true (shape.flagged change among) (shape.agreed change among));
  effective = (changes-apply list.call.op (world.words REGISTER) held key m.stands.toggles has, shape.effective);
  one_list = pairs_more (λ (a b : Change). a.list.identity ≢ b.list.identity) new world.changes after.changes refl (λ b among e. unmade b among (shape.same_identity list b.list m.flagged (shape.flagged b among) e)) shape.one_list;
  one_block = pairs_more (λ (a b : Change). 0 < a.list.block → a.list.block ≢ b.list.block) new world.changes after.changes refl (λ b among some e. unmade b among (shape.same_block list b.list m.flagged (shape.flagged b among) e)) shape.one_block;
  spent = each_more (λ (w : Won). IsSpent after w.cause) (made_won list (world.words REGISTER)) world.journal after.journal refl (record { used = (shape.flaggers list m.flagged).used; over = own_passed }) (λ item among. spent_later world after l (λ block used. used) (λ block used e. sym (ap versioned_value flag) ∙ e) item.cause (shape.spent item among));
  causes_differ = pairs_more (λ (a b : Won). a.cause ≢ b.cause) (made_won list (world.words REGISTER)) world.journal after.journal refl (differs world shape (cause_here list.block 1) (λ spent'. not_both world shape list m.stands spent'.over)) shape.causes_differ;
}
  where
    after : World
    after = change_made list world

    held : map.FinMap Rattle.std.specs.Ordering.nat_cmp ℕ
    held = held_after map_object world.changes

    new : Change
    new = change_of map_object list world.changes

    l : Later world after
    l = later world after shape (makes list m)

    key : list.call.op.key ≡ 0
    key = (shape.flaggers list m.flagged).key

    register : after.words REGISTER ≡ toggled (world.words REGISTER) list.block
    register = same_place REGISTER (toggled (world.words REGISTER) list.block) world.words

    flag : after.words FLAG ≡ world.words FLAG
    flag = word_beside REGISTER (toggled (world.words REGISTER) list.block) world.words FLAG flag_register

    own_passed : versioned_version (after.words (note_place list.block)) < versioned_version (after.words REGISTER)
    own_passed = omega (arith, ap versioned_version register, m.raised, ap versioned_version (note_later world after shape l list m.flagged), ap versioned_version m.stands.register)

    has : map.contains_key held 0 ≡ is_in (world.words REGISTER)
    has = has_key world (world.words REGISTER) held shape.names shape.tells

    toggled_is : versioned_value (after.words REGISTER) ≡ toggled_value (world.words REGISTER) list.block
    toggled_is = ap versioned_value register ∙ value-changed (world.words REGISTER) (toggled_value (world.words REGISTER) list.block) (toggled_below (world.words REGISTER) list.block (shape.flaggers list m.flagged).small)

    -- the register says what the change did
    content_made : (b : Bool) → versioned_value (after.words REGISTER) ≡ (if b then 0 else flag_value list.block) → content (after.words REGISTER) after.words ≡ (if b then None else Some list.call.op.value)
    content_made true e = none_content after (after.words REGISTER) e
    content_made false e = some_content after (after.words REGISTER) list.block e ∙ ap Some (value_later world after shape l list m.flagged ∙ (shape.flaggers list m.flagged).value)

    name_made : (b : Bool) → versioned_value (after.words REGISTER) ≡ (if b then 0 else flag_value list.block) → IsName (after.words REGISTER) after.used
    name_made true e = inl e
    name_made false e = let f = shape.flaggers list m.flagged in inr (list.block, f.used, f.small, e)

    own_agreed : after.words (decision_place list.block) ≡ decided true
    own_agreed = decided_later world after shape l list true m.flagged m.agreed

    own : Made after list
    own = record {
      change = inl (ap (λ (reply : Reply). record { list = list; reply = reply }) (sym (yes-apply list.call.op (world.words REGISTER) held key m.stands.toggles has)));
      passed = own_passed;
      agreed = own_agreed;
    }

    before : (other : Listed) → Flagged after other → Flagged world other
    before = unset world after (made_won list (world.words REGISTER)) refl refl

    unmade : (b : Change) → Among b world.changes → list ≡ b.list → ⊥
    unmade b among e = not_both world shape list m.stands (subst (λ (x : Listed). versioned_version (world.words (note_place x.block)) < versioned_version (world.words REGISTER)) (sym e) (shape.passed b among))

    flagger : (other : Listed) → Flagged world other → IsFlagger after other
    flagger other flagged' = let f = shape.flaggers other flagged' in record { some = f.some; small = f.small; used = f.used; key = f.key; value = value_later world after shape l other flagged' ∙ f.value; fate = inr (fate f.fate); decision = subst IsDecision (sym same) f.decision }
      where
        same : after.words (decision_place other.block) ≡ world.words (decision_place other.block)
        same = word_beside REGISTER (toggled (world.words REGISTER) list.block) world.words (decision_place other.block) (decision_register other.block)

        fate : Stands world other ⊎ (Made world other ⊎ IsGone world other) → Made after other ⊎ IsGone after other
        fate (inr (inr gone)) = inr (same ∙ gone)
        fate (inr (inl made)) = inl (made_later world after shape l other flagged' made)
        fate (inl stands) = inl (subst (Made after) (one_up world shape list other m.flagged flagged' m.stands.flag stands.flag) own)
