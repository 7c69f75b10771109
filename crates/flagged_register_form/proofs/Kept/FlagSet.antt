-- The step that sets a flag keeps the shape.
use Rattle.std.proofs.Common.{◌≡◌, ◌≢◌, ℕ, true, false, refl, sym, ap, subst, ◌∙◌, inl, inr, ◌⊎◌, arith}
use Rattle.std.specs.Prelude.{◌==◌}
use Rattle.std.proofs.lemmas.Bool.{eq-eqb, or_left, or_right}
use Rattle.word_fields.specs.Versioned.{versioned_value, versioned_bit, versioned_version, cleared_word}
use Rattle.word_fields.proofs.ChangedWords.{value-cleared}
use Rattle.normal_traits.specs.World.{Listed, Won, World}
use Rattle.flagged_register_form.specs.Register.{FLAG, REGISTER, note_place, flag_value, toggles, flag_of, decision_place, value_at}
use Rattle.flagged_register_form.specs.Meanings.{Flagged, Made, Stands, IsFlagger, Shape, IsBy, IsSpent, flag_won, cause_here, IsGone, IsName}
use Rattle.flagged_register_form.proofs.Basics.{register_flag, note_flag, flagged_value, decision_flag, decided_some, value_flag}
use Rattle.flagged_register_form.proofs.Effects.{Sets, flag_set}
use Rattle.flagged_register_form.proofs.Effects.Effect.{sets}
use Rattle.flagged_register_form.proofs.Later.{Later, later, flagged_later, note_later, made_later, decided_later, value_later, content_later}
use Rattle.flagged_register_form.proofs.Kept.FlagLists.{newly, up_value, IsDecision}
use Rattle.flagged_register_form.proofs.Kept.SpentCauses.{spent_later, differs}
use Rattle.normal_traits.proofs.Stays.{word_beside}
use Rattle.client_lemmas.proofs.Words.{same_place}
use Rattle.client_lemmas.proofs.Growing.{each_more, pairs_more}

pub sets_kept : (world : World) (list : Listed) (from word : ℕ) → Shape world → Sets world list from word → Shape (flag_set list from word world)
sets_kept world list from word shape s = record {
  opened = or_right (0 == list.block) (world.used 0) shape.opened;
  items = each_more (λ (w : Won). IsBy w w.maker) (flag_won list from) world.journal after.journal refl (refl, s.entries) shape.items;
  flaggers = λ other flagged. flagger other (before other flagged);
  same_identity = λ a b fa fb. same_identity a b (before a fa) (before b fb);
  same_block = λ a b fa fb. same_block a b (before a fa) (before b fb);
  flag = inr (record { list = list; flagged = record { from = from; entries = s.entries; won = inl refl }; flag = up });
  tells = shape.tells ∙ sym (content_later world after shape l register);
  names = subst (λ r. IsName r after.used) (sym register) (names_grow shape.names);
  clear = ap versioned_bit register ∙ shape.clear;
  fits = omega (arith, shape.fits, register);
  flagged = λ change among. flagged_later world after shape l change.list (shape.flagged change among);
  passed = λ change among. omega (arith, shape.passed change among, ap versioned_version register, ap versioned_version (note_later world after shape l change.list (shape.flagged change among)));
  agreed = λ change among. decided_later world after shape l change.list true (shape.flagged change among) (shape.agreed change among);
  effective = shape.effective;
  one_list = shape.one_list;
  one_block = shape.one_block;
  spent = each_more (λ (w : Won). IsSpent after w.cause) (flag_won list from) world.journal after.journal refl (record { used = own_used; over = tt }) (λ item among. spent_later world after l grows flags item.cause (shape.spent item among));
  causes_differ = pairs_more (λ (a b : Won). a.cause ≢ b.cause) (flag_won list from) world.journal after.journal refl (differs world shape (cause_here list.block 0) (λ spent'. unused list.block spent'.used refl)) shape.causes_differ;
}
  where
    after : World
    after = flag_set list from word world

    l : Later world after
    l = later world after shape (sets list from word s)

    register : after.words REGISTER ≡ world.words REGISTER
    register = word_beside FLAG word world.words REGISTER register_flag

    up : cleared_word (after.words FLAG) ≡ flag_of list.entries
    up = ap cleared_word (same_place FLAG word world.words) ∙ s.exchanged.to ∙ sym (ap flag_of s.entries)

    unused : (block : ℕ) → world.used block ≡ true → block ≢ list.block
    unused block used e = let used' : world.used list.block ≡ true = subst (λ b. world.used b ≡ true) e used in let no' = s.unused in absurd cc

    grows : (block : ℕ) → world.used block ≡ true → after.used block ≡ true
    grows block used = or_right (block == list.block) (world.used block) used

    own_used : after.used list.block ≡ true
    own_used = or_left (list.block == list.block) (world.used list.block) (eq-eqb list.block list.block refl)

    before : (other : Listed) → Flagged after other → (other ≡ list) ⊎ Flagged world other
    before other flagged = newly world list from word other flagged

    names_grow : IsName (world.words REGISTER) world.used → IsName (world.words REGISTER) after.used
    names_grow (inl none) = inl none
    names_grow (inr name) = inr (name.0, grows name.0 name.1, name.2, name.3)

    undecided : after.words (decision_place list.block) ≡ 0
    undecided = word_beside FLAG word world.words (decision_place list.block) (decision_flag list.block) ∙ s.undecided

    own : IsFlagger after list
    own = record {
      some = s.some;
      small = s.small;
      used = own_used;
      key = s.key;
      value = word_beside FLAG word world.words (value_at list.block) (value_flag list.block) ∙ s.value;
      fate = inl (record {
        flag = up;
        register = register ∙ s.noted ∙ sym (word_beside FLAG word world.words (note_place list.block) (note_flag list.block));
        toggles = subst (λ r. toggles list.call.op r ≡ true) (sym register) s.toggles;
        not_gone = λ gone. decided_some false (sym gone ∙ undecided);
      });
      decision = inl undecided;
    }

    flagger : (other : Listed) → (other ≡ list) ⊎ Flagged world other → IsFlagger after other
    flagger other (inl e) = subst (IsFlagger after) (sym e) own
    flagger other (inr flagged) = let f = shape.flaggers other flagged in record { some = f.some; small = f.small; used = grows other.block f.used; key = f.key; value = value_later world after shape l other flagged ∙ f.value; fate = fate f.fate; decision = subst IsDecision (sym same) f.decision }
      where
        same : after.words (decision_place other.block) ≡ world.words (decision_place other.block)
        same = word_beside FLAG word world.words (decision_place other.block) (decision_flag other.block)

        fate : Stands world other ⊎ (Made world other ⊎ IsGone world other) → Stands after other ⊎ (Made after other ⊎ IsGone after other)
        fate (inr (inr gone)) = inr (inr (same ∙ gone))
        fate (inr (inl made)) = inr (inl (made_later world after shape l other flagged made))
        fate (inl stands) = absurd (omega (arith, up_value world shape other flagged stands.flag, ap versioned_value s.here, s.down))

    same_identity : (a b : Listed) → (a ≡ list) ⊎ Flagged world a → (b ≡ list) ⊎ Flagged world b → a.identity ≡ b.identity → a ≡ b
    same_identity a b (inl ea) (inl eb) e = ea ∙ sym eb
    same_identity a b (inl ea) (inr fb) e = absurd (s.fresh b (sym e ∙ ap (λ (x : Listed). x.identity) ea) fb)
    same_identity a b (inr fa) (inl eb) e = absurd (s.fresh a (e ∙ ap (λ (x : Listed). x.identity) eb) fa)
    same_identity a b (inr fa) (inr fb) e = shape.same_identity a b fa fb e

    same_block : (a b : Listed) → (a ≡ list) ⊎ Flagged world a → (b ≡ list) ⊎ Flagged world b → a.block ≡ b.block → a ≡ b
    same_block a b (inl ea) (inl eb) e = ea ∙ sym eb
    same_block a b (inl ea) (inr fb) e = absurd (unused b.block (shape.flaggers b fb).used (sym e ∙ ap (λ (x : Listed). x.block) ea))
    same_block a b (inr fa) (inl eb) e = absurd (unused a.block (shape.flaggers a fa).used (e ∙ ap (λ (x : Listed). x.block) eb))
    same_block a b (inr fa) (inr fb) e = shape.same_block a b fa fb e

    flags : (block : ℕ) → world.used block ≡ true → versioned_value (after.words FLAG) ≡ flag_value block → versioned_value (world.words FLAG) ≡ flag_value block
    flags block used e =
        let value : versioned_value (after.words FLAG) ≡ flag_value list.block = sym (value-cleared (after.words FLAG)) ∙ ap versioned_value (up ∙ ap flag_of s.entries) ∙ flagged_value from list.block s.small in
        absurd (unused block used (omega (arith, e, value)))
