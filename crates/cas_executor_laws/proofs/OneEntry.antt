-- Each part of one entry, through each kind of step.
use Rattle.std.proofs.Common.{◌≡◌, ◌∙◌, refl, sym, ap, subst, ℕ, zero, suc, ◌+◌, ◌≤◌, Bool, true, false, inl, inr, arith}
use Rattle.word_fields.specs.Versioned.{versioned_bit, versioned_version, marked_word, cleared_word}
use Rattle.word_fields.proofs.ChangedWords.{bit-marked, version-marked, bit-cleared, version-cleared, cleared-clear}
use Rattle.normal_traits.specs.declared.lists.Entry.{Entry}
use Rattle.cas_executor_laws.specs.Entries.{IsRaised, View, IsPast, IsShown, StandsOrPassed, Life, OwnsBit, Moves, Turn, LeavesBit, Later}
use Rattle.cas_executor_laws.specs.Entries.Moves.{kept, cleared, raised as rises}
use Rattle.cas_executor_laws.specs.Entries.Turn.{stays, installs, succeeds, fails, clears, moves}

-- a test has one answer
pub true≢false : (b : Bool) → b ≡ true → b ≡ false → ⊥
true≢false b is isnt = absurd cc

module _ (entry : Entry) (raised : IsRaised entry) where
  -- ---- words of an entry

  -- the shown word is one version above `from`, and its bit is set
  pub shown_version : (word : ℕ) → word ≡ marked_word entry.to → versioned_version word ≡ versioned_version entry.from + 1
  shown_version word e = ap versioned_version e ∙ version-marked entry.to ∙ raised.version

  pub shown_bit : (word : ℕ) → word ≡ marked_word entry.to → versioned_bit word ≡ 1
  shown_bit word e = ap versioned_bit e ∙ bit-marked entry.to

  -- a shown entry is past `from`
  pub shown_past : (view : View) → IsShown entry view → IsPast entry view
  shown_past view e = omega (arith, shown_version view.word e)

  -- `from` isn't past itself
  pub past_not_from : (view : View) → IsPast entry view → view.word ≡ entry.from → ⊥
  past_not_from view past e = omega (arith, past, ap versioned_version e)

  -- ---- others' steps

  -- a target past `from` stays past it
  moved_past : (old new : View) → Moves old.word new.word → IsPast entry old → IsPast entry new
  moved_past old new (kept e) past = omega (arith, past, ap versioned_version e)
  moved_past old new (cleared e) past = omega (arith, past, ap versioned_version e, version-cleared old.word)
  moved_past old new (rises more) past = omega (arith, past, more)

  -- and where it doesn't show the entry, it doesn't again
  moved_gone : (old new : View) → Moves old.word new.word → IsPast entry old → ¬ IsShown entry old → ¬ IsShown entry new
  moved_gone old new (kept e) past gone shown = gone (sym e ∙ shown)
  moved_gone old new (cleared e) past gone shown = absurd (omega (arith, shown_bit new.word shown, ap versioned_bit e, bit-cleared old.word))
  moved_gone old new (rises more) past gone shown = absurd (omega (arith, shown_version new.word shown, past, more))

  moved_seen : (old new : View) → Moves old.word new.word → StandsOrPassed entry old → StandsOrPassed entry new
  moved_seen old new m (inr past) = inr (moved_past old new m past)
  moved_seen old new (kept e) (inl at) = inl (e ∙ at)
  moved_seen old new (cleared e) (inl at) = inl (e ∙ ap cleared_word at ∙ cleared-clear entry.from raised.from_clear)
  moved_seen old new (rises more) (inl at) = inr (omega (arith, more, ap versioned_version at))

  -- ---- what every step leaves

  abbrev turned : (old new : View) → new.state ≡ old.state → new.word ≡ old.word → new.took ≡ old.took → Later entry old new
  turned old new s w t =
      record {
        decided = λ h. s;
        taken = λ is. t ∙ is;
        past = λ past. (omega (arith, past, ap versioned_version w));
        gone = λ past gone shown. gone (sym w ∙ shown);
        missed = λ past isnt. t ∙ isnt;
      }

  pub later : (old new : View) → Life entry old → Turn entry old new → Later entry old new
  later old new life (stays s w t) = turned old new s w t
  later old new life (installs at w s t) =
      record {
        decided = λ h. s;
        taken = λ is. t;
        past = λ past. absurd (past_not_from old past at);
        gone = λ past gone shown. past_not_from old past at;
        missed = λ past isnt. absurd (past_not_from old past at);
      }
  later old new life (succeeds waits is s w t) =
      record {
        decided = λ h. absurd (h waits);
        taken = λ is. t ∙ is;
        past = λ past. (omega (arith, past, ap versioned_version w));
        gone = λ past gone shown. gone (sym w ∙ shown);
        missed = λ past isnt. t ∙ isnt;
      }
  later old new life (fails waits isnt past gone s w t) =
      record {
        decided = λ h. absurd (h waits);
        taken = λ is. t ∙ is;
        past = λ past. (omega (arith, past, ap versioned_version w));
        gone = λ past gone shown. gone (sym w ∙ shown);
        missed = λ past isnt. t ∙ isnt;
      }
  later old new life (clears one shown w s t) =
      record {
        decided = λ h. s;
        taken = λ is. t ∙ is;
        past = λ past. (omega (arith, ap versioned_version w, raised.version));
        gone = λ past gone. absurd (gone shown);
        missed = λ past isnt. t ∙ isnt;
      }
  later old new life (moves m still s t) =
      record {
        decided = λ h. s;
        taken = λ is. t ∙ is;
        past = moved_past old new m;
        gone = moved_gone old new m;
        missed = λ past isnt. t ∙ isnt;
      }

  -- ---- that the target holds `from` or is past it

  pub seen_turned : (old new : View) → Turn entry old new → StandsOrPassed entry old → StandsOrPassed entry new
  seen_turned old new (stays s w t) seen = moved_seen old new (kept w) seen
  seen_turned old new (installs at w s t) seen = inr (shown_past new w)
  seen_turned old new (succeeds waits is s w t) seen = moved_seen old new (kept w) seen
  seen_turned old new (fails waits isnt past gone s w t) seen = moved_seen old new (kept w) seen
  seen_turned old new (clears one shown w s t) seen = inr (omega (arith, ap versioned_version w, raised.version))
  seen_turned old new (moves m still s t) seen = moved_seen old new m seen

  -- ---- the life of the entry

  -- where neither its state nor that it took effect changes, and it isn't taken, undecided and changed
  life_moved : (old new : View) → Moves old.word new.word → (old.state ≡ 0 → old.took ≡ true → new.word ≡ old.word) → new.state ≡ old.state → new.took ≡ old.took → Life entry old → Life entry new
  life_moved old new m still s t life =
      record {
        known = subst (λ n. n ≤ 2) (sym s) life.known;
        taken = λ is. moved_past old new m (life.taken (sym t ∙ is));
        pending = λ waits is. still (sym s ∙ waits) (sym t ∙ is) ∙ life.pending (sym s ∙ waits) (sym t ∙ is);
        succeeded = λ one. t ∙ life.succeeded (sym s ∙ one);
        failed = λ two. t ∙ life.failed (sym s ∙ two);
        failed_past = λ two. moved_past old new m (life.failed_past (sym s ∙ two));
        failed_gone = λ two. moved_gone old new m (life.failed_past (sym s ∙ two)) (life.failed_gone (sym s ∙ two));
      }

  -- an entry that is at `from` is pending and not taken
  pub at_from : (view : View) → Life entry view → view.word ≡ entry.from → (view.state ≡ 0) × (view.took ≡ false)
  at_from view life at =
      let undecided : view.state ≡ 0 = by_state view.state refl life.known in
      (undecided, not_taken view.took refl)
    where
      past : IsPast entry view → ⊥
      past h = past_not_from view h at

      not_taken : (b : Bool) → view.took ≡ b → b ≡ false
      not_taken true is = absurd (past (life.taken is))
      not_taken false is = refl

      by_state : (n : ℕ) → view.state ≡ n → n ≤ 2 → n ≡ 0
      by_state zero is small = refl
      by_state (suc zero) is small = absurd (past (life.taken (life.succeeded is)))
      by_state (suc (suc zero)) is small = absurd (past (life.failed_past is))
      by_state (suc (suc (suc n))) is small = absurd (omega arith)

  pub life_turned : (old new : View) → Turn entry old new → Life entry old → Life entry new
  life_turned old new (stays s w t) life = life_moved old new (kept w) (λ waits is. w) s t life
  life_turned old new (installs at w s t) life =
      let undecided : new.state ≡ 0 = s ∙ (at_from old life at).0 in
      record {
        known = omega (arith, undecided);
        taken = λ is. shown_past new w;
        pending = λ waits is. w;
        succeeded = λ one. t;
        failed = λ two. absurd (omega (arith, undecided, two));
        failed_past = λ two. absurd (omega (arith, undecided, two));
        failed_gone = λ two. absurd (omega (arith, undecided, two));
      }
  life_turned old new (succeeds waits is s w t) life =
      record {
        known = omega (arith, s);
        taken = λ h. moved_past old new (kept w) (life.taken is);
        pending = λ none. absurd (omega (arith, s, none));
        succeeded = λ one. t ∙ is;
        failed = λ two. absurd (omega (arith, s, two));
        failed_past = λ two. absurd (omega (arith, s, two));
        failed_gone = λ two. absurd (omega (arith, s, two));
      }
  life_turned old new (fails waits isnt past gone s w t) life =
      record {
        known = omega (arith, s);
        taken = λ is. absurd (true≢false old.took (sym t ∙ is) isnt);
        pending = λ none. absurd (omega (arith, s, none));
        succeeded = λ one. absurd (omega (arith, s, one));
        failed = λ two. t ∙ isnt;
        failed_past = λ two. moved_past old new (kept w) past;
        failed_gone = λ two. moved_gone old new (kept w) past gone;
      }
  life_turned old new (clears one shown w s t) life =
      let past : IsPast entry new = omega (arith, ap versioned_version w, raised.version) in
      record {
        known = subst (λ n. n ≤ 2) (sym s) life.known;
        taken = λ is. past;
        pending = λ waits. absurd (omega (arith, s, waits, one));
        succeeded = λ one. t ∙ life.succeeded (sym s ∙ one);
        failed = λ two. absurd (omega (arith, s, two, one));
        failed_past = λ two. past;
        failed_gone = λ two. absurd (omega (arith, s, two, one));
      }
  life_turned old new (moves m still s t) life = life_moved old new m still s t life

  -- ---- that a set bit of the target is the entry's

  bit_kept : (old new : View) → new.word ≡ old.word → (old.took ≡ true → new.took ≡ true) → OwnsBit entry old → OwnsBit entry new
  bit_kept old new w t owns =
      record {
        shown = λ set. w ∙ owns.shown (sym (ap versioned_bit w) ∙ set);
        took = λ set. t (owns.took (sym (ap versioned_bit w) ∙ set));
      }

  bit_none : (view : View) → versioned_bit view.word ≡ 0 → OwnsBit entry view
  bit_none view none = record { shown = λ set. absurd (omega (arith, none, set)); took = λ set. absurd (omega (arith, none, set)) }

  pub bit_turned : (old new : View) (turn : Turn entry old new) → LeavesBit entry old new turn → OwnsBit entry old → OwnsBit entry new
  bit_turned old new (stays s w t) leaves owns = bit_kept old new w (λ is. t ∙ is) owns
  bit_turned old new (installs at w s t) leaves owns = record { shown = λ set. w; took = λ set. t }
  bit_turned old new (succeeds waits is s w t) leaves owns = bit_kept old new w (λ is. t ∙ is) owns
  bit_turned old new (fails waits isnt past gone s w t) leaves owns = bit_kept old new w (λ is. t ∙ is) owns
  bit_turned old new (clears one shown w s t) leaves owns = bit_none new (ap versioned_bit w ∙ raised.to_clear)
  bit_turned old new (moves m still s t) leaves owns =
      record {
        shown = λ set. leaves set ∙ owns.shown (sym (ap versioned_bit (leaves set)) ∙ set);
        took = λ set. t ∙ owns.took (sym (ap versioned_bit (leaves set)) ∙ set);
      }
