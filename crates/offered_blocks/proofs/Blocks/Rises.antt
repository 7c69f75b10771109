-- Of the won exchanges: each step wins none, or one whose word before stood there.
use Rattle.std.proofs.Common.{◌≡◌, ◌∙◌, sym, subst, ap, ◌+◌, ◌<◌, ◌≤◌, inl, inr, ◌⊎◌, ◌∷◌, arith}
use Rattle.word_fields.specs.Versioned.{versioned_version}
use Rattle.normal_traits.specs.World.{Among, Won, World}
use Rattle.offered_blocks.specs.Blocks.{JournalRises}

module _ (world after : World) (versions : (won : Won) → Among won world.journal → versioned_version (world.words won.place) ≤ versioned_version (after.words won.place)) where
  pub rises_same : after.journal ≡ world.journal → JournalRises world → JournalRises after
  rises_same same is =
      let back : (won : Won) → Among won after.journal → Among won world.journal = λ won among. subst (Among won) same among in
      record {
        past = λ won among. (let p = is.past won (back won among) in let v = versions won (back won among) in omega (arith, p, v));
        raised = λ won among. is.raised won (back won among);
        one = λ a b h k. is.one a b (back a h) (back b k);
      }

  -- the word before stood there, and the place is past it
  pub rises_won : (new : Won) → after.journal ≡ new ∷ world.journal → world.words new.place ≡ new.before → versioned_version new.after ≡ versioned_version new.before + 1
      → versioned_version new.before < versioned_version (after.words new.place) → JournalRises world → JournalRises after
  rises_won new grown stood raised past is =
      let split : (won : Won) → Among won after.journal → (won ≡ new) ⊎ Among won world.journal = λ won among. subst (Among won) grown among in
      let older : (won : Won) → Among won world.journal → won.place ≡ new.place → versioned_version won.before < versioned_version new.before = λ won among place.
      (let p = is.past won among in let v = ap (λ q. versioned_version (world.words q)) place in let s = ap versioned_version stood in omega (arith, p, v, s)) in
      record {
        past = λ won among. elim (split won among) [
          | inl same ↦ subst (λ (w : Won). versioned_version w.before < versioned_version (after.words w.place)) (sym same) past
          | inr old ↦ (let p = is.past won old in let v = versions won old in omega (arith, p, v))
        ];
        raised = λ won among. elim (split won among) [
          | inl same ↦ subst (λ (w : Won). versioned_version w.after ≡ versioned_version w.before + 1) (sym same) raised
          | inr old ↦ is.raised won old
        ];
        one = λ a b h k place version. elim (split a h) [
          | inl first ↦ elim (split b k) [
            | inl second ↦ first ∙ sym second
            | inr old ↦ (let less = older b old (sym place ∙ ap (λ (w : Won). w.place) first) in let v = ap (λ (w : Won). versioned_version w.before) first in absurd (omega (arith, less, version, v)))
          ]
          | inr older' ↦ elim (split b k) [
            | inl second ↦ (let less = older a older' (place ∙ ap (λ (w : Won). w.place) second) in let v = ap (λ (w : Won). versioned_version w.before) second in absurd (omega (arith, less, version, v)))
            | inr old ↦ is.one a b older' old place version
          ]
        ];
      }
