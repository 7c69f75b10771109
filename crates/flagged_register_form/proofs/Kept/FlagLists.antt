-- The lists that set the flag, before and after a step, and the one whose flag is up.
use Rattle.std.proofs.Common.{◌≡◌, ℕ, ◌<◌, true, false, ◌∷◌, subst, sym, ap, ◌∙◌, inl, inr, ◌⊎◌, arith}
use Rattle.word_fields.specs.Versioned.{versioned_value, versioned_version, cleared_word}
use Rattle.word_fields.proofs.ChangedWords.{value-cleared}
use Rattle.normal_traits.specs.World.{Listed, Won, World, Among}
use Rattle.normal_traits.specs.World.Maker.{By, Beside}
use Rattle.flagged_register_form.specs.Register.{FLAG, REGISTER, note_place, flag_value, flag_of, decided}
use Rattle.flagged_register_form.specs.Meanings.{Flagged, Stands, Shape, flag_won}
use Rattle.flagged_register_form.proofs.Effects.{flag_set}
use Rattle.flagged_register_form.proofs.Later.{flag_names}

-- ---- lists that set the flag, before and after

pub flagged_from : (a b : World) (list : Listed) → ((item : Won) → Among item a.journal → Among item b.journal) → Flagged a list → Flagged b list
flagged_from a b list f flagged = record { from = flagged.from; entries = flagged.entries; won = f (flag_won list flagged.from) flagged.won }

-- an exchange beside the lists sets no flag
pub unset : (world after : World) (new : Won) → after.journal ≡ new ∷ world.journal → new.maker ≡ Beside → (list : Listed) → Flagged after list → Flagged world list
unset world after new journal beside list flagged = record { from = flagged.from; entries = flagged.entries; won = by_place (subst (Among (flag_won list flagged.from)) journal flagged.won) }
  where
    by_place : (flag_won list flagged.from ≡ new) ⊎ Among (flag_won list flagged.from) world.journal → Among (flag_won list flagged.from) world.journal
    by_place (inl e) = let by : By list 0 ≡ Beside = ap (λ (w : Won). w.maker) e ∙ beside in absurd cc
    by_place (inr among) = among

-- after the setting of a flag, the lists that set one are those before and the new one
pub newly : (world : World) (list : Listed) (from word : ℕ) (other : Listed) → Flagged (flag_set list from word world) other → (other ≡ list) ⊎ Flagged world other
newly world list from word other flagged = by_place flagged.won
  where
    by_place : Among (flag_won other flagged.from) (flag_won list from ∷ world.journal) → (other ≡ list) ⊎ Flagged world other
    by_place (inl e) = let by : By other 0 ≡ By list 0 = ap (λ (w : Won). w.maker) e in inl cc
    by_place (inr among) = inr (record { from = flagged.from; entries = flagged.entries; won = among })

-- ---- one flag is up

-- two lists whose flags are up are one
module _ (world : World) (shape : Shape world) where
  pub one_up : (a b : Listed) → Flagged world a → Flagged world b → cleared_word (world.words FLAG) ≡ flag_of a.entries → cleared_word (world.words FLAG) ≡ flag_of b.entries → a ≡ b
  one_up a b fa fb ua ub = shape.same_block a b fa fb (omega (arith, flag_names world a shape fa, flag_names world b shape fb, ap versioned_value (sym ua ∙ ub)))

  -- a list's change isn't made while its flag stands
  pub not_both : (list : Listed) → Stands world list → versioned_version (world.words (note_place list.block)) < versioned_version (world.words REGISTER) → ⊥
  not_both list stands passed = omega (arith, passed, ap versioned_version stands.register)

  pub up_value : (list : Listed) → Flagged world list → cleared_word (world.words FLAG) ≡ flag_of list.entries → versioned_value (world.words FLAG) ≡ flag_value list.block
  up_value list flagged up = sym (value-cleared (world.words FLAG)) ∙ ap versioned_value up ∙ flag_names world list shape flagged

-- a decision that is open or taken
abbrev pub IsDecision : ℕ → Type 0
IsDecision word = (word ≡ 0) ⊎ ((word ≡ decided true) ⊎ (word ≡ decided false))
