-- Causes: one that is spent stays so, and one that isn't differs from all before it.
use Rattle.std.proofs.Common.{◌≡◌, ◌≢◌, ℕ, zero, suc, true, sym, ap, subst, ◌∙◌, arith}
use Rattle.word_fields.specs.Versioned.{versioned_value, versioned_version}
use Rattle.normal_traits.specs.World.{Cause, Won, World, Among}
use Rattle.flagged_register_form.specs.Register.{FLAG, flag_value}
use Rattle.flagged_register_form.specs.Meanings.{Shape, IsOver, IsSpent}
use Rattle.flagged_register_form.proofs.Later.{Later}

pub spent_later : (world after : World) → Later world after → ((block : ℕ) → world.used block ≡ true → after.used block ≡ true)
    → ((block : ℕ) → world.used block ≡ true → versioned_value (after.words FLAG) ≡ flag_value block → versioned_value (world.words FLAG) ≡ flag_value block)
    → (cause : Cause) → IsSpent world cause → IsSpent after cause
spent_later world after l grows flags cause spent = record { used = grows cause.block spent.used; over = over cause.kind spent.over }
  where
    over : (kind : ℕ) → IsOver world cause.block kind → IsOver after cause.block kind
    over zero o = tt
    over (suc zero) o = omega (arith, o, l.register, ap versioned_version (l.notes cause.block spent.used))
    over (suc (suc zero)) o = λ e. o (flags cause.block spent.used e)
    over (suc (suc (suc zero))) o = λ e. o (sym (l.decisions cause.block spent.used o) ∙ e)
    over (suc (suc (suc (suc kind)))) o = absurd o

-- a cause that isn't spent differs from all before it
pub differs : (world : World) → Shape world → (cause : Cause) → ¬ IsSpent world cause → (b : Won) → Among b world.journal → cause ≢ b.cause
differs world shape cause unspent b among e = unspent (subst (IsSpent world) (sym e) (shape.spent b among))
