-- Each effect keeps the shape.
use Rattle.normal_traits.specs.World.{World}
use Rattle.flagged_register_form.specs.Meanings.{Shape}
use Rattle.flagged_register_form.proofs.Effects.{Effect}
use Rattle.flagged_register_form.proofs.Effects.Effect.{quiet, sets, makes, decides, clears}
use Rattle.flagged_register_form.proofs.Kept.QuietStep.{quiet_kept}
use Rattle.flagged_register_form.proofs.Kept.FlagSet.{sets_kept}
use Rattle.flagged_register_form.proofs.Kept.ChangeMade.{makes_kept}
use Rattle.flagged_register_form.proofs.Kept.FlagCleared.{clears_kept}
use Rattle.flagged_register_form.proofs.Kept.ChangeDecided.{decides_kept}

pub effect_keeps : (world after : World) → Shape world → Effect world after → Shape after
effect_keeps world after shape (quiet words q) = quiet_kept world words shape q
effect_keeps world after shape (sets list from word s) = sets_kept world list from word shape s
effect_keeps world after shape (makes list m) = makes_kept world list shape m
effect_keeps world after shape (decides list made d) = decides_kept world list made shape d
effect_keeps world after shape (clears list flag c) = clears_kept world list flag shape c
