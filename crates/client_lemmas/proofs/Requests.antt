-- What a request of a search or wrap-up beside its list amounts to, by its kind.
use Rattle.std.proofs.Common.{◌≡◌, ◌≢◌, ℕ, ◌+◌, true, false, refl, sym, subst, inl, inr, ◌⊎◌}
use Rattle.step_memory.specs.declared.steps.Request.{Request}
use Rattle.step_memory.specs.declared.steps.Request.TheVariants.{Load, Store, Exchange, Add}
use Rattle.step_memory.specs.declared.steps.Seen.{Seen}
use Rattle.word_fields.specs.Versioned.{versioned_version}
use Rattle.normal_traits.specs.World.{World}
use Rattle.normal_traits.specs.World.Maker.{Beside}
use Rattle.normal_traits.specs.NormalForm.{NormalForm}
use Rattle.normal_traits.specs.Steps.{Requested, exchanged}
use Rattle.normal_traits.specs.Steps.Requested.{loaded, lost, won}

-- a load leaves the world and sees its word
abbrev pub HasLoaded : World → World → Seen → ℕ → Type 0
HasLoaded world after seen place = (after ≡ world) × (seen ≡ record { before = world.words place; won = true })

-- what holds of the world and of what was loaded there holds afterwards
pub from_load : (world after : World) (seen : Seen) (place : ℕ) (P : World → Seen → Type 0) → HasLoaded world after seen place → P world (record { before = world.words place; won = true }) → P after seen
from_load world after seen place P w p = subst (λ (a : World). P a seen) (sym w.0) (subst (P world) (sym w.1) p)

module _ {S W : Type 0} (form : NormalForm S W) where
  -- an exchange is won, beside the lists
  abbrev pub HasWon : World → World → Seen → ℕ → ℕ → ℕ → Type 0
  HasWon world after seen place from to =
      (world.words place ≡ from) × (versioned_version to ≡ versioned_version from + 1)
      × (after ≡ exchanged form Beside (form.adds_beside world (record { target = place; from = from; to = to })) (record { target = place; from = from; to = to }) to world)
      × (seen ≡ record { before = from; won = true })

  -- a request loads, loses or wins
  abbrev pub Went : Request → World → World → Seen → Type 0
  Went (Load place) world after seen = HasLoaded world after seen place
  Went (Store place word) world after seen = ⊥
  Went (Exchange place from to) world after seen =
      ((world.words place ≢ from) × (after ≡ world) × (seen ≡ record { before = world.words place; won = false })) ⊎ HasWon world after seen place from to
  Went (Add place by) world after seen = ⊥

  pub went : (request : Request) (world after : World) (seen : Seen) → Requested form request world after seen → Went request world after seen
  went _ _ _ _ (loaded place) = (refl, refl)
  went _ _ _ _ (lost place from to differs) = inl (differs, refl, refl)
  went _ _ _ _ (won place from to same raised) = inr (same, raised, refl, refl)
