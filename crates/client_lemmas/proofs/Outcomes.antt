-- What a search found and a wrap-up says: giving up, and what is right after a step.
use Rattle.std.proofs.Common.{◌≡◌, ℕ, Bool, true, false, if◌then◌else◌, ap}
use Rattle.lin_report.specs.declared.calls.Op.{Op}
use Rattle.normal_traits.specs.declared.form.Found.{Found}
use Rattle.normal_traits.specs.declared.form.Found.TheVariants.{Going, Ready, Answer, Contended}
use Rattle.normal_traits.specs.declared.form.Wrapped.{Wrapped}
use Rattle.normal_traits.specs.World.{World, Listed}
use Rattle.normal_traits.specs.NormalForm.{NormalForm}
use Rattle.normal_traits.specs.Laws.{FoundWell, WrappedWell}

-- what holds of both ways holds of a choice
pub either : {X : Type 0} (P : X → Type 0) (b : Bool) (one other : X) → P one → P other → P (if b then one else other)
either P true one other y n = y
either P false one other y n = n

-- each finding as a test, which tells giving up from the others
abbrev pub gives_up : Found → Bool
gives_up Going = false
gives_up Ready = false
gives_up (Answer outcome) = false
gives_up Contended = true

pub gave_up : (found : Found) → found ≡ Contended → gives_up found ≡ true
gave_up found e = ap gives_up e

module _ {S W : Type 0} (form : NormalForm S W) where
  -- what a fed search knows, and what it found, are right
  abbrev pub FedWell : World → Op → ℕ → S × Found → Type 0
  FedWell world op since result = form.knows result.0 op world since × FoundWell form world op since result.0 result.1

  -- what a wrap-up is and says is right
  abbrev pub WellWrapped : World → Listed → ℕ → W × Wrapped → Type 0
  WellWrapped world list stop result = WrappedWell form world list stop result.0 result.1
