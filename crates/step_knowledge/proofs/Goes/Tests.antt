-- What tests of the phase table say.
use Rattle.std.proofs.Common.{◌≡◌, refl, not, Bool, true, false}
use Rattle.fast_slow_engine.specs.declared.help.WorkTurn.TheVariants.{Going}
use Rattle.fast_slow_engine.specs.HelpTable.{again_if}
use Rattle.normal_traits.specs.NormalForm.{NormalForm}

-- a turn goes on only where the test held
pub goes_if : {S W : Type 0} (form : NormalForm S W) (b : Bool) → again_if form (not b) ≡ Going → b ≡ true
goes_if form true e = refl
goes_if form false e = absurd cc
