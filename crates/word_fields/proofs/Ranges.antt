-- A range has one proof at most, so fields alone tell words apart.
use Rattle.std.proofs.Common.{ℕ, ◌<◌}
use Rattle.std.proofs.Props.{props}

pub below_prop : (n limit : ℕ) → IsProp (n < limit)
below_prop n limit = hlevel props
