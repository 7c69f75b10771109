-- Which numbers are keys.
use Rattle.std.specs.Prelude.{ℕ, if◌then◌else◌, nat_lt, Option, Some, None}
use Rattle.lin_report.specs.Commands.{KEY_LIMIT}

-- the key with this number, which contracts see as the number, where it is below the limit of keys
abbrev pub key_of : ℕ → Option ℕ
key_of number = if nat_lt number KEY_LIMIT then Some number else None
