-- Faults of the outside, and what is in memory in its place in a test.
use Rattle.std.specs.Prelude.{◌≡◌, ℕ, ◌+◌, ◌-◌, ◌≤◌, min, ◌^◌, Option, Some, None, List, [], ◌∷◌, is_some, take, if◌then◌else◌}
use Rattle.std.specs.Io.KnownBytes.{Appends}
use Rattle.std.specs.Str.{bytes_eq}

-- the last value of a count of faults, at which it stays
abbrev pub LAST_COUNT : ℕ
LAST_COUNT = 2 ^ 64 - 1

-- a count of faults rose, or stands at its last value
abbrev pub Rose : ℕ → ℕ → Type 0
Rose before now = min (before + 1) LAST_COUNT ≤ now

-- whether the object tells its bytes hasn't changed
abbrev pub StillTells : Option (List ℕ) → Option (List ℕ) → Type 0
StillTells before now = is_some now ≡ is_some before

-- of two files with one name the first counts
abbrev pub first_named : List ℕ → List (List ℕ × List ℕ) → Option (List ℕ)
first_named name [] = None
first_named name (file ∷ files) = if bytes_eq file.0 name then Some file.1 else first_named name files

-- known bytes grow by the first bytes of a text, maybe by none
abbrev pub AppendsPrefix : Option (List ℕ) → Option (List ℕ) → List ℕ → Type 0
AppendsPrefix old new text = (count : ℕ) × Appends old new (take count text)

-- a message was written whole, or the first bytes of it where the sink had a fault
pub record WritesMessage (written written' : Option (List ℕ)) (faults faults' : ℕ) (message : List ℕ) : Type 0 where
  pub prefix : AppendsPrefix written written' message
  pub whole : ¬ Rose faults faults' → Appends written written' message

-- an opening of a file: its name, and the count of faults before it
abbrev pub Opening : Type 0
Opening = List ℕ × ℕ
