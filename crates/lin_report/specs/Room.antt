-- Bytes that are put last in a vector which has room for them, so that no memory is taken.
use Rattle.std.specs.Prelude.{◌≡◌, ℕ, ◌+◌, ◌≤◌, List, ◌++◌, length, Vec, vec_len, vec_capacity}
use Rattle.std.specs.declared.alloc.Global.{Global}

-- there is room for this many more bytes; what a caller of the report's writers has to show
abbrev pub HasRoom : Vec ℕ Global → ℕ → Type 0
HasRoom room count = vec_len room + count ≤ vec_capacity room

-- the bytes were put last, and the vector still has the memory that it had
pub record Appends (old new : Vec ℕ Global) (bytes : List ℕ) : Type 0 where
  pub items : new.items ≡ old.items ++ bytes
  pub len : vec_len new ≡ vec_len old + length bytes
  pub capacity : vec_capacity new ≡ vec_capacity old
