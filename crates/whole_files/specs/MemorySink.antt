-- What a sink in memory is: the bytes written, the room that it began with, and the calls that fail.
use Rattle.std.specs.Prelude.{ℕ, List}

pub record MemorySink : Type 0 where
  pub bytes : List ℕ
  -- how many bytes it takes in all
  pub room : ℕ
  -- the numbers of the calls that fail
  pub fails : List ℕ
  -- at most so many bytes are taken by one call
  pub most : ℕ
  -- how many calls were made
  pub calls : ℕ
  pub faults : ℕ
