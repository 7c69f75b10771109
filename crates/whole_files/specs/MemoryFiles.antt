-- What files in memory are: named bytes, the calls that fail, and what is left of the chosen file.
use Rattle.std.specs.Prelude.{ℕ, List}
use Rattle.whole_files.specs.Outside.{Opening}

pub record MemoryFiles : Type 0 where
  -- the names with their bytes
  pub files : List (List ℕ × List ℕ)
  -- the numbers of the calls that fail
  pub fails : List ℕ
  -- at most so many bytes are given by one read
  pub most : ℕ
  -- how many calls were made
  pub calls : ℕ
  -- what is left of the chosen file
  pub rest : List ℕ
  -- the openings so far, the newest first
  pub opened : List Opening
  pub faults : ℕ
