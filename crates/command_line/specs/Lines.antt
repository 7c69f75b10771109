-- The lines that are written in place of a result.
use Rattle.std.specs.Prelude.{ℕ, List, ◌++◌, codes, decimal}

-- the words are none that are served
abbrev pub USAGE_LINE : List ℕ
USAGE_LINE = codes "nwf: usage\n"

-- a file is refused, at a line, for a cause; each by its number
abbrev pub refused_line : (file line cause : ℕ) → List ℕ
refused_line file line cause =
    codes "nwf: refused file " ++ decimal file ++ codes " line " ++ decimal line ++ codes " cause " ++ decimal cause ++ codes "\n"

-- a file couldn't be read
abbrev pub unread_line : ℕ → List ℕ
unread_line file = codes "nwf: read fault file " ++ decimal file ++ codes "\n"

-- there was no memory
abbrev pub NO_MEMORY_LINE : List ℕ
NO_MEMORY_LINE = codes "nwf: no memory\n"
