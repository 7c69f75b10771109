-- The lines of a file, the words of a line, and the numbers that words write.
use Rattle.std.specs.Prelude.{ℕ, ◌==◌, nat_lt, nat_le, ◌&&◌, if◌then◌else◌, Bool, List, [], ◌∷◌, length, filter, Option, Some, None}
use Rattle.std.specs.List.{slice_split, list_all}
use Rattle.std.specs.Char.{is_ascii_digit}
use Rattle.std.specs.Str.Parse.{digits_value}

-- the byte that ends a line
abbrev pub is_newline : ℕ → Bool
is_newline byte = byte == 10

-- the byte between words
abbrev pub is_space : ℕ → Bool
is_space byte = byte == 32

-- the parts without the last one where it is empty
abbrev pub without_empty_end : List (List ℕ) → List (List ℕ)
without_empty_end [] = []
without_empty_end (part ∷ []) = if length part == 0 then [] else part ∷ []
without_empty_end (part ∷ next ∷ parts) = part ∷ without_empty_end (next ∷ parts)

-- the lines of a file, without their newlines; the last one may lack it
abbrev pub lines_of : List ℕ → List (List ℕ)
lines_of bytes = without_empty_end (slice_split is_newline bytes)

abbrev pub is_word : List ℕ → Bool
is_word part = nat_lt 0 (length part)

-- the words of a line: one or more spaces stand between them, any number before and after
abbrev pub words_of : List ℕ → List (List ℕ)
words_of line = filter is_word (slice_split is_space line)

-- a word of ASCII digits alone
abbrev pub is_number : List ℕ → Bool
is_number word = list_all is_ascii_digit word

-- the number that a word writes in ASCII digits, where it is at most this; leading zeros count nothing
abbrev pub number_up_to : ℕ → List ℕ → Option ℕ
number_up_to most word =
    if is_number word && nat_le (digits_value 10 word) most then Some (digits_value 10 word) else None
