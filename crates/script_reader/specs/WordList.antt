-- What the code keeps of the words of a line.
use Rattle.std.specs.Prelude.{◌≡◌, ℕ, ◌<◌, List, [], ◌∷◌, length}
use Rattle.script_reader.specs.declared.words.Words.{Words}
use Rattle.script_reader.specs.declared.words.Words.TheVariants.{None, One, Two, Three, More}

-- these are the words of a line, in order
abbrev pub AreWords : Words → List (List ℕ) → Type 0
AreWords None words = words ≡ []
AreWords (One a) words = words ≡ a.now ∷ []
AreWords (Two a b) words = words ≡ a.now ∷ b.now ∷ []
AreWords (Three a b c) words = words ≡ a.now ∷ b.now ∷ c.now ∷ []
AreWords More words = 3 < length words
