-- When the words of the command line are of a form, and which of them is wrong where they aren't.
use Rattle.std.specs.Prelude.{◌≡◌, ℕ, ◌+◌, ◌<◌, ◌≤◌, IsTrue, List, [], ◌∷◌, length, slice_index_or, Some, None, IsSomeAnd, Option}
use Rattle.person_messages.specs.declared.forms.Command.{Command}
use Rattle.person_messages.specs.declared.forms.Place.{Place}
use Rattle.person_messages.specs.declared.word_faults.WordFault.{WordFault}
use Rattle.person_messages.specs.declared.word_faults.WordFault.TheVariants.{NoCommand, UnknownCommand, Wrong, TooMany, Missing}
use Rattle.person_messages.specs.Forms.{command_named, least_words, may_stand, place_at}

-- so many words behind a command, from the first on, may each stand where they stand
abbrev pub MayStandBelow : Command → List (List ℕ) → ℕ → Type 0
MayStandBelow command words n = (k : ℕ) → k < n → IsTrue (may_stand command k (slice_index_or words k []))

-- this word behind a command is the first that may not stand where it stands
pub record IsFirstWrong (command : Command) (words : List (List ℕ)) (at : ℕ) : Type 0 where
  pub within : at < length words
  pub before : MayStandBelow command words at
  pub wrong : ¬ IsTrue (may_stand command at (slice_index_or words at []))

-- the words behind a command are of its form
pub record AreOfForm (command : Command) (words : List (List ℕ)) : Type 0 where
  pub enough : least_words command ≤ length words
  pub each : MayStandBelow command words (length words)

-- the words of the command line are of a form
abbrev pub AreServed : List (List ℕ) → Type 0
AreServed [] = ⊥
AreServed (first ∷ words) = IsSomeAnd (command_named first) (λ command. AreOfForm command words)

-- this word is the first that is wrong, and that stands for this place, or for none
abbrev pub IsWrongAt : Command → List (List ℕ) → ℕ → Option Place → Type 0
IsWrongAt command words at place = (k : ℕ) × (at ≡ k + 1) × IsFirstWrong command words k × (place_at command k ≡ place)

-- the words end in front of this place
pub record IsMissing (command : Command) (words : List (List ℕ)) (place : Place) : Type 0 where
  pub few : length words < least_words command
  pub each : MayStandBelow command words (length words)
  pub next : place_at command (length words) ≡ Some place

-- what is told is so of the words of the command line
abbrev pub IsWordFault : List (List ℕ) → WordFault → Type 0
IsWordFault [] fault = fault ≡ NoCommand
IsWordFault (first ∷ words) NoCommand = ⊥
IsWordFault (first ∷ words) UnknownCommand = command_named first ≡ None
IsWordFault (first ∷ words) (Wrong at place) = IsSomeAnd (command_named first) (λ command. IsWrongAt command words at (Some place))
IsWordFault (first ∷ words) (TooMany at) = IsSomeAnd (command_named first) (λ command. IsWrongAt command words at None)
IsWordFault (first ∷ words) (Missing place) = IsSomeAnd (command_named first) (λ command. IsMissing command words place)
