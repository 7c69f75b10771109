-- The four things that an allowed step may do to the world of the flagged register.
use Rattle.std.proofs.Common.{◌≡◌, ℕ, ◌+◌, ◌^◌, ◌<◌, true, false, [], ◌∷◌, ◌⊎◌, Bool}
use Rattle.word_fields.specs.Versioned.{versioned_value, versioned_version, changed_word, cleared_word}
use Rattle.lin_report.specs.Object.{map_object}
use Rattle.normal_traits.specs.World.{Listed, Won, World}
use Rattle.normal_traits.specs.World.Maker.{Beside}
use Rattle.normal_traits.specs.Steps.{with_word, change_of, using_block, IsExchanged}
use Rattle.flagged_register_form.specs.Register.{FLAG, REGISTER, note_place, toggled, toggles, flag_entry, flag_of, decision_place, decided, value_at}
use Rattle.flagged_register_form.specs.Meanings.{Flagged, Made, Stands, flag_won, cause_here, IsGone}

-- a flag is set
abbrev pub flag_set : Listed → ℕ → ℕ → World → World
flag_set list from word world =
    record { words = with_word FLAG word world.words; changes = world.changes; used = using_block list.block world.used; journal = flag_won list from ∷ world.journal }

-- the change of a flag is made
abbrev pub made_won : Listed → ℕ → Won
made_won list register = record { place = REGISTER; before = register; after = toggled register list.block; maker = Beside; cause = cause_here list.block 1 }

abbrev pub change_made : Listed → World → World
change_made list world =
    record {
      words = with_word REGISTER (toggled (world.words REGISTER) list.block) world.words;
      changes = change_of map_object list world.changes ∷ world.changes;
      used = world.used;
      journal = made_won list (world.words REGISTER) ∷ world.journal;
    }

-- a flag is taken away
abbrev pub cleared_won : Listed → ℕ → Won
cleared_won list flag = record { place = FLAG; before = flag; after = changed_word flag 0; maker = Beside; cause = cause_here list.block 2 }

abbrev pub flag_cleared : Listed → ℕ → World → World
flag_cleared list flag world =
    record { words = with_word FLAG (changed_word flag 0) world.words; changes = world.changes; used = world.used; journal = cleared_won list flag ∷ world.journal }

-- it is decided whether a change is made
abbrev pub decided_won : Listed → Bool → Won
decided_won list made = record { place = decision_place list.block; before = 0; after = decided made; maker = Beside; cause = cause_here list.block 3 }

abbrev pub change_decided : Listed → Bool → World → World
change_decided list made world =
    record {
      words = with_word (decision_place list.block) (decided made) world.words;
      changes = world.changes;
      used = world.used;
      journal = decided_won list made ∷ world.journal;
    }

-- nothing but words elsewhere, or the bit of the flag
pub record Quiet (world : World) (words : ℕ → ℕ) : Type 0 where
  pub flag : (words FLAG ≡ world.words FLAG) ⊎ (words FLAG ≡ cleared_word (world.words FLAG))
  pub register : words REGISTER ≡ world.words REGISTER
  pub notes : (block : ℕ) → world.used block ≡ true → words (note_place block) ≡ world.words (note_place block)
  pub values : (block : ℕ) → world.used block ≡ true → words (value_at block) ≡ world.words (value_at block)
  pub decisions : (block : ℕ) → world.used block ≡ true → words (decision_place block) ≡ world.words (decision_place block)

pub record Sets (world : World) (list : Listed) (from word : ℕ) : Type 0 where
  pub entries : list.entries ≡ flag_entry from list.block ∷ []
  pub some : 0 < list.block
  pub small : list.block < 2 ^ 17
  pub unused : world.used list.block ≡ false
  pub key : list.call.op.key ≡ 0
  pub toggles : toggles list.call.op (world.words REGISTER) ≡ true
  pub down : versioned_value from ≡ 0
  pub here : world.words FLAG ≡ from
  pub noted : world.words REGISTER ≡ world.words (note_place list.block)
  pub undecided : world.words (decision_place list.block) ≡ 0
  pub value : world.words (value_at list.block) ≡ list.call.op.value
  pub exchanged : IsExchanged (flag_entry from list.block) word
  pub fresh : (other : Listed) → other.identity ≡ list.identity → ¬ Flagged world other

pub record Makes (world : World) (list : Listed) : Type 0 where
  pub flagged : Flagged world list
  pub stands : Stands world list
  pub agreed : world.words (decision_place list.block) ≡ decided true
  pub raised : versioned_version (toggled (world.words REGISTER) list.block) ≡ versioned_version (world.words REGISTER) + 1

pub record Clears (world : World) (list : Listed) (flag : ℕ) : Type 0 where
  pub flagged : Flagged world list
  pub ends : Made world list ⊎ IsGone world list
  pub own : flag ≡ flag_of list.entries
  pub here : world.words FLAG ≡ flag
  pub raised : versioned_version (changed_word flag 0) ≡ versioned_version flag + 1

pub record Decides (world : World) (list : Listed) : Type 0 where
  pub flagged : Flagged world list
  pub undecided : world.words (decision_place list.block) ≡ 0

pub data Effect (world : World) : World → Type 0 where
  quiet : (words : ℕ → ℕ) → Quiet world words → Effect world (record { words = words; changes = world.changes; used = world.used; journal = world.journal })
  sets : (list : Listed) (from word : ℕ) → Sets world list from word → Effect world (flag_set list from word world)
  makes : (list : Listed) → Makes world list → Effect world (change_made list world)
  decides : (list : Listed) (made : Bool) → Decides world list → Effect world (change_decided list made world)
  clears : (list : Listed) (flag : ℕ) → Clears world list flag → Effect world (flag_cleared list flag world)
