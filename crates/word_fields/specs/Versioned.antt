-- A versioned word: a value in bits 0 to 23, a modified bit, and a version from bit 25 on. Each
-- changing exchange raises the version, so such a word is never the same twice.
use Rattle.std.specs.Prelude.{ℕ, ◌+◌, ◌*◌, ◌/◌, ◌%◌, ◌^◌, ◌<◌, ◌==◌, Bool, true, false}
use Rattle.std.proofs.lemmas.Nat.{pow_pos, mod_below}
use Rattle.word_fields.specs.declared.versioned.VersionedWord.{VersionedWord}

-- the value of a word: in the queue and in the tree's child words a reference
unfoldable pub versioned_value : ℕ → ℕ
versioned_value w = w % 2 ^ 24

-- its modified bit: 1 while an entry that changed the word isn't decided
unfoldable pub versioned_bit : ℕ → ℕ
versioned_bit w = w / 2 ^ 24 % 2

-- its version
unfoldable pub versioned_version : ℕ → ℕ
versioned_version w = w / 2 ^ 25

-- whether the modified bit is set
abbrev pub is_modified : ℕ → Bool
is_modified w = versioned_bit w == 1

-- the word of a value, a bit and a version
unfoldable pub versioned_word : ℕ → ℕ → ℕ → ℕ
versioned_word value bit version = value + 2 ^ 24 * bit + 2 ^ 25 * version

-- the word that a changing exchange writes: this value, bit clear, version one higher
unfoldable pub changed_word : ℕ → ℕ → ℕ
changed_word w value = versioned_word value 0 ((versioned_version w + 1) % 2 ^ 39)

-- the word with its bit set
unfoldable pub marked_word : ℕ → ℕ
marked_word w = versioned_word (versioned_value w) 1 (versioned_version w)

-- the word with its bit clear
unfoldable pub cleared_word : ℕ → ℕ
cleared_word w = versioned_word (versioned_value w) 0 (versioned_version w)

-- a bit as a number
abbrev pub bit_of : Bool → ℕ
bit_of true = 1
bit_of false = 0

-- what `pack` gives
abbrev pub packed_versioned : VersionedWord → ℕ
packed_versioned v = versioned_word v.value (bit_of v.modified) v.version

pub value_below : (w : ℕ) → versioned_value w < 2 ^ 24
unfolding versioned_value
value_below w = mod_below w (2 ^ 24) (pow_pos 24)

-- what `unpack` gives: a word has versions below 2^39 alone
abbrev pub versioned_of : ℕ → VersionedWord
versioned_of w = record {
  value = versioned_value w;
  modified = is_modified w;
  version = versioned_version w % 2 ^ 39;
  value_in_range = value_below w;
  version_in_range = mod_below (versioned_version w) (2 ^ 39) (pow_pos 39);
}
