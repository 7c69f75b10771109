-- What the fields of a versioned word are after each change, for proofs that leave its layout closed.
use Rattle.std.proofs.Common.{◌≡◌, ◌≢◌, ℕ, zero, suc, ◌+◌, ◌*◌, ◌%◌, ◌^◌, ◌<◌, Bool, true, false, refl, ap, ◌∙◌, arith}
use mathlib.Core.HLevel.{is_prop→PathP}
use Rattle.std.specs.Prelude.{◌==◌}
use Rattle.word_fields.proofs.Ranges.{below_prop}
use Rattle.word_fields.specs.declared.versioned.VersionedWord.{VersionedWord}
use Rattle.word_fields.specs.Versioned.{packed_versioned, versioned_of, bit_of, versioned_value, versioned_bit, versioned_version, versioned_word, changed_word, marked_word, cleared_word}

-- ---- the fields of any word

-- the fields make the word up
pub word-split : (w : ℕ) → versioned_value w + 2 ^ 24 * versioned_bit w + 2 ^ 25 * versioned_version w ≡ w
unfolding versioned_value versioned_bit versioned_version
word-split w = omega arith

-- two words with the same fields are one word
pub same_word : (w x : ℕ) → versioned_value w ≡ versioned_value x → versioned_bit w ≡ versioned_bit x → versioned_version w ≡ versioned_version x → w ≡ x
unfolding versioned_value versioned_bit versioned_version
same_word w x value bit version = omega arith

pub bit_below : (w : ℕ) → versioned_bit w < 2
unfolding versioned_bit
bit_below w = omega arith

pub version_below : (w : ℕ) → w < 2 ^ 64 → versioned_version w < 2 ^ 39
unfolding versioned_version
version_below w fits = omega arith

-- ---- a changed word

pub value-changed : (w value : ℕ) → value < 2 ^ 24 → versioned_value (changed_word w value) ≡ value
unfolding versioned_word versioned_value changed_word
value-changed w value small = omega arith

pub bit-changed : (w value : ℕ) → value < 2 ^ 24 → versioned_bit (changed_word w value) ≡ 0
unfolding versioned_word versioned_bit changed_word
bit-changed w value small = omega arith

pub version-changed : (w value : ℕ) → value < 2 ^ 24 → versioned_version (changed_word w value) ≡ (versioned_version w + 1) % 2 ^ 39
unfolding versioned_word versioned_version changed_word
version-changed w value small = omega arith

-- below the last version it is one higher
pub version-changed_below : (w value : ℕ) → value < 2 ^ 24 → versioned_version w + 1 < 2 ^ 39 → versioned_version (changed_word w value) ≡ versioned_version w + 1
unfolding versioned_word versioned_version changed_word
version-changed_below w value small below = omega arith

pub changed_below : (w value : ℕ) → value < 2 ^ 24 → changed_word w value < 2 ^ 64
unfolding versioned_word changed_word
changed_below w value small = omega arith

-- a change leaves no word as it was
pub changed_differs : (w value : ℕ) → value < 2 ^ 24 → w < 2 ^ 64 → changed_word w value ≢ w
unfolding versioned_word changed_word versioned_version
changed_differs w value small fits = omega arith

-- ---- a marked word

pub value-marked : (w : ℕ) → versioned_value (marked_word w) ≡ versioned_value w
unfolding versioned_word versioned_value versioned_version marked_word
value-marked w = omega arith

pub bit-marked : (w : ℕ) → versioned_bit (marked_word w) ≡ 1
unfolding versioned_word versioned_value versioned_bit versioned_version marked_word
bit-marked w = omega arith

pub version-marked : (w : ℕ) → versioned_version (marked_word w) ≡ versioned_version w
unfolding versioned_word versioned_value versioned_version marked_word
version-marked w = omega arith

pub marked_below : (w : ℕ) → w < 2 ^ 64 → marked_word w < 2 ^ 64
unfolding versioned_word versioned_value versioned_version marked_word
marked_below w fits = omega arith

pub marked-set : (w : ℕ) → versioned_bit w ≡ 1 → marked_word w ≡ w
unfolding versioned_word versioned_value versioned_bit versioned_version marked_word
marked-set w set = omega arith

-- ---- a cleared word

pub value-cleared : (w : ℕ) → versioned_value (cleared_word w) ≡ versioned_value w
unfolding versioned_word versioned_value versioned_version cleared_word
value-cleared w = omega arith

pub bit-cleared : (w : ℕ) → versioned_bit (cleared_word w) ≡ 0
unfolding versioned_word versioned_value versioned_bit versioned_version cleared_word
bit-cleared w = omega arith

pub version-cleared : (w : ℕ) → versioned_version (cleared_word w) ≡ versioned_version w
unfolding versioned_word versioned_value versioned_version cleared_word
version-cleared w = omega arith

pub cleared_below : (w : ℕ) → w < 2 ^ 64 → cleared_word w < 2 ^ 64
unfolding versioned_word versioned_value versioned_version cleared_word
cleared_below w fits = omega arith

pub cleared-clear : (w : ℕ) → versioned_bit w ≡ 0 → cleared_word w ≡ w
unfolding versioned_word versioned_value versioned_bit versioned_version cleared_word
cleared-clear w clear = omega arith

-- ---- one change after another

pub cleared-marked : (w : ℕ) → cleared_word (marked_word w) ≡ cleared_word w
unfolding versioned_word versioned_value versioned_version marked_word cleared_word
cleared-marked w = omega arith

pub marked-cleared : (w : ℕ) → marked_word (cleared_word w) ≡ marked_word w
unfolding versioned_word versioned_value versioned_version marked_word cleared_word
marked-cleared w = omega arith

pub cleared-changed : (w value : ℕ) → value < 2 ^ 24 → cleared_word (changed_word w value) ≡ changed_word w value
unfolding versioned_word versioned_value versioned_version changed_word cleared_word
cleared-changed w value small = omega arith

pub changed-marked : (w value : ℕ) → changed_word (marked_word w) value ≡ changed_word w value
unfolding versioned_word versioned_value versioned_version changed_word marked_word
changed-marked w value = omega arith

pub changed-cleared : (w value : ℕ) → changed_word (cleared_word w) value ≡ changed_word w value
unfolding versioned_word versioned_value versioned_version changed_word cleared_word
changed-cleared w value = omega arith

-- ---- the word of given fields

pub word_below : (value bit version : ℕ) → value < 2 ^ 24 → bit < 2 → version < 2 ^ 39 → versioned_word value bit version < 2 ^ 64
unfolding versioned_word
word_below value bit version small one below = omega arith

pub value-word : (value bit version : ℕ) → value < 2 ^ 24 → bit < 2 → versioned_value (versioned_word value bit version) ≡ value
unfolding versioned_value versioned_word
value-word value bit version small one = omega arith

pub bit-word : (value bit version : ℕ) → value < 2 ^ 24 → bit < 2 → versioned_bit (versioned_word value bit version) ≡ bit
unfolding versioned_bit versioned_word
bit-word value bit version small one = omega arith

pub version-word : (value bit version : ℕ) → value < 2 ^ 24 → bit < 2 → versioned_version (versioned_word value bit version) ≡ version
unfolding versioned_version versioned_word
version-word value bit version small one = omega arith

bit_of_below : (b : Bool) → bit_of b < 2
bit_of_below true = omega arith
bit_of_below false = omega arith

bit_from_test : (b : ℕ) → b < 2 → bit_of (b == 1) ≡ b
bit_from_test zero h = refl
bit_from_test (suc zero) h = refl
bit_from_test (suc (suc b)) h = absurd (omega arith)

is_set : (b : Bool) → (bit_of b == 1) ≡ b
is_set true = refl
is_set false = refl

same_versioned : (v u : VersionedWord) → v.value ≡ u.value → v.modified ≡ u.modified → v.version ≡ u.version → v ≡ u
same_versioned v u value modified version = λ i. record {
  value = value i;
  modified = modified i;
  version = version i;
  value_in_range = is_prop→PathP (λ j. value j < 2 ^ 24) (λ j. below_prop (value j) (2 ^ 24)) v.value_in_range u.value_in_range i;
  version_in_range = is_prop→PathP (λ j. version j < 2 ^ 39) (λ j. below_prop (version j) (2 ^ 39)) v.version_in_range u.version_in_range i;
}

-- what was packed is unpacked again
pub versioned_of-packed : (v : VersionedWord) → versioned_of (packed_versioned v) ≡ v
versioned_of-packed v =
    let bit = bit_of_below v.modified in
    let version = version-word v.value (bit_of v.modified) v.version v.value_in_range bit in
    let whole : v.version % 2 ^ 39 ≡ v.version = omega (arith, v.version_in_range) in
    same_versioned (versioned_of (packed_versioned v)) v
    (value-word v.value (bit_of v.modified) v.version v.value_in_range bit)
    (ap (λ b. b == 1) (bit-word v.value (bit_of v.modified) v.version v.value_in_range bit) ∙ is_set v.modified)
    (ap (λ n. n % 2 ^ 39) version ∙ whole)

-- what is unpacked is packed again: all bits of a word are in its fields
pub packed-versioned_of : (w : ℕ) → w < 2 ^ 64 → packed_versioned (versioned_of w) ≡ w
unfolding versioned_word
packed-versioned_of w fits =
    let bit = bit_from_test (versioned_bit w) (bit_below w) in
    let whole : versioned_version w % 2 ^ 39 ≡ versioned_version w = omega (arith, version_below w fits) in
    rw (bit, whole) (word-split w)

-- the equations above, for `grind` and `simp`
pub ruleset versioned_words = (value-changed, bit-changed, version-changed, value-marked, bit-marked, version-marked, value-cleared, bit-cleared, version-cleared, cleared-marked, marked-cleared, cleared-changed, changed-marked, changed-cleared, value-word, bit-word, version-word)
