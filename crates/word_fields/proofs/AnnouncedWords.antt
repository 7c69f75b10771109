-- The fields of op words, value words and owner words, for proofs that leave their layouts closed.
use Rattle.std.proofs.Common.{◌≡◌, ℕ, ◌^◌, ◌<◌, arith}
use mathlib.Core.HLevel.{is_prop→PathP}
use Rattle.word_fields.proofs.Ranges.{below_prop}
use Rattle.word_fields.specs.declared.announced.OpWord.{OpWord}
use Rattle.word_fields.specs.declared.announced.ValueWord.{ValueWord}
use Rattle.word_fields.specs.Fields.{field_of}
use Rattle.word_fields.specs.Announced.{op_code, op_number, op_key, op_word, packed_op, op_of, value_number, announced_value, value_word, packed_value, value_of}
use Rattle.word_fields.specs.Owners.{owner_seat, owner_number, owner_word}

pub code-op_word : (code number key : ℕ) → code < 2 ^ 4 → op_code (op_word code number key) ≡ code
unfolding op_code op_word field_of
code-op_word code number key c = omega arith

pub number-op_word : (code number key : ℕ) → code < 2 ^ 4 → number < 2 ^ 16 → op_number (op_word code number key) ≡ number
unfolding op_number op_word field_of
number-op_word code number key c n = omega arith

pub key-op_word : (code number key : ℕ) → code < 2 ^ 4 → number < 2 ^ 16 → key < 2 ^ 20 → op_key (op_word code number key) ≡ key
unfolding op_key op_word field_of
key-op_word code number key c n k = omega arith

pub op_word_below : (code number key : ℕ) → code < 2 ^ 4 → number < 2 ^ 16 → key < 2 ^ 20 → op_word code number key < 2 ^ 40
unfolding op_word
op_word_below code number key c n k = omega arith

same_op : (v u : OpWord) → v.code ≡ u.code → v.number ≡ u.number → v.key ≡ u.key → v ≡ u
same_op v u code number key = λ i. record {
  code = code i;
  number = number i;
  key = key i;
  code_in_range = is_prop→PathP (λ j. code j < 2 ^ 4) (λ j. below_prop (code j) (2 ^ 4)) v.code_in_range u.code_in_range i;
  number_in_range = is_prop→PathP (λ j. number j < 2 ^ 16) (λ j. below_prop (number j) (2 ^ 16)) v.number_in_range u.number_in_range i;
  key_in_range = is_prop→PathP (λ j. key j < 2 ^ 20) (λ j. below_prop (key j) (2 ^ 20)) v.key_in_range u.key_in_range i;
}

-- what was packed is unpacked again
pub op_of-packed : (v : OpWord) → op_of (packed_op v) ≡ v
op_of-packed v =
    same_op (op_of (packed_op v)) v
    (code-op_word v.code v.number v.key v.code_in_range)
    (number-op_word v.code v.number v.key v.code_in_range v.number_in_range)
    (key-op_word v.code v.number v.key v.code_in_range v.number_in_range v.key_in_range)

pub number-value_word : (number value : ℕ) → number < 2 ^ 16 → value_number (value_word number value) ≡ number
unfolding value_number value_word field_of
number-value_word number value n = omega arith

pub value-value_word : (number value : ℕ) → number < 2 ^ 16 → value < 2 ^ 32 → announced_value (value_word number value) ≡ value
unfolding announced_value value_word field_of
value-value_word number value n v = omega arith

pub value_word_below : (number value : ℕ) → number < 2 ^ 16 → value < 2 ^ 32 → value_word number value < 2 ^ 48
unfolding value_word
value_word_below number value n v = omega arith

same_value : (v u : ValueWord) → v.number ≡ u.number → v.value ≡ u.value → v ≡ u
same_value v u number value = λ i. record {
  number = number i;
  value = value i;
  number_in_range = is_prop→PathP (λ j. number j < 2 ^ 16) (λ j. below_prop (number j) (2 ^ 16)) v.number_in_range u.number_in_range i;
  value_in_range = is_prop→PathP (λ j. value j < 2 ^ 32) (λ j. below_prop (value j) (2 ^ 32)) v.value_in_range u.value_in_range i;
}

-- what was packed is unpacked again
pub value_of-packed : (v : ValueWord) → value_of (packed_value v) ≡ v
value_of-packed v =
    same_value (value_of (packed_value v)) v
    (number-value_word v.number v.value v.number_in_range)
    (value-value_word v.number v.value v.number_in_range v.value_in_range)

pub seat-owner_word : (seat number : ℕ) → seat < 8 → owner_seat (owner_word seat number) ≡ seat
unfolding owner_seat owner_word field_of
seat-owner_word seat number s = omega arith

pub number-owner_word : (seat number : ℕ) → seat < 8 → number < 2 ^ 16 → owner_number (owner_word seat number) ≡ number
unfolding owner_number owner_word field_of
number-owner_word seat number s n = omega arith

pub owner_word_below : (seat number : ℕ) → seat < 8 → number < 2 ^ 16 → owner_word seat number < 2 ^ 19
unfolding owner_word
owner_word_below seat number s n = omega arith

-- the equations above, for `grind` and `simp`
pub ruleset announced_words = (code-op_word, number-op_word, key-op_word, number-value_word, value-value_word, seat-owner_word, number-owner_word)
