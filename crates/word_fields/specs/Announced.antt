-- The two words by which a seat announces a call. The op word has the command's code in bits 0 to 3,
-- the call's number in 4 to 19 and the key in 20 to 39. The value word has the number in bits 0 to 15
-- and the value in 16 to 47.
use Rattle.std.specs.Prelude.{ℕ, ◌+◌, ◌*◌, ◌^◌, ◌<◌}
use Rattle.word_fields.specs.declared.announced.OpWord.{OpWord}
use Rattle.word_fields.specs.declared.announced.ValueWord.{ValueWord}
use Rattle.word_fields.specs.Fields.{field_of, field_below}

-- the command's code
unfoldable pub op_code : ℕ → ℕ
op_code w = field_of 0 4 w

-- the number of the call
unfoldable pub op_number : ℕ → ℕ
op_number w = field_of 4 16 w

-- the key
unfoldable pub op_key : ℕ → ℕ
op_key w = field_of 20 20 w

-- the word of a code, a number and a key
unfoldable pub op_word : ℕ → ℕ → ℕ → ℕ
op_word code number key = code + 2 ^ 4 * number + 2 ^ 20 * key

-- what `pack` gives
abbrev pub packed_op : OpWord → ℕ
packed_op v = op_word v.code v.number v.key

pub code_below : (w : ℕ) → op_code w < 2 ^ 4
unfolding op_code
code_below w = field_below 0 4 w

pub op_number_below : (w : ℕ) → op_number w < 2 ^ 16
unfolding op_number
op_number_below w = field_below 4 16 w

pub key_below : (w : ℕ) → op_key w < 2 ^ 20
unfolding op_key
key_below w = field_below 20 20 w

-- what `unpack` gives
abbrev pub op_of : ℕ → OpWord
op_of w = record {
  code = op_code w;
  number = op_number w;
  key = op_key w;
  code_in_range = code_below w;
  number_in_range = op_number_below w;
  key_in_range = key_below w;
}

-- the number of the call
unfoldable pub value_number : ℕ → ℕ
value_number w = field_of 0 16 w

-- the value
unfoldable pub announced_value : ℕ → ℕ
announced_value w = field_of 16 32 w

-- the word of a number and a value
unfoldable pub value_word : ℕ → ℕ → ℕ
value_word number value = number + 2 ^ 16 * value

-- what `pack` gives
abbrev pub packed_value : ValueWord → ℕ
packed_value v = value_word v.number v.value

pub value_number_below : (w : ℕ) → value_number w < 2 ^ 16
unfolding value_number
value_number_below w = field_below 0 16 w

pub announced_below : (w : ℕ) → announced_value w < 2 ^ 32
unfolding announced_value
announced_below w = field_below 16 32 w

-- what `unpack` gives
abbrev pub value_of : ℕ → ValueWord
value_of w = record {
  number = value_number w;
  value = announced_value w;
  number_in_range = value_number_below w;
  value_in_range = announced_below w;
}
