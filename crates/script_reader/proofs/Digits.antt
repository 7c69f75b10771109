-- The number that the digits of a word write, one digit after another.
use Rattle.std.proofs.Common.{◌≡◌, ℕ, ◌+◌, ◌-◌, ◌*◌, ◌<◌, ◌≤◌, Bool, true, false, cond, leb, ◌&&◌, Some, None, List, length, take, get_or, refl, ap, ◌∙◌, arith, rules, tests}
use Rattle.std.specs.Char.{is_ascii_digit, digit_value}
use Rattle.std.specs.Str.Parse.{digits_value}
use Rattle.std.proofs.lemmas.Bool.{lt-leb}
use Rattle.std.proofs.lemmas.Bool.Decides.{nat_tests}
use Rattle.std.proofs.lemmas.Int.Digits.{digits_value_more}
use Rattle.std.proofs.lemmas.Str.Parse.{digits_value-take-le}
use Rattle.std.proofs.lemmas.List.Sums.{AllPass-from_list_all}
use Rattle.script_reader.specs.Words.{is_number, number_up_to}

digit_in_range : (c : ℕ) → is_ascii_digit c ≡ true → (48 ≤ c) × (c < 58)
digit_in_range c e = search (rules, tests)

digit_value_is : (c : ℕ) → 48 ≤ c → c < 58 → digit_value c ≡ c - 48
digit_value_is c low high = grind (arith, nat_tests)

no_number : (a : Bool) (n : ℕ) (b : Bool) → b ≡ false → cond (a && b) (Some n) None ≡ None
no_number true n b e = ap (λ (test : Bool). cond test (Some n) None) e
no_number false n b e = refl

-- each byte of a number is a digit
pub digit_at : (word : List ℕ) (i : ℕ) → is_number word ≡ true → i < length word → (48 ≤ get_or word i 0) × (get_or word i 0 < 58)
digit_at word i number lt = digit_in_range (get_or word i 0) (AllPass-from_list_all is_ascii_digit word number i 0 lt)

-- one digit more, and no digits write less than those in front of them
pub value_more : (word : List ℕ) (i : ℕ) → is_number word ≡ true → i < length word
    → (digits_value 10 (take (i + 1) word) ≡ digits_value 10 (take i word) * 10 + (get_or word i 0 - 48)) × (digits_value 10 (take (i + 1) word) ≤ digits_value 10 word)
value_more word i number lt =
    let digit = digit_at word i number lt in
    (digits_value_more 10 word i lt ∙ ap (λ d. digits_value 10 (take i word) * 10 + d) (digit_value_is (get_or word i 0) digit.0 digit.1), digits_value-take-le 10 word (i + 1) (omega arith))

-- digits of a greater number are refused
pub too_great : (most : ℕ) (word : List ℕ) → most < digits_value 10 word → number_up_to most word ≡ None
too_great most word gt =
    let test : leb (digits_value 10 word) most ≡ false = lt-leb (digits_value 10 word) most gt in
    no_number (is_number word) (digits_value 10 word) (leb (digits_value 10 word) most) test
