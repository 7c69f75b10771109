-- The fields of a line: what is read is written so, and what is written so is read.
use Rattle.std.proofs.Common.{◌≡◌, ℕ, ◌+◌, ◌^◌, ◌<◌, ◌≤◌, Bool, true, false, not, cond, eqb, ltb, leb, ◌&&◌, ◌||◌, ◌⊎◌, Option, Some, None, inl, inr, List, [], ◌∷◌, ◌++◌, length, take, drop, get_or, All, refl, rules, tests, sym, ap, ◌∙◌, arith}
use Rattle.std.specs.List.{position_or_len, list_all}
use Rattle.std.specs.Char.{is_ascii_digit}
use Rattle.std.specs.Fmt.{decimal}
use Rattle.std.specs.Str.Parse.{digits_value}
use Rattle.std.proofs.Math.Seq.{get_or-append_seam, take-append_seam, drop-append-add}
use Rattle.std.proofs.lemmas.Bool.{lt-ltb, ltb-true, leb-true, le-leb, not-true, eqb-true, eq-eqb, ne_eqb, and_parts, and_from, cases_lt, or_cases}
use Rattle.std.proofs.lemmas.List.{drop_more, drop-drop, take-append-drop, length-drop, get_or_append_left, length-append}
use Rattle.std.proofs.lemmas.List.Sums.{passes_at_first, position_or_len_is}
use Rattle.std.proofs.lemmas.List.Elements.{All-nil, All-cons}
use Rattle.std.proofs.lemmas.Option.{same_Some, some_pair_parts}
use Rattle.std.proofs.lemmas.Fmt.{digits_decimal, digits_value-decimal, decimal-digits_value, decimal_nonempty, decimal_digit, first_decimal}
use Rattle.std.proofs.lemmas.Str.Parse.{IsNumeralModel, IsDigitsTest, numerals_by_value}
use Rattle.lin_report.specs.Text.{SPACE, NEWLINE}
use Rattle.script_reader.specs.Words.{is_space, is_newline, is_number, number_up_to}
use Rattle.report_check.specs.CallLines.{◌>>=◌, cut_at, word_at, line_at, is_plain, plain_number, number_at}

-- a step behind one that read something
pub bind_at : {A B : Type 0} (o : Option A) (f : A → Option B) (x : A) → o ≡ Some x → (o >>= f) ≡ f x
bind_at {A} o f x e = ap (λ (p : Option A). p >>= f) e

abbrev pub some_pair : {A B : Type 0} → A → B → Option (A × B)
some_pair a b = Some (a, b)

-- where the code has found the first byte that passes
pub cut_is : (passes : ℕ → Bool) (bytes word rest after : List ℕ) (n : ℕ) → n ≡ position_or_len passes bytes → word ≡ take n bytes → rest ≡ drop n bytes → after ≡ drop 1 rest → 0 < length rest → cut_at passes bytes ≡ Some (word, after)
cut_is passes bytes word rest after n at front back next some =
    let lt : position_or_len passes bytes < length bytes = omega (arith, length-drop n bytes, ap length back) in
    let behind : after ≡ drop (position_or_len passes bytes + 1) bytes = next ∙ ap (drop 1) back ∙ drop-drop 1 n bytes ∙ ap (λ k. drop (k + 1) bytes) at in
    let pair : List ℕ → List ℕ → Option (List ℕ × List ℕ) = λ w r. Some (w, r) in
    ap (λ b. cond b (pair (take (position_or_len passes bytes) bytes) (drop (position_or_len passes bytes + 1) bytes)) None) (lt-ltb (position_or_len passes bytes) (length bytes) lt)
    ∙ ap (λ w. pair w (drop (position_or_len passes bytes + 1) bytes)) (sym (front ∙ ap (λ k. take k bytes) at))
    ∙ ap (pair word) (sym behind)

pub cut_takes : (passes : ℕ → Bool) (mark : ℕ) → ((b : ℕ) → passes b ≡ true → b ≡ mark) → (bytes word rest : List ℕ) → cut_at passes bytes ≡ Some (word, rest) → bytes ≡ word ++ mark ∷ rest
cut_takes passes mark only bytes word rest e = by_test (ltb (position_or_len passes bytes) (length bytes)) refl e
  where
    by_test : (b : Bool) → ltb (position_or_len passes bytes) (length bytes) ≡ b
        → cond b (some_pair (take (position_or_len passes bytes) bytes) (drop (position_or_len passes bytes + 1) bytes)) None ≡ some_pair word rest → bytes ≡ word ++ mark ∷ rest
    by_test false lt e = absurd cc
    by_test true lt e =
        let k = position_or_len passes bytes in
        let within : k < length bytes = ltb-true k (length bytes) lt in
        let parts = some_pair_parts (take k bytes) word (drop (k + 1) bytes) rest e in
        sym (take-append-drop k bytes) ∙ ap (λ (ys : List ℕ). take k bytes ++ ys) (drop_more bytes k 0 within)
        ∙ ap (λ (w : List ℕ). w ++ get_or bytes k 0 ∷ drop (k + 1) bytes) parts.0
        ∙ ap (λ b. word ++ b ∷ drop (k + 1) bytes) (only (get_or bytes k 0) (passes_at_first passes bytes 0 within))
        ∙ ap (λ (r : List ℕ). word ++ mark ∷ r) parts.1

pub cut_again : (passes : ℕ → Bool) (mark : ℕ) → passes mark ≡ true → (word rest : List ℕ) → All (λ b. passes b ≡ false) word → cut_at passes (word ++ mark ∷ rest) ≡ Some (word, rest)
cut_again passes mark is word rest none =
    cut_is passes (word ++ mark ∷ rest) word (mark ∷ rest) rest (length word) (sym at) (sym (take-append_seam word (mark ∷ rest))) (sym back) refl (omega arith)
  where
    at : position_or_len passes (word ++ mark ∷ rest) ≡ length word
    at =
        position_or_len_is passes (word ++ mark ∷ rest) (length word) 0 (omega (arith, length-append word (mark ∷ rest)))
        (λ k lt. ap passes (get_or_append_left word (mark ∷ rest) 0 k lt) ∙ none k 0 lt)
        (λ lt. ap passes (get_or-append_seam word mark rest 0) ∙ is)

    back : drop (length word) (word ++ mark ∷ rest) ≡ mark ∷ rest
    back = ap (λ k. drop k (word ++ mark ∷ rest)) (omega arith) ∙ drop-append-add word (mark ∷ rest) 0

-- no byte of a word is a space
abbrev pub NoSpace : List ℕ → Type 0
NoSpace word = All (λ b. is_space b ≡ false) word

pub word_takes : (bytes word rest : List ℕ) → word_at bytes ≡ Some (word, rest) → bytes ≡ word ++ SPACE ∷ rest
word_takes bytes word rest e = cut_takes is_space SPACE (λ b h. eqb-true b 32 h) bytes word rest e

pub word_again : (word rest : List ℕ) → NoSpace word → word_at (word ++ SPACE ∷ rest) ≡ Some (word, rest)
word_again word rest none = cut_again is_space SPACE refl word rest none

-- no byte is a newline
abbrev pub NoNewline : List ℕ → Type 0
NoNewline bytes = All (λ b. is_newline b ≡ false) bytes

pub line_takes : (bytes text rest : List ℕ) → line_at bytes ≡ Some (text, rest) → bytes ≡ text ++ NEWLINE ∷ rest
line_takes bytes text rest e = cut_takes is_newline NEWLINE (λ b h. eqb-true b 10 h) bytes text rest e

pub line_again : (text rest : List ℕ) → NoNewline text → line_at (text ++ NEWLINE ∷ rest) ≡ Some (text, rest)
line_again text rest none = cut_again is_newline NEWLINE refl text rest none

digit_range : (c : ℕ) → is_ascii_digit c ≡ true → (48 ≤ c) × (c ≤ 57)
digit_range c e = search (rules, tests)

digit_test : (c : ℕ) → 48 ≤ c → c ≤ 57 → is_ascii_digit c ≡ true
digit_test c low high = search (rules, tests)

-- which texts are digits alone
tells_number : IsDigitsTest (λ ds. is_number ds ≡ true)
tells_number = record {
  empty = refl;
  parts = λ c cs e. let parts = and_parts (is_ascii_digit c) (list_all is_ascii_digit cs) e in (digit_range c parts.0, parts.1);
  more = λ c cs low rest. and_from (is_ascii_digit c) (list_all is_ascii_digit cs) (digit_test c low.0 low.1) rest;
}

own : IsNumeralModel (λ ds. is_number ds ≡ true) (digits_value 10)
own = numerals_by_value (λ ds. is_number ds ≡ true) tells_number

-- a number without leading zeros
pub plain_takes : (most : ℕ) (word : List ℕ) (n : ℕ) → most < 2 ^ 64 → plain_number most word ≡ Some n → (n ≤ most) × (word ≡ decimal n)
plain_takes most word n fits e = by_tests (ltb 0 (length word)) (not (eqb (get_or word 0 0) 48) || eqb (length word) 1) (is_number word) (leb (digits_value 10 word) most) refl refl refl refl e
  where
    by_tests : (a b c d : Bool) → ltb 0 (length word) ≡ a → (not (eqb (get_or word 0 0) 48) || eqb (length word) 1) ≡ b → is_number word ≡ c → leb (digits_value 10 word) most ≡ d
        → cond (a && b) (cond (c && d) (Some (digits_value 10 word)) None) None ≡ Some n → (n ≤ most) × (word ≡ decimal n)
    by_tests true true true true p q r s e =
        let value : digits_value 10 word ≡ n = same_Some (digits_value 10 word) n e in
        let small = leb-true (digits_value 10 word) most s in
        let lead : get_or word 0 0 ≡ 48 → length word ≡ 1 = λ zero_first. elim (or_cases (not (eqb (get_or word 0 0) 48)) (eqb (length word) 1) q) [
          | inl other ↦ let test = eq-eqb (get_or word 0 0) 48 zero_first in let none = not-true (eqb (get_or word 0 0) 48) other in absurd cc
          | inr one ↦ eqb-true (length word) 1 one
        ] in
        (omega arith, sym (decimal-digits_value own word r (ltb-true 0 (length word) p) lead (omega arith)) ∙ ap decimal value)
    by_tests true true true false p q r s e = absurd cc
    by_tests true true false d p q r s e = absurd cc
    by_tests true false c d p q r s e = absurd cc
    by_tests false b c d p q r s e = absurd cc

plain_decimal : (n : ℕ) → n < 2 ^ 64 → is_plain (decimal n) ≡ true
plain_decimal n fits = and_from (ltb 0 (length (decimal n))) (not (eqb (get_or (decimal n) 0 0) 48) || eqb (length (decimal n)) 1) (lt-ltb 0 (length (decimal n)) (decimal_nonempty n fits)) (lead (cases_lt 0 n))
  where
    by_first : (a b : Bool) → (a ≡ false) ⊎ (b ≡ true) → (not a || b) ≡ true
    by_first false b h = refl
    by_first true true h = refl
    by_first true false (inl e) = absurd cc
    by_first true false (inr e) = absurd cc

    lead : (0 < n) ⊎ (n ≤ 0) → (not (eqb (get_or (decimal n) 0 0) 48) || eqb (length (decimal n)) 1) ≡ true
    lead (inl some) = by_first (eqb (get_or (decimal n) 0 0) 48) (eqb (length (decimal n)) 1) (inl (ne_eqb (get_or (decimal n) 0 0) 48 (λ e. omega (arith, first_decimal n some fits, e))))
    lead (inr none) =
        by_first (eqb (get_or (decimal n) 0 0) 48) (eqb (length (decimal n)) 1)
        (inr (eq-eqb (length (decimal n)) 1 (ap length (decimal_digit n (omega arith)))))

pub plain_again : (most n : ℕ) → most < 2 ^ 64 → n ≤ most → plain_number most (decimal n) ≡ Some n
plain_again most n fits le =
    let small : n < 2 ^ 64 = omega arith in
    let value : digits_value 10 (decimal n) ≡ n = digits_value-decimal own n small in
    ap (λ b. cond b (number_up_to most (decimal n)) None) (plain_decimal n small)
    ∙ ap (λ b. cond (b && leb (digits_value 10 (decimal n)) most) (Some (digits_value 10 (decimal n))) None) (digits_decimal own n small)
    ∙ ap (λ k. cond (leb k most) (Some k) None) value
    ∙ ap (λ b. cond b (Some n) None) (le-leb n most le)

-- digits are no spaces
digits_no_space : (ds : List ℕ) → is_number ds ≡ true → NoSpace ds
digits_no_space [] e = All-nil (λ b. is_space b ≡ false)
digits_no_space (d ∷ ds) e =
    let parts = and_parts (is_ascii_digit d) (list_all is_ascii_digit ds) e in
    All-cons (λ b. is_space b ≡ false) d ds (no_space d parts.0) (digits_no_space ds parts.1)
  where
    no_space : (d : ℕ) → is_ascii_digit d ≡ true → is_space d ≡ false
    no_space d e = ne_eqb d 32 (λ same. omega (arith, digit_range d e))

pair_parts : (o : Option ℕ) (r : List ℕ) (n : ℕ) (rest : List ℕ) → (o >>= (λ k. some_pair k r)) ≡ some_pair n rest → (o ≡ Some n) × (r ≡ rest)
pair_parts None r n rest e = absurd cc
pair_parts (Some k) r n rest e = let parts = some_pair_parts k n r rest e in (ap (λ (x : ℕ). Some x) parts.0, parts.1)

pub number_takes : (most : ℕ) (bytes : List ℕ) (n : ℕ) (rest : List ℕ) → most < 2 ^ 64 → number_at most bytes ≡ Some (n, rest) → (n ≤ most) × (bytes ≡ decimal n ++ SPACE ∷ rest)
number_takes most bytes n rest fits e = by_word (word_at bytes) refl e
  where
    by_word : (o : Option (List ℕ × List ℕ)) → word_at bytes ≡ o → (o >>= (λ x. plain_number most x.0 >>= (λ k. some_pair k x.1))) ≡ some_pair n rest → (n ≤ most) × (bytes ≡ decimal n ++ SPACE ∷ rest)
    by_word None is e = absurd cc
    by_word (Some x) is e =
        let parts = pair_parts (plain_number most x.0) x.1 n rest e in
        let plain = plain_takes most x.0 n fits parts.0 in
        (plain.0, word_takes bytes x.0 x.1 is ∙ ap (λ (w : List ℕ). w ++ SPACE ∷ x.1) plain.1 ∙ ap (λ (r : List ℕ). decimal n ++ SPACE ∷ r) parts.1)

pub number_again : (most n : ℕ) (rest : List ℕ) → most < 2 ^ 64 → n ≤ most → number_at most (decimal n ++ SPACE ∷ rest) ≡ Some (n, rest)
number_again most n rest fits le =
    bind_at (word_at (decimal n ++ SPACE ∷ rest)) _ (decimal n, rest) (word_again (decimal n) rest (digits_no_space (decimal n) (digits_decimal own n (omega arith))))
    ∙ bind_at (plain_number most (decimal n)) _ n (plain_again most n fits le)

-- a text without a space, by a test
pub no_space_in : (word : List ℕ) → list_all (λ b. not (is_space b)) word ≡ true → NoSpace word
no_space_in [] e = All-nil (λ b. is_space b ≡ false)
no_space_in (b ∷ word) e =
    let parts = and_parts (not (is_space b)) (list_all (λ b. not (is_space b)) word) e in
    All-cons (λ b. is_space b ≡ false) b word (not-true (is_space b) parts.0) (no_space_in word parts.1)

-- a number has no newline
digits_no_newline : (ds : List ℕ) → is_number ds ≡ true → NoNewline ds
digits_no_newline [] e = All-nil (λ b. is_newline b ≡ false)
digits_no_newline (d ∷ ds) e =
    let parts = and_parts (is_ascii_digit d) (list_all is_ascii_digit ds) e in
    All-cons (λ b. is_newline b ≡ false) d ds (ne_eqb d 10 (λ same. omega (arith, digit_range d parts.0))) (digits_no_newline ds parts.1)

pub decimal_no_newline : (n : ℕ) → n < 2 ^ 64 → NoNewline (decimal n)
decimal_no_newline n small = digits_no_newline (decimal n) (digits_decimal own n small)

pub no_newline_in : (text : List ℕ) → list_all (λ b. not (is_newline b)) text ≡ true → NoNewline text
no_newline_in [] e = All-nil (λ b. is_newline b ≡ false)
no_newline_in (b ∷ text) e =
    let parts = and_parts (not (is_newline b)) (list_all (λ b. not (is_newline b)) text) e in
    All-cons (λ b. is_newline b ≡ false) b text (not-true (is_newline b) parts.0) (no_newline_in text parts.1)
