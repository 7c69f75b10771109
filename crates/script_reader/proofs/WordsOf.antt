-- The words of a line, taken from its front.
use Rattle.std.proofs.Common.{◌≡◌, ℕ, suc, ◌+◌, ◌<◌, ◌≤◌, Bool, true, false, not, cond, List, [], ◌∷◌, length, take, drop, get_or, refl, sym, ap, ◌∙◌, arith, inl, inr}
use Rattle.std.specs.Prelude.{filter}
use Rattle.std.specs.List.{slice_split, prefix_len, position_or_len}
use Rattle.std.proofs.lemmas.Bool.{lt-ltb, cases_lt}
use Rattle.std.proofs.lemmas.List.{drop_more, drop_all, take_all, length-take, nil_from_length}
use Rattle.std.proofs.lemmas.List.Splits.{slice_split-cons_yes, slice_split_first, slice_split_none}
use Rattle.std.proofs.lemmas.List.Sums.{fails_before_first, passes_at_first}
use Rattle.script_reader.specs.Words.{is_space, is_word, words_of}

-- a space in front changes nothing
words_behind_space : (x : ℕ) (xs : List ℕ) → is_space x ≡ true → words_of (x ∷ xs) ≡ words_of xs
words_behind_space x xs space = ap (filter is_word) (slice_split-cons_yes is_space x xs space)

-- the two cases of a first byte
at_first : (b : Bool) (x : ℕ) (xs : List ℕ) → is_space x ≡ b → words_of (drop (prefix_len is_space xs) xs) ≡ words_of xs
    → words_of (drop (cond b (1 + prefix_len is_space xs) 0) (x ∷ xs)) ≡ words_of (x ∷ xs)
at_first true x xs space rest =
    let one : 1 + prefix_len is_space xs ≡ suc (prefix_len is_space xs) = omega arith in
    ap (λ n. words_of (drop n (x ∷ xs))) one ∙ rest ∙ sym (words_behind_space x xs space)
at_first false x xs space rest = refl

-- nor do all the spaces in front
pub words_behind_spaces : (line : List ℕ) → words_of (drop (prefix_len is_space line) line) ≡ words_of line
words_behind_spaces [] = refl
words_behind_spaces (x ∷ xs) = at_first (is_space x) x xs refl (words_behind_spaces xs)

first_of : (b : Bool) (x : ℕ) (xs : List ℕ) → is_space x ≡ b → prefix_len is_space (drop (prefix_len is_space xs) xs) ≡ 0
    → prefix_len is_space (drop (cond b (1 + prefix_len is_space xs) 0) (x ∷ xs)) ≡ 0
first_of true x xs space rest =
    let one : 1 + prefix_len is_space xs ≡ suc (prefix_len is_space xs) = omega arith in
    ap (λ n. prefix_len is_space (drop n (x ∷ xs))) one ∙ rest
first_of false x xs space rest = ap (λ b. cond b (1 + prefix_len is_space xs) 0) space

-- no space stands first behind them
no_space_first : (line : List ℕ) → prefix_len is_space (drop (prefix_len is_space line) line) ≡ 0
no_space_first [] = refl
no_space_first (x ∷ xs) = first_of (is_space x) x xs refl (no_space_first xs)

-- where a space stands behind the first word
word_and_space : (xs : List ℕ) (n : ℕ) → n ≡ position_or_len is_space xs → 0 < n → n < length xs → words_of xs ≡ take n xs ∷ words_of (drop n xs)
word_and_space xs n at some lt =
    let within : position_or_len is_space xs < length xs = omega arith in
    let long : is_word (take n xs) ≡ true = lt-ltb 0 (length (take n xs)) (omega (arith, length-take n xs)) in
    let parts : words_of xs ≡ filter is_word (take n xs ∷ slice_split is_space (drop (n + 1) xs)) =
    rw at (ap (filter is_word) (slice_split_first is_space xs 0 within)) in
    let front : words_of xs ≡ take n xs ∷ words_of (drop (n + 1) xs) =
    parts ∙ ap (λ (b : Bool). cond b (take n xs ∷ words_of (drop (n + 1) xs)) (words_of (drop (n + 1) xs))) long in
    let space : is_space (get_or xs n 0) ≡ true = rw at (passes_at_first is_space xs 0 within) in
    let rest : words_of (drop n xs) ≡ words_of (drop (n + 1) xs) =
    ap words_of (drop_more xs n 0 lt) ∙ words_behind_space (get_or xs n 0) (drop (n + 1) xs) space in
    front ∙ ap (λ (words : List (List ℕ)). take n xs ∷ words) (sym rest)

-- where the first word is the whole line
word_alone : (xs : List ℕ) (n : ℕ) → n ≡ position_or_len is_space xs → 0 < length xs → length xs ≤ n → words_of xs ≡ take n xs ∷ words_of (drop n xs)
word_alone xs n at some le =
    let long : is_word xs ≡ true = lt-ltb 0 (length xs) some in
    let parts : words_of xs ≡ filter is_word (xs ∷ []) =
    ap (filter is_word) (slice_split_none is_space xs (λ k d lt. fails_before_first is_space xs k d (omega arith))) in
    let front : words_of xs ≡ xs ∷ [] = parts ∙ ap (λ (b : Bool). cond b (xs ∷ []) []) long in
    rw (take_all n xs le, drop_all n xs le) front

first_counts : (b : Bool) (k m n : ℕ) → cond b (1 + k) 0 ≡ 0 → n ≡ cond (not b) (1 + m) 0 → 0 < n
first_counts true k m n none at = absurd (omega arith)
first_counts false k m n none at = omega arith

-- a line that begins with no space begins with its first word
pub words_from_first : (xs : List ℕ) (n : ℕ) → n ≡ position_or_len is_space xs → prefix_len is_space xs ≡ 0 → 0 < length xs
    → words_of xs ≡ take n xs ∷ words_of (drop n xs)
words_from_first [] n at none some = absurd (omega arith)
words_from_first (x ∷ xs) n at none some =
    let counts = first_counts (is_space x) (prefix_len is_space xs) (position_or_len is_space xs) n none at in
    elim (cases_lt n (length (x ∷ xs))) [
      | inl lt ↦ word_and_space (x ∷ xs) n at counts lt
      | inr le ↦ word_alone (x ∷ xs) n at some le
    ]

-- the first word stands behind the spaces in front
pub first_word_is : (line rest : List ℕ) (n : ℕ) → rest ≡ drop (prefix_len is_space line) line → n ≡ position_or_len is_space rest → 0 < length rest
    → words_of line ≡ take n rest ∷ words_of (drop n rest)
first_word_is line rest n behind at some =
    let none : prefix_len is_space rest ≡ 0 = rw behind (no_space_first line) in
    let same : words_of line ≡ words_of rest = rw behind (sym (words_behind_spaces line)) in
    same ∙ words_from_first rest n at none some

-- a line of spaces has no words
pub no_words : (line rest : List ℕ) → rest ≡ drop (prefix_len is_space line) line → length rest ≡ 0 → words_of line ≡ []
no_words line rest behind none =
    let nothing : drop (prefix_len is_space line) line ≡ [] = sym behind ∙ nil_from_length rest none in
    sym (words_behind_spaces line) ∙ ap words_of nothing
