-- Lists of the same elements, each in rising order of a key that no two share, are one list; so the text of
-- a report doesn't depend on the order of its lines.
use Rattle.std.proofs.Common.{◌≡◌, ◌≢◌, ℕ, zero, suc, ◌<◌, ◌≤◌, ◌==◌, nat_lt, cond, Bool, Option, List, [], ◌∷◌, ◌++◌, length, map, get_or, count_by, All, AllPairs, IsPermutation, refl, sym, ap, ◌∙◌, subst, arith, inl, inr, codes}
use Rattle.std.specs.List.Sorted.{IsNonDecreasingBy}
use Rattle.std.proofs.lemmas.Bool.{cases_lt, lt-ltb, le-ltb}
use Rattle.std.proofs.lemmas.Bool.Decides.{nat_tests}
use Rattle.std.proofs.lemmas.Grind.{get_or_moved}
use Rattle.std.proofs.lemmas.List.{ext_get_or, nil_from_length}
use Rattle.std.proofs.lemmas.List.Kept.{AllPairs-cons}
use Rattle.std.proofs.lemmas.List.Sorted.{IsPermutation-trans, IsPermutation-sym, IsPermutation-map, IsPermutation-append_left, IsPermutation-append_right, length_permutation, sum_by-IsPermutation}
use Rattle.std.proofs.lemmas.List.Sums.{sum_by-cons, sum_by-le}
use Rattle.lin_report.specs.Calls.{Call, Report, answered_call, pending_call, calls_of}
use Rattle.lin_report.specs.Text.{line, lines, by_begin, count_words, overtaken_words, is_fast, is_slow, is_exhausted, summary_text, report_text}
use Rattle.lin_report.proofs.Sorted.{by_begin_sorts}

module _ {X : Type 0} (key : X → ℕ) where
  -- 1 where the key is t, and else 0
  abbrev hits : ℕ → X → ℕ
  hits t x = cond (key x == t) 1 0

  -- no two elements share a key
  abbrev pub Apart : List X → Type 0
  Apart xs = (t : ℕ) → count_by (λ x. key x == t) xs ≤ 1

  pub apart_moved : (xs ys : List X) → IsPermutation xs ys → Apart xs → Apart ys
  apart_moved xs ys moved apart t = omega (arith, sum_by-IsPermutation (hits t) xs ys moved, apart t)

  is_own : (x : X) (t : ℕ) → t ≡ key x → hits t x ≡ 1
  is_own x t same = grind (arith, nat_tests)

  -- the key at a place is counted
  pub counted_at : (xs : List X) (k : ℕ) (d : X) → k < length xs → 1 ≤ count_by (λ x. key x == key (get_or xs k d)) xs
  counted_at [] k d within = absurd (omega (arith, within))
  counted_at (x ∷ xs) zero d within = omega (arith, sum_by-cons (hits (key x)) x xs, is_own x (key x) refl)
  counted_at (x ∷ xs) (suc k) d within = omega (arith, sum_by-cons (hits (key (get_or xs k d))) x xs, counted_at xs k d (omega (arith, within)))

  pub apart_pairs : (xs : List X) → Apart xs → AllPairs (λ x y. key x ≢ key y) xs
  apart_pairs [] apart = λ i j d before within. absurd (omega (arith, within))
  apart_pairs (x ∷ xs) apart =
      AllPairs-cons (λ x y. key x ≢ key y) x xs
      (λ k d within same.
      let t = key (get_or xs k d) in
      omega (arith, apart t, sum_by-cons (hits t) x xs, is_own x t (sym same), counted_at xs k d within))
      (apart_pairs xs (λ t. omega (arith, apart t, sum_by-cons (hits t) x xs)))

  -- keys rise from place to place
  abbrev pub Rises : List X → Type 0
  Rises xs = (i j : ℕ) (d : X) → i < j → j < length xs → key (get_or xs i d) < key (get_or xs j d)

  pub rises : (xs : List X) → IsNonDecreasingBy key xs → Apart xs → Rises xs
  rises xs order apart i j d before within =
      let le = order i j d (omega (arith, before)) within in
      let other = apart_pairs xs apart i j d before within in
      elim (cases_lt (key (get_or xs i d)) (key (get_or xs j d))) [ inl less ↦ less | inr more ↦ absurd (other (omega (arith, le, more))) ]

  -- a place is the number of lower keys
  place : (xs : List X) → Rises xs → (k : ℕ) (d : X) → k < length xs → count_by (λ x. nat_lt (key x) (key (get_or xs k d))) xs ≡ k
  place [] rise k d within = absurd (omega (arith, within))
  place (x ∷ xs) rise zero d within =
      let below : X → ℕ = λ y. cond (nat_lt (key y) (key x)) 1 0 in
      let own : below x ≡ 0 = ap (λ b. cond b 1 0) (le-ltb (key x) (key x) (omega arith)) in
      let none : All (λ y. below y ≤ 0) xs = λ k e inside.
      let less : key x < key (get_or xs k e) = rise 0 (suc k) e (omega arith) (omega (arith, inside)) in
      let is : below (get_or xs k e) ≡ 0 = ap (λ b. cond b 1 0) (le-ltb (key (get_or xs k e)) (key x) (omega (arith, less))) in
      omega (arith, is) in
      omega (arith, sum_by-cons below x xs, own, sum_by-le below 0 xs none)
  place (x ∷ xs) rise (suc k) d within =
      let below : X → ℕ = λ y. cond (nat_lt (key y) (key (get_or xs k d))) 1 0 in
      let own : below x ≡ 1 = ap (λ b. cond b 1 0) (lt-ltb (key x) (key (get_or xs k d)) (rise 0 (suc k) d (omega arith) within)) in
      let more = place xs (λ i j e before inside. rise (suc i) (suc j) e (omega (arith, before)) (omega (arith, inside))) k d (omega (arith, within)) in
      omega (arith, sum_by-cons below x xs, own, more)

  -- an element stands at the same place in both
  same_place : (xs ys : List X) → Rises xs → Rises ys → IsPermutation xs ys → (k : ℕ) (d : X) → k < length ys → get_or ys k d ≡ get_or xs k d
  same_place xs ys rise_x rise_y moved k d within =
      let is = moved.is in
      let from = get_or_moved xs moved.moves k d moved.below (subst (λ (l : List X). k < length l) is within) in
      let j = from.1.0 in
      let there : get_or ys k d ≡ get_or xs j d = ap (λ (l : List X). get_or l k d) is ∙ from.1.2 in
      let t = key (get_or ys k d) in
      let at_x : count_by (λ x. nat_lt (key x) t) xs ≡ j = subst (λ n. count_by (λ x. nat_lt (key x) n) xs ≡ j) (ap key (sym there)) (place xs rise_x j d from.1.1) in
      let at_y : count_by (λ x. nat_lt (key x) t) ys ≡ k = place ys rise_y k d within in
      let same : j ≡ k = omega (arith, at_x, at_y, sum_by-IsPermutation (λ x. cond (nat_lt (key x) t) 1 0) xs ys moved) in
      there ∙ ap (λ i. get_or xs i d) same

  pub same_list : (xs ys : List X) → Rises xs → Rises ys → IsPermutation xs ys → xs ≡ ys
  same_list [] ys rise_x rise_y moved = sym (nil_from_length ys (length_permutation [] ys moved))
  same_list (x ∷ xs) ys rise_x rise_y moved =
      let len = length_permutation (x ∷ xs) ys moved in
      ext_get_or x (x ∷ xs) ys (sym len) (λ i within. sym (same_place (x ∷ xs) ys rise_x rise_y moved i x (omega (arith, len, within))))

-- the calls of a report with its lists in another order
pub calls_moved : (report moved : Report) → IsPermutation report.receipts moved.receipts → IsPermutation report.pending moved.pending → IsPermutation (calls_of report) (calls_of moved)
calls_moved report moved receipts pending =
    IsPermutation-trans _ _ _
    (IsPermutation-append_left (map pending_call report.pending) (map answered_call report.receipts) (map answered_call moved.receipts) (IsPermutation-map answered_call report.receipts moved.receipts receipts))
    (IsPermutation-append_right (map answered_call moved.receipts) (map pending_call report.pending) (map pending_call moved.pending) (IsPermutation-map pending_call report.pending moved.pending pending))

same_lines : (calls moved : List Call) → IsPermutation calls moved → Apart (λ (c : Call). c.begin) calls → by_begin calls ≡ by_begin moved
same_lines calls moved perm apart =
    let key : Call → ℕ = λ c. c.begin in
    let a = by_begin_sorts calls in
    let b = by_begin_sorts moved in
    let both : IsPermutation (by_begin calls) (by_begin moved) = IsPermutation-trans _ _ _ (IsPermutation-sym _ _ a.0) (IsPermutation-trans _ _ _ perm b.0) in
    let apart_a = apart_moved key calls (by_begin calls) a.0 apart in
    same_list key (by_begin calls) (by_begin moved) (rises key (by_begin calls) a.1 apart_a) (rises key (by_begin moved) b.1 (apart_moved key (by_begin calls) (by_begin moved) both apart_a)) both

-- the summary is the same whatever the order
pub same_summary : (report moved : Report) (count : Option ℕ) → IsPermutation report.receipts moved.receipts → IsPermutation report.pending moved.pending → summary_text report count ≡ summary_text moved count
unfolding summary_text
same_summary report moved count receipts pending =
    let perm = calls_moved report moved receipts pending in
    let calls = calls_of report in
    let others = calls_of moved in
    let counted : (p : Call → Bool) → count_by p calls ≡ count_by p others = λ p. sym (sum_by-IsPermutation (λ c. cond (p c) 1 0) calls others perm) in
    let summary : (n f s x q : ℕ) → List ℕ = λ n f s x q. line (codes "calls" ∷ count_words n f s x q ++ overtaken_words count) in
    ap (λ n. summary n (count_by is_fast calls) (count_by is_slow calls) (count_by is_exhausted calls) (length report.pending)) (sym (length_permutation calls others perm))
    ∙ ap (λ n. summary (length others) n (count_by is_slow calls) (count_by is_exhausted calls) (length report.pending)) (counted is_fast)
    ∙ ap (λ n. summary (length others) (count_by is_fast others) n (count_by is_exhausted calls) (length report.pending)) (counted is_slow)
    ∙ ap (λ n. summary (length others) (count_by is_fast others) (count_by is_slow others) n (length report.pending)) (counted is_exhausted)
    ∙ ap (λ n. summary (length others) (count_by is_fast others) (count_by is_slow others) (count_by is_exhausted others) n) (sym (length_permutation report.pending moved.pending pending))

-- so is the text
pub same_text : (report moved : Report) (count : Option ℕ) → IsPermutation report.receipts moved.receipts → IsPermutation report.pending moved.pending → Apart (λ (c : Call). c.begin) (calls_of report)
    → report_text report count ≡ report_text moved count
unfolding report_text
same_text report moved count receipts pending apart =
    ap (λ l. lines l ++ summary_text report count) (same_lines (calls_of report) (calls_of moved) (calls_moved report moved receipts pending) apart)
    ∙ ap (λ s. lines (by_begin (calls_of moved)) ++ s) (same_summary report moved count receipts pending)
