-- The outcome of lines, which goes on from line to line, is that of the first line at fault.
use Rattle.std.proofs.Common.{◌≡◌, ◌↔◌, ℕ, zero, suc, ◌+◌, ◌-◌, ◌<◌, ◌≤◌, Bool, true, false, cond, ltb, List, [], ◌∷◌, length, take, get_or, Option, Some, None, Result, Ok, Err, refl, sym, ap, subst, ◌∙◌, inl, inr, arith, zero-add, add-zero}
use Rattle.std.specs.List.{count_by, filter_map, cons_option}
use Rattle.std.specs.Result.{result_ok, result_err}
use Rattle.std.proofs.lemmas.Bool.{lt-ltb, le-ltb, ltb-true, ltb-false, cases_lt}
use Rattle.std.proofs.lemmas.List.Sums.{sum_by-cons}
use Rattle.script_reader.specs.declared.causes.Cause.{Cause}
use Rattle.script_reader.specs.declared.causes.Cause.TheVariants.{LineTooLong, TooManyLines, FileTooLong}
use Rattle.script_reader.specs.declared.causes.Refusal.{Refusal}
use Rattle.script_reader.specs.Words.{lines_of, words_of}
use Rattle.script_reader.specs.Outcomes.{LINE_LIMIT, some_entry, words_outcome, line_outcome, entry_first, after_line, lines_outcome, outcome_within}
use Rattle.script_reader.specs.Faults.{has_words, line_fault, entry_from_words, entry_in, IsAccepted, IsFirstFault, IsRefused}

module _ {X : Type 0} (entry : List (List ℕ) → Result X Cause) (limit : ℕ) where
  -- why the k-th of these lines, counted from 0, is refused where so many lines with words stand before them
  abbrev fault_at : ℕ → List (List ℕ) → ℕ → Option Cause
  fault_at before lines k = result_err (line_outcome entry limit (before + count_by has_words (take k lines)) (get_or lines k []))

  at_first : (before : ℕ) (line : List ℕ) (lines : List (List ℕ)) → fault_at before (line ∷ lines) 0 ≡ result_err (line_outcome entry limit before line)
  at_first before line lines = ap (λ n. result_err (line_outcome entry limit n line)) (add-zero before)

  at_next : (before c : ℕ) (line : List ℕ) (lines : List (List ℕ)) (k : ℕ) → cond (has_words line) 1 0 ≡ c → fault_at before (line ∷ lines) (suc k) ≡ fault_at (before + c) lines k
  at_next before c line lines k e =
      let one : before + count_by has_words (line ∷ take k lines) ≡ before + c + count_by has_words (take k lines) =
      omega (arith, sum_by-cons (λ line. cond (has_words line) 1 0) line (take k lines), e) in
      ap (λ n. result_err (line_outcome entry limit n (get_or lines k []))) one

  -- what a line is says whether it has words
  words_passed : (before : ℕ) (words : List (List ℕ)) → words_outcome entry limit before words ≡ Ok None → (ltb 0 (length words) ≡ false) × (entry_from_words entry words ≡ None)
  words_passed before [] e = (refl, refl)
  words_passed before (word ∷ words) e = absurd (with_words (ltb before limit) (entry (word ∷ words)) e)
    where
      with_words : (b : Bool) (r : Result X Cause) → cond b (some_entry r) (Err TooManyLines) ≡ Ok None → ⊥
      with_words true (Ok x) e = cc
      with_words true (Err c) e = cc
      with_words false r e = cc

  words_given : (before : ℕ) (words : List (List ℕ)) (x : X) → words_outcome entry limit before words ≡ Ok (Some x) → (ltb 0 (length words) ≡ true) × (entry_from_words entry words ≡ Some x)
  words_given before [] x e = absurd cc
  words_given before (word ∷ words) x e = (lt-ltb 0 (length (word ∷ words)) (omega arith), with_words (ltb before limit) (entry (word ∷ words)) e)
    where
      with_words : (b : Bool) (r : Result X Cause) → cond b (some_entry r) (Err TooManyLines) ≡ Ok (Some x) → result_ok r ≡ Some x
      with_words true (Ok y) e = cc
      with_words true (Err c) e = absurd cc
      with_words false r e = absurd cc

  line_passed : (before : ℕ) (line : List ℕ) → line_outcome entry limit before line ≡ Ok None → (has_words line ≡ false) × (entry_in entry line ≡ None)
  line_passed before line e = short (ltb LINE_LIMIT (length line)) e
    where
      short : (b : Bool) → cond b (Err LineTooLong) (words_outcome entry limit before (words_of line)) ≡ Ok None → (has_words line ≡ false) × (entry_in entry line ≡ None)
      short true e = absurd cc
      short false e = words_passed before (words_of line) e

  line_given : (before : ℕ) (line : List ℕ) (x : X) → line_outcome entry limit before line ≡ Ok (Some x) → (has_words line ≡ true) × (entry_in entry line ≡ Some x)
  line_given before line x e = short (ltb LINE_LIMIT (length line)) e
    where
      short : (b : Bool) → cond b (Err LineTooLong) (words_outcome entry limit before (words_of line)) ≡ Ok (Some x) → (has_words line ≡ true) × (entry_in entry line ≡ Some x)
      short true e = absurd cc
      short false e = words_given before (words_of line) x e

  -- lines that are accepted: none is at fault, and these are their entries
  abbrev Accepts : ℕ → List (List ℕ) → List X → Type 0
  Accepts before lines xs = ((k : ℕ) → fault_at before lines k ≡ None) × (xs ≡ filter_map (entry_in entry) lines)

  -- a line in front of accepted lines
  accepts_passed : (before : ℕ) (line : List ℕ) (lines : List (List ℕ)) (xs : List X) → line_outcome entry limit before line ≡ Ok None → Accepts before lines xs → Accepts before (line ∷ lines) xs
  accepts_passed before line lines xs e rest = (faultless, rest.1 ∙ ap (λ o. cons_option o (filter_map (entry_in entry) lines)) (sym passed.1))
    where
      passed : (has_words line ≡ false) × (entry_in entry line ≡ None)
      passed = line_passed before line e

      faultless : (k : ℕ) → fault_at before (line ∷ lines) k ≡ None
      faultless zero = at_first before line lines ∙ ap result_err e
      faultless (suc k) = at_next before 0 line lines k (ap (λ b. cond b 1 0) passed.0) ∙ ap (λ n. fault_at n lines k) (add-zero before) ∙ rest.0 k

  accepts_given : (before : ℕ) (line : List ℕ) (lines : List (List ℕ)) (x : X) (xs : List X) → line_outcome entry limit before line ≡ Ok (Some x) → Accepts (before + 1) lines xs → Accepts before (line ∷ lines) (x ∷ xs)
  accepts_given before line lines x xs e rest = (faultless, ap (λ ys. x ∷ ys) rest.1 ∙ ap (λ o. cons_option o (filter_map (entry_in entry) lines)) (sym given.1))
    where
      given : (has_words line ≡ true) × (entry_in entry line ≡ Some x)
      given = line_given before line x e

      faultless : (k : ℕ) → fault_at before (line ∷ lines) k ≡ None
      faultless zero = at_first before line lines ∙ ap result_err e
      faultless (suc k) = at_next before 1 line lines k (ap (λ b. cond b 1 0) given.0) ∙ rest.0 k

  lines_accept : (number before : ℕ) (lines : List (List ℕ)) (xs : List X) → lines_outcome entry limit number before lines ≡ Ok xs → Accepts before lines xs
  lines_accept number before [] xs e = (λ k. refl, cc)
  lines_accept number before (line ∷ lines) xs e = by_line (λ n ys h. lines_accept (number + 1) n lines ys h) (line_outcome entry limit before line) refl e
    where
      by_rest : (x : X) (r : Result (List X) Refusal) → entry_first x r ≡ Ok xs → (ys : List X) × (r ≡ Ok ys) × (xs ≡ x ∷ ys)
      by_rest x (Ok ys) e = (ys, refl, cc)
      by_rest x (Err refusal) e = absurd cc

      by_line : ((n : ℕ) (ys : List X) → lines_outcome entry limit (number + 1) n lines ≡ Ok ys → Accepts n lines ys) → (o : Result (Option X) Cause) → line_outcome entry limit before line ≡ o → after_line number before o (λ n. lines_outcome entry limit (number + 1) n lines) ≡ Ok xs → Accepts before (line ∷ lines) xs
      by_line accept (Ok None) h e = accepts_passed before line lines xs h (accept before xs e)
      by_line accept (Ok (Some x)) h e =
          let rest = by_rest x (lines_outcome entry limit (number + 1) (before + 1) lines) e in
          subst (Accepts before (line ∷ lines)) (sym rest.2) (accepts_given before line lines x rest.0 h (accept (before + 1) rest.0 rest.1))
      by_line accept (Err cause) h e = absurd cc

  -- lines that are refused: the k-th of them, counted from 0, is the first at fault
  record Refuses (number before : ℕ) (lines : List (List ℕ)) (refusal : Refusal) : Type 0 where
    k : ℕ
    at : refusal.line ≡ number + k
    at_fault : fault_at before lines k ≡ Some refusal.cause
    first : (j : ℕ) → j < k → fault_at before lines j ≡ None

  -- a line that is at fault, and one that is not in front of such lines
  refuses_here : (number before : ℕ) (line : List ℕ) (lines : List (List ℕ)) (cause : Cause) → line_outcome entry limit before line ≡ Err cause → Refuses number before (line ∷ lines) (record { line = number; cause = cause })
  refuses_here number before line lines cause e = record {
    k = 0;
    at = sym (add-zero number);
    at_fault = at_first before line lines ∙ ap result_err e;
    first = λ j lt. absurd (omega arith);
  }

  refuses_later : (number before c : ℕ) (line : List ℕ) (lines : List (List ℕ)) (refusal : Refusal) → result_err (line_outcome entry limit before line) ≡ None → cond (has_words line) 1 0 ≡ c
      → Refuses (number + 1) (before + c) lines refusal → Refuses number before (line ∷ lines) refusal
  refuses_later number before c line lines refusal none e rest = record {
    k = suc rest.k;
    at = omega (arith, rest.at);
    at_fault = at_next before c line lines rest.k e ∙ rest.at_fault;
    first = first;
  }
    where
      first : (j : ℕ) → j < suc rest.k → fault_at before (line ∷ lines) j ≡ None
      first zero lt = at_first before line lines ∙ none
      first (suc j) lt = at_next before c line lines j e ∙ rest.first j (omega arith)

  lines_refuse : (number before : ℕ) (lines : List (List ℕ)) (refusal : Refusal) → lines_outcome entry limit number before lines ≡ Err refusal → Refuses number before lines refusal
  lines_refuse number before [] refusal e = absurd cc
  lines_refuse number before (line ∷ lines) refusal e = by_line (λ n h. lines_refuse (number + 1) n lines refusal h) (line_outcome entry limit before line) refl e
    where
      by_rest : (x : X) (r : Result (List X) Refusal) → entry_first x r ≡ Err refusal → r ≡ Err refusal
      by_rest x (Ok ys) e = absurd cc
      by_rest x (Err other) e = cc

      by_line : ((n : ℕ) → lines_outcome entry limit (number + 1) n lines ≡ Err refusal → Refuses (number + 1) n lines refusal) → (o : Result (Option X) Cause) → line_outcome entry limit before line ≡ o
          → after_line number before o (λ n. lines_outcome entry limit (number + 1) n lines) ≡ Err refusal → Refuses number before (line ∷ lines) refusal
      by_line refuse (Ok None) h e =
          refuses_later number before 0 line lines refusal (ap result_err h) (ap (λ b. cond b 1 0) (line_passed before line h).0)
          (subst (λ n. Refuses (number + 1) n lines refusal) (sym (add-zero before)) (refuse before e))
      by_line refuse (Ok (Some x)) h e =
          refuses_later number before 1 line lines refusal (ap result_err h) (ap (λ b. cond b 1 0) (line_given before line x h).0)
          (refuse (before + 1) (by_rest x (lines_outcome entry limit (number + 1) (before + 1) lines) e))
      by_line refuse (Err cause) h e =
          let made : Refusal = record { line = number; cause = cause } in
          let same : made ≡ refusal = cc in
          subst (Refuses number before (line ∷ lines)) same (refuses_here number before line lines cause h)

  -- lines are counted from 1 where they are told, and from 0 above
  told : (lines : List (List ℕ)) (number k : ℕ) → number ≡ k + 1 → line_fault entry limit lines number ≡ fault_at 0 lines k
  told lines number k e =
      let place : number - 1 ≡ k = omega arith in
      ap (λ i. result_err (line_outcome entry limit (count_by has_words (take i lines)) (get_or lines i []))) place
      ∙ ap (λ n. result_err (line_outcome entry limit n (get_or lines k []))) (sym (zero-add (count_by has_words (take k lines))))

  -- what the outcome of a file says of its lines
  Accepts-told : (most : ℕ) (bytes : List ℕ) (xs : List X) → length bytes ≤ most → Accepts 0 (lines_of bytes) xs → IsAccepted most entry limit bytes xs
  Accepts-told most bytes xs short a = record {
    short = short;
    faultless = λ number some. told (lines_of bytes) number (number - 1) (omega arith) ∙ a.0 (number - 1);
    in_order = a.1;
  }

  Refuses-told : (lines : List (List ℕ)) (refusal : Refusal) → Refuses 1 0 lines refusal → IsFirstFault entry limit lines refusal
  Refuses-told lines refusal r = record {
    counted = omega (arith, r.at);
    at_fault = told lines refusal.line r.k (omega (arith, r.at)) ∙ r.at_fault;
    first = λ number some lt. told lines number (number - 1) (omega arith) ∙ r.first (number - 1) (omega (arith, r.at));
  }

  -- no file is accepted and refused, and none has two first faults
  same_fault : (lines : List (List ℕ)) (a b : Refusal) → IsFirstFault entry limit lines a → IsFirstFault entry limit lines b → a ≡ b
  same_fault lines a b p q =
      elim (cases_lt a.line b.line) [
        | inl lt ↦ let none = q.first a.line p.counted lt in let some = p.at_fault in absurd cc
        | inr le ↦ elim (cases_lt b.line a.line) [
          | inl lt ↦ let none = p.first b.line q.counted lt in let some = q.at_fault in absurd cc
          | inr ge ↦
              let same_line : a.line ≡ b.line = omega arith in
              let at_a = p.at_fault in
              let at_b : line_fault entry limit lines a.line ≡ Some b.cause = rw same_line q.at_fault in
              let same_cause : a.cause ≡ b.cause = cc in
              let made : ℕ → Cause → Refusal = λ line cause. record { line = line; cause = cause } in
              ap (λ line. made line a.cause) same_line ∙ ap (λ cause. made b.line cause) same_cause
        ]
      ]

  -- by lines: which outcome what is said of them leaves
  Accepts-only : (lines : List (List ℕ)) (xs : List X) → ((number : ℕ) → 0 < number → line_fault entry limit lines number ≡ None) → xs ≡ filter_map (entry_in entry) lines → lines_outcome entry limit 1 0 lines ≡ Ok xs
  Accepts-only lines xs faultless in_order = by_outcome (lines_outcome entry limit 1 0 lines) refl
    where
      by_outcome : (r : Result (List X) Refusal) → lines_outcome entry limit 1 0 lines ≡ r → r ≡ Ok xs
      by_outcome (Ok ys) e = ap (λ (zs : List X). Ok zs) ((lines_accept 1 0 lines ys e).1 ∙ sym in_order)
      by_outcome (Err refusal) e =
          let first = Refuses-told lines refusal (lines_refuse 1 0 lines refusal e) in
          let some = first.at_fault in
          let none = faultless refusal.line first.counted in
          absurd cc

  Refuses-only : (lines : List (List ℕ)) (refusal : Refusal) → IsFirstFault entry limit lines refusal → lines_outcome entry limit 1 0 lines ≡ Err refusal
  Refuses-only lines refusal first = by_outcome (lines_outcome entry limit 1 0 lines) refl
    where
      by_outcome : (r : Result (List X) Refusal) → lines_outcome entry limit 1 0 lines ≡ r → r ≡ Err refusal
      by_outcome (Ok ys) e =
          let some = first.at_fault in
          let none = told lines refusal.line (refusal.line - 1) (omega (arith, first.counted)) ∙ (lines_accept 1 0 lines ys e).0 (refusal.line - 1) in
          absurd cc
      by_outcome (Err other) e = ap (λ (r : Refusal). Err r) (same_fault lines other refusal (Refuses-told lines other (lines_refuse 1 0 lines other e)) first)

  -- the outcome of a file, by the test of its length
  abbrev outcome_by : List ℕ → Bool → Result (List X) Refusal
  outcome_by bytes b = cond b (Err (record { line = 0; cause = FileTooLong })) (lines_outcome entry limit 1 0 (lines_of bytes))

  -- a file is accepted with these entries exactly where they are its outcome
  pub accepted : (most : ℕ) (bytes : List ℕ) (xs : List X) → IsAccepted most entry limit bytes xs ↔ (outcome_within most entry limit bytes ≡ Ok xs)
  accepted most bytes xs = (only, by_len (ltb most (length bytes)) refl)
    where
      only : IsAccepted most entry limit bytes xs → outcome_within most entry limit bytes ≡ Ok xs
      only a = subst (λ b. outcome_by bytes b ≡ Ok xs) (sym (le-ltb most (length bytes) a.short)) (Accepts-only (lines_of bytes) xs a.faultless a.in_order)

      by_len : (b : Bool) → ltb most (length bytes) ≡ b → outcome_by bytes b ≡ Ok xs → IsAccepted most entry limit bytes xs
      by_len true e h = absurd cc
      by_len false e h = Accepts-told most bytes xs (ltb-false most (length bytes) e) (lines_accept 1 0 (lines_of bytes) xs h)

  -- and it is refused so exactly where that is its outcome
  pub refused : (most : ℕ) (bytes : List ℕ) (refusal : Refusal) → IsRefused most entry limit bytes refusal ↔ (outcome_within most entry limit bytes ≡ Err refusal)
  refused most bytes refusal = (only, by_len (ltb most (length bytes)) refl)
    where
      only : IsRefused most entry limit bytes refusal → outcome_within most entry limit bytes ≡ Err refusal
      only (inl long) = subst (λ b. outcome_by bytes b ≡ Err refusal) (sym (lt-ltb most (length bytes) long.0)) (ap (λ (r : Refusal). Err r) (sym long.1))
      only (inr short) = subst (λ b. outcome_by bytes b ≡ Err refusal) (sym (le-ltb most (length bytes) short.0)) (Refuses-only (lines_of bytes) refusal short.1)

      by_len : (b : Bool) → ltb most (length bytes) ≡ b → outcome_by bytes b ≡ Err refusal → IsRefused most entry limit bytes refusal
      by_len true e h = inl (ltb-true most (length bytes) e, cc)
      by_len false e h = inr (ltb-false most (length bytes) e, Refuses-told (lines_of bytes) refusal (lines_refuse 1 0 (lines_of bytes) refusal h))
