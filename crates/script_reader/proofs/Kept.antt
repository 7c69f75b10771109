-- What holds of each entry of an accepted file, and how many there are.
use Rattle.std.proofs.Common.{◌≡◌, ℕ, ◌+◌, ◌<◌, ◌≤◌, Bool, true, false, cond, ltb, List, [], ◌∷◌, length, Option, Some, None, Result, Ok, Err, refl, subst, arith}
use Rattle.std.specs.List.{AllByRecursion}
use Rattle.std.proofs.lemmas.Bool.{ltb-true}
use Rattle.script_reader.specs.declared.causes.Cause.{Cause}
use Rattle.script_reader.specs.declared.causes.Cause.TheVariants.{LineTooLong, TooManyLines, FileTooLong}
use Rattle.script_reader.specs.declared.causes.Refusal.{Refusal}
use Rattle.script_reader.specs.Words.{lines_of, words_of}
use Rattle.script_reader.specs.Outcomes.{LINE_LIMIT, some_entry, words_outcome, line_outcome, entry_first, after_line, lines_outcome, outcome_within}

module _ {X : Type 0} (entry : List (List ℕ) → Result X Cause) (limit : ℕ) (P : X → Type 0) (each : (words : List (List ℕ)) (x : X) → entry words ≡ Ok x → P x) where
  -- a line that gives an entry
  words_give : (before : ℕ) (words : List (List ℕ)) (x : X) → words_outcome entry limit before words ≡ Ok (Some x) → P x × (before < limit)
  words_give before [] x e = absurd cc
  words_give before (word ∷ words) x e = by_test (ltb before limit) (entry (word ∷ words)) refl refl e
    where
      by_test : (b : Bool) (r : Result X Cause) → ltb before limit ≡ b → entry (word ∷ words) ≡ r → cond b (some_entry r) (Err TooManyLines) ≡ Ok (Some x) → P x × (before < limit)
      by_test true (Ok y) lt given e = (each (word ∷ words) x cc, ltb-true before limit lt)
      by_test true (Err c) lt given e = absurd cc
      by_test false r lt given e = absurd cc

  line_gives : (before : ℕ) (line : List ℕ) (x : X) → line_outcome entry limit before line ≡ Ok (Some x) → P x × (before < limit)
  line_gives before line x e = short (ltb LINE_LIMIT (length line)) e
    where
      short : (b : Bool) → cond b (Err LineTooLong) (words_outcome entry limit before (words_of line)) ≡ Ok (Some x) → P x × (before < limit)
      short true e = absurd cc
      short false e = words_give before (words_of line) x e

  -- all entries, where so many lines with words stand before the lines
  abbrev Keeps : ℕ → List X → Type 0
  Keeps before xs = AllByRecursion P xs × (before ≤ limit → before + length xs ≤ limit)

  lines_keep : (number before : ℕ) (lines : List (List ℕ)) (xs : List X) → lines_outcome entry limit number before lines ≡ Ok xs → Keeps before xs
  lines_keep number before [] xs e =
      let none : [] ≡ xs = cc in
      subst (Keeps before) none (tt, λ le. omega arith)
  lines_keep number before (line ∷ lines) xs e = by_line (λ n ys h. lines_keep (number + 1) n lines ys h) (line_outcome entry limit before line) refl e
    where
      by_rest : (x : X) (r : Result (List X) Refusal) → entry_first x r ≡ Ok xs → (ys : List X) × (r ≡ Ok ys) × (x ∷ ys ≡ xs)
      by_rest x (Ok ys) e = (ys, refl, cc)
      by_rest x (Err refusal) e = absurd cc

      by_line : ((n : ℕ) (ys : List X) → lines_outcome entry limit (number + 1) n lines ≡ Ok ys → Keeps n ys) → (o : Result (Option X) Cause) → line_outcome entry limit before line ≡ o
          → after_line number before o (λ n. lines_outcome entry limit (number + 1) n lines) ≡ Ok xs → Keeps before xs
      by_line keep (Ok None) h e = keep before xs e
      by_line keep (Ok (Some x)) h e =
          let rest = by_rest x (lines_outcome entry limit (number + 1) (before + 1) lines) e in
          let kept = keep (before + 1) rest.0 rest.1 in
          let given = line_gives before line x h in
          subst (Keeps before) rest.2 ((given.0, kept.0), λ le. omega (arith, kept.1 (omega (arith, given.1))))
      by_line keep (Err cause) h e = absurd cc

  -- the same of a file
  pub file_keeps : (most : ℕ) (bytes : List ℕ) (xs : List X) → outcome_within most entry limit bytes ≡ Ok xs → AllByRecursion P xs × (length xs ≤ limit)
  file_keeps most bytes xs e = by_len (ltb most (length bytes)) e
    where
      by_len : (b : Bool) → cond b (Err (record { line = 0; cause = FileTooLong })) (lines_outcome entry limit 1 0 (lines_of bytes)) ≡ Ok xs → AllByRecursion P xs × (length xs ≤ limit)
      by_len true e = absurd cc
      by_len false e =
          let kept = lines_keep 1 0 (lines_of bytes) xs e in
          (kept.0, omega (arith, kept.1 (omega arith)))
