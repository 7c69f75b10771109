-- The lines of a file, taken from its front.
use Rattle.std.proofs.Common.{◌≡◌, ℕ, ◌+◌, ◌<◌, ◌≤◌, cond, eqb, false, List, [], ◌∷◌, length, take, drop, refl, sym, ap, ◌∙◌, arith, inl, inr, Bool}
use Rattle.std.specs.List.{slice_split, position_or_len}
use Rattle.std.proofs.lemmas.Bool.{cases_lt}
use Rattle.std.proofs.lemmas.Bool.Decides.{nat_tests}
use Rattle.std.proofs.lemmas.List.{drop_all, take_all, drop-drop}
use Rattle.std.proofs.lemmas.List.Splits.{slice_split_first, slice_split_none, length-slice_split}
use Rattle.std.proofs.lemmas.List.Sums.{fails_before_first}
use Rattle.script_reader.specs.Words.{is_newline, without_empty_end, lines_of}

-- a part before others is a line
part_before : (part : List ℕ) (parts : List (List ℕ)) → 0 < length parts → without_empty_end (part ∷ parts) ≡ part ∷ without_empty_end parts
part_before part [] some = absurd (omega arith)
part_before part (next ∷ parts) some = refl

-- and so is a last one that isn't empty
part_last : (part : List ℕ) → 0 < length part → without_empty_end (part ∷ []) ≡ part ∷ []
part_last [] some = absurd (omega arith)
part_last (x ∷ part) some =
    let full : eqb (length (x ∷ part)) 0 ≡ false = grind (arith, nat_tests) in
    ap (λ (b : Bool). cond b [] ((x ∷ part) ∷ [])) full

-- the first line, where a newline ends it, and where none does
line_and_newline : (bytes : List ℕ) (n : ℕ) → n ≡ position_or_len is_newline bytes → n < length bytes → lines_of bytes ≡ take n bytes ∷ lines_of (drop (n + 1) bytes)
line_and_newline bytes n at lt =
    let within : position_or_len is_newline bytes < length bytes = omega arith in
    rw at (ap without_empty_end (slice_split_first is_newline bytes 0 within)
    ∙ part_before (take (position_or_len is_newline bytes) bytes) (slice_split is_newline (drop (position_or_len is_newline bytes + 1) bytes)) (omega (arith, length-slice_split is_newline (drop (position_or_len is_newline bytes + 1) bytes))))

line_alone : (bytes : List ℕ) (n : ℕ) → n ≡ position_or_len is_newline bytes → 0 < length bytes → length bytes ≤ n → lines_of bytes ≡ take n bytes ∷ lines_of (drop (n + 1) bytes)
line_alone bytes n at some le =
    let parts : lines_of bytes ≡ without_empty_end (bytes ∷ []) =
    ap without_empty_end (slice_split_none is_newline bytes (λ k d lt. fails_before_first is_newline bytes k d (omega arith))) in
    let alone : bytes ∷ [] ≡ take n bytes ∷ [] = ap (λ (line : List ℕ). line ∷ []) (sym (take_all n bytes le)) in
    let nothing : lines_of (drop (n + 1) bytes) ≡ [] = ap lines_of (drop_all (n + 1) bytes (omega arith)) in
    parts ∙ part_last bytes some ∙ alone ∙ ap (λ (lines : List (List ℕ)). take n bytes ∷ lines) (sym nothing)

-- the first line, and the lines behind its newline
pub first_line_is : (bytes : List ℕ) (n : ℕ) → n ≡ position_or_len is_newline bytes → 0 < length bytes → lines_of bytes ≡ take n bytes ∷ lines_of (drop (n + 1) bytes)
first_line_is bytes n at some =
    elim (cases_lt n (length bytes)) [
      | inl lt ↦ line_and_newline bytes n at lt
      | inr le ↦ line_alone bytes n at some le
    ]

-- the same, by what stands from the newline on
pub first_line_before : (bytes rest after : List ℕ) (n : ℕ) → n ≡ position_or_len is_newline bytes → 0 < length bytes → rest ≡ drop n bytes → after ≡ drop 1 rest
    → lines_of bytes ≡ take n bytes ∷ lines_of after
first_line_before bytes rest after n at some behind next =
    let same : after ≡ drop (n + 1) bytes = next ∙ ap (drop 1) behind ∙ drop-drop 1 n bytes in
    rw same (first_line_is bytes n at some)
