-- The summary line: what is read of it is written so, and what is written so is read.
use Rattle.std.proofs.Common.{◌≡◌, ℕ, ◌+◌, ◌-◌, Bool, true, false, cond, eqb, nat_lt, le-ltb, Option, Some, None, List, [], ◌∷◌, ◌++◌, map, length, take, drop, count_by, codes, append_assoc, append-nil, length-append, refl, sym, ap, subst, ◌∙◌, arith, lit<}
use Rattle.std.specs.Str.{bytes_eq}
use Rattle.std.specs.Fmt.{decimal}
use Rattle.std.proofs.Math.Seq.{take-append_seam, drop-append-add}
use Rattle.std.proofs.lemmas.Bool.{eqb-true}
use Rattle.std.proofs.lemmas.List.{take-append-drop}
use Rattle.std.proofs.lemmas.Option.{same_Some, some_pair_parts}
use Rattle.std.proofs.lemmas.Slice.Eq.{bytes_eq-Decides}
use Rattle.lin_report.specs.Calls.{Report, answered_call, calls_of}
use Rattle.lin_report.specs.Text.{NEWLINE, spaced, count_words, overtaken_words, is_fast, is_exhausted, summary_text}
use Rattle.lin_report.proofs.Summaries.{summary_pieces}
use Rattle.report_check.specs.CallLines.{◌>>=◌, line_at, plain_number}
use Rattle.report_check.specs.Reports.{MOST_OVERTAKEN, MayTell, behind, count_at, end_at}
use Rattle.report_check.proofs.LineTexts.LineFields.{bind_at, some_pair, line_takes, line_again, plain_takes, plain_again, decimal_no_newline}

-- the line to its last count but the overtaking count
unfoldable pub summary_front : Report → List ℕ
summary_front report =
    let calls = length report.receipts + length report.pending in
    let fast = count_by is_fast (calls_of report) in
    codes "calls" ++ spaced (count_words calls fast (calls - fast) (count_by is_exhausted (map answered_call report.receipts)) (length report.pending))

-- the overtaking count, where it is told, and the newline
unfoldable pub told_end : Option ℕ → List ℕ
told_end None = NEWLINE ∷ []
told_end (Some most) = codes " overtaken " ++ (decimal most ++ NEWLINE ∷ [])

told_words : (overtaken : Option ℕ) → spaced (overtaken_words overtaken) ++ NEWLINE ∷ [] ≡ told_end overtaken
unfolding spaced told_end
told_words None = refl
told_words (Some most) = ap (λ (ds : List ℕ). codes " overtaken " ++ (ds ++ NEWLINE ∷ [])) (append-nil (decimal most))

pub summary_is : (report : Report) (overtaken : Option ℕ) → summary_text report overtaken ≡ summary_front report ++ told_end overtaken
unfolding summary_front
summary_is report overtaken =
    summary_pieces report overtaken (length report.receipts + length report.pending) (count_by is_fast (calls_of report)) (count_by is_exhausted (map answered_call report.receipts)) refl refl refl
    ∙ ap (λ (b : List ℕ). summary_front report ++ b) (told_words overtaken)

pub behind_takes : (text bytes rest : List ℕ) → behind text bytes ≡ Some rest → bytes ≡ text ++ rest
behind_takes text bytes rest e = by_tests (nat_lt (length bytes) (length text)) (bytes_eq (take (length text) bytes) text) refl e
  where
    by_tests : (a b : Bool) → bytes_eq (take (length text) bytes) text ≡ b → cond a None (cond b (Some (drop (length text) bytes)) None) ≡ Some rest → bytes ≡ text ++ rest
    by_tests true b same e = absurd cc
    by_tests false false same e = absurd cc
    by_tests false true same e =
        sym (take-append-drop (length text) bytes)
        ∙ ap (λ (w : List ℕ). w ++ drop (length text) bytes) ((bytes_eq-Decides (take (length text) bytes) text).0 same)
        ∙ ap (λ (r : List ℕ). text ++ r) (same_Some (drop (length text) bytes) rest e)

pub behind_again : (text rest : List ℕ) → behind text (text ++ rest) ≡ Some rest
behind_again text rest =
    ap (λ b. cond b None (cond (bytes_eq (take (length text) (text ++ rest)) text) (Some (drop (length text) (text ++ rest))) None))
    (le-ltb (length (text ++ rest)) (length text) (omega (arith, length-append text rest)))
    ∙ ap (λ b. cond b (Some (drop (length text) (text ++ rest))) None) ((bytes_eq-Decides (take (length text) (text ++ rest)) text).1 (take-append_seam text rest))
    ∙ ap (λ (r : List ℕ). Some r) (ap (λ k. drop k (text ++ rest)) (omega arith) ∙ drop-append-add text rest 0)

count_takes : (bytes : List ℕ) (overtaken : Option ℕ) (rest : List ℕ) → count_at bytes ≡ Some (overtaken, rest) → MayTell overtaken × (bytes ≡ told_end overtaken ++ rest)
unfolding told_end
count_takes bytes overtaken rest e = by_told (behind (codes " overtaken ") bytes) refl e
  where
    by_most : (told word after : List ℕ) → bytes ≡ codes " overtaken " ++ told → told ≡ word ++ NEWLINE ∷ after → (o : Option ℕ) → plain_number MOST_OVERTAKEN word ≡ o
        → (o >>= (λ most. some_pair (Some most) after)) ≡ Some (overtaken, rest) → MayTell overtaken × (bytes ≡ told_end overtaken ++ rest)
    by_most told word after front line None is e = absurd cc
    by_most told word after front line (Some most) is e =
        let plain = plain_takes MOST_OVERTAKEN word most (lit< tt) is in
        let parts = some_pair_parts (Some most) overtaken after rest e in
        let text : bytes ≡ told_end (Some most) ++ after =
        front ∙ ap (λ (b : List ℕ). codes " overtaken " ++ b) (line ∙ ap (λ (w : List ℕ). w ++ NEWLINE ∷ after) plain.1 ∙ sym (append_assoc (decimal most) (NEWLINE ∷ []) after)) in
        subst (λ (o : Option ℕ). MayTell o × (bytes ≡ told_end o ++ rest)) parts.0 (plain.0, text ∙ ap (λ (r : List ℕ). told_end (Some most) ++ r) parts.1)

    by_line : (told : List ℕ) → bytes ≡ codes " overtaken " ++ told → (o : Option (List ℕ × List ℕ)) → line_at told ≡ o
        → (o >>= (λ line. plain_number MOST_OVERTAKEN line.0 >>= (λ most. some_pair (Some most) line.1))) ≡ Some (overtaken, rest) → MayTell overtaken × (bytes ≡ told_end overtaken ++ rest)
    by_line told front None is e = absurd cc
    by_line told front (Some line) is e = by_most told line.0 line.1 front (line_takes told line.0 line.1 is) (plain_number MOST_OVERTAKEN line.0) refl e

    by_told : (o : Option (List ℕ)) → behind (codes " overtaken ") bytes ≡ o
        → (o >>= (λ told. line_at told >>= (λ line. plain_number MOST_OVERTAKEN line.0 >>= (λ most. some_pair (Some most) line.1)))) ≡ Some (overtaken, rest) → MayTell overtaken × (bytes ≡ told_end overtaken ++ rest)
    by_told None is e = absurd cc
    by_told (Some told) is e = by_line told (behind_takes (codes " overtaken ") bytes told is) (line_at told) refl e

pub end_takes : (bytes : List ℕ) (overtaken : Option ℕ) (rest : List ℕ) → end_at bytes ≡ Some (overtaken, rest) → MayTell overtaken × (bytes ≡ told_end overtaken ++ rest)
unfolding told_end
end_takes [] overtaken rest e = absurd cc
end_takes (b ∷ bytes) overtaken rest e = by_test (eqb b 10) refl e
  where
    by_test : (t : Bool) → eqb b 10 ≡ t → cond t (some_pair None bytes) (count_at (b ∷ bytes)) ≡ Some (overtaken, rest) → MayTell overtaken × (b ∷ bytes ≡ told_end overtaken ++ rest)
    by_test true is e =
        let parts = some_pair_parts None overtaken bytes rest e in
        subst (λ (o : Option ℕ). MayTell o × (b ∷ bytes ≡ told_end o ++ rest)) parts.0 (tt, ap (λ k. k ∷ bytes) (eqb-true b 10 is) ∙ ap (λ (r : List ℕ). NEWLINE ∷ r) parts.1)
    by_test false is e = count_takes (b ∷ bytes) overtaken rest e

pub end_again : (overtaken : Option ℕ) (rest : List ℕ) → MayTell overtaken → end_at (told_end overtaken ++ rest) ≡ Some (overtaken, rest)
unfolding told_end
end_again None rest few = refl
end_again (Some most) rest few =
    ap (λ (b : List ℕ). count_at (codes " overtaken " ++ b)) (append_assoc (decimal most) (NEWLINE ∷ []) rest)
    ∙ bind_at (behind (codes " overtaken ") (codes " overtaken " ++ (decimal most ++ NEWLINE ∷ rest))) _ (decimal most ++ NEWLINE ∷ rest) (behind_again (codes " overtaken ") (decimal most ++ NEWLINE ∷ rest))
    ∙ bind_at (line_at (decimal most ++ NEWLINE ∷ rest)) _ (decimal most, rest) (line_again (decimal most) rest (decimal_no_newline most (omega (arith, few))))
    ∙ bind_at (plain_number MOST_OVERTAKEN (decimal most)) _ most (plain_again MOST_OVERTAKEN most (lit< tt) few)
