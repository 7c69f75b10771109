-- The summary line in the pieces that the code puts last, and that it has at most 128 bytes.
use Rattle.std.proofs.Common.{◌≡◌, ℕ, ◌+◌, ◌-◌, ◌^◌, ◌<◌, ◌≤◌, Option, Some, None, IfSome, List, [], ◌∷◌, ◌++◌, map, length, count_by, codes, length-append, append_assoc, refl, sym, ap, ap₂, ◌∙◌, arith}
use Rattle.std.specs.Fmt.{decimal}
use Rattle.std.proofs.lemmas.Fmt.{length-decimal-le}
use Rattle.std.proofs.lemmas.List.{length-map}
use Rattle.std.proofs.lemmas.List.Sums.{length-filter, count_by-le-length, sum_by-append}
use Rattle.std.proofs.lemmas.List.Filters.{length-filter_both}
use Rattle.lin_report.specs.declared.calls.PendingCall.{PendingCall}
use Rattle.lin_report.specs.Calls.{Call, Report, answered_call, pending_call, calls_of}
use Rattle.lin_report.specs.Text.{SPACE, NEWLINE, spaced, count_words, overtaken_words, is_fast, is_slow, is_exhausted, summary_text}
use Rattle.lin_report.specs.Writing.{CanWrite}
use Rattle.lin_report.proofs.LinePieces.{spaced-append, line-spaced}
use Rattle.lin_report.proofs.Merging.{answered_count, pending_count}

named : (name number : List ℕ) (more : List (List ℕ)) → spaced (name ∷ number ∷ more) ≡ spaced (name ∷ number ∷ []) ++ spaced more
named name number more = spaced-append (name ∷ number ∷ []) more

-- a number, and four more behind their names
pub spaced-count_words : (calls fast slow exhausted pending : ℕ) →
    spaced (count_words calls fast slow exhausted pending) ≡ (SPACE ∷ decimal calls)
    ++ (spaced (codes "fast" ∷ decimal fast ∷ []) ++ (spaced (codes "slow" ∷ decimal slow ∷ []) ++ (spaced (codes "exhausted" ∷ decimal exhausted ∷ []) ++ spaced (codes "pending" ∷ decimal pending ∷ []))))
unfolding spaced count_words
spaced-count_words calls fast slow exhausted pending =
    let last : List (List ℕ) = codes "pending" ∷ decimal pending ∷ [] in
    let later : List (List ℕ) = codes "exhausted" ∷ decimal exhausted ∷ last in
    let second : List (List ℕ) = codes "slow" ∷ decimal slow ∷ later in
    ap (λ (bytes : List ℕ). (SPACE ∷ decimal calls) ++ bytes) (named (codes "fast") (decimal fast) second
    ∙ ap (λ (bytes : List ℕ). spaced (codes "fast" ∷ decimal fast ∷ []) ++ bytes) (named (codes "slow") (decimal slow) later
    ∙ ap (λ (bytes : List ℕ). spaced (codes "slow" ∷ decimal slow ∷ []) ++ bytes) (named (codes "exhausted") (decimal exhausted) last)))

-- every call that isn't fast is slow
slow_count : (calls : List Call) → count_by is_slow calls ≡ length calls - count_by is_fast calls
slow_count calls = omega (arith, length-filter_both is_fast is_slow (λ _. refl) calls, length-filter is_fast calls, length-filter is_slow calls)

-- no pending call was answered exhausted
none_pending : (pending : List PendingCall) → count_by is_exhausted (map pending_call pending) ≡ 0
none_pending [] = refl
none_pending (p ∷ pending) = none_pending pending

exhausted_count : (report : Report) → count_by is_exhausted (calls_of report) ≡ count_by is_exhausted (map answered_call report.receipts)
exhausted_count report =
    sum_by-append _ (map answered_call report.receipts) (map pending_call report.pending) ∙ omega (arith, none_pending report.pending)

call_count : (report : Report) → length (calls_of report) ≡ length report.receipts + length report.pending
call_count report =
    length-append (map answered_call report.receipts) (map pending_call report.pending) ∙ omega (arith, length-map report.receipts answered_call, length-map report.pending pending_call)

regroup : (a b c d : List ℕ) → a ++ ((b ++ c) ++ d) ≡ (a ++ b) ++ (c ++ d)
regroup a b c d = simp append_assoc

-- the pieces of the summary line
pub summary_pieces : (report : Report) (overtaken : Option ℕ) (calls fast exhausted : ℕ) → calls ≡ length report.receipts + length report.pending → fast ≡ count_by is_fast (calls_of report) → exhausted ≡ count_by is_exhausted (map answered_call report.receipts) →
    summary_text report overtaken ≡ (codes "calls" ++ spaced (count_words calls fast (calls - fast) exhausted (length report.pending))) ++ (spaced (overtaken_words overtaken) ++ NEWLINE ∷ [])
unfolding summary_text
summary_pieces report overtaken calls fast exhausted all quick empty =
    let made = calls_of report in
    let words = count_words (length made) (count_by is_fast made) (count_by is_slow made) (count_by is_exhausted made) (length report.pending) in
    let e_calls : length made ≡ calls = call_count report ∙ sym all in
    let e_slow : count_by is_slow made ≡ calls - fast = slow_count made ∙ ap₂ (λ (m n : ℕ). m - n) e_calls (sym quick) in
    let e_exhausted : count_by is_exhausted made ≡ exhausted = exhausted_count report ∙ sym empty in
    let same : words ≡ count_words calls fast (calls - fast) exhausted (length report.pending) = cc in
    line-spaced (codes "calls") (words ++ overtaken_words overtaken)
    ∙ ap (λ (bytes : List ℕ). codes "calls" ++ (bytes ++ NEWLINE ∷ [])) (spaced-append words (overtaken_words overtaken))
    ∙ regroup (codes "calls") (spaced words) (spaced (overtaken_words overtaken)) (NEWLINE ∷ [])
    ∙ ap (λ (counts : List (List ℕ)). (codes "calls" ++ spaced counts) ++ (spaced (overtaken_words overtaken) ++ NEWLINE ∷ [])) same

-- each count has at most seven digits
counts_length : (calls fast slow exhausted pending : ℕ) → calls < 10 ^ 7 → fast < 10 ^ 7 → slow < 10 ^ 7 → exhausted < 10 ^ 7 → pending < 10 ^ 7 →
    length (codes "calls" ++ spaced (count_words calls fast slow exhausted pending)) ≤ 73
unfolding count_words spaced
counts_length calls fast slow exhausted pending a b c d e =
    let digits : (n : ℕ) → n < 10 ^ 7 → length (decimal n) ≤ 7 = λ n small. length-decimal-le 7 n (omega arith) small (omega arith) in
    simp length-append (omega (arith, digits calls a, digits fast b, digits slow c, digits exhausted d, digits pending e))

-- an overtaking count of at most 524,280 has at most six
overtaken_length : (overtaken : Option ℕ) → IfSome overtaken (λ most. most ≤ 524280) → length (spaced (overtaken_words overtaken) ++ NEWLINE ∷ []) ≤ 18
unfolding spaced
overtaken_length None few = omega arith
overtaken_length (Some most) few =
    let digits : length (decimal most) ≤ 6 = length-decimal-le 6 most (omega arith) (omega arith) (omega arith) in
    simp length-append (omega arith)

-- the summary line has at most 91 bytes
pub summary_length : (report : Report) (overtaken : Option ℕ) (calls fast exhausted : ℕ) → CanWrite report overtaken → calls ≡ length report.receipts + length report.pending → fast ≡ count_by is_fast (calls_of report) → exhausted ≡ count_by is_exhausted (map answered_call report.receipts) →
    length (codes "calls" ++ spaced (count_words calls fast (calls - fast) exhausted (length report.pending))) + length (spaced (overtaken_words overtaken) ++ NEWLINE ∷ []) ≤ 91
summary_length report overtaken calls fast exhausted can all quick empty =
    let answered = answered_count report overtaken can in
    let waiting = pending_count report overtaken can in
    let few_fast = count_by-le-length is_fast (calls_of report) in
    let few_exhausted = count_by-le-length is_exhausted (map answered_call report.receipts) in
    omega (
      arith,
      overtaken_length overtaken can.overtaken,
      counts_length calls fast (calls - fast) exhausted (length report.pending) (omega arith) (omega (arith, call_count report)) (omega arith) (omega (arith, length-map report.receipts answered_call)) (omega arith),
    )
