-- The line of a call in the pieces that the code puts last.
use Rattle.std.proofs.Common.{◌≡◌, ℕ, List, [], ◌∷◌, ◌++◌, append_assoc, append-nil, length, ◌+◌, length-append, codes, refl, ap, sym, ◌∙◌}
use Rattle.std.proofs.lemmas.List.Concat.{flat_map-append}
use Rattle.std.specs.Fmt.{decimal}
use Rattle.lin_report.specs.declared.calls.Receipt.{Receipt}
use Rattle.lin_report.specs.declared.calls.PendingCall.{PendingCall}
use Rattle.lin_report.specs.Calls.{answered_call, pending_call}
use Rattle.lin_report.specs.Text.{SPACE, NEWLINE, line, spaced, call_line, command_words, reply_words, path_word}

pub spaced-append : (xs ys : List (List ℕ)) → spaced (xs ++ ys) ≡ spaced xs ++ spaced ys
unfolding spaced
spaced-append xs ys = flat_map-append (λ (word : List ℕ). SPACE ∷ word) xs ys

-- a word, the others with a space before each, and a newline
pub line-spaced : (word : List ℕ) (words : List (List ℕ)) → line (word ∷ words) ≡ word ++ (spaced words ++ NEWLINE ∷ [])
unfolding line spaced
line-spaced word [] = refl
line-spaced word (next ∷ words) =
    append_assoc word _ (NEWLINE ∷ [])
    ∙ ap (λ (bytes : List ℕ). word ++ (SPACE ∷ bytes)) (line-spaced next words ∙ sym (append_assoc next (spaced words) (NEWLINE ∷ [])))

regroup : (a b c d e f g h : List ℕ) → a ++ ((b ++ ((c ++ d) ++ (e ++ (f ++ (g ++ []))))) ++ h) ≡ (a ++ (b ++ c)) ++ (d ++ (e ++ (f ++ (g ++ h))))
regroup a b c d e f g h = simp (append_assoc, append-nil)

-- the pieces of a call's line
pub pieces : (seat number : List ℕ) (command answer : List (List ℕ)) (begin end path : List ℕ) →
    line (seat ∷ number ∷ command ++ answer ++ begin ∷ end ∷ path ∷ [])
    ≡ (seat ++ spaced (number ∷ command)) ++ (spaced answer ++ ((SPACE ∷ begin) ++ ((SPACE ∷ end) ++ (SPACE ∷ path ++ NEWLINE ∷ []))))
unfolding spaced
pieces seat number command answer begin end path =
    let ending : List (List ℕ) = begin ∷ end ∷ path ∷ [] in
    let words : spaced (command ++ answer ++ ending) ≡ (spaced command ++ spaced answer) ++ spaced ending =
    spaced-append (command ++ answer) ending ∙ ap (λ (bytes : List ℕ). bytes ++ spaced ending) (spaced-append command answer) in
    line-spaced seat (number ∷ command ++ answer ++ ending)
    ∙ ap (λ (bytes : List ℕ). seat ++ (((SPACE ∷ number) ++ bytes) ++ NEWLINE ∷ [])) words
    ∙ regroup seat (SPACE ∷ number) (spaced command) (spaced answer) (SPACE ∷ begin) (SPACE ∷ end) (SPACE ∷ path) (NEWLINE ∷ [])

-- what is put last for an answered call: who asked for what, the reply, the ticks, the path
abbrev pub answered_pieces : Receipt → List ℕ
answered_pieces r =
    (decimal r.seat ++ spaced (decimal r.number ∷ command_words r.op))
    ++ (spaced (reply_words r.reply) ++ ((SPACE ∷ decimal r.begin) ++ ((SPACE ∷ decimal r.end) ++ (SPACE ∷ path_word r.path ++ NEWLINE ∷ []))))

abbrev pub pending_pieces : PendingCall → List ℕ
pending_pieces p =
    (decimal p.seat ++ spaced (decimal p.number ∷ command_words p.op))
    ++ ((SPACE ∷ codes "pending") ++ ((SPACE ∷ decimal p.begin) ++ ((SPACE ∷ codes "-") ++ (SPACE ∷ path_word p.path ++ NEWLINE ∷ []))))

pub call_line-answered : (r : Receipt) → call_line (answered_call r) ≡ answered_pieces r
unfolding call_line
call_line-answered r = pieces (decimal r.seat) (decimal r.number) (command_words r.op) (reply_words r.reply) (decimal r.begin) (decimal r.end) (path_word r.path)

pub call_line-pending : (p : PendingCall) → call_line (pending_call p) ≡ pending_pieces p
unfolding call_line spaced
call_line-pending p = pieces (decimal p.seat) (decimal p.number) (command_words p.op) (codes "pending" ∷ []) (decimal p.begin) (codes "-") (path_word p.path)

length_five : (a b c d e : List ℕ) → length (a ++ (b ++ (c ++ (d ++ e)))) ≡ length a + (length b + (length c + (length d + length e)))
length_five a b c d e = simp length-append

pub length_answered : (r : Receipt) → length (call_line (answered_call r)) ≡
    length (decimal r.seat ++ spaced (decimal r.number ∷ command_words r.op)) + (length (spaced (reply_words r.reply)) + (length (SPACE ∷ decimal r.begin) + (length (SPACE ∷ decimal r.end) + length (SPACE ∷ path_word r.path ++ NEWLINE ∷ []))))
length_answered r =
    ap length (call_line-answered r)
    ∙ length_five (decimal r.seat ++ spaced (decimal r.number ∷ command_words r.op)) (spaced (reply_words r.reply)) (SPACE ∷ decimal r.begin) (SPACE ∷ decimal r.end) (SPACE ∷ path_word r.path ++ NEWLINE ∷ [])

pub length_pending : (p : PendingCall) → length (call_line (pending_call p)) ≡
    length (decimal p.seat ++ spaced (decimal p.number ∷ command_words p.op)) + (length (SPACE ∷ codes "pending") + (length (SPACE ∷ decimal p.begin) + (length (SPACE ∷ codes "-") + length (SPACE ∷ path_word p.path ++ NEWLINE ∷ []))))
length_pending p =
    ap length (call_line-pending p)
    ∙ length_five (decimal p.seat ++ spaced (decimal p.number ∷ command_words p.op)) (SPACE ∷ codes "pending") (SPACE ∷ decimal p.begin) (SPACE ∷ codes "-") (SPACE ∷ path_word p.path ++ NEWLINE ∷ [])
