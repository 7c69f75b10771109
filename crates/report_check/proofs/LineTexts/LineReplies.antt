-- The reply, the ticks and the path on a line: what is read is written so, and what is written so is read.
use Rattle.std.proofs.Common.{◌≡◌, ℕ, ◌<◌, Bool, true, false, cond, Option, Some, None, IfSome, List, [], ◌∷◌, ◌++◌, refl, sym, ap, subst, ◌∙◌, arith, lit<}
use Rattle.std.specs.Prelude.{codes}
use Rattle.std.specs.Str.{bytes_eq}
use Rattle.std.specs.Fmt.{decimal}
use Rattle.std.proofs.lemmas.Option.{same_Some}
use Rattle.std.proofs.lemmas.Slice.Eq.{bytes_eq-Decides}
use Rattle.lin_report.specs.declared.calls.Reply.{Reply}
use Rattle.lin_report.specs.declared.calls.Reply.TheVariants.{Yes, No, Done, Value, Empty, Absent, Exhausted}
use Rattle.lin_report.specs.declared.calls.Path.{Path}
use Rattle.lin_report.specs.declared.calls.Path.TheVariants.{Fast, Slow}
use Rattle.lin_report.specs.Commands.{VALUE_LIMIT, told_value}
use Rattle.lin_report.specs.Text.{SPACE, reply_words, answer_words, end_word, path_word}
use Rattle.lin_report.specs.Writing.{TICK_LIMIT}
use Rattle.script_reader.specs.Scripts.{GREATEST_VALUE}
use Rattle.report_check.specs.CallLines.{◌>>=◌, if_so, GREATEST_TICK, word_at, number_at, reply_of, reply_named, reply_at, answer_at, path_of}
use Rattle.report_check.proofs.LineTexts.LineFields.{bind_at, some_pair, NoSpace, word_takes, word_again, number_takes, number_again, no_space_in}
use Rattle.report_check.proofs.LineTexts.LineCommands.{front}

same_text : (word text : List ℕ) → bytes_eq word text ≡ true → word ≡ text
same_text word text e = (bytes_eq-Decides word text).0 e

-- the words of a reply, or that the call is pending
abbrev pub told_words : Option Reply → List (List ℕ)
told_words None = codes "pending" ∷ []
told_words (Some reply) = reply_words reply

-- a reply as it was read, with what was behind it
pub record WroteReply (bytes : List ℕ) (x : Option Reply × List ℕ) : Type 0 where
  pub text : bytes ≡ front (told_words x.0) x.1
  pub value : IfSome x.0 (λ reply. told_value reply < VALUE_LIMIT)

-- a word that names a reply without a value
reply_of_is : (word : List ℕ) (reply : Reply) → reply_of word ≡ Some reply → (reply_words reply ≡ word ∷ []) × (told_value reply < VALUE_LIMIT)
unfolding reply_words
reply_of_is word reply e = by_tests (bytes_eq word (codes "yes")) (bytes_eq word (codes "no")) (bytes_eq word (codes "done")) (bytes_eq word (codes "empty")) (bytes_eq word (codes "absent")) (bytes_eq word (codes "exhausted")) refl refl refl refl refl refl e
  where
    made : (text : List ℕ) (r : Reply) → reply_words r ≡ text ∷ [] → told_value r < VALUE_LIMIT → bytes_eq word text ≡ true → Some r ≡ Some reply → (reply_words reply ≡ word ∷ []) × (told_value reply < VALUE_LIMIT)
    made text r words small test same =
        subst (λ (q : Reply). (reply_words q ≡ word ∷ []) × (told_value q < VALUE_LIMIT)) (same_Some r reply same)
        (words ∙ ap (λ (w : List ℕ). w ∷ []) (sym (same_text word text test)), small)

    by_tests : (a b c d f g : Bool) → bytes_eq word (codes "yes") ≡ a → bytes_eq word (codes "no") ≡ b → bytes_eq word (codes "done") ≡ c → bytes_eq word (codes "empty") ≡ d → bytes_eq word (codes "absent") ≡ f → bytes_eq word (codes "exhausted") ≡ g
        → cond a (Some Yes) (cond b (Some No) (cond c (Some Done) (cond d (Some Empty) (cond f (Some Absent) (cond g (Some Exhausted) None))))) ≡ Some reply → (reply_words reply ≡ word ∷ []) × (told_value reply < VALUE_LIMIT)
    by_tests true b c d f g p q r s t u e = made (codes "yes") Yes refl (lit< tt) p e
    by_tests false true c d f g p q r s t u e = made (codes "no") No refl (lit< tt) q e
    by_tests false false true d f g p q r s t u e = made (codes "done") Done refl (lit< tt) r e
    by_tests false false false true f g p q r s t u e = made (codes "empty") Empty refl (lit< tt) s e
    by_tests false false false false true g p q r s t u e = made (codes "absent") Absent refl (lit< tt) t e
    by_tests false false false false false true p q r s t u e = made (codes "exhausted") Exhausted refl (lit< tt) u e
    by_tests false false false false false false p q r s t u e = absurd cc

named_takes : (word bytes : List ℕ) (x : Option Reply × List ℕ) → reply_named word bytes ≡ Some x → WroteReply (word ++ SPACE ∷ bytes) x
unfolding reply_words
named_takes word bytes x e = by_tests (bytes_eq word (codes "pending")) (bytes_eq word (codes "value")) refl refl e
  where
    by_value : bytes_eq word (codes "value") ≡ true → (o : Option (ℕ × List ℕ)) → number_at GREATEST_VALUE bytes ≡ o → (o >>= (λ n. some_pair {A = Option Reply} (Some (Value n.0)) n.1)) ≡ Some x → WroteReply (word ++ SPACE ∷ bytes) x
    by_value test None is e = absurd cc
    by_value test (Some n) is e =
        let m = number_takes GREATEST_VALUE bytes n.0 n.1 (lit< tt) is in
        subst (WroteReply (word ++ SPACE ∷ bytes)) (same_Some (Some (Value n.0), n.1) x e)
        (record { text = ap (λ (w : List ℕ). w ++ SPACE ∷ bytes) (same_text word (codes "value") test) ∙ ap (λ (b : List ℕ). codes "value" ++ SPACE ∷ b) m.1; value = omega (arith, m.0) })

    by_reply : (o : Option Reply) → reply_of word ≡ o → (o >>= (λ reply. some_pair {A = Option Reply} (Some reply) bytes)) ≡ Some x → WroteReply (word ++ SPACE ∷ bytes) x
    by_reply None is e = absurd cc
    by_reply (Some reply) is e =
        let r = reply_of_is word reply is in
        subst (WroteReply (word ++ SPACE ∷ bytes)) (same_Some (Some reply, bytes) x e) (record { text = ap (λ (ws : List (List ℕ)). front ws bytes) (sym r.0); value = r.1 })

    by_tests : (a b : Bool) → bytes_eq word (codes "pending") ≡ a → bytes_eq word (codes "value") ≡ b
        → cond a (some_pair {A = Option Reply} None bytes) (cond b (number_at GREATEST_VALUE bytes >>= (λ n. some_pair {A = Option Reply} (Some (Value n.0)) n.1)) (reply_of word >>= (λ reply. some_pair {A = Option Reply} (Some reply) bytes))) ≡ Some x
        → WroteReply (word ++ SPACE ∷ bytes) x
    by_tests true b p q e =
        subst (WroteReply (word ++ SPACE ∷ bytes)) (same_Some (None, bytes) x e) (record { text = ap (λ (w : List ℕ). w ++ SPACE ∷ bytes) (same_text word (codes "pending") p); value = tt })
    by_tests false true p q e = by_value q (number_at GREATEST_VALUE bytes) refl e
    by_tests false false p q e = by_reply (reply_of word) refl e

pub reply_takes : (bytes : List ℕ) (x : Option Reply × List ℕ) → reply_at bytes ≡ Some x → WroteReply bytes x
reply_takes bytes x e = by_word (word_at bytes) refl e
  where
    by_word : (o : Option (List ℕ × List ℕ)) → word_at bytes ≡ o → (o >>= (λ w. reply_named w.0 w.1)) ≡ Some x → WroteReply bytes x
    by_word None is e = absurd cc
    by_word (Some w) is e = subst (λ (b : List ℕ). WroteReply b x) (sym (word_takes bytes w.0 w.1 is)) (named_takes w.0 w.1 x e)

behind_word : (word : List ℕ) (rest : List ℕ) (x : Option Reply × List ℕ) → NoSpace word → reply_named word rest ≡ Some x → reply_at (word ++ SPACE ∷ rest) ≡ Some x
behind_word word rest x none e = bind_at (word_at (word ++ SPACE ∷ rest)) (λ w. reply_named w.0 w.1) (word, rest) (word_again word rest none) ∙ e

pub reply_again : (told : Option Reply) (rest : List ℕ) → IfSome told (λ reply. told_value reply < VALUE_LIMIT) → reply_at (front (told_words told) rest) ≡ Some (told, rest)
unfolding reply_words
reply_again None rest h = behind_word (codes "pending") rest (None, rest) (no_space_in (codes "pending") refl) refl
reply_again (Some Yes) rest h = behind_word (codes "yes") rest (Some Yes, rest) (no_space_in (codes "yes") refl) refl
reply_again (Some No) rest h = behind_word (codes "no") rest (Some No, rest) (no_space_in (codes "no") refl) refl
reply_again (Some Done) rest h = behind_word (codes "done") rest (Some Done, rest) (no_space_in (codes "done") refl) refl
reply_again (Some (Value n)) rest h =
    behind_word (codes "value") (decimal n ++ SPACE ∷ rest) (Some (Value n), rest) (no_space_in (codes "value") refl)
    (bind_at (number_at GREATEST_VALUE (decimal n ++ SPACE ∷ rest)) (λ m. some_pair {A = Option Reply} (Some (Value m.0)) m.1) (n, rest) (number_again GREATEST_VALUE n rest (lit< tt) (omega (arith, h))))
reply_again (Some Empty) rest h = behind_word (codes "empty") rest (Some Empty, rest) (no_space_in (codes "empty") refl) refl
reply_again (Some Absent) rest h = behind_word (codes "absent") rest (Some Absent, rest) (no_space_in (codes "absent") refl) refl
reply_again (Some Exhausted) rest h = behind_word (codes "exhausted") rest (Some Exhausted, rest) (no_space_in (codes "exhausted") refl) refl

-- the reply of an answer
abbrev pub told_of : Option (Reply × ℕ) → Option Reply
told_of None = None
told_of (Some answer) = Some answer.0

pub told_of_words : (answer : Option (Reply × ℕ)) → answer_words answer ≡ told_words (told_of answer)
told_of_words None = refl
told_of_words (Some answer) = refl

-- an answer as it was read from its end, with what was behind it
pub record WroteAnswer (reply : Option Reply) (bytes : List ℕ) (x : Option (Reply × ℕ) × List ℕ) : Type 0 where
  pub text : bytes ≡ end_word x.0 ++ SPACE ∷ x.1
  pub told : told_of x.0 ≡ reply
  pub end : IfSome x.0 (λ answer. answer.1 < TICK_LIMIT)

pub answer_takes : (reply : Option Reply) (bytes : List ℕ) (x : Option (Reply × ℕ) × List ℕ) → answer_at reply bytes ≡ Some x → WroteAnswer reply bytes x
answer_takes None bytes x e = by_word (word_at bytes) refl e
  where
    by_test : (w : List ℕ × List ℕ) → word_at bytes ≡ Some w → (b : Bool) → bytes_eq w.0 (codes "-") ≡ b → cond b (some_pair {A = Option (Reply × ℕ)} None w.1) None ≡ Some x → WroteAnswer None bytes x
    by_test w at true p e =
        subst (WroteAnswer None bytes) (same_Some (None, w.1) x e)
        (record { text = word_takes bytes w.0 w.1 at ∙ ap (λ (v : List ℕ). v ++ SPACE ∷ w.1) (same_text w.0 (codes "-") p); told = refl; end = tt })
    by_test w at false p e = absurd cc

    by_word : (o : Option (List ℕ × List ℕ)) → word_at bytes ≡ o → (o >>= (λ w. if_so (bytes_eq w.0 (codes "-")) (None, w.1))) ≡ Some x → WroteAnswer None bytes x
    by_word None is e = absurd cc
    by_word (Some w) is e = by_test w is (bytes_eq w.0 (codes "-")) refl e
answer_takes (Some reply) bytes x e = by_number (number_at GREATEST_TICK bytes) refl e
  where
    by_number : (o : Option (ℕ × List ℕ)) → number_at GREATEST_TICK bytes ≡ o → (o >>= (λ n. some_pair {A = Option (Reply × ℕ)} (Some (reply, n.0)) n.1)) ≡ Some x → WroteAnswer (Some reply) bytes x
    by_number None is e = absurd cc
    by_number (Some n) is e =
        let m = number_takes GREATEST_TICK bytes n.0 n.1 (lit< tt) is in
        subst (WroteAnswer (Some reply) bytes) (same_Some (Some (reply, n.0), n.1) x e) (record { text = m.1; told = refl; end = omega (arith, m.0) })

pub answer_again : (answer : Option (Reply × ℕ)) (rest : List ℕ) → IfSome answer (λ a. a.1 < TICK_LIMIT) → answer_at (told_of answer) (end_word answer ++ SPACE ∷ rest) ≡ Some (answer, rest)
answer_again None rest h =
    bind_at (word_at (codes "-" ++ SPACE ∷ rest)) (λ w. if_so (bytes_eq w.0 (codes "-")) (None, w.1)) (codes "-", rest) (word_again (codes "-") rest (no_space_in (codes "-") refl))
answer_again (Some answer) rest h =
    bind_at (number_at GREATEST_TICK (decimal answer.1 ++ SPACE ∷ rest)) (λ n. some_pair {A = Option (Reply × ℕ)} (Some (answer.0, n.0)) n.1) (answer.1, rest) (number_again GREATEST_TICK answer.1 rest (lit< tt) (omega (arith, h)))

pub path_takes : (word : List ℕ) (path : Path) → path_of word ≡ Some path → word ≡ path_word path
unfolding path_word
path_takes word path e = by_tests (bytes_eq word (codes "fast")) (bytes_eq word (codes "slow")) refl refl e
  where
    by_tests : (a b : Bool) → bytes_eq word (codes "fast") ≡ a → bytes_eq word (codes "slow") ≡ b → cond a (Some Fast) (cond b (Some Slow) None) ≡ Some path → word ≡ path_word path
    by_tests true b p q e = same_text word (codes "fast") p ∙ ap path_word (same_Some Fast path e)
    by_tests false true p q e = same_text word (codes "slow") q ∙ ap path_word (same_Some Slow path e)
    by_tests false false p q e = absurd cc

pub path_again : (path : Path) → path_of (path_word path) ≡ Some path
unfolding path_word
path_again Fast = refl
path_again Slow = refl
