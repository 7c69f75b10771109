-- No newline stands in the line of a call before its end.
use Rattle.std.proofs.Common.{◌≡◌, ℕ, ◌^◌, ◌<◌, Bool, true, false, cond, eqb, Option, Some, None, IfSome, List, [], ◌∷◌, ◌++◌, refl, ap, ◌∙◌, arith, append_assoc}
use Rattle.std.specs.Prelude.{IsTrue, codes}
use Rattle.std.specs.Fmt.{decimal}
use Rattle.std.proofs.lemmas.Bool.Decides.{nat_tests}
use Rattle.std.proofs.lemmas.List.Elements.{All-cons, All-append}
use Rattle.lin_report.specs.declared.calls.Client.{Client}
use Rattle.lin_report.specs.declared.calls.Client.TheVariants as client
use Rattle.lin_report.specs.declared.calls.Op.{Op}
use Rattle.lin_report.specs.declared.calls.Reply.{Reply}
use Rattle.lin_report.specs.declared.calls.Reply.TheVariants.{Yes, No, Done, Value, Empty, Absent, Exhausted}
use Rattle.lin_report.specs.declared.calls.Path.{Path}
use Rattle.lin_report.specs.declared.calls.Path.TheVariants.{Fast, Slow}
use Rattle.lin_report.specs.declared.calls.TheConstants.{PUT, TAKE, ADD, DEL, HAS, SET, REM, GET, PEEK}
use Rattle.lin_report.specs.Commands.{VALUE_LIMIT, KEY_LIMIT, told_value}
use Rattle.lin_report.specs.Object.{is_command}
use Rattle.lin_report.specs.Calls.{Call}
use Rattle.lin_report.specs.Text.{SPACE, NEWLINE, command_words, reply_words, end_word, path_word, call_line}
use Rattle.lin_report.specs.Writing.{TICK_LIMIT, IsPrintable}
use Rattle.script_reader.specs.Words.{is_newline}
use Rattle.report_check.specs.CallLines.{line_at}
use Rattle.report_check.proofs.LineTexts.LineFields.{NoNewline, line_again, decimal_no_newline, no_newline_in}
use Rattle.report_check.proofs.LineTexts.LineCommands.{front}
use Rattle.report_check.proofs.LineTexts.LineReplies.{told_words, told_of}
use Rattle.report_check.proofs.LineTexts.CallsOnLines.{fields, line_is, value_again, end_again}

abbrev Clean : List (List ℕ) → Type 0
Clean [] = Unit {0}
Clean (word ∷ words) = NoNewline word × Clean words

field_clean : (word rest : List ℕ) → NoNewline word → NoNewline rest → NoNewline (word ++ SPACE ∷ rest)
field_clean word rest w r = All-append (λ b. is_newline b ≡ false) word (SPACE ∷ rest) w (All-cons (λ b. is_newline b ≡ false) SPACE rest refl r)

front_clean : (words : List (List ℕ)) (rest : List ℕ) → Clean words → NoNewline rest → NoNewline (front words rest)
front_clean [] rest ws r = r
front_clean (word ∷ words) rest ws r = field_clean word (front words rest) ws.0 (front_clean words rest ws.1 r)

either_clean : (b : Bool) (xs ys : List (List ℕ)) → Clean xs → Clean ys → Clean (cond b xs ys)
either_clean true xs ys x y = x
either_clean false xs ys x y = y

command_clean : (op : Op) → op.key < 2 ^ 64 → op.value < 2 ^ 64 → Clean (command_words op)
unfolding command_words
command_clean op k v =
    let key : NoNewline (decimal op.key) = decimal_no_newline op.key k in
    let value : NoNewline (decimal op.value) = decimal_no_newline op.value v in
    either_clean (eqb op.code PUT) _ _ (no_newline_in (codes "put") refl, (value, tt))
    (either_clean (eqb op.code TAKE) _ _ (no_newline_in (codes "take") refl, tt)
    (either_clean (eqb op.code ADD) _ _ (no_newline_in (codes "add") refl, (key, tt))
    (either_clean (eqb op.code DEL) _ _ (no_newline_in (codes "del") refl, (key, tt))
    (either_clean (eqb op.code HAS) _ _ (no_newline_in (codes "has") refl, (key, tt))
    (either_clean (eqb op.code SET) _ _ (no_newline_in (codes "set") refl, (key, (value, tt)))
    (either_clean (eqb op.code REM) _ _ (no_newline_in (codes "rem") refl, (key, tt))
    (either_clean (eqb op.code GET) _ _ (no_newline_in (codes "get") refl, (key, tt))
    (either_clean (eqb op.code PEEK) _ _ (no_newline_in (codes "peek") refl, tt) (no_newline_in (codes "min") refl, tt)))))))))

reply_clean : (told : Option Reply) → IfSome told (λ reply. told_value reply < VALUE_LIMIT) → Clean (told_words told)
unfolding reply_words
reply_clean None h = (no_newline_in (codes "pending") refl, tt)
reply_clean (Some Yes) h = (no_newline_in (codes "yes") refl, tt)
reply_clean (Some No) h = (no_newline_in (codes "no") refl, tt)
reply_clean (Some Done) h = (no_newline_in (codes "done") refl, tt)
reply_clean (Some (Value n)) h = (no_newline_in (codes "value") refl, (decimal_no_newline n (omega (arith, h)), tt))
reply_clean (Some Empty) h = (no_newline_in (codes "empty") refl, tt)
reply_clean (Some Absent) h = (no_newline_in (codes "absent") refl, tt)
reply_clean (Some Exhausted) h = (no_newline_in (codes "exhausted") refl, tt)

end_clean : (answer : Option (Reply × ℕ)) → IfSome answer (λ a. a.1 < TICK_LIMIT) → NoNewline (end_word answer)
end_clean None h = no_newline_in (codes "-") refl
end_clean (Some answer) h = decimal_no_newline answer.1 (omega (arith, h))

path_clean : (path : Path) → NoNewline (path_word path)
unfolding path_word
path_clean Fast = no_newline_in (codes "fast") refl
path_clean Slow = no_newline_in (codes "slow") refl

key_small : (c : Client) (op : Op) → IsTrue (is_command c op) → op.key < KEY_LIMIT
key_small client.Queue op command = grind (arith, nat_tests)
key_small client.List op command = grind (arith, nat_tests)
key_small client.Tree op command = grind (arith, nat_tests)
key_small client.Buckets op command = grind (arith, nat_tests)

fields_clean : (c : Client) (l : Call) → IsPrintable l → IsTrue (is_command c l.op) → NoNewline (fields l)
fields_clean c l p command =
    field_clean (decimal l.seat) _ (decimal_no_newline l.seat (omega (arith, p.seat)))
    (field_clean (decimal l.number) _ (decimal_no_newline l.number (omega (arith, p.number)))
    (front_clean (command_words l.op) _ (command_clean l.op (omega (arith, key_small c l.op command)) (omega (arith, p.value)))
    (front_clean (told_words (told_of l.answer)) _ (reply_clean (told_of l.answer) (value_again l.op l.answer p.answer))
    (field_clean (decimal l.begin) _ (decimal_no_newline l.begin (omega (arith, p.begin)))
    (field_clean (end_word l.answer) (path_word l.path) (end_clean l.answer (end_again l.op l.answer p.answer)) (path_clean l.path))))))

-- the first line of bytes that begin with the line of a call
pub first_line_is : (c : Client) (l : Call) (rest : List ℕ) → IsPrintable l → IsTrue (is_command c l.op) → line_at (call_line l ++ rest) ≡ Some (fields l, rest)
first_line_is c l rest p command =
    ap (λ (b : List ℕ). line_at (b ++ rest)) (line_is l) ∙ ap line_at (append_assoc (fields l) (NEWLINE ∷ []) rest)
    ∙ line_again (fields l) rest (fields_clean c l p command)
