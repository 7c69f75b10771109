-- The call on a line: what is read is the call whose line it is, and a line of a call is read.
use Rattle.std.proofs.Common.{◌≡◌, ℕ, ◌<◌, ◌≤◌, Bool, true, false, cond, ltb, ◌&&◌, Option, Some, None, IfSome, List, [], ◌∷◌, ◌++◌, refl, sym, ap, subst, ◌∙◌, arith, append_assoc, lit<}
use Rattle.std.specs.Prelude.{IsTrue}
use Rattle.std.specs.List.{join_with_byte}
use Rattle.std.specs.Option.{option_map}
use Rattle.std.specs.Fmt.{decimal}
use Rattle.std.proofs.lemmas.Bool.{and_parts, and_from, ltb-true, lt-ltb}
use Rattle.std.proofs.lemmas.Bool.Decides.{nat_tests}
use Rattle.std.proofs.lemmas.List.{append_cancel_right}
use Rattle.std.proofs.lemmas.Option.{same_Some}
use Rattle.lin_report.specs.declared.calls.Client.{Client}
use Rattle.lin_report.specs.declared.calls.Client.TheVariants as client
use Rattle.lin_report.specs.declared.calls.Op.{Op}
use Rattle.lin_report.specs.declared.calls.Reply.{Reply}
use Rattle.lin_report.specs.declared.calls.Path.{Path}
use Rattle.lin_report.specs.Commands.{VALUE_LIMIT, is_some_command, told_value}
use Rattle.lin_report.specs.Object.{is_command}
use Rattle.lin_report.specs.Calls.{Call}
use Rattle.lin_report.specs.Text.{SPACE, NEWLINE, line, command_words, answer_words, end_word, path_word, call_line}
use Rattle.lin_report.specs.Writing.{TICK_LIMIT, IsPrintable, IsPrintableAnswer}
use Rattle.report_check.specs.declared.call_lines.CallLine.{CallLine}
use Rattle.report_check.specs.CallLines.{◌>>=◌, AsOption, GREATEST_TICK, if_so, number_at, command_at, reply_at, answer_at, path_of, fits, call_at, call_of, IsLineOf, TellsCall}
use Rattle.report_check.proofs.LineTexts.LineFields.{bind_at, number_takes, number_again}
use Rattle.report_check.proofs.LineTexts.LineCommands.{front, command_takes, command_again}
use Rattle.report_check.proofs.LineTexts.LineReplies.{told_words, reply_takes, reply_again, told_of, told_of_words, answer_takes, answer_again, path_takes, path_again}

join_front : (words : List (List ℕ)) (last : List ℕ) → join_with_byte SPACE (words ++ last ∷ []) ≡ front words last
join_front [] last = refl
join_front (w ∷ []) last = refl
join_front (w ∷ v ∷ words) last = ap (λ (b : List ℕ). w ++ SPACE ∷ b) (join_front (v ∷ words) last)

front_append : (xs ys : List (List ℕ)) (rest : List ℕ) → front (xs ++ ys) rest ≡ front xs (front ys rest)
front_append [] ys rest = refl
front_append (x ∷ xs) ys rest = ap (λ (b : List ℕ). x ++ SPACE ∷ b) (front_append xs ys rest)

-- the line of a call, field by field and without its newline
abbrev pub fields : Call → List ℕ
fields c =
    decimal c.seat ++ SPACE ∷ (decimal c.number ++ SPACE ∷ front (command_words c.op) (front (told_words (told_of c.answer)) (decimal c.begin ++ SPACE ∷ (end_word c.answer ++ SPACE ∷ path_word c.path))))

pub line_is : (c : Call) → call_line c ≡ fields c ++ NEWLINE ∷ []
unfolding call_line line
line_is c = ap (λ (b : List ℕ). b ++ NEWLINE ∷ []) joined
  where
    head : List (List ℕ)
    head = decimal c.seat ∷ decimal c.number ∷ command_words c.op

    ticks : List (List ℕ)
    ticks = decimal c.begin ∷ end_word c.answer ∷ []

    joined : join_with_byte SPACE ((decimal c.seat ∷ decimal c.number ∷ command_words c.op) ++ answer_words c.answer ++ decimal c.begin ∷ end_word c.answer ∷ path_word c.path ∷ []) ≡ fields c
    joined =
        ap (join_with_byte SPACE) (sym (append_assoc (head ++ answer_words c.answer) ticks (path_word c.path ∷ [])))
        ∙ join_front ((head ++ answer_words c.answer) ++ ticks) (path_word c.path)
        ∙ front_append (head ++ answer_words c.answer) ticks (path_word c.path)
        ∙ front_append head (answer_words c.answer) (front ticks (path_word c.path))
        ∙ ap (λ (ws : List (List ℕ)). front head (front ws (front ticks (path_word c.path)))) (told_of_words c.answer)

some_command : (c : Client) (op : Op) → IsTrue (is_command c op) → IsTrue (is_some_command op)
some_command client.Queue op command = grind (arith, nat_tests)
some_command client.List op command = grind (arith, nat_tests)
some_command client.Tree op command = grind (arith, nat_tests)
some_command client.Buckets op command = grind (arith, nat_tests)

-- an answer that may be printed, from what was read of it
printable_answer : (op : Op) (answer : Option (Reply × ℕ)) → fits op (told_of answer) ≡ true → IfSome (told_of answer) (λ reply. told_value reply < VALUE_LIMIT) → IfSome answer (λ a. a.1 < TICK_LIMIT) → IfSome answer (IsPrintableAnswer op)
printable_answer op None fit value end = tt
printable_answer op (Some a) fit value end = record { reply = record { named = fit; value = value }; end = end }

fits_again : (op : Op) (answer : Option (Reply × ℕ)) → IfSome answer (IsPrintableAnswer op) → fits op (told_of answer) ≡ true
fits_again op None h = refl
fits_again op (Some a) h = h.reply.named

pub value_again : (op : Op) (answer : Option (Reply × ℕ)) → IfSome answer (IsPrintableAnswer op) → IfSome (told_of answer) (λ reply. told_value reply < VALUE_LIMIT)
value_again op None h = tt
value_again op (Some a) h = h.reply.value

pub end_again : (op : Op) (answer : Option (Reply × ℕ)) → IfSome answer (IsPrintableAnswer op) → IfSome answer (λ a. a.1 < TICK_LIMIT)
end_again op None h = tt
end_again op (Some a) h = h.end

abbrev made : ℕ → ℕ → Op → Option (Reply × ℕ) → ℕ → Path → Call
made seat number op answer begin path = record { seat = seat; number = number; op = op; answer = answer; begin = begin; path = path }

-- what was read of a line, all fields of it
record HasFields (c : Client) (bytes : List ℕ) (l : Call) : Type 0 where
  text : bytes ≡ fields l
  seat : l.seat ≤ 7
  counted : 0 < l.number
  number : l.number ≤ 65535
  command : IsTrue (is_command c l.op)
  value : l.op.value < VALUE_LIMIT
  begin : l.begin ≤ GREATEST_TICK
  fit : fits l.op (told_of l.answer) ≡ true
  told : IfSome (told_of l.answer) (λ reply. told_value reply < VALUE_LIMIT)
  end : IfSome l.answer (λ a. a.1 < TICK_LIMIT)

module _ (c : Client) (bytes : List ℕ) (l : Call) where
  -- the last test
  by_fit : (seat number : ℕ) (op : Op) (reply : Option Reply) (begin : ℕ) (answer : Option (Reply × ℕ)) (path : Path)
      → bytes ≡ decimal seat ++ SPACE ∷ (decimal number ++ SPACE ∷ front (command_words op) (front (told_words reply) (decimal begin ++ SPACE ∷ (end_word answer ++ SPACE ∷ path_word path))))
      → seat ≤ 7 → number ≤ 65535 → IsTrue (is_command c op) → op.value < VALUE_LIMIT → IfSome reply (λ r. told_value r < VALUE_LIMIT) → begin ≤ GREATEST_TICK → told_of answer ≡ reply → IfSome answer (λ a. a.1 < TICK_LIMIT)
      → (b : Bool) → (ltb 0 number && fits op reply) ≡ b → cond b (Some (made seat number op answer begin path)) None ≡ Some l → HasFields c bytes l
  by_fit seat number op reply begin answer path text s n command value told b same end true test e =
      let parts = and_parts (ltb 0 number) (fits op reply) test in
      subst (HasFields c bytes) (same_Some (made seat number op answer begin path) l e)
      (record {
        text = text ∙ ap (λ (r : Option Reply). decimal seat ++ SPACE ∷ (decimal number ++ SPACE ∷ front (command_words op) (front (told_words r) (decimal begin ++ SPACE ∷ (end_word answer ++ SPACE ∷ path_word path))))) (sym same);
        seat = s;
        counted = ltb-true 0 number parts.0;
        number = n;
        command = command;
        value = value;
        begin = b;
        fit = ap (fits op) same ∙ parts.1;
        told = subst (λ (r : Option Reply). IfSome r (λ q. told_value q < VALUE_LIMIT)) (sym same) told;
        end = end;
      })
  by_fit seat number op reply begin answer path text s n command value told b same end false test e = absurd cc

  -- the fields one after another
  by_answer : (seat number : ℕ × List ℕ) (command : Op × List ℕ) (reply : Option Reply × List ℕ) (begin : ℕ × List ℕ) (answer : Option (Reply × ℕ) × List ℕ)
      → number_at 7 bytes ≡ Some seat → number_at 65535 seat.1 ≡ Some number → command_at c number.1 ≡ Some command → reply_at command.1 ≡ Some reply → number_at GREATEST_TICK reply.1 ≡ Some begin → answer_at reply.0 begin.1 ≡ Some answer
      → (o : Option Path) → path_of answer.1 ≡ o → (o >>= (λ path. if_so (ltb 0 number.0 && fits command.0 reply.0) (made seat.0 number.0 command.0 answer.0 begin.0 path))) ≡ Some l → HasFields c bytes l
  by_answer seat number command reply begin answer p1 p2 p3 p4 p5 p6 None p7 e = absurd cc
  by_answer seat number command reply begin answer p1 p2 p3 p4 p5 p6 (Some path) p7 e =
      let s = number_takes 7 bytes seat.0 seat.1 (lit< tt) p1 in
      let n = number_takes 65535 seat.1 number.0 number.1 (lit< tt) p2 in
      let o = command_takes c number.1 command p3 in
      let r = reply_takes command.1 reply p4 in
      let b = number_takes GREATEST_TICK reply.1 begin.0 begin.1 (lit< tt) p5 in
      let a = answer_takes reply.0 begin.1 answer p6 in
      let last = path_takes answer.1 path p7 in
      let behind_begin = b.1 ∙ ap (λ (x : List ℕ). decimal begin.0 ++ SPACE ∷ x) (a.text ∙ ap (λ (x : List ℕ). end_word answer.0 ++ SPACE ∷ x) last) in
      let behind_number = o.text ∙ ap (front (command_words command.0)) (r.text ∙ ap (front (told_words reply.0)) behind_begin) in
      by_fit seat.0 number.0 command.0 reply.0 begin.0 answer.0 path (s.1 ∙ ap (λ (x : List ℕ). decimal seat.0 ++ SPACE ∷ x) (n.1 ∙ ap (λ (x : List ℕ). decimal number.0 ++ SPACE ∷ x) behind_number))
      s.0 n.0 o.command o.value r.value b.0 a.told a.end (ltb 0 number.0 && fits command.0 reply.0) refl e

  read_fields : call_at c bytes ≡ Some l → HasFields c bytes l
  unfolding call_at
  read_fields e = by_seat (number_at 7 bytes) refl e
    where
      after_begin : ℕ → ℕ → Op → Option Reply → ℕ × List ℕ → Option Call
      after_begin seat number op reply begin = answer_at reply begin.1 >>= (λ answer. path_of answer.1 >>= (λ path. if_so (ltb 0 number && fits op reply) (made seat number op answer.0 begin.0 path)))

      by_begin : (seat number : ℕ × List ℕ) (command : Op × List ℕ) (reply : Option Reply × List ℕ) → number_at 7 bytes ≡ Some seat → number_at 65535 seat.1 ≡ Some number → command_at c number.1 ≡ Some command → reply_at command.1 ≡ Some reply
          → (begin : ℕ × List ℕ) → number_at GREATEST_TICK reply.1 ≡ Some begin → (o : Option (Option (Reply × ℕ) × List ℕ)) → answer_at reply.0 begin.1 ≡ o
          → (o >>= (λ answer. path_of answer.1 >>= (λ path. if_so (ltb 0 number.0 && fits command.0 reply.0) (made seat.0 number.0 command.0 answer.0 begin.0 path)))) ≡ Some l → HasFields c bytes l
      by_begin seat number command reply p1 p2 p3 p4 begin p5 None p6 e = absurd cc
      by_begin seat number command reply p1 p2 p3 p4 begin p5 (Some answer) p6 e = by_answer seat number command reply begin answer p1 p2 p3 p4 p5 p6 (path_of answer.1) refl e

      by_reply : (seat number : ℕ × List ℕ) (command : Op × List ℕ) → number_at 7 bytes ≡ Some seat → number_at 65535 seat.1 ≡ Some number → command_at c number.1 ≡ Some command
          → (reply : Option Reply × List ℕ) → reply_at command.1 ≡ Some reply → (o : Option (ℕ × List ℕ)) → number_at GREATEST_TICK reply.1 ≡ o
          → (o >>= (λ begin. answer_at reply.0 begin.1 >>= (λ answer. path_of answer.1 >>= (λ path. if_so (ltb 0 number.0 && fits command.0 reply.0) (made seat.0 number.0 command.0 answer.0 begin.0 path))))) ≡ Some l → HasFields c bytes l
      by_reply seat number command p1 p2 p3 reply p4 None p5 e = absurd cc
      by_reply seat number command p1 p2 p3 reply p4 (Some begin) p5 e = by_begin seat number command reply p1 p2 p3 p4 begin p5 (answer_at reply.0 begin.1) refl e

      by_command : (seat number : ℕ × List ℕ) → number_at 7 bytes ≡ Some seat → number_at 65535 seat.1 ≡ Some number → (command : Op × List ℕ) → command_at c number.1 ≡ Some command → (o : Option (Option Reply × List ℕ)) → reply_at command.1 ≡ o
          → (o >>= (λ reply. number_at GREATEST_TICK reply.1 >>= (λ begin. answer_at reply.0 begin.1 >>= (λ answer. path_of answer.1 >>= (λ path. if_so (ltb 0 number.0 && fits command.0 reply.0) (made seat.0 number.0 command.0 answer.0 begin.0 path)))))) ≡ Some l → HasFields c bytes l
      by_command seat number p1 p2 command p3 None p4 e = absurd cc
      by_command seat number p1 p2 command p3 (Some reply) p4 e = by_reply seat number command p1 p2 p3 reply p4 (number_at GREATEST_TICK reply.1) refl e

      by_number : (seat : ℕ × List ℕ) → number_at 7 bytes ≡ Some seat → (number : ℕ × List ℕ) → number_at 65535 seat.1 ≡ Some number → (o : Option (Op × List ℕ)) → command_at c number.1 ≡ o
          → (o >>= (λ command. reply_at command.1 >>= (λ reply. number_at GREATEST_TICK reply.1 >>= (λ begin. answer_at reply.0 begin.1 >>= (λ answer. path_of answer.1 >>= (λ path. if_so (ltb 0 number.0 && fits command.0 reply.0) (made seat.0 number.0 command.0 answer.0 begin.0 path))))))) ≡ Some l → HasFields c bytes l
      by_number seat p1 number p2 None p3 e = absurd cc
      by_number seat p1 number p2 (Some command) p3 e = by_command seat number p1 p2 command p3 (reply_at command.1) refl e

      by_second : (seat : ℕ × List ℕ) → number_at 7 bytes ≡ Some seat → (o : Option (ℕ × List ℕ)) → number_at 65535 seat.1 ≡ o
          → (o >>= (λ number. command_at c number.1 >>= (λ command. reply_at command.1 >>= (λ reply. number_at GREATEST_TICK reply.1 >>= (λ begin. answer_at reply.0 begin.1 >>= (λ answer. path_of answer.1 >>= (λ path. if_so (ltb 0 number.0 && fits command.0 reply.0) (made seat.0 number.0 command.0 answer.0 begin.0 path)))))))) ≡ Some l → HasFields c bytes l
      by_second seat p1 None p2 e = absurd cc
      by_second seat p1 (Some number) p2 e = by_number seat p1 number p2 (command_at c number.1) refl e

      by_seat : (o : Option (ℕ × List ℕ)) → number_at 7 bytes ≡ o
          → (o >>= (λ seat. number_at 65535 seat.1 >>= (λ number. command_at c number.1 >>= (λ command. reply_at command.1 >>= (λ reply. number_at GREATEST_TICK reply.1 >>= (λ begin. answer_at reply.0 begin.1 >>= (λ answer. path_of answer.1 >>= (λ path. if_so (ltb 0 number.0 && fits command.0 reply.0) (made seat.0 number.0 command.0 answer.0 begin.0 path))))))))) ≡ Some l → HasFields c bytes l
      by_seat None p1 e = absurd cc
      by_seat (Some seat) p1 e = by_second seat p1 (number_at 65535 seat.1) refl e

-- a call that was read is the one whose line it is
pub call_takes : (c : Client) (bytes : List ℕ) (l : Call) → call_at c bytes ≡ Some l → IsLineOf c bytes l
call_takes c bytes l e =
    let h = read_fields c bytes l e in
    record {
      printable = record {
        seat = omega (arith, h.seat);
        counted = h.counted;
        number = h.number;
        command = some_command c l.op h.command;
        value = h.value;
        begin = omega (arith, h.begin);
        answer = printable_answer l.op l.answer h.fit h.told h.end;
      };
      command = h.command;
      text = ap (λ (b : List ℕ). b ++ NEWLINE ∷ []) h.text ∙ sym (line_is l);
    }

-- and the line of a call is read as the call
fields_again : (c : Client) (l : Call) → IsPrintable l → IsTrue (is_command c l.op) → call_at c (fields l) ≡ Some l
unfolding call_at
fields_again c l p command =
    bind_at (number_at 7 (fields l)) _ (l.seat, behind_seat) (number_again 7 l.seat behind_seat (lit< tt) (omega (arith, p.seat)))
    ∙ bind_at (number_at 65535 behind_seat) _ (l.number, behind_number) (number_again 65535 l.number behind_number (lit< tt) p.number)
    ∙ bind_at (command_at c behind_number) _ (l.op, behind_command) (command_again c l.op behind_command p.value command)
    ∙ bind_at (reply_at behind_command) _ (told_of l.answer, behind_reply) (reply_again (told_of l.answer) behind_reply (value_again l.op l.answer p.answer))
    ∙ bind_at (number_at GREATEST_TICK behind_reply) _ (l.begin, behind_begin) (number_again GREATEST_TICK l.begin behind_begin (lit< tt) (omega (arith, p.begin)))
    ∙ bind_at (answer_at (told_of l.answer) behind_begin) _ (l.answer, path_word l.path) (answer_again l.answer (path_word l.path) (end_again l.op l.answer p.answer))
    ∙ bind_at (path_of (path_word l.path)) _ l.path (path_again l.path)
    ∙ ap (λ b. cond b (Some l) None) (and_from (ltb 0 l.number) (fits l.op (told_of l.answer)) (lt-ltb 0 l.number p.counted) (fits_again l.op l.answer p.answer))
  where
    behind_begin : List ℕ
    behind_begin = end_word l.answer ++ SPACE ∷ path_word l.path

    behind_reply : List ℕ
    behind_reply = decimal l.begin ++ SPACE ∷ (end_word l.answer ++ SPACE ∷ path_word l.path)

    behind_command : List ℕ
    behind_command = front (told_words (told_of l.answer)) (decimal l.begin ++ SPACE ∷ (end_word l.answer ++ SPACE ∷ path_word l.path))

    behind_number : List ℕ
    behind_number = front (command_words l.op) (front (told_words (told_of l.answer)) (decimal l.begin ++ SPACE ∷ (end_word l.answer ++ SPACE ∷ path_word l.path)))

    behind_seat : List ℕ
    behind_seat = decimal l.number ++ SPACE ∷ front (command_words l.op) (front (told_words (told_of l.answer)) (decimal l.begin ++ SPACE ∷ (end_word l.answer ++ SPACE ∷ path_word l.path)))

pub call_again : (c : Client) (bytes : List ℕ) (l : Call) → IsLineOf c bytes l → call_at c bytes ≡ Some l
call_again c bytes l h = ap (call_at c) (without_newline bytes (fields l) (h.text ∙ line_is l)) ∙ fields_again c l h.printable h.command
  where
    without_newline : (xs ys : List ℕ) → xs ++ NEWLINE ∷ [] ≡ ys ++ NEWLINE ∷ [] → xs ≡ ys
    without_newline xs ys e = append_cancel_right xs ys (NEWLINE ∷ []) e

pub tells : (c : Client) (bytes : List ℕ) (found : Option CallLine) → AsOption call_of found (call_at c bytes) → TellsCall c bytes (option_map call_of found)
tells c bytes None e = λ l h. let some = call_again c bytes l h in absurd cc
tells c bytes (Some l) e = call_takes c bytes (call_of l) e
