-- The answer of a call gives the reply of its line back, where the operation may be given that reply.
use Rattle.std.proofs.Common.{◌≡◌, ◌∙◌, refl, sym, ap, ℕ, ◌<◌, Bool, true, false, if◌then◌else◌, Option, Some, None, Result, Ok, Err}
use Rattle.std.specs.Prelude.{IsTrue}
use Rattle.std.proofs.lemmas.Bool.{false≢true, lt-ltb}
use Rattle.lin_report.specs.Commands.{IsReplyTo, KEY_LIMIT, may_answer, told_value}
use Rattle.lin_report.specs.declared.calls.Op.{Op}
use Rattle.lin_report.specs.declared.calls.Reply.{Reply}
use Rattle.lin_report.specs.declared.calls.Reply.TheVariants.{Yes, No, Done, Value, Empty, Absent, Exhausted}
use Rattle.handles.specs.declared.handle.Spent.{Spent}
use Rattle.wait_free.specs.Answers.{change_answer, contains_answer, least_answer, look_answer, put_answer, take_answer}
use Rattle.wait_free.specs.Ops.{add_of, contains_of, get_of, least_of, peek_of, put_of, remove_of, set_of, take_of, unset_of}
use Rattle.wait_free.specs.Telling.{AnswersTellReplies, TellsApart}
use Rattle.wait_free.specs.declared.refused.Refused.{Refused}

-- answers that give the reply back tell replies apart
apart : {A : Type 0} (answer_of : Reply → A) (back : A → Reply) (op : Op) → ((reply : Reply) → IsReplyTo op reply → back (answer_of reply) ≡ reply) → TellsApart answer_of op
apart answer_of back op returns one other fits fits' same = sym (returns one fits) ∙ ap back same ∙ returns other fits'

abbrev reply_of_put : Result (Unit {0}) Refused → Reply
reply_of_put (Ok done) = Done
reply_of_put (Err why) = Exhausted

put_back : (value : ℕ) (reply : Reply) → IsReplyTo (put_of value) reply → reply_of_put (put_answer reply) ≡ reply
put_back value Yes fits = absurd (false≢true fits.named)
put_back value No fits = absurd (false≢true fits.named)
put_back value Done fits = refl
put_back value (Value told) fits = absurd (false≢true fits.named)
put_back value Empty fits = absurd (false≢true fits.named)
put_back value Absent fits = absurd (false≢true fits.named)
put_back value Exhausted fits = refl

abbrev reply_of_take : Result (Option ℕ) Refused → Reply
reply_of_take (Ok (Some value)) = Value value
reply_of_take (Ok None) = Empty
reply_of_take (Err why) = Exhausted

take_back : (reply : Reply) → IsReplyTo take_of reply → reply_of_take (take_answer reply) ≡ reply
take_back Yes fits = absurd (false≢true fits.named)
take_back No fits = absurd (false≢true fits.named)
take_back Done fits = absurd (false≢true fits.named)
take_back (Value told) fits = refl
take_back Empty fits = refl
take_back Absent fits = absurd (false≢true fits.named)
take_back Exhausted fits = refl

-- a look that tells a value, or else this
abbrev reply_of_look : Reply → Result (Option ℕ) Spent → Reply
reply_of_look nothing (Ok (Some value)) = Value value
reply_of_look nothing (Ok None) = nothing
reply_of_look nothing (Err why) = nothing

peek_back : (reply : Reply) → IsReplyTo peek_of reply → reply_of_look Empty (look_answer reply) ≡ reply
peek_back Yes fits = absurd (false≢true fits.named)
peek_back No fits = absurd (false≢true fits.named)
peek_back Done fits = absurd (false≢true fits.named)
peek_back (Value told) fits = refl
peek_back Empty fits = refl
peek_back Absent fits = absurd (false≢true fits.named)
peek_back Exhausted fits = absurd (false≢true fits.named)

get_back : (key : ℕ) (reply : Reply) → IsReplyTo (get_of key) reply → reply_of_look Absent (look_answer reply) ≡ reply
get_back key Yes fits = absurd (false≢true fits.named)
get_back key No fits = absurd (false≢true fits.named)
get_back key Done fits = absurd (false≢true fits.named)
get_back key (Value told) fits = refl
get_back key Empty fits = absurd (false≢true fits.named)
get_back key Absent fits = refl
get_back key Exhausted fits = absurd (false≢true fits.named)

least_back : (reply : Reply) → IsReplyTo least_of reply → told_value reply < KEY_LIMIT → reply_of_look Empty (least_answer reply) ≡ reply
least_back Yes fits low = absurd (false≢true fits.named)
least_back No fits low = absurd (false≢true fits.named)
least_back Done fits low = absurd (false≢true fits.named)
least_back (Value told) fits low = ap (λ (is_key : Bool). (let key : Option ℕ = if is_key then Some told else None in reply_of_look Empty (Ok key))) (lt-ltb told KEY_LIMIT low)
least_back Empty fits low = refl
least_back Absent fits low = absurd (false≢true fits.named)
least_back Exhausted fits low = absurd (false≢true fits.named)

abbrev reply_of_change : Result Bool Refused → Reply
reply_of_change (Ok true) = Yes
reply_of_change (Ok false) = No
reply_of_change (Err why) = Exhausted

-- an operation that is told yes or no, or that no block was left
record TellsYes (op : Op) : Type 0 where
  done : IsTrue (may_answer op Done) → ⊥
  value : (told : ℕ) → IsTrue (may_answer op (Value told)) → ⊥
  empty : IsTrue (may_answer op Empty) → ⊥
  absent : IsTrue (may_answer op Absent) → ⊥

change_back : (op : Op) → TellsYes op → (reply : Reply) → IsReplyTo op reply → reply_of_change (change_answer reply) ≡ reply
change_back op fair Yes fits = refl
change_back op fair No fits = refl
change_back op fair Done fits = absurd (fair.done fits.named)
change_back op fair (Value told) fits = absurd (fair.value told fits.named)
change_back op fair Empty fits = absurd (fair.empty fits.named)
change_back op fair Absent fits = absurd (fair.absent fits.named)
change_back op fair Exhausted fits = refl

change_apart : (op : Op) → TellsYes op → TellsApart change_answer op
change_apart op fair = apart change_answer reply_of_change op (change_back op fair)

abbrev reply_of_contains : Result Bool Spent → Reply
reply_of_contains (Ok true) = Yes
reply_of_contains (Ok false) = No
reply_of_contains (Err why) = No

contains_back : (key : ℕ) (reply : Reply) → IsReplyTo (contains_of key) reply → reply_of_contains (contains_answer reply) ≡ reply
contains_back key Yes fits = refl
contains_back key No fits = refl
contains_back key Done fits = absurd (false≢true fits.named)
contains_back key (Value told) fits = absurd (false≢true fits.named)
contains_back key Empty fits = absurd (false≢true fits.named)
contains_back key Absent fits = absurd (false≢true fits.named)
contains_back key Exhausted fits = absurd (false≢true fits.named)

pub answers_tell_replies : AnswersTellReplies
answers_tell_replies = record {
  put = λ value. apart put_answer reply_of_put (put_of value) (put_back value);
  take = apart take_answer reply_of_take take_of take_back;
  peek = apart look_answer (reply_of_look Empty) peek_of peek_back;
  add = λ key. change_apart (add_of key) (record { done = false≢true; value = λ told. false≢true; empty = false≢true; absent = false≢true });
  remove = λ key. change_apart (remove_of key) (record { done = false≢true; value = λ told. false≢true; empty = false≢true; absent = false≢true });
  contains = λ key. apart contains_answer reply_of_contains (contains_of key) (contains_back key);
  least = λ one other fits fits' low low' same. sym (least_back one fits low) ∙ ap (reply_of_look Empty) same ∙ least_back other fits' low';
  set = λ key value. change_apart (set_of key value) (record { done = false≢true; value = λ told. false≢true; empty = false≢true; absent = false≢true });
  unset = λ key. change_apart (unset_of key) (record { done = false≢true; value = λ told. false≢true; empty = false≢true; absent = false≢true });
  get = λ key. apart look_answer (reply_of_look Absent) (get_of key) (get_back key);
}
