-- That the answers of calls lose nothing of the replies of their lines.
use Rattle.std.specs.Prelude.{◌≡◌, ℕ, ◌<◌}
use Rattle.lin_report.specs.Commands.{IsReplyTo, KEY_LIMIT, told_value}
use Rattle.lin_report.specs.declared.calls.Op.{Op}
use Rattle.lin_report.specs.declared.calls.Reply.{Reply}
use Rattle.wait_free.specs.Answers.{change_answer, contains_answer, least_answer, look_answer, put_answer, take_answer}
use Rattle.wait_free.specs.Ops.{add_of, contains_of, get_of, least_of, peek_of, put_of, remove_of, set_of, take_of, unset_of}

-- no two replies that the operation may be given are told alike
abbrev pub TellsApart : {A : Type 0} → (Reply → A) → Op → Type 0
TellsApart answer_of op = (one other : Reply) → IsReplyTo op one → IsReplyTo op other → answer_of one ≡ answer_of other → one ≡ other

-- nor two replies to `least` of which neither tells a number that is no key
abbrev pub TellsKeysApart : Type 0
TellsKeysApart =
    (one other : Reply) → IsReplyTo least_of one → IsReplyTo least_of other → told_value one < KEY_LIMIT → told_value other < KEY_LIMIT
    → least_answer one ≡ least_answer other → one ≡ other

-- each call's answer tells which of these replies its line has
pub record AnswersTellReplies : Type 0 where
  pub put : (value : ℕ) → TellsApart put_answer (put_of value)
  pub take : TellsApart take_answer take_of
  pub peek : TellsApart look_answer peek_of
  pub add : (key : ℕ) → TellsApart change_answer (add_of key)
  pub remove : (key : ℕ) → TellsApart change_answer (remove_of key)
  pub contains : (key : ℕ) → TellsApart contains_answer (contains_of key)
  pub least : TellsKeysApart
  pub set : (key value : ℕ) → TellsApart change_answer (set_of key value)
  pub unset : (key : ℕ) → TellsApart change_answer (unset_of key)
  pub get : (key : ℕ) → TellsApart look_answer (get_of key)
