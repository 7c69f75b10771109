-- What the tests of answers say.
use Rattle.std.proofs.Common.{◌≡◌, ◌≢◌, ℕ, ◌<◌, true, false, Option, Some, None, refl, ap, subst}
use Rattle.std.specs.Prelude.{IsSomeAnd}
use Rattle.std.proofs.lemmas.Bool.{eqb-true, eq-eqb, ltb-true, lt-ltb, true≢false}
use Rattle.lin_report.specs.declared.calls.Reply.{Reply}
use Rattle.lin_report.specs.declared.calls.Reply.TheVariants.{Yes, No, Done, Value, Empty, Absent, Exhausted}
use Rattle.lin_report.specs.Calls.{Call}
use Rattle.lin_report.specs.Linearizable.{IsExhausted, Answers}
use Rattle.lin_report.specs.Text.{reply_is_exhausted, answer_is_exhausted}
use Rattle.report_check.specs.Verdicts.{same_reply, may_be, ended_before}

same_from_test : (a b : Reply) → same_reply a b ≡ true → a ≡ b
same_from_test Yes Yes e = refl
same_from_test No No e = refl
same_from_test Done Done e = refl
same_from_test (Value a) (Value b) e = ap (λ n. Value n) (eqb-true a b e)
same_from_test Empty Empty e = refl
same_from_test Absent Absent e = refl
same_from_test Exhausted Exhausted e = refl
same_from_test _ _ e = absurd cc

same_as_itself : (a : Reply) → same_reply a a ≡ true
same_as_itself Yes = refl
same_as_itself No = refl
same_as_itself Done = refl
same_as_itself (Value a) = eq-eqb a a refl
same_as_itself Empty = refl
same_as_itself Absent = refl
same_as_itself Exhausted = refl

pub answers_from_test : (answer : Option (Reply × ℕ)) (reply : Reply) → may_be answer reply ≡ true → Answers answer reply
answers_from_test None reply e = tt
answers_from_test (Some answer) reply e = same_from_test answer.0 reply e

pub test_from_answers : (answer : Option (Reply × ℕ)) (reply : Reply) → Answers answer reply → may_be answer reply ≡ true
test_from_answers None reply h = refl
test_from_answers (Some answer) reply h = subst (λ (r : Reply). same_reply answer.0 r ≡ true) h (same_as_itself answer.0)

pub ended_from_test : (answer : Option (Reply × ℕ)) (d : Call) → ended_before answer d ≡ true → IsSomeAnd answer (λ (a : Reply × ℕ). a.1 < d.begin)
ended_from_test None d e = absurd cc
ended_from_test (Some answer) d e = ltb-true answer.1 d.begin e

pub test_from_ended : (answer : Option (Reply × ℕ)) (d : Call) → IsSomeAnd answer (λ (a : Reply × ℕ). a.1 < d.begin) → ended_before answer d ≡ true
test_from_ended None d h = absurd h
test_from_ended (Some answer) d h = lt-ltb answer.1 d.begin h

pub effective_from_test : (answer : Option (Reply × ℕ)) → answer_is_exhausted answer ≡ false → ¬ IsExhausted answer
effective_from_test None e h = h
effective_from_test (Some answer) e h = true≢false (subst (λ (r : Reply). reply_is_exhausted r ≡ false) h e)

pub reply_test : (reply : Reply) → reply ≢ Exhausted → reply_is_exhausted reply ≡ false
reply_test Yes h = refl
reply_test No h = refl
reply_test Done h = refl
reply_test (Value n) h = refl
reply_test Empty h = refl
reply_test Absent h = refl
reply_test Exhausted h = absurd (h refl)

pub reply_from_test : (reply : Reply) → reply_is_exhausted reply ≡ false → reply ≢ Exhausted
reply_from_test reply e h = true≢false (subst (λ (r : Reply). reply_is_exhausted r ≡ false) h e)

pub test_from_effective : (answer : Option (Reply × ℕ)) → ¬ IsExhausted answer → answer_is_exhausted answer ≡ false
test_from_effective None h = refl
test_from_effective (Some answer) h = reply_test answer.0 h
