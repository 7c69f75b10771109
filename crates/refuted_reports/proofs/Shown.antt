-- Orders of a put and a take that show what the take was told.
use Rattle.std.proofs.Common.{◌≢◌, ℕ, [], ◌∷◌, All, AllPairs, Contains, refl, sym, ap, arith}
use Rattle.std.proofs.lemmas.Bool.{true≢false}
use Rattle.std.proofs.lemmas.List.Elements.{All-nil, All-cons}
use Rattle.std.proofs.lemmas.List.Kept.{AllPairs-cons}
use Rattle.lin_report.specs.declared.calls.Client.TheVariants as client
use Rattle.lin_report.specs.declared.calls.Receipt.{Receipt}
use Rattle.lin_report.specs.declared.calls.Reply.{Reply}
use Rattle.lin_report.specs.declared.calls.Reply.TheVariants.{Value, Empty, Exhausted}
use Rattle.lin_report.specs.Object.{object_of}
use Rattle.lin_report.specs.Calls.{Call, answered_call, EndedBefore, IsSameCall}
use Rattle.lin_report.specs.Linearizable.{IsLegal, IsLinearizable, WasExhausted}
use Rattle.refuted_reports.specs.Refuted.{the_put, the_take, two_calls, EmptyBeforeEnd, ValueAfterBegin}
use Rattle.refuted_reports.proofs.Orders.{says_empty, says_done, says_value}

all_two : {X : Type 0} (P : X → Type 0) (a b : X) → P a → P b → All P (a ∷ b ∷ [])
all_two P a b at_a at_b = All-cons P a (b ∷ []) at_a (All-cons P b [] at_b (All-nil P))

pair_two : {X : Type 0} (R : X → X → Type 0) (a b : X) → R a b → AllPairs R (a ∷ b ∷ [])
pair_two R a b so = AllPairs-cons R a (b ∷ []) (All-cons (R a) b [] so (All-nil (R a))) (AllPairs-cons R b [] (All-nil (R b)) (λ i j d before within. absurd (omega (arith, within))))

module _ (put_begin put_end take_begin take_end : ℕ) (told : Reply) (answered : told ≢ Exhausted) where
  abbrev put : Call
  put = answered_call (the_put put_begin put_end)

  abbrev take : Call
  take = answered_call (the_take told take_begin take_end)

  abbrev IsShown : Type 0
  IsShown = IsLinearizable (object_of client.Queue) (two_calls (the_put put_begin put_end) (the_take told take_begin take_end))

  -- no put is exhausted
  put_done : ¬ WasExhausted put
  put_done same = true≢false (ap says_done same)

  apart : ¬ IsSameCall put take
  apart same = omega (arith, same.seat)

  put_first : ¬ EndedBefore take put → IsLegal (object_of client.Queue) (put ∷ take ∷ []) → IsShown
  put_first ticks legal = record {
    order = put ∷ take ∷ [];
    linearization = record {
      arrangement = record {
        known = all_two (Contains (put ∷ take ∷ [])) put take (0, omega arith, refl) (1, omega arith, refl);
        effective = all_two (λ (c : Call). ¬ WasExhausted c) put take put_done answered;
        once = pair_two (λ (c d : Call). ¬ IsSameCall c d) put take apart;
        whole = all_two (λ (r : Receipt). r.reply ≢ Exhausted → Contains (put ∷ take ∷ []) (answered_call r)) (the_put put_begin put_end) (the_take told take_begin take_end) (λ some. (0, omega arith, refl)) (λ some. (1, omega arith, refl));
      };
      legal = legal;
      ticks = pair_two (λ (c d : Call). ¬ EndedBefore d c) put take ticks;
    };
  }

  take_first : ¬ EndedBefore put take → IsLegal (object_of client.Queue) (take ∷ put ∷ []) → IsShown
  take_first ticks legal = record {
    order = take ∷ put ∷ [];
    linearization = record {
      arrangement = record {
        known = all_two (Contains (put ∷ take ∷ [])) take put (1, omega arith, refl) (0, omega arith, refl);
        effective = all_two (λ (c : Call). ¬ WasExhausted c) take put answered put_done;
        once = pair_two (λ (c d : Call). ¬ IsSameCall c d) take put (λ same. apart (record { seat = sym same.seat; number = sym same.number }));
        whole = all_two (λ (r : Receipt). r.reply ≢ Exhausted → Contains (take ∷ put ∷ []) (answered_call r)) (the_put put_begin put_end) (the_take told take_begin take_end) (λ some. (1, omega arith, refl)) (λ some. (0, omega arith, refl));
      };
      legal = legal;
      ticks = pair_two (λ (c d : Call). ¬ EndedBefore d c) take put ticks;
    };
  }

pub empty_before : EmptyBeforeEnd
empty_before pb pe tb te early = take_first pb pe tb te Empty (λ same. true≢false (ap says_empty same)) (λ ended. omega (arith, early, ended)) (refl, (refl, tt))

pub value_after : ValueAfterBegin
value_after pb pe tb te early = put_first pb pe tb te (Value 7) (λ same. true≢false (ap says_value same)) (λ ended. omega (arith, early, ended)) (refl, (refl, tt))
