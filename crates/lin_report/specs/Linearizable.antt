-- Linearizable reports, after Herlihy and Wing: some legal order of the calls keeps "ended before began".
use Rattle.std.specs.Prelude.{◌≡◌, ◌≢◌, Option, Some, None, List, [], ◌∷◌, All, AllPairs, Contains}
use Rattle.lin_report.specs.declared.calls.Reply.{Reply}
use Rattle.lin_report.specs.declared.calls.Reply.TheVariants.{Exhausted}
use Rattle.lin_report.specs.declared.calls.Receipt.{Receipt}
use Rattle.lin_report.specs.Object.{Object}
use Rattle.lin_report.specs.Calls.{Call, Report, answered_call, calls_of, IsSameCall, EndedBefore}

-- an answer that says Exhausted
abbrev pub IsExhausted : {X : Type 0} → Option (Reply × X) → Type 0
IsExhausted None = ⊥
IsExhausted (Some answer) = answer.0 ≡ Exhausted

-- a call that was answered Exhausted had no effect
abbrev pub WasExhausted : Call → Type 0
WasExhausted c = IsExhausted c.answer

-- an arrangement of a report: each answered call but the exhausted ones once, a pending call at most
-- once, and no other
pub record IsArrangement (report : Report) (order : List Call) : Type 0 where
  pub known : All (λ c. Contains (calls_of report) c) order
  pub effective : All (λ c. ¬ WasExhausted c) order
  pub once : AllPairs (λ c d. ¬ IsSameCall c d) order
  pub whole : All (λ (r : Receipt). r.reply ≢ Exhausted → Contains order (answered_call r)) report.receipts

-- the reply is the one that the call was given; a pending call may have any
abbrev pub Answers : {X : Type 0} → Option (Reply × X) → Reply → Type 0
Answers None reply = Unit {0}
Answers (Some answer) reply = answer.0 ≡ reply

-- made in this order from what is held, each call is answered as the object answers
abbrev pub IsLegalFrom : (object : Object) → object.Held → List Call → Type 0
IsLegalFrom object held [] = Unit {0}
IsLegalFrom object held (c ∷ calls) =
    Answers c.answer (object.apply c.op held).1 × IsLegalFrom object (object.apply c.op held).0 calls

-- a legal order of calls, from the empty object on
abbrev pub IsLegal : Object → List Call → Type 0
IsLegal object order = IsLegalFrom object object.empty order

-- no call stands before one that had ended before it began
abbrev pub KeepsTicks : List Call → Type 0
KeepsTicks order = AllPairs (λ c d. ¬ EndedBefore d c) order

-- an order that shows that a report is linearizable
pub record IsLinearization (object : Object) (report : Report) (order : List Call) : Type 0 where
  pub arrangement : IsArrangement report order
  pub legal : IsLegal object order
  pub ticks : KeepsTicks order

-- some legal arrangement of the report's calls keeps the order of their ticks
pub record IsLinearizable (object : Object) (report : Report) : Type 0 where
  pub order : List Call
  pub linearization : IsLinearization object report order
