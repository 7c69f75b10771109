-- No order of a put and a take shows what the take was told.
use Rattle.std.proofs.Common.{◌≡◌, ◌≢◌, ℕ, zero, suc, Bool, true, false, ◌⊎◌, inl, inr, List, [], ◌∷◌, Contains, sym, ap, subst, arith}
use Rattle.std.proofs.lemmas.Bool.{true≢false, false≢true}
use Rattle.lin_report.specs.declared.calls.Client.TheVariants as client
use Rattle.lin_report.specs.declared.calls.Reply.{Reply}
use Rattle.lin_report.specs.declared.calls.Reply.TheVariants.{Yes, No, Done, Value, Empty, Absent, Exhausted}
use Rattle.lin_report.specs.Object.{object_of}
use Rattle.lin_report.specs.Calls.{Call, answered_call, EndedBefore}
use Rattle.lin_report.specs.Linearizable.{IsLinearization, KeepsTicks}
use Rattle.refuted_reports.specs.Refuted.{the_put, the_take, two_calls, EmptyAfterPut, ValueBeforePut}

-- one of two
two_of : {X : Type 0} (a b x : X) → Contains (a ∷ b ∷ []) x → (a ≡ x) ⊎ (b ≡ x)
two_of a b x (zero, within, at) = inl at
two_of a b x (suc zero, within, at) = inr at
two_of a b x (suc (suc k), within, at) = absurd (omega (arith, within))

-- a call in an order that isn't the first hadn't ended before the first began
behind_first : (first later : Call) (rest : List Call) → KeepsTicks (first ∷ rest) → Contains (first ∷ rest) later → first ≢ later → ¬ EndedBefore later first
behind_first first later rest keeps (zero, within, at) differ = absurd (differ at)
behind_first first later rest keeps (suc k, within, at) differ = subst (λ (c : Call). ¬ EndedBefore c first) at (keeps 0 (suc k) later (omega arith) within)

-- the replies that say that nothing was there
abbrev pub says_empty : Reply → Bool
says_empty Empty = true
says_empty (Value value) = false
says_empty Yes = false
says_empty No = false
says_empty Done = false
says_empty Absent = false
says_empty Exhausted = false

abbrev pub says_value : Reply → Bool
says_value (Value value) = true
says_value Yes = false
says_value No = false
says_value Done = false
says_value Empty = false
says_value Absent = false
says_value Exhausted = false

abbrev pub says_done : Reply → Bool
says_done Done = true
says_done (Value value) = false
says_done Yes = false
says_done No = false
says_done Empty = false
says_done Absent = false
says_done Exhausted = false

module _ (put_begin put_end take_begin take_end : ℕ) (told : Reply) where
  abbrev put : Call
  put = answered_call (the_put put_begin put_end)

  abbrev take : Call
  take = answered_call (the_take told take_begin take_end)

  abbrev Shows : List Call → Type 0
  Shows order = IsLinearization (object_of client.Queue) (two_calls (the_put put_begin put_end) (the_take told take_begin take_end)) order

  put_differs : put ≢ take
  put_differs same = omega (arith, ap (λ (c : Call). c.seat) same)

  -- the order begins with one of the two, and has the other
  has_put : (order : List Call) → Shows order → Contains order put
  has_put order shows = shows.arrangement.whole 0 (the_put put_begin put_end) (omega arith) (λ same. true≢false (ap says_done same))

  has_take : told ≢ Exhausted → (order : List Call) → Shows order → Contains order take
  has_take answered order shows = shows.arrangement.whole 1 (the_put put_begin put_end) (omega arith) answered

  at_first : (x : Call) (rest : List Call) → Shows (x ∷ rest) → (put ≡ x) ⊎ (take ≡ x)
  at_first x rest shows = two_of put take x (shows.arrangement.known 0 x (omega arith))

  -- where neither can be the first, there is no order
  no_order : (order : List Call) → ((rest : List Call) → ¬ Shows (put ∷ rest)) → ((rest : List Call) → ¬ Shows (take ∷ rest)) → ¬ Shows order
  no_order [] no_put no_take shows = by_place (has_put [] shows)
    where
      by_place : ¬ Contains [] put
      by_place (k, within, at) = omega (arith, within)
  no_order (x ∷ rest) no_put no_take shows = by_first (at_first x rest shows)
    where
      by_first : ¬ ((put ≡ x) ⊎ (take ≡ x))
      by_first (inl at) = no_put rest (subst (λ (c : Call). Shows (c ∷ rest)) (sym at) shows)
      by_first (inr at) = no_take rest (subst (λ (c : Call). Shows (c ∷ rest)) (sym at) shows)

-- a take that comes behind the put takes its value
value_behind : (put_begin put_end take_begin take_end : ℕ) (rest : List Call) → ¬ Shows put_begin put_end take_begin take_end Empty (put put_begin put_end take_begin take_end Empty ∷ rest)
value_behind pb pe tb te rest shows = by_place rest shows (has_take pb pe tb te Empty (λ same. true≢false (ap says_empty same)) (put pb pe tb te Empty ∷ rest) shows)
  where
    by_next : (y : Call) (more : List Call) → Shows pb pe tb te Empty (put pb pe tb te Empty ∷ y ∷ more) → (put pb pe tb te Empty ≡ y) ⊎ (take pb pe tb te Empty ≡ y) → ⊥
    by_next y more shows (inl at) = shows.arrangement.once 0 1 y (omega arith) (omega arith) (record { seat = ap (λ (c : Call). c.seat) at; number = ap (λ (c : Call). c.number) at })
    by_next y more shows (inr at) =
        let legal = (subst (λ (c : Call). Shows pb pe tb te Empty (put pb pe tb te Empty ∷ c ∷ more)) (sym at) shows).legal in
        true≢false (ap says_empty legal.1.0)

    by_place : (rest : List Call) → Shows pb pe tb te Empty (put pb pe tb te Empty ∷ rest) → ¬ Contains (put pb pe tb te Empty ∷ rest) (take pb pe tb te Empty)
    by_place rest shows (zero, within, at) = put_differs pb pe tb te Empty at
    by_place [] shows (suc k, within, at) = omega (arith, within)
    by_place (y ∷ more) shows (suc k, within, at) =
        by_next y more shows (two_of (put pb pe tb te Empty) (take pb pe tb te Empty) y (shows.arrangement.known 1 y (omega arith)))

pub empty_after : EmptyAfterPut
empty_after pb pe tb te ended linearizable = no_order pb pe tb te Empty linearizable.order (value_behind pb pe tb te) late linearizable.linearization
  where
    late : (rest : List Call) → ¬ Shows pb pe tb te Empty (take pb pe tb te Empty ∷ rest)
    late rest shows =
        behind_first (take pb pe tb te Empty) (put pb pe tb te Empty) rest shows.ticks (has_put pb pe tb te Empty (take pb pe tb te Empty ∷ rest) shows) (λ same. put_differs pb pe tb te Empty (sym same)) ended

pub value_before : ValueBeforePut
value_before pb pe tb te ended linearizable = no_order pb pe tb te (Value 7) linearizable.order early nothing linearizable.linearization
  where
    early : (rest : List Call) → ¬ Shows pb pe tb te (Value 7) (put pb pe tb te (Value 7) ∷ rest)
    early rest shows =
        let among = has_take pb pe tb te (Value 7) (λ same. true≢false (ap says_value same)) (put pb pe tb te (Value 7) ∷ rest) shows in
        behind_first (put pb pe tb te (Value 7)) (take pb pe tb te (Value 7)) rest shows.ticks among (put_differs pb pe tb te (Value 7)) ended

    nothing : (rest : List Call) → ¬ Shows pb pe tb te (Value 7) (take pb pe tb te (Value 7) ∷ rest)
    nothing rest shows = false≢true (ap says_empty shows.legal.0)
