-- How many events there can be: each comes once, and is one of four of a call that its seat has begun.
use Rattle.std.proofs.Common.{◌≡◌, ◌≢◌, ◌∙◌, refl, sym, ap, subst, ℕ, zero, suc, ◌+◌, ◌*◌, ◌≤◌, List, [], ◌∷◌, ◌++◌, append_assoc, length, slice_get, Some, inl, inr, arith}
use Rattle.std.specs.Prelude.{Contains, sum_by}
use Rattle.std.proofs.lemmas.Bool.{cases_eq}
use Rattle.std.proofs.lemmas.List.{length-append}
use Rattle.std.proofs.lemmas.List.Sums.{sum_by-cons}
use Rattle.std.proofs.lemmas.List.Elements.{Contains-append_cases, Contains-append_left, Contains-append_right}
use Rattle.lin_report.specs.declared.events.Event.{Event}
use Rattle.lin_report.specs.declared.events.EventKind.{EventKind}
use Rattle.lin_report.specs.declared.events.EventKind.TheVariants as kind
use Rattle.help_queue_laws.proofs.Runs.EveryRunHolds.{same_some}
use Rattle.overtaking_law.specs.Order.{AreOrdered}
use Rattle.run_overtaking.proofs.Events.Members.{in_none, in_cons, in_here}

-- ---- no event comes twice

abbrev EachOnce : List Event → Type 0
EachOnce [] = Unit {0}
EachOnce (e ∷ es) = (¬ Contains es e) × EachOnce es

in_behind : (x e : Event) (es : List Event) → Contains es x → Contains (e ∷ es) x
in_behind x e es c = Contains-append_right (e ∷ []) es x c

-- an element of a list parts it
record Parted (es : List Event) (e : Event) : Type 0 where
  pub before : List Event
  pub after : List Event
  pub is : es ≡ before ++ e ∷ after

parted : (e : Event) (es : List Event) → Contains es e → Parted es e
parted e [] c = absurd (in_none e c)
parted e (x ∷ es) c =
    elim (in_cons x e es c) [
      | inl same ↦ subst (λ y. Parted (y ∷ es) e) (sym same) (record { before = []; after = es; is = refl })
      | inr rest ↦ (let p = parted e es rest in record { before = x ∷ p.before; after = p.after; is = ap (λ l. x ∷ l) p.is })
    ]

once_from : (before es : List Event) → AreOrdered (before ++ es) → EachOnce es
once_from before [] ordered = tt
once_from before (e ∷ es) ordered =
    let assoc : before ++ e ∷ es ≡ (before ++ e ∷ []) ++ es = sym (append_assoc before (e ∷ []) es) in (
      λ c. (
          let p = parted e es c in
          let is : before ++ e ∷ es ≡ (before ++ e ∷ p.before) ++ e ∷ p.after = ap (λ l. before ++ e ∷ l) p.is ∙ sym (append_assoc before (e ∷ p.before) (e ∷ p.after)) in
          (ordered (before ++ e ∷ p.before) p.after e is).once (Contains-append_right before (e ∷ p.before) e (in_here e p.before))),
      once_from (before ++ e ∷ []) es (subst AreOrdered assoc ordered),
    )

-- ---- so there are no more than there are different ones

without : (e x : Event) (before after : List Event) → x ≢ e → Contains (before ++ e ∷ after) x → Contains (before ++ after) x
without e x before after other c =
    elim (Contains-append_cases before (e ∷ after) x c) [
      | inl left ↦ Contains-append_left before after x left
      | inr right ↦ elim (in_cons e x after right) [ inl same ↦ absurd (other (sym same)) | inr rest ↦ Contains-append_right before after x rest ]
    ]

no_more : (es all : List Event) → EachOnce es → ((e : Event) → Contains es e → Contains all e) → length es ≤ length all
no_more [] all once among = omega arith
no_more (e ∷ es) all once among =
    let p = parted e all (among e (in_here e es)) in
    let rest = no_more es (p.before ++ p.after) once.1 (λ x c. without e x p.before p.after (λ same. once.0 (subst (λ y. Contains es y) same c)) (subst (λ l. Contains l x) p.is (among x (in_behind x e es c)))) in
    let whole = ap length p.is ∙ length-append p.before (e ∷ p.after) in
    let parts = length-append p.before p.after in
    omega (arith, rest, whole, parts)

-- ---- the events that may come

-- the four of a call
abbrev four : ℕ → ℕ → List Event
four seat number =
    record { kind = kind.Begin; seat = seat; number = number } ∷ record { kind = kind.Publish; seat = seat; number = number } ∷ record { kind = kind.Complete; seat = seat; number = number }
    ∷ record { kind = kind.Return; seat = seat; number = number } ∷ []

-- those of so many calls of a seat
abbrev of_seat : ℕ → ℕ → List Event
of_seat seat zero = []
of_seat seat (suc n) = four seat (suc n) ++ of_seat seat n

long_seat : (seat n : ℕ) → length (of_seat seat n) ≡ 4 * n
long_seat seat zero = refl
long_seat seat (suc n) = (let rest = long_seat seat n in omega (arith, rest))

in_four : (k : EventKind) (seat number : ℕ) → Contains (four seat number) (record { kind = k; seat = seat; number = number })
in_four kind.Begin seat number = (0, omega arith, refl)
in_four kind.Publish seat number = (1, omega arith, refl)
in_four kind.Complete seat number = (2, omega arith, refl)
in_four kind.Return seat number = (3, omega arith, refl)

in_seat : (k : EventKind) (seat number n : ℕ) → 1 ≤ number → number ≤ n → Contains (of_seat seat n) (record { kind = k; seat = seat; number = number })
in_seat k seat number zero some most = absurd (omega (arith, some, most))
in_seat k seat number (suc n) some most =
    elim (cases_eq number (suc n)) [
      | inl last ↦ Contains-append_left (four seat (suc n)) (of_seat seat n) _ (subst (λ m. Contains (four seat m) (record { kind = k; seat = seat; number = number })) last (in_four k seat number))
      | inr other ↦ Contains-append_right (four seat (suc n)) (of_seat seat n) _ (in_seat k seat number n some (omega (arith, most, other)))
    ]

-- ---- seats that have begun so many calls each

module _ {X : Type 0} (calls : X → ℕ) where
  -- the events of all calls of seats from this on
  abbrev of_seats : ℕ → List X → List Event
  of_seats seat [] = []
  of_seats seat (x ∷ xs) = of_seat seat (calls x) ++ of_seats (suc seat) xs

  long_seats : (seat : ℕ) (xs : List X) → length (of_seats seat xs) ≡ 4 * sum_by calls xs
  long_seats seat [] = refl
  long_seats seat (x ∷ xs) =
      let both = length-append (of_seat seat (calls x)) (of_seats (suc seat) xs) in
      let here = long_seat seat (calls x) in
      let rest = long_seats (suc seat) xs in
      let all = sum_by-cons calls x xs in
      omega (arith, both, here, rest, all)

  in_seats : (k : EventKind) (at first number : ℕ) (x : X) (xs : List X) → slice_get xs at ≡ Some x → 1 ≤ number → number ≤ calls x → Contains (of_seats first xs) (record { kind = k; seat = first + at; number = number })
  in_seats k at first number x [] is some most = absurd cc
  in_seats k zero first number x (y ∷ xs) is some most =
      let here : first ≡ first + 0 = omega arith in
      let in' = in_seat k first number (calls x) some most in
      Contains-append_left (of_seat first (calls y)) (of_seats (suc first) xs) (record { kind = k; seat = first + 0; number = number })
      (subst (λ z. Contains (of_seat first (calls z)) (record { kind = k; seat = first + 0; number = number })) (sym (same_some y x is))
      (subst (λ s. Contains (of_seat first (calls x)) (record { kind = k; seat = s; number = number })) here in'))
  in_seats k (suc at) first number x (y ∷ xs) is some most =
      let here : suc first + at ≡ first + suc at = omega arith in
      Contains-append_right (of_seat first (calls y)) (of_seats (suc first) xs) (record { kind = k; seat = first + suc at; number = number })
      (subst (λ s. Contains (of_seats (suc first) xs) (record { kind = k; seat = s; number = number })) here (in_seats k at (suc first) number x xs is some most))

  -- the event is of a call that its seat has begun
  pub record IsOfCall (xs : List X) (e : Event) : Type 0 where
    pub seat : X
    pub seated : slice_get xs e.seat ≡ Some seat
    pub some : 1 ≤ e.number
    pub most : e.number ≤ calls seat

  in_all : (xs : List X) (e : Event) → IsOfCall xs e → Contains (of_seats 0 xs) e
  in_all xs e of =
      let at : 0 + e.seat ≡ e.seat = omega arith in
      subst (λ s. Contains (of_seats 0 xs) (record { kind = e.kind; seat = s; number = e.number })) at (in_seats e.kind e.seat 0 e.number of.seat xs of.seated of.some of.most)

  -- events that are ordered, each of a call that was begun, are at most four for each such call
  pub few_events : (events : List Event) (xs : List X) → AreOrdered events → ((e : Event) → Contains events e → IsOfCall xs e) → length events ≤ 4 * sum_by calls xs
  few_events events xs ordered are =
      let most = no_more events (of_seats 0 xs) (once_from [] events ordered) (λ e c. in_all xs e (are e c)) in
      let long = long_seats 0 xs in
      omega (arith, most, long)
