-- What each kind of event does to the state of a call.
use Rattle.std.proofs.Common.{◌≡◌, ◌≢◌, ℕ, ◌+◌, ◌≤◌, Bool, true, false, not, cond, eqb, ◌&&◌, List, [], ◌∷◌, ◌++◌, refl, ap, subst, ◌∙◌, arith}
use Rattle.std.proofs.lemmas.Bool.Decides.{nat_tests}
use Rattle.std.proofs.lemmas.List.Sums.{fold_push}
use Rattle.lin_report.specs.declared.events.Event.{Event}
use Rattle.lin_report.specs.declared.events.EventKind.{EventKind}
use Rattle.lin_report.specs.declared.events.EventKind.TheVariants.{Begin, Publish, Complete, Return}
use Rattle.overtaking_law.specs.Overtaking.{is_publish, is_complete, is_return, is_of, publishes, completes, returns_elsewhere}
use Rattle.overtaking_law.proofs.States.{State, count_of, next, state}
use Rattle.overtaking_law.proofs.States.State.{Unpublished, Waiting, Completed}
use Rattle.overtaking_law.proofs.Order.{IsWaiting}

module _ (seat number : ℕ) (event : Event) where
  -- one event more
  pub state_more : (front : List Event) → state seat number (front ++ event ∷ []) ≡ next seat number (state seat number front) event
  state_more front = fold_push (next seat number) Unpublished front event

  pub is_of_yes : event.seat ≡ seat → event.number ≡ number → is_of seat number event ≡ true
  is_of_yes s n = grind (arith, nat_tests)

  pub is_of_other_seat : event.seat ≢ seat → is_of seat number event ≡ false
  is_of_other_seat s = grind (arith, nat_tests)

  pub is_of_other_number : event.number ≢ number → is_of seat number event ≡ false
  is_of_other_number n = grind (arith, nat_tests)

  -- an event that doesn't count for the call
  unmoved : (x : State) → publishes seat number event ≡ false → completes seat number event ≡ false → returns_elsewhere seat event ≡ false → next seat number x event ≡ x
  unmoved Unpublished p c r = ap (λ b. cond b (Waiting 0) Unpublished) p
  unmoved (Waiting count) p c r =
      let same : count + cond (returns_elsewhere seat event) 1 0 ≡ count = ap (λ b. count + cond b 1 0) r ∙ omega arith in
      ap (λ b. cond b (Completed count) (Waiting (count + cond (returns_elsewhere seat event) 1 0))) c ∙ ap (λ (n : ℕ). Waiting n) same
  unmoved (Completed count) p c r = refl

  by_kind : (test : EventKind → Bool) (k : EventKind) (b : Bool) → event.kind ≡ k → test k ≡ false → (test event.kind && b) ≡ false
  by_kind test k b e fails = ap (λ kind. test kind && b) e ∙ ap (λ t. t && b) fails

  pub at_begin : (x : State) → event.kind ≡ Begin → next seat number x event ≡ x
  at_begin x e = unmoved x (by_kind is_publish Begin _ e refl) (by_kind is_complete Begin _ e refl) (by_kind is_return Begin _ e refl)

  pub at_publish_other : (x : State) → event.kind ≡ Publish → is_of seat number event ≡ false → next seat number x event ≡ x
  at_publish_other x e other = unmoved x (ap (λ kind. is_publish kind && is_of seat number event) e ∙ other) (by_kind is_complete Publish _ e refl) (by_kind is_return Publish _ e refl)

  pub at_publish : event.kind ≡ Publish → is_of seat number event ≡ true → next seat number Unpublished event ≡ Waiting 0
  at_publish e own = ap (λ kind. cond (is_publish kind && is_of seat number event) (Waiting 0) Unpublished) e ∙ ap (λ b. cond b (Waiting 0) Unpublished) own

  pub at_complete_other : (x : State) → event.kind ≡ Complete → is_of seat number event ≡ false → next seat number x event ≡ x
  at_complete_other x e other = unmoved x (by_kind is_publish Complete _ e refl) (ap (λ kind. is_complete kind && is_of seat number event) e ∙ other) (by_kind is_return Complete _ e refl)

  -- a completed call keeps its count
  pub at_complete_count : (x : State) → event.kind ≡ Complete → count_of (next seat number x event) ≡ count_of x
  at_complete_count Unpublished e = ap (λ b. count_of (cond b (Waiting 0) Unpublished)) (by_kind is_publish Complete (is_of seat number event) e refl)
  at_complete_count (Waiting count) e = by_test (completes seat number event)
    where
      nothing : returns_elsewhere seat event ≡ false
      nothing = by_kind is_return Complete (not (eqb event.seat seat)) e refl

      by_test : (b : Bool) → count_of (cond b (Completed count) (Waiting (count + cond (returns_elsewhere seat event) 1 0))) ≡ count
      by_test true = refl
      by_test false = ap (λ b. count + cond b 1 0) nothing ∙ omega arith
  at_complete_count (Completed count) e = refl

  pub at_complete : (x : State) → event.kind ≡ Complete → is_of seat number event ≡ true → ¬ IsWaiting (next seat number x event)
  at_complete Unpublished e own = λ w. subst (λ b. IsWaiting (cond b (Waiting 0) Unpublished)) (by_kind is_publish Complete (is_of seat number event) e refl) w
  at_complete (Waiting count) e own =
      let completes_it : completes seat number event ≡ true = ap (λ kind. is_complete kind && is_of seat number event) e ∙ own in
      λ w. subst (λ b. IsWaiting (cond b (Completed count) (Waiting (count + cond (returns_elsewhere seat event) 1 0)))) completes_it w
  at_complete (Completed count) e own = λ w. w

  pub at_return_own : (x : State) → event.kind ≡ Return → event.seat ≡ seat → next seat number x event ≡ x
  at_return_own x e own = unmoved x (by_kind is_publish Return _ e refl) (by_kind is_complete Return _ e refl) here
    where
      here : returns_elsewhere seat event ≡ false
      here = ap (λ kind. is_return kind && not (eqb event.seat seat)) e ∙ grind (arith, nat_tests)

  pub at_return_other : (count : ℕ) → event.kind ≡ Return → event.seat ≢ seat → next seat number (Waiting count) event ≡ Waiting (count + 1)
  at_return_other count e other =
      let never : completes seat number event ≡ false = by_kind is_complete Return (is_of seat number event) e refl in
      let differs : not (eqb event.seat seat) ≡ true = grind (arith, nat_tests) in
      let counts : returns_elsewhere seat event ≡ true = ap (λ kind. is_return kind && not (eqb event.seat seat)) e ∙ differs in
      ap (λ b. cond b (Completed count) (Waiting (count + cond (returns_elsewhere seat event) 1 0))) never ∙ ap (λ b. Waiting (count + cond b 1 0)) counts

  pub at_return_unpublished : event.kind ≡ Return → next seat number Unpublished event ≡ Unpublished
  at_return_unpublished e = ap (λ b. cond b (Waiting 0) Unpublished) (by_kind is_publish Return (is_of seat number event) e refl)

  pub at_return_rests : (x : State) → event.kind ≡ Return → ¬ IsWaiting x → ¬ IsWaiting (next seat number x event)
  at_return_rests Unpublished e rests = λ w. subst IsWaiting (at_return_unpublished e) w
  at_return_rests (Waiting count) e rests = absurd (rests tt)
  at_return_rests (Completed count) e rests = λ w. w

  -- a count doesn't fall, and rises by one at most
  pub count_grows : (x : State) → (count_of x ≤ count_of (next seat number x event)) × (count_of (next seat number x event) ≤ count_of x + 1)
  count_grows Unpublished = by_test (publishes seat number event)
    where
      by_test : (b : Bool) → (0 ≤ count_of (cond b (Waiting 0) Unpublished)) × (count_of (cond b (Waiting 0) Unpublished) ≤ 0 + 1)
      by_test true = (omega arith, omega arith)
      by_test false = (omega arith, omega arith)
  count_grows (Waiting count) = by_tests (completes seat number event) (returns_elsewhere seat event)
    where
      by_tests : (a b : Bool) → (count ≤ count_of (cond a (Completed count) (Waiting (count + cond b 1 0)))) × (count_of (cond a (Completed count) (Waiting (count + cond b 1 0))) ≤ count + 1)
      by_tests true b = (omega arith, omega arith)
      by_tests false true = (omega arith, omega arith)
      by_tests false false = (omega arith, omega arith)
  count_grows (Completed count) = (omega arith, omega arith)
