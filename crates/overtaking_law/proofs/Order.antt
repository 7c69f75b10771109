-- What the order of events says of the states of calls.
use Rattle.std.proofs.Common.{◌≡◌, ◌≢◌, ℕ, zero, suc, ◌+◌, ◌<◌, Bool, true, false, cond, eqb, ◌&&◌, List, [], ◌∷◌, ◌++◌, length, take, drop, get_or, refl, sym, ap, subst, ◌∙◌, inl, inr, ◌⊎◌, append_assoc, arith}
use Rattle.std.specs.Prelude.{Contains}
use Rattle.std.specs.List.{fold}
use Rattle.std.proofs.lemmas.Bool.{eqb-true}
use Rattle.std.proofs.lemmas.Bool.Decides.{nat_tests}
use Rattle.std.proofs.lemmas.List.{take-append-drop, drop_more}
use Rattle.std.proofs.lemmas.List.Sums.{fold-append}
use Rattle.std.proofs.lemmas.List.Elements.{Contains-append_right}
use Rattle.lin_report.specs.declared.events.Event.{Event}
use Rattle.lin_report.specs.declared.events.EventKind.{EventKind}
use Rattle.lin_report.specs.declared.events.EventKind.TheVariants.{Begin, Publish, Complete, Return}
use Rattle.overtaking_law.specs.Overtaking.{is_publish, is_of, publishes, completes}
use Rattle.overtaking_law.specs.Order.{publication, completion, AreOrdered}
use Rattle.overtaking_law.proofs.States.{State, next, state, completed_stays}
use Rattle.overtaking_law.proofs.States.State.{Unpublished, Waiting, Completed}

abbrev pub IsWaiting : State → Type 0
IsWaiting Unpublished = ⊥
IsWaiting (Waiting count) = Unit {0}
IsWaiting (Completed count) = ⊥

abbrev IsPublished : State → Type 0
IsPublished Unpublished = ⊥
IsPublished (Waiting count) = Unit {0}
IsPublished (Completed count) = Unit {0}

and_parts : (a b : Bool) → (a && b) ≡ true → (a ≡ true) × (b ≡ true)
and_parts true true e = (refl, refl)
and_parts true false e = absurd cc
and_parts false b e = absurd cc

publish_is : (kind : EventKind) → is_publish kind ≡ true → kind ≡ Publish
publish_is Publish e = refl
publish_is Begin e = absurd cc
publish_is Complete e = absurd cc
publish_is Return e = absurd cc

module _ (seat number : ℕ) where
  -- the event that publishes a call is its publication, and so on
  pub publication_is : (event : Event) → publishes seat number event ≡ true → event ≡ publication seat number
  publication_is event e =
      let parts = and_parts (is_publish event.kind) (is_of seat number event) e in
      let numbers = and_parts (eqb event.seat seat) (eqb event.number number) parts.1 in
      let made : EventKind → ℕ → ℕ → Event = λ kind seat number. record { kind = kind; seat = seat; number = number } in
      ap (λ kind. made kind event.seat event.number) (publish_is event.kind parts.0)
      ∙ ap (λ s. made Publish s event.number) (eqb-true event.seat seat numbers.0)
      ∙ ap (λ n. made Publish seat n) (eqb-true event.number number numbers.1)

  pub publication_publishes : publishes seat number (publication seat number) ≡ true
  publication_publishes = grind (arith, nat_tests)

  pub completion_completes : completes seat number (completion seat number) ≡ true
  completion_completes = grind (arith, nat_tests)

  -- a published call stays published
  next_published : (x : State) (event : Event) → IsPublished x → IsPublished (next seat number x event)
  next_published Unpublished event p = absurd p
  next_published (Waiting count) event p = by_test (completes seat number event)
    where
      by_test : (b : Bool) → IsPublished (cond b (Completed count) (Waiting (count + cond (Rattle.overtaking_law.specs.Overtaking.returns_elsewhere seat event) 1 0)))
      by_test true = tt
      by_test false = tt
  next_published (Completed count) event p = tt

  stays_published : (x : State) (events : List Event) → IsPublished x → IsPublished (fold (next seat number) x events)
  stays_published x [] p = p
  stays_published x (event ∷ events) p = stays_published (next seat number x event) events (next_published x event p)

  publication_next : (x : State) → IsPublished (next seat number x (publication seat number))
  publication_next Unpublished = subst (λ b. IsPublished (cond b (Waiting 0) Unpublished)) (sym publication_publishes) tt
  publication_next (Waiting count) = next_published (Waiting count) (publication seat number) tt
  publication_next (Completed count) = tt

  published_from : (k : ℕ) (x : State) (events : List Event) → k < length events → get_or events k (publication seat number) ≡ publication seat number → IsPublished (fold (next seat number) x events)
  published_from k x [] lt at = absurd (omega arith)
  published_from zero x (event ∷ events) lt at =
      stays_published (next seat number x event) events (subst (λ e. IsPublished (next seat number x e)) (sym at) (publication_next x))
  published_from (suc k) x (event ∷ events) lt at = published_from k (next seat number x event) events (omega arith) at

  -- a publication among the events, and a state that shows one
  published_state : (events : List Event) → Contains events (publication seat number) → IsPublished (state seat number events)
  published_state events c = published_from c.0 Unpublished events c.1 c.2

  pub state_published : (events : List Event) → (state seat number events ≡ Unpublished) ⊎ Contains events (publication seat number)
  state_published [] = inl refl
  state_published (event ∷ events) = by_test (publishes seat number event) refl (state_published events)
    where
      by_test : (b : Bool) → publishes seat number event ≡ b → (state seat number events ≡ Unpublished) ⊎ Contains events (publication seat number)
          → (fold (next seat number) (cond b (Waiting 0) Unpublished) events ≡ Unpublished) ⊎ Contains (event ∷ events) (publication seat number)
      by_test true e rest = inr (0, omega arith, publication_is event e)
      by_test false e (inl unpublished) = inl unpublished
      by_test false e (inr later) = inr (Contains-append_right (event ∷ []) events (publication seat number) later)

  -- behind its publication, a completion leaves a call completed
  next_completed : (x : State) (events : List Event) → IsPublished x → ¬ IsWaiting (fold (next seat number) (next seat number x (completion seat number)) events)
  next_completed Unpublished events p = absurd p
  next_completed (Waiting count) events p =
      let same : next seat number (Waiting count) (completion seat number) ≡ Completed count =
      ap (λ (b : Bool). cond b (Completed count) (Waiting (count + 0))) completion_completes in
      let stays : fold (next seat number) (next seat number (Waiting count) (completion seat number)) events ≡ Completed count =
      ap (λ (x : State). fold (next seat number) x events) same ∙ completed_stays seat number count events in
      λ w. subst IsWaiting stays w
  next_completed (Completed count) events p = λ w. subst IsWaiting (completed_stays seat number count events) w

  completed_state : (front rest : List Event) → Contains front (publication seat number) → ¬ IsWaiting (state seat number (front ++ completion seat number ∷ rest))
  completed_state front rest c =
      λ w. next_completed (state seat number front) rest (published_state front c) (subst IsWaiting (fold-append (next seat number) Unpublished front (completion seat number ∷ rest)) w)

-- a list by one of its places
split_at : {X : Type 0} (xs : List X) (k : ℕ) (x : X) → k < length xs → get_or xs k x ≡ x → xs ≡ take k xs ++ x ∷ drop (k + 1) xs
split_at xs k x lt at =
    sym (take-append-drop k xs) ∙ ap (λ ys. take k xs ++ ys) (drop_more xs k x lt) ∙ ap (λ y. take k xs ++ y ∷ drop (k + 1) xs) at

-- the events by one of their places
pub parts_at : (events : List Event) (i : ℕ) (d : Event) → i < length events → events ≡ take i events ++ get_or events i d ∷ drop (i + 1) events
parts_at events i d lt = sym (take-append-drop i events) ∙ ap (λ (xs : List Event). take i events ++ xs) (drop_more events i d lt)

-- each seat is below 8
pub seat_at : (events : List Event) (i : ℕ) (d : Event) → AreOrdered events → i < length events → (get_or events i d).seat < 8
seat_at events i d ordered lt = (ordered (take i events) (drop (i + 1) events) (get_or events i d) (parts_at events i d lt)).seat

-- where a call is published, it was not published before
pub fresh : (events front rest : List Event) (seat number : ℕ) → AreOrdered events → events ≡ front ++ publication seat number ∷ rest → state seat number front ≡ Unpublished
fresh events front rest seat number ordered split = by_cases (state_published seat number front)
  where
    here : Event
    here = publication seat number

    by_cases : (state seat number front ≡ Unpublished) ⊎ Contains front here → state seat number front ≡ Unpublished
    by_cases (inl unpublished) = unpublished
    by_cases (inr c) = absurd ((ordered front rest here split).once c)

-- and no other call of its seat waits
pub others_rest : (events front rest : List Event) (seat number other : ℕ) → AreOrdered events → events ≡ front ++ publication seat number ∷ rest → other ≢ number → ¬ IsWaiting (state seat other front)
others_rest events front rest seat number other ordered split differs =
    λ waits. (ordered front rest (publication seat number) split).one_open refl other differs (record { published = published waits (state_published seat other front); incomplete = incomplete waits })
  where
    published : IsWaiting (state seat other front) → (state seat other front ≡ Unpublished) ⊎ Contains front (publication seat other) → Contains front (publication seat other)
    published waits (inl unpublished) = absurd (subst IsWaiting unpublished waits)
    published waits (inr c) = c

    incomplete : IsWaiting (state seat other front) → ¬ Contains front (completion seat other)
    incomplete waits = λ c.
        let parts : front ≡ take c.0 front ++ completion seat other ∷ drop (c.0 + 1) front = split_at front c.0 (completion seat other) c.1 c.2 in
        let whole : events ≡ take c.0 front ++ completion seat other ∷ (drop (c.0 + 1) front ++ publication seat number ∷ rest) =
        split ∙ ap (λ (xs : List Event). xs ++ publication seat number ∷ rest) parts ∙ append_assoc (take c.0 front) (completion seat other ∷ drop (c.0 + 1) front) (publication seat number ∷ rest) in
        let before = (ordered (take c.0 front) (drop (c.0 + 1) front ++ publication seat number ∷ rest) (completion seat other) whole).published_first refl in
        completed_state seat other (take c.0 front) (drop (c.0 + 1) front) before (subst (λ (xs : List Event). IsWaiting (state seat other xs)) parts waits)
