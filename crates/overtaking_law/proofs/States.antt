-- The state of one call as the events come: its count, and whether it waits.
use Rattle.std.proofs.Common.{◌≡◌, ℕ, suc, ◌+◌, Bool, true, false, not, cond, List, [], ◌∷◌, take, drop, refl, sym, ap, ◌∙◌, arith}
use Rattle.std.specs.List.{fold, count_by, before_first, position_or_len}
use Rattle.std.proofs.lemmas.List.Sums.{sum_by-cons}
use Rattle.lin_report.specs.declared.events.Event.{Event}
use Rattle.overtaking_law.specs.Overtaking.{publishes, completes, returns_elsewhere, overtaken}

-- not published yet, waiting with its count so far, or completed with it
pub data State : Type 0 where
  Unpublished : State
  Waiting : (count : ℕ) → State
  Completed : (count : ℕ) → State

abbrev pub count_of : State → ℕ
count_of Unpublished = 0
count_of (Waiting count) = count
count_of (Completed count) = count

module _ (seat number : ℕ) where
  abbrev pub next : State → Event → State
  next Unpublished event = cond (publishes seat number event) (Waiting 0) Unpublished
  next (Waiting count) event = cond (completes seat number event) (Completed count) (Waiting (count + cond (returns_elsewhere seat event) 1 0))
  next (Completed count) event = Completed count

  -- the state after these events
  abbrev pub state : List Event → State
  state events = fold next Unpublished events

  -- a completed call stays as it is
  pub completed_stays : (count : ℕ) (events : List Event) → fold next (Completed count) events ≡ Completed count
  completed_stays count [] = refl
  completed_stays count (event ∷ events) = completed_stays count events

  waiting_count : (b : Bool) (count : ℕ) (event : Event) (events : List Event) → completes seat number event ≡ b
      → ((c : ℕ) → count_of (fold next (Waiting c) events) ≡ c + count_by (returns_elsewhere seat) (before_first (completes seat number) events))
      → count_of (fold next (cond b (Completed count) (Waiting (count + cond (returns_elsewhere seat event) 1 0))) events)
      ≡ count + count_by (returns_elsewhere seat) (take (cond (not b) (1 + position_or_len (completes seat number) events) 0) (event ∷ events))
  waiting_count true count event events e rest = ap count_of (completed_stays count events) ∙ omega arith
  waiting_count false count event events e rest =
      let n = position_or_len (completes seat number) events in
      let one : 1 + n ≡ suc n = omega arith in
      let more = sum_by-cons (λ event. cond (returns_elsewhere seat event) 1 0) event (take n events) in
      let part : count_by (returns_elsewhere seat) (take (1 + n) (event ∷ events)) ≡ count_by (returns_elsewhere seat) (event ∷ take n events) =
      ap (λ k. count_by (returns_elsewhere seat) (take k (event ∷ events))) one in
      rest (count + cond (returns_elsewhere seat event) 1 0) ∙ omega (arith, more, part)

  pub waiting_counts : (count : ℕ) (events : List Event) → count_of (fold next (Waiting count) events) ≡ count + count_by (returns_elsewhere seat) (before_first (completes seat number) events)
  waiting_counts count [] = omega arith
  waiting_counts count (event ∷ events) = waiting_count (completes seat number event) count event events refl (λ c. waiting_counts c events)

  unpublished_count : (b : Bool) (event : Event) (events : List Event) → count_of (fold next Unpublished events) ≡ overtaken events seat number
      → count_of (fold next (cond b (Waiting 0) Unpublished) events)
      ≡ count_by (returns_elsewhere seat) (before_first (completes seat number) (drop (cond (not b) (1 + position_or_len (publishes seat number) events) 0 + 1) (event ∷ events)))
  unfolding overtaken
  unpublished_count true event events rest = waiting_counts 0 events ∙ omega arith
  unpublished_count false event events rest =
      let n = position_or_len (publishes seat number) events in
      let one : 1 + n + 1 ≡ suc (n + 1) = omega arith in
      rest ∙ ap (λ k. count_by (returns_elsewhere seat) (before_first (completes seat number) (drop k (event ∷ events)))) (sym one)

  -- the count of the state after all events is the overtaking count
  pub overtaken_is : (events : List Event) → count_of (state events) ≡ overtaken events seat number
  unfolding overtaken
  overtaken_is [] = refl
  overtaken_is (event ∷ events) = unpublished_count (publishes seat number event) event events (overtaken_is events)
