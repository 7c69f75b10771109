-- From the pass over all events to the greatest overtaking count.
use Rattle.std.proofs.Common.{◌≡◌, ℕ, ◌<◌, ◌≤◌, List, get_or, Option, refl, sym, ap, subst, ◌∙◌, inl, inr, ◌⊎◌, arith}
use Rattle.std.specs.Prelude.{Contains}
use Rattle.std.proofs.lemmas.Bool.{cases_lt}
use Rattle.std.proofs.lemmas.List.Recursion.{max_bounds, max_least}
use Rattle.lin_report.specs.declared.events.Event.{Event}
use Rattle.overtaking_law.specs.declared.open_calls.OpenCall.{OpenCall}
use Rattle.overtaking_law.specs.Overtaking.{overtaken, greatest, greatest_overtaken}
use Rattle.overtaking_law.specs.Order.{publication}
use Rattle.overtaking_law.proofs.States.{count_of, state, overtaken_is}
use Rattle.overtaking_law.proofs.States.State.{Unpublished}
use Rattle.overtaking_law.proofs.Order.{state_published}
use Rattle.overtaking_law.proofs.Tracking.{Tracks}

module _ (events : List Event) (calls : List (Option OpenCall)) (most : ℕ) (tracks : Tracks events calls most) where
  pub most_bounds : (seat number : ℕ) → overtaken events seat number ≤ most
  most_bounds seat number = omega (arith, overtaken_is seat number events, tracks.bound seat number)

  pub most_reached : 0 < most → (seat : ℕ) × (number : ℕ) × (overtaken events seat number ≡ most)
  most_reached some = let at = tracks.reached some in (at.0, at.1, sym (overtaken_is at.0 at.1 events) ∙ at.2)

  -- a call that is overtaken is published
  counted : (seat number : ℕ) → 0 < overtaken events seat number → (state seat number events ≡ Unpublished) ⊎ Contains events (publication seat number) → overtaken events seat number ≤ greatest_overtaken events
  unfolding greatest_overtaken
  counted seat number some (inl unpublished) = absurd (omega (arith, overtaken_is seat number events, ap count_of unpublished))
  counted seat number some (inr at) =
      let count = λ (event : Event). overtaken events event.seat event.number in
      let within : count (get_or events at.0 (publication seat number)) ≤ greatest count events = max_bounds (greatest count) count refl (λ x xs. refl) events at.0 (publication seat number) at.1 in
      subst (λ (event : Event). count event ≤ greatest count events) at.2 within

  pub most_is : most ≡ greatest_overtaken events
  unfolding greatest_overtaken
  most_is =
      let count = λ (event : Event). overtaken events event.seat event.number in
      let above : greatest count events ≤ most = max_least (greatest count) count refl (λ x xs. refl) events (publication 0 0) most (λ i lt. most_bounds (get_or events i (publication 0 0)).seat (get_or events i (publication 0 0)).number) in
      elim (cases_lt 0 most) [
        | inl some ↦
            let at = most_reached some in
            let below = counted at.0 at.1 (omega (arith, at.2)) (state_published at.0 at.1 events) in
            omega (arith, at.2, below)
        | inr none ↦ omega arith
      ]
