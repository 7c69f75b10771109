-- What the one pass knows of all calls after each event.
use Rattle.std.proofs.Common.{◌≡◌, ◌≢◌, ℕ, ◌+◌, ◌<◌, ◌≤◌, max, Bool, true, false, cond, eqb, List, [], ◌∷◌, ◌++◌, length, set, Option, Some, None, refl, sym, ap, subst, ◌∙◌, inl, inr, arith}
use Rattle.std.proofs.lemmas.Bool.{cases_eq, cases_lt, eqb-true, eqb-false, eq-eqb, ne_eqb}
use Rattle.std.proofs.lemmas.List.{get_or-set_same, get_or-set_other, length_push}
use Rattle.lin_report.specs.declared.events.Event.{Event}
use Rattle.lin_report.specs.declared.events.EventKind.TheVariants.{Begin, Publish, Complete, Return}
use Rattle.overtaking_law.specs.declared.open_calls.OpenCall.{OpenCall}
use Rattle.overtaking_law.specs.Order.{publication, AreOrdered}
use Rattle.overtaking_law.specs.OpenCalls.{open_call_of, overtaken_so_far, without, once_more, after_return}
use Rattle.overtaking_law.proofs.States.{State, count_of, next, state}
use Rattle.overtaking_law.proofs.States.State.{Unpublished, Waiting, Completed}
use Rattle.overtaking_law.proofs.Order.{IsWaiting, fresh, others_rest}
use Rattle.overtaking_law.proofs.Steps.{state_more, is_of_yes, is_of_other_seat, is_of_other_number, at_begin, at_publish_other, at_publish, at_complete_other, at_complete_count, at_complete, at_return_own, at_return_other, at_return_unpublished, at_return_rests, count_grows}

-- a seat's open call is the one that waits, with its count so far, and no other call of the seat waits
abbrev pub IsOpenCall : List Event → ℕ → Option OpenCall → Type 0
IsOpenCall front seat None = (number : ℕ) → ¬ IsWaiting (state seat number front)
IsOpenCall front seat (Some call) = (state seat call.number front ≡ Waiting call.overtaken) × ((number : ℕ) → number ≢ call.number → ¬ IsWaiting (state seat number front))

-- the pass after these events
pub record Tracks (front : List Event) (calls : List (Option OpenCall)) (most : ℕ) : Type 0 where
  pub open_calls : (seat : ℕ) → IsOpenCall front seat (open_call_of calls seat)
  pub bound : (seat number : ℕ) → count_of (state seat number front) ≤ most
  pub reached : 0 < most → (seat : ℕ) × (number : ℕ) × (count_of (state seat number front) ≡ most)
  pub few : most ≤ length front

-- states that stay leave the open call as it is
same_call : (front after : List Event) (seat : ℕ) (call : Option OpenCall) → ((number : ℕ) → state seat number after ≡ state seat number front) → IsOpenCall front seat call → IsOpenCall after seat call
same_call front after seat None same is_open = λ number waits. is_open number (subst IsWaiting (same number) waits)
same_call front after seat (Some call) same is_open = (same call.number ∙ is_open.0, λ number differs waits. is_open.1 number differs (subst IsWaiting (same number) waits))

-- the count of an open call is within the greatest
pub open_within : (front : List Event) (calls : List (Option OpenCall)) (most seat : ℕ) → Tracks front calls most → overtaken_so_far (open_call_of calls seat) ≤ most
open_within front calls most seat tracks = by_call (open_call_of calls seat) (tracks.open_calls seat)
  where
    by_call : (call : Option OpenCall) → IsOpenCall front seat call → overtaken_so_far call ≤ most
    by_call None is_open = omega arith
    by_call (Some call) is_open = omega (arith, tracks.bound seat call.number, ap count_of is_open.0)

-- an event that leaves each count
counts_stay : (front : List Event) (event : Event) (calls after : List (Option OpenCall)) (most : ℕ) → Tracks front calls most
    → ((seat number : ℕ) → count_of (state seat number (front ++ event ∷ [])) ≡ count_of (state seat number front))
    → ((seat : ℕ) → IsOpenCall (front ++ event ∷ []) seat (open_call_of after seat)) → Tracks (front ++ event ∷ []) after most
counts_stay front event calls after most tracks same open_calls = record {
  open_calls = open_calls;
  bound = λ seat number. omega (arith, same seat number, tracks.bound seat number);
  reached = λ some. let at = tracks.reached some in (at.0, at.1, same at.0 at.1 ∙ at.2);
  few = omega (arith, tracks.few, length_push front event);
}

pub tracks_none : (calls : List (Option OpenCall)) → ((seat : ℕ) → open_call_of calls seat ≡ None) → Tracks [] calls 0
tracks_none calls none = record {
  open_calls = λ seat. subst (IsOpenCall [] seat) (sym (none seat)) (λ number waits. waits);
  bound = λ seat number. omega arith;
  reached = λ some. absurd (omega arith);
  few = omega arith;
}

pub tracks_begin : (front : List Event) (event : Event) (calls : List (Option OpenCall)) (most : ℕ) → event.kind ≡ Begin → Tracks front calls most → Tracks (front ++ event ∷ []) calls most
tracks_begin front event calls most kind tracks =
    counts_stay front event calls calls most tracks (λ seat number. ap count_of (same seat number)) (λ seat. same_call front (front ++ event ∷ []) seat (open_call_of calls seat) (same seat) (tracks.open_calls seat))
  where
    same : (seat number : ℕ) → state seat number (front ++ event ∷ []) ≡ state seat number front
    same seat number = state_more seat number event front ∙ at_begin seat number event (state seat number front) kind

-- of each number, by one of them
by_number : (P : ℕ → Type 0) (here : ℕ) → P here → ((n : ℕ) → here ≢ n → P n) → (n : ℕ) → P n
by_number P here at_here elsewhere n =
    elim (cases_eq here n) [
      | inl same ↦ subst P same at_here
      | inr differs ↦ elsewhere n differs
    ]

-- of each seat, where the call of one is replaced
by_seat : (calls : List (Option OpenCall)) (here : ℕ) (call : Option OpenCall) (P : ℕ → Option OpenCall → Type 0) → here < length calls
    → P here call → ((seat : ℕ) → here ≢ seat → P seat (open_call_of calls seat)) → (seat : ℕ) → P seat (open_call_of (set calls here call) seat)
by_seat calls here call P within at_here elsewhere =
    by_number (λ seat. P seat (open_call_of (set calls here call) seat)) here
    (subst (P here) (sym (get_or-set_same calls here call None within)) at_here)
    (λ seat differs. subst (P seat) (sym (get_or-set_other calls here seat call None (λ e. differs (sym e)))) (elsewhere seat differs))

pub tracks_publish : (events front rest : List Event) (event : Event) (calls : List (Option OpenCall)) (most : ℕ) → AreOrdered events → events ≡ front ++ event ∷ rest → event.kind ≡ Publish → event.seat < length calls
    → Tracks front calls most → Tracks (front ++ event ∷ []) (set calls event.seat (Some (record { number = event.number; overtaken = 0 }))) most
tracks_publish events front rest event calls most ordered split kind within tracks =
    counts_stay front event calls _ most tracks counts (by_seat calls event.seat published (IsOpenCall (front ++ event ∷ [])) within here elsewhere)
  where
    published : Option OpenCall
    published = Some (record { number = event.number; overtaken = 0 })

    at : events ≡ front ++ publication event.seat event.number ∷ rest
    at = split ∙ ap (λ (k : Rattle.lin_report.specs.declared.events.EventKind.EventKind). front ++ record { kind = k; seat = event.seat; number = event.number } ∷ rest) kind

    unpublished : state event.seat event.number front ≡ Unpublished
    unpublished = fresh events front rest event.seat event.number ordered at

    waits : state event.seat event.number (front ++ event ∷ []) ≡ Waiting 0
    waits = state_more event.seat event.number event front
        ∙ ap (λ (x : State). next event.seat event.number x event) unpublished
        ∙ at_publish event.seat event.number event kind (is_of_yes event.seat event.number event refl refl)

    same_seat : (number : ℕ) → event.number ≢ number → state event.seat number (front ++ event ∷ []) ≡ state event.seat number front
    same_seat number differs = state_more event.seat number event front ∙ at_publish_other event.seat number event (state event.seat number front) kind (is_of_other_number event.seat number event differs)

    same_elsewhere : (seat number : ℕ) → event.seat ≢ seat → state seat number (front ++ event ∷ []) ≡ state seat number front
    same_elsewhere seat number differs = state_more seat number event front ∙ at_publish_other seat number event (state seat number front) kind (is_of_other_seat seat number event differs)

    counts : (seat number : ℕ) → count_of (state seat number (front ++ event ∷ [])) ≡ count_of (state seat number front)
    counts = by_number (λ seat. (number : ℕ) → count_of (state seat number (front ++ event ∷ [])) ≡ count_of (state seat number front)) event.seat
        (by_number (λ number. count_of (state event.seat number (front ++ event ∷ [])) ≡ count_of (state event.seat number front)) event.number
        (ap count_of waits ∙ sym (ap count_of unpublished))
        (λ number differs. ap count_of (same_seat number differs)))
        (λ seat differs number. ap count_of (same_elsewhere seat number differs))

    here : IsOpenCall (front ++ event ∷ []) event.seat published
    here = (waits, λ number differs is_waiting. others_rest events front rest event.seat event.number number ordered at differs (subst IsWaiting (same_seat number (λ e. differs (sym e))) is_waiting))

    elsewhere : (seat : ℕ) → event.seat ≢ seat → IsOpenCall (front ++ event ∷ []) seat (open_call_of calls seat)
    elsewhere seat differs = same_call front (front ++ event ∷ []) seat (open_call_of calls seat) (λ number. same_elsewhere seat number differs) (tracks.open_calls seat)

pub tracks_complete : (front : List Event) (event : Event) (calls : List (Option OpenCall)) (most : ℕ) → event.kind ≡ Complete → event.seat < length calls
    → Tracks front calls most → Tracks (front ++ event ∷ []) (set calls event.seat (without event.number (open_call_of calls event.seat))) most
tracks_complete front event calls most kind within tracks =
    counts_stay front event calls _ most tracks counts (by_seat calls event.seat _ (IsOpenCall (front ++ event ∷ [])) within (here (open_call_of calls event.seat) (tracks.open_calls event.seat)) elsewhere)
  where
    counts : (seat number : ℕ) → count_of (state seat number (front ++ event ∷ [])) ≡ count_of (state seat number front)
    counts seat number = ap count_of (state_more seat number event front) ∙ at_complete_count seat number event (state seat number front) kind

    same_seat : (number : ℕ) → event.number ≢ number → state event.seat number (front ++ event ∷ []) ≡ state event.seat number front
    same_seat number differs = state_more event.seat number event front ∙ at_complete_other event.seat number event (state event.seat number front) kind (is_of_other_number event.seat number event differs)

    completed : ¬ IsWaiting (state event.seat event.number (front ++ event ∷ []))
    completed = λ is_waiting. at_complete event.seat event.number event (state event.seat event.number front) kind (is_of_yes event.seat event.number event refl refl) (subst IsWaiting (state_more event.seat event.number event front) is_waiting)

    same_elsewhere : (seat number : ℕ) → event.seat ≢ seat → state seat number (front ++ event ∷ []) ≡ state seat number front
    same_elsewhere seat number differs = state_more seat number event front ∙ at_complete_other seat number event (state seat number front) kind (is_of_other_seat seat number event differs)

    none_waits : ((number : ℕ) → event.number ≢ number → ¬ IsWaiting (state event.seat number front)) → IsOpenCall (front ++ event ∷ []) event.seat None
    none_waits others = by_number (λ number. ¬ IsWaiting (state event.seat number (front ++ event ∷ []))) event.number completed
        (λ number differs is_waiting. others number differs (subst IsWaiting (same_seat number differs) is_waiting))

    here : (call : Option OpenCall) → IsOpenCall front event.seat call → IsOpenCall (front ++ event ∷ []) event.seat (without event.number call)
    here None is_open = none_waits (λ number differs. is_open number)
    here (Some call) is_open = by_test (eqb call.number event.number) refl
      where
        others : (number : ℕ) → number ≢ call.number → ¬ IsWaiting (state event.seat number (front ++ event ∷ []))
        others = by_number (λ number. number ≢ call.number → ¬ IsWaiting (state event.seat number (front ++ event ∷ []))) event.number
            (λ differs. completed)
            (λ number other differs is_waiting. is_open.1 number differs (subst IsWaiting (same_seat number other) is_waiting))

        by_test : (b : Bool) → eqb call.number event.number ≡ b → IsOpenCall (front ++ event ∷ []) event.seat (cond b None (Some call))
        by_test true e = none_waits (λ number differs. is_open.1 number (λ same. differs (sym (same ∙ eqb-true call.number event.number e))))
        by_test false e = (same_seat call.number (λ same. eqb-false call.number event.number e (sym same)) ∙ is_open.0, others)

    elsewhere : (seat : ℕ) → event.seat ≢ seat → IsOpenCall (front ++ event ∷ []) seat (open_call_of calls seat)
    elsewhere seat differs = same_call front (front ++ event ∷ []) seat (open_call_of calls seat) (λ number. same_elsewhere seat number differs) (tracks.open_calls seat)

pub tracks_return : (front : List Event) (event : Event) (calls after : List (Option OpenCall)) (most result : ℕ) → event.kind ≡ Return
    → ((place : ℕ) → open_call_of after place ≡ after_return event.seat place (open_call_of calls place))
    → ((place : ℕ) → place ≢ event.seat → overtaken_so_far (open_call_of after place) ≤ result)
    → (0 < result → (place : ℕ) × (place ≢ event.seat) × (overtaken_so_far (open_call_of after place) ≡ result))
    → Tracks front calls most → Tracks (front ++ event ∷ []) after (max most result)
tracks_return front event calls after most result kind done bound reached tracks = record {
  open_calls = open_calls;
  bound = bounds;
  reached = reaches;
  few = omega (arith, tracks.few, length_push front event, little);
}
  where
    later : List Event
    later = front ++ event ∷ []

    own : (number : ℕ) → state event.seat number later ≡ state event.seat number front
    own number = state_more event.seat number event front ∙ at_return_own event.seat number event (state event.seat number front) kind refl

    rests : (seat number : ℕ) → ¬ IsWaiting (state seat number front) → ¬ IsWaiting (state seat number later)
    rests seat number rest = λ waits. at_return_rests seat number event (state seat number front) kind rest (subst IsWaiting (state_more seat number event front) waits)

    grows : (seat number : ℕ) → (count_of (state seat number front) ≤ count_of (state seat number later)) × (count_of (state seat number later) ≤ count_of (state seat number front) + 1)
    grows seat number = subst (λ (x : State). (count_of (state seat number front) ≤ count_of x) × (count_of x ≤ count_of (state seat number front) + 1)) (sym (state_more seat number event front)) (count_grows seat number event (state seat number front))

    more : (seat : ℕ) (call : Option OpenCall) → event.seat ≢ seat → IsOpenCall front seat call → IsOpenCall later seat (once_more call)
    more seat None differs is_open = λ number. rests seat number (is_open number)
    more seat (Some call) differs is_open = (
      state_more seat call.number event front ∙ ap (λ (x : State). next seat call.number x event) is_open.0 ∙ at_return_other seat call.number event call.overtaken kind differs,
      λ number other. rests seat number (is_open.1 number other),
    )

    open_calls : (seat : ℕ) → IsOpenCall later seat (open_call_of after seat)
    open_calls = by_number (λ seat. IsOpenCall later seat (open_call_of after seat)) event.seat
        (subst (IsOpenCall later event.seat) (sym (done event.seat ∙ ap (λ b. cond b (open_call_of calls event.seat) (once_more (open_call_of calls event.seat))) (eq-eqb event.seat event.seat refl)))
        (same_call front later event.seat (open_call_of calls event.seat) own (tracks.open_calls event.seat)))
        (λ seat differs. subst (IsOpenCall later seat) (sym (done seat ∙ ap (λ b. cond b (open_call_of calls seat) (once_more (open_call_of calls seat))) (ne_eqb seat event.seat (λ e. differs (sym e)))))
        (more seat (open_call_of calls seat) differs (tracks.open_calls seat)))

    -- the state of an open call, and its count
    count_is : (seat number count : ℕ) (call : Option OpenCall) → IsOpenCall later seat call → state seat number later ≡ Waiting count → overtaken_so_far call ≡ count
    count_is seat number count None is_open e = absurd (is_open number (subst IsWaiting (sym e) tt))
    count_is seat number count (Some call) is_open e =
        elim (cases_eq number call.number) [
          | inl same ↦ ap count_of (sym is_open.0 ∙ ap (λ n. state seat n later) (sym same) ∙ e)
          | inr differs ↦ absurd (is_open.1 number differs (subst IsWaiting (sym e) tt))
        ]

    state_of : (seat : ℕ) (call : Option OpenCall) → IsOpenCall later seat call → 0 < overtaken_so_far call → (number : ℕ) × (count_of (state seat number later) ≡ overtaken_so_far call)
    state_of seat None is_open some = absurd (omega arith)
    state_of seat (Some call) is_open some = (call.number, ap count_of is_open.0)

    within : (seat number : ℕ) (x : State) → event.seat ≢ seat → state seat number front ≡ x → count_of (state seat number later) ≤ max most result
    within seat number Unpublished differs e =
        let zero : count_of (state seat number later) ≡ 0 = ap count_of (state_more seat number event front ∙ ap (λ (x : State). next seat number x event) e ∙ at_return_unpublished seat number event kind) in
        omega (arith, zero)
    within seat number (Waiting count) differs e =
        let waits : state seat number later ≡ Waiting (count + 1) = state_more seat number event front ∙ ap (λ (x : State). next seat number x event) e ∙ at_return_other seat number event count kind differs in
        let told = count_is seat number (count + 1) (open_call_of after seat) (open_calls seat) waits in
        omega (arith, told, ap count_of waits, bound seat (λ same. differs (sym same)))
    within seat number (Completed count) differs e =
        let stays : count_of (state seat number later) ≡ count = ap count_of (state_more seat number event front ∙ ap (λ (x : State). next seat number x event) e) in
        omega (arith, stays, ap count_of e, tracks.bound seat number)

    bounds : (seat number : ℕ) → count_of (state seat number later) ≤ max most result
    bounds = by_number (λ seat. (number : ℕ) → count_of (state seat number later) ≤ max most result) event.seat
        (λ number. omega (arith, ap count_of (own number), tracks.bound event.seat number))
        (λ seat differs number. within seat number (state seat number front) differs refl)

    reaches : 0 < max most result → (seat : ℕ) × (number : ℕ) × (count_of (state seat number later) ≡ max most result)
    reaches some =
        elim (cases_lt most result) [
          | inl lt ↦
              let at = reached (omega arith) in
              let told = state_of at.0 (open_call_of after at.0) (open_calls at.0) (omega (arith, at.2)) in
              (at.0, told.0, omega (arith, told.1, at.2))
          | inr le ↦
              let at = tracks.reached (omega arith) in
              (at.0, at.1, omega (arith, at.2, (grows at.0 at.1).0, bounds at.0 at.1))
        ]

    little : result ≤ most + 1
    little =
        elim (cases_lt 0 result) [
          | inl some ↦
              let at = reached some in
              let told = state_of at.0 (open_call_of after at.0) (open_calls at.0) (omega (arith, at.2)) in
              omega (arith, told.1, at.2, (grows at.0 told.0).1, tracks.bound at.0 told.0)
          | inr none ↦ omega arith
        ]
