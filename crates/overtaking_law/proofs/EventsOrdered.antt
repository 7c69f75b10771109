-- How events are shown to be ordered: one event more, and a test of a whole list.
use Rattle.std.proofs.Common.{◌≡◌, ◌≢◌, ℕ, Bool, true, false, not, cond, eqb, ltb, ◌&&◌, ◌||◌, List, [], ◌∷◌, ◌++◌, length, refl, sym, ap, subst, ◌∙◌, append_assoc, arith}
use Rattle.std.specs.Prelude.{Contains}
use Rattle.std.specs.List.{list_all, list_any}
use Rattle.std.proofs.lemmas.Bool.{eqb-true, eq-eqb, ne_eqb, ltb-true}
use Rattle.std.proofs.lemmas.List.{same_from_push, length-append, append-nil}
use Rattle.std.proofs.lemmas.List.Elements.{All-contains, Contains-append_right}
use Rattle.std.proofs.lemmas.List.Sums.{AllPass-from_list_all}
use Rattle.lin_report.specs.declared.events.Event.{Event}
use Rattle.lin_report.specs.declared.events.EventKind.{EventKind}
use Rattle.lin_report.specs.declared.events.EventKind.TheVariants.{Begin, Publish, Complete, Return}
use Rattle.overtaking_law.specs.Overtaking.{is_publish, is_complete}
use Rattle.overtaking_law.specs.Order.{publication, completion, IsOpen, MayFollow, AreOrdered}

pub are_ordered-nil : AreOrdered []
are_ordered-nil before after event split = absurd (omega (arith, ap length split, length-append before (event ∷ after)))

-- a list that isn't empty ends with its last element
ends : {X : Type 0} (x : X) (xs : List X) → (front : List X) × (last : X) × (x ∷ xs ≡ front ++ last ∷ [])
ends x [] = ([], x, refl)
ends x (y ∷ ys) = let rest = ends y ys in (x ∷ rest.0, rest.1, ap (λ zs. x ∷ zs) rest.2)

-- an event that may come next keeps the order
pub are_ordered-push : (events : List Event) (event : Event) → AreOrdered events → MayFollow events event → AreOrdered (events ++ event ∷ [])
are_ordered-push events event ordered follows before [] last split =
    let parts = same_from_push events before event last split in
    subst (MayFollow before) parts.1 (subst (λ (xs : List Event). MayFollow xs event) parts.0 follows)
are_ordered-push events event ordered follows before (next ∷ after) earlier split =
    let rest = ends next after in
    let whole : events ++ event ∷ [] ≡ (before ++ earlier ∷ rest.0) ++ rest.1 ∷ [] =
    split ∙ ap (λ (xs : List Event). before ++ earlier ∷ xs) rest.2 ∙ sym (append_assoc before (earlier ∷ rest.0) (rest.1 ∷ [])) in
    ordered before rest.0 earlier (same_from_push events (before ++ earlier ∷ rest.0) event rest.1 whole).0

-- ---- the test of a list that is written out

abbrev event_place : EventKind → ℕ
event_place Begin = 0
event_place Publish = 1
event_place Complete = 2
event_place Return = 3

abbrev kind_at : ℕ → EventKind
kind_at n = cond (eqb n 0) Begin (cond (eqb n 1) Publish (cond (eqb n 2) Complete Return))

kind_at_place : (kind : EventKind) → kind_at (event_place kind) ≡ kind
kind_at_place Begin = refl
kind_at_place Publish = refl
kind_at_place Complete = refl
kind_at_place Return = refl

abbrev same_event : Event → Event → Bool
same_event a b = eqb (event_place a.kind) (event_place b.kind) && (eqb a.seat b.seat && eqb a.number b.number)

same_itself : (a : Event) → same_event a a ≡ true
same_itself a = ap (λ t. t && (eqb a.seat a.seat && eqb a.number a.number)) (eq-eqb (event_place a.kind) (event_place a.kind) refl)
    ∙ ap (λ t. t && eqb a.number a.number) (eq-eqb a.seat a.seat refl) ∙ eq-eqb a.number a.number refl

and_parts : (a b : Bool) → (a && b) ≡ true → (a ≡ true) × (b ≡ true)
and_parts true true e = (refl, refl)
and_parts true false e = absurd cc
and_parts false b e = absurd cc

-- of `not a || b`
follows_from : (a b : Bool) → (not a || b) ≡ true → a ≡ true → b ≡ true
follows_from true b e holds = e
follows_from false b e holds = absurd cc

is_same : (a b : Event) → same_event a b ≡ true → b ≡ a
is_same a b e =
    let parts = and_parts (eqb (event_place a.kind) (event_place b.kind)) (eqb a.seat b.seat && eqb a.number b.number) e in
    let numbers = and_parts (eqb a.seat b.seat) (eqb a.number b.number) parts.1 in
    let kind : b.kind ≡ a.kind = sym (kind_at_place b.kind) ∙ ap kind_at (sym (eqb-true (event_place a.kind) (event_place b.kind) parts.0)) ∙ kind_at_place a.kind in
    let made : EventKind → ℕ → ℕ → Event = λ kind seat number. record { kind = kind; seat = seat; number = number } in
    ap (λ k. made k b.seat b.number) kind ∙ ap (λ s. made a.kind s b.number) (sym (eqb-true a.seat b.seat numbers.0)) ∙ ap (λ n. made a.kind a.seat n) (sym (eqb-true a.number b.number numbers.1))

abbrev has : List Event → Event → Bool
has events event = list_any (same_event event) events

has_contains : (events : List Event) (event : Event) → has events event ≡ true → Contains events event
has_contains [] event e = absurd cc
has_contains (x ∷ events) event e = by_test (λ h. has_contains events event h) (same_event event x) refl e
  where
    by_test : (has events event ≡ true → Contains events event) → (b : Bool) → same_event event x ≡ b → (b || has events event) ≡ true → Contains (x ∷ events) event
    by_test rest true same e = (0, omega arith, is_same event x same)
    by_test rest false same e = Contains-append_right (x ∷ []) events event (rest e)

-- an event that differs from each is not among them
not_among : (events : List Event) (event : Event) → list_all (λ other. not (same_event event other)) events ≡ true → ¬ Contains events event
not_among events event e = λ c.
    let differs : not (same_event event event) ≡ true = All-contains (λ other. not (same_event event other) ≡ true) events event (AllPass-from_list_all (λ other. not (same_event event other)) events e) c in
    let same = same_itself event in
    absurd cc

-- a publication of another call of the seat has its completion among the events
abbrev rests : List Event → ℕ → ℕ → Event → Bool
rests before seat number other =
    not (is_publish other.kind && (eqb other.seat seat && not (eqb other.number number))) || has before (completion other.seat other.number)

no_other_open : (before : List Event) (seat number : ℕ) → list_all (rests before seat number) before ≡ true → (other : ℕ) → other ≢ number → ¬ IsOpen before seat other
no_other_open before seat number e other differs = λ is_open.
    let rest = All-contains (λ x. rests before seat number x ≡ true) before (publication seat other) (AllPass-from_list_all (rests before seat number) before e) is_open.published in
    let seats : eqb seat seat ≡ true = eq-eqb seat seat refl in
    let numbers : eqb other number ≡ false = ne_eqb other number differs in
    let premise : (eqb seat seat && not (eqb other number)) ≡ true = ap (λ t. t && not (eqb other number)) seats ∙ ap (λ t. not t) numbers in
    is_open.incomplete (has_contains before (completion seat other) (follows_from (eqb seat seat && not (eqb other number)) (has before (completion seat other)) rest premise))

abbrev may_follow : List Event → Event → Bool
may_follow before event =
    (ltb event.seat 8 && list_all (λ other. not (same_event event other)) before)
    && ((not (is_complete event.kind) || has before (publication event.seat event.number))
    && (not (is_publish event.kind) || list_all (rests before event.seat event.number) before))

follows_by_test : (before : List Event) (event : Event) → may_follow before event ≡ true → MayFollow before event
follows_by_test before event e =
    let halves = and_parts (ltb event.seat 8 && list_all (λ other. not (same_event event other)) before) _ e in
    let first = and_parts (ltb event.seat 8) (list_all (λ other. not (same_event event other)) before) halves.0 in
    let second = and_parts (not (is_complete event.kind) || has before (publication event.seat event.number)) (not (is_publish event.kind) || list_all (rests before event.seat event.number) before) halves.1 in
    record {
      seat = ltb-true event.seat 8 first.0;
      once = not_among before event first.1;
      published_first = λ kind. has_contains before (publication event.seat event.number) (follows_from (is_complete event.kind) _ second.0 (ap is_complete kind));
      one_open = λ kind. no_other_open before event.seat event.number (follows_from (is_publish event.kind) _ second.1 (ap is_publish kind));
    }

-- whether these events may come, one after another
abbrev pub may_come : List Event → List Event → Bool
may_come before [] = true
may_come before (event ∷ events) = may_follow before event && may_come (before ++ event ∷ []) events

ordered_from : (before events : List Event) → AreOrdered before → may_come before events ≡ true → AreOrdered (before ++ events)
ordered_from before [] ordered e = subst AreOrdered (sym (append-nil before)) ordered
ordered_from before (event ∷ events) ordered e =
    let parts = and_parts (may_follow before event) (may_come (before ++ event ∷ []) events) e in
    subst AreOrdered (append_assoc before (event ∷ []) events)
    (ordered_from (before ++ event ∷ []) events (are_ordered-push before event ordered (follows_by_test before event parts.0)) parts.1)

-- events that pass the test are ordered
pub ordered_by_test : (events : List Event) → may_come [] events ≡ true → AreOrdered events
ordered_by_test events e = ordered_from [] events are_ordered-nil e
