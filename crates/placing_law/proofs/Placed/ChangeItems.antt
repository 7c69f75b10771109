-- The items of the calls that made the changes of a history, in its order.
use Rattle.std.proofs.Common.{◌≡◌, ◌≢◌, ℕ, zero, suc, ◌+◌, ◌<◌, ◌≤◌, List, [], ◌∷◌, map, length, get_or, slice_get, Option, Some, None, IfSome, All, Contains, refl, sym, subst, inl, inr, arith}
use Rattle.std.proofs.lemmas.Bool.{cases_order}
use Rattle.std.proofs.lemmas.List.Elements.{All-append, All-map, All-contains}
use Rattle.std.proofs.lemmas.Option.{get_or_from_slice_get, slice_get_within}
use Rattle.lin_report.specs.declared.calls.Op.{Op}
use Rattle.lin_report.specs.declared.calls.Reply.{Reply}
use Rattle.lin_report.specs.declared.calls.Reply.TheVariants.{Exhausted}
use Rattle.lin_report.specs.Object.{Object}
use Rattle.lin_report.specs.Calls.{Call, Report, answered_call, pending_call, calls_of, IsSameCall}
use Rattle.lin_report.specs.Report.{IsReport}
use Rattle.placing_law.specs.Placing.{ObjectChange, change_of, IsChangeOf, held_at, MadeByCall, IsPlaced}
use Rattle.placing_law.proofs.Items.{Item, Before, Each, Pairs, Has, each_weaker}
use Rattle.placing_law.proofs.Changes.{held_next, not_exhausted, IsItem, IsStep, Fits}

module _ (object : Object) (answers : (op : Op) (held : object.Held) → (object.apply op held).1 ≢ Exhausted) (files : List (List Op)) (report : Report) (history : List ObjectChange) (count_at : ℕ → ℕ) (is : IsReport files report) (placed : IsPlaced object history count_at report) where
  forward : All (λ (c : Call). IfSome c.answer (λ answer. c.begin < answer.1)) (calls_of report)
  forward = All-append (λ (c : Call). IfSome c.answer (λ answer. c.begin < answer.1)) (map answered_call report.receipts) (map pending_call report.pending)
      (All-map (λ (c : Call). IfSome c.answer (λ answer. c.begin < answer.1)) answered_call report.receipts is.forward)
      (All-map (λ (c : Call). IfSome c.answer (λ answer. c.begin < answer.1)) pending_call report.pending (λ k d lt. tt))

  -- the item of a change
  abbrev pub change_item : (place : ℕ) → MadeByCall object history count_at report place → Item
  change_item place made = record { call = made.call; after = suc place; late = 0 }

  ended_there : (place begin : ℕ) (answer : Option (Reply × ℕ)) → IfSome answer (λ a. place < count_at a.1) → IfSome answer (λ a. begin < a.1) → IfSome answer (λ a. (suc place ≤ count_at a.1) × (begin < a.1))
  ended_there place begin None ended forth = tt
  ended_there place begin (Some a) ended forth = (omega arith, forth)

  change_is_item : (place : ℕ) (made : MadeByCall object history count_at report place) → IsItem object history count_at report (change_item place made)
  change_is_item place made =
      let begun = made.begun in
      record {
        known = made.known;
        effective = not_exhausted made.call.answer _ made.reply (answers made.call.op (held_at object history place));
        begun = omega arith;
        strict = inl (omega arith);
        early = omega arith;
        ended = ended_there place made.call.begin made.call.answer made.ended (All-contains (λ (c : Call). IfSome c.answer (λ answer. c.begin < answer.1)) (calls_of report) made.call forward made.known);
      }

  change_is_step : (place : ℕ) (made : MadeByCall object history count_at report place) → IsStep object history count_at report place (change_item place made)
  change_is_step place made = record {
    answers = made.reply;
    leaves = sym (held_next object object.empty history place (change_of made.call) made.change);
    near = inr (refl, refl);
  }

  pub next : (n q : ℕ) → q + suc n ≡ length history → suc q + n ≡ length history
  next n q e = omega (arith, e)

  pub here : (n q : ℕ) → q + suc n ≡ length history → q < length history
  here n q e = omega (arith, e)

  -- the items of the changes from a place on
  abbrev pub changes : (n q : ℕ) → q + n ≡ length history → List Item
  changes zero q e = []
  changes (suc n) q e = change_item q (placed.made q (here n q e)) ∷ changes n (suc q) (next n q e)

  pub changes_items : (n q : ℕ) (e : q + n ≡ length history) → Each (IsItem object history count_at report) (changes n q e)
  changes_items zero q e = tt
  changes_items (suc n) q e = (change_is_item q (placed.made q (here n q e)), changes_items n (suc q) (next n q e))

  pub changes_fit : (n q : ℕ) (e : q + n ≡ length history) → Fits object history count_at report q (changes n q e)
  changes_fit zero q e = omega (arith, e)
  changes_fit (suc n) q e = (change_is_step q (placed.made q (here n q e)), changes_fit n (suc q) (next n q e))

  -- an item's call is that of a change from a place on
  pub record IsLater (q : ℕ) (x : Item) : Type 0 where
    pub place : ℕ
    pub from : q ≤ place
    pub after : x.after ≡ suc place
    pub change : slice_get history place ≡ Some (change_of x.call)

  later_still : (q : ℕ) (x : Item) → IsLater (suc q) x → IsLater q x
  later_still q x later = let from = later.from in record { place = later.place; from = omega arith; after = later.after; change = later.change }

  pub changes_later : (n q : ℕ) (e : q + n ≡ length history) → Each (IsLater q) (changes n q e)
  changes_later zero q e = tt
  changes_later (suc n) q e = (
    record { place = q; from = omega arith; after = refl; change = (placed.made q (here n q e)).change },
    each_weaker (IsLater (suc q)) (IsLater q) (later_still q) (changes n (suc q) (next n q e)) (changes_later n (suc q) (next n q e)),
  )

  pub changes_sorted : (n q : ℕ) (e : q + n ≡ length history) → Pairs Before (changes n q e)
  changes_sorted zero q e = tt
  changes_sorted (suc n) q e = (
    each_weaker (IsLater (suc q)) (Before (change_item q (placed.made q (here n q e)))) (λ y later. let from = later.from in inl (omega (arith, later.after))) (changes n (suc q) (next n q e)) (changes_later n (suc q) (next n q e)),
    changes_sorted n (suc q) (next n q e),
  )

  pub change_at : (place : ℕ) (c : Call) (d : ObjectChange) → slice_get history place ≡ Some (change_of c) → get_or history place d ≡ change_of c
  change_at place c d at = get_or_from_slice_get history place (change_of c) d at

  changes_apart : (p q : ℕ) (c d : Call) → p < q → slice_get history p ≡ Some (change_of c) → slice_get history q ≡ Some (change_of d) → ¬ IsSameCall c d
  changes_apart p q c d before one two same =
      placed.once p q (change_of c) before (slice_get_within history q (change_of d) two)
      (subst (λ (z : ObjectChange). IsChangeOf z (get_or history q (change_of c)).seat (get_or history q (change_of c)).number) (sym (change_at p c (change_of c) one))
      (subst (λ (z : ObjectChange). IsChangeOf (change_of c) z.seat z.number) (sym (change_at q d (change_of c) two)) (same.seat, same.number)))

  pub changes_once : (n q : ℕ) (e : q + n ≡ length history) → Pairs (λ (x y : Item). ¬ IsSameCall x.call y.call) (changes n q e)
  changes_once zero q e = tt
  changes_once (suc n) q e =
      let made = placed.made q (here n q e) in (
        each_weaker (IsLater (suc q)) (λ (y : Item). ¬ IsSameCall made.call y.call) (λ y later. let from = later.from in changes_apart q later.place made.call y.call (omega arith) made.change later.change) (changes n (suc q) (next n q e)) (changes_later n (suc q) (next n q e)),
        changes_once n (suc q) (next n q e),
      )

  -- a call that no change is of
  pub unchanged : (c : Call) → All (λ change. ¬ IsChangeOf change c.seat c.number) history → (x : Item) → IsLater 0 x → ¬ IsSameCall c x.call
  unchanged c none x later same =
      let at = change_at later.place x.call (change_of x.call) later.change in
      none later.place (change_of x.call) (slice_get_within history later.place (change_of x.call) later.change)
      (subst (λ (z : ObjectChange). IsChangeOf z c.seat c.number) (sym at) (sym same.seat, sym same.number))

  -- the call whose change has a place is among them
  pub record Holds (place : ℕ) (xs : List Item) : Type 0 where
    pub call : Call
    pub known : Contains (calls_of report) call
    pub has : Has call xs
    pub change : slice_get history place ≡ Some (change_of call)

  pub changes_hold : (n q : ℕ) (e : q + n ≡ length history) (place : ℕ) → q ≤ place → place < length history → Holds place (changes n q e)
  changes_hold zero q e place from within = absurd (omega (arith, e))
  changes_hold (suc n) q e place from within = elim (cases_order q place) [
    | inl even ↦
        let made = placed.made q (here n q e) in
        record { call = made.call; known = made.known; has = inl refl; change = subst (λ k. slice_get history k ≡ Some (change_of made.call)) even made.change }
    | inr (inl less) ↦
        let rest = changes_hold n (suc q) (next n q e) place (omega arith) within in
        record { call = rest.call; known = rest.known; has = inr rest.has; change = rest.change }
    | inr (inr more) ↦ absurd (omega arith)
  ]

  pub from_none : 0 + length history ≡ length history
  from_none = omega arith

  abbrev pub all_changes : List Item
  all_changes = changes (length history) 0 from_none
