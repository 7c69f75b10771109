-- The order of the calls of a placed report: those of the changes, with those that observed put among them.
use Rattle.std.proofs.Common.{◌≡◌, ◌≢◌, ℕ, suc, ◌+◌, ◌≤◌, List, [], ◌∷◌, length, Some, All, Contains, refl, inl, inr, arith}
use Rattle.lin_report.specs.declared.calls.Op.{Op}
use Rattle.lin_report.specs.declared.calls.Reply.TheVariants.{Exhausted}
use Rattle.lin_report.specs.declared.calls.Receipt.{Receipt}
use Rattle.lin_report.specs.Object.{Object}
use Rattle.lin_report.specs.Calls.{Call, Report, answered_call, calls_of, IsSameCall, EndedBefore}
use Rattle.lin_report.specs.Report.{IsReport}
use Rattle.lin_report.specs.Linearizable.{IsLinearizable, WasExhausted}
use Rattle.placing_law.specs.Placing.{ObjectChange, IsChangeOf, held_at, HasObserved, IsPlaced}
use Rattle.placing_law.proofs.Items.{Item, Before, insert, Each, Pairs, Has, calls_in, each_weaker, each_from_all, all_from_each, each_insert, sorted_insert, pairs_insert, pairs_from_all, pairs_weaker, all_calls, all_pairs_of_calls, has_inserted, has_still, contains_from_has}
use Rattle.placing_law.proofs.Changes.{not_exhausted, IsItem, IsStep, Fits, keeps, legal, fits_insert}
use Rattle.placing_law.proofs.Placed.ChangeItems
use Rattle.placing_law.proofs.Placed.SettledCalls
use Rattle.placing_law.proofs.Placed.SettledCalls.{same_back}

module _ (object : Object) (answers : (op : Op) (held : object.Held) → (object.apply op held).1 ≢ Exhausted) (files : List (List Op)) (report : Report) (history : List ObjectChange) (count_at : ℕ → ℕ) (is : IsReport files report) (placed : IsPlaced object history count_at report) where
  -- of this report
  abbrev from_none : 0 + length history ≡ length history
  from_none = ChangeItems.from_none object answers files report history count_at is placed

  abbrev all_changes : List Item
  all_changes = ChangeItems.all_changes object answers files report history count_at is placed

  abbrev IsSight : Receipt → Type 0
  IsSight = SettledCalls.IsSight object answers files report history count_at is placed

  abbrev IsSettled : Receipt → Type 0
  IsSettled = SettledCalls.IsSettled object answers files report history count_at is placed

  abbrev IsReady : Receipt → Type 0
  IsReady = SettledCalls.IsReady object answers files report history count_at is placed

  -- the item of an observation
  abbrev seen_item : (r : Receipt) → HasObserved object history count_at r → Item
  seen_item r seen = record { call = answered_call r; after = seen.count; late = suc r.begin }

  seen_is_item : (r : Receipt) (seen : HasObserved object history count_at r) → IsReady r → IsItem object history count_at report (seen_item r seen)
  seen_is_item r seen is_ready = record {
    known = is_ready.known;
    effective = not_exhausted (Some (r.reply, r.end)) _ seen.told (answers r.op (held_at object history seen.count));
    begun = seen.begun;
    strict = inr (omega arith);
    early = omega arith;
    ended = (seen.ended, is_ready.forth);
  }

  seen_is_step : (r : Receipt) (seen : HasObserved object history count_at r) → IsStep object history count_at report seen.count (seen_item r seen)
  seen_is_step r seen = record { answers = seen.told; leaves = seen.leaves; near = inl refl }

  -- an answered call among the others, where it observed
  abbrev add : (r : Receipt) → IsSettled r → List Item → List Item
  add r (inl exhausted) xs = xs
  add r (inr (inl changed)) xs = xs
  add r (inr (inr sight)) xs = insert (seen_item r sight.seen) xs

  added : (Q : List Item → Type 0) (r : Receipt) (how : IsSettled r) (xs : List Item) → Q xs
      → ((sight : IsSight r) → Q (insert (seen_item r sight.seen) xs)) → Q (add r how xs)
  added Q r (inl exhausted) xs before with_it = before
  added Q r (inr (inl changed)) xs before with_it = before
  added Q r (inr (inr sight)) xs before with_it = with_it sight

  -- the calls of the changes, with those of these that observed
  abbrev order : (rs : List Receipt) → Each IsReady rs → List Item
  order [] h = all_changes
  order (r ∷ rs) h = add r h.0.settlement (order rs h.1)

  order_items : (rs : List Receipt) (h : Each IsReady rs) → Each (IsItem object history count_at report) (order rs h)
  order_items [] h = ChangeItems.changes_items object answers files report history count_at is placed (length history) 0 from_none
  order_items (r ∷ rs) h =
      let rest = order_items rs h.1 in
      added (Each (IsItem object history count_at report)) r h.0.settlement (order rs h.1) rest
      (λ sight. each_insert (IsItem object history count_at report) (seen_item r sight.seen) (order rs h.1) (seen_is_item r sight.seen h.0) rest)

  order_sorted : (rs : List Receipt) (h : Each IsReady rs) → Pairs Before (order rs h)
  order_sorted [] h = ChangeItems.changes_sorted object answers files report history count_at is placed (length history) 0 from_none
  order_sorted (r ∷ rs) h =
      let rest = order_sorted rs h.1 in
      added (Pairs Before) r h.0.settlement (order rs h.1) rest (λ sight. sorted_insert (seen_item r sight.seen) (order rs h.1) rest)

  seen_within : (r : Receipt) (seen : HasObserved object history count_at r) → seen.count ≤ length history
  seen_within r seen = omega (arith, seen.ended, placed.within r.end)

  order_fits : (rs : List Receipt) (h : Each IsReady rs) → Fits object history count_at report 0 (order rs h)
  order_fits [] h = ChangeItems.changes_fit object answers files report history count_at is placed (length history) 0 from_none
  order_fits (r ∷ rs) h =
      let rest = order_fits rs h.1 in
      added (Fits object history count_at report 0) r h.0.settlement (order rs h.1) rest
      (λ sight. fits_insert object history count_at report 0 (seen_item r sight.seen) (order rs h.1) (seen_is_step r sight.seen) (omega arith) (seen_within r sight.seen) (omega arith) rest)

  -- a call that no change is of, and that is none of these, is not among them
  order_apart : (c : Call) → All (λ change. ¬ IsChangeOf change c.seat c.number) history → (rs : List Receipt) (h : Each IsReady rs) → Each (λ (r : Receipt). ¬ IsSameCall c (answered_call r)) rs
      → Each (λ (x : Item). ¬ IsSameCall c x.call) (order rs h)
  order_apart c none [] h apart =
      each_weaker (ChangeItems.IsLater object answers files report history count_at is placed 0) (λ (x : Item). ¬ IsSameCall c x.call)
      (ChangeItems.unchanged object answers files report history count_at is placed c none) all_changes
      (ChangeItems.changes_later object answers files report history count_at is placed (length history) 0 from_none)
  order_apart c none (r ∷ rs) h apart =
      let rest = order_apart c none rs h.1 apart.1 in
      added (Each (λ (x : Item). ¬ IsSameCall c x.call)) r h.0.settlement (order rs h.1) rest
      (λ sight. each_insert (λ (x : Item). ¬ IsSameCall c x.call) (seen_item r sight.seen) (order rs h.1) apart.0 rest)

  order_once : (rs : List Receipt) (h : Each IsReady rs) → Pairs (λ (r s : Receipt). ¬ IsSameCall (answered_call r) (answered_call s)) rs → Pairs (λ (x y : Item). ¬ IsSameCall x.call y.call) (order rs h)
  order_once [] h apart = ChangeItems.changes_once object answers files report history count_at is placed (length history) 0 from_none
  order_once (r ∷ rs) h apart =
      let rest = order_once rs h.1 apart.1 in
      added (Pairs (λ (x y : Item). ¬ IsSameCall x.call y.call)) r h.0.settlement (order rs h.1) rest
      (λ sight. pairs_insert (λ (x y : Item). ¬ IsSameCall x.call y.call) (λ x y other same. other (same_back y.call x.call same)) (seen_item r sight.seen) (order rs h.1) (order_apart (answered_call r) sight.none rs h.1 apart.0) rest)

  added_still : (c : Call) (r : Receipt) (how : IsSettled r) (xs : List Item) → Has c xs → Has c (add r how xs)
  added_still c r how xs has = added (Has c) r how xs has (λ sight. has_still c (seen_item r sight.seen) xs has)

  order_has_changes : (c : Call) → Has c all_changes → (rs : List Receipt) (h : Each IsReady rs) → Has c (order rs h)
  order_has_changes c has [] h = has
  order_has_changes c has (r ∷ rs) h = added_still c r h.0.settlement (order rs h.1) (order_has_changes c has rs h.1)

  added_itself : (r : Receipt) (how : IsSettled r) (rs : List Receipt) (h : Each IsReady rs) → r.reply ≢ Exhausted → Has (answered_call r) (add r how (order rs h))
  added_itself r (inl exhausted) rs h effective = absurd (effective exhausted)
  added_itself r (inr (inl changed)) rs h effective = order_has_changes (answered_call r) changed rs h
  added_itself r (inr (inr sight)) rs h effective = has_inserted (seen_item r sight.seen) (order rs h)

  abbrev IsIn : List Item → Receipt → Type 0
  IsIn xs r = r.reply ≢ Exhausted → Has (answered_call r) xs

  order_whole : (rs : List Receipt) (h : Each IsReady rs) → Each (IsIn (order rs h)) rs
  order_whole [] h = tt
  order_whole (r ∷ rs) h = (
    added_itself r h.0.settlement rs h.1,
    each_weaker (IsIn (order rs h.1)) (IsIn (order (r ∷ rs) h)) (λ s is_in effective. added_still (answered_call s) r h.0.settlement (order rs h.1) (is_in effective)) rs (order_whole rs h.1),
  )

  all_ready : Each IsReady report.receipts
  all_ready = each_from_all IsReady report.receipts (SettledCalls.ready object answers files report history count_at is placed)

  abbrev items : List Item
  items = order report.receipts all_ready

  abbrev InOrder : Receipt → Type 0
  InOrder r = r.reply ≢ Exhausted → Contains (calls_in items) (answered_call r)

  whole : All InOrder report.receipts
  whole = all_from_each InOrder report.receipts
      (each_weaker (IsIn items) InOrder (λ r is_in effective. contains_from_has (answered_call r) items (is_in effective)) report.receipts (order_whole report.receipts all_ready))

  pub placed_is_linearizable : IsLinearizable object report
  placed_is_linearizable =
      let told = order_items report.receipts all_ready in
      record {
        order = calls_in items;
        linearization = record {
          arrangement = record {
            known = all_calls (Contains (calls_of report)) items (each_weaker (IsItem object history count_at report) (λ (x : Item). Contains (calls_of report) x.call) (λ x item. item.known) items told);
            effective = all_calls (λ c. ¬ WasExhausted c) items (each_weaker (IsItem object history count_at report) (λ (x : Item). ¬ WasExhausted x.call) (λ x item. item.effective) items told);
            once = all_pairs_of_calls (λ c d. ¬ IsSameCall c d) items (order_once report.receipts all_ready (pairs_from_all (λ (r s : Receipt). ¬ IsSameCall (answered_call r) (answered_call s)) report.receipts (SettledCalls.receipts_once object answers files report history count_at is placed)));
            whole = whole;
          };
          legal = legal object history count_at report 0 items (order_fits report.receipts all_ready);
          ticks = all_pairs_of_calls (λ c d. ¬ EndedBefore d c) items
              (pairs_weaker (IsItem object history count_at report) Before (λ (x y : Item). ¬ EndedBefore y.call x.call) (keeps object history count_at report placed.rising) items told (order_sorted report.receipts all_ready));
        };
      }
