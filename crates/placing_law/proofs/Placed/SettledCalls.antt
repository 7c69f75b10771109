-- Each answered call of a placed report is exhausted, made a change, or observed and made none.
use Rattle.std.proofs.Common.{◌≡◌, ◌≢◌, ℕ, suc, ◌<◌, List, [], ◌∷◌, length, get_or, All, AllPairs, Contains, refl, sym, ap, subst, ◌∙◌, ◌⊎◌, inl, inr, arith}
use Rattle.std.proofs.lemmas.Bool.{cases_eq, cases_order}
use Rattle.std.proofs.lemmas.List.{get_or_default}
use Rattle.std.proofs.lemmas.List.Elements.{All-nil, All-cons, Contains-get_or}
use Rattle.lin_report.specs.declared.calls.Op.{Op}
use Rattle.lin_report.specs.declared.calls.Reply.TheVariants.{Exhausted}
use Rattle.lin_report.specs.declared.calls.Receipt.{Receipt}
use Rattle.lin_report.specs.Object.{Object}
use Rattle.lin_report.specs.Calls.{Call, Report, answered_call, calls_of, IsSameCall}
use Rattle.lin_report.specs.Report.{IsReport}
use Rattle.lin_report.proofs.Merging.{call_at_answered, count_of_calls}
use Rattle.placing_law.specs.Placing.{ObjectChange, change_of, IsChangeOf, HasObserved, IsAccounted, IsPlaced}
use Rattle.placing_law.proofs.Items.{Item, Has}
use Rattle.placing_law.proofs.Placed.ChangeItems

-- two elements that no two places have are one
one_place : {X : Type 0} (R : X → X → Type 0) (xs : List X) → AllPairs (λ x y. ¬ R x y) xs → ((x y : X) → R x y → R y x) → (x y : X) → Contains xs x → Contains xs y → R x y → x ≡ y
one_place R xs once both x y one two same =
    let within = one.1 in
    let inside = two.1 in
    let first : get_or xs one.0 y ≡ x = get_or_default xs one.0 y x within ∙ one.2 in
    elim (cases_order one.0 two.0) [
      | inl even ↦ sym first ∙ ap (λ k. get_or xs k y) even ∙ two.2
      | inr (inl less) ↦ absurd (once one.0 two.0 y less inside (subst (λ z. R z (get_or xs two.0 y)) (sym first) (subst (R x) (sym two.2) same)))
      | inr (inr more) ↦ absurd (once two.0 one.0 y more within (subst (R (get_or xs two.0 y)) (sym first) (subst (λ z. R z x) (sym two.2) (both x y same))))
    ]

-- one of these changes is of this call
record HasChangeOf (seat number : ℕ) (changes : List ObjectChange) : Type 0 where
  change : ObjectChange
  among : Contains changes change
  of : IsChangeOf change seat number

is_of_or_not : (change : ObjectChange) (seat number : ℕ) → IsChangeOf change seat number ⊎ (¬ IsChangeOf change seat number)
is_of_or_not change seat number = elim (cases_eq change.seat seat) [
  | inl seats ↦ elim (cases_eq change.number number) [
    | inl numbers ↦ inl (seats, numbers)
    | inr apart ↦ inr (λ of. apart of.1)
  ]
  | inr apart ↦ inr (λ of. apart of.0)
]

change_of_or_none : (seat number : ℕ) (changes : List ObjectChange) → HasChangeOf seat number changes ⊎ All (λ change. ¬ IsChangeOf change seat number) changes
change_of_or_none seat number [] = inr (All-nil (λ change. ¬ IsChangeOf change seat number))
change_of_or_none seat number (change ∷ changes) = elim (is_of_or_not change seat number) [
  | inl of ↦ inl (record { change = change; among = (0, omega arith, refl); of = of })
  | inr not_first ↦ elim (change_of_or_none seat number changes) [
    | inl some ↦ let within = some.among.1 in inl (record { change = some.change; among = (suc some.among.0, omega arith, some.among.2); of = some.of })
    | inr none ↦ inr (All-cons (λ change. ¬ IsChangeOf change seat number) change changes not_first none)
  ]
]

pub same_back : (c d : Call) → IsSameCall c d → IsSameCall d c
same_back c d same = record { seat = sym same.seat; number = sym same.number }

module _ (object : Object) (answers : (op : Op) (held : object.Held) → (object.apply op held).1 ≢ Exhausted) (files : List (List Op)) (report : Report) (history : List ObjectChange) (count_at : ℕ → ℕ) (is : IsReport files report) (placed : IsPlaced object history count_at report) where
  one_call : (c d : Call) → Contains (calls_of report) c → Contains (calls_of report) d → IsSameCall c d → c ≡ d
  one_call = one_place IsSameCall (calls_of report) is.once same_back

  -- of this report
  abbrev all_changes : List Item
  all_changes = ChangeItems.all_changes object answers files report history count_at is placed

  -- a call that observed, and that no change is of
  pub record IsSight (r : Receipt) : Type 0 where
    pub seen : HasObserved object history count_at r
    pub none : All (λ change. ¬ IsChangeOf change r.seat r.number) history

  -- an answered call is exhausted, made a change, or observed and made none
  abbrev pub IsSettled : Receipt → Type 0
  IsSettled r = (r.reply ≡ Exhausted) ⊎ (Has (answered_call r) all_changes ⊎ IsSight r)

  has_changed : (r : Receipt) → Contains (calls_of report) (answered_call r) → (change : ObjectChange) → Contains history change → IsChangeOf change r.seat r.number → Has (answered_call r) all_changes
  has_changed r known change at of =
      let maker = ChangeItems.changes_hold object answers files report history count_at is placed (length history) 0 (ChangeItems.from_none object answers files report history count_at is placed) at.0 (omega arith) at.1 in
      let one : change_of maker.call ≡ change = sym (ChangeItems.change_at object answers files report history count_at is placed at.0 maker.call change maker.change) ∙ at.2 in
      let same : IsSameCall maker.call (answered_call r) = record { seat = ap (λ (z : ObjectChange). z.seat) one ∙ of.0; number = ap (λ (z : ObjectChange). z.number) one ∙ of.1 } in
      subst (λ c. Has c all_changes) (one_call maker.call (answered_call r) maker.known known same) maker.has

  settled_sight : (r : Receipt) → Contains (calls_of report) (answered_call r) → HasObserved object history count_at r → HasChangeOf r.seat r.number history ⊎ All (λ change. ¬ IsChangeOf change r.seat r.number) history → IsSettled r
  settled_sight r known seen (inl some) = inr (inl (has_changed r known some.change some.among some.of))
  settled_sight r known seen (inr none) = inr (inr (record { seen = seen; none = none }))

  settled : (r : Receipt) → Contains (calls_of report) (answered_call r) → IsAccounted object history count_at r → IsSettled r
  settled r known (inl exhausted) = inl exhausted
  settled r known (inr (inl changed)) = inr (inl (has_changed r known (change_of (answered_call r)) changed (refl, refl)))
  settled r known (inr (inr seen)) = settled_sight r known seen (change_of_or_none r.seat r.number history)

  -- an answered call of the report with all that is known of it
  pub record IsReady (r : Receipt) : Type 0 where
    pub settlement : IsSettled r
    pub known : Contains (calls_of report) (answered_call r)
    pub forth : r.begin < r.end

  known_at : (k : ℕ) (d : Receipt) → k < length report.receipts → Contains (calls_of report) (answered_call (get_or report.receipts k d))
  known_at k d within = subst (Contains (calls_of report)) (call_at_answered report k d (answered_call d) within) (Contains-get_or (calls_of report) k (answered_call d) (omega (arith, count_of_calls report)))

  pub ready : All IsReady report.receipts
  ready k d within = record {
    settlement = settled (get_or report.receipts k d) (known_at k d within) (placed.accounted k d within);
    known = known_at k d within;
    forth = is.forward k d within;
  }

  pub receipts_once : AllPairs (λ (r s : Receipt). ¬ IsSameCall (answered_call r) (answered_call s)) report.receipts
  receipts_once i j d before within =
      let e = answered_call d in
      subst (λ (c : Call). ¬ IsSameCall c (answered_call (get_or report.receipts j d))) (call_at_answered report i d e (omega arith))
      (subst (λ (c : Call). ¬ IsSameCall (get_or (calls_of report) i e) c) (call_at_answered report j d e within) (is.once i j e before (omega (arith, count_of_calls report))))
