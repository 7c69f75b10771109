-- The calls that made the changes, one behind the other, and those that observed among them.
use Rattle.std.proofs.Common.{◌≡◌, ◌≢◌, ℕ, zero, suc, ◌<◌, ◌≤◌, List, [], ◌∷◌, map, take, length, slice_get, Option, Some, None, IfSome, Contains, sym, ap, subst, ◌∙◌, ◌⊎◌, inl, inr, arith, rules}
use Rattle.std.specs.Prelude.{IsSomeAnd}
use Rattle.lin_report.specs.declared.calls.Reply.{Reply}
use Rattle.lin_report.specs.declared.calls.Reply.TheVariants.{Exhausted}
use Rattle.lin_report.specs.Object.{Object, held_after}
use Rattle.lin_report.specs.Calls.{Report, calls_of, EndedBefore}
use Rattle.lin_report.specs.Linearizable.{Answers, IsExhausted, WasExhausted, IsLegalFrom}
use Rattle.placing_law.specs.Placing.{ObjectChange, held_at}
use Rattle.placing_law.proofs.Items.{Item, Before, in_order, insert, choice, calls_in}

some_equal : {X : Type 0} (x y : X) → Some x ≡ Some y → x ≡ y
some_equal x y same = search rules

pub held_next : (object : Object) (held : object.Held) (history : List ObjectChange) (q : ℕ) (entry : ObjectChange) → slice_get history q ≡ Some entry
    → held_after object held (map (λ (change : ObjectChange). change.op) (take (suc q) history))
    ≡ (object.apply entry.op (held_after object held (map (λ (change : ObjectChange). change.op) (take q history)))).0
held_next object held [] q entry is = absurd cc
held_next object held (change ∷ history) zero entry is = ap (λ (c : ObjectChange). (object.apply c.op held).0) (some_equal change entry is)
held_next object held (change ∷ history) (suc q) entry is = held_next object (object.apply change.op held).0 history q entry is

pub not_exhausted : (answer : Option (Reply × ℕ)) (reply : Reply) → Answers answer reply → reply ≢ Exhausted → ¬ IsExhausted answer
not_exhausted None reply is other = λ h. absurd h
not_exhausted (Some answer) reply is other = λ h. other (sym is ∙ h)

module _ (object : Object) (history : List ObjectChange) (count_at : ℕ → ℕ) (report : Report) where
  -- what is told of each item
  pub record IsItem (x : Item) : Type 0 where
    pub known : Contains (calls_of report) x.call
    pub effective : ¬ WasExhausted x.call
    pub begun : count_at x.call.begin ≤ x.after
    pub strict : (count_at x.call.begin < x.after) ⊎ (x.call.begin < x.late)
    pub early : x.late ≤ suc x.call.begin
    pub ended : IfSome x.call.answer (λ answer. (x.after ≤ count_at answer.1) × (x.call.begin < answer.1))

  module _ (rising : (t u : ℕ) → t ≤ u → count_at t ≤ count_at u) where
    crossed : (x y : Item) (end : ℕ) → IsItem x → Before x y → y.late ≤ suc y.call.begin → y.after ≤ count_at end → y.call.begin < end → end < x.call.begin → ⊥
    crossed x y end is (inl less) early before forward ended = absurd (omega (arith, is.begun, rising end x.call.begin (omega arith)))
    crossed x y end is (inr same) early before forward ended = elim is.strict [
      | inl less ↦ absurd (omega (arith, less, same.0, rising end x.call.begin (omega arith)))
      | inr late ↦ absurd (omega (arith, late, same.1))
    ]

    keeps_answer : (x y : Item) (answer : Option (Reply × ℕ)) → IsItem x → Before x y → y.late ≤ suc y.call.begin
        → IfSome answer (λ answer. (y.after ≤ count_at answer.1) × (y.call.begin < answer.1)) → ¬ IsSomeAnd answer (λ answer. answer.1 < x.call.begin)
    keeps_answer x y None is first early ended = λ h. absurd h
    keeps_answer x y (Some answer) is first early ended = λ over. crossed x y answer.1 is first early ended.0 ended.1 over

    pub keeps : (x y : Item) → IsItem x → IsItem y → Before x y → ¬ EndedBefore y.call x.call
    keeps x y is then first = keeps_answer x y y.call.answer is first then.early then.ended

  -- made behind so many changes, the call is answered as the object answers, and there are as many as the item
  -- says afterwards
  pub record IsStep (q : ℕ) (x : Item) : Type 0 where
    pub answers : Answers x.call.answer (object.apply x.call.op (held_at object history q)).1
    pub leaves : (object.apply x.call.op (held_at object history q)).0 ≡ held_at object history x.after
    pub near : (x.after ≡ q) ⊎ ((x.after ≡ suc q) × (x.late ≡ 0))

  -- from so many changes on, all others are made in turn
  abbrev pub Fits : ℕ → List Item → Type 0
  Fits q [] = q ≡ length history
  Fits q (x ∷ xs) = IsStep q x × Fits x.after xs

  pub legal : (q : ℕ) (xs : List Item) → Fits q xs → IsLegalFrom object (held_at object history q) (calls_in xs)
  legal q [] fits = tt
  legal q (x ∷ xs) fits = (fits.0.answers, subst (λ h. IsLegalFrom object h (calls_in xs)) (sym fits.0.leaves) (legal x.after xs fits.1))

  -- an item that comes before a step has its place there
  stands : (q : ℕ) (x item : Item) → (x.after ≡ q) ⊎ ((x.after ≡ suc q) × (x.late ≡ 0)) → Before item x → q ≤ item.after → 0 < item.late → item.after ≡ q
  stands q x item (inl same) (inl less) from late = absurd (omega arith)
  stands q x item (inl same) (inr even) from late = even.0 ∙ same
  stands q x item (inr next) (inl less) from late = omega (arith, next.0)
  stands q x item (inr next) (inr even) from late = absurd (omega (arith, next.1, even.1))

  within_of : (x item : Item) → Before x item → x.after ≤ item.after
  within_of x item (inl less) = omega arith
  within_of x item (inr even) = omega (arith, even.0)

  fits_here : (q : ℕ) (item : Item) (xs : List Item) → item.after ≡ q → IsStep item.after item → Fits q xs → Fits q (item ∷ xs)
  fits_here q item xs same is fits = (subst (λ n. IsStep n item) same is, subst (λ n. Fits n xs) (sym same) fits)

  pub fits_insert : (q : ℕ) (item : Item) (xs : List Item) → IsStep item.after item → 0 < item.late → item.after ≤ length history → q ≤ item.after → Fits q xs → Fits q (insert item xs)
  fits_insert q item [] is late within from fits = fits_here q item [] (omega (arith, fits)) is fits
  fits_insert q item (x ∷ xs) is late within from fits =
      choice (Fits q) (in_order x item) (x ∷ insert item xs) (item ∷ x ∷ xs)
      (λ first. (fits.0, fits_insert x.after item xs is late within (within_of x item first) fits.1))
      (λ last. fits_here q item (x ∷ xs) (stands q x item fits.0.near last from late) is fits)
