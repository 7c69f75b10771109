-- Calls with their places, put in order.
use Rattle.std.proofs.Common.{◌≡◌, ℕ, suc, ◌<◌, ◌≤◌, List, [], ◌∷◌, map, All, AllPairs, Contains, refl, ◌∙◌, ◌⊎◌, inl, inr, arith}
use Rattle.std.proofs.lemmas.Bool.{cases_lt}
use Rattle.std.proofs.lemmas.List.Elements.{All-nil, All-cons, All-head, All-tail}
use Rattle.std.proofs.lemmas.List.Kept.{AllPairs-cons}
use Rattle.lin_report.specs.Calls.{Call}

-- a call, how many changes there are once it is made, and which comes first among those of one count: the
-- change itself by 0, the others by their begin
pub record Item : Type 0 where
  pub call : Call
  pub after : ℕ
  pub late : ℕ

-- x comes no later than y
abbrev pub Before : Item → Item → Type 0
Before x y = (x.after < y.after) ⊎ ((x.after ≡ y.after) × (x.late ≤ y.late))

either_first : (x y : Item) → (x.late < y.late) ⊎ (y.late ≤ x.late) → x.after ≤ y.after → y.after ≤ x.after → Before x y ⊎ Before y x
either_first x y (inl less) le ge = inl (inr (omega arith, omega arith))
either_first x y (inr more) le ge = inr (inr (omega arith, more))

pub in_order : (x y : Item) → Before x y ⊎ Before y x
in_order x y = elim (cases_lt x.after y.after) [
  | inl less ↦ inl (inl less)
  | inr ge ↦ elim (cases_lt y.after x.after) [
    | inl more ↦ inr (inl more)
    | inr le ↦ either_first x y (cases_lt x.late y.late) le ge
  ]
]

pub before-trans : (x y z : Item) → Before x y → Before y z → Before x z
before-trans x y z (inl a) (inl b) = inl (omega arith)
before-trans x y z (inl a) (inr b) = inl (omega (arith, b.0))
before-trans x y z (inr a) (inl b) = inl (omega (arith, a.0))
before-trans x y z (inr a) (inr b) = inr (a.0 ∙ b.0, omega (arith, a.1, b.1))

abbrev pub choose : {A B : Type 0} → A ⊎ B → List Item → List Item → List Item
choose (inl a) xs ys = xs
choose (inr b) xs ys = ys

pub choice : {A B : Type 0} (Q : List Item → Type 0) (s : A ⊎ B) (xs ys : List Item) → (A → Q xs) → (B → Q ys) → Q (choose s xs ys)
choice Q (inl a) xs ys left right = left a
choice Q (inr b) xs ys left right = right b

-- an item among others, behind those that come no later
abbrev pub insert : Item → List Item → List Item
insert item [] = item ∷ []
insert item (x ∷ xs) = choose (in_order x item) (x ∷ insert item xs) (item ∷ x ∷ xs)

-- P holds of each element, and R of each element and each later one, by recursion
abbrev pub Each : {X : Type 0} → (X → Type 0) → List X → Type 0
Each P [] = Unit {0}
Each P (x ∷ xs) = P x × Each P xs

abbrev pub Pairs : {X : Type 0} → (X → X → Type 0) → List X → Type 0
Pairs R [] = Unit {0}
Pairs R (x ∷ xs) = Each (R x) xs × Pairs R xs

pub each_weaker : {X : Type 0} (P Q : X → Type 0) → ((x : X) → P x → Q x) → (xs : List X) → Each P xs → Each Q xs
each_weaker P Q f [] h = tt
each_weaker P Q f (x ∷ xs) h = (f x h.0, each_weaker P Q f xs h.1)

pub each_from_all : {X : Type 0} (P : X → Type 0) (xs : List X) → All P xs → Each P xs
each_from_all P [] h = tt
each_from_all P (x ∷ xs) h = (All-head P x xs h, each_from_all P xs (All-tail P x xs h))

pub all_from_each : {X : Type 0} (P : X → Type 0) (xs : List X) → Each P xs → All P xs
all_from_each P [] h = All-nil P
all_from_each P (x ∷ xs) h = All-cons P x xs h.0 (all_from_each P xs h.1)

pub pairs_from_all : {X : Type 0} (R : X → X → Type 0) (xs : List X) → AllPairs R xs → Pairs R xs
pairs_from_all R [] h = tt
pairs_from_all R (x ∷ xs) h = (each_from_all (R x) xs (λ k d lt. h 0 (suc k) d (omega arith) (omega arith)), pairs_from_all R xs (λ i j d lt within. h (suc i) (suc j) d (omega arith) (omega arith)))

-- both hold of each element
pub each_both : {X : Type 0} (P Q : X → Type 0) (xs : List X) → Each P xs → Each Q xs → Each (λ x. P x × Q x) xs
each_both P Q [] h k = tt
each_both P Q (x ∷ xs) h k = ((h.0, k.0), each_both P Q xs h.1 k.1)

-- the calls of items
abbrev pub calls_in : List Item → List Call
calls_in items = map (λ (x : Item). x.call) items

pub all_calls : (P : Call → Type 0) (xs : List Item) → Each (λ (x : Item). P x.call) xs → All P (calls_in xs)
all_calls P [] h = All-nil P
all_calls P (x ∷ xs) h = All-cons P x.call (calls_in xs) h.0 (all_calls P xs h.1)

pub all_pairs_of_calls : (R : Call → Call → Type 0) (xs : List Item) → Pairs (λ (x y : Item). R x.call y.call) xs → AllPairs R (calls_in xs)
all_pairs_of_calls R [] h = λ i j d before within. absurd (omega arith)
all_pairs_of_calls R (x ∷ xs) h = AllPairs-cons R x.call (calls_in xs) (all_calls (R x.call) xs h.0) (all_pairs_of_calls R xs h.1)

-- what holds of two items and of their order
pub pairs_weaker : (P : Item → Type 0) (R S : Item → Item → Type 0) → ((x y : Item) → P x → P y → R x y → S x y) → (xs : List Item) → Each P xs → Pairs R xs → Pairs S xs
pairs_weaker P R S f [] p h = tt
pairs_weaker P R S f (x ∷ xs) p h =
    (each_weaker (λ y. P y × R x y) (S x) (λ y both. f x y p.0 both.0 both.1) xs (each_both P (R x) xs p.1 h.0), pairs_weaker P R S f xs p.1 h.1)

module _ (P : Item → Type 0) where
  pub each_insert : (item : Item) (xs : List Item) → P item → Each P xs → Each P (insert item xs)
  each_insert item [] p h = (p, tt)
  each_insert item (x ∷ xs) p h = choice (Each P) (in_order x item) (x ∷ insert item xs) (item ∷ x ∷ xs) (λ first. (h.0, each_insert item xs p h.1)) (λ last. (p, h))

pub sorted_insert : (item : Item) (xs : List Item) → Pairs Before xs → Pairs Before (insert item xs)
sorted_insert item [] h = (tt, tt)
sorted_insert item (x ∷ xs) h =
    choice (Pairs Before) (in_order x item) (x ∷ insert item xs) (item ∷ x ∷ xs)
    (λ first. (each_insert (Before x) item xs first h.0, sorted_insert item xs h.1))
    (λ last. ((last, each_weaker (Before x) (Before item) (λ y. before-trans item x y last) xs h.0), h))

module _ (R : Item → Item → Type 0) (both : (x y : Item) → R x y → R y x) where
  pub pairs_insert : (item : Item) (xs : List Item) → Each (R item) xs → Pairs R xs → Pairs R (insert item xs)
  pairs_insert item [] p h = (tt, tt)
  pairs_insert item (x ∷ xs) p h =
      choice (Pairs R) (in_order x item) (x ∷ insert item xs) (item ∷ x ∷ xs)
      (λ first. (each_insert (R x) item xs (both item x p.0) h.0, pairs_insert item xs p.1 h.1))
      (λ last. (p, h))

-- the call is that of one of the items
abbrev pub Has : Call → List Item → Type 0
Has c [] = ⊥
Has c (x ∷ xs) = (x.call ≡ c) ⊎ Has c xs

pub has_inserted : (item : Item) (xs : List Item) → Has item.call (insert item xs)
has_inserted item [] = inl refl
has_inserted item (x ∷ xs) = choice (Has item.call) (in_order x item) (x ∷ insert item xs) (item ∷ x ∷ xs) (λ first. inr (has_inserted item xs)) (λ last. inl refl)

has_rest : (c : Call) (item x : Item) (xs : List Item) → (Has c xs → Has c (insert item xs)) → Has c (x ∷ xs) → Has c (x ∷ insert item xs)
has_rest c item x xs rest (inl is) = inl is
has_rest c item x xs rest (inr has) = inr (rest has)

pub has_still : (c : Call) (item : Item) (xs : List Item) → Has c xs → Has c (insert item xs)
has_still c item [] h = absurd h
has_still c item (x ∷ xs) h = choice (Has c) (in_order x item) (x ∷ insert item xs) (item ∷ x ∷ xs) (λ first. has_rest c item x xs (has_still c item xs) h) (λ last. inr h)

pub contains_from_has : (c : Call) (xs : List Item) → Has c xs → Contains (calls_in xs) c
contains_from_has c [] h = absurd h
contains_from_has c (x ∷ xs) (inl is) = (0, omega arith, is)
contains_from_has c (x ∷ xs) (inr has) = let at = contains_from_has c xs has in let within = at.1 in (suc at.0, omega arith, at.2)
