-- What a row of handles is, each of the seat of its place, and what the last one is that took in the others.
use Rattle.std.proofs.Common.{arith, ◌≡◌, ◌∙◌, refl, subst, ap, ℕ, zero, suc, ◌+◌, ◌-◌, ◌<◌, ◌≤◌, true, false, List, [], ◌∷◌, ◌++◌, length, get_or, if◌then◌else◌, eq-eqb, ne_eqb}
use mathlib.Core.Option.{some}
use lib.ListN.{get_elem?}
use Rattle.fast_slow_engine.specs.declared.setup.Setup.{Setup}
use Rattle.shared_memory.specs.declared.view.View.{View}
use Rattle.shared_memory.specs.declared.view.Gathered.{Gathered}
use Rattle.shared_memory.specs.Views.{Face, Memory, new_view}
use Rattle.shared_memory.specs.Closing.{lines_among}
use Rattle.handles.specs.Handles.{taken_in}
use Rattle.handles.specs.Opening.{IsHandleOf, opening_view}

assoc : {A : Type 0} (xs ys zs : List A) → (xs ++ ys) ++ zs ≡ xs ++ (ys ++ zs)
assoc [] ys zs = refl
assoc (x ∷ xs) ys zs = ap (λ l. x ∷ l) (assoc xs ys zs)

pub push_front : {A : Type 0} (xs : List A) (x : A) (ys : List A) → (xs ++ x ∷ []) ++ ys ≡ xs ++ x ∷ ys
push_front xs x ys = assoc xs (x ∷ []) ys

pub nil_right : {A : Type 0} (xs : List A) → xs ++ [] ≡ xs
nil_right [] = refl
nil_right (x ∷ xs) = ap (λ l. x ∷ l) (nil_right xs)

pub middle : {A : Type 0} (xs : List A) (x : A) (ys : List A) (d : A) → get_or (xs ++ x ∷ ys) (length xs) d ≡ x
middle [] x ys d = refl
middle (y ∷ xs) x ys d = middle xs x ys d

some_middle : {A : Type 0} (xs : List A) (x : A) (ys : List A) → get_elem? (xs ++ x ∷ ys) (length xs) ≡ some x
some_middle [] x ys = refl
some_middle (y ∷ xs) x ys = some_middle xs x ys

pub inside : {A : Type 0} (xs : List A) (x : A) (ys : List A) → length xs < length (xs ++ x ∷ ys)
inside [] x ys = omega arith
inside (y ∷ xs) x ys = let h = inside xs x ys in omega (arith, h)

pub opening_next : {C S W : Type 0} (setup : Setup) (seat : ℕ) → 1 ≤ seat → opening_view {C = C} {S = S} {W = W} setup seat ≡ new_view seat setup false
opening_next setup zero low = absurd (omega (arith, low))
opening_next setup (suc seat) low = refl

module _ {C S W : Type 0} where
  -- the view of a seat, which has taken none in
  pub record Stands (setup : Setup) (k : ℕ) (h : Face C S W) : Type 0 where
    pub seat : h.view.machine.seat ≡ k
    pub run : h.view.machine.setup ≡ setup
    pub none : h.view.gathered ≡ []
    pub first : k ≡ 0 → (h.view.root ≡ true) × (h.view.made ≡ setup.seats - 1)
    pub other : 1 ≤ k → h.view.root ≡ false

  pub stands : (memory : Memory) (k : ℕ) (h : Face C S W) → IsHandleOf memory k h → Stands memory.setup k h
  stands memory zero h is = record {
    seat = ap (λ (v : View C S W). v.machine.seat) is.opened;
    run = ap (λ (v : View C S W). v.machine.setup) is.opened;
    none = ap (λ (v : View C S W). v.gathered) is.opened;
    first = λ e. (ap (λ (v : View C S W). v.root) is.opened, ap (λ (v : View C S W). v.made) is.opened);
    other = λ low. absurd (omega (arith, low));
  }
  stands memory (suc k) h is = record {
    seat = ap (λ (v : View C S W). v.machine.seat) is.opened;
    run = ap (λ (v : View C S W). v.machine.setup) is.opened;
    none = ap (λ (v : View C S W). v.gathered) is.opened;
    first = λ e. absurd (omega (arith, e));
    other = λ low. ap (λ (v : View C S W). v.root) is.opened;
  }

  -- handles of the seats from k on
  abbrev pub Row : Setup → ℕ → List (Face C S W) → Type 0
  Row setup k [] = Unit {0}
  Row setup k (h ∷ hs) = Stands setup k h × Row setup (k + 1) hs

  pub row : (setup : Setup) (k : ℕ) (hs : List (Face C S W)) → ((j : ℕ) (d : Face C S W) → j < length hs → Stands setup (k + j) (get_or hs j d)) → Row setup k hs
  row setup k [] each = tt
  row setup k (h ∷ hs) each = (
    subst (λ (n : ℕ). Stands setup n h) (omega arith) (each 0 h (omega arith)),
    row setup (k + 1) hs (λ j d low. subst (λ (n : ℕ). Stands setup n (get_or hs j d)) (omega arith) (each (suc j) d (omega (arith, low)))),
  )

  abbrev pub own : Face C S W → Gathered
  own h = record { seat = h.view.machine.seat; receipts = h.view.receipts }

  -- the seats with their lines, from the last one to the first
  abbrev pub down : List (Face C S W) → List Gathered
  down [] = []
  down (h ∷ hs) = down hs ++ own h ∷ []

  abbrev pub seats_in : View C S W → List Gathered
  seats_in v = record { seat = v.machine.seat; receipts = v.receipts } ∷ v.gathered

  pub seats_down : (setup : Setup) (k : ℕ) (h : Face C S W) (hs : List (Face C S W)) → Row setup k (h ∷ hs) → seats_in (taken_in (h ∷ hs)) ≡ down (h ∷ hs)
  seats_down setup k h [] r = ap (λ l. own h ∷ l) r.0.none
  seats_down setup k h (n ∷ hs) r =
      ap (λ l. seats_in (taken_in (n ∷ hs)) ++ own h ∷ l) r.0.none
      ∙ ap (λ l. l ++ own h ∷ []) (seats_down setup (k + 1) n hs r.1)

  pub setup_down : (setup : Setup) (k : ℕ) (h : Face C S W) (hs : List (Face C S W)) → Row setup k (h ∷ hs) → (taken_in (h ∷ hs)).machine.setup ≡ setup
  setup_down setup k h [] r = r.0.run
  setup_down setup k h (n ∷ hs) r = setup_down setup (k + 1) n hs r.1

  root_later : (setup : Setup) (k : ℕ) (h : Face C S W) (hs : List (Face C S W)) → 1 ≤ k → Row setup k (h ∷ hs) → (taken_in (h ∷ hs)).root ≡ false
  root_later setup k h [] low r = r.0.other low
  root_later setup k h (n ∷ hs) low r =
      ap (λ b. if b then true else h.view.root) (root_later setup (k + 1) n hs (omega (arith, low)) r.1) ∙ r.0.other low

  pub root_first : (setup : Setup) (h : Face C S W) (hs : List (Face C S W)) → Row setup 0 (h ∷ hs) → ((taken_in (h ∷ hs)).root ≡ true) × ((taken_in (h ∷ hs)).made ≡ setup.seats - 1)
  root_first setup h [] r = r.0.first refl
  root_first setup h (n ∷ hs) r =
      let later = root_later setup (0 + 1) n hs (omega arith) r.1 in (
        ap (λ b. if b then true else h.view.root) later ∙ (r.0.first refl).0,
        ap (λ b. if b then (taken_in (n ∷ hs)).made else h.view.made) later ∙ (r.0.first refl).1,
      )

  -- of a seat below the row
  below : (setup : Setup) (k : ℕ) (hs : List (Face C S W)) (rest : List Gathered) (seat : ℕ) → Row setup k hs → seat < k → lines_among (down hs ++ rest) seat ≡ lines_among rest seat
  below setup k [] rest seat r low = refl
  below setup k (h ∷ hs) rest seat r low =
      let is = r.0.seat in
      ap (λ l. lines_among l seat) (push_front (down hs) (own h) rest)
      ∙ below setup (k + 1) hs (own h ∷ rest) seat r.1 (omega (arith, low))
      ∙ ap (λ b. if b then h.view.receipts else lines_among rest seat) (ne_eqb h.view.machine.seat seat (λ e. omega (arith, e, is, low)))

  -- of a seat of the row
  pub found : (setup : Setup) (k : ℕ) (hs : List (Face C S W)) (rest : List Gathered) (j : ℕ) (d : Face C S W) → Row setup k hs → j < length hs → lines_among (down hs ++ rest) (k + j) ≡ (get_or hs j d).view.receipts
  found setup k [] rest j d r low = absurd (omega (arith, low))
  found setup k (h ∷ hs) rest zero d r low =
      let is = r.0.seat in
      ap (λ l. lines_among l (k + 0)) (push_front (down hs) (own h) rest)
      ∙ below setup (k + 1) hs (own h ∷ rest) (k + 0) r.1 (omega arith)
      ∙ ap (λ b. if b then h.view.receipts else lines_among rest (k + 0)) (eq-eqb h.view.machine.seat (k + 0) (omega (arith, is)))
  found setup k (h ∷ hs) rest (suc j) d r low =
      ap (λ l. lines_among l (k + suc j)) (push_front (down hs) (own h) rest)
      ∙ ap (λ (n : ℕ). lines_among (down hs ++ own h ∷ rest) n) (let z : k + suc j ≡ k + 1 + j = omega arith in z)
      ∙ found setup (k + 1) hs (own h ∷ rest) j d r.1 (omega (arith, low))

  pub there : (setup : Setup) (k : ℕ) (hs : List (Face C S W)) (rest : List Gathered) (j : ℕ) → Row setup k hs → j < length hs → (i : ℕ) × (g : Gathered) × (get_elem? (down hs ++ rest) i ≡ some g) × (g.seat ≡ k + j)
  there setup k [] rest j r low = absurd (omega (arith, low))
  there setup k (h ∷ hs) rest zero r low =
      let is = r.0.seat in (
        length (down hs),
        own h,
        ap (λ l. get_elem? l (length (down hs))) (push_front (down hs) (own h) rest) ∙ some_middle (down hs) (own h) rest,
        omega (arith, is),
      )
  there setup k (h ∷ hs) rest (suc j) r low =
      let t = there setup (k + 1) hs (own h ∷ rest) j r.1 (omega (arith, low)) in (
        t.0,
        t.1,
        ap (λ l. get_elem? l t.0) (push_front (down hs) (own h) rest) ∙ t.2,
        (let e = t.3 in omega (arith, e)),
      )
