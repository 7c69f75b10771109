-- The last handle that took in the others is whole, and has the lines of all.
use Rattle.std.proofs.Common.{arith, ◌≡◌, ◌≢◌, ◌∙◌, refl, sym, subst, ap, ℕ, zero, suc, ◌+◌, ◌<◌, List, [], ◌∷◌, ◌++◌, length, get_or, map}
use Rattle.std.specs.List.{range_with_len}
use Rattle.std.proofs.lemmas.List.FromFn.{get_or-map-range_with_len, length-map-range_with_len}
use mathlib.Core.Option.{some}
use lib.ListN.{get_elem?}
use Rattle.lin_report.specs.declared.calls.Op.{Op}
use Rattle.lin_report.specs.declared.calls.Receipt.{Receipt}
use Rattle.fast_slow_engine.specs.declared.setup.Setup.{Setup}
use Rattle.move_orders.specs.SeatLines.{ops_of}
use Rattle.shared_memory.specs.declared.view.View.{View}
use Rattle.shared_memory.specs.declared.view.Gathered.{Gathered}
use Rattle.shared_memory.specs.Views.{Face, Memory}
use Rattle.shared_memory.specs.Closing.{IsWhole, lines_among, lines_in}
use Rattle.handles.specs.Closing.{all_lines, files_in, lines_down_in}
use Rattle.handles.specs.Handles.{files_of, lines_of_all, taken_in}
use Rattle.handles.specs.Opening.{AreAllHandles}
use Rattle.handles.proofs.Rows.{Row, Stands, down, found, nil_right, root_first, row, seats_down, seats_in, setup_down, stands, there}

same_some : {A : Type 0} (x y : A) → some x ≡ some y → x ≡ y
same_some x y e = cc

-- the lines of the first seats, so many, from the last of them to the first
abbrev each_down : (ℕ → List Receipt) → ℕ → List Receipt
each_down f zero = []
each_down f (suc n) = f n ++ each_down f n

assoc : (xs ys zs : List Receipt) → (xs ++ ys) ++ zs ≡ xs ++ (ys ++ zs)
assoc [] ys zs = refl
assoc (x ∷ xs) ys zs = ap (λ l. x ∷ l) (assoc xs ys zs)

first_last : (f : ℕ → List Receipt) (n : ℕ) → each_down f (suc n) ≡ each_down (λ i. f (suc i)) n ++ f 0
first_last f zero = nil_right (f 0)
first_last f (suc n) = ap (λ l. f (suc n) ++ l) (first_last f n) ∙ sym (assoc (f (suc n)) (each_down (λ i. f (suc i)) n) (f 0))

same_lists : {A : Type 0} (xs ys : List A) → length xs ≡ length ys → ((i : ℕ) (d : A) → i < length xs → get_or xs i d ≡ get_or ys i d) → xs ≡ ys
same_lists [] [] count each = refl
same_lists [] (y ∷ ys) count each = absurd (omega (arith, count))
same_lists (x ∷ xs) [] count each = absurd (omega (arith, count))
same_lists {A} (x ∷ xs) (y ∷ ys) count each =
    ap (λ (z : A). z ∷ xs) (each 0 x (omega arith)) ∙ ap (λ (l : List A). y ∷ l) (same_lists xs ys (omega (arith, count)) (λ i d low. each (suc i) d (omega (arith, low))))

module _ {C S W : Type 0} where
  get_map : {B : Type 0} (f : Face C S W → B) (hs : List (Face C S W)) (i : ℕ) (d : B) (e : Face C S W) → i < length hs → get_or (map f hs) i d ≡ f (get_or hs i e)
  get_map f [] i d e low = absurd (omega (arith, low))
  get_map f (h ∷ hs) zero d e low = refl
  get_map f (h ∷ hs) (suc i) d e low = get_map f hs i d e (omega (arith, low))

  length_map : {B : Type 0} (f : Face C S W → B) (hs : List (Face C S W)) → length (map f hs) ≡ length hs
  length_map f [] = refl
  length_map f (h ∷ hs) = ap suc (length_map f hs)

  lines_up : (hs : List (Face C S W)) (d : Face C S W) → each_down (λ i. (get_or hs i d).view.receipts) (length hs) ≡ lines_of_all hs
  lines_up [] d = refl
  lines_up (h ∷ hs) d = first_last (λ i. (get_or (h ∷ hs) i d).view.receipts) (length hs) ∙ ap (λ l. l ++ h.view.receipts) (lines_up hs d)

  same_down : (v : View C S W) (n : ℕ) (f : ℕ → List Receipt) → ((seat : ℕ) → seat < n → lines_in v seat ≡ f seat) → lines_down_in v n ≡ each_down f n
  same_down v zero f each = refl
  same_down v (suc n) f each = ap (λ l. l ++ lines_down_in v n) (each n (omega arith)) ∙ ap (λ l. f n ++ l) (same_down v n f (λ seat low. each seat (omega (arith, low))))

  -- what the last handle knows, once it has taken in the others
  pub record Has (memory : Memory) (handles : List (Face C S W)) (v : View C S W) : Type 0 where
    pub whole : IsWhole v
    pub run : v.machine.setup ≡ memory.setup
    pub files : files_in v ≡ files_of handles
    pub lines : all_lines v ≡ lines_of_all handles

  lines_there : (memory : Memory) (h : Face C S W) (hs : List (Face C S W)) → Row memory.setup 0 (h ∷ hs) → (j : ℕ) (d : Face C S W) → j < length (h ∷ hs) → lines_in (taken_in (h ∷ hs)) j ≡ (get_or (h ∷ hs) j d).view.receipts
  lines_there memory h hs r j d low =
      ap (λ l. lines_among l j) (seats_down memory.setup 0 h hs r ∙ sym (nil_right (down (h ∷ hs))))
      ∙ ap (λ (n : ℕ). lines_among (down (h ∷ hs) ++ []) n) (let z : j ≡ 0 + j = omega arith in z)
      ∙ found memory.setup 0 (h ∷ hs) [] j d r low

  seat_there : (v : View C S W) (seat i : ℕ) (g : Gathered) → seat ≢ v.machine.seat → get_elem? (seats_in v) i ≡ some g → g.seat ≡ seat → (k : ℕ) × (x : Gathered) × (get_elem? v.gathered k ≡ some x) × (x.seat ≡ seat)
  seat_there v seat zero g other at is = absurd (other (sym (ap (λ (x : Gathered). x.seat) (same_some _ _ at) ∙ is)))
  seat_there v seat (suc i) g other at is = (i, g, at, is)

  has_row : (memory : Memory) (h : Face C S W) (hs : List (Face C S W)) → length (h ∷ hs) ≡ memory.setup.seats → Row memory.setup 0 (h ∷ hs) → Has memory (h ∷ hs) (taken_in (h ∷ hs))
  has_row memory h hs count r =
      let v = taken_in (h ∷ hs) in
      let run : v.machine.setup ≡ memory.setup = setup_down memory.setup 0 h hs r in
      let seats : v.machine.setup.seats ≡ length (h ∷ hs) = ap (λ z. z.seats) run ∙ sym count in
      let root = root_first memory.setup h hs r in
      record {
        whole = record {
          root = root.0;
          each = λ seat low other.
              let made = root.1 in
              let t = there memory.setup 0 (h ∷ hs) [] seat r (omega (arith, low, made, count)) in
              seat_there v seat t.0 t.1 other (ap (λ l. get_elem? l t.0) (seats_down memory.setup 0 h hs r ∙ sym (nil_right (down (h ∷ hs)))) ∙ t.2) (let e = t.3 in omega (arith, e));
        };
        run = run;
        files = ap (λ (n : ℕ). map (λ seat. ops_of (lines_in v seat)) (range_with_len 0 n)) seats
            ∙ same_lists (map (λ seat. ops_of (lines_in v seat)) (range_with_len 0 (length (h ∷ hs)))) (files_of (h ∷ hs))
            (length-map-range_with_len (λ seat. ops_of (lines_in v seat)) 0 (length (h ∷ hs)) ∙ sym (length_map (λ x. ops_of x.view.receipts) (h ∷ hs)))
            (λ i d low.
            let inside : i < length (h ∷ hs) = (let e = length-map-range_with_len (λ seat. ops_of (lines_in v seat)) 0 (length (h ∷ hs)) in omega (arith, low, e)) in
            get_or-map-range_with_len (λ k. ops_of (lines_in v k)) 0 (length (h ∷ hs)) i i d inside (omega arith)
            ∙ ap ops_of (lines_there memory h hs r i h inside)
            ∙ sym (get_map (λ x. ops_of x.view.receipts) (h ∷ hs) i d h inside));
        lines = ap (λ (n : ℕ). lines_down_in v n) seats
            ∙ same_down v (length (h ∷ hs)) (λ i. (get_or (h ∷ hs) i h).view.receipts) (λ seat low. lines_there memory h hs r seat h low)
            ∙ lines_up (h ∷ hs) h;
      }

  pub has_all : (memory : Memory) (handles : List (Face C S W)) → AreAllHandles memory handles → Has memory handles (taken_in handles)
  has_all memory [] all = absurd (let none = all.count in let some = memory.setup.some_seat in omega (arith, none, some))
  has_all memory (h ∷ hs) all =
      has_row memory h hs all.count (row memory.setup 0 (h ∷ hs) (λ j d low. subst (λ (n : ℕ). Stands memory.setup n (get_or (h ∷ hs) j d)) (let z : j ≡ 0 + j = omega arith in z) (stands memory j (get_or (h ∷ hs) j d) (all.each j d low))))

  -- what is told of that handle is told of all
  pub told : (memory : Memory) (handles : List (Face C S W)) (v : View C S W) (P : Setup → List (List Op) → List Receipt → Type 0) → v ≡ taken_in handles → AreAllHandles memory handles → P v.machine.setup (files_in v) (all_lines v) → P memory.setup (files_of handles) (lines_of_all handles)
  told memory handles v P is all holds =
      let has = has_all memory handles all in
      let w = taken_in handles in
      let there : P w.machine.setup (files_in w) (all_lines w) = subst (λ (x : View C S W). P x.machine.setup (files_in x) (all_lines x)) is holds in
      subst (λ (z : Setup). P z (files_of handles) (lines_of_all handles)) has.run
      (subst (λ (l : List Receipt). P w.machine.setup (files_of handles) l) has.lines
      (subst (λ (f : List (List Op)). P w.machine.setup f (all_lines w)) has.files there))
