-- The calls of all threads are those of all handles.
use Rattle.std.proofs.Common.{arith, ◌≡◌, ◌∙◌, refl, sym, ap, ℕ, zero, suc, ◌<◌, List, [], ◌∷◌, length, get_or, map}
use Rattle.std.specs.List.{range_with_len}
use Rattle.std.proofs.lemmas.List.FromFn.{get_or-map-range_with_len, length-map-range_with_len}
use Rattle.move_orders.specs.SeatLines.{ops_of}
use Rattle.shared_memory.specs.Views.{Face}
use Rattle.handles.specs.Handles.{files_of}
use Rattle.thread_tests.specs.InThreads.{calls_of}

same_lists : {A : Type 0} (xs ys : List A) → length xs ≡ length ys → ((i : ℕ) (d : A) → i < length xs → get_or xs i d ≡ get_or ys i d) → xs ≡ ys
same_lists [] [] count each = refl
same_lists [] (y ∷ ys) count each = absurd (omega (arith, count))
same_lists (x ∷ xs) [] count each = absurd (omega (arith, count))
same_lists {A} (x ∷ xs) (y ∷ ys) count each =
    ap (λ (z : A). z ∷ xs) (each 0 x (omega arith)) ∙ ap (λ (l : List A). y ∷ l) (same_lists xs ys (omega (arith, count)) (λ i d low. each (suc i) d (omega (arith, low))))

module _ {C S W : Type 0} where
  get_map : {B : Type 0} (f : Face C S W → B) (hs : List (Face C S W)) (i : ℕ) (d : B) (e : Face C S W) → i < length hs → get_or (map f hs) i d ≡ f (get_or hs i e)
  get_map f [] i d e low = absurd (omega (arith, low))
  get_map f (h ∷ hs) zero d e low = refl
  get_map f (h ∷ hs) (suc i) d e low = get_map f hs i d e (omega (arith, low))

  length_map : {B : Type 0} (f : Face C S W → B) (hs : List (Face C S W)) → length (map f hs) ≡ length hs
  length_map f [] = refl
  length_map f (h ∷ hs) = ap suc (length_map f hs)

  pub all_files : (seats : ℕ) (handles : List (Face C S W)) → length handles ≡ seats → 0 < seats → ((i : ℕ) (d : Face C S W) → i < length handles → ops_of (get_or handles i d).view.receipts ≡ calls_of i) → files_of handles ≡ map calls_of (range_with_len 0 seats)
  all_files seats [] count some each = absurd (omega (arith, count, some))
  all_files seats (h ∷ hs) count some each =
      let many = length_map (λ x. ops_of x.view.receipts) (h ∷ hs) in
      same_lists (files_of (h ∷ hs)) (map calls_of (range_with_len 0 seats)) (many ∙ count ∙ sym (length-map-range_with_len calls_of 0 seats))
      (λ i d low.
      let inside : i < length (h ∷ hs) = omega (arith, low, many) in
      get_map (λ x. ops_of x.view.receipts) (h ∷ hs) i d h inside
      ∙ each i h inside
      ∙ sym (get_or-map-range_with_len calls_of 0 seats i i d (omega (arith, inside, count)) (omega arith)))
