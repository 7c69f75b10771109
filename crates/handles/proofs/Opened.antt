-- Handles as a structure is opened with them, and as threads leave them.
use Rattle.std.proofs.Common.{arith, ◌≡◌, ◌∙◌, refl, sym, subst, ap, ℕ, zero, suc, ◌+◌, ◌-◌, ◌<◌, List, length, get_or}
use Rattle.std.specs.Prelude.{All}
use Rattle.fast_slow_engine.specs.declared.setup.Setup.{Setup}
use Rattle.shared_memory.specs.declared.view.View.{View}
use Rattle.shared_memory.specs.Views.{Face, Memory}
use Rattle.handles.specs.Opening.{AreAllHandles, IsHandleOf, IsNewHandle, IsSameHandle, before_calls, opening_view}

-- what is known of each place of a list, one more being put in front
pub in_front : {A : Type 0} (P : ℕ → A → Type 0) (n : ℕ) (news others : List A) (x : A) → ((d : A) → get_or news 0 d ≡ x) → ((k : ℕ) (d : A) → 0 < k → get_or news k d ≡ get_or others (k - 1) d) → P 0 x → ((j : ℕ) (d : A) → j + 1 < n → P (j + 1) (get_or others j d))
    → (k : ℕ) (d : A) → k < n → P k (get_or news k d)
in_front P n news others x first later one each zero d low = subst (P 0) (sym (first d)) one
in_front P n news others x first later one each (suc j) d low =
    subst (P (suc j)) (sym (later (suc j) d (omega arith)))
    (subst (λ (i : ℕ). P (suc j) (get_or others i d)) (let z : j ≡ suc j - 1 = omega arith in z) (subst (λ (i : ℕ). P i (get_or others j d)) (let z : j + 1 ≡ suc j = omega arith in z) (each j d (omega (arith, low)))))

module _ {C S W : Type 0} where
  unused : (setup : Setup) (seat : ℕ) → before_calls (opening_view {C = C} {S = S} {W = W} setup seat) ≡ opening_view setup seat
  unused setup zero = refl
  unused setup (suc seat) = refl

  new_is : (memory : Memory) (seat : ℕ) (h : Face C S W) → IsNewHandle memory seat h → IsHandleOf memory seat h
  new_is memory seat h is = record { table = is.table; opened = ap (λ (v : View C S W). before_calls v) is.view ∙ unused memory.setup seat }

  pub all_new : (memory : Memory) (setup : Setup) (handles : List (Face C S W)) → memory.setup ≡ setup → length handles ≡ setup.seats → ((seat : ℕ) (d : Face C S W) → seat < setup.seats → IsNewHandle memory seat (get_or handles seat d)) → AreAllHandles memory handles
  all_new memory setup handles run count each = record {
    count = count ∙ ap (λ z. z.seats) (sym run);
    each = λ seat d low. new_is memory seat (get_or handles seat d) (each seat d (omega (arith, low, count)));
  }

  -- of threads that each leave their handle as one of the same seat, all handles come back
  pub still_all : (memory : Memory) (old new : List (Face C S W)) → AreAllHandles memory old → length new ≡ length old → ((seat : ℕ) (d : Face C S W) → seat < length old → IsSameHandle (get_or old seat d) (get_or new seat d)) → AreAllHandles memory new
  still_all memory old new all count each = record {
    count = count ∙ all.count;
    each = λ seat d low.
        let inside : seat < length old = omega (arith, low, count) in
        let was = all.each seat d inside in
        let same = each seat d inside in
        record { table = same.table ∙ was.table; opened = same.opened ∙ was.opened };
  }

  -- all handles of a structure are of its table
  pub of_table : (memory : Memory) (handles : List (Face C S W)) → AreAllHandles memory handles → All (λ handle. handle.table ≡ memory.table) handles
  of_table memory handles all = λ seat d low. (all.each seat d low).table
