-- A port that has taken in all others is whole, and has the lines of each seat.
use Rattle.std.proofs.Common.{◌≡◌, ℕ, zero, suc, ◌+◌, ◌-◌, ◌<◌, ◌≤◌, Bool, List, [], ◌∷◌, ◌++◌, length, get_or, slice_index, refl, sym, ap, ◌∙◌, subst, arith, length-append, if◌then◌else◌, eq-eqb, ne_eqb}
use mathlib.Core.Option.{some}
use mathlib.Core.Logic.{dite}
use native.Mathlib.Decide.{ℕ_discrete}
use lib.ListN.{get_elem?}
use Rattle.lin_report.specs.declared.calls.Op.{Op}
use Rattle.lin_report.specs.declared.calls.Receipt.{Receipt}
use Rattle.node_arena.specs.declared.places.TheConstants.{TICKS, CLAIMS}
use Rattle.normal_traits.specs.NormalForm.{NormalForm}
use Rattle.fast_slow_engine.specs.declared.setup.Setup.{Setup}
use Rattle.fast_slow_engine.specs.Mechs.{Mech}
use Rattle.fast_slow_engine.specs.Runs.{AreMoves, Move, run_of}
use Rattle.shared_memory.specs.declared.view.View.{View}
use Rattle.shared_memory.specs.declared.view.Gathered.{Gathered}
use Rattle.shared_memory.specs.Rule.{Rests}
use Rattle.shared_memory.specs.Closing.{Closes, IsWhole, lines_among, lines_in}
use Rattle.thread_runs.specs.Placed.{Gathers, gathers, root_view}
use Rattle.move_orders.specs.SeatLines.{ops_of}
use Rattle.thread_runs.specs.Whole.{IsRunBySeats, lines_at}
use Rattle.thread_runs.proofs.Places.{get_front}
use Rattle.thread_runs.proofs.Gathering.{last_of}

gathers_at : (n i : ℕ) (rs : List (List Receipt)) → i < length rs → (g : Gathered) × (get_elem? (gathers n rs) i ≡ some g) × (g.seat ≡ n - 1 - i)
gathers_at n i [] h = absurd (omega arith)
gathers_at n zero (r ∷ rs) h = (record { seat = n - 1; receipts = r }, refl, omega arith)
gathers_at n (suc i) (r ∷ rs) h = let t = gathers_at (n - 1) i rs (omega arith) in (t.0, t.1, (let e = t.2 in omega (arith, e)))

among_gathers : (n k : ℕ) (rs : List (List Receipt)) → k < n → n ≤ length rs + k → lines_among (gathers n rs) k ≡ get_or rs (n - 1 - k) []
among_gathers n k [] h more = absurd (omega arith)
among_gathers n k (r ∷ rs) h more = dite (ℕ_discrete (n - 1) k)
    (λ e. subst (λ (b : Bool). (if b then r else lines_among (gathers (n - 1) rs) k) ≡ get_or (r ∷ rs) (n - 1 - k) []) (sym (eq-eqb (n - 1) k e)) (ap (λ (i : ℕ). get_or (r ∷ rs) i []) (let z : 0 ≡ n - 1 - k = omega (arith, e) in z)))
    (λ ne. subst (λ (b : Bool). (if b then r else lines_among (gathers (n - 1) rs) k) ≡ get_or (r ∷ rs) (n - 1 - k) []) (sym (ne_eqb (n - 1) k ne))
    (among_gathers (n - 1) k rs (omega (arith, ne, h)) (omega (arith, ne, h, more)) ∙ ap (λ (i : ℕ). get_or (r ∷ rs) i []) (let z : suc (n - 1 - 1 - k) ≡ n - 1 - k = omega (arith, ne, h) in z)))

module _ {S W : Type 0} where
  lines_taken : (n : ℕ) (older all : List (List Receipt)) (m : Mech S W) (rs : List Receipt) → length older + 1 ≡ n → all ≡ older ++ rs ∷ [] → m.seat ≡ 0 → (k : ℕ) → k < n → lines_among (record { seat = m.seat; receipts = rs } ∷ gathers n older) k ≡ lines_at all n k
  lines_taken n older all m rs len is own k below = dite (ℕ_discrete 0 k)
      (λ e. subst (λ (b : Bool). (if b then rs else lines_among (gathers n older) k) ≡ get_or all (n - 1 - k) []) (sym (eq-eqb m.seat k (own ∙ e))) (sym (last_of all older rs is (n - 1 - k) [] (let h = ap length is in let a = length-append older (rs ∷ []) in omega (arith, e, len, h, a)))))
      (λ ne. subst (λ (b : Bool). (if b then rs else lines_among (gathers n older) k) ≡ get_or all (n - 1 - k) []) (sym (ne_eqb m.seat k (λ e. ne (sym own ∙ e))))
      (among_gathers n k older below (omega (arith, len, ne)) ∙ sym (ap (λ (l : List (List Receipt)). get_or l (n - 1 - k) []) is ∙ get_front older (rs ∷ []) (n - 1 - k) [] (omega (arith, len, ne, below)))))

module _ {C S W : Type 0} (form : NormalForm S W) (setup : Setup) where
  -- the view of seat 0 that has taken in the others
  abbrev taken : ℕ → Mech S W → List Receipt → List (List Receipt) → View C S W
  taken n m rs older = record (root_view setup (n - 1)) { machine = m; receipts = rs; gathered = gathers n older }

  whole_of : (n : ℕ) (older : List (List Receipt)) (m : Mech S W) (rs : List Receipt) → length older + 1 ≡ n → m.seat ≡ 0 → IsWhole (taken n m rs older)
  whole_of n older m rs len own = record {
    root = refl;
    each = λ k low other.
        let here : ¬ (k ≡ 0) = λ e. other (e ∙ sym own) in
        let t = gathers_at n (n - 1 - k) older (omega (arith, low, here, len)) in
        (n - 1 - k, t.0, t.1, (let e = t.2 in omega (arith, e, low)));
  }

  pub whole : (n : ℕ) (v : View C S W) (all : List (List Receipt)) → Gathers setup n v all → IsWhole v
  whole n v all g = subst (IsWhole) (sym g.is) (whole_of n g.older v.machine v.receipts g.count g.of_zero)

  -- what a closed table says, with the setup for itself
  abbrev Ends : Setup → ℕ → ℕ → View C S W → Type 0
  Ends z a b v = (moves : List Move) × AreMoves form z moves × (slice_index (run_of form z moves).words TICKS ≡ a) × (slice_index (run_of form z moves).words CLAIMS ≡ b) × ((k : ℕ) → k < z.seats → Rests (run_of form z moves) k (lines_in v k))

  pub is_run : (files : List (List Op)) (n : ℕ) (v : View C S W) (all : List (List Receipt)) (a b : ℕ) → n ≡ setup.seats → Gathers setup n v all → Closes form v a b → ((k : ℕ) → k < setup.seats → ops_of (lines_at all setup.seats k) ≡ get_or files k []) → IsRunBySeats form setup files all a b
  is_run files n v all a b count g closes ops =
      let w : View C S W = taken n v.machine v.receipts g.older in
      let k : Closes form w a b = subst (λ (x : View C S W). Closes form x a b) g.is closes in
      let same : w.machine.setup ≡ setup = g.of_run in
      let there : Ends w.machine.setup a b w = (k.moves, k.are, k.drawn, k.asked, k.rest) in
      let here : Ends setup a b w = subst (λ (z : Setup). Ends z a b w) same there in
      record {
        moves = here.0;
        are = here.1;
        drawn = here.2;
        asked = here.3;
        count = (let l = ap length g.lines in let a = length-append g.older (v.receipts ∷ []) in let o = g.count in omega (arith, l, a, o, count));
        rest = λ i below. subst (λ (rs : List Receipt). Rests (run_of form setup here.0) i rs) (subst (λ (m : ℕ). lines_in w i ≡ lines_at all m i) count (lines_taken n g.older all v.machine v.receipts g.count g.lines g.of_zero i (omega (arith, count, below)))) (here.4 i below);
        ops = ops;
      }
