-- The lines of a run, put down seat by seat.
use Rattle.std.proofs.Common.{arith, ◌≡◌, ◌∙◌, refl, sym, subst, ap, ℕ, zero, suc, ◌<◌, ◌≤◌, Bool, cond, eq-eqb, ne_eqb, List, [], ◌∷◌, ◌++◌, IsPermutation, inl, inr}
use Rattle.std.proofs.lemmas.Bool.{cases_eq}
use Rattle.std.proofs.lemmas.List.Sorted.{IsPermutation-refl, IsPermutation-sym, IsPermutation-trans, IsPermutation-cons, IsPermutation-middle, IsPermutation-append_right}
use Rattle.std.proofs.lemmas.Option.{slice_get_within}
use Rattle.lin_report.specs.declared.calls.Receipt.{Receipt}
use Rattle.step_memory.specs.Step.{seen_of}
use Rattle.normal_traits.specs.NormalForm.{NormalForm}
use Rattle.fast_slow_engine.specs.declared.setup.Setup.{Setup}
use Rattle.fast_slow_engine.specs.declared.setup.Turn.{Turn}
use Rattle.fast_slow_engine.specs.declared.setup.Turn.TheVariants.{Going, Returned}
use Rattle.fast_slow_engine.specs.PhaseTable.{mech_request, mech_turn}
use Rattle.fast_slow_engine.specs.Runs.{Move, RunState, AreMoves, begun, returned, run_of}
use Rattle.fast_slow_engine.proofs.LineOwners.{lines_are_own}
use Rattle.run_laws.proofs.Steps.{move_steps}
use Rattle.run_laws.proofs.MachinesKept.{seats_stay, begun_own}
use Rattle.move_orders.specs.SeatLines.{LinesGather, lines_down, lines_of}

-- a line of one of the first seats stands once in the lines of all
lines_skip : (n : ℕ) (r : Receipt) (rs : List Receipt) → n ≤ r.seat → lines_down n (r ∷ rs) ≡ lines_down n rs
lines_skip zero r rs high = refl
lines_skip (suc n) r rs high =
    ap (λ (b : Bool). cond b (r ∷ lines_of n rs) (lines_of n rs) ++ lines_down n (r ∷ rs)) (ne_eqb r.seat n (λ e. omega (arith, e, high)))
    ∙ ap (λ l. lines_of n rs ++ l) (lines_skip n r rs (omega (arith, high)))

lines_put : (n : ℕ) (r : Receipt) (rs : List Receipt) → r.seat < n → IsPermutation (r ∷ lines_down n rs) (lines_down n (r ∷ rs))
lines_put zero r rs low = absurd (omega (arith, low))
lines_put (suc n) r rs low = elim (cases_eq r.seat n) [
  | inl here ↦
      subst (IsPermutation (r ∷ lines_of n rs ++ lines_down n rs))
      (sym (ap (λ (b : Bool). cond b (r ∷ lines_of n rs) (lines_of n rs) ++ lines_down n (r ∷ rs)) (eq-eqb r.seat n here) ∙ ap (λ l. (r ∷ lines_of n rs) ++ l) (lines_skip n r rs (omega (arith, here)))))
      (IsPermutation-refl (r ∷ lines_of n rs ++ lines_down n rs))
  | inr apart ↦
      subst (IsPermutation (r ∷ lines_of n rs ++ lines_down n rs))
      (sym (ap (λ (b : Bool). cond b (r ∷ lines_of n rs) (lines_of n rs) ++ lines_down n (r ∷ rs)) (ne_eqb r.seat n apart)))
      (IsPermutation-trans (r ∷ lines_of n rs ++ lines_down n rs) (lines_of n rs ++ r ∷ lines_down n rs) (lines_of n rs ++ lines_down n (r ∷ rs))
      (IsPermutation-sym (lines_of n rs ++ r ∷ lines_down n rs) (r ∷ lines_of n rs ++ lines_down n rs) (IsPermutation-middle (lines_of n rs) r (lines_down n rs)))
      (IsPermutation-append_right (lines_of n rs) (r ∷ lines_down n rs) (lines_down n (r ∷ rs)) (lines_put n r rs (omega (arith, apart, low)))))
]

-- every line is of a seat below n
abbrev pub Below : ℕ → List Receipt → Type 0
Below n [] = Unit {0}
Below n (r ∷ rs) = (r.seat < n) × Below n rs

below_append : (n : ℕ) (xs ys : List Receipt) → Below n xs → Below n ys → Below n (xs ++ ys)
below_append n [] ys a b = b
below_append n (x ∷ xs) ys a b = (a.0, below_append n xs ys a.1 b)

nothing_down : (n : ℕ) → lines_down n [] ≡ []
nothing_down zero = refl
nothing_down (suc n) = nothing_down n

gather : (n : ℕ) (rs : List Receipt) → Below n rs → IsPermutation rs (lines_down n rs)
gather n [] low = subst (IsPermutation []) (sym (nothing_down n)) (IsPermutation-refl [])
gather n (r ∷ rs) low = IsPermutation-trans (r ∷ rs) (r ∷ lines_down n rs) (lines_down n (r ∷ rs)) (IsPermutation-cons r rs (lines_down n rs) (gather n rs low.1)) (lines_put n r rs low.0)

-- what a step returns is of a seat below n
below_turn : (n : ℕ) (turn : Turn) → ((line : Receipt) → turn ≡ Returned line → line.seat < n) → Below n (returned turn)
below_turn n Going low = tt
below_turn n (Returned line) low = (low line refl, tt)

module _ {S W : Type 0} (form : NormalForm S W) where
  -- every line of a run is of one of its seats
  all_below : (setup : Setup) (moves : List Move) → AreMoves form setup moves → Below setup.seats (run_of form setup moves).receipts
  all_below setup [] are = tt
  all_below setup (move ∷ older) are =
      let state = run_of form setup older in
      let is = are.1 in
      let mech = begun move.begins is.mech in
      let seen = seen_of (mech_request form mech) state.words in
      let seated = seats_stay form setup older are.0 in
      let own = (begun_own form setup move.seat move.begins is.mech (seated.own move.seat is.mech is.seated)).seat in
      let inside = slice_get_within state.mechs move.seat is.mech is.seated in
      let count = seated.count in
      subst (λ (s : RunState S W). Below setup.seats s.receipts) (sym (move_steps form state move is.mech is.seated))
      (below_append setup.seats state.receipts (returned (mech_turn mech seen)) (all_below setup older are.0)
      (below_turn setup.seats (mech_turn mech seen) (λ line e. let seat = (lines_are_own mech seen line e).seat in omega (arith, inside, count, own, seat))))

  pub lines_gather : LinesGather form
  lines_gather setup moves are = gather setup.seats (run_of form setup moves).receipts (all_below setup moves are)
