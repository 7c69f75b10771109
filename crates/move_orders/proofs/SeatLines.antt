-- The lines of one seat among lines that are put together, and among what a step returns.
use Rattle.std.proofs.Common.{◌≡◌, ◌≢◌, ◌∙◌, refl, sym, ap, ℕ, ◌==◌, Bool, true, false, cond, eq-eqb, ne_eqb, List, [], ◌∷◌, ◌++◌}
use Rattle.lin_report.specs.declared.calls.Receipt.{Receipt}
use Rattle.step_memory.specs.declared.steps.Seen.{Seen}
use Rattle.fast_slow_engine.specs.declared.setup.Turn.{Turn}
use Rattle.fast_slow_engine.specs.declared.setup.Turn.TheVariants.{Going, Returned}
use Rattle.fast_slow_engine.specs.Mechs.{Mech}
use Rattle.fast_slow_engine.specs.PhaseTable.{mech_turn}
use Rattle.fast_slow_engine.specs.Runs.{returned}
use Rattle.fast_slow_engine.proofs.LineOwners.{lines_are_own}
use Rattle.move_orders.specs.SeatLines.{lines_of}

pub lines_append : (seat : ℕ) (xs ys : List Receipt) → lines_of seat (xs ++ ys) ≡ lines_of seat xs ++ lines_of seat ys
lines_append seat [] ys = refl
lines_append seat (x ∷ xs) ys = by (x.seat == seat) (lines_append seat xs ys)
  where
    by : (own : Bool) → lines_of seat (xs ++ ys) ≡ lines_of seat xs ++ lines_of seat ys → cond own (x ∷ lines_of seat (xs ++ ys)) (lines_of seat (xs ++ ys)) ≡ cond own (x ∷ lines_of seat xs) (lines_of seat xs) ++ lines_of seat ys
    by true e = ap (λ (lines : List Receipt). x ∷ lines) e
    by false e = e

-- what a step returns, where each line of it is of this seat
own_turn : (seat : ℕ) (turn : Turn) → ((line : Receipt) → turn ≡ Returned line → line.seat ≡ seat) → lines_of seat (returned turn) ≡ returned turn
own_turn seat Going own = refl
own_turn seat (Returned line) own = ap (λ (b : Bool). cond b (line ∷ []) []) (eq-eqb line.seat seat (own line refl))

-- the same where none is
other_turn : (seat : ℕ) (turn : Turn) → ((line : Receipt) → turn ≡ Returned line → line.seat ≢ seat) → lines_of seat (returned turn) ≡ []
other_turn seat Going other = refl
other_turn seat (Returned line) other = ap (λ (b : Bool). cond b (line ∷ []) []) (ne_eqb line.seat seat (other line refl))

module _ {S W : Type 0} where
  -- a step of a seat returns lines of that seat alone
  pub returned_own : (seat : ℕ) (mech : Mech S W) (seen : Seen) → mech.seat ≡ seat → lines_of seat (returned (mech_turn mech seen)) ≡ returned (mech_turn mech seen)
  returned_own seat mech seen own = own_turn seat (mech_turn mech seen) (λ line e. (lines_are_own mech seen line e).seat ∙ own)

  pub returned_other : (seat : ℕ) (mech : Mech S W) (seen : Seen) → mech.seat ≢ seat → lines_of seat (returned (mech_turn mech seen)) ≡ []
  returned_other seat mech seen other = other_turn seat (mech_turn mech seen) (λ line e is. other (sym (lines_are_own mech seen line e).seat ∙ is))
