use Rattle.std.proofs.Common.{◌≡◌, ℕ, ◌<◌, true, false, get_or}
use Rattle.report_check.proofs.summaries.are_drawn.Given as goal

-- those so far were drawn
abbrev pub invariant-loop-tick : goal.invariant-loop-tick
invariant-loop-tick l = (k : ℕ) → k < l.tick → get_or l.ticks k false ≡ true
