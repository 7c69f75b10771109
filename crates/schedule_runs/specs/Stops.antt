-- Runs in which a seat stops for ever.
use Rattle.std.specs.Prelude.{ℕ, zero, suc, ◌==◌, if◌then◌else◌, List, [], ◌∷◌, ◌++◌, replicate}
use Rattle.schedule_runs.specs.Rounds.{repeated}

-- a round of all seats but one, in rising order; the newest step is first
abbrev pub round_without : ℕ → ℕ → List ℕ
round_without stopped zero = []
round_without stopped (suc seats) = if seats == stopped then round_without stopped seats else seats ∷ round_without stopped seats

-- a seat takes so many steps and then none, and after them the others take so many rounds
abbrev pub stop_order : (seats stopped steps count : ℕ) → List ℕ
stop_order seats stopped steps count = repeated (round_without stopped seats) count ++ replicate steps stopped
