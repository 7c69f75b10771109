-- Runs whose seats take turns.
use Rattle.std.specs.Prelude.{◌≡◌, ℕ, zero, suc, ◌*◌, ◌%◌, List, [], ◌∷◌, ◌++◌, map, reverse}
use Rattle.std.specs.List.{range_with_len}
use Rattle.lin_report.specs.declared.calls.Op.{Op}
use Rattle.normal_traits.specs.NormalForm.{NormalForm}
use Rattle.fast_slow_engine.specs.declared.setup.Setup.{Setup}
use Rattle.event_core.specs.Cores.{CoreView, core_new, core_stepped}
use Rattle.schedule_runs.specs.Orders.{core_in}

-- a round in which each seat takes one step, in rising order; as in every order, the newest step is first
abbrev pub round : ℕ → List ℕ
round zero = []
round (suc seats) = seats ∷ round seats

-- these steps so many times
unfoldable pub repeated : List ℕ → ℕ → List ℕ
repeated steps zero = []
repeated steps (suc n) = steps ++ repeated steps n

-- so many rounds, one after the other
abbrev pub rounds : ℕ → ℕ → List ℕ
rounds seats n = repeated (round seats) n

module _ {S W : Type 0} (form : NormalForm S W) where
  -- a run after steps of these seats
  abbrev pub after_order : CoreView S W → List ℕ → CoreView S W
  after_order view [] = view
  after_order view (seat ∷ older) = core_stepped form seat (after_order view older)

  -- a new core after steps of these seats is the run of its files in this order
  abbrev pub StepsRunInOrder : Type 0
  StepsRunInOrder = (setup : Setup) (files : List (List Op)) (order : List ℕ) → after_order (core_new form setup files) order ≡ core_in form setup files order

-- so rounds are turns: step k, counted from 0, is of seat k modulo the number of seats
abbrev pub RoundsTakeTurns : Type 0
RoundsTakeTurns = (seats n : ℕ) → reverse (rounds seats n) ≡ map (λ k. k % seats) (range_with_len 0 (n * seats))
