-- A core that is driven by a schedule is the run of its files in the order that the schedule names.
use Rattle.std.proofs.Common.{◌≡◌, ◌∙◌, ◌++◌, refl, subst, ap, ℕ, suc, zero, List, [], ◌∷◌, replicate, Option, Some, None}
use Rattle.lin_report.specs.declared.calls.Op.{Op}
use Rattle.script_reader.specs.declared.schedules.ScheduleEntry.{ScheduleEntry}
use Rattle.normal_traits.specs.NormalForm.{NormalForm}
use Rattle.fast_slow_engine.specs.declared.setup.Setup.{Setup}
use Rattle.fast_slow_engine.specs.Runs.{Move, moves_over, next_move, run_of, with_move}
use Rattle.event_core.specs.Cores.{CoreView, after_move, core_stepped}
use Rattle.schedule_runs.specs.Spans.{after_steps}
use Rattle.schedule_runs.specs.Orders.{EntriesMade, GoesOnBy, RunsInOrder, core_in}

module _ {S W : Type 0} (form : NormalForm S W) where
  state_in : (setup : Setup) (move : Option Move) (moves : List Move) → after_move form move (run_of form setup moves) ≡ run_of form setup (with_move move moves)
  state_in setup None moves = refl
  state_in setup (Some move) moves = refl

  module _ (setup : Setup) (files : List (List Op)) where
    -- a step of a seat puts it in front of the order
    pub stepped_in : (seat : ℕ) (order : List ℕ) → core_stepped form seat (core_in form setup files order) ≡ core_in form setup files (seat ∷ order)
    stepped_in seat order =
        let moves = moves_over form setup files order in
        ap (λ state. record { setup = setup; files = files; state = state }) (state_in setup (next_move files seat (run_of form setup moves)) moves)

    pub steps_in : (seat : ℕ) (order : List ℕ) (n : ℕ) → after_steps form seat (core_in form setup files order) n ≡ core_in form setup files (replicate n seat ++ order)
    steps_in seat order zero = refl
    steps_in seat order (suc n) = ap (core_stepped form seat) (steps_in seat order n) ∙ stepped_in seat (replicate n seat ++ order)

    order_in : (entries : List ScheduleEntry) (older : List ℕ) (new : CoreView S W) → EntriesMade form entries (core_in form setup files older) new
        → (order : List ℕ) × GoesOnBy form setup files entries older order × (new ≡ core_in form setup files order)
    order_in [] older new same = (older, refl, same)
    order_in (entry ∷ rest) older new (next, (n, steps, is), later) =
        let seen : next ≡ core_in form setup files (replicate n entry.seat ++ older) = is ∙ steps_in entry.seat older n in
        let on = order_in rest (replicate n entry.seat ++ older) new (subst (λ v. EntriesMade form rest v new) seen later) in
        (on.0, (n, steps, on.1), on.2)

  pub runs_in_order : RunsInOrder form
  runs_in_order setup files entries new follows = order_in setup files entries [] new follows
