-- Entries name one order.
use Rattle.std.proofs.Common.{◌≡◌, ◌∙◌, ◌++◌, refl, sym, subst, ℕ, List, [], ◌∷◌, replicate}
use Rattle.lin_report.specs.declared.calls.Op.{Op}
use Rattle.script_reader.specs.declared.schedules.ScheduleEntry.{ScheduleEntry}
use Rattle.normal_traits.specs.NormalForm.{NormalForm}
use Rattle.fast_slow_engine.specs.declared.setup.Setup.{Setup}
use Rattle.schedule_runs.specs.Orders.{GoesOnBy, NamesOneOrder, core_in}
use Rattle.schedule_runs.proofs.OneSpan.{span_is_one, span_of}

module _ {S W : Type 0} (form : NormalForm S W) where
  module _ (setup : Setup) (files : List (List Op)) where
    one_order : (entries : List ScheduleEntry) (older order other : List ℕ) → GoesOnBy form setup files entries older order → GoesOnBy form setup files entries older other → other ≡ order
    one_order [] older order other a b = b ∙ sym a
    one_order (entry ∷ rest) older order other (n, steps, on) (m, steps', on') =
        let same : m ≡ n = span_is_one form entry.seat (core_in form setup files older) entry.span m n steps' steps in
        one_order rest (replicate n entry.seat ++ older) order other on (subst (λ k. GoesOnBy form setup files rest (replicate k entry.seat ++ older) other) same on')

    some_order : (entries : List ScheduleEntry) (older : List ℕ) → (order : List ℕ) × GoesOnBy form setup files entries older order
    some_order [] older = (older, refl)
    some_order (entry ∷ rest) older =
        let steps = span_of form entry.seat (core_in form setup files older) entry.span in
        let on = some_order rest (replicate steps.0 entry.seat ++ older) in
        (on.0, (steps.0, steps.1, on.1))

  pub names_one_order : NamesOneOrder form
  names_one_order setup files entries =
      let named = some_order setup files entries [] in
      (named.0, named.1, λ other is. one_order setup files entries [] named.0 other named.1 is)
