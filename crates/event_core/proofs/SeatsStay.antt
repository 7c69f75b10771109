-- A seat stays one through the steps of its machine.
use Rattle.std.proofs.Common.{arith, ◌-◌, false, ◌≡◌, ◌+◌, ◌≤◌, sym, subst, List, length}
use Rattle.lin_report.specs.declared.calls.Op.{Op}
use Rattle.step_memory.specs.declared.steps.Seen.{Seen}
use Rattle.normal_traits.specs.NormalForm.{NormalForm}
use Rattle.fast_slow_engine.specs.Mechs.{Mech}
use Rattle.fast_slow_engine.specs.PhaseTable.{mech_fed, mech_turn, lines_left, rests}
use Rattle.fast_slow_engine.proofs.SameCalls.{same_as_fed}
use Rattle.fast_slow_engine.proofs.Ticks.{draws}
use Rattle.event_core.specs.Seats.{IsSeatOf, lines_owed}
use Rattle.fast_slow_engine.specs.Runs.{returned}

module _ {S W : Type 0} (form : NormalForm S W) where
  -- fed, it has begun as many calls
  pub seat_fed : (new mech : Mech S W) (file : List Op) (seen : Seen) → new ≡ mech_fed form mech seen → IsSeatOf form.object (record { mech = mech; file = file }) → IsSeatOf form.object (record { mech = new; file = file })
  seat_fed new mech file seen h seat = record { file = seat.file; number = subst (λ n. n ≤ length file) (sym (same_as_fed form new mech seen h).number) seat.number }

  -- fed, it owes a line less where its call returned
  pub lines_fed : (new mech : Mech S W) (file : List Op) (seen : Seen) → new ≡ mech_fed form mech seen → rests mech.phase ≡ false
      → lines_owed (record { mech = new; file = file }) + length (returned (mech_turn mech seen)) ≡ lines_owed (record { mech = mech; file = file })
  lines_fed new mech file seen h runs =
      let d = (draws form mech.phase seen mech runs).lines in
      let n = (same_as_fed form new mech seen h).number in
      let l : lines_left new.phase + length (returned (mech_turn mech seen)) ≡ lines_left mech.phase = subst (λ m. lines_left m.phase + length (returned (mech_turn mech seen)) ≡ lines_left mech.phase) (sym h) d in
      subst (λ k. (length file - k + lines_left new.phase) + length (returned (mech_turn mech seen)) ≡ length file - mech.number + lines_left mech.phase) (sym n) (omega (arith, l))
