use Rattle.std.proofs.Common.{◌≡◌, ◌∙◌, length, sym, subst, false, ap, arith}
use Rattle.fast_slow_engine.specs.Runs.{returned}
use Rattle.fast_slow_engine.specs.PhaseTable.{rests}
use Rattle.event_core.specs.Seats.{lines_owed}
use Rattle.event_core.proofs.SeatsStay.{lines_fed, seat_fed}
use Rattle.event_core.proofs.seats.Seat.go_on_over.Goals as goal

pub invariant_of-self : goal.invariant_of-self
invariant_of-self g c = seat_fed g.C.Normalized.form _ _ _ _ c.go_on_over.ensures.machine c.self.invariant

pub returns-clause-lines : goal.returns-clause-lines
returns-clause-lines g c =
    let runs = subst (λ s. rests s.mech.phase ≡ false) (sym c.self.view_is) c.requires.runs in
    let fed = lines_fed g.C.Normalized.form c.go_on_over.new.self c.self.inside.machine c.self.inside.file.items _ c.go_on_over.ensures.machine runs in
    let none = ap (λ t. length (returned t)) c.go_on_over.ensures.turn in
    let same : lines_owed (record { mech = c.go_on_over.new.self; file = c.self.inside.file.items }) ≡ lines_owed (record { mech = c.self.inside.machine; file = c.self.inside.file.items }) = omega (arith, fed, none) in
    same ∙ ap lines_owed c.self.view_is

pub returns-clause-number : goal.returns-clause-number
returns-clause-number g c = (seat_fed g.C.Normalized.form _ _ _ _ c.go_on_over.ensures.machine c.self.invariant).number
