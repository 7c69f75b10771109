use Rattle.std.proofs.Common.{◌≡◌, ◌+◌, length, sym, subst, false}
use Rattle.fast_slow_engine.specs.Runs.{returned}
use Rattle.fast_slow_engine.specs.PhaseTable.{rests}
use Rattle.event_core.specs.Seats.{lines_owed}
use Rattle.event_core.proofs.SeatsStay.{lines_fed, seat_fed}
use Rattle.event_core.proofs.seats.Seat.feed.Goals as goal

pub invariant_of-self : goal.invariant_of-self
invariant_of-self g c = seat_fed g.C.Normalized.form _ _ _ _ c.feed.ensures.machine c.self.invariant

pub returns-clause-lines : goal.returns-clause-lines
returns-clause-lines g c =
    let runs = subst (λ s. rests s.mech.phase ≡ false) (sym c.self.view_is) c.requires.runs in
    let fed = lines_fed g.C.Normalized.form c.feed.new.self c.self.inside.machine c.self.inside.file.items _ c.feed.ensures.machine runs in
    subst (λ s. lines_owed (record { mech = c.feed.new.self; file = c.self.inside.file.items }) + length (returned c.feed.result) ≡ lines_owed s) c.self.view_is
    (subst (λ t. lines_owed (record { mech = c.feed.new.self; file = c.self.inside.file.items }) + length (returned t) ≡ lines_owed (record { mech = c.self.inside.machine; file = c.self.inside.file.items })) (sym c.feed.ensures.turn) fed)

pub returns-clause-number : goal.returns-clause-number
returns-clause-number g c = (seat_fed g.C.Normalized.form _ _ _ _ c.feed.ensures.machine c.self.invariant).number
