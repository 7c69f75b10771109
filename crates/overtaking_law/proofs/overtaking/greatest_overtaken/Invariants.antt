use Rattle.std.proofs.Common.{◌≡◌, take, length}
use Rattle.overtaking_law.proofs.Tracking.{Tracks}
use Rattle.overtaking_law.proofs.overtaking.greatest_overtaken.Given as goal

abbrev pub invariant-loop-event : goal.invariant-loop-event
invariant-loop-event l = record { tracks : Tracks (take l.event-index l.events) l.calls l.most; seats : length l.calls ≡ 8 }
