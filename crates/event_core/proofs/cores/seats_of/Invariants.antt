use Rattle.std.proofs.Common.{length, vec_capacity}
use Rattle.event_core.proofs.Seating.{Seating}
use Rattle.event_core.proofs.cores.seats_of.Given as goal

abbrev pub invariant-loop-setup : goal.invariant-loop-setup
invariant-loop-setup g l = Seating (λ file. file.items) g.C.Normalized.form l.setup l.seats.items (vec_capacity l.seats) l.rest.items l.fn.files.items

abbrev pub decreases-loop-setup : goal.decreases-loop-setup
decreases-loop-setup g l = length l.rest.items
