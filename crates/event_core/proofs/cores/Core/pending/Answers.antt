use Rattle.std.proofs.Common.{rules}
use Rattle.std.proofs.lemmas.List.Sorted.{IsNonDecreasingBy-from_sort_by_key}
use Rattle.arrayvec.proofs.ArrayVecLemmas.{items-with_items}
use Rattle.event_core.proofs.PendingGathered.{all_gathered, gathered}
use Rattle.event_core.proofs.cores.Core.pending.Goals as goal

pub loop-seat-preserved : goal.loop-seat-preserved
loop-seat-preserved g c = gathered _ _ c.seat-item.result _ _ _ c.loop-seat.invariant (search rules) c.seat-item.is c.pending.ensures c.add_pending.ensures

pub returns-clause-order : goal.returns-clause-order
returns-clause-order g c =
    rw (items-with_items c.loop-seat.pending c.sort_unstable_by_key.new.self (search rules))
    (IsNonDecreasingBy-from_sort_by_key (λ r. r.begin) _ c.sort_unstable_by_key.ensures.sorted (λ a r q k. search rules))

pub returns-clause-calls : goal.returns-clause-calls
returns-clause-calls g c =
    rw (items-with_items c.loop-seat.pending c.sort_unstable_by_key.new.self (search rules))
    (all_gathered c.self.inside.setup _ c.self.inside.seats.items c.deref-seat-items.result.now _ _ c.loop-seat.seat-index _ _ _ c.self.view_is c.deref-seat-items.ensures.value c.loop-seat-test.false c.loop-seat.invariant.0 c.deref_mut.ensures.value c.sort_unstable_by_key.ensures.permutation)
