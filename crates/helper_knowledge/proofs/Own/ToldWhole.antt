-- The outcomes of a client are told whole by a record: plain ones by the client's laws, one that names a node because the
-- node's block is used.
use Rattle.std.proofs.Common.{refl, ap, ◌<◌, ◌^◌, arith, mod-eq_of_lt}
use Rattle.lin_report.specs.declared.calls.Outcome.{Outcome}
use Rattle.lin_report.specs.declared.calls.Outcome.TheVariants.{Plain, ValueOf}
use Rattle.lin_report.specs.declared.calls.Reply.{Reply}
use Rattle.lin_report.specs.declared.calls.Reply.TheVariants.{Yes, No, Done, Value, Empty, Absent, Exhausted}
use Rattle.node_arena.specs.MemoryMap.{block_at, node_place}
use Rattle.node_arena.proofs.PlacesApart.{block_at-node_place}
use Rattle.normal_traits.specs.World.{StandsFor, World}
use Rattle.normal_traits.specs.Laws.{FitsRecord}
use Rattle.helper_knowledge.specs.HelperStep.{UsedSmall}
use Rattle.helper_knowledge.specs.Knowing.{ToldWhole}

plain_whole : (reply : Reply) → FitsRecord (Plain reply) → ToldWhole (Plain reply)
plain_whole Yes fits = (omega arith, refl)
plain_whole No fits = (omega arith, refl)
plain_whole Done fits = (omega arith, refl)
plain_whole (Value value) fits = (fits, ap (λ n. Plain (Value n)) (mod-eq_of_lt fits))
plain_whole Empty fits = (omega arith, refl)
plain_whole Absent fits = (omega arith, refl)
plain_whole Exhausted fits = (omega arith, refl)

pub told_whole : (world : World) (outcome : Outcome) (reply : Reply) → UsedSmall world → FitsRecord outcome → StandsFor world outcome reply → ToldWhole outcome
told_whole world (Plain reply') reply small fits stands = plain_whole reply' fits
told_whole world (ValueOf reference) reply small fits stands =
    let at = block_at-node_place reference 1 (omega arith) in
    let low = small (block_at (node_place reference 1)) stands.0 in
    let below : reference < 2 ^ 20 = omega (arith, at, low) in
    (below, ap ValueOf (mod-eq_of_lt below))
