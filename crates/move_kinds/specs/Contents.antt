-- What an offered block holds: the operation and the list of its call, as a helper reads them.
use Rattle.std.specs.Prelude.{◌≡◌}
use Rattle.node_arena.specs.declared.places.TheConstants.{OP_FIELD, VALUE_FIELD}
use Rattle.node_arena.specs.MemoryMap.{block_place}
use Rattle.normal_traits.specs.World.{World}
use Rattle.cas_executor_laws.specs.Reads.{stored_count, stored_entries}
use Rattle.fast_slow_engine.specs.HelpWords.{announced_op}
use Rattle.offered_blocks.specs.Blocks.{Offer}

-- what is read of the block is what was offered
pub record HasContents {S : Type 0} (world : World) (offer : Offer S) : Type 0 where
  pub op : announced_op (world.words (block_place offer.list.block OP_FIELD)) (world.words (block_place offer.list.block VALUE_FIELD)) ≡ offer.list.call.op
  pub entries : stored_entries world.words offer.list.block (stored_count world.words offer.list.block) ≡ offer.list.entries
