-- An offered block holds the operation and the list of its call while its notes stay.
use Rattle.std.proofs.Common.{◌∙◌, ap, ℕ, ◌≤◌, ◌==◌, Bool, true, false, if◌then◌else◌, arith}
use Rattle.node_arena.specs.declared.places.TheConstants.{OP_FIELD, VALUE_FIELD, LENGTH_FIELD}
use Rattle.node_arena.specs.MemoryMap.{block_place}
use Rattle.normal_traits.specs.World.{World}
use Rattle.cas_executor.specs.BlockReads.{count_of}
use Rattle.cas_executor_laws.specs.Reads.{stored_count, stored_entries}
use Rattle.fast_slow_engine.specs.HelpWords.{announced_op}
use Rattle.offered_blocks.specs.Blocks.{Offer}
use Rattle.move_kinds.specs.Moves.{NotesStay}
use Rattle.move_kinds.specs.Contents.{HasContents}
use Rattle.move_kinds.proofs.BlockReads.{count_stays, entries_stay, op_stays, value_stays}

count_if : (b : Bool) → (if b then 2 else 1) ≤ 2
count_if true = omega arith
count_if false = omega arith

count_few : (word : ℕ) → count_of word ≤ 2
count_few word = count_if (word == 2)

-- where its notes stay it holds them still
pub contents_kept : {S : Type 0} (world after : World) (offer : Offer S) → NotesStay offer.list.block world after → HasContents world offer → HasContents after offer
contents_kept world after offer stay has =
    let block = offer.list.block in
    record {
      op = ap (λ w. announced_op w (after.words (block_place block VALUE_FIELD))) (op_stays world after block stay) ∙ ap (λ w. announced_op (world.words (block_place block OP_FIELD)) w) (value_stays world after block stay) ∙ has.op;
      entries = ap (λ n. stored_entries after.words block n) (count_stays world after block stay)
          ∙ entries_stay world after block stay (stored_count world.words block) (count_few (world.words (block_place block LENGTH_FIELD))) ∙ has.entries;
    }
