use Rattle.std.proofs.Common.{ap, ◌∙◌}
use Rattle.step_memory.specs.declared.steps.Request.TheVariants.{Exchange}
use Rattle.node_arena.specs.MemoryMap.{record_place}
use Rattle.word_fields.specs.Records.{packed_record}
use Rattle.fast_slow_engine.proofs.requests.record_exchange.Goals as goal

pub returns : goal.returns
returns c = record {
  request =
      ap (λ at. Exchange at c.pack.result c.args.to) c.record_place.ensures.place
      ∙ ap (λ from. Exchange (record_place c.args.head) from c.args.to) (c.pack.ensures.word ∙ ap packed_record c.unpack.ensures);
}
