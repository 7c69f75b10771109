use Rattle.std.proofs.Common.{◌∙◌, ap}
use Rattle.word_fields.specs.Versioned.{changed_word}
use Rattle.cas_executor_laws.proofs.WorldSteps.{changed_is}
use Rattle.cas_executor_laws.proofs.worlds.change.Goals as goal

pub returns : goal.returns
returns c =
    changed_is c.args.cells.now c.apply-word.new.self c.apply.new.self c.args.at c.args.value c.pack-changed.result c.apply-word.result c.apply-word.ensures.changes c.apply-word.ensures.tells
    (c.pack-changed.ensures.word ∙ c.changed.ensures.word ∙ ap (λ w. changed_word w c.args.value) c.unpack.ensures.packs_again)
    c.apply.ensures.changes
