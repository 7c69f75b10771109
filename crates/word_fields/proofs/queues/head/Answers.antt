use Rattle.std.proofs.Common.{◌∙◌, sym, []}
use Rattle.word_fields.proofs.MembersOfWords.{another_is, head_missing, head_named, no_members, none_yet}
use Rattle.word_fields.proofs.queues.head.Goals as goal

pub returns-then-is_another : goal.returns-then-is_another
returns-then-is_another c =
    head_named c.args.word c.place_at-named.result c.place_at-named.ensures (sym (another_is no_members [] none_yet c.place_at-named.result) ∙ sym c.is_another.ensures ∙ c.if-is_another.true)

pub returns : goal.returns
returns c =
    head_missing c.args.word c.place_at-named.result c.place_at-named.ensures (sym (another_is no_members [] none_yet c.place_at-named.result) ∙ sym c.is_another.ensures ∙ c.if-is_another.false)
