use Rattle.std.proofs.Common.{rules, ◌<◌, ◌∙◌, sym, ap, arith}
use Rattle.step_memory.specs.declared.steps.Request.TheVariants.{Load, Add, Exchange}
use Rattle.step_memory.specs.Step.{requested_place}
use Rattle.shared_memory.proofs.RuleKept.{allows, misses, stores}
use Rattle.shared_memory.proofs.port.Shared.step_as.Goals as goal

pub load-requires : goal.load-requires
load-requires g c = (
  ap (λ m. m.table) c.port.view_is ∙ (c.requires.table ∙ sym (ap (λ m. m.table) c.self.view_is)),
  search rules,
  misses _ _ _ _ _ _ _ g.B.Begins.command _ _ (ap (λ m. m.view) c.port.view_is) c.port.invariant.0 c.requires.can c.requires.request c.self.invariant.0
      (let past = c.if-at-word_count.true in let n = c.word_count.ensures in let p = c.place-at.ensures in omega (arith, past, n, p)),
)

pub load-requires-in-Load : goal.load-requires-in-Load
load-requires-in-Load g c =
    let inside : c.place-at.result < c.self.inside.table.shared.table_id.words = (let within = c.if-at-word_count.false in let n = c.word_count.ensures in omega (arith, within, n)) in (
      ap (λ m. m.table) c.port.view_is ∙ (c.requires.table ∙ sym (ap (λ m. m.table) c.self.view_is)),
      inside,
      allows _ _ _ _ _ _ _ _ g.B.Begins.command (Load c.in-Load.at) _ (ap (λ m. m.view) c.port.view_is) (c.place-at.ensures ∙ ap requested_place c.in-Load.is) c.port.invariant.0 c.requires.can (c.requires.request ∙ c.in-Load.is) c.self.invariant.0 inside,
    )

pub fetch_add-requires : goal.fetch_add-requires
fetch_add-requires g c =
    let inside : c.place-at.result < c.self.inside.table.shared.table_id.words = (let within = c.if-at-word_count.false in let n = c.word_count.ensures in omega (arith, within, n)) in (
      ap (λ m. m.table) c.port.view_is ∙ (c.requires.table ∙ sym (ap (λ m. m.table) c.self.view_is)),
      inside,
      allows _ _ _ _ _ _ _ _ g.B.Begins.command (Add c.in-Add.at c.in-Add.by) _ (ap (λ m. m.view) c.port.view_is) (c.place-at.ensures ∙ ap requested_place c.in-Add.is) c.port.invariant.0 c.requires.can (c.requires.request ∙ c.in-Add.is) c.self.invariant.0 inside,
    )

pub compare_exchange-before-requires : goal.compare_exchange-before-requires
compare_exchange-before-requires g c =
    let inside : c.place-at.result < c.self.inside.table.shared.table_id.words = (let within = c.if-at-word_count.false in let n = c.word_count.ensures in omega (arith, within, n)) in (
      ap (λ m. m.table) c.port.view_is ∙ (c.requires.table ∙ sym (ap (λ m. m.table) c.self.view_is)),
      inside,
      allows _ _ _ _ _ _ _ _ g.B.Begins.command (Exchange c.in-Exchange.at c.in-Exchange.from c.in-Exchange.to) _ (ap (λ m. m.view) c.port.view_is) (c.place-at.ensures ∙ ap requested_place c.in-Exchange.is) c.port.invariant.0 c.requires.can (c.requires.request ∙ c.in-Exchange.is) c.self.invariant.0 inside,
    )

pub store-requires : goal.store-requires
store-requires g c =
    let inside : c.place-at.result < c.self.inside.table.shared.table_id.words = (let within = c.if-at-word_count.false in let n = c.word_count.ensures in omega (arith, within, n)) in (
      ap (λ m. m.table) c.port.view_is ∙ (c.requires.table ∙ sym (ap (λ m. m.table) c.self.view_is)),
      inside,
      stores _ _ _ _ _ _ c.in-Store.at c.in-Store.value _ _ g.B.Begins.command _ (ap (λ m. m.view) c.port.view_is) (c.place-at.ensures ∙ ap requested_place c.in-Store.is) c.port.invariant.0 c.requires.can (c.requires.request ∙ c.in-Store.is) c.self.invariant.0 inside,
    )
