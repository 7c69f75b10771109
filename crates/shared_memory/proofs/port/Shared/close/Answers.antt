use Rattle.std.proofs.Common.{arith, ◌∙◌, sym, ap, subst}
use Rattle.node_arena.proofs.ZerosOpen.{length-opening_words}
use Rattle.fast_slow_engine.specs.PhaseTable.{rests}
use Rattle.shared_memory.specs.Views.{Face}
use Rattle.shared_memory.specs.Closing.{Closes, IsWhole}
use Rattle.shared_memory.proofs.Closed.{closes}
use Rattle.shared_memory.proofs.port.Shared.close.Goals as goal

pub word-ticks-requires : goal.word-ticks-requires
word-ticks-requires g c = let n = c.close_with-closed.ensures.counts.0 in let z = c.self.invariant.0 in let l = length-opening_words g.C.Normalized.form.opening c.self.inside.table.shared.key.cap in (omega (arith, n, z, l), c.close_with-closed.ensures.values.0)

pub word-claimed-requires : goal.word-claimed-requires
word-claimed-requires g c = let n = c.close_with-closed.ensures.counts.0 in let z = c.self.invariant.0 in let l = length-opening_words g.C.Normalized.form.opening c.self.inside.table.shared.key.cap in (omega (arith, n, z, l), c.close_with-closed.ensures.values.0)

pub returns : goal.returns
returns g c =
    let f = c.close_with-closed.ensures.values.2 in
    subst (λ (m : Face g.row.C.Denot g.row.C-Search.Denot g.row.C-Wrap.Denot). Closes g.C.Normalized.form m.view c.word-ticks.result c.word-claimed.result) c.port.view_is
    (closes _ _ f.0 _ _ _ _ _ f.1.0 f.1.1 c.port.invariant.0 (ap (λ (m : Face g.row.C.Denot g.row.C-Search.Denot g.row.C-Wrap.Denot). rests m.view.machine.phase) c.port.view_is ∙ c.requires.idle)
    (subst (λ (m : Face g.row.C.Denot g.row.C-Search.Denot g.row.C-Wrap.Denot). IsWhole m.view) (sym c.port.view_is) c.requires.whole)
    f.2 c.word-ticks.ensures c.word-claimed.ensures)
