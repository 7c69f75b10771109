use Rattle.std.proofs.Common.{rules, ◌∙◌, sym, ap}
use Rattle.fast_slow_engine.specs.PhaseTable.{rests}
use Rattle.shared_memory.specs.Views.{Face}
use Rattle.shared_memory.proofs.Joined.{joins}
use Rattle.shared_memory.proofs.port.Shared.gather.Goals as goal

pub join_seat-requires : goal.join_seat-requires
join_seat-requires g c = (
  ap (λ m. m.table) c.taker.view_is ∙ (c.requires.table.0 ∙ sym (ap (λ m. m.table) c.self.view_is)),
  ap (λ m. m.table) c.other.view_is ∙ (c.requires.table.1 ∙ sym (ap (λ m. m.table) c.self.view_is)),
  c.other.invariant.1,
  search rules,
  joins _ _ _ _ _ _ c.taker.invariant.0 c.other.invariant.0 (ap (λ (m : Face g.row.C.Denot g.row.C-Search.Denot g.row.C-Wrap.Denot). rests m.view.machine.phase) c.other.view_is ∙ c.requires.idle.1),
)
