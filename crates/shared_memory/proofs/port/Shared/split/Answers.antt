use Rattle.std.proofs.Common.{rules, ◌∙◌, sym, ap, arith}
use Rattle.shared_memory.specs.Views.{Face}
use Rattle.shared_memory.proofs.Joined.{splits}
use Rattle.shared_memory.proofs.port.Shared.split.Goals as goal

pub split_seat-seat-requires : goal.split_seat-seat-requires
split_seat-seat-requires g c = (
  ap (λ m. m.table) c.port.view_is ∙ (c.requires.table ∙ sym (ap (λ m. m.table) c.self.view_is)),
  search rules,
  splits _ _ _ _ c.port.invariant.0 (ap (λ m. m.view.root) c.port.view_is ∙ c.requires.root)
      (let n = c.requires.next in let r = c.requires.within in let a = ap (λ (m : Face g.row.C.Denot g.row.C-Search.Denot g.row.C-Wrap.Denot). m.view.made) c.port.view_is in let b = ap (λ (m : Face g.row.C.Denot g.row.C-Search.Denot g.row.C-Wrap.Denot). m.view.machine.setup.seats) c.port.view_is in omega (arith, n, r, a, b)),
)
