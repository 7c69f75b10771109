use Rattle.std.proofs.Common.{rules, IsOk}
use Rattle.handles.specs.Opening.{IsNewHandle}
use Rattle.handles.proofs.Opened.{in_front}
use Rattle.handles.proofs.opening.open_all.Goals as goal

pub returns-clause-handles : goal.returns-clause-handles
returns-clause-handles g c =
    let put : IsOk c.insert.result = search rules in
    let at = c.insert.ensures.by_index in
    in_front (λ seat handle. IsNewHandle c.in_ok-shared.shared seat handle) c.args.setup.seats c.insert.new.self.items c.split_all.new.others.items c.split_all.new.first (λ d. at.0 d put) (λ k d some. at.2 k d put some) c.split_all.ensures.first c.split_all.ensures.others
