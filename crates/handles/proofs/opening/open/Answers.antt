use Rattle.handles.proofs.Opened.{all_new, of_table}
use Rattle.handles.proofs.opening.open.Goals as goal

pub returns-clause-all : goal.returns-clause-all
returns-clause-all g c =
    let is = c.in_ok-opened.ensures in
    all_new _ c.in_ok-setup.setup _ is.setup is.count is.handles

pub returns-clause-table : goal.returns-clause-table
returns-clause-table g c =
    let is = c.in_ok-opened.ensures in
    of_table _ _ (all_new _ c.in_ok-setup.setup _ is.setup is.count is.handles)
