use Rattle.std.proofs.Common.{◌≡◌, ℕ, ◌+◌, ◌-◌, ◌<◌, List, Vec, Global, length, get_or, sym, ap, ◌∙◌, subst, false, arith}
use Rattle.lin_report.specs.declared.calls.Op.{Op}
use Rattle.lin_report.specs.CommandFiles.{IsCommandFile}
use Rattle.shared_memory.specs.Views.{new_view}
use Rattle.thread_runs.specs.declared.worker.Worker.{Worker}
use Rattle.thread_runs.specs.Placed.{IsPlaced, root_view}
use Rattle.thread_runs.proofs.Places.{get_front, placed_as}
use Rattle.thread_runs.proofs.Gathering.{last_of, longer_by_one}
use Rattle.thread_runs.proofs.opening.open.Goals as goal

pub take_file-commands-requires : goal.take_file-commands-requires
take_file-commands-requires g c = record { seat = (let n = c.in_ok-split_all.ensures.first.0 in let z = c.requires.count in let y = c.args.setup.some_seat in omega (arith, n, z, y)) }

pub returns-clause-root : goal.returns-clause-root
returns-clause-root g c d e =
    let ws : List (Worker g.row.C.Denot g.row.C-Search.Denot g.row.C-Wrap.Denot) = c.split_all.new.workers.items in
    let w : Worker g.row.C.Denot g.row.C-Search.Denot g.row.C-Wrap.Denot = c.in_ok-new_worker.field-0 in
    let n : ℕ = length c.args.files.items in
    let t = c.in_ok-shared.shared.table in
    let pushed = c.push_reserved.ensures.items in
    let ends = c.in_ok-split_all.ensures in
    let last : get_or c.push_reserved.new.self.items (n - 1) d ≡ w = last_of _ ws w pushed (n - 1) d (let r = ends.room.0 in let long = longer_by_one _ ws w pushed in omega (arith, r, long)) in
    subst (λ (x : Worker g.row.C.Denot g.row.C-Search.Denot g.row.C-Wrap.Denot). IsPlaced g.C.Normalized.form.object t (root_view c.args.setup (n - 1)) (get_or c.args.files.items 0 e).items x) (sym last)
    (placed_as g.C.Normalized.form.object _ t _ (root_view c.args.setup (n - 1)) _ (get_or c.args.files.items 0 e).items w ends.root.0 ends.root.1
    (ap (λ f. f.items) (c.take_file-commands.ensures.file e ∙ ends.first.1 e)) c.in_ok-new_worker.ensures)

pub returns-clause-others : goal.returns-clause-others
returns-clause-others g c j d e h =
    let room = c.in_ok-split_all.ensures.room in
    subst (λ (w : Worker g.row.C.Denot g.row.C-Search.Denot g.row.C-Wrap.Denot). IsPlaced g.C.Normalized.form.object c.in_ok-shared.shared.table (new_view (j + 1) c.args.setup false) (get_or c.args.files.items (j + 1) e).items w)
    (sym (ap (λ (l : List (Worker g.row.C.Denot g.row.C-Search.Denot g.row.C-Wrap.Denot)). get_or l j d) c.push_reserved.ensures.items ∙ get_front c.split_all.new.workers.items _ j d (let r = room.0 in omega (arith, r, h))))
    (c.in_ok-split_all.ensures.workers j d e h)

pub new_worker-requires-clause-file : goal.new_worker-requires-clause-file
new_worker-requires-clause-file g c κs within =
    let e : Vec Op Global = c.take_file-commands.result in
    let inside : 0 < length c.args.files.items = (let z = c.requires.count in let y = c.args.setup.some_seat in omega (arith, z, y)) in
    subst (λ (f : Vec Op Global). IsCommandFile g.C.Normalized.form.object f.items) (sym (c.take_file-commands.ensures.file e ∙ c.in_ok-split_all.ensures.first.1 e)) (c.requires.files 0 e inside)
