use Rattle.std.proofs.Common.{◌≡◌, ℕ, ◌+◌, ◌<◌, ◌≤◌, List, length, get_or, ap, sym, ◌∙◌, subst, arith, false, ◌∷◌, [], length-append}
use Rattle.shared_memory.specs.declared.view.View.{View}
use Rattle.shared_memory.specs.Views.{cut_left, new_view}
use Rattle.thread_runs.specs.declared.worker.Worker.{Worker}
use Rattle.lin_report.specs.CommandFiles.{IsCommandFile}
use Rattle.thread_runs.specs.Placed.{IsPlaced, root_view}
use Rattle.thread_runs.proofs.Places.{snoc_each, placed_as}
use Rattle.thread_runs.proofs.opening.split_all.Goals as goal

pub new_worker-requires-clause-file : goal.new_worker-requires-clause-file
new_worker-requires-clause-file g c κs within =
    let seat : ℕ = c.loop-seat.seat in
    let none = c.take_file-commands.result in
    subst (λ f. IsCommandFile g.C.Normalized.form.object f.items) (sym (c.take_file-commands.ensures.file none ∙ c.loop-seat.invariant.6 seat none (omega arith)))
    (c.requires.files seat none (let b = c.loop-seat-test.true in let n = c.loop-seat.invariant.5 in omega (arith, b, n)))

pub loop-seat-preserved : goal.loop-seat-preserved
loop-seat-preserved g c =
    let i = c.loop-seat.invariant in
    let seat : ℕ = c.loop-seat.seat in
    let one : 1 ≤ seat = c.loop-seat.auto.seat in
    let ws : List (Worker g.row.C.Denot g.row.C-Search.Denot g.row.C-Wrap.Denot) = c.loop-seat.workers.items in
    let w : Worker g.row.C.Denot g.row.C-Search.Denot g.row.C-Wrap.Denot = c.in_ok-new_worker.field-0 in
    let new = c.push_reserved.ensures in
    let taken = c.take_file-commands.ensures in
    let at : seat ≡ length ws + 1 = sym i.2 in
    let table = c.split-port.ensures.table in
    let t = c.args.shared.now.table in
    let files = c.args.files.now.items in
    let len : length c.push_reserved.new.self.items ≡ length ws + 1 = ap length new.items ∙ length-append ws (w ∷ []) in (
      table.0 ∙ i.0,
      c.split-port.ensures.old ∙ (ap (λ (v : View g.row.C.Denot g.row.C-Search.Denot g.row.C-Wrap.Denot). cut_left v) i.1 ∙ ap (λ (k : ℕ). root_view c.args.setup k) (omega (arith, one))),
      omega (arith, len, at),
      (let a = new.capacity in let z = i.3 in omega (arith, a, z)),
      (λ j d e below. subst (λ (l : List (Worker g.row.C.Denot g.row.C-Search.Denot g.row.C-Wrap.Denot)). IsPlaced g.C.Normalized.form.object t (new_view (j + 1) c.args.setup false) (get_or files (j + 1) e).items (get_or l j d)) (sym new.items)
          (snoc_each (λ k x. IsPlaced g.C.Normalized.form.object t (new_view (k + 1) c.args.setup false) (get_or files (k + 1) e).items x) ws w (λ k x b. i.4 k x e b)
          (placed_as g.C.Normalized.form.object _ t _ (new_view (length ws + 1) c.args.setup false) _ (get_or files (length ws + 1) e).items w (table.1 ∙ i.0)
          (c.split-port.ensures.new ∙ (ap (λ (v : View g.row.C.Denot g.row.C-Search.Denot g.row.C-Wrap.Denot). new_view seat v.machine.setup false) i.1 ∙ ap (λ (k : ℕ). new_view k c.args.setup false) at))
          (ap (λ f. f.items) (taken.file e ∙ (i.6 seat e (omega arith) ∙ ap (λ (k : ℕ). get_or files k e) at)))
          c.in_ok-new_worker.ensures)
          j d (subst (λ (m : ℕ). j < m) len below))),
      taken.count ∙ i.5,
      (λ k e above. taken.others k e (λ is. omega (arith, is, above)) ∙ i.6 k e (omega (arith, above))),
      (λ e. taken.others 0 e (λ is. omega (arith, is, one)) ∙ i.7 e),
    )

pub returns-clause-workers : goal.returns-clause-workers
returns-clause-workers g c j d e h = let i = c.loop-seat.invariant in let a = i.2 in let n = i.5 in let b = c.loop-seat-test.false in i.4 j d e (omega (arith, a, b, n, h))

pub returns-clause-first : goal.returns-clause-first
returns-clause-first g c = (c.loop-seat.invariant.5, c.loop-seat.invariant.7)
