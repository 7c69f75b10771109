use Rattle.std.proofs.Common.{◌≡◌, ℕ, ◌+◌, ◌-◌, ◌<◌, List, [], length, get_or, take, drop, ◌++◌, map, sym, ap, ◌∙◌, subst, arith, vec_capacity}
use Rattle.std.proofs.lemmas.List.{get_or-map}
use Rattle.lin_report.specs.declared.calls.Op.{Op}
use Rattle.lin_report.specs.declared.calls.Receipt.{Receipt}
use Rattle.fast_slow_engine.specs.declared.setup.Setup.{Setup}
use Rattle.thread_runs.specs.declared.worker.Worker.{Worker}
use Rattle.thread_runs.specs.Work.{CanWork}
use Rattle.move_orders.specs.SeatLines.{ops_of}
use Rattle.thread_runs.specs.Whole.{IsRunBySeats, lines_at}
use Rattle.thread_runs.proofs.Runs.{HasCommands, HasLines, PlacedAll, all_ops, back, each_ready, ports_of}
use Rattle.thread_runs.proofs.Wholes.{whole, is_run}
use Rattle.thread_runs.proofs.run.run_by_seats.Goals as goal

pub run_workers-requires-clause-ready : goal.run_workers-requires-clause-ready
run_workers-requires-clause-ready g c κs within =
    let t = c.in_ok-shared.shared.table in
    let ws : List (Worker g.row.C.Denot g.row.C-Search.Denot g.row.C-Wrap.Denot) = c.in_ok-shared.workers.items in
    let n : ℕ = length c.args.files.items in
    let count = c.in_ok-shared.ensures.count in
    let all = each_ready g.C.Normalized.form.object t n ws (λ j d h. (_, _, c.in_ok-shared.ensures.others j d (get_or ws j d).commands h)) (λ d. (_, _, c.in_ok-shared.ensures.root d (get_or ws (n - 1) d).commands)) in
    subst (λ (l : List (Worker g.row.C.Denot g.row.C-Search.Denot g.row.C-Wrap.Denot)). (i : ℕ) (d : Worker g.row.C.Denot g.row.C-Search.Denot g.row.C-Wrap.Denot) → i < length l → ((get_or l i d).port.table ≡ t) × CanWork g.C.Normalized.form.object (get_or l i d).port.view (get_or l i d).machine (get_or l i d).commands.items (get_or l i d).receipts.items (vec_capacity (get_or l i d).receipts))
    (sym c.as_mut_slice.ensures.value) (λ i d h. all i d (omega (arith, h, count)))

pub gather_all-port-requires-clause-others : goal.gather_all-port-requires-clause-others
gather_all-port-requires-clause-others g c κs within =
    let t = c.in_ok-shared.shared.table in
    let old : List (Worker g.row.C.Denot g.row.C-Search.Denot g.row.C-Wrap.Denot) = c.in_ok-shared.workers.items in
    let n : ℕ = length c.args.files.items in
    let some : 0 < n = (let z = c.requires.count in let y = c.args.setup.some_seat in omega (arith, z, y)) in
    let there = subst (λ (s : Setup). PlacedAll g.C.Normalized.form.object s t n old) (sym c.in_ok-shared.ensures.setup) ((λ j d h. (_, c.in_ok-shared.ensures.others j d (get_or old j d).commands h)), (λ d. (_, c.in_ok-shared.ensures.root d (get_or old (n - 1) d).commands))) in
    (ports_of g.C.Normalized.form.object c.in_ok-shared.shared.setup t n old c.as_mut_slice.result.now c.run_workers.new.workers c.in_ok-shared.workers.len some c.in_ok-shared.ensures.count c.as_mut_slice.ensures.value c.run_workers.auto.workers c.in_ok-shared.workers.ok.0 there c.run_workers.ensures.done).0

pub gather_all-port-requires-clause-root : goal.gather_all-port-requires-clause-root
gather_all-port-requires-clause-root g c κs within =
    let t = c.in_ok-shared.shared.table in
    let old : List (Worker g.row.C.Denot g.row.C-Search.Denot g.row.C-Wrap.Denot) = c.in_ok-shared.workers.items in
    let n : ℕ = length c.args.files.items in
    let some : 0 < n = (let z = c.requires.count in let y = c.args.setup.some_seat in omega (arith, z, y)) in
    let there = subst (λ (s : Setup). PlacedAll g.C.Normalized.form.object s t n old) (sym c.in_ok-shared.ensures.setup) ((λ j d h. (_, c.in_ok-shared.ensures.others j d (get_or old j d).commands h)), (λ d. (_, c.in_ok-shared.ensures.root d (get_or old (n - 1) d).commands))) in
    (ports_of g.C.Normalized.form.object c.in_ok-shared.shared.setup t n old c.as_mut_slice.result.now c.run_workers.new.workers c.in_ok-shared.workers.len some c.in_ok-shared.ensures.count c.as_mut_slice.ensures.value c.run_workers.auto.workers c.in_ok-shared.workers.ok.0 there c.run_workers.ensures.done).1

pub close-totals-requires-clause-whole : goal.close-totals-requires-clause-whole
close-totals-requires-clause-whole g c κs within = whole g.C.Normalized.form _ _ _ _ c.gather_all-port.ensures.view

pub returns : goal.returns
returns g c =
    let ws : List (Worker g.row.C.Denot g.row.C-Search.Denot g.row.C-Wrap.Denot) = c.in_ok-shared.workers.items in
    let slice : List (Worker g.row.C.Denot g.row.C-Search.Denot g.row.C-Wrap.Denot) = c.as_mut_slice.result.now in
    let new : List (Worker g.row.C.Denot g.row.C-Search.Denot g.row.C-Wrap.Denot) = c.run_workers.new.workers in
    let n : ℕ = length c.args.files.items in
    let files : List (List Op) = map (λ v. v.items) c.args.files.items in
    let all : List (List Receipt) = map (λ v. v.items) c.gather_all-port.result.1.items in
    let same : take c.in_ok-shared.workers.len (new ++ drop (length new) ws) ≡ new = back new ws c.in_ok-shared.workers.len (c.run_workers.auto.workers ∙ ap length c.as_mut_slice.ensures.value) c.in_ok-shared.workers.ok.0 in
    let many : length new ≡ n = c.run_workers.auto.workers ∙ (ap length c.as_mut_slice.ensures.value ∙ c.in_ok-shared.ensures.count) in
    let seats : n ≡ c.in_ok-shared.shared.setup.seats = c.requires.count ∙ ap (λ (z : Setup). z.seats) (sym c.in_ok-shared.ensures.setup) in
    let out = c.gather_all-port.ensures in
    let some : 0 < n = (let z = c.requires.count in let y = c.args.setup.some_seat in omega (arith, z, y)) in
    let file : (k : ℕ) (e : _) → k < n → (get_or c.args.files.items k e).items ≡ get_or files k [] = λ k e low. sym (get_or-map (λ v. v.items) c.args.files.items k e [] low) in
    let commands : HasCommands g.C.Normalized.form.object c.args.setup files slice = subst (HasCommands g.C.Normalized.form.object c.args.setup files) (sym c.as_mut_slice.ensures.value)
    (subst (λ (m : ℕ). ((j : ℕ) (d : Worker g.row.C.Denot g.row.C-Search.Denot g.row.C-Wrap.Denot) → j + 1 < m → (get_or ws j d).commands.items ≡ get_or files (j + 1) []) × ((d : Worker g.row.C.Denot g.row.C-Search.Denot g.row.C-Wrap.Denot) → (get_or ws (m - 1) d).commands.items ≡ get_or files 0 [])) (sym c.in_ok-shared.ensures.count)
    ((λ j d h. (c.in_ok-shared.ensures.others j d (get_or ws j d).commands h).commands ∙ file (j + 1) _ h), (λ d. (c.in_ok-shared.ensures.root d (get_or ws (n - 1) d).commands).commands ∙ file 0 _ some))) in
    let lines : HasLines g.C.Normalized.form.object c.args.setup all new = subst (HasLines g.C.Normalized.form.object c.args.setup all) same (out.lines, out.own) in
    let ops = all_ops g.C.Normalized.form.object c.args.setup c.in_ok-shared.shared.table files all slice new c.run_workers.auto.workers c.run_workers.ensures.done commands lines in
    record {
      run = subst (λ (z : Setup). IsRunBySeats g.C.Normalized.form z files all c.close-totals.result.ticks c.close-totals.result.claimed) c.in_ok-shared.ensures.setup
          (is_run g.C.Normalized.form c.in_ok-shared.shared.setup files _ _ _ _ _ (ap length same ∙ many ∙ seats) out.view c.close-totals.ensures
          (subst (λ (m : ℕ). (k : ℕ) → k < m → ops_of (lines_at all m k) ≡ get_or files k []) (many ∙ seats) ops));
    }

pub gather_all-port-requires-clause-some : goal.gather_all-port-requires-clause-some
gather_all-port-requires-clause-some g c κs within =
    let ws : List (Worker g.row.C.Denot g.row.C-Search.Denot g.row.C-Wrap.Denot) = c.in_ok-shared.workers.items in
    let new : List (Worker g.row.C.Denot g.row.C-Search.Denot g.row.C-Wrap.Denot) = c.run_workers.new.workers in
    let n : ℕ = length c.args.files.items in
    let same : take c.in_ok-shared.workers.len (new ++ drop (length new) ws) ≡ new = back new ws c.in_ok-shared.workers.len (c.run_workers.auto.workers ∙ ap length c.as_mut_slice.ensures.value) c.in_ok-shared.workers.ok.0 in
    let many : length (take c.in_ok-shared.workers.len (new ++ drop (length new) ws)) ≡ n = ap length same ∙ (c.run_workers.auto.workers ∙ (ap length c.as_mut_slice.ensures.value ∙ c.in_ok-shared.ensures.count)) in
    let some : 0 < n = (let z = c.requires.count in let y = c.args.setup.some_seat in omega (arith, z, y)) in
    let room : vec_capacity c.in_ok-rooms.rooms ≡ n = c.in_ok-rooms.ensures.capacity ∙ (c.len.ensures ∙ c.args.files.ok.0) in
    (omega (arith, many, some), omega (arith, many, room), c.in_ok-rooms.ensures.items)
