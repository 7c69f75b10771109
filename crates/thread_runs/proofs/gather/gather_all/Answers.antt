use Rattle.std.proofs.Common.{rules, ◌≡◌, ℕ, ◌+◌, ◌-◌, List, [], ◌∷◌, ◌++◌, length, get_or, map, sym, ap, ◌∙◌, subst, false, arith, length-append}
use Rattle.lin_report.specs.declared.calls.Receipt.{Receipt}
use Rattle.fast_slow_engine.specs.PhaseTable.{rests}
use Rattle.shared_memory.specs.declared.view.View.{View}
use Rattle.shared_memory.specs.Views.{new_view}
use Rattle.thread_runs.specs.declared.worker.Worker.{Worker}
use Rattle.thread_runs.specs.Placed.{HasPort, root_view}
use Rattle.thread_runs.proofs.Gathering.{has_gathered, starts, last_of, front_of, longer_by_one, takes_in_as, map_snoc, map_length, room_more}
use Rattle.thread_runs.proofs.Places.{get_front}
use Rattle.thread_runs.proofs.gather.gather_all.Goals as goal

pub loop-other-init : goal.loop-other-init
loop-other-init g c =
    let x : Worker g.row.C.Denot g.row.C-Search.Denot g.row.C-Wrap.Denot = c.in-Some.root in
    let old : List (Worker g.row.C.Denot g.row.C-Search.Denot g.row.C-Wrap.Denot) = c.args.workers.items in
    let new : List (Worker g.row.C.Denot g.row.C-Search.Denot g.row.C-Wrap.Denot) = c.pop.new.self.items in
    let e = c.in-Some.ensures.items in
    let n : ℕ = length old in
    let t = c.args.shared.now.table in
    let len : length old ≡ length new + 1 = longer_by_one old new x e in
    let port : HasPort t (root_view c.args.shared.now.setup (n - 1)) x = subst (λ (w : Worker g.row.C.Denot g.row.C-Search.Denot g.row.C-Wrap.Denot). HasPort t (root_view c.args.shared.now.setup (n - 1)) w) (last_of old new x e (n - 1) x (omega (arith, len))) (c.requires.root x) in
    let some = c.requires.some in (
      port.0,
      (let none = ap length some.2 in omega (arith, none, len)),
      some.1,
      ap (λ (v : View g.row.C.Denot g.row.C-Search.Denot g.row.C-Wrap.Denot). rests v.machine.phase) port.1.is ∙ port.1.idle,
      starts c.args.shared.now.setup n x.port.view x.machine x.receipts.items _ (ap (map (λ v. v.items)) some.2) port.1.is,
      λ j d h. subst (λ (w : Worker g.row.C.Denot g.row.C-Search.Denot g.row.C-Wrap.Denot). HasPort t (new_view (j + 1) c.args.shared.now.setup false) w) (front_of old new x e j d h) (c.requires.others j d (omega (arith, len, h))),
      ap (λ (v : View g.row.C.Denot g.row.C-Search.Denot g.row.C-Wrap.Denot). v.machine.seat) port.1.is ∙ port.1.seat,
      ap (λ (v : View g.row.C.Denot g.row.C-Search.Denot g.row.C-Wrap.Denot). v.machine.setup) port.1.is ∙ port.1.setup,
      (λ j d h. sym (front_of old new x e j d h)),
      (λ i d h. absurd (let none = ap length some.2 in omega (arith, none, h))),
      (λ d. ap (λ (w : Worker g.row.C.Denot g.row.C-Search.Denot g.row.C-Wrap.Denot). w.receipts.items) (sym (last_of old new x e (n - 1) d (omega (arith, len))))),
    )

pub gather-requires-clause-table : goal.gather-requires-clause-table
gather-requires-clause-table g c κs within =
    let x : Worker g.row.C.Denot g.row.C-Search.Denot g.row.C-Wrap.Denot = c.in-Some-pop.other in
    let old : List (Worker g.row.C.Denot g.row.C-Search.Denot g.row.C-Wrap.Denot) = c.loop-other.workers.items in
    let new : List (Worker g.row.C.Denot g.row.C-Search.Denot g.row.C-Wrap.Denot) = c.pop-in-loop-other.new.self.items in
    let e = c.in-Some-pop.ensures.items in
    let len : length old ≡ length new + 1 = longer_by_one old new x e in
    (c.loop-other.invariant.0, ap (λ (w : Worker g.row.C.Denot g.row.C-Search.Denot g.row.C-Wrap.Denot). w.port.table) (sym (last_of old new x e (length new) x (sym len))) ∙ (c.loop-other.invariant.5 (length new) x (omega (arith, len))).0)

pub gather-requires-clause-idle : goal.gather-requires-clause-idle
gather-requires-clause-idle g c κs within =
    let x : Worker g.row.C.Denot g.row.C-Search.Denot g.row.C-Wrap.Denot = c.in-Some-pop.other in
    let old : List (Worker g.row.C.Denot g.row.C-Search.Denot g.row.C-Wrap.Denot) = c.loop-other.workers.items in
    let new : List (Worker g.row.C.Denot g.row.C-Search.Denot g.row.C-Wrap.Denot) = c.pop-in-loop-other.new.self.items in
    let e = c.in-Some-pop.ensures.items in
    let len : length old ≡ length new + 1 = longer_by_one old new x e in
    let port : HasPort c.args.shared.now.table (new_view (length new + 1) c.args.shared.now.setup false) x = subst (λ (w : Worker g.row.C.Denot g.row.C-Search.Denot g.row.C-Wrap.Denot). HasPort c.args.shared.now.table (new_view (length new + 1) c.args.shared.now.setup false) w) (last_of old new x e (length new) x (sym len)) (c.loop-other.invariant.5 (length new) x (omega (arith, len))) in
    (c.loop-other.invariant.3, ap (λ (v : View g.row.C.Denot g.row.C-Search.Denot g.row.C-Wrap.Denot). rests v.machine.phase) port.1.is ∙ port.1.idle)

pub loop-other-preserved : goal.loop-other-preserved
loop-other-preserved g c =
    let x : Worker g.row.C.Denot g.row.C-Search.Denot g.row.C-Wrap.Denot = c.in-Some-pop.other in
    let old : List (Worker g.row.C.Denot g.row.C-Search.Denot g.row.C-Wrap.Denot) = c.loop-other.workers.items in
    let new : List (Worker g.row.C.Denot g.row.C-Search.Denot g.row.C-Wrap.Denot) = c.pop-in-loop-other.new.self.items in
    let e = c.in-Some-pop.ensures.items in
    let n : ℕ = length c.args.workers.items in
    let t = c.args.shared.now.table in
    let i = c.loop-other.invariant in
    let len : length old ≡ length new + 1 = longer_by_one old new x e in
    let port : HasPort t (new_view (length new + 1) c.args.shared.now.setup false) x = subst (λ (w : Worker g.row.C.Denot g.row.C-Search.Denot g.row.C-Wrap.Denot). HasPort t (new_view (length new + 1) c.args.shared.now.setup false) w) (last_of old new x e (length new) x (sym len)) (i.5 (length new) x (omega (arith, len))) in
    let rooms = c.loop-other.rooms.items in
    let pushed = c.push_reserved.ensures in
    let more : length c.push_reserved.new.self.items ≡ length rooms + 1 = ap length pushed.items ∙ length-append rooms _ in (
      c.gather.ensures.table ∙ i.0,
      (let a = i.1 in omega (arith, a, len, more)),
      (let a = i.2 in let b = pushed.capacity in omega (arith, a, b)),
      ap (λ (v : View g.row.C.Denot g.row.C-Search.Denot g.row.C-Wrap.Denot). rests v.machine.phase) c.gather.ensures.view ∙ i.3,
      takes_in_as c.args.shared.now.setup n (length new + 1) c.loop-other.port.view x.port.view c.gather.new.taker.view x.machine c.in-Some.root.receipts.items x.receipts.items (map (λ v. v.items) rooms) (map (λ v. v.items) c.push_reserved.new.self.items) i.4 port.1.is port.1.seat
          (let a = i.1 in let b = map_length (λ v. v.items) rooms in omega (arith, a, b, len)) c.gather.ensures.view (ap (map (λ v. v.items)) pushed.items ∙ map_snoc (λ v. v.items) rooms x.receipts),
      λ j d h. subst (λ (w : Worker g.row.C.Denot g.row.C-Search.Denot g.row.C-Wrap.Denot). HasPort t (new_view (j + 1) c.args.shared.now.setup false) w) (front_of old new x e j d h) (i.5 j d (omega (arith, len, h))),
      ap (λ (v : View g.row.C.Denot g.row.C-Search.Denot g.row.C-Wrap.Denot). v.machine.seat) c.gather.ensures.view ∙ i.6,
      ap (λ (v : View g.row.C.Denot g.row.C-Search.Denot g.row.C-Wrap.Denot). v.machine.setup) c.gather.ensures.view ∙ i.7,
      (λ j d h. sym (front_of old new x e j d h) ∙ i.8 j d (omega (arith, len, h))),
      (λ k d h. subst (λ (l : List (List Receipt)). get_or l k [] ≡ (get_or c.args.workers.items (n - 2 - k) d).receipts.items) (sym (ap (map (λ v. v.items)) pushed.items ∙ map_snoc (λ v. v.items) rooms x.receipts))
          (room_more (map (λ v. v.items) rooms) x.receipts.items (λ m. (get_or c.args.workers.items (n - 2 - m) d).receipts.items) (λ m below. i.9 m d (let b = map_length (λ v. v.items) rooms in omega (arith, b, below)))
          (ap (λ (w : Worker g.row.C.Denot g.row.C-Search.Denot g.row.C-Wrap.Denot). w.receipts.items) (sym (last_of old new x e (length new) d (sym len)) ∙ i.8 (length new) d (omega (arith, len)))
          ∙ ap (λ (m : ℕ). (get_or c.args.workers.items m d).receipts.items) (let a = i.1 in let b = map_length (λ v. v.items) rooms in let z : length new ≡ n - 2 - length (map (λ v. v.items) rooms) = omega (arith, a, b, len) in z))
          k (let b = map_length (λ v. v.items) rooms in omega (arith, b, h, more)))),
      i.10,
    )

pub returns-clause-lines : goal.returns-clause-lines
returns-clause-lines g c j d h =
    let none : length c.loop-other.workers.items ≡ 0 = search rules in
    let inv = c.loop-other.invariant in
    let olds : List (List Receipt) = map (λ v. v.items) c.loop-other.rooms.items in
    let n : ℕ = length c.args.workers.items in
    let all : map (λ v. v.items) c.push_reserved-2.new.self.items ≡ olds ++ c.in-Some.root.receipts.items ∷ [] = ap (map (λ v. v.items)) c.push_reserved-2.ensures.items ∙ map_snoc (λ v. v.items) c.loop-other.rooms.items c.in-Some.root.receipts in
    let long : length olds + 1 ≡ n = (let a = inv.1 in let b = map_length (λ v. v.items) c.loop-other.rooms.items in omega (arith, a, b, none)) in
    let b = map_length (λ v. v.items) c.loop-other.rooms.items in
    ap (λ (l : List (List Receipt)). get_or l (n - 1 - (j + 1)) []) all
    ∙ get_front olds (c.in-Some.root.receipts.items ∷ []) (n - 1 - (j + 1)) [] (omega (arith, long, h))
    ∙ inv.9 (n - 1 - (j + 1)) d (omega (arith, long, h, b))
    ∙ ap (λ (m : ℕ). (get_or c.args.workers.items m d).receipts.items) (let z : n - 2 - (n - 1 - (j + 1)) ≡ j = omega (arith, h) in z)

pub returns-clause-own : goal.returns-clause-own
returns-clause-own g c d =
    let none : length c.loop-other.workers.items ≡ 0 = search rules in
    let inv = c.loop-other.invariant in
    let olds : List (List Receipt) = map (λ v. v.items) c.loop-other.rooms.items in
    let n : ℕ = length c.args.workers.items in
    let all : map (λ v. v.items) c.push_reserved-2.new.self.items ≡ olds ++ c.in-Some.root.receipts.items ∷ [] = ap (map (λ v. v.items)) c.push_reserved-2.ensures.items ∙ map_snoc (λ v. v.items) c.loop-other.rooms.items c.in-Some.root.receipts in
    let long : n - 1 - 0 + 1 ≡ length (map (λ v. v.items) c.push_reserved-2.new.self.items) =
    (let a = inv.1 in let b = map_length (λ v. v.items) c.loop-other.rooms.items in let e = longer_by_one _ olds _ all in omega (arith, a, b, none, e)) in
    last_of _ olds _ all (n - 1 - 0) [] long ∙ inv.10 d

pub returns-clause-view : goal.returns-clause-view
returns-clause-view g c =
    let none : length c.loop-other.workers.items ≡ 0 = search rules in
    let inv = c.loop-other.invariant in
    let olds : List (List Receipt) = map (λ v. v.items) c.loop-other.rooms.items in
    let n : ℕ = length c.args.workers.items in
    let all : map (λ v. v.items) c.push_reserved-2.new.self.items ≡ olds ++ c.in-Some.root.receipts.items ∷ [] = ap (map (λ v. v.items)) c.push_reserved-2.ensures.items ∙ map_snoc (λ v. v.items) c.loop-other.rooms.items c.in-Some.root.receipts in
    let long : length olds + 1 ≡ n = (let a = inv.1 in let b = map_length (λ v. v.items) c.loop-other.rooms.items in omega (arith, a, b, none)) in
    has_gathered c.args.shared.now.setup n c.loop-other.port.view c.in-Some.root.receipts.items olds _ inv.4 all long inv.3 inv.6 inv.7
