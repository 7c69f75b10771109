-- From the workers as they were opened to the workers as they ended.
use Rattle.std.proofs.Common.{◌≡◌, ℕ, zero, suc, ◌+◌, ◌-◌, ◌<◌, false, List, [], ◌∷◌, ◌++◌, length, get_or, take, drop, refl, sym, ap, ◌∙◌, subst, arith, vec_capacity, lt_of_not-le}
use mathlib.Core.Logic.{dite}
use native.Mathlib.Decide.{dec_le}
use Rattle.atomic_table.specs.Seated.{TableId}
use Rattle.lin_report.specs.Object.{Object}
use Rattle.lin_report.specs.declared.calls.Op.{Op}
use Rattle.fast_slow_engine.specs.declared.setup.Setup.{Setup}
use Rattle.shared_memory.specs.declared.view.View.{View}
use Rattle.shared_memory.specs.Views.{new_view}
use Rattle.thread_runs.specs.declared.worker.Worker.{Worker}
use Rattle.lin_report.specs.declared.calls.Receipt.{Receipt}
use Rattle.thread_runs.specs.Work.{CanWork, Worked}
use Rattle.move_orders.specs.SeatLines.{ops_of}
use Rattle.thread_runs.specs.Whole.{lines_at}
use Rattle.thread_runs.specs.Placed.{HasPort, IsPlaced, root_view}

pub back : {A : Type 0} (new old : List A) (len : ℕ) → length new ≡ length old → len ≡ length old → take len (new ++ drop (length new) old) ≡ new
back {A} new old len a b = ap (λ (k : ℕ). take k (new ++ drop (length new) old)) (b ∙ sym a) ∙ go new (drop (length new) old)
  where
    go : (l m : List A) → take (length l) (l ++ m) ≡ l
    go [] m = refl
    go (x ∷ xs) m = ap (λ (l : List A). x ∷ l) (go xs m)

module _ {C S W : Type 0} where
  -- what holds of the last one and of each other one holds of each
  pub each_ready : (object : Object) (t : TableId) (n : ℕ) (ws : List (Worker C S W)) → ((j : ℕ) (d : Worker C S W) → j + 1 < n → (v : View C S W) × (f : List Op) × IsPlaced object t v f (get_or ws j d)) → ((d : Worker C S W) → (v : View C S W) × (f : List Op) × IsPlaced object t v f (get_or ws (n - 1) d))
      → (i : ℕ) (d : Worker C S W) → i < n → ((get_or ws i d).port.table ≡ t) × CanWork object (get_or ws i d).port.view (get_or ws i d).machine (get_or ws i d).commands.items (get_or ws i d).receipts.items (vec_capacity (get_or ws i d).receipts)
  each_ready object t n ws others root i d h = dite (dec_le (i + 2) n)
      (λ le. let p = (others i d (omega (arith, le))).2 in (p.of_table, p.ready))
      (λ more. let p = (root d).2 in let same : n - 1 ≡ i = omega (arith, h, lt_of_not-le more) in
      subst (λ (k : ℕ). ((get_or ws k d).port.table ≡ t) × CanWork object (get_or ws k d).port.view (get_or ws k d).machine (get_or ws k d).commands.items (get_or ws k d).receipts.items (vec_capacity (get_or ws k d).receipts)) same (p.of_table, p.ready))

  -- a worker that has run has the port that it began with, and is idle
  pub ran : (object : Object) (t : TableId) (v : View C S W) (f : List Op) (old new : Worker C S W) → IsPlaced object t v f old → (new.port.table ≡ t) × Worked old.port.view new.port.view new.machine old.commands.items new.receipts.items → HasPort t v new
  ran object t v f old new p done =
      let w = done.1 in (
        done.0,
        record {
          is = w.view ∙ ap (λ (x : View C S W). record x { machine = new.machine; receipts = new.receipts.items }) p.view;
          idle = w.rest.idle;
          seat = w.of_seat ∙ ap (λ (x : View C S W). x.machine.seat) p.view;
          setup = w.of_run ∙ ap (λ (x : View C S W). x.machine.setup) p.view;
        },
      )

module _ {C S W : Type 0} (object : Object) (setup : Setup) where
  abbrev pub Ports : TableId → List (Worker C S W) → Type 0
  Ports t ws = ((j : ℕ) (d : Worker C S W) → j + 1 < length ws → HasPort t (new_view (j + 1) setup false) (get_or ws j d)) × ((d : Worker C S W) → HasPort t (root_view setup (length ws - 1)) (get_or ws (length ws - 1) d))

  abbrev pub PlacedAll : TableId → ℕ → List (Worker C S W) → Type 0
  PlacedAll t n ws = ((j : ℕ) (d : Worker C S W) → j + 1 < n → (f : List Op) × IsPlaced object t (new_view (j + 1) setup false) f (get_or ws j d)) × ((d : Worker C S W) → (f : List Op) × IsPlaced object t (root_view setup (n - 1)) f (get_or ws (n - 1) d))

  abbrev pub AllWorked : TableId → List (Worker C S W) → List (Worker C S W) → Type 0
  AllWorked t old new = (i : ℕ) (d : Worker C S W) → i < length old → ((get_or new i d).port.table ≡ t) × Worked (get_or old i d).port.view (get_or new i d).port.view (get_or new i d).machine (get_or old i d).commands.items (get_or new i d).receipts.items

  pub ports : (t : TableId) (old new : List (Worker C S W)) → 0 < length old → length new ≡ length old → PlacedAll t (length old) old → AllWorked t old new → Ports t new
  ports t old new some len placed done = (
    (λ j d h.
        let below : j + 1 < length old = omega (arith, h, len) in
        let p = placed.0 j d below in
        ran object t _ p.0 (get_or old j d) (get_or new j d) p.1 (done j d (omega (arith, below)))),
    (λ d. subst (λ (n : ℕ). HasPort t (root_view setup (n - 1)) (get_or new (n - 1) d)) (sym len)
        (let p = placed.1 d in let last : length old - 1 < length old = omega (arith, some) in ran object t _ p.0 (get_or old (length old - 1) d) (get_or new (length old - 1) d) p.1 (done (length old - 1) d last))),
  )

  pub ports_of : (t : TableId) (n : ℕ) (old slice new : List (Worker C S W)) (len : ℕ) → 0 < n → length old ≡ n → slice ≡ old → length new ≡ length slice → len ≡ length old → PlacedAll t n old → AllWorked t slice new
      → Ports t (take len (new ++ drop (length new) old))
  ports_of t n old slice new len some count same long is placed done =
      let there : PlacedAll t (length slice) slice = subst (λ (l : List (Worker C S W)). PlacedAll t (length l) l) (sym same) (subst (λ (k : ℕ). PlacedAll t k old) (sym count) placed) in
      subst (λ (l : List (Worker C S W)). Ports t l) (sym (back new old len (long ∙ ap length same) is))
      (ports t slice new (let e = ap length same in omega (arith, e, count, some)) long there done)

-- the lines of each seat are of the commands of its file
module _ {C S W : Type 0} (object : Object) (setup : Setup) where
  abbrev pub HasLines : List (List Receipt) → List (Worker C S W) → Type 0
  HasLines all ws = ((j : ℕ) (d : Worker C S W) → j + 1 < length ws → lines_at all (length ws) (j + 1) ≡ (get_or ws j d).receipts.items) × ((d : Worker C S W) → lines_at all (length ws) 0 ≡ (get_or ws (length ws - 1) d).receipts.items)

  abbrev pub HasCommands : List (List Op) → List (Worker C S W) → Type 0
  HasCommands files ws = ((j : ℕ) (d : Worker C S W) → j + 1 < length ws → (get_or ws j d).commands.items ≡ get_or files (j + 1) []) × ((d : Worker C S W) → (get_or ws (length ws - 1) d).commands.items ≡ get_or files 0 [])

  at_seat : (t : TableId) (files : List (List Op)) (all : List (List Receipt)) (old new : List (Worker C S W)) (d : Worker C S W) → length new ≡ length old → AllWorked object setup t old new → HasCommands files old → HasLines all new
      → (k j : ℕ) → k < length new → k ≡ j + 1 → ops_of (lines_at all (length new) k) ≡ get_or files k []
  at_seat t files all old new d many done commands lines k j low is =
      subst (λ (i : ℕ). ops_of (lines_at all (length new) i) ≡ get_or files i []) (sym is)
      (ap ops_of (lines.0 j d (omega (arith, low, is))) ∙ (done j d (omega (arith, low, is, many))).1.ops ∙ commands.0 j d (omega (arith, low, is, many)))

  each_ops : (t : TableId) (files : List (List Op)) (all : List (List Receipt)) (old new : List (Worker C S W)) (d : Worker C S W) → length new ≡ length old → AllWorked object setup t old new → HasCommands files old → HasLines all new
      → (k : ℕ) → k < length new → ops_of (lines_at all (length new) k) ≡ get_or files k []
  each_ops t files all old new d many done commands lines zero low =
      ap ops_of (lines.1 d) ∙ (done (length new - 1) d (omega (arith, low, many))).1.ops ∙ ap (λ (m : ℕ). (get_or old (m - 1) d).commands.items) many ∙ commands.1 d
  each_ops t files all old new d many done commands lines (suc k) low = at_seat t files all old new d many done commands lines (suc k) k low (omega arith)

  pub all_ops : (t : TableId) (files : List (List Op)) (all : List (List Receipt)) (old new : List (Worker C S W)) → length new ≡ length old → AllWorked object setup t old new → HasCommands files old → HasLines all new
      → (k : ℕ) → k < length new → ops_of (lines_at all (length new) k) ≡ get_or files k []
  all_ops t files all old [] many done commands lines k low = absurd (omega (arith, low))
  all_ops t files all old (w ∷ new) many done commands lines k low = each_ops t files all old (w ∷ new) w many done commands lines k low
