-- What the root's view becomes as it takes in the ports from the last seat down.
use Rattle.std.proofs.Common.{◌≡◌, ℕ, zero, suc, ◌+◌, ◌-◌, ◌<◌, false, true, List, [], ◌∷◌, ◌++◌, length, get_or, map, refl, sym, ap, ◌∙◌, arith, length-append}
use Rattle.lin_report.specs.declared.calls.Receipt.{Receipt}
use Rattle.fast_slow_engine.specs.declared.setup.Setup.{Setup}
use Rattle.fast_slow_engine.specs.Mechs.{Mech}
use Rattle.shared_memory.specs.declared.view.View.{View}
use Rattle.shared_memory.specs.declared.view.Gathered.{Gathered}
use Rattle.shared_memory.specs.Views.{glued, new_view}
use Rattle.thread_runs.proofs.Places.{get_front}
use Rattle.thread_runs.specs.Placed.{Gathers, gathers, root_view}
use Rattle.fast_slow_engine.specs.PhaseTable.{rests}

gathers_snoc : (n k : ℕ) (olds : List (List Receipt)) (rs : List Receipt) → length olds + k + 1 ≡ n → gathers n olds ++ record { seat = k; receipts = rs } ∷ [] ≡ gathers n (olds ++ rs ∷ [])
gathers_snoc n k [] rs e = let h : k ≡ n - 1 = omega (arith, e) in ap (λ (j : ℕ). record { seat = j; receipts = rs } ∷ []) h
gathers_snoc n k (x ∷ xs) rs e = let h = gathers_snoc (n - 1) k xs rs (omega (arith, e)) in ap (λ (gs : List Gathered). record { seat = n - 1; receipts = x } ∷ gs) h

pub takes_in : {C S W : Type 0} (setup : Setup) (n r : ℕ) (v w : View C S W) (m : Mech S W) (first rs : List Receipt) (olds : List (List Receipt)) → v ≡ record (root_view setup (n - 1)) { machine = v.machine; receipts = first; gathered = gathers n olds }
    → w ≡ record (new_view r setup false) { machine = m; receipts = rs } → m.seat ≡ r → length olds + r + 1 ≡ n → glued v w ≡ record (root_view setup (n - 1)) { machine = v.machine; receipts = first; gathered = gathers n (olds ++ rs ∷ []) }
takes_in {C} {S} {W} setup n r v w m first rs olds e f own at =
    let there : glued v w ≡ record (root_view setup (n - 1)) { machine = v.machine; receipts = first; gathered = gathers n olds ++ record { seat = m.seat; receipts = rs } ∷ [] } = λ i. glued (e i) (f i) in
    there ∙ ap (λ (gs : List Gathered). record (root_view {C = C} {S = S} {W = W} setup (n - 1)) { machine = v.machine; receipts = first; gathered = gs }) (ap (λ (k : ℕ). gathers n olds ++ record { seat = k; receipts = rs } ∷ []) own ∙ gathers_snoc n r olds rs at)

pub starts : {C S W : Type 0} (setup : Setup) (n : ℕ) (v : View C S W) (m : Mech S W) (rs : List Receipt) (rooms : List (List Receipt)) → rooms ≡ [] → v ≡ record (root_view setup (n - 1)) { machine = m; receipts = rs } → v ≡ record (root_view setup (n - 1)) { machine = v.machine; receipts = rs; gathered = gathers n rooms }
starts setup n v m rs rooms none e = e ∙ (λ i. record (root_view setup (n - 1)) { machine = (sym (ap (λ (w : View _ _ _). w.machine) e)) i; receipts = rs; gathered = gathers n (sym none i) })

module _ {A : Type 0} where
  pub last_of : (old new : List A) (x : A) → old ≡ new ++ x ∷ [] → (n : ℕ) (d : A) → n + 1 ≡ length old → get_or old n d ≡ x
  last_of old new x e n d at = ap (λ (l : List A). get_or l n d) e ∙ go new n (let h = ap length e in omega (arith, at, h, length-append new (x ∷ [])))
    where
      go : (new : List A) (n : ℕ) → n ≡ length new → get_or (new ++ x ∷ []) n d ≡ x
      go [] zero e = refl
      go [] (suc n) e = absurd (omega arith)
      go (y ∷ ys) zero e = absurd (omega arith)
      go (y ∷ ys) (suc n) e = go ys n (omega arith)

  pub front_of : (old new : List A) (x : A) → old ≡ new ++ x ∷ [] → (j : ℕ) (d : A) → j < length new → get_or old j d ≡ get_or new j d
  front_of old new x e j d h = ap (λ (l : List A). get_or l j d) e ∙ get_front new (x ∷ []) j d h

  pub longer_by_one : (old new : List A) (x : A) → old ≡ new ++ x ∷ [] → length old ≡ length new + 1
  longer_by_one old new x e = ap length e ∙ length-append new (x ∷ [])

module _ {A B : Type 0} (f : A → B) where
  pub map_snoc : (l : List A) (x : A) → map f (l ++ x ∷ []) ≡ map f l ++ f x ∷ []
  map_snoc [] x = refl
  map_snoc (y ∷ ys) x = ap (λ (l : List B). f y ∷ l) (map_snoc ys x)

  pub map_length : (l : List A) → length (map f l) ≡ length l
  map_length [] = refl
  map_length (y ∷ ys) = ap suc (map_length ys)

pub takes_in_as : {C S W : Type 0} (setup : Setup) (n r : ℕ) (v w u : View C S W) (m : Mech S W) (first rs : List Receipt) (olds news : List (List Receipt)) → v ≡ record (root_view setup (n - 1)) { machine = v.machine; receipts = first; gathered = gathers n olds }
    → w ≡ record (new_view r setup false) { machine = m; receipts = rs } → m.seat ≡ r → length olds + r + 1 ≡ n → u ≡ glued v w → news ≡ olds ++ rs ∷ [] → u ≡ record (root_view setup (n - 1)) { machine = u.machine; receipts = first; gathered = gathers n news }
takes_in_as setup n r v w u m first rs olds news e f own at g h = (g ∙ takes_in setup n r v w m first rs olds e f own at) ∙ (λ i. record (root_view setup (n - 1)) { machine = (sym (ap (λ (x : View _ _ _). x.machine) g)) i; receipts = first; gathered = gathers n (sym h i) })

-- once all are taken in, the own lines go last
pub has_gathered : {C S W : Type 0} (setup : Setup) (n : ℕ) (v : View C S W) (first : List Receipt) (olds all : List (List Receipt)) → v ≡ record (root_view setup (n - 1)) { machine = v.machine; receipts = first; gathered = gathers n olds }
    → all ≡ olds ++ first ∷ [] → length olds + 1 ≡ n → rests v.machine.phase ≡ true → v.machine.seat ≡ 0 → v.machine.setup ≡ setup → Gathers setup n v all
has_gathered {C} {S} {W} setup n v first olds all e lines count idle seat run =
    let same : first ≡ v.receipts = sym (ap (λ (x : View C S W). x.receipts) e) in
    record {
      older = olds;
      lines = lines ∙ ap (λ (r : List Receipt). olds ++ r ∷ []) same;
      count = count;
      idle = idle;
      of_zero = seat;
      of_run = run;
      is = e ∙ ap (λ (r : List Receipt). record (root_view {C = C} {S = S} {W = W} setup (n - 1)) { machine = v.machine; receipts = r; gathered = gathers n olds }) same;
    }

-- what is known of each list, and of the one that is put last
pub room_more : {A : Type 0} (xs : List (List A)) (x : List A) (P : ℕ → List A) → ((k : ℕ) → k < length xs → get_or xs k [] ≡ P k) → x ≡ P (length xs) → (k : ℕ) → k < length xs + 1 → get_or (xs ++ x ∷ []) k [] ≡ P k
room_more [] x P each last zero low = last
room_more [] x P each last (suc k) low = absurd (omega (arith, low))
room_more (y ∷ xs) x P each last zero low = each 0 (omega arith)
room_more (y ∷ xs) x P each last (suc k) low = room_more xs x (λ m. P (suc m)) (λ m h. each (suc m) (omega (arith, h))) last k (omega (arith, low))
