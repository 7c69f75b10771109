-- A fact of each place of a list, as the list grows at its end.
use Rattle.std.proofs.Common.{◌≡◌, ℕ, zero, suc, ◌+◌, ◌<◌, List, [], ◌∷◌, ◌++◌, length, get_or, refl, ◌∙◌, subst, arith}
use Rattle.atomic_table.specs.Seated.{TableId}
use Rattle.shared_memory.specs.declared.view.View.{View}
use Rattle.thread_runs.specs.declared.worker.Worker.{Worker}
use Rattle.lin_report.specs.Object.{Object}
use Rattle.lin_report.specs.declared.calls.Op.{Op}
use Rattle.thread_runs.specs.Placed.{IsPlaced}

pub snoc_all : {A : Type 0} (P : ℕ → A → Type 0) (ws : List A) (w : A) (k : ℕ) → ((j : ℕ) (d : A) → j < length ws → P (j + k) (get_or ws j d)) → P (length ws + k) w → (j : ℕ) (d : A) → j < length ws + 1 → P (j + k) (get_or (ws ++ w ∷ []) j d)
snoc_all P [] w k all last zero d h = last
snoc_all P [] w k all last (suc j) d h = absurd (omega arith)
snoc_all P (x ∷ xs) w k all last zero d h = all 0 d (omega arith)
snoc_all P (x ∷ xs) w k all last (suc j) d h =
    subst (λ (n : ℕ). P n (get_or (xs ++ w ∷ []) j d)) (omega arith)
    (snoc_all P xs w (k + 1) (λ i e below. subst (λ (n : ℕ). P n (get_or xs i e)) (omega arith) (all (suc i) e (omega arith))) (subst (λ (n : ℕ). P n w) (omega arith) last) j d (omega arith))

pub snoc_each : {A : Type 0} (P : ℕ → A → Type 0) (ws : List A) (w : A) → ((j : ℕ) (d : A) → j < length ws → P j (get_or ws j d)) → P (length ws) w → (j : ℕ) (d : A) → j < length ws + 1 → P j (get_or (ws ++ w ∷ []) j d)
snoc_each P ws w all last j d h =
    subst (λ (n : ℕ). P n (get_or (ws ++ w ∷ []) j d)) (omega arith) (snoc_all P ws w 0 (λ i e below. subst (λ (n : ℕ). P n (get_or ws i e)) (omega arith) (all i e below)) (subst (λ (n : ℕ). P n w) (omega arith) last) j d h)

pub get_any : {A : Type 0} (l : List A) (i : ℕ) (d e : A) → i < length l → get_or l i d ≡ get_or l i e
get_any [] i d e h = absurd (omega arith)
get_any (x ∷ xs) zero d e h = refl
get_any (x ∷ xs) (suc i) d e h = get_any xs i d e (omega arith)

pub placed_as : {C S W : Type 0} (object : Object) (t u : TableId) (v w : View C S W) (f h : List Op) (x : Worker C S W) → t ≡ u → v ≡ w → f ≡ h → IsPlaced object t v f x → IsPlaced object u w h x
placed_as object t u v w f h x a b c p = record { view = p.view ∙ b; of_table = p.of_table ∙ a; commands = p.commands ∙ c; ready = p.ready }

pub get_front : {A : Type 0} (l m : List A) (i : ℕ) (d : A) → i < length l → get_or (l ++ m) i d ≡ get_or l i d
get_front [] m i d h = absurd (omega arith)
get_front (x ∷ xs) m zero d h = refl
get_front (x ∷ xs) m (suc i) d h = get_front xs m i d (omega arith)
