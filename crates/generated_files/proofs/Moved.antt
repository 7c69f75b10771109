-- The commands of a seed, told from where its numbers stand.
use Rattle.std.proofs.Common.{arith, ◌≡◌, ◌∙◌, refl, sym, ap, ℕ, zero, suc, ◌+◌, ◌*◌, List, [], ◌∷◌, ◌++◌, map}
use Rattle.std.specs.List.{range_with_len}
use Rattle.std.proofs.lemmas.List.FromFn.{map-range_with_len_more}
use Rattle.lin_report.specs.declared.calls.Client.{Client}
use Rattle.lin_report.specs.declared.calls.Op.{Op}
use Rattle.generated_files.specs.Numbers.{draw, number_after}
use Rattle.generated_files.specs.Generated.{command_after, command_of, file_after, generated_file, generated_files}
use Rattle.generated_files.proofs.Numbering.{draw_behind}

pub command_behind : (c : Client) (x k n m : ℕ) → k + n ≡ m → command_after c (number_after x (3 * k)) n ≡ command_after c x m
command_behind c x k n m e =
    ap (λ a. command_of c a (draw (number_after x (3 * k)) (3 * n + 1)) (draw (number_after x (3 * k)) (3 * n + 2))) (draw_behind x (3 * k) (3 * n) (3 * m) (omega (arith, e)))
    ∙ ap (λ b. command_of c (draw x (3 * m)) b (draw (number_after x (3 * k)) (3 * n + 2))) (draw_behind x (3 * k) (3 * n + 1) (3 * m + 1) (omega (arith, e)))
    ∙ ap (λ d. command_of c (draw x (3 * m)) (draw x (3 * m + 1)) d) (draw_behind x (3 * k) (3 * n + 2) (3 * m + 2) (omega (arith, e)))

-- two functions that agree from two places on
agree : {A : Type 0} (f g : ℕ → A) (a b n : ℕ) → ((i : ℕ) → f (a + i) ≡ g (b + i)) → map f (range_with_len a n) ≡ map g (range_with_len b n)
agree f g a b zero each = refl
agree f g a b (suc n) each =
    ap (λ x. x ∷ map f (range_with_len (a + 1) n)) (ap f (let e : a ≡ a + 0 = omega arith in e) ∙ each 0 ∙ ap g (let e : b + 0 ≡ b = omega arith in e))
    ∙ ap (λ l. g b ∷ l) (agree f g (a + 1) (b + 1) n (λ i. ap f (let e : a + 1 + i ≡ a + suc i = omega arith in e) ∙ each (suc i) ∙ ap g (let e : b + suc i ≡ b + 1 + i = omega arith in e)))

-- a seat's file is the next one where the files of the seats before it were made
pub file_of_seat : (c : Client) (seed calls seat : ℕ) → file_after c (number_after seed (3 * (seat * calls))) calls ≡ generated_file c seed calls seat
file_of_seat c seed calls seat =
    agree (command_after c (number_after seed (3 * (seat * calls)))) (command_after c seed) 0 (seat * calls) calls (λ i. command_behind c seed (seat * calls) (0 + i) (seat * calls + i) (omega arith))

-- one more command, and one more file
pub file_grows : (c : Client) (x n : ℕ) → file_after c x (n + 1) ≡ file_after c x n ++ command_after c (number_after x (3 * n)) 0 ∷ []
file_grows c x n =
    map-range_with_len_more (command_after c x) 0 n n (omega arith)
    ∙ ap (λ (op : Op). file_after c x n ++ op ∷ []) (sym (command_behind c x n 0 n (omega arith)))

pub files_grow : (c : Client) (seed calls seats : ℕ) → generated_files c seed (seats + 1) calls ≡ generated_files c seed seats calls ++ file_after c (number_after seed (3 * (seats * calls))) calls ∷ []
files_grow c seed calls seats =
    map-range_with_len_more (generated_file c seed calls) 0 seats seats (omega arith)
    ∙ ap (λ (f : List Op). generated_files c seed seats calls ++ f ∷ []) (sym (file_of_seat c seed calls seats))

pub of_draws : (c : Client) {a b d a' b' d' : ℕ} → a ≡ a' → b ≡ b' → d ≡ d' → command_of c a b d ≡ command_of c a' b' d'
of_draws c {a} {b} {d} {a'} {b'} {d'} p q r = ap (λ x. command_of c x b d) p ∙ ap (λ y. command_of c a' y d) q ∙ ap (λ z. command_of c a' b' z) r

-- how many numbers one more file takes
pub one_more : (n calls : ℕ) → 3 * (n * calls) + 3 * calls ≡ 3 * ((n + 1) * calls)
one_more n calls = omega arith
