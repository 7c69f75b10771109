-- The lines of all seats, put together.
use Rattle.std.proofs.Common.{arith, ◌≡◌, ◌∙◌, refl, sym, subst, ap, ℕ, zero, suc, ◌+◌, ◌-◌, ◌<◌, true, List, [], ◌∷◌, ◌++◌, length, length-append, flat_map, get_or}
use Rattle.std.proofs.lemmas.Option.{slice_get_within}
use Rattle.lin_report.specs.declared.calls.Op.{Op}
use Rattle.lin_report.specs.declared.calls.Receipt.{Receipt}
use Rattle.normal_traits.specs.NormalForm.{NormalForm}
use Rattle.fast_slow_engine.specs.declared.setup.Setup.{Setup}
use Rattle.fast_slow_engine.specs.Mechs.{Mech}
use Rattle.fast_slow_engine.specs.PhaseTable.{rests}
use Rattle.fast_slow_engine.specs.Runs.{run_of}
use Rattle.run_laws.proofs.MachinesKept.{seats_stay}
use Rattle.run_laws.proofs.Steps.{some_same}
use Rattle.move_orders.specs.SeatLines.{lines_down, lines_of, ops_of}
use Rattle.thread_runs.specs.Whole.{IsRun, IsRunBySeats, lines_at}

abbrev pub flat : {A : Type 0} → List (List A) → List A
flat xss = flat_map (λ xs. xs) xss

-- how many there are of the first seats, so many
abbrev count_down : ℕ → (ℕ → ℕ) → ℕ
count_down zero f = 0
count_down (suc n) f = f n + count_down n f

count_same : (n : ℕ) (f g : ℕ → ℕ) → ((k : ℕ) → k < n → f k ≡ g k) → count_down n f ≡ count_down n g
count_same zero f g each = refl
count_same (suc n) f g each = ap (λ a. a + count_down n f) (each n (omega arith)) ∙ ap (λ b. g n + b) (count_same n f g (λ k low. each k (omega (arith, low))))

count_first : (n : ℕ) (f : ℕ → ℕ) → count_down (suc n) f ≡ f 0 + count_down n (λ k. f (suc k))
count_first zero f = refl
count_first (suc n) f = let h = count_first n f in omega (arith, h)

count_files : {A : Type 0} (xss : List (List A)) → length (flat xss) ≡ count_down (length xss) (λ k. length (get_or xss k []))
count_files [] = refl
count_files (xs ∷ xss) = length-append xs (flat xss) ∙ ap (λ b. length xs + b) (count_files xss) ∙ sym (count_first (length xss) (λ k. length (get_or (xs ∷ xss) k [])))

-- the lines of all seats, from the last one down, are those of the run put down so
put_down : (n : ℕ) (all : List (List Receipt)) (rs : List Receipt) → length all ≡ n → ((k : ℕ) → k < n → lines_at all n k ≡ lines_of k rs) → flat all ≡ lines_down n rs
put_down zero [] rs count each = refl
put_down zero (x ∷ xs) rs count each = absurd (omega (arith, count))
put_down (suc n) [] rs count each = absurd (omega (arith, count))
put_down (suc n) (x ∷ xs) rs count each =
    let first : x ≡ lines_of n rs = ap (λ (i : ℕ). get_or (x ∷ xs) i []) (let z : 0 ≡ suc n - 1 - n = omega arith in z) ∙ each n (omega arith) in
    ap (λ l. l ++ flat xs) first
    ∙ ap (λ l. lines_of n rs ++ l) (put_down n xs rs (omega (arith, count)) (λ k low. ap (λ (i : ℕ). get_or (x ∷ xs) i []) (let z : suc (n - 1 - k) ≡ suc n - 1 - k = omega (arith, low) in z) ∙ each k (omega (arith, low))))

count_lines : (n : ℕ) (all : List (List Receipt)) → length all ≡ n → length (flat all) ≡ count_down n (λ k. length (lines_at all n k))
count_lines zero [] count = refl
count_lines zero (x ∷ xs) count = absurd (omega (arith, count))
count_lines (suc n) [] count = absurd (omega (arith, count))
count_lines (suc n) (x ∷ xs) count =
    length-append x (flat xs)
    ∙ ap (λ b. length x + b) (count_lines n xs (omega (arith, count)) ∙ count_same n (λ k. length (lines_at xs n k)) (λ k. length (lines_at (x ∷ xs) (suc n) k)) (λ k low. ap (λ (i : ℕ). length (get_or (x ∷ xs) i [])) (let z : suc (n - 1 - k) ≡ suc n - 1 - k = omega (arith, low) in z)))
    ∙ ap (λ (i : ℕ). length (get_or (x ∷ xs) i []) + count_down n (λ k. length (lines_at (x ∷ xs) (suc n) k))) (let z : 0 ≡ suc n - 1 - n = omega arith in z)

long_ops : (rs : List Receipt) → length (ops_of rs) ≡ length rs
long_ops [] = refl
long_ops (r ∷ rs) = ap suc (long_ops rs)

-- there is a line for each command
pub as_many : (n : ℕ) (all : List (List Receipt)) (files : List (List Op)) → length all ≡ n → length files ≡ n → ((k : ℕ) → k < n → ops_of (lines_at all n k) ≡ get_or files k []) → length (flat all) ≡ length (flat files)
as_many n all files count many ops =
    count_lines n all count
    ∙ count_same n (λ k. length (lines_at all n k)) (λ k. length (get_or files k [])) (λ k low. sym (long_ops (lines_at all n k)) ∙ ap length (ops k low))
    ∙ ap (λ m. count_down m (λ k. length (get_or files k []))) (sym many) ∙ sym (count_files files)

pub together : {S W : Type 0} (form : NormalForm S W) (setup : Setup) (files : List (List Op)) (all : List (List Receipt)) (lines : List Receipt) (ticks claimed : ℕ) → lines ≡ flat all → IsRunBySeats form setup files all ticks claimed → IsRun form setup files lines ticks claimed
together {S} {W} form setup files all lines ticks claimed is run =
    let state = run_of form setup run.moves in
    let seated = seats_stay form setup run.moves run.are in
    record {
      moves = run.moves;
      are = run.are;
      drawn = run.drawn;
      asked = run.asked;
      idle = λ seat mech found.
          let low = slice_get_within state.mechs seat mech found in
          let count = seated.count in
          let r = run.rest seat (omega (arith, low, count)) in
          subst (λ (m : Mech S W). rests m.phase ≡ true) (some_same r.mech mech (sym r.has.machine ∙ found)) r.idle;
      ops = λ seat low. ap ops_of (run.rest seat low).has.lines ∙ run.ops seat low;
      same = is ∙ put_down setup.seats all state.receipts run.count (λ k low. sym (run.rest k low).has.lines);
    }
