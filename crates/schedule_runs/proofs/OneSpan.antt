-- A span is one number of steps.
use Rattle.std.proofs.Common.{rules, arith, ◌≡◌, ◌∙◌, ◌+◌, ◌<◌, ◌≤◌, refl, sym, ℕ, suc, zero, Bool, true, false, ◌⊎◌, inl, inr}
use Rattle.std.proofs.lemmas.Bool.{cases_order}
use Rattle.script_reader.specs.declared.schedules.Span.{Span}
use Rattle.script_reader.specs.declared.schedules.Span.TheVariants.{Steps, ToEnd, ToExchange}
use Rattle.script_reader.specs.Schedules.{STEP_LIMIT}
use Rattle.normal_traits.specs.NormalForm.{NormalForm}
use Rattle.event_core.specs.Cores.{CoreView}
use Rattle.schedule_runs.specs.Spans.{IsFirst, SpanIs, ends_at, reaches_at}

both : (b : Bool) → b ≡ true → b ≡ false → ⊥
both true t f = absurd (search rules)
both false t f = absurd (search rules)

no_less : (holds : ℕ → Bool) (n m : ℕ) → IsFirst holds n → IsFirst holds m → n < m → ⊥
no_less holds n m first later less =
    let most = later.most in both (holds n) (first.here (omega (arith, less, most))) (later.before n first.some less)

one_by : (holds : ℕ → Bool) (n m : ℕ) → IsFirst holds n → IsFirst holds m → (n ≡ m) ⊎ ((n < m) ⊎ (m < n)) → n ≡ m
one_by holds n m first later (inl same) = same
one_by holds n m first later (inr (inl less)) = absurd (no_less holds n m first later less)
one_by holds n m first later (inr (inr more)) = absurd (no_less holds m n later first more)

pub first_is_one : (holds : ℕ → Bool) (n m : ℕ) → IsFirst holds n → IsFirst holds m → n ≡ m
first_is_one holds n m first later = one_by holds n m first later (cases_order n m)

-- a number at which it holds is looked for, with so many left
pub none_past : (holds : ℕ → Bool) (n : ℕ) → ((m : ℕ) → 1 ≤ m → m < n → holds m ≡ false) → holds n ≡ false → (m : ℕ) → 1 ≤ m → m < n + 1 → (m ≡ n) ⊎ ((m < n) ⊎ (n < m)) → holds m ≡ false
none_past holds n none not m some below (inl same) = rw same not
none_past holds n none not m some below (inr (inl less)) = none m some less
none_past holds n none not m some below (inr (inr more)) = absurd (omega (arith, below, more))

pick : {P : Type 0} → (b : Bool) → (b ≡ true → P) → (b ≡ false → P) → P
pick true here there = here refl
pick false here there = there refl

look : (holds : ℕ → Bool) (left n : ℕ) → n + left ≡ STEP_LIMIT → 1 ≤ n → ((m : ℕ) → 1 ≤ m → m < n → holds m ≡ false) → (first : ℕ) × IsFirst holds first
look holds zero n sum some none = (n, record { some = some; most = omega (arith, sum); before = none; here = λ below. absurd (omega (arith, sum, below)) })
look holds (suc left) n sum some none =
    pick (holds n)
    (λ is. (n, record { some = some; most = omega (arith, sum); before = none; here = λ below. is }))
    (λ not. look holds left (n + 1) (omega (arith, sum)) (omega arith) (λ m one below. none_past holds n none not m one below (cases_order m n)))

pub first_of : (holds : ℕ → Bool) → (first : ℕ) × IsFirst holds first
first_of holds = look holds 16383 1 refl (omega arith) (λ m some below. absurd (omega (arith, some, below)))

module _ {S W : Type 0} (form : NormalForm S W) where
  pub span_is_one : (seat : ℕ) (view : CoreView S W) (span : Span) (n m : ℕ) → SpanIs form seat view span n → SpanIs form seat view span m → n ≡ m
  span_is_one seat view (Steps count) n m a b = a ∙ sym b
  span_is_one seat view ToEnd n m a b = first_is_one (ends_at form seat view) n m a b
  span_is_one seat view ToExchange n m a b = first_is_one (reaches_at form seat view) n m a b

  pub span_of : (seat : ℕ) (view : CoreView S W) (span : Span) → (n : ℕ) × SpanIs form seat view span n
  span_of seat view (Steps count) = (count, refl)
  span_of seat view ToEnd = first_of (ends_at form seat view)
  span_of seat view ToExchange = first_of (reaches_at form seat view)
