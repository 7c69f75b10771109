-- What one seat did alone drew each tick once.
use Rattle.std.proofs.Common.{◌≡◌, ◌≢◌, ℕ, ◌+◌, ◌-◌, ◌*◌, ◌<◌, ◌≤◌, ◌==◌, cond, List, [], ◌∷◌, ◌++◌, map, length, count_by, length-append, refl, ◌∙◌, inl, inr, arith}
use Rattle.std.proofs.lemmas.Bool.{cases_lt}
use Rattle.std.proofs.lemmas.Bool.Decides.{nat_tests}
use Rattle.std.proofs.lemmas.List.{length-map}
use Rattle.std.proofs.lemmas.List.Sums.{sum_by-cons, sum_by-append}
use Rattle.lin_report.specs.declared.calls.Op.{Op}
use Rattle.lin_report.specs.declared.calls.Receipt.{Receipt}
use Rattle.lin_report.specs.Object.{Object}
use Rattle.lin_report.specs.Report.{ticks_of}
use Rattle.lin_report.specs.Sequence.{sequential_receipts, sequential_report}

-- 1 where the tick is t, and else 0
abbrev hits : ℕ → ℕ → ℕ
hits t tick = cond (tick == t) 1 0

hit : (t tick : ℕ) → tick ≡ t → hits t tick ≡ 1
hit t tick same = grind (arith, nat_tests)

miss : (t tick : ℕ) → tick ≢ t → hits t tick ≡ 0
miss t tick apart = grind (arith, nat_tests)

module _ (object : Object) where
  begins : ℕ → object.Held → List Op → List ℕ
  begins first held more = map (λ (r : Receipt). r.begin) (sequential_receipts object first held more)

  ends : ℕ → object.Held → List Op → List ℕ
  ends first held more = map (λ (r : Receipt). r.end) (sequential_receipts object first held more)

  -- how often t is among the ticks from the first call on
  drawn : ℕ → ℕ → object.Held → List Op → ℕ
  drawn t first held more = count_by (λ tick. tick == t) (begins first held more) + count_by (λ tick. tick == t) (ends first held more)

  drawn-cons : (t first : ℕ) (held : object.Held) (op : Op) (more : List Op) →
      drawn t first held (op ∷ more) ≡ (hits t (2 * first - 2) + hits t (2 * first - 1)) + drawn t (first + 1) (object.apply op held).0 more
  unfolding drawn begins ends
  drawn-cons t first held op more =
      omega (arith, sum_by-cons (hits t) (2 * first - 2) (begins (first + 1) (object.apply op held).0 more), sum_by-cons (hits t) (2 * first - 1) (ends (first + 1) (object.apply op held).0 more))

  none_before : (t first : ℕ) (held : object.Held) (more : List Op) → 0 < first → t < 2 * first - 2 → drawn t first held more ≡ 0
  unfolding drawn begins ends
  none_before t first held [] counted before = refl
  none_before t first held (op ∷ more) counted before =
      omega (
        arith,
        drawn-cons t first held op more,
        miss t (2 * first - 2) (omega arith),
        miss t (2 * first - 1) (omega arith),
        none_before t (first + 1) (object.apply op held).0 more (omega arith) (omega arith),
      )

  once_within : (t first : ℕ) (held : object.Held) (more : List Op) → 0 < first → 2 * first - 2 ≤ t → t < 2 * first - 2 + 2 * length more → drawn t first held more ≡ 1
  once_within t first held [] counted from before = absurd (omega arith)
  once_within t first held (op ∷ more) counted from before =
      let step = drawn-cons t first held op more in
      let after = (object.apply op held).0 in
      elim (cases_lt t (2 * first - 1)) [
        | inl early ↦ omega (arith, step, hit t (2 * first - 2) (omega arith), miss t (2 * first - 1) (omega arith), none_before t (first + 1) after more (omega arith) (omega arith))
        | inr late ↦ elim (cases_lt t (2 * first)) [
          | inl early ↦ omega (arith, step, miss t (2 * first - 2) (omega arith), hit t (2 * first - 1) (omega arith), none_before t (first + 1) after more (omega arith) (omega arith))
          | inr later ↦ omega (arith, step, miss t (2 * first - 2) (omega arith), miss t (2 * first - 1) (omega arith), once_within t (first + 1) after more (omega arith) (omega arith) (omega arith))
        ]
      ]

  pub length-ticks : (ops : List Op) → length (ticks_of (sequential_report object ops)) ≡ 2 * length (sequential_report object ops).receipts
  unfolding begins ends
  length-ticks ops =
      length-append (begins 1 object.empty ops ++ ends 1 object.empty ops) []
      ∙ omega (arith, length-append (begins 1 object.empty ops) (ends 1 object.empty ops), length-map (sequential_report object ops).receipts (λ (r : Receipt). r.begin), length-map (sequential_report object ops).receipts (λ (r : Receipt). r.end))

  pub each_tick : (t : ℕ) (ops : List Op) → t < 2 * length ops → count_by (λ tick. tick == t) (ticks_of (sequential_report object ops)) ≡ 1
  unfolding drawn begins ends
  each_tick t ops below =
      sum_by-append (hits t) (begins 1 object.empty ops ++ ends 1 object.empty ops) []
      ∙ omega (arith, sum_by-append (hits t) (begins 1 object.empty ops) (ends 1 object.empty ops), once_within t 1 object.empty ops (omega arith) (omega arith) (omega arith))
