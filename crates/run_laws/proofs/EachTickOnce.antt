-- Each tick below the counter is that of one begin or return.
use Rattle.std.proofs.Common.{arith, ◌≡◌, ◌≢◌, ◌∙◌, refl, sym, subst, ap, ℕ, ◌+◌, ◌≤◌, ◌==◌, cond, nat_lt, List, [], ◌∷◌, ◌++◌, map, length, count_by, inl, inr}
use Rattle.std.specs.Prelude.{flat_map, sum_by}
use Rattle.std.specs.Option.{option_to_list}
use Rattle.std.proofs.lemmas.Bool.{cases_lt, cases_eq}
use Rattle.std.proofs.lemmas.Bool.Decides.{nat_tests}
use Rattle.std.proofs.lemmas.List.Sums.{sum_by-append, sum_by-cons, sum_by-le}
use Rattle.lin_report.specs.declared.calls.PendingCall.{PendingCall}
use Rattle.lin_report.specs.declared.calls.Receipt.{Receipt}
use Rattle.lin_report.specs.Report.{ticks_of}
use Rattle.normal_traits.specs.NormalForm.{NormalForm}
use Rattle.fast_slow_engine.specs.declared.setup.Setup.{Setup}
use Rattle.fast_slow_engine.specs.Mechs.{Mech}
use Rattle.fast_slow_engine.specs.PhaseTable.{mech_pending, ticks_left}
use Rattle.fast_slow_engine.specs.Runs.{Move, RunState, AreMoves, pending_of, run_of}
use Rattle.fast_slow_engine.specs.Reports.{report_of_run}
use Rattle.run_laws.specs.Ticks.{KeepsTicks}
use Rattle.run_laws.proofs.MachinesKept.{new_mech}
use Rattle.run_laws.proofs.StepKinds.{StepKind, begins, returns, goes, pending_none, pending_open}
use Rattle.run_laws.proofs.TicksCounted.{each_all, opening_word_at, set_sum}
use Rattle.run_laws.proofs.Summaries.{HasBegun, ran, started, Summary, every_run, tick_of}

-- 1 where the tick is t, and else 0
abbrev pub hits : ℕ → ℕ → ℕ
hits t tick = cond (tick == t) 1 0

-- 1 where t was drawn, and else 0
abbrev pub is_below : ℕ → ℕ → ℕ
is_below t tick = cond (nat_lt t tick) 1 0

below_more : (t tick : ℕ) → is_below t (tick + 1) ≡ is_below t tick + hits t tick
below_more t tick =
    elim (cases_lt t tick) [
      | inl early ↦ grind (arith, nat_tests)
      | inr late ↦ elim (cases_eq tick t) [ inl same ↦ grind (arith, nat_tests) | inr apart ↦ grind (arith, nat_tests) ]
    ]

sum_by-map : {X Y : Type 0} (f : Y → ℕ) (g : X → Y) (xs : List X) → sum_by f (map g xs) ≡ sum_by (λ x. f (g x)) xs
sum_by-map f g [] = refl
sum_by-map f g (x ∷ xs) = sum_by-cons f (g x) (map g xs) ∙ ap (λ n. f (g x) + n) (sum_by-map f g xs) ∙ sym (sum_by-cons (λ y. f (g y)) x xs)

sum_by-flat_map : {X Y : Type 0} (f : Y → ℕ) (g : X → List Y) (xs : List X) → sum_by f (flat_map g xs) ≡ sum_by (λ x. sum_by f (g x)) xs
sum_by-flat_map f g [] = refl
sum_by-flat_map f g (x ∷ xs) = sum_by-append f (g x) (flat_map g xs) ∙ ap (λ n. sum_by f (g x) + n) (sum_by-flat_map f g xs) ∙ sym (sum_by-cons (λ y. sum_by f (g y)) x xs)

sum_by-both : {X : Type 0} (f g : X → ℕ) (xs : List X) → sum_by (λ x. f x + g x) xs ≡ sum_by f xs + sum_by g xs
sum_by-both f g [] = refl
sum_by-both f g (x ∷ xs) = omega (arith, sum_by-cons (λ y. f y + g y) x xs, sum_by-both f g xs, sum_by-cons f x xs, sum_by-cons g x xs)

-- what the ticks of a receipt, and of a machine's pending call, come to by a weight of ticks
abbrev pub of_receipt : (ℕ → ℕ) → Receipt → ℕ
of_receipt f r = f r.begin + f r.end

length-sum : {X : Type 0} (xs : List X) → sum_by (λ x. 1) xs ≡ length xs
length-sum [] = refl
length-sum (x ∷ xs) = omega (arith, sum_by-cons (λ y. 1) x xs, length-sum xs)

module _ {S W : Type 0} where
  abbrev pub of_mech : (ℕ → ℕ) → Mech S W → ℕ
  of_mech f mech = sum_by (λ (p : PendingCall). f p.begin) (option_to_list (mech_pending mech))

  of_open : (f : ℕ → ℕ) (mech : Mech S W) → ticks_left mech.phase ≡ 1 → of_mech f mech ≡ f mech.begin
  of_open f mech one =
      let is : of_mech f mech ≡ 0 + f mech.begin = ap (λ o. sum_by (λ (p : PendingCall). f p.begin) (option_to_list o)) (pending_open mech.phase mech one) in
      omega (arith, is)

  of_none : (f : ℕ → ℕ) (mech : Mech S W) → ticks_left mech.phase ≢ 1 → of_mech f mech ≡ 0
  of_none f mech other = ap (λ o. sum_by (λ (p : PendingCall). f p.begin) (option_to_list o)) (pending_none mech.phase mech other)

  -- the weight of all ticks that were drawn
  abbrev pub drawn_of : (ℕ → ℕ) → RunState S W → ℕ
  drawn_of f state = sum_by (of_receipt f) state.receipts + sum_by (of_mech f) state.mechs

  begun_weight : (f : ℕ → ℕ) (old mech : Mech S W) → HasBegun old mech → of_mech f mech ≡ of_mech f old
  begun_weight f old mech has =
      elim has [
        | ran same ↦ ap (of_mech f) same
        | started rest two number ↦ of_none f mech (λ one. omega (arith, one, two)) ∙ sym (of_none f old (λ one. omega (arith, one, rest)))
      ]

  step_weight : (f g : ℕ → ℕ) (mech new : Mech S W) (lines : List Receipt) (events before after : ℕ) → ((tick : ℕ) → g (tick + 1) ≡ g tick + f tick) → StepKind mech.phase mech new lines events before after
      → g after + of_mech f mech ≡ g before + (sum_by (of_receipt f) lines + of_mech f new)
  step_weight f g mech new lines events before after more kind =
      elim kind [
        | begins two one begin none event word ↦
            let line : sum_by (of_receipt f) lines ≡ 0 = ap (sum_by (of_receipt f)) none in
            let weight : of_mech f new ≡ f before = of_open f new one ∙ ap f begin in
            let rise : g after ≡ g before + f before = ap g word ∙ more before in
            omega (arith, line, weight, rise, of_none f mech (λ left. omega (arith, left, two)))
        | returns reply one rest line event word ↦
            let line : sum_by (of_receipt f) lines ≡ 0 + (f mech.begin + f before) = ap (sum_by (of_receipt f)) line in
            let rise : g after ≡ g before + f before = ap g word ∙ more before in
            omega (arith, line, rise, of_open f mech one, of_none f new (λ left. omega (arith, left, rest)))
        | goes one still begin none event word ↦
            let line : sum_by (of_receipt f) lines ≡ 0 = ap (sum_by (of_receipt f)) none in
            let weight : of_mech f new ≡ f mech.begin = of_open f new still ∙ ap f begin in
            let rise : g after ≡ g before = ap g word in
            omega (arith, line, weight, rise, of_open f mech one)
      ]

  -- where g adds up a weight f of the ticks below the counter, it is the weight of the ticks that were drawn
  abbrev pub Weighs : (ℕ → ℕ) → (ℕ → ℕ) → RunState S W → Type 0
  Weighs f g state = drawn_of f state ≡ g (tick_of state)

  weighs_more : (f g : ℕ → ℕ) → ((tick : ℕ) → g (tick + 1) ≡ g tick + f tick) → (state after : RunState S W) → Summary state after → Weighs f g state → Weighs f g after
  weighs_more f g more state after h weighs =
      let step = step_weight f g h.mech h.new h.lines h.events (tick_of state) (tick_of after) more h.kind in
      let begun = begun_weight f h.old h.mech h.begun in
      let sums = set_sum (of_mech f) state.mechs h.seat h.old h.new h.at in
      let mechs = ap (sum_by (of_mech f)) h.mechs in
      let lines = ap (sum_by (of_receipt f)) h.receipts ∙ sum_by-append (of_receipt f) state.receipts h.lines in
      omega (arith, step, begun, sums, mechs, lines, weighs)

  module _ (form : NormalForm S W) where
    weighs_open : (f g : ℕ → ℕ) → g 0 ≡ 0 → (setup : Setup) → Weighs f g (run_of form setup [])
    weighs_open f g none setup =
        let state = run_of form setup [] in
        let least = sum_by-le (of_mech f) 0 state.mechs (each_all (λ mech. of_mech f mech ≤ 0) state.mechs (λ seat mech at. subst (λ (m : Mech S W). of_mech f m ≤ 0) (sym (new_mech form setup seat mech at)) (omega arith))) in
        omega (arith, least, ap g (opening_word_at form setup), none)

    pub weighs : (f g : ℕ → ℕ) → g 0 ≡ 0 → ((tick : ℕ) → g (tick + 1) ≡ g tick + f tick) → (setup : Setup) (moves : List Move) → AreMoves form setup moves → KeepsTicks form setup moves → Weighs f g (run_of form setup moves)
    weighs f g none more = every_run form (Weighs f g) (weighs_open f g none) (weighs_more f g more)

    -- the ticks of the report
    ticks_weigh : (f : ℕ → ℕ) (state : RunState S W) → sum_by f (ticks_of (report_of_run state)) ≡ drawn_of f state
    ticks_weigh f state =
        let begin = λ (r : Receipt). r.begin in
        let end = λ (r : Receipt). r.end in
        let opened = λ (p : PendingCall). p.begin in
        let pending = pending_of state.mechs in
        let split = sum_by-append f (map begin state.receipts ++ map end state.receipts) (map opened pending) in
        let halves = sum_by-append f (map begin state.receipts) (map end state.receipts) in
        let both = sum_by-both (λ (r : Receipt). f r.begin) (λ (r : Receipt). f r.end) state.receipts in
        let first = sum_by-map f begin state.receipts in
        let second = sum_by-map f end state.receipts in
        let third = sum_by-map f opened pending ∙ sum_by-flat_map (λ (p : PendingCall). f p.begin) (λ (mech : Mech S W). option_to_list (mech_pending mech)) state.mechs in
        omega (arith, split, halves, both, first, second, third)

    pub each_tick : (setup : Setup) (moves : List Move) (t : ℕ) → AreMoves form setup moves → KeepsTicks form setup moves
        → count_by (λ tick. tick == t) (ticks_of (report_of_run (run_of form setup moves))) ≡ is_below t (tick_of (run_of form setup moves))
    each_tick setup moves t are keeps =
        ticks_weigh (hits t) (run_of form setup moves) ∙ weighs (hits t) (is_below t) (grind (arith, nat_tests)) (below_more t) setup moves are keeps

    pub many_ticks : (setup : Setup) (moves : List Move) → AreMoves form setup moves → KeepsTicks form setup moves
        → length (ticks_of (report_of_run (run_of form setup moves))) ≡ tick_of (run_of form setup moves)
    many_ticks setup moves are keeps =
        sym (length-sum (ticks_of (report_of_run (run_of form setup moves)))) ∙ ticks_weigh (λ tick. 1) (run_of form setup moves) ∙ weighs (λ tick. 1) (λ tick. tick) refl (λ tick. refl) setup moves are keeps
