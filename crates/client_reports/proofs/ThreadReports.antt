-- The report of a run with threads, written from its lines put in order.
use Rattle.std.proofs.Common.{◌≡◌, ℕ, zero, suc, ◌+◌, ◌<◌, ◌≤◌, List, [], ◌∷◌, length, length-append, take, get_or, IsPermutation, refl, sym, ap, ◌∙◌, subst, arith}
use Rattle.std.specs.Prelude.{sum_by}
use Rattle.std.specs.List.Sorted.{IsNonDecreasingBy}
use Rattle.std.proofs.Math.Seq.{take-suc}
use Rattle.std.proofs.lemmas.List.{length-map, take_all}
use Rattle.std.proofs.lemmas.List.Sorted.{IsPermutation-refl, IsPermutation-trans, length_permutation}
use Rattle.std.proofs.lemmas.List.Sums.{sum_by-append, sum_by-cons}
use Rattle.lin_report.specs.declared.calls.Op.{Op}
use Rattle.lin_report.specs.declared.calls.Receipt.{Receipt}
use Rattle.lin_report.specs.declared.calls.PendingCall.{PendingCall}
use Rattle.normal_traits.specs.NormalForm.{NormalForm}
use Rattle.fast_slow_engine.specs.declared.setup.Setup.{Setup}
use Rattle.fast_slow_engine.specs.Runs.{RunState, moves_over, run_of}
use Rattle.move_orders.specs.SeatLines.{lines_down, lines_of, ops_of}
use Rattle.thread_runs.specs.Whole.{IsRun}
use Rattle.thread_laws.specs.Headline.{MeetsInSomeOrder}
use Rattle.client_reports.proofs.RunReports.{InOrder}

-- the lines of the first seats, put down, are as many as the commands of their files
long_down : (lines : List Receipt) (files : List (List Op)) (n : ℕ) → n ≤ length files → ((seat : ℕ) → seat < n → ops_of (lines_of seat lines) ≡ get_or files seat []) → length (lines_down n lines) ≡ sum_by length (take n files)
long_down lines files zero few ops = refl
long_down lines files (suc n) few ops =
    let here = ap length (ops n (omega arith)) in
    let rest = long_down lines files n (omega (arith, few)) (λ seat low. ops seat (omega (arith, low))) in
    let split : sum_by length (take (suc n) files) ≡ sum_by length (take n files) + sum_by length (get_or files n [] ∷ []) =
    ap (sum_by length) (take-suc files n [] (omega (arith, few))) ∙ sum_by-append length (take n files) (get_or files n [] ∷ []) in
    omega (arith, here, length-map (lines_of n lines) (λ (r : Receipt). r.op), rest, split, sum_by-cons length (get_or files n []) [], length-append (lines_of n lines) (lines_down n lines))

module _ {S W : Type 0} (form : NormalForm S W) (setup : Setup) (files : List (List Op)) (lines : List Receipt) (ticks claimed : ℕ) where
  -- there is a line for each command
  pub all_lines : length files ≡ setup.seats → IsRun form setup files lines ticks claimed → length lines ≡ sum_by length files
  all_lines many run =
      ap length run.same
      ∙ long_down (run_of form setup run.moves).receipts files setup.seats (omega (arith, many)) run.ops
      ∙ ap (sum_by length) (take_all setup.seats files (omega (arith, many)))

  module _ (meets : MeetsInSomeOrder form setup files lines ticks claimed) where
    -- the run of the files in the order in which the threads made its steps
    abbrev pub ran : RunState S W
    ran = run_of form setup (moves_over form setup files meets.order)

    -- its lines in order, and no pending call
    pub sorted_lines : (sorted : List Receipt) → IsPermutation lines sorted → IsNonDecreasingBy (λ (r : Receipt). r.begin) sorted → InOrder ran sorted []
    sorted_lines sorted moved order = record {
      lines = IsPermutation-trans _ _ _ meets.made moved;
      calls = subst (λ (ps : List PendingCall). IsPermutation ps []) (sym meets.over) (IsPermutation-refl []);
      order = order;
      opened = λ i j d before within. absurd (omega (arith, within));
    }

    pub whole_run : length lines ≡ sum_by length files → length ran.receipts ≡ sum_by length files
    whole_run all = sym (length_permutation ran.receipts lines meets.made) ∙ all
