-- The runs of a sweep, and their lines put one after the other.
use Rattle.std.proofs.Common.{arith, ◌≡◌, ◌∙◌, ◌↔◌, ◌+◌, ◌*◌, ◌≤◌, ◌++◌, ◌∷◌, ◌||◌, refl, sym, subst, ap, ℕ, suc, max, Bool, true, false, List, [], Vec, length, take, slice_index_or, append-nil, append_assoc}
use Rattle.std.specs.List.{list_any, range_with_len}
use Rattle.std.specs.Prelude.{sum_by}
use Rattle.std.specs.Global.{Global}
use Rattle.std.proofs.Math.Seq.{take-suc}
use Rattle.std.proofs.lemmas.List.{length-map, map-append}
use Rattle.std.proofs.lemmas.List.Elements.{All-map}
use Rattle.std.proofs.lemmas.List.Folds.{Any-from_list_any, list_any-append, list_any-from_Any}
use Rattle.std.proofs.lemmas.List.FromFn.{length-map-range_with_len, map-range_with_len_more}
use Rattle.lin_report.specs.declared.calls.Op.{Op}
use Rattle.lin_report.specs.declared.calls.Receipt.{Receipt}
use Rattle.lin_report.specs.Text.{reply_is_exhausted}
use Rattle.normal_traits.specs.NormalForm.{NormalForm}
use Rattle.fast_slow_engine.specs.declared.setup.Setup.{Setup}
use Rattle.event_core.specs.Cores.{CoreView, core_new}
use Rattle.schedule_runs.specs.Orders.{core_in}
use Rattle.schedule_runs.specs.Rounds.{StepsRunInOrder, after_order}
use Rattle.schedule_runs.specs.Stops.{stop_order}
use Rattle.run_laws.specs.Files.{FilesFit}
use Rattle.run_reports.specs.Headline.{FilesMeetHeadline, MeetsHeadline}
use Rattle.client_reports.specs.Loads.{ROUNDS_OF_A_CALL}
use Rattle.client_reports.specs.Runs.{Exhausts, FilesRun}
use Rattle.client_reports.specs.Sweeps.{IsSwept, SomeExhausts, longest, stop_line, stop_lines, stop_run, stop_runs}
use Rattle.client_reports.specs.Writable.{CanBeWritten, RunsCanBeWritten}
use Rattle.client_reports.proofs.RunReports.{exhausted_is, files_of}

-- ---- lengths

-- with one more file
longest_more : (files : List (List Op)) (file : List Op) → longest (files ++ file ∷ []) ≡ max (longest files) (length file)
longest_more [] file = omega arith
longest_more (f ∷ files) file = let rest = longest_more files file in omega (arith, rest)

pub longest_next : (files : List (Vec Op Global)) (i : ℕ) (file : Vec Op Global) (so_far : ℕ) → i + 1 ≤ length files → file ≡ slice_index_or files i file → so_far ≡ longest (files_of (take i files))
    → max so_far (length file.items) ≡ longest (files_of (take (i + 1) files))
longest_next files i file so_far inside at is =
    let one : suc i ≡ i + 1 = omega arith in
    ap (λ n. max n (length file.items)) is
    ∙ sym (longest_more (files_of (take i files)) file.items)
    ∙ ap longest (sym (map-append (λ (f : Vec Op Global). f.items) (take i files) (file ∷ [])))
    ∙ ap (λ x. longest (files_of (take i files ++ x ∷ []))) at
    ∙ ap (λ l. longest (files_of l)) (sym (take-suc files i file (omega (arith, inside))))
    ∙ ap (λ n. longest (files_of (take n files))) one

-- ---- lines

lines_more : (steps : ℕ) (runs : List FilesRun) (run : FilesRun) → stop_lines steps (runs ++ run ∷ []) ≡ stop_lines steps runs ++ stop_line (steps + length runs) run
lines_more steps [] run = append-nil (stop_line steps run) ∙ ap (λ k. stop_line k run) (let e : steps ≡ steps + 0 = omega arith in e)
lines_more steps (first ∷ runs) run =
    ap (λ l. stop_line steps first ++ l) (lines_more (steps + 1) runs run)
    ∙ sym (append_assoc (stop_line steps first) (stop_lines (steps + 1) runs) (stop_line (steps + 1 + length runs) run))
    ∙ ap (λ k. (stop_line steps first ++ stop_lines (steps + 1) runs) ++ stop_line k run) (let e : steps + 1 + length runs ≡ steps + suc (length runs) = omega arith in e)

-- whether a call of a run found no block left
abbrev pub exhausts : FilesRun → Bool
exhausts run = list_any (λ (r : Receipt). reply_is_exhausted r.reply) run.report.receipts

exhausts_is : (run : FilesRun) → exhausts run ≡ true → Exhausts run.report
exhausts_is run found = let (k, r, within, at, h) = Any-from_list_any (λ (r : Receipt). reply_is_exhausted r.reply) run.report.receipts found in (k, r, within, at, exhausted_is r.reply h)

is_exhausts : (run : FilesRun) → Exhausts run.report → exhausts run ≡ true
is_exhausts run (k, r, within, at, h) = list_any-from_Any (λ (r : Receipt). reply_is_exhausted r.reply) run.report.receipts (k, r, within, at, ap reply_is_exhausted h)

some_marked : (runs : List FilesRun) (mark : Bool) → mark ≡ list_any exhausts runs → (mark ≡ true) ↔ SomeExhausts runs
some_marked runs mark is = (
  λ found. let (k, run, within, at, h) = Any-from_list_any exhausts runs (sym is ∙ found) in (k, run, within, at, exhausts_is run h),
  λ (k, run, within, at, h). is ∙ list_any-from_Any exhausts runs (k, run, within, at, is_exhausts run h),
)

or_none : (a b : Bool) → (a || (b || false)) ≡ (a || b)
or_none true b = refl
or_none false true = refl
or_none false false = refl

module _ {S W : Type 0} (form : NormalForm S W) where
  -- of a sweep over these commands so many lines are written
  pub record Sweeping (commands : List (Vec Op Global)) (setup : Setup) (core : CoreView S W) (rounds count : ℕ) (text : List ℕ) (mark : Bool) : Type 0 where
    pub setup_is : core.setup ≡ setup
    pub files_are : core.files ≡ files_of commands
    pub written : text ≡ stop_lines 0 (stop_runs form setup (files_of commands) rounds count)
    pub marked : mark ≡ list_any exhausts (stop_runs form setup (files_of commands) rounds count)

  module _ (setup : Setup) (files : List (List Op)) (rounds : ℕ) where
    runs_more : (count : ℕ) → stop_runs form setup files rounds (count + 1) ≡ stop_runs form setup files rounds count ++ stop_run form setup files rounds count ∷ []
    runs_more count = map-range_with_len_more (stop_run form setup files rounds) 0 count count (omega arith)

    lines_next : (count : ℕ) → stop_lines 0 (stop_runs form setup files rounds (count + 1)) ≡ stop_lines 0 (stop_runs form setup files rounds count) ++ stop_line count (stop_run form setup files rounds count)
    lines_next count =
        ap (stop_lines 0) (runs_more count) ∙ lines_more 0 (stop_runs form setup files rounds count) (stop_run form setup files rounds count)
        ∙ ap (λ k. stop_lines 0 (stop_runs form setup files rounds count) ++ stop_line k (stop_run form setup files rounds count)) (let e = length-map-range_with_len (stop_run form setup files rounds) 0 count in let f : 0 + length (stop_runs form setup files rounds count) ≡ count = omega (arith, e) in f)

    marks_next : (count : ℕ) → list_any exhausts (stop_runs form setup files rounds (count + 1)) ≡ (list_any exhausts (stop_runs form setup files rounds count) || exhausts (stop_run form setup files rounds count))
    marks_next count =
        ap (list_any exhausts) (runs_more count) ∙ list_any-append exhausts (stop_runs form setup files rounds count) (stop_run form setup files rounds count ∷ [])
        ∙ or_none (list_any exhausts (stop_runs form setup files rounds count)) (exhausts (stop_run form setup files rounds count))

  module _ (commands : List (Vec Op Global)) (setup : Setup) (rounds : ℕ) where
    -- one more line
    pub one_swept : (count : ℕ) (core core' : CoreView S W) (text text' : List ℕ) (mark one : Bool) → Sweeping commands setup core rounds count text mark → core'.setup ≡ core.setup → core'.files ≡ core.files
        → text' ≡ text ++ stop_line count (stop_run form core.setup core.files rounds count) → one ≡ exhausts (stop_run form core.setup core.files rounds count)
        → Sweeping commands setup core' rounds (count + 1) text' (mark || one)
    one_swept count core core' text text' mark one s same_setup same_files put is =
        let run : stop_run form core.setup core.files rounds count ≡ stop_run form setup (files_of commands) rounds count =
        ap (λ k. stop_run form k core.files rounds count) s.setup_is ∙ ap (λ l. stop_run form setup l rounds count) s.files_are in
        record {
          setup_is = same_setup ∙ s.setup_is;
          files_are = same_files ∙ s.files_are;
          written = put ∙ ap (λ r. text ++ stop_line count r) run ∙ ap (λ l. l ++ stop_line count (stop_run form setup (files_of commands) rounds count)) s.written ∙ sym (lines_next setup (files_of commands) rounds count);
          marked = ap (λ b. mark || b) (is ∙ ap exhausts run) ∙ ap (λ b. b || exhausts (stop_run form setup (files_of commands) rounds count)) s.marked ∙ sym (marks_next setup (files_of commands) rounds count);
        }

    -- all lines
    pub all_swept : (cap limit most count : ℕ) (core : CoreView S W) (text : List ℕ) (mark : Bool) → FilesMeetHeadline form → FilesFit form.object setup (files_of commands)
        → setup.seats ≡ length commands → setup.cap ≡ cap → setup.limit ≡ limit → rounds ≡ longest (files_of commands) * ROUNDS_OF_A_CALL → count ≡ most + 1
        → Sweeping commands setup core rounds count text mark → IsSwept form cap limit most (files_of commands) text mark
    all_swept cap limit most count core text mark meets fit seats same_cap same_limit many whole s =
        let runs = stop_runs form setup (files_of commands) rounds count in
        record {
          runs = runs;
          are = record {
            setup = setup;
            has_seats = omega (arith, seats, length-map commands (λ (ops : Vec Op Global). ops.items));
            has_cap = same_cap;
            has_limit = same_limit;
            runs_are = ap (λ n. stop_runs form setup (files_of commands) n count) many ∙ ap (stop_runs form setup (files_of commands) (longest (files_of commands) * ROUNDS_OF_A_CALL)) whole;
          };
          headline = All-map (λ (run : FilesRun). MeetsHeadline form run.setup run.commands run.order) (stop_run form setup (files_of commands) rounds) (range_with_len 0 count) (λ k d within. meets setup (files_of commands) (stop_run form setup (files_of commands) rounds _).order fit);
          written = s.written;
          marked = some_marked runs mark s.marked;
        }

-- ---- the run of one stop

module _ {S W : Type 0} (form : NormalForm S W) (setup : Setup) (files : List (List Op)) (seats steps rounds : ℕ) (same : setup.seats ≡ seats) (new core : CoreView S W)
    (opened : new ≡ core_new form setup files) (made : core ≡ after_order form new (stop_order seats 0 steps rounds)) where
  -- a core that was taken back and run past its stop
  pub stop_ran : StepsRunInOrder form → core ≡ core_in form setup files (stop_order setup.seats 0 steps rounds)
  stop_ran in_order =
      made ∙ ap (λ v. after_order form v (stop_order seats 0 steps rounds)) opened
      ∙ in_order setup files (stop_order seats 0 steps rounds)
      ∙ ap (λ n. core_in form setup files (stop_order n 0 steps rounds)) (sym same)

  pub stop_can : StepsRunInOrder form → RunsCanBeWritten form → FilesFit form.object setup files → CanBeWritten core.state (sum_by length files)
  stop_can in_order writable fit =
      subst (λ (v : CoreView S W). CanBeWritten v.state (sum_by length files)) (sym (stop_ran in_order)) (writable setup files (stop_order setup.seats 0 steps rounds) fit)
