-- The words and the bytes that are held name one list of runs.
use Rattle.std.proofs.Common.{◌≡◌, ◌∙◌, refl, sym, ap, subst, arith, ℕ, ◌+◌, ◌*◌, ◌<◌, ◌≤◌, true, List, [], ◌∷◌, length, get_or, Option, Some, None, Ok, Result, IsSomeAnd}
use Rattle.std.proofs.lemmas.List.{ext_get_or}
use Rattle.std.proofs.Math.Bridge.{le_prop}
use Rattle.lin_report.specs.declared.calls.Client.{Client}
use Rattle.lin_report.specs.declared.calls.Op.{Op}
use Rattle.lin_report.specs.Calls.{Report}
use Rattle.script_reader.specs.Scripts.{script_outcome}
use Rattle.script_reader.specs.declared.schedules.ScheduleEntry.{ScheduleEntry}
use Rattle.normal_traits.specs.NormalForm.{NormalForm}
use Rattle.fast_slow_engine.specs.declared.setup.Setup.{Setup}
use Rattle.fast_slow_engine.specs.Runs.{moves_over, run_of}
use Rattle.fast_slow_engine.specs.Reports.{report_of_run}
use Rattle.overtaking_law.specs.Overtaking.{greatest_overtaken}
use Rattle.schedule_runs.specs.Orders.{IsOrderOf}
use Rattle.schedule_runs.proofs.OneOrderNamed.{names_one_order}
use Rattle.client_reports.specs.declared.loading.Load.{Load}
use Rattle.client_reports.specs.Forms.{form_of}
use Rattle.client_reports.specs.Judging.{Accepts, SayFirst}
use Rattle.client_reports.specs.Loads.{IsLoadOf, ROUNDS_OF_A_CALL}
use Rattle.nwf_run.specs.Reading.{files_by_name}
use Rattle.nwf_run.specs.Replaying.{IsReplayOf, OfOne, AreSweepOf}
use Rattle.client_reports.specs.Runs.{FilesRun, IsRun}
use Rattle.client_reports.specs.Sweeps.{AreSwept, longest, stop_runs}
use Rattle.nwf_run.specs.CommandLine.{Replay, Sweep}

-- ---- setups with the same numbers are the same

abbrev a_setup : (n c l : ℕ) → 1 ≤ n → n ≤ 8 → 1 ≤ c → c ≤ 65536 → l ≤ 255 → Setup
a_setup n c l some few block blocks failures =
    record { seats = n; cap = c; limit = l; some_seat = some; few_seats = few; some_block = block; few_blocks = blocks; few_failures = failures }

same_bounds : (n c l : ℕ) (a a' : 1 ≤ n) (b b' : n ≤ 8) (d d' : 1 ≤ c) (e e' : c ≤ 65536) (f f' : l ≤ 255) → a_setup n c l a b d e f ≡ a_setup n c l a' b' d' e' f'
same_bounds n c l a a' b b' d d' e e' f f' =
    ap (λ (x : 1 ≤ n). a_setup n c l x b d e f) (le_prop a a') ∙ ap (λ (x : n ≤ 8). a_setup n c l a' x d e f) (le_prop b b')
    ∙ ap (λ (x : 1 ≤ c). a_setup n c l a' b' x e f) (le_prop d d') ∙ ap (λ (x : c ≤ 65536). a_setup n c l a' b' d' x f) (le_prop e e')
    ∙ ap (λ (x : l ≤ 255). a_setup n c l a' b' d' e' x) (le_prop f f')

same_setup : (s t : Setup) → s.seats ≡ t.seats → s.cap ≡ t.cap → s.limit ≡ t.limit → s ≡ t
same_setup s t seats cap limit =
    subst (λ n. (a : 1 ≤ n) (b : n ≤ 8) (d : 1 ≤ t.cap) (e : t.cap ≤ 65536) (f : t.limit ≤ 255) → s ≡ a_setup n t.cap t.limit a b d e f) seats
    (subst (λ c. (a : 1 ≤ s.seats) (b : s.seats ≤ 8) (d : 1 ≤ c) (e : c ≤ 65536) (f : t.limit ≤ 255) → s ≡ a_setup s.seats c t.limit a b d e f) cap
    (subst (λ l. (a : 1 ≤ s.seats) (b : s.seats ≤ 8) (d : 1 ≤ s.cap) (e : s.cap ≤ 65536) (f : l ≤ 255) → s ≡ a_setup s.seats s.cap l a b d e f) limit
    (λ a b d e f. same_bounds s.seats s.cap s.limit s.some_seat a s.few_seats b s.some_block d s.few_blocks e s.few_failures f)))
    t.some_seat t.few_seats t.some_block t.few_blocks t.few_failures

-- ---- runs of the same commands in the same order are the same

abbrev a_run_of : Setup → List (List Op) → List ℕ → Report → ℕ → FilesRun
a_run_of setup commands order report overtaken = record { setup = setup; commands = commands; order = order; report = report; overtaken = overtaken }

module _ {S W : Type 0} (form : NormalForm S W) (cap limit : ℕ) where
  abbrev report_in : Setup → List (List Op) → List ℕ → Report
  report_in setup commands order = report_of_run (run_of form setup (moves_over form setup commands order))

  abbrev overtaken_in : Setup → List (List Op) → List ℕ → ℕ
  overtaken_in setup commands order = greatest_overtaken (run_of form setup (moves_over form setup commands order)).events

  abbrev whole_run : Setup → List (List Op) → List ℕ → FilesRun
  whole_run setup commands order = a_run_of setup commands order (report_in setup commands order) (overtaken_in setup commands order)

  -- a run is told by its setup, its commands and its order
  run_is : (run : FilesRun) → IsRun form cap limit run → run ≡ whole_run run.setup run.commands run.order
  run_is run is = ap (λ r. a_run_of run.setup run.commands run.order r run.overtaken) is.made ∙ ap (a_run_of run.setup run.commands run.order (report_in run.setup run.commands run.order)) is.counted

  pub same_run : (run other : FilesRun) → IsRun form cap limit run → IsRun form cap limit other → run.commands ≡ other.commands → (run.setup ≡ other.setup → run.order ≡ other.order) → run ≡ other
  same_run run other is is' commands order =
      let setup : run.setup ≡ other.setup = same_setup run.setup other.setup (is.has_seats ∙ ap length commands ∙ sym is'.has_seats) (is.has_cap ∙ sym is'.has_cap) (is.has_limit ∙ sym is'.has_limit) in
      run_is run is ∙ ap (λ s. whole_run s run.commands run.order) setup ∙ ap (λ c. whole_run other.setup c run.order) commands ∙ ap (whole_run other.setup other.commands) (order setup)
      ∙ sym (run_is other is')

  pub same_sweep : (most : ℕ) (commands : List (List Op)) (runs others : List FilesRun) → AreSwept form cap limit most commands runs → AreSwept form cap limit most commands others → runs ≡ others
  same_sweep most commands runs others are are' =
      let setup : are.setup ≡ are'.setup = same_setup are.setup are'.setup (are.has_seats ∙ sym are'.has_seats) (are.has_cap ∙ sym are'.has_cap) (are.has_limit ∙ sym are'.has_limit) in
      are.runs_are ∙ ap (λ s. stop_runs form s commands (longest commands * ROUNDS_OF_A_CALL) (most + 1)) setup ∙ sym are'.runs_are

-- ---- accepted bytes say one thing

same_ok : {A E : Type 0} (r : Result A E) (a b : A) → r ≡ Ok a → r ≡ Ok b → a ≡ b
same_ok r a b one two = cc

pub said_once : {X A E : Type 0} (held : Option X) (outcome : X → Result A E) (a b : A) → IsSomeAnd held (λ x. outcome x ≡ Ok a) → IsSomeAnd held (λ x. outcome x ≡ Ok b) → a ≡ b
said_once None outcome a b one two = absurd one
said_once (Some x) outcome a b one two = same_ok (outcome x) a b one two

pub same_commands : (client : Client) (seats : ℕ) (files : ℕ → Option (List ℕ)) (commands others : List (List Op)) → SayFirst client seats files commands → SayFirst client seats files others → length commands ≡ length others → commands ≡ others
same_commands client seats files commands others say say' count =
    ext_get_or [] commands others count (λ k within. said_once (files (k + 1)) (script_outcome client) (get_or commands k []) (get_or others k []) (say k within) (say' k (omega (arith, within, count))))

-- ---- so what is asked for has one list of runs

module _ (held : List ℕ → Option (List ℕ)) where
  same_replay : (r : Replay) (run other : FilesRun) → IsReplayOf true held r run → IsReplayOf true held r other → run ≡ other
  same_replay r run other is is' =
      let a = is.accepted refl in
      let b = is'.accepted refl in
      let entries : is.entries ≡ is'.entries = said_once (files_by_name held r 0) _ is.entries is'.entries a.schedule b.schedule in
      let commands : run.commands ≡ other.commands = same_commands r.client (length r.files) (files_by_name held r) run.commands other.commands a.each b.each (is.seats ∙ sym is'.seats) in
      same_run (form_of r.client) r.cap r.limit run other is.runs is'.runs commands (λ setup. same_order setup commands entries is.named is'.named)
    where
      same_order : run.setup ≡ other.setup → run.commands ≡ other.commands → is.entries ≡ is'.entries
          → IsOrderOf (form_of r.client) run.setup run.commands is.entries run.order → IsOrderOf (form_of r.client) other.setup other.commands is'.entries other.order → run.order ≡ other.order
      same_order setup commands entries named named' =
          let named_one = names_one_order (form_of r.client) other.setup other.commands is'.entries in
          let moved : IsOrderOf (form_of r.client) other.setup other.commands is'.entries run.order =
          subst (λ s. IsOrderOf (form_of r.client) s other.commands is'.entries run.order) setup
          (subst (λ c. IsOrderOf (form_of r.client) run.setup c is'.entries run.order) commands (subst (λ e. IsOrderOf (form_of r.client) run.setup run.commands e run.order) entries named)) in
          named_one.2 run.order moved ∙ sym (named_one.2 other.order named')

  -- of one run each
  of_one : {Is : FilesRun → Type 0} (runs others : List FilesRun) → ((run other : FilesRun) → Is run → Is other → run ≡ other) → OfOne Is runs → OfOne Is others → runs ≡ others
  of_one [] others same one two = absurd one
  of_one (run ∷ next ∷ runs) others same one two = absurd one
  of_one (run ∷ []) [] same one two = absurd two
  of_one (run ∷ []) (other ∷ next ∷ others) same one two = absurd two
  of_one (run ∷ []) (other ∷ []) same one two = ap (λ (r : FilesRun). r ∷ []) (same run other one two)

  pub replays_same : (r : Replay) (runs others : List FilesRun) → OfOne (IsReplayOf true held r) runs → OfOne (IsReplayOf true held r) others → runs ≡ others
  replays_same r runs others = of_one runs others (same_replay r)

  pub loads_same : (l : Load) (runs others : List FilesRun) → OfOne (IsLoadOf l) runs → OfOne (IsLoadOf l) others → runs ≡ others
  loads_same l runs others = of_one runs others (λ run other is is'. same_run (form_of l.client) l.cap l.limit run other is.runs is'.runs (is.generated ∙ sym is'.generated) (λ setup. is.in_rounds ∙ sym is'.in_rounds))

  pub sweeps_same : (s : Sweep) (runs others : List FilesRun) → AreSweepOf true held s runs → AreSweepOf true held s others → runs ≡ others
  sweeps_same s runs others are are' =
      let r = s.of_files in
      let commands : are.commands ≡ are'.commands = same_commands r.client (length r.files) (files_by_name held r) are.commands are'.commands (are.accepted refl) (are'.accepted refl) (are.seats ∙ sym are'.seats) in
      same_sweep (form_of r.client) r.cap r.limit s.most are'.commands runs others (subst (λ c. AreSwept (form_of r.client) r.cap r.limit s.most c runs) commands are.swept) are'.swept
