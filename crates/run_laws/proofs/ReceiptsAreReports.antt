-- The receipts of a run over command files and the calls that run are a report.
use Rattle.std.proofs.Common.{arith, ◌≡◌, ◌≢◌, ◌∙◌, refl, sym, subst, ap, ℕ, suc, ◌+◌, ◌-◌, ◌<◌, cond, false, List, [], ◌∷◌, map, slice_get, Option, Some, None, All, AllPairs, inl, inr}
use Rattle.std.specs.Option.{option_to_list}
use Rattle.std.proofs.lemmas.Bool.{cases_eq, lt-ltb}
use Rattle.std.proofs.lemmas.List.Elements.{All-append, All-cons, All-nil, All-weaker}
use Rattle.lin_report.specs.declared.calls.Op.{Op}
use Rattle.lin_report.specs.declared.calls.PendingCall.{PendingCall}
use Rattle.lin_report.specs.declared.calls.Receipt.{Receipt}
use Rattle.lin_report.specs.Calls.{Call, Report, answered_call, calls_of, IsSameCall}
use Rattle.lin_report.specs.Calls as calls
use Rattle.lin_report.specs.Report.{IsReport, IsCommand, FollowsAnswer, file_of}
use Rattle.normal_traits.specs.NormalForm.{NormalForm}
use Rattle.fast_slow_engine.specs.declared.phases.Phase.{Phase}
use Rattle.fast_slow_engine.specs.declared.phases.Phase.TheVariants.{Idle, Begin, Look, Generate, Apply, Wrap, Announce, Enter, Drive, Help, Collect, Value, End}
use Rattle.fast_slow_engine.specs.declared.setup.Setup.{Setup}
use Rattle.fast_slow_engine.specs.Mechs.{Mech}
use Rattle.fast_slow_engine.specs.PhaseTable.{mech_pending, pending_call, receipt_of, rests, ticks_left}
use Rattle.fast_slow_engine.specs.Runs.{Move, RunState, AreMoves, moves_over, next_move, pending_of, run_of, with_move}
use Rattle.run_laws.specs.Seats.{EachMech, IsSeated}
use Rattle.run_laws.specs.Files.{FilesFit, RunsFile, IsFileRun}
use Rattle.fast_slow_engine.specs.Reports.{report_of_run}
use Rattle.run_laws.specs.Ticks.{KeepsTicks, TicksOnce}
use Rattle.run_laws.specs.Reports.{RunsReport}
use Rattle.run_laws.proofs.Pairs.{all_map, pairs_append, pairs_map, pairs_nil, pairs_one}
use Rattle.run_laws.proofs.MachinesKept.{seats_stay}
use Rattle.run_laws.proofs.CommandsMade.{files_run}
use Rattle.run_laws.proofs.StepKinds.{StepKind, begins, returns, goes, pending_none, pending_open}
use Rattle.run_laws.proofs.Summaries.{HasBegun, ran, started, summary}
use Rattle.run_laws.proofs.CallsFollow.{Answered, HasEnded, NumbersGoOn, TurnsGoOn, numbers_go_on, ticks_go_on, turns_go_on}
use Rattle.run_laws.proofs.EachTickOnce.{each_tick, many_ticks}

module _ {S W : Type 0} where
  -- a call with one tick left runs
  runs_open : (phase : Phase S W) → ticks_left phase ≡ 1 → rests phase ≡ false
  runs_open Idle one = absurd (omega (arith, one))
  runs_open Begin one = refl
  runs_open Look one = refl
  runs_open (Generate s at) one = refl
  runs_open (Apply run stores at) one = refl
  runs_open (Wrap w) one = refl
  runs_open (Announce at) one = refl
  runs_open (Enter owner) one = refl
  runs_open Drive one = refl
  runs_open (Help drives help) one = refl
  runs_open Collect one = refl
  runs_open (Value reference) one = refl
  runs_open (End reply) one = refl

  -- what holds of the pending call of each machine holds of each pending call
  all_own : (Q : PendingCall → Type 0) (mech : Mech S W) → (ticks_left mech.phase ≡ 1 → Q (pending_call mech)) → All Q (option_to_list (mech_pending mech))
  all_own Q mech own =
      elim (cases_eq (ticks_left mech.phase) 1) [
        | inl one ↦ subst (λ o. All Q (option_to_list o)) (sym (pending_open mech.phase mech one)) (All-cons Q (pending_call mech) [] (own one) (All-nil Q))
        | inr other ↦ subst (λ o. All Q (option_to_list o)) (sym (pending_none mech.phase mech other)) (All-nil Q)
      ]

  all_pending : (Q : PendingCall → Type 0) (mechs : List (Mech S W)) → EachMech (λ seat mech. ticks_left mech.phase ≡ 1 → Q (pending_call mech)) mechs → All Q (pending_of mechs)
  all_pending Q [] each = All-nil Q
  all_pending Q (mech ∷ mechs) each =
      All-append Q (option_to_list (mech_pending mech)) (pending_of mechs) (all_own Q mech (each 0 mech refl)) (all_pending Q mechs (λ seat m at. each (suc seat) m at))

  -- the pending calls are of different seats
  pairs_own : (R : PendingCall → PendingCall → Type 0) (mech : Mech S W) → AllPairs R (option_to_list (mech_pending mech))
  pairs_own R mech =
      elim (cases_eq (ticks_left mech.phase) 1) [
        | inl one ↦ subst (λ o. AllPairs R (option_to_list o)) (sym (pending_open mech.phase mech one)) (pairs_one R (pending_call mech))
        | inr other ↦ subst (λ o. AllPairs R (option_to_list o)) (sym (pending_none mech.phase mech other)) (pairs_nil R)
      ]

  pairs_pending : (base : ℕ) (mechs : List (Mech S W)) → EachMech (λ seat mech. mech.seat ≡ base + seat) mechs → AllPairs (λ (p q : PendingCall). p.seat ≢ q.seat) (pending_of mechs)
  pairs_pending base [] each = pairs_nil (λ (p q : PendingCall). p.seat ≢ q.seat)
  pairs_pending base (mech ∷ mechs) each =
      let first : mech.seat ≡ base + 0 = each 0 mech refl in
      let rest = λ (seat : ℕ) (m : Mech S W) (at : slice_get mechs seat ≡ Some m). each (suc seat) m at in
      pairs_append (λ (p q : PendingCall). p.seat ≢ q.seat) (option_to_list (mech_pending mech)) (pending_of mechs)
      (pairs_own (λ (p q : PendingCall). p.seat ≢ q.seat) mech)
      (pairs_pending (base + 1) mechs (λ seat m at. omega (arith, each (suc seat) m at)))
      (all_own (λ p. All (λ (q : PendingCall). p.seat ≢ q.seat) (pending_of mechs)) mech
      (λ one. all_pending (λ (q : PendingCall). mech.seat ≢ q.seat) mechs (λ seat m at left same. omega (arith, first, same, each (suc seat) m at))))

  -- ---- commands

  command_of : (files : List (List Op)) (seat : ℕ) (mech : Mech S W) → mech.seat ≡ seat → ticks_left mech.phase ≡ 1 → RunsFile (file_of files seat) mech → IsCommand files (calls.pending_call (pending_call mech))
  command_of files seat mech own one runs =
      let running = runs_open mech.phase one in
      record { counted = runs.counted running; command = ap (λ s. slice_get (file_of files s) (mech.number - 1)) own ∙ runs.command running }

  begun_runs : (files : List (List Op)) (seat : ℕ) (old mech : Mech S W) → HasBegun old mech → mech.seat ≡ seat → ticks_left mech.phase ≡ 1 → RunsFile (file_of files seat) old → IsCommand files (calls.pending_call (pending_call mech))
  begun_runs files seat old mech has own one runs =
      elim has [
        | ran same ↦ command_of files seat mech own one (subst (RunsFile (file_of files seat)) (sym same) runs)
        | started rest two number ↦ absurd (omega (arith, one, two))
      ]

  line_commands : (files : List (List Op)) (mech new : Mech S W) (lines : List Receipt) (events before after : ℕ) → (ticks_left mech.phase ≡ 1 → IsCommand files (calls.pending_call (pending_call mech)))
      → StepKind mech.phase mech new lines events before after → All (λ r. IsCommand files (answered_call r)) lines
  line_commands files mech new lines events before after command kind =
      elim kind [
        | begins two one begin none event word ↦ subst (All (λ r. IsCommand files (answered_call r))) (sym none) (All-nil (λ r. IsCommand files (answered_call r)))
        | returns reply one rest line event word ↦
            let is = command one in
            subst (All (λ r. IsCommand files (answered_call r))) (sym line)
            (All-cons (λ r. IsCommand files (answered_call r)) (receipt_of mech reply before) [] (record { counted = is.counted; command = is.command }) (All-nil (λ r. IsCommand files (answered_call r))))
        | goes one still begin none event word ↦ subst (All (λ r. IsCommand files (answered_call r))) (sym none) (All-nil (λ r. IsCommand files (answered_call r)))
      ]

  module _ (form : NormalForm S W) where
    -- each move found the machines at the commands of the files
    abbrev OverFiles : Setup → List (List Op) → List Move → Type 0
    OverFiles setup files [] = Unit {0}
    OverFiles setup files (move ∷ older) = OverFiles setup files older × EachMech (λ seat mech. RunsFile (file_of files seat) mech) (run_of form setup older).mechs

    over_with : (setup : Setup) (files : List (List Op)) (moves : List Move) (o : Option Move) → OverFiles setup files moves → EachMech (λ seat mech. RunsFile (file_of files seat) mech) (run_of form setup moves).mechs
        → OverFiles setup files (with_move o moves)
    over_with setup files moves None over runs = over
    over_with setup files moves (Some move) over runs = (over, runs)

    over_files : (setup : Setup) (files : List (List Op)) (order : List ℕ) → FilesFit form.object setup files → OverFiles setup files (moves_over form setup files order)
    over_files setup files [] fit = tt
    over_files setup files (seat ∷ older) fit =
        let moves = moves_over form setup files older in
        over_with setup files moves (next_move files seat (run_of form setup moves)) (over_files setup files older fit) (files_run form setup files older fit).runs

    receipts_command : (setup : Setup) (files : List (List Op)) (moves : List Move) → AreMoves form setup moves → KeepsTicks form setup moves → OverFiles setup files moves
        → All (λ r. IsCommand files (answered_call r)) (run_of form setup moves).receipts
    receipts_command setup files [] are keeps over = All-nil (λ r. IsCommand files (answered_call r))
    receipts_command setup files (move ∷ older) are keeps over =
        let h = summary form setup older move are keeps in
        let command = λ (one : ticks_left h.mech.phase ≡ 1). begun_runs files h.seat h.old h.mech h.begun h.own one (over.1 h.seat h.old h.at) in
        subst (All (λ r. IsCommand files (answered_call r))) (sym h.receipts)
        (All-append (λ r. IsCommand files (answered_call r)) (run_of form setup older).receipts h.lines (receipts_command setup files older are.0 keeps.0 over.0)
        (line_commands files h.mech h.new h.lines h.events _ _ command h.kind))

    -- ---- the report

    answered_follows : (state : RunState S W) (c : Call) → Answered state.receipts c.seat c.number c.begin → FollowsAnswer (report_of_run state) c
    answered_follows state c a = record { before = a.before; answered = a.answered; seat = a.seat; number = a.number_before; ended = a.ended }

    report_once : (setup : Setup) (state : RunState S W) → IsSeated setup state → NumbersGoOn state → AllPairs (λ c d. ¬ IsSameCall c d) (calls_of (report_of_run state))
    report_once setup state seated on =
        let R = λ (c d : Call). ¬ IsSameCall c d in
        let pending = pending_of state.mechs in
        pairs_append R (map answered_call state.receipts) (map calls.pending_call pending)
        (pairs_map R answered_call state.receipts (λ i j d before inside same. on.once i j d before inside (record { seat = same.seat; number = same.number })))
        (pairs_map R calls.pending_call pending (λ i j d before inside same. pairs_pending 0 state.mechs (λ seat mech at. omega (arith, (seated.own seat mech at).seat)) i j d before inside same.seat))
        (all_map (λ c. All (R c) (map calls.pending_call pending)) answered_call state.receipts
        (λ k d inside. all_map (R (answered_call _)) calls.pending_call pending
        (λ j e within. all_pending (λ p. All (λ r. ¬ IsSameCall (answered_call r) (calls.pending_call p)) state.receipts) state.mechs
        (λ seat mech at one. All-weaker (λ r. r.seat ≡ seat → r.number < mech.number) (λ r. ¬ IsSameCall (answered_call r) (calls.pending_call (pending_call mech)))
        (λ r fewer same. omega (arith, fewer (same.seat ∙ (seated.own seat mech at).seat), same.number)) state.receipts ((on.each seat mech at).fewer (omega (arith, one))))
        j e within k d inside)))

    report_turns : (setup : Setup) (state : RunState S W) → IsSeated setup state → TurnsGoOn state → All (λ c. 1 < c.number → FollowsAnswer (report_of_run state) c) (calls_of (report_of_run state))
    report_turns setup state seated on =
        let P = λ (c : Call). 1 < c.number → FollowsAnswer (report_of_run state) c in
        let pending = pending_of state.mechs in
        All-append P (map answered_call state.receipts) (map calls.pending_call pending)
        (all_map P answered_call state.receipts (All-weaker (λ r. 1 < r.number → Answered state.receipts r.seat r.number r.begin) (λ r. P (answered_call r)) (λ r a more. answered_follows state (answered_call r) (a more)) state.receipts on.in_turn))
        (all_map P calls.pending_call pending (all_pending (λ p. P (calls.pending_call p)) state.mechs
        (λ seat mech at one more. answered_follows state (calls.pending_call (pending_call mech)) (subst (λ s. Answered state.receipts s mech.number mech.begin) (sym (seated.own seat mech at).seat) ((on.each seat mech at).running one more)))))

    pub ticks_once : TicksOnce form
    ticks_once setup moves are keeps = record { count = many_ticks form setup moves are keeps; once = λ t. each_tick form setup moves t are keeps }

    -- the report of moves over files
    report_over : (setup : Setup) (files : List (List Op)) (moves : List Move) → KeepsTicks form setup moves → IsFileRun form setup files moves → OverFiles setup files moves → IsReport files (report_of_run (run_of form setup moves))
    report_over setup files moves keeps run over =
        let state = run_of form setup moves in
        let are = run.follow in
        let seated = seats_stay form setup moves are in
        let once = ticks_once setup moves are keeps in
        record {
          commands = All-append (IsCommand files) (map answered_call state.receipts) (map calls.pending_call (pending_of state.mechs))
              (all_map (IsCommand files) answered_call state.receipts (receipts_command setup files moves are keeps over))
              (all_map (IsCommand files) calls.pending_call (pending_of state.mechs) (all_pending (λ p. IsCommand files (calls.pending_call p)) state.mechs
              (λ seat mech at one. command_of files seat mech (seated.own seat mech at).seat one (run.runs seat mech at))));
          once = report_once setup state seated (numbers_go_on form setup moves are keeps);
          in_turn = report_turns setup state seated (turns_go_on form setup moves are keeps);
          forward = All-weaker (HasEnded _) (λ (r : Receipt). r.begin < r.end) (λ r e. e.forward) state.receipts (ticks_go_on form setup moves are keeps).ended;
          ticks = λ t below. once.once t ∙ ap (λ b. cond b 1 0) (lt-ltb t _ (omega (arith, below, once.count)));
        }

    pub runs_report : RunsReport form
    runs_report setup files order fit keeps = report_over setup files (moves_over form setup files order) keeps (files_run form setup files order fit) (over_files setup files order fit)
