-- The reports of runs are linearizable, where the calls of each run can be placed.
use Rattle.std.proofs.Common.{◌≡◌, ℕ, ◌-◌, List, [], length, get_or, slice_get, Some, All, sym, subst, inl, inr, arith}
use Rattle.std.proofs.lemmas.Bool.{cases_lt}
use Rattle.std.proofs.lemmas.List.Elements.{All-get_or, All-nil}
use Rattle.std.proofs.lemmas.List.{get_or_past}
use Rattle.std.proofs.lemmas.Option.{get_or_from_slice_get, slice_get_within}
use Rattle.lin_report.specs.declared.calls.Op.{Op}
use Rattle.lin_report.specs.declared.calls.Receipt.{Receipt}
use Rattle.lin_report.specs.Calls.{Call, Report, answered_call}
use Rattle.lin_report.specs.Object.{IsCommandOf, Object}
use Rattle.lin_report.specs.CommandFiles.{IsCommandFile}
use Rattle.lin_report.specs.Report.{IsCommand, IsReport, file_of}
use Rattle.lin_report.proofs.Merging.{call_at_answered, count_of_calls}
use Rattle.normal_traits.specs.NormalForm.{NormalForm}
use Rattle.normal_traits.specs.Laws.{Laws}
use Rattle.fast_slow_engine.specs.declared.setup.Setup.{Setup}
use Rattle.fast_slow_engine.specs.Runs.{Move, AreMoves, run_of, moves_over}
use Rattle.fast_slow_engine.specs.Reports.{report_of_run}
use Rattle.run_laws.specs.Files.{FilesFit}
use Rattle.run_laws.proofs.CommandsMade.{files_run}
use Rattle.run_exchanges.specs.Kept.{RunsAreKept}
use Rattle.run_reports.specs.Linearized.{FilesLinearizable, RepliesFit, ExhaustedOnlyWhere, ExhaustedWonNone}
use Rattle.run_reports.proofs.Placed.Reports.{Placeable, linearizable, replies_fit, exhausted_only}
use Rattle.run_reports.proofs.Placed.Placeable.{each_placeable, files_report}
use Rattle.run_reports.proofs.Endings.Vain.{nothing_won}

-- ---- the commands of a report over files

file_at : (P : List Op → Type 0) (files : List (List Op)) (seat : ℕ) → P [] → All P files → P (file_of files seat)
file_at P files seat none each = elim (cases_lt seat (length files)) [
  | inl within ↦ All-get_or P files seat [] within each
  | inr past ↦ subst P (sym (get_or_past files seat [] past)) none
]

element_at : {X : Type 0} (P : X → Type 0) (xs : List X) (k : ℕ) (x : X) → All P xs → slice_get xs k ≡ Some x → P x
element_at P xs k x each at = subst P (get_or_from_slice_get xs k x x at) (All-get_or P xs k x (slice_get_within xs k x at) each)

module _ (object : Object) (setup : Setup) (files : List (List Op)) (fit : FilesFit object setup files) where
  command_of : (c : Call) → IsCommand files c → IsCommandOf object c.op
  command_of c is =
      element_at (IsCommandOf object) (file_of files c.seat) (c.number - 1) c.op
      (file_at (IsCommandFile object) files c.seat (record { few = omega arith; commands = All-nil (IsCommandOf object) }) fit.runnable).commands is.command

  -- each answered call is of a command of the object
  pub commands_of : (report : Report) → IsReport files report → All (λ (r : Receipt). IsCommandOf object r.op) report.receipts
  commands_of report is k d within =
      let r = get_or report.receipts k d in
      command_of (answered_call r)
      (subst (IsCommand files) (call_at_answered report k d (answered_call d) within) (is.commands k (answered_call d) (omega (arith, count_of_calls report))))

module _ {S W : Type 0} (form : NormalForm S W) (laws : Laws form) (kept : RunsAreKept form) where
  every : (setup : Setup) (moves : List Move) → AreMoves form setup moves → Placeable form setup moves
  every = each_placeable form laws kept

  pub files_linearizable : FilesLinearizable form
  files_linearizable setup files order fit =
      let moves = moves_over form setup files order in
      linearizable form setup moves (every setup moves (files_run form setup files order fit).follow) files (files_report form laws kept setup files order fit)

  pub exhausted_only_where : ExhaustedOnlyWhere form
  exhausted_only_where setup moves are = exhausted_only form setup moves (every setup moves are)

  pub exhausted_won_none : ExhaustedWonNone form
  exhausted_won_none at_once setup moves are k d inside exhausted =
      let r = get_or (run_of form setup moves).receipts k d in nothing_won form laws kept at_once setup moves are r (exhausted_only_where setup moves are k d inside exhausted)

  pub replies_all_fit : RepliesFit form
  replies_all_fit setup files order fit =
      let moves = moves_over form setup files order in
      replies_fit form setup moves (every setup moves (files_run form setup files order fit).follow)
      (commands_of form.object setup files fit (report_of_run (run_of form setup moves)) (files_report form laws kept setup files order fit))
