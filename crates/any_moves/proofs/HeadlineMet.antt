-- Every run of moves that can follow each other meets the headline, with helpers and without.
use Rattle.std.proofs.Common.{List, subst}
use Rattle.lin_report.specs.Linearizable.{IsLinearizable}
use Rattle.lin_report.specs.Report.{IsReport}
use Rattle.normal_traits.specs.NormalForm.{NormalForm}
use Rattle.normal_traits.specs.Laws.{Laws}
use Rattle.fast_slow_engine.specs.Runs.{Move, run_of}
use Rattle.fast_slow_engine.specs.Reports.{report_of_run}
use Rattle.run_laws.proofs.CountersLeft.{client_keeps_ticks}
use Rattle.run_overtaking.proofs.EventLaws.{overtaken_bounded}
use Rattle.run_exchanges.specs.Kept.{RunsAreKept}
use Rattle.run_exchanges.proofs.Kept.EveryRun.{queues_kept}
use Rattle.run_exchanges.proofs.Exchanges.Made.{exchanges_once, journals_tell}
use Rattle.run_exchanges.proofs.Journals.Obey.{obeys}
use Rattle.run_reports.proofs.Placed.Linearized.{exhausted_only_where, exhausted_won_none, files_linearizable}
use Rattle.run_reports.proofs.Placed.Moments.{has_history}
use Rattle.run_reports.proofs.Placed.Placeable.{files_report}
use Rattle.move_orders.specs.Orders.{begun_files, seats_of}
use Rattle.move_orders.proofs.OverFiles.{moves_over_files}
use Rattle.any_moves.specs.Headline.{AnyMovesMeetHeadline}
use Rattle.any_moves.proofs.WholeReports.{has_each_command}

-- the moves are the run over what they began, so its report is theirs; the rest is a law of any moves already
pub any_moves_meet_headline : {S W : Type 0} (form : NormalForm S W) → Laws form → RunsAreKept form → AnyMovesMeetHeadline form
any_moves_meet_headline form laws kept setup moves are =
    let files = begun_files setup moves in
    let over = moves_over_files form setup moves are in
    let keeps = client_keeps_ticks form setup moves (kept setup moves are).ticks in
    let complete : IsReport files (report_of_run (run_of form setup moves)) =
    subst (λ (ms : List Move). IsReport files (report_of_run (run_of form setup ms))) over.same (files_report form laws kept setup files (seats_of moves) over.fit) in
    record {
      complete = complete;
      whole = has_each_command form setup moves are keeps complete;
      linearizable = subst (λ (ms : List Move). IsLinearizable form.object (report_of_run (run_of form setup ms))) over.same (files_linearizable form laws kept setup files (seats_of moves) over.fit);
      history = has_history form laws kept setup moves are;
      none_left = exhausted_only_where form laws kept setup moves are;
      none_won = λ at_once. exhausted_won_none form laws kept at_once setup moves are;
      exchanges = journals_tell form laws kept setup moves are;
      once = exchanges_once form laws kept setup moves are;
      journal = obeys form laws kept setup moves are;
      overtaking = overtaken_bounded form setup moves are (queues_kept form laws kept setup moves are);
    }
