-- Every run of command files meets the headline, with helpers and without.
use Rattle.normal_traits.specs.NormalForm.{NormalForm}
use Rattle.normal_traits.specs.Laws.{Laws}
use Rattle.fast_slow_engine.specs.Runs.{moves_over}
use Rattle.run_laws.proofs.CommandsMade.{files_run}
use Rattle.run_exchanges.specs.Kept.{RunsAreKept}
use Rattle.run_exchanges.proofs.Kept.EveryRun.{queues_kept}
use Rattle.run_overtaking.proofs.EventLaws.{overtaken_bounded}
use Rattle.run_exchanges.proofs.Exchanges.Made.{exchanges_once, journals_tell}
use Rattle.run_exchanges.proofs.Journals.Obey.{obeys}
use Rattle.run_reports.specs.Headline.{FilesMeetHeadline}
use Rattle.run_reports.proofs.Placed.Linearized.{exhausted_only_where, exhausted_won_none, files_linearizable}
use Rattle.run_reports.proofs.Placed.Moments.{has_history}
use Rattle.run_reports.proofs.Placed.Placeable.{files_report}

pub files_meet_headline : {S W : Type 0} (form : NormalForm S W) → Laws form → RunsAreKept form → FilesMeetHeadline form
files_meet_headline form laws kept setup files order fit =
    let moves = moves_over form setup files order in
    let are = (files_run form setup files order fit).follow in
    record {
      complete = files_report form laws kept setup files order fit;
      linearizable = files_linearizable form laws kept setup files order fit;
      history = has_history form laws kept setup moves are;
      none_left = exhausted_only_where form laws kept setup moves are;
      none_won = λ at_once. exhausted_won_none form laws kept at_once setup moves are;
      exchanges = journals_tell form laws kept setup moves are;
      once = exchanges_once form laws kept setup moves are;
      journal = obeys form laws kept setup moves are;
      overtaking = overtaken_bounded form setup moves are (queues_kept form laws kept setup moves are);
    }
