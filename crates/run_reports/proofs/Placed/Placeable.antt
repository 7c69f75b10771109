-- The calls of every run can be placed: each is accounted for, and a change of a call that runs came after its begin.
use Rattle.std.proofs.Common.{List, [], ◌∷◌, ◌++◌, sym, subst, inr, arith}
use Rattle.normal_traits.specs.World.{Among}
use Rattle.normal_traits.specs.NormalForm.{NormalForm}
use Rattle.normal_traits.specs.Laws.{Laws}
use Rattle.fast_slow_engine.specs.declared.setup.Setup.{Setup}
use Rattle.fast_slow_engine.specs.Runs.{Move, AreMoves, moves_over}
use Rattle.run_laws.proofs.CommandsMade.{files_run}
use Rattle.run_laws.proofs.CountersLeft.{client_keeps_ticks}
use Rattle.run_laws.proofs.ReceiptsAreReports.{runs_report}
use Rattle.run_exchanges.specs.Kept.{RunsAreKept}
use Rattle.run_exchanges.proofs.Tells.Replies.{changes_commands, replies_right}
use Rattle.run_exchanges.proofs.Tells.Values.{commands_reach}
use Rattle.run_reports.specs.Files.{FilesReport}
use Rattle.run_reports.proofs.Counts.Begun.{each_begun}
use Rattle.run_reports.proofs.Counts.Ticks.{at_rises, at_within}
use Rattle.run_reports.proofs.Endings.Accounted.{calls_accounted}
use Rattle.run_reports.proofs.Endings.Lines.{of_call}
use Rattle.run_reports.proofs.Placed.Reports.{Placeable}

among_older : {X : Type 0} (x : X) (newer older : List X) → Among x older → Among x (newer ++ older)
among_older x [] older among = among
among_older x (y ∷ newer) older among = inr (among_older x newer older among)

module _ {S W : Type 0} (form : NormalForm S W) (laws : Laws form) (kept : RunsAreKept form) where
  pub files_report : FilesReport form
  files_report setup files order fit =
      let moves = moves_over form setup files order in
      runs_report form setup files order fit (client_keeps_ticks form setup moves (kept setup moves (files_run form setup files order fit).follow).ticks)

  -- the calls of every run can be placed
  pub each_placeable : (setup : Setup) (moves : List Move) → AreMoves form setup moves → Placeable form setup moves
  each_placeable setup moves are =
      let commands = changes_commands form laws kept setup moves are in
      record {
        accounted = calls_accounted form laws kept setup moves are;
        replied = replies_right form laws kept setup moves are;
        ranged = λ newer older is. commands_reach form.object older (λ change among. commands change (subst (Among change) (sym is) (among_older change newer older among)));
        rises = at_rises form setup moves;
        within = at_within form setup moves;
        begun = λ seat mech at running newer older change is call.
            (let well = each_begun form laws kept setup moves are seat mech at in
            let count = well.count running in
            let far = well.after' running change older (newer, is) (of_call mech change call) in
            omega (arith, count, far));
      }
