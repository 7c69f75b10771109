use Rattle.std.proofs.Common.{arith, ◌∙◌, ◌*◌, refl, sym, subst, ap, List, Vec, length}
use Rattle.std.specs.Global.{Global}
use Rattle.lin_report.specs.declared.calls.Op.{Op}
use Rattle.event_core.specs.Cores.{CoreView}
use Rattle.run_laws.specs.Files.{FilesFit}
use Rattle.client_reports.specs.Sweeps.{longest}
use Rattle.client_reports.proofs.RunReports.{files_fit, files_of}
use Rattle.client_reports.proofs.SweepRuns.{all_swept, one_swept}
use Rattle.client_reports.proofs.sweeping.lines_of.Goals as goal

pub loop-steps-init : goal.loop-steps-init
loop-steps-init g c = (
  record {
    setup_is = ap (λ (v : CoreView _ _). v.setup) c.in_ok-core.ensures.core;
    files_are = ap (λ (v : CoreView _ _). v.files) c.in_ok-core.ensures.core;
    written = c.in_ok-text.ensures.empty;
    marked = refl;
  },
  omega (arith, c.in_ok-text.text.ok.0, ap length c.in_ok-text.ensures.empty),
  omega (arith, c.in_ok-text.ensures.room),
)

pub add_stop-exhausted-requires-clause-files : goal.add_stop-exhausted-requires-clause-files
add_stop-exhausted-requires-clause-files g c κs within =
    let client = g.C.Normalized.form.object in
    let commands : List (Vec Op Global) = c.args.commands.items in
    let s = c.loop-steps.invariant.0 in
    let fit = files_fit client _ commands (omega (arith, c.len.ensures, c.args.commands.ok.0)) c.requires.commands in
    subst (λ k. FilesFit client k c.loop-steps.core.files) (sym s.setup_is) (subst (FilesFit client _) (sym s.files_are) fit)

pub loop-steps-preserved : goal.loop-steps-preserved
loop-steps-preserved g c =
    let so_far = c.loop-steps.invariant.1 in
    let room = c.loop-steps.invariant.2 in (
      one_swept g.C.Normalized.form c.args.commands.items _ _ c.loop-steps.steps c.loop-steps.core c.add_stop-exhausted.new.core c.loop-steps.text.items c.add_stop-exhausted.new.text.items c.loop-steps.exhausted c.add_stop-exhausted.result
          c.loop-steps.invariant.0 c.add_stop-exhausted.ensures.setup c.add_stop-exhausted.ensures.files c.add_stop-exhausted.ensures.text c.add_stop-exhausted.ensures.exhausted,
      omega (arith, so_far, c.add_stop-exhausted.ensures.len),
      omega (arith, room, c.add_stop-exhausted.ensures.capacity),
    )

pub returns : goal.returns
returns g c =
    let commands : List (Vec Op Global) = c.args.commands.items in
    let rounds = c.longest-rounds.ensures.longest ∙ ap (λ (l : List (Vec Op Global)). longest (files_of l)) c.deref.ensures.value in
    all_swept g.C.Normalized.form commands _ _ c.args.cap c.args.limit c.args.most c.loop-steps.steps c.loop-steps.core c.loop-steps.text.items c.loop-steps.exhausted c.files_meet_headline.ensures
    (files_fit g.C.Normalized.form.object _ commands (omega (arith, c.len.ensures, c.args.commands.ok.0)) c.requires.commands) (omega (arith, c.len.ensures, c.args.commands.ok.0)) refl refl (ap (λ n. n * 16384) rounds)
    (omega (arith, c.loop-steps-test.false, c.loop-steps.auto.steps-end)) c.loop-steps.invariant.0
