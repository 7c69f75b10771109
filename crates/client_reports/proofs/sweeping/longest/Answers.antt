use Rattle.std.proofs.Common.{rules, arith, ◌∙◌, ap, max}
use Rattle.client_reports.proofs.SweepRuns.{longest_next}
use Rattle.client_reports.proofs.sweeping.longest.Goals as goal

pub loop-file-preserved : goal.loop-file-preserved
loop-file-preserved c = (
  c.greater-longest.ensures ∙ ap (max c.loop-file.longest) (c.len.ensures ∙ c.file-item.result.ok.0)
      ∙ longest_next c.args.files.now c.loop-file.file-index c.file-item.result c.loop-file.longest (omega (arith, c.loop-file-test.true)) c.file-item.is c.loop-file.invariant.0,
  (search rules),
)
