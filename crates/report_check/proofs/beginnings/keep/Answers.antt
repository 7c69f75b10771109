use Rattle.report_check.proofs.CallsRead.OneCallMore.{kept}
use Rattle.report_check.proofs.beginnings.keep.Goals as goal

pub returns : goal.returns
returns c = λ before knows.
    kept before c.args.call c.args.last.now.items c.args.ticks.now.items c.draw_end.new.ticks.items c.requires.printable.seat c.requires.printable.begin c.draw_end.ensures.long
    c.draw_end.ensures.drawn knows
