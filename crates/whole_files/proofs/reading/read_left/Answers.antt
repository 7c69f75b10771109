use Rattle.std.proofs.Common.{rules, ◌≡◌, ◌≤◌, ◌<◌, ◌+◌, length, take, arith, length-take}
use Rattle.whole_files.proofs.Known.{Consumes-wanted, Consumes-to_end}
use Rattle.whole_files.proofs.reading.read_left.Goals as goal
use Rattle.whole_files.proofs.reading.read_left.Goals.{else-loop-piece-test, then-loop-piece-test+in-Ok+then-count-eq0}

pub returns-clause-bytes : goal.returns-clause-bytes
returns-clause-bytes g c =
    let i = c.loop-piece.invariant in
    let bytes = c.loop-piece.bytes.items in
    elim c.loop-piece-test.branch [
      | else-loop-piece-test w ↦
          let wanted : length bytes ≡ c.args.limit + 1 = omega (arith, c.loop-piece.bytes.ok.0) in
          Consumes-wanted _ _ bytes (c.args.limit + 1) i.read wanted
      | then-loop-piece-test+in-Ok+then-count-eq0 w ↦
          let h = w.in-Ok.ensures in
          let none : w.in-Ok.count ≡ 0 = search rules in
          let more : length (take w.in-Ok.count w.read.new.into) ≡ 0 = omega (arith, length-take w.in-Ok.count w.read.new.into) in
          let room : 0 < length w.read.new.into = search rules in
          let le : length bytes ≤ c.args.limit + 1 = omega (arith, c.loop-piece.bytes.ok.0) in
          Consumes-to_end _ _ _ bytes (take w.in-Ok.count w.read.new.into) (c.args.limit + 1) i.read h.reads (h.end none room) more le
    ]
