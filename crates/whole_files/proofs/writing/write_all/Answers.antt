use Rattle.std.proofs.Common.{rules, ◌≡◌, ◌++◌, length, take, drop, sym, ap, ◌∙◌, subst, arith, ◌≤◌, ◌+◌, ◌-◌}
use Rattle.std.proofs.Math.Seq.{take-add}
use Rattle.std.proofs.lemmas.Slice.{between_to_end}
use Rattle.std.specs.Io.KnownBytes.{Appends}
use Rattle.whole_files.proofs.Known.{Appends-then}
use Rattle.whole_files.proofs.writing.write_all.Goals as goal

pub loop-at-preserved : goal.loop-at-preserved
loop-at-preserved g c =
    let bytes = c.args.bytes.now in
    let at = c.loop-at.at in
    let count = c.in_ok-at.field-0 in
    let le : length bytes ≤ length bytes = omega arith in
    let joined : take at bytes ++ take count (take (length bytes - at) (drop at bytes)) ≡ take (at + count) bytes =
    ap (λ v. take at bytes ++ take count v) (between_to_end bytes at (length bytes) le) ∙ sym (take-add at count bytes) in
    record {
      within = search rules;
      written = subst (Appends (g.K.Sink.written c.args.out.now) (g.K.Sink.written c.put.new.self)) joined
          (Appends-then _ _ _ _ _ c.loop-at.invariant.written c.in_ok-at.ensures.writes);
      calm = search rules;
    }
