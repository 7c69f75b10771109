use Rattle.std.proofs.Common.{arith, ◌≡◌, ◌∙◌, List, ap, sym, length, flat_map, map}
use Rattle.std.proofs.lemmas.List.Folds.{flat_map-map}
use Rattle.lin_report.specs.declared.calls.Op.{Op}
use Rattle.lin_report.specs.declared.calls.Receipt.{Receipt}
use Rattle.thread_runs.proofs.Gathering.{map_length}
use Rattle.thread_runs.proofs.Together.{as_many, together}
use Rattle.thread_runs.proofs.run.run_whole.Goals as goal

pub put_together-requires-clause-room : goal.put_together-requires-clause-room
put_together-requires-clause-room g c =
    let run = c.in_ok-rooms.ensures.run in
    let files : List (List Op) = map (λ v. v.items) c.args.files.items in
    let all : List (List Receipt) = map (λ v. v.items) c.in_ok-rooms.rooms.items in
    let many : length files ≡ c.args.setup.seats = map_length (λ v. v.items) c.args.files.items ∙ c.requires.count in
    let same = as_many c.args.setup.seats all files run.count many run.ops in
    let lines = ap length (ap (flat_map (λ v. v.items)) c.as_slice-2.ensures.value ∙ sym (flat_map-map (λ xs. xs) (λ v. v.items) c.in_ok-rooms.rooms.items)) in
    let commands = ap length (ap (flat_map (λ v. v.items)) c.as_slice.ensures.value ∙ sym (flat_map-map (λ xs. xs) (λ v. v.items) c.args.files.items)) in
    let calls = c.calls_in.ensures in
    let room = c.in_ok-lines.ensures.capacity in
    omega (arith, same, lines, commands, calls, room)

pub returns : goal.returns
returns g c = record {
  run = together g.C.Normalized.form c.args.setup (map (λ v. v.items) c.args.files.items) (map (λ v. v.items) c.in_ok-rooms.rooms.items) c.put_together.result.items c.in_ok-rooms.totals.ticks c.in_ok-rooms.totals.claimed
      (c.put_together.ensures ∙ (ap (flat_map (λ v. v.items)) c.as_slice-2.ensures.value ∙ sym (flat_map-map (λ xs. xs) (λ v. v.items) c.in_ok-rooms.rooms.items))) c.in_ok-rooms.ensures.run;
}
