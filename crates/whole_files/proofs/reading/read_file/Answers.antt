use Rattle.std.proofs.Common.{rules, ◌≡◌, ◌+◌, Some, IsTrue, IsSomeAnd, take}
use Rattle.std.proofs.lemmas.Result.{IfOk-weaker}
use Rattle.whole_files.proofs.Known.{held-left}
use Rattle.whole_files.proofs.reading.read_file.Goals as goal

pub returns-clause-bytes : goal.returns-clause-bytes
returns-clause-bytes g c =
    let chosen : IsTrue (g.F.Files.tells c.args.files.now) → IsSomeAnd (g.F.Files.held c.args.files.now c.args.name.now) (λ bytes. g.F.Files.left c.start_file.new.self ≡ Some bytes) = search rules in
    IfOk-weaker c.read_left.result _ _ (λ bytes left t. held-left (λ held. bytes.items ≡ take (c.args.limit + 1) held) _ _ (chosen t) left) c.read_left.ensures.bytes
