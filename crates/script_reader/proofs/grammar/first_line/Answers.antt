use Rattle.std.proofs.Common.{◌≡◌, List, ℕ, [], drop, sym, ap, ◌∙◌, arith}
use Rattle.std.proofs.lemmas.List.{take_rest, nil_from_length}
use Rattle.script_reader.proofs.LinesOf.{first_line_before}
use Rattle.script_reader.proofs.grammar.first_line.Goals as goal

pub returns-in-empty-clause-lines : goal.returns-in-empty-clause-lines
returns-in-empty-clause-lines c =
    let rest = c.split_at.result.1.now in
    let none : rest ≡ [] = nil_from_length rest (omega arith) in
    let next : rest ≡ drop 1 rest = none ∙ sym (ap (λ (xs : List ℕ). drop 1 xs) none) in
    rw c.split_at.ensures.front (first_line_before c.args.bytes.now rest rest c.line_len.result c.line_len.ensures.len c.requires c.split_at.ensures.back next)

pub returns-in-len1-up-clause-lines : goal.returns-in-len1-up-clause-lines
returns-in-len1-up-clause-lines c =
    let rest = c.split_at.result.1.now in
    rw c.split_at.ensures.front (first_line_before c.args.bytes.now rest _ c.line_len.result c.line_len.ensures.len c.requires c.split_at.ensures.back (take_rest rest 1))
