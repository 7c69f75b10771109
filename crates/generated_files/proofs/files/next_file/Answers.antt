use Rattle.std.proofs.Common.{arith, ◌∙◌, ap, sym, ℕ, ◌*◌, List, [], ◌∷◌, ◌++◌, length, length-append}
use Rattle.lin_report.specs.declared.calls.Op.{Op}
use Rattle.generated_files.specs.Generated.{command_after, file_after}
use Rattle.generated_files.specs.Numbers.{number_after}
use Rattle.generated_files.proofs.Numbering.{number_behind, number_none}
use Rattle.generated_files.proofs.Moved.{file_grows}
use Rattle.generated_files.proofs.files.next_file.Goals as goal

pub loop-init : goal.loop-init
loop-init c = (c.in_ok-file.ensures.items, ap length c.in_ok-file.ensures.items, number_none _, (let room = c.in_ok-file.ensures.capacity in omega (arith, room)))

pub loop-preserved : goal.loop-preserved
loop-preserved c =
    let i = c.loop.invariant in
    let x = c.args.numbers.now.newest in
    let client = c.args.client in
    let op : Op = c.next_command.result in
    let old : List Op = c.loop.file.items in
    let pushed = c.push_reserved.ensures in
    let next = c.next_command.ensures in (
      pushed.items
          ∙ (ap (λ (l : List Op). l ++ op ∷ []) i.0
          ∙ (ap (λ (o : Op). file_after client x c.loop.counter ++ o ∷ []) (next.command ∙ ap (λ (n : ℕ). command_after client n 0) i.2) ∙ sym (file_grows client x c.loop.counter))),
      (let a = ap length pushed.items in let b = length-append old (op ∷ []) in let n = i.1 in omega (arith, a, b, n)),
      next.drawn ∙ (ap (λ (n : ℕ). number_after n 3) i.2 ∙ (number_behind x (3 * c.loop.counter) 3 ∙ ap (number_after x) (omega arith))),
      (let room = i.3 in let same = pushed.capacity in omega (arith, room, same)),
    )
