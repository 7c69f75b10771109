use Rattle.std.proofs.Common.{arith, ◌∙◌, ap, sym, ℕ, ◌*◌, List, [], ◌∷◌, ◌++◌, length, length-append, map}
use Rattle.std.proofs.lemmas.List.{map-append}
use Rattle.lin_report.specs.declared.calls.Op.{Op}
use Rattle.generated_files.specs.Generated.{file_after, generated_files}
use Rattle.generated_files.specs.Numbers.{number_after}
use Rattle.generated_files.proofs.Numbering.{number_behind, number_none}
use Rattle.generated_files.proofs.Moved.{files_grow, one_more}
use Rattle.generated_files.proofs.files.generate.Goals as goal

pub loop-init : goal.loop-init
loop-init c = (
  ap (map (λ file. file.items)) c.in_ok-files.ensures.items,
  ap length c.in_ok-files.ensures.items,
  c.of_seed-numbers.ensures.newest ∙ (number_none c.args.seed ∙ ap (number_after c.args.seed) (omega arith)),
  (let room = c.in_ok-files.ensures.capacity in omega (arith, room)),
)

pub loop-preserved : goal.loop-preserved
loop-preserved c =
    let i = c.loop.invariant in
    let client = c.args.client in
    let seed : ℕ = c.args.seed in
    let calls : ℕ = c.args.calls in
    let n : ℕ = c.loop.counter in
    let file = c.in_ok-next_file.field-0 in
    let pushed = c.push_reserved.ensures in
    let next = c.in_ok-next_file.ensures in (
      ap (map (λ f. f.items)) pushed.items
          ∙ (map-append (λ f. f.items) c.loop.files.items (file ∷ [])
          ∙ (ap (λ (l : List (List Op)). l ++ file.items ∷ []) i.0
          ∙ (ap (λ (f : List Op). generated_files client seed n calls ++ f ∷ []) (next.file ∙ ap (λ (x : ℕ). file_after client x calls) i.2) ∙ sym (files_grow client seed calls n)))),
      (let a = ap length pushed.items in let b = length-append c.loop.files.items (file ∷ []) in let m = i.1 in omega (arith, a, b, m)),
      next.drawn ∙ (ap (λ (x : ℕ). number_after x (3 * calls)) i.2 ∙ (number_behind seed (3 * (n * calls)) (3 * calls) ∙ ap (number_after seed) (one_more n calls))),
      (let room = i.3 in let same = pushed.capacity in omega (arith, room, same)),
    )
