-- The port of seat 0 is whole once it has taken in that of seat 1.
use Rattle.std.proofs.Common.{arith, ◌≡◌, ◌∙◌, sym, ap, Bool, true, List, ◌∷◌, ◌++◌, if◌then◌else◌}
use lib.ListN.{get_elem?}
use Rattle.shared_memory.specs.declared.view.View.{View}
use Rattle.shared_memory.specs.declared.view.Gathered.{Gathered}
use Rattle.shared_memory.specs.Views.{glued}
use Rattle.shared_memory.specs.Closing.{IsWhole}
use Rattle.thread_tests.specs.Driven.{IsRoot}

pub whole_of_two : {C S W : Type 0} (v w : View C S W) → IsRoot 1 v → w.machine.seat ≡ 1 → IsWhole (glued v w)
whole_of_two v w is own =
    let g : Gathered = record { seat = w.machine.seat; receipts = w.receipts } in
    let made : (if v.root then v.made else w.made) ≡ v.made = ap (λ (b : Bool). if b then v.made else w.made) is.root in
    record {
      root = ap (λ (b : Bool). if b then true else w.root) is.root;
      each = λ k low other.
          let apart : ¬ (k ≡ 0) = λ e. other (e ∙ sym is.seat) in
          let split = is.split in
          let one : 1 ≡ k = omega (arith, low, made, split, apart) in
          (0, g, ap (λ (l : List Gathered). get_elem? (l ++ g ∷ w.gathered) 0) is.none, own ∙ one);
    }
