-- Bytes put last one after another.
use Rattle.std.proofs.Common.{ℕ, List, ◌++◌, Vec, Global, append_assoc, length-append, ap, ◌∙◌, arith}
use Rattle.lin_report.specs.Room.{Appends}

pub Appends-trans : {first second third : Vec ℕ Global} {xs ys : List ℕ} → Appends first second xs → Appends second third ys → Appends first third (xs ++ ys)
Appends-trans {first} {second} {third} {xs} {ys} one two = record {
  items = two.items ∙ ap (λ (items : List ℕ). items ++ ys) one.items ∙ append_assoc first.items xs ys;
  len = omega (arith, length-append xs ys);
  capacity = two.capacity ∙ one.capacity;
}
