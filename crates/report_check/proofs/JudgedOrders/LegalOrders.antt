-- Legal orders, call by call.
use Rattle.std.proofs.Common.{List, [], ◌∷◌, ◌++◌, map}
use Rattle.lin_report.specs.Object.{Object, held_after}
use Rattle.lin_report.specs.Calls.{Call}
use Rattle.lin_report.specs.Linearizable.{Answers, IsLegalFrom}

module _ (object : Object) where
  -- what a call in a legal order answers
  pub legal_at : (held : object.Held) (xs : List Call) (y : Call) (ys : List Call) → IsLegalFrom object held (xs ++ y ∷ ys) → Answers y.answer (object.apply y.op (held_after object held (map (λ (c : Call). c.op) xs))).1
  legal_at held [] y ys legal = legal.0
  legal_at held (x ∷ xs) y ys legal = legal_at (object.apply x.op held).0 xs y ys legal.1

  -- a call behind a legal order
  pub legal_push : (held : object.Held) (xs : List Call) (y : Call) → IsLegalFrom object held xs → Answers y.answer (object.apply y.op (held_after object held (map (λ (c : Call). c.op) xs))).1 → IsLegalFrom object held (xs ++ y ∷ [])
  legal_push held [] y legal answers = (answers, tt)
  legal_push held (x ∷ xs) y legal answers = (legal.0, legal_push (object.apply x.op held).0 xs y legal.1 answers)
