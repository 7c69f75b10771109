-- The receipts of one seat alone, by their places.
use Rattle.std.proofs.Common.{◌≡◌, ◌≢◌, ℕ, zero, suc, ◌+◌, ◌-◌, ◌*◌, ◌<◌, ◌==◌, Bool, true, false, cond, Option, Some, None, List, [], ◌∷◌, length, get_or, slice_get, refl, ap, arith}
use Rattle.std.specs.Ordering.{nat_cmp}
use Rattle.std.specs.FinSet as set
use Rattle.std.specs.FinMap as map
use Rattle.lin_report.specs.declared.calls.Client.{Client}
use Rattle.lin_report.specs.declared.calls.Client.TheVariants as client
use Rattle.lin_report.specs.declared.calls.Op.{Op}
use Rattle.lin_report.specs.declared.calls.Reply.{Reply}
use Rattle.lin_report.specs.declared.calls.Reply.TheVariants.{Exhausted}
use Rattle.lin_report.specs.declared.calls.Receipt.{Receipt}
use Rattle.lin_report.specs.declared.calls.TheConstants.{PUT, TAKE, ADD, DEL, HAS, SET, REM}
use Rattle.lin_report.specs.Object.{Object, object_of, yes_if, take_first, value_or_empty, value_or_absent, least, set_apply}
use Rattle.lin_report.specs.Sequence.{sequential_receipts}

-- the k-th receipt is that of the k-th operation, with the number and the ticks of its place
pub record IsPlaced (ops : List Op) (first k : ℕ) (r : Receipt) : Type 0 where
  pub seat : r.seat ≡ 0
  pub number : r.number ≡ first + k
  pub op : slice_get ops k ≡ Some r.op
  pub begin : r.begin ≡ 2 * (first + k) - 2
  pub end : r.end ≡ 2 * (first + k) - 1
  pub reply : r.reply ≢ Exhausted

choice_answers : {Held : Type 0} (b : Bool) (x y : Held × Reply) → x.1 ≢ Exhausted → y.1 ≢ Exhausted → (cond b x y).1 ≢ Exhausted
choice_answers true x y hx hy = hx
choice_answers false x y hx hy = hy

yes_if_answers : (b : Bool) → yes_if b ≢ Exhausted
yes_if_answers true = λ same. cc
yes_if_answers false = λ same. cc

take_first_answers : (values : List ℕ) → (take_first values).1 ≢ Exhausted
take_first_answers [] = λ same. cc
take_first_answers (value ∷ values) = λ same. cc

value_answers : (value : Option ℕ) → value_or_absent value ≢ Exhausted
value_answers None = λ same. cc
value_answers (Some value) = λ same. cc

told_answers : (value : Option ℕ) → value_or_empty value ≢ Exhausted
told_answers None = λ same. cc
told_answers (Some value) = λ same. cc

set_answers : (op : Op) (keys : set.FinSet nat_cmp) → (set_apply op keys).1 ≢ Exhausted
set_answers op keys =
    choice_answers (op.code == ADD) _ _ (yes_if_answers _) (choice_answers (op.code == DEL) _ _ (yes_if_answers _) (choice_answers (op.code == HAS) _ _ (yes_if_answers _) (told_answers (least (set.items keys)))))

-- exhausted is no reply of an object
pub object_answers : (c : Client) (op : Op) (held : (object_of c).Held) → ((object_of c).apply op held).1 ≢ Exhausted
object_answers client.Queue op held = choice_answers (op.code == PUT) _ _ (λ same. cc) (choice_answers (op.code == TAKE) _ _ (take_first_answers held) (told_answers (slice_get held 0)))
object_answers client.List op held = set_answers op held
object_answers client.Tree op held =
    choice_answers (op.code == SET) _ _ (choice_answers (map.contains_key held op.key) _ _ (λ same. cc) (λ same. cc)) (choice_answers (op.code == REM) _ _ (yes_if_answers _) (value_answers _))
object_answers client.Buckets op held = set_answers op held

module _ (object : Object) (answers : (op : Op) (held : object.Held) → (object.apply op held).1 ≢ Exhausted) where
  pub length-sequential_receipts : (first : ℕ) (held : object.Held) (ops : List Op) → length (sequential_receipts object first held ops) ≡ length ops
  length-sequential_receipts first held [] = refl
  length-sequential_receipts first held (op ∷ ops) = ap suc (length-sequential_receipts (first + 1) (object.apply op held).0 ops)

  pub placed : (first : ℕ) (held : object.Held) (ops : List Op) (k : ℕ) (d : Receipt) → k < length ops → IsPlaced ops first k (get_or (sequential_receipts object first held ops) k d)
  placed first held [] k d within = absurd (omega arith)
  placed first held (op ∷ ops) zero d within = record {
    seat = refl;
    number = omega arith;
    op = refl;
    begin = omega arith;
    end = omega arith;
    reply = answers op held;
  }
  placed first held (op ∷ ops) (suc k) d within =
      let later = placed (first + 1) (object.apply op held).0 ops k d (omega arith) in
      record { seat = later.seat; number = omega arith; op = later.op; begin = omega arith; end = omega arith; reply = later.reply }
