-- The objects of the four structures can be told in reports, and what an object holds that commands alone were made on.
use Rattle.std.proofs.Common.{◌≡◌, IsTrue, List, [], ◌∷◌, ◌++◌, All, refl, sym, ap, ◌∙◌, subst, arith}
use Rattle.std.proofs.lemmas.Bool.Decides.{nat_tests}
use Rattle.std.proofs.lemmas.List.Elements.{All-nil, All-head, All-tail, All-push}
use Rattle.lin_report.specs.declared.calls.Client.{Client}
use Rattle.lin_report.specs.declared.calls.Client.TheVariants as client
use Rattle.lin_report.specs.declared.calls.Op.{Op}
use Rattle.lin_report.specs.Commands.{is_some_command, IsReplyTo}
use Rattle.lin_report.specs.Object.{Object, IsCommandOf, object_of, held_after}
use Rattle.lin_report.specs.Tellable.{IsTellable, ObjectsAreTellable}
use Rattle.lin_report.proofs.Replies.{HoldsInRange, reply_fits, range_kept, range_empty}
use Rattle.lin_report.proofs.Sequences.{object_answers}

-- ---- the four objects

is_named : (c : Client) (op : Op) → IsTrue ((object_of c).serves op) → IsTrue (is_some_command op)
is_named client.Queue op command = grind (arith, nat_tests)
is_named client.List op command = grind (arith, nat_tests)
is_named client.Tree op command = grind (arith, nat_tests)
is_named client.Buckets op command = grind (arith, nat_tests)

-- the reply to a command that comes after commands
fits_from : (c : Client) (held : (object_of c).Held) (ops : List Op) (op : Op) → HoldsInRange c held → All (IsCommandOf (object_of c)) ops → IsCommandOf (object_of c) op
    → IsReplyTo op ((object_of c).apply op (held_after (object_of c) held ops)).1
fits_from c held [] op small cans can = reply_fits c op held can small
fits_from c held (first ∷ ops) op small cans can =
    let is = All-head (IsCommandOf (object_of c)) first ops cans in
    fits_from c ((object_of c).apply first held).0 ops op (range_kept c first held is small) (All-tail (IsCommandOf (object_of c)) first ops cans) can

pub objects_are_tellable : ObjectsAreTellable
objects_are_tellable c = record {
  named = is_named c;
  fits = λ ops op cans can. fits_from c (object_of c).empty ops op (range_empty c) cans can;
  answers = object_answers c;
}

-- ---- any object

-- the object holds this after some commands
pub record IsReached (object : Object) (held : object.Held) : Type 0 where
  pub ops : List Op
  pub commands : All (IsCommandOf object) ops
  pub holds : held ≡ held_after object object.empty ops

held_after-push : (object : Object) (held : object.Held) (ops : List Op) (op : Op) → held_after object held (ops ++ op ∷ []) ≡ (object.apply op (held_after object held ops)).0
held_after-push object held [] op = refl
held_after-push object held (first ∷ ops) op = held_after-push object (object.apply first held).0 ops op

pub reached_empty : (object : Object) → IsReached object object.empty
reached_empty object = record { ops = []; commands = All-nil (IsCommandOf object); holds = refl }

-- what a command leaves is reached too
pub reached_next : (object : Object) (op : Op) (held : object.Held) → IsCommandOf object op → IsReached object held → IsReached object (object.apply op held).0
reached_next object op held can reached = record {
  ops = reached.ops ++ op ∷ [];
  commands = All-push (IsCommandOf object) reached.ops op reached.commands can;
  holds = ap (λ h. (object.apply op h).0) reached.holds ∙ sym (held_after-push object object.empty reached.ops op);
}

-- and so a command there is given a reply of the table
pub reached_fits : (object : Object) → IsTellable object → (op : Op) (held : object.Held) → IsCommandOf object op → IsReached object held → IsReplyTo op (object.apply op held).1
reached_fits object tells op held can reached =
    subst (λ h. IsReplyTo op (object.apply op h).1) (sym reached.holds) (tells.fits reached.ops op reached.commands can)
