-- What one seat did alone can be written.
use Rattle.std.proofs.Common.{◌≡◌, ◌≢◌, ℕ, ◌+◌, ◌<◌, ◌≤◌, Option, List, [], ◌∷◌, length, get_or, All, AllPairs, sym, ap, ◌∙◌, subst, arith}
use Rattle.std.proofs.lemmas.List.Elements.{All-nil, All-cons, All-head, All-tail}
use Rattle.lin_report.specs.declared.calls.Op.{Op}
use Rattle.lin_report.specs.declared.calls.Receipt.{Receipt}
use Rattle.lin_report.specs.Commands.{IsReplyTo}
use Rattle.lin_report.specs.Object.{Object, IsCommandOf, object_of}
use Rattle.lin_report.specs.Tellable.{IsTellable}
use Rattle.lin_report.specs.Calls.{Call, Report, answered_call, calls_of}
use Rattle.lin_report.specs.Writing.{IsPrintable}
use Rattle.lin_report.specs.Sequence.{sequential_receipts, sequential_report, SequentialReportCanBeWritten}
use Rattle.lin_report.proofs.Tellable.{IsReached, reached_empty, reached_next, reached_fits, objects_are_tellable}
use Rattle.lin_report.proofs.Merging.{call_at_answered}
use Rattle.lin_report.proofs.Sequences.{IsPlaced}
use Rattle.lin_report.proofs.Alone.{some_receipt, call_at, receipt_at, many, many_calls}

-- a receipt of a command with a reply of the table
record IsFitting (object : Object) (r : Receipt) : Type 0 where
  command : IsCommandOf object r.op
  reply : IsReplyTo r.op r.reply

all_fitting : (object : Object) → IsTellable object → (first : ℕ) (held : object.Held) (ops : List Op) → IsReached object held → All (IsCommandOf object) ops → All (IsFitting object) (sequential_receipts object first held ops)
all_fitting object tells first held [] reached cans = All-nil (IsFitting object)
all_fitting object tells first held (op ∷ ops) reached cans =
    let is = All-head (IsCommandOf object) op ops cans in
    let after = (object.apply op held).0 in
    All-cons (IsFitting object) _ _ (record { command = is; reply = reached_fits object tells op held is reached })
    (all_fitting object tells (first + 1) after ops (reached_next object op held is reached) (All-tail (IsCommandOf object) op ops cans))

printable : (object : Object) → IsTellable object → (ops : List Op) (k : ℕ) (r : Receipt) → IsPlaced ops 1 k r → IsFitting object r → k < 65535 → IsPrintable (answered_call r)
printable object tells ops k r place fits few = record {
  seat = omega arith;
  counted = omega arith;
  number = omega arith;
  command = tells.named r.op fits.command.command;
  value = fits.command.value;
  begin = omega arith;
  answer = record { reply = fits.reply; end = omega arith };
}

module _ (object : Object) (tells : IsTellable object) (ops : List Op) (count : Option ℕ) (cans : All (IsCommandOf object) ops) (few : length ops ≤ 65535) where
  abbrev alone : Report
  alone = sequential_report object ops

  rise : (i j : ℕ) (d : Receipt) → i ≤ j → j < length alone.receipts → (get_or alone.receipts i d).begin ≤ (get_or alone.receipts j d).begin
  rise i j d before within =
      let first = receipt_at object tells.answers ops i d (omega arith) in
      let later = receipt_at object tells.answers ops j d within in
      omega (arith, first.begin, later.begin)

  apart : AllPairs (λ (x y : Call). x.begin ≢ y.begin) (calls_of alone)
  apart i j d before within same =
      let first = call_at object tells.answers ops i d (omega arith) in
      let later = call_at object tells.answers ops j d within in
      let ticks : first.receipt.begin ≡ later.receipt.begin = sym (ap (λ (x : Call). x.begin) first.is) ∙ same ∙ ap (λ (x : Call). x.begin) later.is in
      omega (arith, first.place.begin, later.place.begin)

  all_printable : All IsPrintable (calls_of alone)
  all_printable k d within =
      let here : k < length ops = omega (arith, many_calls object tells.answers ops) in
      let inside : k < length alone.receipts = omega (arith, many object tells.answers ops) in
      let fits = all_fitting object tells 1 object.empty ops (reached_empty object) cans k some_receipt inside in
      subst IsPrintable (sym (call_at_answered alone k some_receipt d inside))
      (printable object tells ops k _ (receipt_at object tells.answers ops k some_receipt inside) fits (omega arith))

-- what one seat did alone can be written
pub can_be_written : SequentialReportCanBeWritten
can_be_written c ops count cans few small = let object = object_of c in let tells = objects_are_tellable c in record {
  receipts_in_order = rise object tells ops count cans few;
  pending_in_order = λ i j d before within. absurd (omega arith);
  apart = apart object tells ops count cans few;
  printable = all_printable object tells ops count cans few;
  overtaken = small;
}
