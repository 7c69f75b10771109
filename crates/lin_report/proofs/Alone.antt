-- What one seat did alone is a report over its file, and linearizable.
use Rattle.std.proofs.Common.{◌≡◌, ◌≢◌, ℕ, ◌+◌, ◌-◌, ◌<◌, List, [], ◌∷◌, ◌++◌, map, length, get_or, slice_get, All, AllPairs, Contains, refl, sym, ap, ap₂, ◌∙◌, subst, arith}
use Rattle.std.proofs.lemmas.List.Elements.{All-contains_itself, Contains-get_or}
use Rattle.lin_report.specs.declared.calls.Op.{Op}
use Rattle.lin_report.specs.declared.calls.Reply.TheVariants.{Yes, Exhausted}
use Rattle.lin_report.specs.declared.calls.Path.TheVariants.{Fast}
use Rattle.lin_report.specs.declared.calls.Receipt.{Receipt}
use Rattle.lin_report.specs.Object.{Object}
use Rattle.lin_report.specs.Calls.{Call, Report, answered_call, calls_of, IsSameCall, EndedBefore}
use Rattle.lin_report.specs.Report.{IsReport, IsCommand, FollowsAnswer, file_of}
use Rattle.lin_report.specs.Linearizable.{IsLinearizable, IsLegalFrom, KeepsTicks, WasExhausted}
use Rattle.lin_report.specs.Sequence.{sequential_receipts, sequential_report}
use Rattle.lin_report.proofs.Merging.{call_at_answered, count_of_calls}
use Rattle.lin_report.proofs.Ticks.{each_tick, length-ticks}
use Rattle.lin_report.proofs.Sequences.{IsPlaced, placed, length-sequential_receipts}

-- a receipt to look up with
pub some_receipt : Receipt
some_receipt = record { seat = 0; number = 0; op = record { code = 0; key = 0; value = 0 }; reply = Yes; begin = 0; end = 0; path = Fast }

-- the k-th call is an answered one in its place
pub record IsPlacedCall (ops : List Op) (k : ℕ) (c : Call) : Type 0 where
  pub receipt : Receipt
  pub is : c ≡ answered_call receipt
  pub place : IsPlaced ops 1 k receipt

command_of : (ops : List Op) (k : ℕ) (r : Receipt) → IsPlaced ops 1 k r → IsCommand (ops ∷ []) (answered_call r)
command_of ops k r place =
    let index : r.number - 1 ≡ k = omega arith in
    record {
      counted = omega arith;
      command = ap₂ (λ (seat n : ℕ). slice_get (file_of (ops ∷ []) seat) n) place.seat index ∙ place.op;
    }

module _ (object : Object) (answers : (op : Op) (held : object.Held) → (object.apply op held).1 ≢ Exhausted) (ops : List Op) where
  abbrev pub alone : Report
  alone = sequential_report object ops

  pub many : length alone.receipts ≡ length ops
  many = length-sequential_receipts object answers 1 object.empty ops

  pub many_calls : length (calls_of alone) ≡ length ops
  many_calls = count_of_calls alone ∙ omega (arith, many)

  pub receipt_at : (k : ℕ) (d : Receipt) → k < length alone.receipts → IsPlaced ops 1 k (get_or alone.receipts k d)
  receipt_at k d within = placed object answers 1 object.empty ops k d (omega (arith, many))

  pub call_at : (k : ℕ) (d : Call) → k < length (calls_of alone) → IsPlacedCall ops k (get_or (calls_of alone) k d)
  call_at k d within = record {
    receipt = get_or alone.receipts k some_receipt;
    is = call_at_answered alone k some_receipt d (omega (arith, many, many_calls));
    place = receipt_at k some_receipt (omega (arith, many, many_calls));
  }

  each_once : AllPairs (λ c d. ¬ IsSameCall c d) (calls_of alone)
  each_once i j d before within same =
      let one = call_at i d (omega arith) in
      let two = call_at j d within in
      let numbers : one.receipt.number ≡ two.receipt.number = sym (ap (λ (c : Call). c.number) one.is) ∙ same.number ∙ ap (λ (c : Call). c.number) two.is in
      omega (arith, one.place.number, two.place.number)

  call_before : (k : ℕ) (r : Receipt) → IsPlaced ops 1 k r → k < length ops → 1 < r.number → FollowsAnswer alone (answered_call r)
  call_before k r place within more =
      let earlier : k - 1 < length alone.receipts = omega (arith, many) in
      let at = receipt_at (k - 1) some_receipt earlier in
      record {
        before = get_or alone.receipts (k - 1) some_receipt;
        answered = Contains-get_or alone.receipts (k - 1) some_receipt earlier;
        seat = at.seat ∙ sym place.seat;
        number = omega arith;
        ended = omega arith;
      }

  in_turn : All (λ c. 1 < c.number → FollowsAnswer alone c) (calls_of alone)
  in_turn k d within =
      let at = call_at k d within in
      subst (λ (c : Call). 1 < c.number → FollowsAnswer alone c) (sym at.is) (λ more. call_before k at.receipt at.place (omega (arith, many_calls)) more)

  pub alone_is_report : IsReport (ops ∷ []) alone
  alone_is_report = record {
    commands = λ k d within. let at = call_at k d within in subst (IsCommand (ops ∷ [])) (sym at.is) (command_of ops k at.receipt at.place);
    once = each_once;
    in_turn = in_turn;
    forward = λ k d within. let at = receipt_at k d within in omega (arith, at.begin, at.end);
    ticks = λ t below. each_tick object t ops (omega (arith, length-ticks object ops, many));
  }

  legal_from : (first : ℕ) (held : object.Held) (more : List Op) → IsLegalFrom object held (map answered_call (sequential_receipts object first held more) ++ [])
  legal_from first held [] = tt
  legal_from first held (op ∷ more) = (refl, legal_from (first + 1) (object.apply op held).0 more)

  keeps_ticks : KeepsTicks (calls_of alone)
  keeps_ticks i j d before within ended =
      let early = call_at i d (omega arith) in
      let late = call_at j d within in
      let begun : (get_or (calls_of alone) i d).begin ≡ early.receipt.begin = ap (λ (c : Call). c.begin) early.is in
      let over : late.receipt.end < (get_or (calls_of alone) i d).begin = subst (λ (c : Call). EndedBefore c (get_or (calls_of alone) i d)) late.is ended in
      omega (arith, early.place.begin, late.place.end)

  effective : All (λ c. ¬ WasExhausted c) (calls_of alone)
  effective k d within = let at = call_at k d within in subst (λ (c : Call). ¬ WasExhausted c) (sym at.is) at.place.reply

  whole : All (λ (r : Receipt). r.reply ≢ Exhausted → Contains (calls_of alone) (answered_call r)) alone.receipts
  whole k d within answered = (k, omega (arith, many, many_calls), call_at_answered alone k d (answered_call (get_or alone.receipts k d)) within)

  pub alone_is_linearizable : IsLinearizable object alone
  alone_is_linearizable = record {
    order = calls_of alone;
    linearization = record {
      arrangement = record { known = All-contains_itself (calls_of alone); effective = effective; once = each_once; whole = whole };
      legal = legal_from 1 object.empty ops;
      ticks = keeps_ticks;
    };
  }
