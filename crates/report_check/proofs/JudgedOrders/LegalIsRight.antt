-- A verdict is that an order is legal exactly where the order shows that the report is linearizable.
use Rattle.std.proofs.Common.{◌≡◌, ◌≢◌, ℕ, ◌+◌, ◌<◌, Bool, true, false, not, cond, ◌&&◌, Option, Some, None, List, [], ◌∷◌, ◌++◌, map, length, get_or, All, AllPairs, Contains, refl, sym, ap, subst, ◌∙◌, arith, append_assoc}
use Rattle.std.specs.List.{list_any, cons_option}
use Rattle.std.proofs.lemmas.Bool.{false≢true}
use Rattle.std.proofs.lemmas.List.{append-nil, get_or-map, get_or_read, length-map, map-append}
use Rattle.std.proofs.lemmas.List.Elements.{All-nil, All-push, filter_map-append, Contains-append_left}
use Rattle.std.proofs.lemmas.List.Quantifiers.{all_pairs_push}
use Rattle.std.proofs.lemmas.List.Folds.{list_any_at, Any-from_list_any}
use Rattle.lin_report.specs.declared.calls.Receipt.{Receipt}
use Rattle.lin_report.specs.declared.calls.Reply.{Reply}
use Rattle.lin_report.specs.declared.calls.Reply.TheVariants.{Exhausted}
use Rattle.lin_report.specs.Object.{Object}
use Rattle.lin_report.specs.Calls.{Call, Report, answered_call, pending_call, calls_of, IsSameCall, EndedBefore}
use Rattle.lin_report.specs.Linearizable.{WasExhausted, IsLegal, KeepsTicks}
use Rattle.lin_report.specs.Text.{reply_is_exhausted, answer_is_exhausted}
use Rattle.report_check.specs.declared.orders.Named.{Named}
use Rattle.report_check.specs.declared.verdicts.Reason.{Reason}
use Rattle.report_check.specs.declared.verdicts.Reason.TheVariants.{NoSuchCall, NamedTwice, AgainstTicks, AnotherReply}
use Rattle.report_check.specs.declared.verdicts.Verdict.TheVariants.{Legal}
use Rattle.report_check.specs.Verdicts.{name_of, same_name, call_named, calls_named, may_be, ended_before, reason_of, held_by, reason_with, reason_at, is_left_out, by_reason, by_receipts, verdict_from, verdict}
use Rattle.report_check.specs.Judging.{ShowsLinearizable}
use Rattle.report_check.proofs.JudgedOrders.Names.{same_from_test, test_from_same}
use Rattle.report_check.proofs.JudgedOrders.Replies.{answers_from_test, test_from_ended, effective_from_test, reply_test}
use Rattle.report_check.proofs.JudgedOrders.Found.{found_is, unique}
use Rattle.report_check.proofs.JudgedOrders.LegalOrders.{legal_push}

-- no reason applies
pub record NoReason (answer : Option (Reply × ℕ)) (twice late : Bool) (reply : Reply) : Type 0 where
  pub effective : answer_is_exhausted answer ≡ false
  pub fresh : twice ≡ false
  pub in_time : late ≡ false
  pub answers : may_be answer reply ≡ true

no_reason : (answer : Option (Reply × ℕ)) (twice late : Bool) (reply : Reply) → reason_of answer twice late reply ≡ None → NoReason answer twice late reply
no_reason answer twice late reply e = by_tests (answer_is_exhausted answer) twice late (may_be answer reply) refl refl refl refl e
  where
    by_tests : (a b c d : Bool) → answer_is_exhausted answer ≡ a → twice ≡ b → late ≡ c → may_be answer reply ≡ d
        → cond a (Some NoSuchCall) (cond b (Some NamedTwice) (cond c (Some AgainstTicks) (cond d None (Some AnotherReply)))) ≡ None → NoReason answer twice late reply
    by_tests false false false true p q r s e = record { effective = p; fresh = q; in_time = r; answers = s }
    by_tests true b c d p q r s e = absurd cc
    by_tests false true c d p q r s e = absurd cc
    by_tests false false true d p q r s e = absurd cc
    by_tests false false false false p q r s e = absurd cc

pub reason_none : (answer : Option (Reply × ℕ)) (twice late : Bool) (reply : Reply) → NoReason answer twice late reply → reason_of answer twice late reply ≡ None
reason_none answer twice late reply n =
    ap (λ b. cond b (Some NoSuchCall) (cond twice (Some NamedTwice) (cond late (Some AgainstTicks) (cond (may_be answer reply) None (Some AnotherReply))))) n.effective
    ∙ ap (λ b. cond b (Some NamedTwice) (cond late (Some AgainstTicks) (cond (may_be answer reply) None (Some AnotherReply)))) n.fresh
    ∙ ap (λ b. cond b (Some AgainstTicks) (cond (may_be answer reply) None (Some AnotherReply))) n.in_time
    ∙ ap (λ b. cond b None (Some AnotherReply)) n.answers

-- a test that no element passes, at one
pub fails_at : {X : Type 0} (p : X → Bool) (xs : List X) (k : ℕ) (d : X) → k < length xs → list_any p xs ≡ false → p (get_or xs k d) ≢ true
fails_at p xs k d lt none passes = false≢true (sym none ∙ list_any_at p xs k d lt passes)

pub fails : (b : Bool) → b ≢ true → b ≡ false
fails true h = absurd (h refl)
fails false h = refl

module _ (object : Object) (report : Report) (once : AllPairs (λ (c d : Call). ¬ IsSameCall c d) (calls_of report)) where
  -- the calls of names that were passed: a legal order as far as it goes
  pub record Good (passed : List Named) : Type 0 where
    pub named : map name_of (calls_named (calls_of report) passed) ≡ passed
    pub known : All (Contains (calls_of report)) (calls_named (calls_of report) passed)
    pub effective : All (λ (c : Call). ¬ WasExhausted c) (calls_named (calls_of report) passed)
    pub apart : AllPairs (λ (c d : Call). ¬ IsSameCall c d) (calls_named (calls_of report) passed)
    pub legal : IsLegal object (calls_named (calls_of report) passed)
    pub ticks : KeepsTicks (calls_named (calls_of report) passed)

  good_at_first : Good []
  good_at_first = record {
    named = refl;
    known = All-nil (Contains (calls_of report));
    effective = All-nil (λ (c : Call). ¬ WasExhausted c);
    apart = λ i j d before lt. absurd (omega arith);
    legal = tt;
    ticks = λ i j d before lt. absurd (omega arith);
  }

  -- the name of the k-th call of names that were passed
  name_at : (passed : List Named) → Good passed → (k : ℕ) (d : Call) → k < length (calls_named (calls_of report) passed) → (k < length passed) × (get_or passed k (name_of d) ≡ name_of (get_or (calls_named (calls_of report) passed) k d))
  name_at passed good k d lt =
      let before = calls_named (calls_of report) passed in
      (omega (arith, length-map before name_of, ap length good.named), ap (λ (names : List Named). get_or names k (name_of d)) (sym good.named) ∙ get_or-map name_of before k d (name_of d) lt)

  pushed : (passed : List Named) (name : Named) (c : Call) → Good passed → call_named (calls_of report) name ≡ Some c
      → NoReason c.answer (list_any (same_name name) passed) (list_any (ended_before c.answer) (calls_named (calls_of report) passed)) (object.apply c.op (held_by object (calls_named (calls_of report) passed))).1
      → Good (passed ++ name ∷ [])
  pushed passed name c good found none = record {
    named = ap (map name_of) joined ∙ map-append name_of before (c ∷ []) ∙ ap (λ (names : List Named). names ++ name_of c ∷ []) good.named ∙ ap (λ (n : Named). passed ++ n ∷ []) (sym is.1);
    known = subst (All (Contains (calls_of report))) (sym joined) (All-push (Contains (calls_of report)) before c good.known is.0);
    effective = subst (All (λ (d : Call). ¬ WasExhausted d)) (sym joined) (All-push (λ (d : Call). ¬ WasExhausted d) before c good.effective (effective_from_test c.answer none.effective));
    apart = subst (AllPairs (λ (a b : Call). ¬ IsSameCall a b)) (sym joined) (all_pairs_push (λ (a b : Call). ¬ IsSameCall a b) before c good.apart alone);
    legal = subst (IsLegal object) (sym joined) (legal_push object object.empty before c good.legal (answers_from_test c.answer _ none.answers));
    ticks = subst KeepsTicks (sym joined) (all_pairs_push (λ (a b : Call). ¬ EndedBefore b a) before c good.ticks in_time);
  }
    where
      before : List Call
      before = calls_named (calls_of report) passed

      is : Contains (calls_of report) c × (name ≡ name_of c)
      is = found_is (calls_of report) name c found

      joined : calls_named (calls_of report) (passed ++ name ∷ []) ≡ calls_named (calls_of report) passed ++ c ∷ []
      joined =
          filter_map-append (call_named (calls_of report)) passed (name ∷ [])
          ∙ ap (λ (o : Option Call). calls_named (calls_of report) passed ++ cons_option o []) found

      alone : (k : ℕ) (d : Call) → k < length (calls_named (calls_of report) passed) → ¬ IsSameCall (get_or (calls_named (calls_of report) passed) k d) c
      alone k d lt same =
          let at = name_at passed good k d lt in
          let one : Named = get_or passed k (name_of d) in
          let made : ℕ → ℕ → Named = λ s n. record { seat = s; number = n } in
          let names : name_of (get_or (calls_named (calls_of report) passed) k d) ≡ name_of c = ap (λ s. made s (get_or (calls_named (calls_of report) passed) k d).number) same.seat ∙ ap (made c.seat) same.number in
          fails_at (same_name name) passed k (name_of d) at.0 none.fresh (test_from_same name one (is.1 ∙ sym names ∙ sym at.1))

      in_time : (k : ℕ) (d : Call) → k < length (calls_named (calls_of report) passed) → ¬ EndedBefore c (get_or (calls_named (calls_of report) passed) k d)
      in_time k d lt ended = fails_at (ended_before c.answer) (calls_named (calls_of report) passed) k d lt none.in_time (test_from_ended c.answer _ ended)

  -- an entry more that no reason is against
  good_next : (passed : List Named) (name : Named) → Good passed → reason_at object report passed name ≡ None → Good (passed ++ name ∷ [])
  good_next passed name good e = by_found (call_named (calls_of report) name) refl e
    where
      by_found : (found : Option Call) → call_named (calls_of report) name ≡ found → reason_with object (calls_named (calls_of report) passed) passed name found ≡ None → Good (passed ++ name ∷ [])
      by_found None is e = absurd cc
      by_found (Some c) is e =
          pushed passed name c good is
          (no_reason c.answer (list_any (same_name name) passed) (list_any (ended_before c.answer) (calls_named (calls_of report) passed)) (object.apply c.op (held_by object (calls_named (calls_of report) passed))).1 e)

  abbrev Whole : List Call → Type 0
  Whole order = All (λ (r : Receipt). r.reply ≢ Exhausted → Contains order (answered_call r)) report.receipts

  -- each answered call is a call of the report
  receipt_known : (k : ℕ) (d : Receipt) → k < length report.receipts → Contains (calls_of report) (answered_call (get_or report.receipts k d))
  receipt_known k d lt =
      Contains-append_left (map answered_call report.receipts) (map pending_call report.pending) (answered_call (get_or report.receipts k d))
      (k, omega (arith, length-map report.receipts answered_call), get_or-map answered_call report.receipts k d (answered_call (get_or report.receipts k d)) lt)

  is_whole : (passed : List Named) → Good passed → list_any (is_left_out passed) report.receipts ≡ false → Whole (calls_named (calls_of report) passed)
  is_whole passed good none k d lt answered =
      by_test (reply_is_exhausted r.reply) (list_any (same_name (name_of (answered_call r))) passed) (reply_test r.reply answered) refl (fails_at (is_left_out passed) report.receipts k d lt none)
    where
      r : Receipt
      r = get_or report.receipts k d

      before : List Call
      before = calls_named (calls_of report) passed

      named_by_one : list_any (same_name (name_of (answered_call r))) passed ≡ true → Contains (calls_named (calls_of report) passed) (answered_call r)
      named_by_one e =
          let some = Any-from_list_any (same_name (name_of (answered_call r))) passed e in
          let j = some.0 in
          let within : j < length before = omega (arith, length-map before name_of, ap length good.named, some.2) in
          let c : Call = get_or before j (answered_call r) in
          let names = name_at passed good j (answered_call r) within in
          let same : name_of (answered_call r) ≡ name_of c = same_from_test (name_of (answered_call r)) some.1 some.4 ∙ get_or_read passed j some.1 some.2 (sym some.3) (name_of (answered_call r)) ∙ names.1 in
          let known : Contains (calls_of report) c = good.known j (answered_call r) within in
          (j, within, sym (unique (calls_of report) once (answered_call r) c (receipt_known k d lt) known same))

      by_test : (a b : Bool) → a ≡ false → list_any (same_name (name_of (answered_call r))) passed ≡ b → (not a && not b) ≢ true → Contains (calls_named (calls_of report) passed) (answered_call r)
      by_test true b p q h = absurd cc
      by_test false true p q h = named_by_one q
      by_test false false p q h = absurd (h refl)

  linear : (passed : List Named) → Good passed → Whole (calls_named (calls_of report) passed) → ShowsLinearizable object report passed
  linear passed good whole = record {
    order = calls_named (calls_of report) passed;
    named = good.named;
    linearization = record {
      arrangement = record { known = good.known; effective = good.effective; once = good.apart; whole = whole };
      legal = good.legal;
      ticks = good.ticks;
    };
  }

  at_last : (passed : List Named) → Good passed → (b : Bool) → list_any (is_left_out passed) report.receipts ≡ b → by_receipts (length passed + 1) b ≡ Legal → ShowsLinearizable object report passed
  at_last passed good true e h = absurd cc
  at_last passed good false e h = linear passed good (is_whole passed good e)

  -- an order that is called legal shows that the report is linearizable
  pub shows : (passed names : List Named) → Good passed → verdict_from object report passed names ≡ Legal → ShowsLinearizable object report (passed ++ names)
  shows passed [] good e = subst (ShowsLinearizable object report) (sym (append-nil passed)) (at_last passed good (list_any (is_left_out passed) report.receipts) refl e)
  shows passed (name ∷ names) good e = by_entry (shows (passed ++ name ∷ []) names) (reason_at object report passed name) refl e
    where
      by_entry : (Good (passed ++ name ∷ []) → verdict_from object report (passed ++ name ∷ []) names ≡ Legal → ShowsLinearizable object report ((passed ++ name ∷ []) ++ names)) → (o : Option Reason) → reason_at object report passed name ≡ o
          → by_reason (length passed + 1) o (verdict_from object report (passed ++ name ∷ []) names) ≡ Legal → ShowsLinearizable object report (passed ++ name ∷ names)
      by_entry rest (Some reason) is h = absurd cc
      by_entry rest None is h = subst (ShowsLinearizable object report) (append_assoc passed (name ∷ []) names) (rest (good_next passed name good is) h)

  pub shows_whole : (names : List Named) → verdict object report names ≡ Legal → ShowsLinearizable object report names
  shows_whole names e = shows [] names good_at_first e
