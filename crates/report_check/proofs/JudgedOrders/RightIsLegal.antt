-- An order that shows that a report is linearizable is called legal.
use Rattle.std.proofs.Common.{◌≡◌, ◌≢◌, ◌+◌, Bool, true, false, not, ◌&&◌, ◌||◌, Result, Ok, Err, None, List, [], ◌∷◌, ◌++◌, map, length, get_or, All, AllPairs, Contains, refl, sym, ap, subst, ◌∙◌, arith, append_assoc, length-append}
use Rattle.std.specs.Prelude.{IfOk}
use Rattle.std.specs.List.{list_any}
use Rattle.std.proofs.Math.Seq.{get_or-append_seam}
use Rattle.std.proofs.lemmas.List.{append-nil, get_or-map, length-map, map-append}
use Rattle.std.proofs.lemmas.List.Elements.{All-head, All-tail, at_from_Contains}
use Rattle.std.proofs.lemmas.List.Folds.{list_any_at, list_any_none}
use Rattle.lin_report.specs.declared.calls.Receipt.{Receipt}
use Rattle.lin_report.specs.declared.calls.Reply.TheVariants.{Exhausted}
use Rattle.lin_report.specs.declared.calls.Client.{Client}
use Rattle.lin_report.specs.declared.objects.NoMemory.{NoMemory}
use Rattle.lin_report.specs.Object.{Object, object_of}
use Rattle.lin_report.specs.Calls.{Call, Report, answered_call, calls_of, IsSameCall, EndedBefore}
use Rattle.lin_report.specs.Linearizable.{WasExhausted, IsLinearization}
use Rattle.lin_report.specs.Text.{reply_is_exhausted}
use Rattle.report_check.specs.declared.orders.Named.{Named}
use Rattle.report_check.specs.declared.verdicts.Verdict.{Verdict}
use Rattle.report_check.specs.declared.verdicts.Verdict.TheVariants.{Legal}
use Rattle.report_check.specs.Verdicts.{name_of, same_name, call_named, ended_before, held_by, reason_with, reason_at, is_left_out, by_receipts, verdict_from, verdict}
use Rattle.report_check.specs.Judging.{CanJudge, ShowsLinearizable, IsFair}
use Rattle.report_check.proofs.JudgedOrders.Names.{same_from_test, test_from_same, same_call}
use Rattle.report_check.proofs.Pairs.{all_front, pairs_before}
use Rattle.report_check.proofs.JudgedOrders.Replies.{test_from_answers, ended_from_test, test_from_effective, reply_from_test}
use Rattle.report_check.proofs.JudgedOrders.Found.{named_again, all_named_again}
use Rattle.report_check.proofs.JudgedOrders.LegalOrders.{legal_at}
use Rattle.report_check.proofs.JudgedOrders.Judged.{goes_on}
use Rattle.report_check.proofs.JudgedOrders.LegalIsRight.{reason_none, fails, shows_whole}

-- the element behind a front
behind : {X : Type 0} (P : X → Type 0) (xs : List X) (y : X) (ys : List X) → All P (xs ++ y ∷ ys) → P y
behind P xs y ys all = subst P (get_or-append_seam xs y ys y) (all (length xs) y (omega (arith, length-append xs (y ∷ ys))))

-- a test that fails at each call, on their names
no_name : (name : Named) (xs : List Call) → All (λ (d : Call). same_name name (name_of d) ≡ false) xs → list_any (same_name name) (map name_of xs) ≡ false
no_name name [] all = refl
no_name name (x ∷ xs) all =
    ap (λ b. b || list_any (same_name name) (map name_of xs)) (All-head (λ (d : Call). same_name name (name_of d) ≡ false) x xs all)
    ∙ no_name name xs (All-tail (λ (d : Call). same_name name (name_of d) ≡ false) x xs all)

module _ (object : Object) (report : Report) (once : AllPairs (λ (c d : Call). ¬ IsSameCall c d) (calls_of report)) where
  -- no reason is against an entry of a linearization
  entry_passes : (xs : List Call) (y : Call) (ys : List Call) → IsLinearization object report (xs ++ y ∷ ys) → reason_at object report (map name_of xs) (name_of y) ≡ None
  entry_passes xs y ys shown =
      ap (λ (cs : List Call). reason_with object cs (map name_of xs) (name_of y) (call_named (calls_of report) (name_of y))) (all_named_again (calls_of report) once xs (all_front (Contains (calls_of report)) xs (y ∷ ys) shown.arrangement.known))
      ∙ ap (reason_with object xs (map name_of xs) (name_of y)) (named_again (calls_of report) once y (behind (Contains (calls_of report)) xs y ys shown.arrangement.known))
      ∙ reason_none y.answer (list_any (same_name (name_of y)) (map name_of xs)) (list_any (ended_before y.answer) xs) (object.apply y.op (held_by object xs)).1 (record {
        effective = test_from_effective y.answer (behind (λ (d : Call). ¬ WasExhausted d) xs y ys shown.arrangement.effective);
        fresh = no_name (name_of y) xs (λ k d lt. fails (same_name (name_of y) (name_of (get_or xs k d))) (λ e.
            pairs_before (λ (a b : Call). ¬ IsSameCall a b) xs y ys shown.arrangement.once k d lt (same_call (get_or xs k d) y (sym (same_from_test (name_of y) (name_of (get_or xs k d)) e)))));
        in_time = list_any_none (ended_before y.answer) xs (λ k d lt. fails (ended_before y.answer (get_or xs k d)) (λ e.
            pairs_before (λ (a b : Call). ¬ EndedBefore b a) xs y ys shown.ticks k d lt (ended_from_test y.answer (get_or xs k d) e)));
        answers = test_from_answers y.answer _ (legal_at object object.empty xs y ys shown.legal);
      })

  -- none is left out of a whole one
  none_left : (order : List Call) → All (λ (r : Receipt). r.reply ≢ Exhausted → Contains order (answered_call r)) report.receipts → list_any (is_left_out (map name_of order)) report.receipts ≡ false
  none_left order whole = list_any_none (is_left_out (map name_of order)) report.receipts (λ k d lt. by_reply (get_or report.receipts k d) (whole k d lt) (reply_is_exhausted (get_or report.receipts k d).reply) refl)
    where
      named : (r : Receipt) → Contains order (answered_call r) → list_any (same_name (name_of (answered_call r))) (map name_of order) ≡ true
      named r known =
          let at = at_from_Contains order (answered_call r) known in
          list_any_at (same_name (name_of (answered_call r))) (map name_of order) at.0 (name_of (answered_call r)) (omega (arith, length-map order name_of, at.1))
          (test_from_same (name_of (answered_call r)) _ (sym (get_or-map name_of order at.0 (answered_call r) (name_of (answered_call r)) at.1 ∙ ap name_of (at.2 (answered_call r)))))

      by_reply : (r : Receipt) → (r.reply ≢ Exhausted → Contains order (answered_call r)) → (b : Bool) → reply_is_exhausted r.reply ≡ b → (not b && not (list_any (same_name (name_of (answered_call r))) (map name_of order))) ≡ false
      by_reply r has true e = refl
      by_reply r has false e = ap not (named r (has (reply_from_test r.reply e)))

  called_from : (xs ys : List Call) → IsLinearization object report (xs ++ ys) → verdict_from object report (map name_of xs) (map name_of ys) ≡ Legal
  called_from xs [] shown = ap (by_receipts (length (map name_of xs) + 1)) (none_left xs (subst (λ (order : List Call). All (λ (r : Receipt). r.reply ≢ Exhausted → Contains order (answered_call r)) report.receipts) (append-nil xs) shown.arrangement.whole))
  called_from xs (y ∷ ys) shown =
      goes_on object report (map name_of xs) (name_of y) (map name_of ys) (entry_passes xs y ys shown)
      ∙ ap (λ (names : List Named). verdict_from object report names (map name_of ys)) (sym (map-append name_of xs (y ∷ [])))
      ∙ called_from (xs ++ y ∷ []) ys (subst (IsLinearization object report) (sym (append_assoc xs (y ∷ []) ys)) shown)

  called : (names : List Named) → ShowsLinearizable object report names → verdict object report names ≡ Legal
  called names shows = ap (verdict object report) (sym shows.named) ∙ called_from [] shows.order shows.linearization

-- the law of verdicts
pub is_fair : (object : Object) (report : Report) (names : List Named) → CanJudge object report → IsFair object report names (verdict object report names)
is_fair object report names can = (shows_whole object report can.once names, called object report can.once names)

-- the same of what a judge answers, where the client is this kind of one
pub answers_fairly : (client kind : Client) (report : Report) (names : List Named) (r : Result Verdict NoMemory) → client ≡ kind → CanJudge (object_of client) report → IfOk r (λ v. v ≡ verdict (object_of kind) report names)
    → IfOk r (λ v. IsFair (object_of client) report names v)
answers_fairly client kind report names (Err e) is can h = tt
answers_fairly client kind report names (Ok v) is can h =
    subst (IsFair (object_of client) report names) (ap (λ (k : Client). verdict (object_of k) report names) is ∙ sym h) (is_fair (object_of client) report names can)
