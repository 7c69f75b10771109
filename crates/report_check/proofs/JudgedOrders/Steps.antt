-- A judge's step from one entry of an order to the next, and its end.
use Rattle.std.proofs.Common.{◌≡◌, ℕ, ◌+◌, ◌<◌, Bool, true, false, cond, Option, Some, None, List, [], ◌∷◌, ◌++◌, length, take, drop, get_or, All, IsTrue, IfSome, sym, ap, subst, ◌∙◌, arith}
use Rattle.std.specs.Option.{option_map}
use Rattle.std.specs.List.{list_any}
use Rattle.std.proofs.Math.ListN.{set}
use Rattle.std.proofs.lemmas.List.{drop_more, take_more, take_all, drop_all, length-take}
use Rattle.std.proofs.lemmas.List.Elements.{All-head, All-tail}
use Rattle.lin_report.specs.Object.{Object}
use Rattle.lin_report.specs.Calls.{Call, Report, calls_of}
use Rattle.report_check.specs.declared.orders.Named.{Named}
use Rattle.report_check.specs.declared.table.Told.{Told}
use Rattle.report_check.specs.declared.verdicts.Reason.{Reason}
use Rattle.report_check.specs.declared.verdicts.Verdict.TheVariants.{NotLegal}
use Rattle.report_check.specs.Orders.{IsName}
use Rattle.report_check.specs.Verdicts.{name_of, same_name, call_named, is_left_out, by_receipts, reason_at, verdict_from, verdict}
use Rattle.report_check.specs.Tables.{table_place, told, told_reason, later, IsTableOf}
use Rattle.report_check.proofs.JudgedOrders.Judged.{Kept, reason_is, keep, found_call, refused_here, goes_on}

-- what holds of all calls holds of the one that is named
pub named_has : (P : Call → Type 0) (calls : List Call) (name : Named) → All P calls → IfSome (call_named calls name) P
named_has P [] name all = tt
named_has P (c ∷ calls) name all = by_test (named_has P calls name (All-tail P c calls all)) (same_name name (name_of c))
  where
    by_test : IfSome (call_named calls name) P → (b : Bool) → IfSome (cond b (Some c) (call_named calls name)) P
    by_test rest true = All-head P c calls all
    by_test rest false = rest

told_served : (object : Object) (found : Option Call) → IfSome found (λ c. IsTrue (object.serves c.op)) → IfSome (option_map told found) (λ t. IsTrue (object.serves t.op))
told_served object None h = tt
told_served object (Some c) h = h

module _ (object : Object) (report : Report) where
  -- the object serves what is kept of a call
  pub entry_served : (table : List (Option Told)) (entry : Option Told) (place : ℕ) (name : Named) → IsTableOf (calls_of report) table → All (λ c. IsTrue (object.serves c.op)) (calls_of report) → IsName name
      → place ≡ table_place name → entry ≡ get_or table place None → IfSome entry (λ t. IsTrue (object.serves t.op))
  entry_served table entry place name stands served is at read =
      subst (λ (e : Option Told). IfSome e (λ t. IsTrue (object.serves t.op))) (sym (read ∙ ap (λ k. get_or table k None) at ∙ stands.tells name is))
      (told_served object (call_named (calls_of report) name) (named_has (λ (c : Call). IsTrue (object.serves c.op)) (calls_of report) name served))

  -- what is read at the place of an entry
  pub record Reads (order : List Named) (i : ℕ) (name : Named) (place : ℕ) (table : List (Option Told)) (marks : List Bool) (latest : ℕ) (held : object.Held) (entry : Option Told) (mark : Bool) : Type 0 where
    pub is : IsName name
    pub at : place ≡ table_place name
    pub stands : IsTableOf (calls_of report) table
    pub kept : Kept object report (take i order) marks latest held
    pub entry_is : entry ≡ get_or table place None
    pub mark_is : mark ≡ get_or marks place false

  pub entry_reason : {order : List Named} {i : ℕ} {name : Named} {place : ℕ} {table : List (Option Told)} {marks : List Bool} {latest : ℕ} {held : object.Held} {entry : Option Told} {mark : Bool}
      → Reads order i name place table marks latest held entry mark → told_reason object held entry mark latest ≡ reason_at object report (take i order) name
  entry_reason {order} {i} {name} {place} {table} {marks} {latest} {held} {entry} {mark} r =
      ap (λ (e : Option Told). told_reason object held e mark latest) (r.entry_is ∙ ap (λ k. get_or table k None) r.at)
      ∙ ap (λ b. told_reason object held (get_or table (table_place name) None) b latest) (r.mark_is ∙ ap (λ k. get_or marks k false) r.at)
      ∙ reason_is object report (take i order) marks latest held table name r.stands r.is r.kept

  -- an entry at fault decides
  pub at_fault : (order : List Named) (i : ℕ) (d : Named) (place : ℕ) (reason : Reason) → i < length order → place ≡ i + 1 → reason_at object report (take i order) (get_or order i d) ≡ Some reason
      → verdict_from object report (take i order) (drop i order) ≡ verdict object report order → NotLegal (record { place = place; reason = reason }) ≡ verdict object report order
  at_fault order i d place reason lt counted fault rest =
      let numbered : place ≡ length (take i order) + 1 = omega (arith, length-take i order) in
      ap (λ n. NotLegal (record { place = n; reason = reason })) numbered
      ∙ sym (refused_here object report (take i order) (get_or order i d) (drop (i + 1) order) reason fault)
      ∙ ap (verdict_from object report (take i order)) (sym (drop_more order i d lt)) ∙ rest

  -- else the next one does
  pub rest_next : (order : List Named) (i : ℕ) (d : Named) → i < length order → reason_at object report (take i order) (get_or order i d) ≡ None
      → verdict_from object report (take i order) (drop i order) ≡ verdict object report order → verdict_from object report (take (i + 1) order) (drop (i + 1) order) ≡ verdict object report order
  rest_next order i d lt none rest =
      ap (λ (names : List Named). verdict_from object report names (drop (i + 1) order)) (take_more order i d lt)
      ∙ sym (goes_on object report (take i order) (get_or order i d) (drop (i + 1) order) none)
      ∙ ap (verdict_from object report (take i order)) (sym (drop_more order i d lt)) ∙ rest

  -- and what is kept is that of one entry more
  pub kept_next : (order : List Named) (i : ℕ) (d : Named) {place : ℕ} {table : List (Option Told)} {marks : List Bool} {latest : ℕ} {held : object.Held} {entry : Option Told} {mark : Bool} (latest' : ℕ) (held' : object.Held)
      → i < length order → Reads order i (get_or order i d) place table marks latest held entry mark → reason_at object report (take i order) (get_or order i d) ≡ None
      → IfSome entry (λ t. held' ≡ (object.apply t.op held).0) → latest' ≡ later latest entry → Kept object report (take (i + 1) order) (set marks place true) latest' held'
  kept_next order i d {place} {table} {marks} {latest} {held} {entry} {mark} latest' held' lt r none holds latest_is =
      let found = found_call object report (take i order) (get_or order i d) none in
      let entry_told : entry ≡ Some (told found.0) = r.entry_is ∙ ap (λ k. get_or table k None) r.at ∙ r.stands.tells (get_or order i d) r.is ∙ ap (option_map told) found.1 in
      let held_told : held' ≡ (object.apply found.0.op held).0 = subst (λ (e : Option Told). IfSome e (λ t. held' ≡ (object.apply t.op held).0)) entry_told holds in
      let kept = keep object report (take i order) marks latest held (get_or order i d) found.0 r.is found.1 r.kept in
      subst (λ (names : List Named). Kept object report names (set marks place true) latest' held') (sym (take_more order i d lt))
      (subst (λ k. Kept object report (take i order ++ get_or order i d ∷ []) (set marks k true) latest' held') (sym r.at)
      (subst (λ n. Kept object report (take i order ++ get_or order i d ∷ []) (set marks (table_place (get_or order i d)) true) n held') (sym (latest_is ∙ ap (later latest) entry_told))
      (subst (λ (h : object.Held). Kept object report (take i order ++ get_or order i d ∷ []) (set marks (table_place (get_or order i d)) true) (later latest (Some (told found.0))) h) (sym held_told) kept)))

  -- behind the last entry
  pub at_end : (order : List Named) (i place : ℕ) (left_out : Bool) → i ≡ length order → place ≡ i + 1 → left_out ≡ list_any (is_left_out order) report.receipts
      → verdict_from object report (take i order) (drop i order) ≡ verdict object report order → by_receipts place left_out ≡ verdict object report order
  at_end order i place left_out all counted is rest =
      let numbered : place ≡ length order + 1 = omega arith in
      ap (λ n. by_receipts n left_out) numbered ∙ ap (by_receipts (length order + 1)) is
      ∙ sym (ap (λ (names : List Named). verdict_from object report names []) (take_all i order (omega arith)))
      ∙ ap (verdict_from object report (take i order)) (sym (drop_all i order (omega arith))) ∙ rest
