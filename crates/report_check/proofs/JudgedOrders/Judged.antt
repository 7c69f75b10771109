-- What a judge keeps of the entries that it has passed, and the verdict on the rest.
use Rattle.std.proofs.Common.{◌≡◌, ℕ, ◌+◌, Bool, true, false, cond, ltb, ◌||◌, Option, Some, None, List, [], ◌∷◌, ◌++◌, map, length, get_or, refl, sym, ap, ◌∙◌, arith}
use Rattle.std.specs.Option.{option_map}
use Rattle.std.specs.List.{list_any, cons_option}
use Rattle.std.proofs.Math.ListN.{set, length-set}
use Rattle.std.proofs.lemmas.Bool.Decides.{nat_tests}
use Rattle.std.proofs.lemmas.List.{get_or-set_same, get_or-set_other, map-append}
use Rattle.std.proofs.lemmas.List.Elements.{filter_map-append}
use Rattle.std.proofs.lemmas.List.Folds.{list_any-append}
use Rattle.lin_report.specs.declared.calls.Op.{Op}
use Rattle.lin_report.specs.declared.calls.Reply.{Reply}
use Rattle.lin_report.specs.Object.{Object, held_after}
use Rattle.lin_report.specs.Calls.{Call, Report, calls_of}
use Rattle.report_check.specs.declared.orders.Named.{Named}
use Rattle.report_check.specs.declared.table.Told.{Told}
use Rattle.report_check.specs.declared.verdicts.Reason.{Reason}
use Rattle.report_check.specs.declared.verdicts.Verdict.TheVariants.{NotLegal}
use Rattle.report_check.specs.Orders.{IsName}
use Rattle.report_check.specs.Verdicts.{same_name, call_named, calls_named, ended_before, reason_of, held_by, reason_with, reason_at, by_reason, verdict_from}
use Rattle.report_check.specs.Tables.{table_place, told, told_late, told_reason, later, IsTableOf, Marks}
use Rattle.report_check.proofs.JudgedOrders.Names.{same_from_test, place_differs}

-- one name more is marked
or_true : (a : Bool) → (a || (true || false)) ≡ true
or_true true = refl
or_true false = refl

or_false : (a : Bool) → (a || (false || false)) ≡ a
or_false true = refl
or_false false = refl

pub mark : (names : List Named) (name : Named) (marks : List Bool) → IsName name → Marks names marks → Marks (names ++ name ∷ []) (set marks (table_place name) true)
mark names name marks is stands = record { long = length-set marks (table_place name) true ∙ stands.long; tells = tells }
  where
    by_test : (other : Named) → IsName other → (b : Bool) → same_name other name ≡ b
        → get_or (set marks (table_place name) true) (table_place other) false ≡ (list_any (same_name other) names || (b || false))
    by_test other named true e =
        ap (λ k. get_or (set marks (table_place name) true) k false) (ap table_place (same_from_test other name e))
        ∙ get_or-set_same marks (table_place name) true false (omega (arith, is.seat, is.number, stands.long))
        ∙ sym (or_true (list_any (same_name other) names))
    by_test other named false e =
        get_or-set_other marks (table_place name) (table_place other) true false (place_differs other name named is e)
        ∙ stands.tells other named ∙ sym (or_false (list_any (same_name other) names))

    tells : (other : Named) → IsName other → get_or (set marks (table_place name) true) (table_place other) false ≡ list_any (same_name other) (names ++ name ∷ [])
    tells other named = by_test other named (same_name other name) refl ∙ sym (list_any-append (same_name other) names (name ∷ []))

held_push : (object : Object) (held : object.Held) (ops : List Op) (op : Op) → held_after object held (ops ++ op ∷ []) ≡ (object.apply op (held_after object held ops)).0
held_push object held [] op = refl
held_push object held (first ∷ ops) op = held_push object (object.apply first held).0 ops op

never : (calls : List Call) → list_any (ended_before None) calls ≡ false
never [] = refl
never (c ∷ calls) = never calls

later_test : (n latest begin : ℕ) → ltb n (cond (ltb latest begin) begin latest) ≡ (ltb n latest || (ltb n begin || false))
later_test n latest begin = grind (arith, nat_tests)

module _ (object : Object) (report : Report) where
  -- what is kept of the entries so far
  pub record Kept (names : List Named) (marks : List Bool) (latest : ℕ) (held : object.Held) : Type 0 where
    pub marked : Marks names marks
    pub latest_is : (n : ℕ) → list_any (λ (d : Call). ltb n d.begin) (calls_named (calls_of report) names) ≡ ltb n latest
    pub held_is : held ≡ held_by object (calls_named (calls_of report) names)

  late_is : (names : List Named) (latest : ℕ) → ((n : ℕ) → list_any (λ (d : Call). ltb n d.begin) (calls_named (calls_of report) names) ≡ ltb n latest) → (answer : Option (Reply × ℕ))
      → told_late answer latest ≡ list_any (ended_before answer) (calls_named (calls_of report) names)
  late_is names latest is None = sym (never (calls_named (calls_of report) names))
  late_is names latest is (Some answer) = sym (is answer.1)

  -- what is kept tells the first reason that applies
  pub reason_is : (names : List Named) (marks : List Bool) (latest : ℕ) (held : object.Held) (table : List (Option Told)) (name : Named) → IsTableOf (calls_of report) table → IsName name → Kept names marks latest held
      → told_reason object held (get_or table (table_place name) None) (get_or marks (table_place name) false) latest ≡ reason_at object report names name
  reason_is names marks latest held table name stands is kept =
      ap (λ (entry : Option Told). told_reason object held entry (get_or marks (table_place name) false) latest) (stands.tells name is)
      ∙ by_found (call_named (calls_of report) name)
    where
      before : List Call
      before = calls_named (calls_of report) names

      by_found : (found : Option Call) → told_reason object held (option_map told found) (get_or marks (table_place name) false) latest ≡ reason_with object (calls_named (calls_of report) names) names name found
      by_found None = refl
      by_found (Some c) =
          ap (λ b. reason_of c.answer b (told_late c.answer latest) (object.apply c.op held).1) (kept.marked.tells name is)
          ∙ ap (λ b. reason_of c.answer (list_any (same_name name) names) b (object.apply c.op held).1) (late_is names latest kept.latest_is c.answer)
          ∙ ap (λ (h : object.Held). reason_of c.answer (list_any (same_name name) names) (list_any (ended_before c.answer) (calls_named (calls_of report) names)) (object.apply c.op h).1) kept.held_is

  -- the entries and one more, which names this call
  pub keep : (names : List Named) (marks : List Bool) (latest : ℕ) (held : object.Held) (name : Named) (c : Call) → IsName name → call_named (calls_of report) name ≡ Some c → Kept names marks latest held
      → Kept (names ++ name ∷ []) (set marks (table_place name) true) (later latest (Some (told c))) (object.apply c.op held).0
  keep names marks latest held name c is found kept = record { marked = mark names name marks is kept.marked; latest_is = latest_is; held_is = held_is }
    where
      calls : List Call
      calls = calls_of report

      joined : calls_named (calls_of report) (names ++ name ∷ []) ≡ calls_named (calls_of report) names ++ c ∷ []
      joined =
          filter_map-append (call_named (calls_of report)) names (name ∷ [])
          ∙ ap (λ (o : Option Call). calls_named (calls_of report) names ++ cons_option o []) found

      latest_is : (n : ℕ) → list_any (λ (d : Call). ltb n d.begin) (calls_named (calls_of report) (names ++ name ∷ [])) ≡ ltb n (later latest (Some (told c)))
      latest_is n =
          ap (list_any (λ (d : Call). ltb n d.begin)) joined
          ∙ list_any-append (λ (d : Call). ltb n d.begin) (calls_named (calls_of report) names) (c ∷ [])
          ∙ ap (λ b. b || (ltb n c.begin || false)) (kept.latest_is n)
          ∙ sym (later_test n latest c.begin)

      held_is : (object.apply c.op held).0 ≡ held_by object (calls_named (calls_of report) (names ++ name ∷ []))
      held_is =
          ap (λ (h : object.Held). (object.apply c.op h).0) kept.held_is
          ∙ sym (held_push object object.empty (map (λ (d : Call). d.op) (calls_named (calls_of report) names)) c.op)
          ∙ sym (ap (held_after object object.empty) (map-append (λ (d : Call). d.op) (calls_named (calls_of report) names) (c ∷ [])))
          ∙ sym (ap (held_by object) joined)

  -- what stands at a place of a name without a reason against it is a call
  pub found_call : (names : List Named) (name : Named) → reason_at object report names name ≡ None → (c : Call) × (call_named (calls_of report) name ≡ Some c)
  found_call names name e = by_found (call_named (calls_of report) name) refl e
    where
      by_found : (found : Option Call) → call_named (calls_of report) name ≡ found → reason_with object (calls_named (calls_of report) names) names name found ≡ None → (c : Call) × (call_named (calls_of report) name ≡ Some c)
      by_found None is e = absurd cc
      by_found (Some c) is e = (c, is)

  -- the verdict at an entry
  pub refused_here : (passed : List Named) (name : Named) (names : List Named) (reason : Reason) → reason_at object report passed name ≡ Some reason
      → verdict_from object report passed (name ∷ names) ≡ NotLegal (record { place = length passed + 1; reason = reason })
  refused_here passed name names reason e = ap (λ (o : Option Reason). by_reason (length passed + 1) o (verdict_from object report (passed ++ name ∷ []) names)) e

  pub goes_on : (passed : List Named) (name : Named) (names : List Named) → reason_at object report passed name ≡ None
      → verdict_from object report passed (name ∷ names) ≡ verdict_from object report (passed ++ name ∷ []) names
  goes_on passed name names e = ap (λ (o : Option Reason). by_reason (length passed + 1) o (verdict_from object report (passed ++ name ∷ []) names)) e
