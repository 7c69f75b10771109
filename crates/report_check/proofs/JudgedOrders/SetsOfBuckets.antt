-- A set of buckets is judged by the object of a list, which serves more and answers the same.
use Rattle.std.proofs.Common.{◌≡◌, ◌+◌, ◌==◌, ◌&&◌, Option, Some, None, List, [], ◌∷◌, ◌++◌, length, map, All, refl, sym, ap, ◌∙◌, subst, Result, Ok, Err, IfOk}
use Rattle.std.specs.Prelude.{IsTrue}
use Rattle.std.specs.Ordering.{nat_cmp}
use Rattle.std.specs.FinSet as set
use Rattle.std.specs.List.{list_any}
use Rattle.std.proofs.lemmas.Bool.{or_left}
use Rattle.std.proofs.lemmas.List.Elements.{All-weaker}
use Rattle.lin_report.specs.declared.calls.Op.{Op}
use Rattle.lin_report.specs.declared.calls.TheConstants.{MIN}
use Rattle.lin_report.specs.declared.objects.NoMemory.{NoMemory}
use Rattle.lin_report.specs.Commands.{is_set_command, takes_nothing}
use Rattle.lin_report.specs.Object.{held_after, list_object, set_apply, set_object}
use Rattle.lin_report.specs.Calls.{Call, Report, calls_of}
use Rattle.report_check.specs.declared.orders.Named.{Named}
use Rattle.report_check.specs.declared.verdicts.Reason.{Reason}
use Rattle.report_check.specs.declared.verdicts.Verdict.{Verdict}
use Rattle.report_check.specs.Verdicts.{by_reason, call_named, calls_named, ended_before, reason_of, reason_at, reason_with, same_name, verdict, verdict_from}
use Rattle.report_check.specs.Judging.{CanJudge}

held_same : (held : set.FinSet nat_cmp) (ops : List Op) → held_after set_object held ops ≡ held_after list_object held ops
held_same held [] = refl
held_same held (op ∷ ops) = held_same (set_apply op held).0 ops

reason_same : (before : List Call) (passed : List Named) (name : Named) (named : Option Call) → reason_with set_object before passed name named ≡ reason_with list_object before passed name named
reason_same before passed name None = refl
reason_same before passed name (Some c) =
    ap (λ (held : set.FinSet nat_cmp). reason_of c.answer (list_any (same_name name) passed) (list_any (ended_before c.answer) before) (set_apply c.op held).1)
    (held_same set.empty (map (λ (d : Call). d.op) before))

verdicts_same : (report : Report) (passed names : List Named) → verdict_from set_object report passed names ≡ verdict_from list_object report passed names
verdicts_same report passed [] = refl
verdicts_same report passed (name ∷ names) =
    ap (λ (r : Option Reason). by_reason (length passed + 1) r (verdict_from set_object report (passed ++ name ∷ []) names))
    (reason_same (calls_named (calls_of report) passed) passed name (call_named (calls_of report) name))
    ∙ ap (λ (v : Verdict). by_reason (length passed + 1) (reason_at list_object report passed name) v) (verdicts_same report (passed ++ name ∷ []) names)

-- the verdicts are the same
pub judged_as_set : (report : Report) (names : List Named) (r : Result Verdict NoMemory) → IfOk r (λ v. v ≡ verdict list_object report names) → IfOk r (λ v. v ≡ verdict set_object report names)
judged_as_set report names (Err e) h = tt
judged_as_set report names (Ok v) h = h ∙ sym (verdicts_same report [] names)

-- and what may be asked for the one may be for the other
pub can_as_list : (report : Report) → CanJudge set_object report → CanJudge list_object report
can_as_list report can = record {
  names = can.names;
  served = All-weaker _ _ (λ (c : Call) (served : IsTrue (is_set_command c.op)). or_left (is_set_command c.op) (c.op.code == MIN && takes_nothing c.op) served) (calls_of report) can.served;
  once = can.once;
}
