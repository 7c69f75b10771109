use Rattle.std.proofs.Common.{◌≡◌, ◌+◌, ◌∙◌, List, None, false, map, take, get_or, sym, refl, subst, arith}
use Rattle.std.proofs.lemmas.Bool.{le-ltb}
use Rattle.std.proofs.lemmas.List.{get_or_read, take_all}
use Rattle.lin_report.specs.Calls.{Call, answered_call, pending_call, report_of}
use Rattle.report_check.specs.declared.orders.Named.{Named}
use Rattle.report_check.specs.Orders.{IsName}
use Rattle.report_check.specs.Verdicts.{name_of}
use Rattle.report_check.specs.Tables.{Marks}
use Rattle.report_check.proofs.Pairs.{all_front, all_mapped}
use Rattle.report_check.proofs.CallsRead.Tables.{none_marked}
use Rattle.report_check.proofs.JudgedOrders.Steps.{Reads, entry_served, entry_reason, at_fault, rest_next, kept_next, at_end}
use Rattle.report_check.proofs.judges.judge_by.Goals as goal

abbrev no_name : Named
no_name = record { seat = 0; number = 0 }

pub loop-name-init : goal.loop-name-init
loop-name-init g c = record {
  counted = refl;
  kept = record {
    marked = none_marked c.in_ok-marks.marks.items c.in_ok-marks.ensures.long c.in_ok-marks.ensures.none;
    latest_is = λ n. sym (le-ltb n 0 (omega arith));
    held_is = c.requires.starts;
  };
  rest = refl;
}

pub reason_for-requires : goal.reason_for-requires
reason_for-requires g c = record {
  served =
      entry_served g.S.Sequential.object (report_of c.args.receipts.now c.args.pending.now) c.in_ok-table.table.items c.index-told.result.now c.table_place-at.result _
      c.in_ok-table.ensures c.requires.report.served (c.requires.names c.loop-name.name-index _ (omega arith)) c.table_place-at.ensures.place
      (get_or_read c.in_ok-table.table.items c.table_place-at.result c.index-told.result.now (omega (arith, c.in_ok-table.ensures.long, c.table_place-at.ensures.within)) c.index-told.ensures None);
}

pub returns-in-Some : goal.returns-in-Some
returns-in-Some g c =
    let report = report_of c.args.receipts.now c.args.pending.now in
    let reads : Reads g.S.Sequential.object report c.args.order.now c.loop-name.name-index (get_or c.args.order.now c.loop-name.name-index no_name) c.table_place-at.result c.in_ok-table.table.items c.loop-name.marks.items c.loop-name.latest (g.S.Sequential.held c.loop-name.object) c.index-told.result.now c.index.result.now = record {
      is = c.requires.names c.loop-name.name-index _ (omega arith);
      at = c.table_place-at.ensures.place;
      stands = c.in_ok-table.ensures;
      kept = c.loop-name.invariant.kept;
      entry_is = get_or_read c.in_ok-table.table.items c.table_place-at.result c.index-told.result.now (omega (arith, c.in_ok-table.ensures.long, c.table_place-at.ensures.within)) c.index-told.ensures None;
      mark_is = get_or_read c.loop-name.marks.items c.table_place-at.result c.index.result.now (omega (arith, c.loop-name.invariant.kept.marked.long, c.table_place-at.ensures.within)) c.index.ensures false;
    } in
    at_fault g.S.Sequential.object report c.args.order.now c.loop-name.name-index no_name (c.loop-name.place + 1) c.in-Some.reason (omega arith) (omega (arith, c.loop-name.invariant.counted))
    (sym (entry_reason g.S.Sequential.object report reads) ∙ sym c.in_ok-reason.ensures.reason ∙ c.in-Some.is) c.loop-name.invariant.rest

pub loop-name-preserved : goal.loop-name-preserved
loop-name-preserved g c =
    let report = report_of c.args.receipts.now c.args.pending.now in
    let reads : Reads g.S.Sequential.object report c.args.order.now c.loop-name.name-index (get_or c.args.order.now c.loop-name.name-index no_name) c.table_place-at.result c.in_ok-table.table.items c.loop-name.marks.items c.loop-name.latest (g.S.Sequential.held c.loop-name.object) c.index-told.result.now c.index.result.now = record {
      is = c.requires.names c.loop-name.name-index _ (omega arith);
      at = c.table_place-at.ensures.place;
      stands = c.in_ok-table.ensures;
      kept = c.loop-name.invariant.kept;
      entry_is = get_or_read c.in_ok-table.table.items c.table_place-at.result c.index-told.result.now (omega (arith, c.in_ok-table.ensures.long, c.table_place-at.ensures.within)) c.index-told.ensures None;
      mark_is = get_or_read c.loop-name.marks.items c.table_place-at.result c.index.result.now (omega (arith, c.loop-name.invariant.kept.marked.long, c.table_place-at.ensures.within)) c.index.ensures false;
    } in
    let none = sym (entry_reason g.S.Sequential.object report reads) ∙ sym c.in_ok-reason.ensures.reason ∙ c.in_default.is in
    record {
      counted = omega (arith, c.loop-name.invariant.counted);
      kept = kept_next g.S.Sequential.object report c.args.order.now c.loop-name.name-index no_name c.later-latest.result (g.S.Sequential.held c.reason_for.new.object) (omega arith) reads none
          (c.in_ok-reason.ensures.holds c.in_default.is) c.later-latest.ensures;
      rest = rest_next g.S.Sequential.object report c.args.order.now c.loop-name.name-index no_name (omega arith) none c.loop-name.invariant.rest;
    }

pub is_any_left_out-requires-clause-names : goal.is_any_left_out-requires-clause-names
is_any_left_out-requires-clause-names g c =
    let has_name = λ (d : Call). IsName (name_of d) in
    all_mapped answered_call has_name c.args.receipts.now
    (all_front has_name (map answered_call c.args.receipts.now) (map pending_call c.args.pending.now) c.requires.report.names)

pub returns : goal.returns
returns g c =
    let report = report_of c.args.receipts.now c.args.pending.now in
    let whole : take c.loop-name.name-index c.args.order.now ≡ c.args.order.now = take_all c.loop-name.name-index c.args.order.now (omega arith) in
    let marked = subst (λ (names : List Named). Marks names c.loop-name.marks.items) whole c.loop-name.invariant.kept.marked in
    at_end g.S.Sequential.object report c.args.order.now c.loop-name.name-index (c.loop-name.name-index + 1) false (omega arith) refl
    (sym c.if-is_any_left_out.false ∙ c.is_any_left_out.ensures c.args.order.now (subst (Marks c.args.order.now) (sym c.deref.ensures.value) marked)) c.loop-name.invariant.rest
