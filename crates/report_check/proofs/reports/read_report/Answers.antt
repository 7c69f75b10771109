use Rattle.std.proofs.Common.{[], map, ◌+◌, inl, inr, sym, ap, ◌∙◌, subst, arith}
use Rattle.std.proofs.lemmas.List.{length-map}
use Rattle.lin_report.specs.Calls.{Report, report_of}
use Rattle.report_check.specs.CallLines.{call_of}
use Rattle.report_check.specs.Reports.{HasSummary, IsTextOf}
use Rattle.report_check.proofs.CallsRead.ReadBack.{knows_calls, report_can_be_written, none_told, some_told, nothing_left, nothing_behind, lines_of_text, text_of_lines, lines_fit}
use Rattle.report_check.proofs.JudgedOrders.Judgeable.{read_can_be_judged}
use Rattle.report_check.proofs.reports.read_report.Goals as goal

pub read_summary-requires : goal.read_summary-requires
read_summary-requires c =
    let calls = map call_of c.in_ok-begun.begun.calls.items in
    let report = report_of c.in_ok-report.report.receipts.items c.in_ok-report.report.pending.items in
    let knows = knows_calls c.args.client c.args.bytes.now c.in_ok-begun.begun.calls.items c.deref.result.now c.in_ok-begun.begun.ticks.items c.deref-2.result.now c.in_ok-begun.begun.rest.now
    c.in_ok-report.report.receipts.items c.in_ok-report.report.pending.items (c.len-lines.result + c.len.result) c.in_ok-begun.ensures.begins c.in_ok-begun.ensures.long c.in_ok-begun.ensures.drawn
    c.deref.ensures.value c.deref-2.ensures.value c.in_ok-report.ensures.receipts c.in_ok-report.ensures.pending (omega arith) in
    record { can = report_can_be_written c.args.client c.args.bytes.now calls c.in_ok-begun.begun.rest.now report c.in_ok-begun.ensures.begins knows.parted }

pub overflow_cast-result : goal.overflow_cast-result
overflow_cast-result c = omega (arith, lines_fit c.args.client c.args.bytes.now c.in_ok-begun.begun.calls.items c.in_ok-begun.begun.rest.now c.in_ok-begun.ensures.begins (omega arith))

pub overflow_add-result : goal.overflow_add-result
overflow_add-result c = omega (arith, lines_fit c.args.client c.args.bytes.now c.in_ok-begun.begun.calls.items c.in_ok-begun.begun.rest.now c.in_ok-begun.ensures.begins (omega arith))

pub overflow_cast-result-in-Some : goal.overflow_cast-result-in-Some
overflow_cast-result-in-Some c = omega (arith, lines_fit c.args.client c.args.bytes.now c.in_ok-begun.begun.calls.items c.in_ok-begun.begun.rest.now c.in_ok-begun.ensures.begins (omega arith))

pub overflow_add-result-in-Some : goal.overflow_add-result-in-Some
overflow_add-result-in-Some c = omega (arith, lines_fit c.args.client c.args.bytes.now c.in_ok-begun.begun.calls.items c.in_ok-begun.begun.rest.now c.in_ok-begun.ensures.begins (omega arith))

pub returns-in-None-clause-refused : goal.returns-in-None-clause-refused
returns-in-None-clause-refused c =
    let calls = map call_of c.in_ok-begun.begun.calls.items in
    let knows = knows_calls c.args.client c.args.bytes.now c.in_ok-begun.begun.calls.items c.deref.result.now c.in_ok-begun.begun.ticks.items c.deref-2.result.now c.in_ok-begun.begun.rest.now
    c.in_ok-report.report.receipts.items c.in_ok-report.report.pending.items (c.len-lines.result + c.len.result) c.in_ok-begun.ensures.begins c.in_ok-begun.ensures.long c.in_ok-begun.ensures.drawn
    c.deref.ensures.value c.deref-2.ensures.value c.in_ok-report.ensures.receipts c.in_ok-report.ensures.pending (omega arith) in
    let none = none_told (λ s. (s.0, s.1.now)) calls c.in_ok-begun.begun.rest.now c.in_ok-read_summary.field-0 (c.in_ok-read_summary.ensures calls knows) c.in-None.is in
    record { short = omega arith; calls = calls; rest = c.in_ok-begun.begun.rest.now; begins = c.in_ok-begun.ensures.begins; fault = inl (omega (arith, length-map c.in_ok-begun.begun.calls.items call_of), none) }

pub returns-in-None-clause-back : goal.returns-in-None-clause-back
returns-in-None-clause-back c = λ report is.
    let calls = map call_of c.in_ok-begun.begun.calls.items in
    let knows = knows_calls c.args.client c.args.bytes.now c.in_ok-begun.begun.calls.items c.deref.result.now c.in_ok-begun.begun.ticks.items c.deref-2.result.now c.in_ok-begun.begun.rest.now
    c.in_ok-report.report.receipts.items c.in_ok-report.report.pending.items (c.len-lines.result + c.len.result) c.in_ok-begun.ensures.begins c.in_ok-begun.ensures.long c.in_ok-begun.ensures.drawn
    c.deref.ensures.value c.deref-2.ensures.value c.in_ok-report.ensures.receipts c.in_ok-report.ensures.pending (omega arith) in
    let none = none_told (λ s. (s.0, s.1.now)) calls c.in_ok-begun.begun.rest.now c.in_ok-read_summary.field-0 (c.in_ok-read_summary.ensures calls knows) c.in-None.is in
    let own = lines_of_text c.args.client c.args.bytes.now report calls c.in_ok-begun.begun.rest.now is c.in_ok-begun.ensures.begins in
    absurd (none is.overtaken [] own.1)

pub returns-in-Some-default-empty-clause-read : goal.returns-in-Some-default-empty-clause-read
returns-in-Some-default-empty-clause-read c =
    let calls = map call_of c.in_ok-begun.begun.calls.items in
    let knows = knows_calls c.args.client c.args.bytes.now c.in_ok-begun.begun.calls.items c.deref.result.now c.in_ok-begun.begun.ticks.items c.deref-2.result.now c.in_ok-begun.begun.rest.now
    c.in_ok-report.report.receipts.items c.in_ok-report.report.pending.items (c.len-lines.result + c.len.result) c.in_ok-begun.ensures.begins c.in_ok-begun.ensures.long c.in_ok-begun.ensures.drawn
    c.deref.ensures.value c.deref-2.ensures.value c.in_ok-report.ensures.receipts c.in_ok-report.ensures.pending (omega arith) in
    let told = some_told (λ s. (s.0, s.1.now)) calls c.in_ok-begun.begun.rest.now c.in_ok-read_summary.field-0 (c.in-Some-default-empty.field-0-0, c.in-Some-default-empty.field-0-1) (c.in_ok-read_summary.ensures calls knows) c.in-Some-default-empty.is in
    let has = subst (HasSummary calls c.in_ok-begun.begun.rest.now c.in-Some-default-empty.field-0-0) (nothing_left c.in-Some-default-empty.field-0-1.now c.in-Some-default-empty.len_below) told in
    subst (IsTextOf c.args.client c.args.bytes.now) (sym knows.parted)
    (text_of_lines c.args.client c.args.bytes.now calls c.in_ok-begun.begun.rest.now c.in-Some-default-empty.field-0-0 (omega arith) c.in_ok-begun.ensures.begins has)

pub returns-in-Some-default-empty-clause-judged : goal.returns-in-Some-default-empty-clause-judged
returns-in-Some-default-empty-clause-judged c =
    let calls = map call_of c.in_ok-begun.begun.calls.items in
    let knows = knows_calls c.args.client c.args.bytes.now c.in_ok-begun.begun.calls.items c.deref.result.now c.in_ok-begun.begun.ticks.items c.deref-2.result.now c.in_ok-begun.begun.rest.now
    c.in_ok-report.report.receipts.items c.in_ok-report.report.pending.items (c.len-lines.result + c.len.result) c.in_ok-begun.ensures.begins c.in_ok-begun.ensures.long c.in_ok-begun.ensures.drawn
    c.deref.ensures.value c.deref-2.ensures.value c.in_ok-report.ensures.receipts c.in_ok-report.ensures.pending (omega arith) in
    read_can_be_judged c.args.client c.args.bytes.now calls c.in_ok-begun.begun.rest.now (report_of c.in_ok-report.report.receipts.items c.in_ok-report.report.pending.items) c.in_ok-begun.ensures.begins knows.parted

pub returns-in-Some-default-empty-clause-back : goal.returns-in-Some-default-empty-clause-back
returns-in-Some-default-empty-clause-back c = λ report is.
    let calls = map call_of c.in_ok-begun.begun.calls.items in
    let knows = knows_calls c.args.client c.args.bytes.now c.in_ok-begun.begun.calls.items c.deref.result.now c.in_ok-begun.begun.ticks.items c.deref-2.result.now c.in_ok-begun.begun.rest.now
    c.in_ok-report.report.receipts.items c.in_ok-report.report.pending.items (c.len-lines.result + c.len.result) c.in_ok-begun.ensures.begins c.in_ok-begun.ensures.long c.in_ok-begun.ensures.drawn
    c.deref.ensures.value c.deref-2.ensures.value c.in_ok-report.ensures.receipts c.in_ok-report.ensures.pending (omega arith) in
    let own = lines_of_text c.args.client c.args.bytes.now report calls c.in_ok-begun.begun.rest.now is c.in_ok-begun.ensures.begins in
    let same = knows.parted ∙ sym own.0 in
    (ap (λ (r : Report). r.receipts) same, ap (λ (r : Report). r.pending) same)

pub returns-clause-refused : goal.returns-clause-refused
returns-clause-refused c =
    let calls = map call_of c.in_ok-begun.begun.calls.items in
    let knows = knows_calls c.args.client c.args.bytes.now c.in_ok-begun.begun.calls.items c.deref.result.now c.in_ok-begun.begun.ticks.items c.deref-2.result.now c.in_ok-begun.begun.rest.now
    c.in_ok-report.report.receipts.items c.in_ok-report.report.pending.items (c.len-lines.result + c.len.result) c.in_ok-begun.ensures.begins c.in_ok-begun.ensures.long c.in_ok-begun.ensures.drawn
    c.deref.ensures.value c.deref-2.ensures.value c.in_ok-report.ensures.receipts c.in_ok-report.ensures.pending (omega arith) in
    let told = some_told (λ s. (s.0, s.1.now)) calls c.in_ok-begun.begun.rest.now c.in_ok-read_summary.field-0 c.in-Some.field-0 (c.in_ok-read_summary.ensures calls knows) c.in-Some.is in
    record {
      short = omega arith;
      calls = calls;
      rest = c.in_ok-begun.begun.rest.now;
      begins = c.in_ok-begun.ensures.begins;
      fault = inr (omega (arith, length-map c.in_ok-begun.begun.calls.items call_of), record { overtaken = c.in-Some.field-0.0; rest = c.in-Some.field-0.1.now; summary = told; more = omega arith });
    }

pub returns-clause-back : goal.returns-clause-back
returns-clause-back c = λ report is.
    let calls = map call_of c.in_ok-begun.begun.calls.items in
    let knows = knows_calls c.args.client c.args.bytes.now c.in_ok-begun.begun.calls.items c.deref.result.now c.in_ok-begun.begun.ticks.items c.deref-2.result.now c.in_ok-begun.begun.rest.now
    c.in_ok-report.report.receipts.items c.in_ok-report.report.pending.items (c.len-lines.result + c.len.result) c.in_ok-begun.ensures.begins c.in_ok-begun.ensures.long c.in_ok-begun.ensures.drawn
    c.deref.ensures.value c.deref-2.ensures.value c.in_ok-report.ensures.receipts c.in_ok-report.ensures.pending (omega arith) in
    let told = some_told (λ s. (s.0, s.1.now)) calls c.in_ok-begun.begun.rest.now c.in_ok-read_summary.field-0 c.in-Some.field-0 (c.in_ok-read_summary.ensures calls knows) c.in-Some.is in
    absurd (nothing_behind c.args.client c.args.bytes.now report calls c.in_ok-begun.begun.rest.now is c.in_ok-begun.ensures.begins
    (record { overtaken = c.in-Some.field-0.0; rest = c.in-Some.field-0.1.now; summary = told; more = omega arith }))
