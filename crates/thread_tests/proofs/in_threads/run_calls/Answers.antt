use Rattle.std.proofs.Common.{◌≡◌, ◌∙◌, ap, arith, List, ◌++◌, length, take, drop, subst, map}
use Rattle.std.specs.List.{range_with_len}
use Rattle.ms_queue_form.specs.Form.{queue_form}
use Rattle.thread_laws.specs.Headline.{MeetsInSomeOrder}
use Rattle.thread_runs.proofs.Runs.{back}
use Rattle.handles.specs.Handles.{files_of, lines_of_all}
use Rattle.thread_tests.specs.InThreads.{calls_of}
use Rattle.thread_tests.proofs.InThreads.{all_files}
use Rattle.thread_tests.proofs.in_threads.run_calls.Goals as goal

pub returns : goal.returns
returns g c =
    let opened = c.in_ok-shared.ensures in
    let old = c.in_ok-shared.handles.items in
    let len = c.in_ok-shared.handles.len in
    let new = c.call_in_threads.new.handles in
    let many : length new ≡ length old = c.call_in_threads.auto.handles ∙ ap length c.as_mut_slice.ensures.value in
    let same : take len (new ++ drop (length new) old) ≡ new = back new old len many c.in_ok-shared.handles.ok.0 in
    let numbers = opened.numbers.seats in
    let seats = opened.all.count in
    let first = c.in_ok-shared.shared.setup.some_seat in
    let lent = ap length c.as_mut_slice.ensures.value in
    let files : files_of (take len (new ++ drop (length new) old)) ≡ map calls_of (range_with_len 0 c.args.seats) =
    ap (λ l. files_of l) same
    ∙ all_files c.args.seats new (many ∙ seats ∙ numbers) (omega (arith, first, numbers)) (λ i d low. (c.call_in_threads.ensures.called i d (omega (arith, low, many, lent))).calls) in
    record {
      run = record {
        setup = c.in_ok-shared.shared.setup;
        numbers = opened.numbers;
        lines = lines_of_all (take len (new ++ drop (length new) old));
        meets = subst (λ (f : List (List _)). MeetsInSomeOrder queue_form c.in_ok-shared.shared.setup f (lines_of_all (take len (new ++ drop (length new) old))) c.close.result.ticks c.close.result.claimed) files c.close.ensures.headline;
      };
    }
