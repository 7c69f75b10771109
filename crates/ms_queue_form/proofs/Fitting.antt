-- What the queue tells of itself, and does not leave to a node, is Empty or Done: it fits the record of a call.
use Rattle.std.proofs.Common.{ℕ, ◌==◌, if◌then◌else◌, List, slice_get, Option, Some, None, arith}
use Rattle.lin_report.specs.declared.calls.Op.{Op}
use Rattle.lin_report.specs.declared.calls.Outcome.TheVariants.{Plain, ValueOf}
use Rattle.lin_report.specs.declared.calls.Reply.TheVariants.{Empty}
use Rattle.step_memory.specs.declared.steps.Seen.{Seen}
use Rattle.word_fields.specs.Versioned.{is_modified, versioned_value}
use Rattle.normal_traits.specs.declared.form.Found.{Found}
use Rattle.normal_traits.specs.declared.form.Found.TheVariants.{Going, Ready, Answer, Contended}
use Rattle.normal_traits.specs.declared.form.Wrapped.{Wrapped}
use Rattle.normal_traits.specs.declared.form.Wrapped.TheVariants as wrapped
use Rattle.normal_traits.specs.declared.lists.Entry.{Entry}
use Rattle.normal_traits.specs.Laws.{FitsRecord, FoundFits, WrappedFits}
use Rattle.ms_queue_form.specs.declared.states.QueueSearch.{QueueSearch}
use Rattle.ms_queue_form.specs.declared.states.QueueSearch.TheVariants.{PutTail, PutNext, PutHelp, PutReady, TakeHead, TakeTail, TakeNext, TakeHelp, TakeReady, PeekHead, PeekNext}
use Rattle.ms_queue_form.specs.declared.states.QueueWrap.{QueueWrap}
use Rattle.ms_queue_form.specs.declared.states.QueueWrap.TheVariants.{Over, Tail, Swing}
use Rattle.ms_queue_form.specs.Search.{fed, is_put, met_by_put, met_by_take, next_place}
use Rattle.ms_queue_form.specs.Wrap.{after_entry, done, wrap_begun, wrap_fed}
use Rattle.client_lemmas.proofs.Outcomes.{either}

-- a choice fits where both ways do
abbrev Fits : QueueSearch × Found → Type 0
Fits result = FoundFits result.1

abbrev EndFits : QueueWrap × Wrapped → Type 0
EndFits result = WrappedFits result.1

put_fits : (tail next : ℕ) → FoundFits (met_by_put tail next).1
put_fits tail next =
    either Fits (versioned_value next == 0) (if is_modified next then (PutNext tail, Contended) else (PutReady tail next, Ready)) (PutHelp tail next, Going)
    (either Fits (is_modified next) (PutNext tail, Contended) (PutReady tail next, Ready) tt tt) tt

take_fits : (head tail next : ℕ) → FoundFits (met_by_take head tail next).1
take_fits head tail next =
    either Fits (versioned_value next == 0) (TakeNext head tail, Answer (Plain Empty)) (if versioned_value tail == versioned_value head then (TakeHelp tail next, Going) else (TakeReady head next, Ready)) (omega arith)
    (either Fits (versioned_value tail == versioned_value head) (TakeHelp tail next, Going) (TakeReady head next, Ready) tt tt)

pub found_fits : (search : QueueSearch) (seen : Seen) → FoundFits (fed search seen).1
found_fits PutTail seen = tt
found_fits (PutNext tail) seen = put_fits tail seen.before
found_fits (PutHelp tail next) seen = either Fits seen.won (PutTail, Going) (PutHelp tail next, Contended) tt tt
found_fits (PutReady tail next) seen = tt
found_fits TakeHead seen = either Fits (is_modified seen.before) (TakeHead, Contended) (TakeTail seen.before, Going) tt tt
found_fits (TakeTail head) seen = tt
found_fits (TakeNext head tail) seen = take_fits head tail seen.before
found_fits (TakeHelp tail next) seen = either Fits seen.won (TakeHead, Going) (TakeHelp tail next, Contended) tt tt
found_fits (TakeReady head next) seen = tt
found_fits PeekHead seen = tt
found_fits (PeekNext head) seen = either FitsRecord (versioned_value seen.before == 0) (Plain Empty) (ValueOf (versioned_value seen.before)) (omega arith) tt

done_fits : WrappedFits done.1
done_fits = omega arith

entry_fits : (op : Op) (entry : Option Entry) → WrappedFits (after_entry op entry).1
entry_fits op None = done_fits
entry_fits op (Some entry) = either EndFits (is_put op) (Tail entry.target entry.to, wrapped.Going) (Over, wrapped.Done (ValueOf (versioned_value entry.to))) tt tt

pub begun_fits : (op : Op) (entries : List Entry) (stop : ℕ) → WrappedFits (wrap_begun op entries stop).1
begun_fits op entries stop =
    either EndFits (stop == 0) (Over, wrapped.Restart) (if stop == 1 then after_entry op (slice_get entries 0) else done) tt
    (either EndFits (stop == 1) (after_entry op (slice_get entries 0)) done (entry_fits op (slice_get entries 0)) done_fits)

pub wrapped_fits : (wrap : QueueWrap) (seen : Seen) → WrappedFits (wrap_fed wrap seen).1
wrapped_fits Over seen = done_fits
wrapped_fits (Tail target to) seen = either EndFits (next_place seen.before == target) (Swing seen.before to, wrapped.Going) done tt done_fits
wrapped_fits (Swing tail to) seen = done_fits
