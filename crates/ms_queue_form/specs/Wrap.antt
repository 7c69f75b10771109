-- The queue's wrap-up: what it says of a list that stopped, and how a put moves the tail.
use Rattle.std.specs.Prelude.{ℕ, ◌==◌, if◌then◌else◌, List, slice_get, Option, Some, None}
use Rattle.lin_report.specs.declared.calls.Op.{Op}
use Rattle.lin_report.specs.declared.calls.Reply.TheVariants.{Done}
use Rattle.lin_report.specs.declared.calls.Outcome.TheVariants.{Plain, ValueOf}
use Rattle.step_memory.specs.declared.steps.Request.{Request}
use Rattle.step_memory.specs.declared.steps.Request.TheVariants.{Load, Exchange}
use Rattle.step_memory.specs.declared.steps.Seen.{Seen}
use Rattle.word_fields.specs.Versioned.{versioned_value}
use Rattle.node_arena.specs.declared.places.TheConstants.{TAIL}
use Rattle.normal_traits.specs.declared.form.Wrapped.{Wrapped}
use Rattle.normal_traits.specs.declared.form.Wrapped.TheVariants as wrapped
use Rattle.normal_traits.specs.declared.lists.Entry.{Entry}
use Rattle.ms_queue_form.specs.declared.states.QueueWrap.{QueueWrap}
use Rattle.ms_queue_form.specs.declared.states.QueueWrap.TheVariants.{Over, Tail, Swing}
use Rattle.ms_queue_form.specs.Search.{is_put, next_place, moved_word}

-- nothing is left to do, and there is nothing to tell
abbrev pub done : QueueWrap × Wrapped
done = (Over, wrapped.Done (Plain Done))

-- the one entry took effect: a put goes on to the tail, a take tells the node that has its value
abbrev pub after_entry : Op → Option Entry → QueueWrap × Wrapped
after_entry op None = done
after_entry op (Some entry) = if is_put op then (Tail entry.target entry.to, wrapped.Going) else (Over, wrapped.Done (ValueOf (versioned_value entry.to)))

-- a wrap-up that begins, and what it says at once; no list stops behind its one entry
abbrev pub wrap_begun : Op → List Entry → ℕ → QueueWrap × Wrapped
wrap_begun op entries stop =
    if stop == 0 then (Over, wrapped.Restart) else (if stop == 1 then after_entry op (slice_get entries 0) else done)

-- what a wrap-up asks for
abbrev pub wrap_asked : QueueWrap → Request
wrap_asked Over = Load TAIL
wrap_asked (Tail target to) = Load TAIL
wrap_asked (Swing tail to) = Exchange TAIL tail (moved_word tail to)

-- what a wrap-up is after its step, and what it says
abbrev pub wrap_fed : QueueWrap → Seen → QueueWrap × Wrapped
wrap_fed Over seen = done
wrap_fed (Tail target to) seen = if next_place seen.before == target then (Swing seen.before to, wrapped.Going) else done
wrap_fed (Swing tail to) seen = done

-- a wrap-up has a next step
abbrev pub Wraps : QueueWrap → Type 0
Wraps Over = ⊥
Wraps _ = Unit {0}
