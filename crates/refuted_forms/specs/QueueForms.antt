-- The queue with one function of its form replaced by a wrong one.
use Rattle.std.specs.Prelude.{ℕ, ◌/◌, ◌==◌, if◌then◌else◌, List}
use Rattle.lin_report.specs.declared.calls.Op.{Op}
use Rattle.lin_report.specs.declared.calls.Reply.TheVariants.{Empty}
use Rattle.lin_report.specs.declared.calls.Outcome.TheVariants.{Plain}
use Rattle.step_memory.specs.declared.steps.Seen.{Seen}
use Rattle.word_fields.specs.Versioned.{versioned_value}
use Rattle.normal_traits.specs.declared.form.Found.{Found}
use Rattle.normal_traits.specs.declared.form.Found.TheVariants.{Going, Answer}
use Rattle.normal_traits.specs.declared.form.Wrapped.{Wrapped}
use Rattle.normal_traits.specs.declared.form.Wrapped.TheVariants.{Restart}
use Rattle.normal_traits.specs.declared.lists.Entry.{Entry}
use Rattle.normal_traits.specs.World.{World, Maker, Cause}
use Rattle.normal_traits.specs.NormalForm.{NormalForm}
use Rattle.ms_queue_form.specs.declared.states.QueueSearch.{QueueSearch}
use Rattle.ms_queue_form.specs.declared.states.QueueSearch.TheVariants.{TakeTail}
use Rattle.ms_queue_form.specs.declared.states.QueueWrap.{QueueWrap}
use Rattle.ms_queue_form.specs.Form.{queue_form}

-- a take that has loaded head and tail answers empty where both name one node
abbrev pub found_at_the_tail : QueueSearch → Seen → Found
found_at_the_tail (TakeTail head) seen = if versioned_value seen.before == versioned_value head then Answer (Plain Empty) else Going
found_at_the_tail search seen = queue_form.found_of search seen

abbrev pub queue_without_a_look : NormalForm QueueSearch QueueWrap
queue_without_a_look = record queue_form { found_of = found_at_the_tail }

-- a wrap-up tries again wherever its list stopped
abbrev pub restarts : Op → List Entry → ℕ → Wrapped
restarts op entries stop = Restart

abbrev pub queue_that_restarts : NormalForm QueueSearch QueueWrap
queue_that_restarts = record queue_form { wrap_begun_of = restarts }

-- an exchange is made for the node that it brings in, whether it links the node or moves head or tail to it
abbrev pub cause_of_the_node : World → Maker → Entry → Cause
cause_of_the_node world maker entry = record { block = versioned_value entry.to / 4; kind = 0 }

abbrev pub queue_of_one_cause : NormalForm QueueSearch QueueWrap
queue_of_one_cause = record queue_form { cause_of = cause_of_the_node }
