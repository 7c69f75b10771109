-- What every allowed step keeps of the queue: the one summary of a step that what was learnt rests on.
use Rattle.std.proofs.Common.{ℕ}
use Rattle.step_memory.specs.declared.steps.Request.{Request}
use Rattle.step_memory.specs.declared.steps.Seen.{Seen}
use Rattle.word_fields.specs.Versioned.{versioned_value, value_below}
use Rattle.word_fields.proofs.ChangedWords.{cleared-changed}
use Rattle.normal_traits.specs.World.{World}
use Rattle.normal_traits.specs.Steps.{Requested, IsStep}
use Rattle.client_lemmas.proofs.Later as any_step
use Rattle.ms_queue_form.specs.declared.states.QueueSearch.{QueueSearch}
use Rattle.ms_queue_form.specs.declared.states.QueueSearch.TheVariants.{PutHelp, TakeHelp}
use Rattle.ms_queue_form.specs.declared.states.QueueWrap.{QueueWrap}
use Rattle.ms_queue_form.specs.declared.states.QueueWrap.TheVariants.{Swing}
use Rattle.ms_queue_form.specs.Search.{asked}
use Rattle.ms_queue_form.specs.Wrap.{wrap_asked}
use Rattle.ms_queue_form.specs.Shape.{IsQueue}
use Rattle.ms_queue_form.specs.Form.{queue_form}
use Rattle.ms_queue_form.proofs.Changes.{Extends, extends_same, extends_more}

-- a versioned word rises, and no more is said of it
abbrev pub Anyhow : ℕ → ℕ → Type 0
Anyhow word after = Unit {0}

abbrev pub Later : World → World → Type 0
Later world after = any_step.Later queue_form Extends Anyhow world after

-- an exchange beside the lists is to a word with its bit clear
pub asked_moves : (search : QueueSearch) → any_step.IsMove queue_form Extends Anyhow (asked search)
asked_moves (PutHelp tail next) = (cleared-changed tail (versioned_value next) (value_below next), tt)
asked_moves (TakeHelp tail next) = (cleared-changed tail (versioned_value next) (value_below next), tt)
asked_moves _ = tt

pub wrap_asked_moves : (wrap : QueueWrap) → any_step.IsMove queue_form Extends Anyhow (wrap_asked wrap)
wrap_asked_moves (Swing tail to) = (cleared-changed tail (versioned_value to) (value_below to), tt)
wrap_asked_moves _ = tt

facts : any_step.StepFacts queue_form Extends Anyhow
facts =
    record {
      same = extends_same;
      beside = λ world entry queue. extends_same world.changes;
      first = λ world list queue new. extends_more _ world.changes;
      second = λ world list queue. extends_more _ world.changes;
      stays = λ word. tt;
      clears = λ word. tt;
      asks = λ world search op since asking knows. asked_moves search;
      wraps = λ world wrap list stop going follows. wrap_asked_moves wrap;
      lists = λ world list search since j entry word low offered listed change. tt;
    }

pub later : (world after : World) → IsQueue world → IsStep queue_form world after → Later world after
later = any_step.later queue_form Extends Anyhow facts

pub requested_later : (request : Request) (world after : World) (seen : Seen) → IsQueue world → any_step.IsMove queue_form Extends Anyhow request → Requested queue_form request world after seen → Later world after
requested_later = any_step.requested_later queue_form Extends Anyhow facts
