-- The queue's search: what its steps ask for, what they find, and the list that it names.
use Rattle.std.specs.Prelude.{ℕ, ◌==◌, if◌then◌else◌, Bool, [], ◌∷◌}
use Rattle.lin_report.specs.declared.calls.Op.{Op}
use Rattle.lin_report.specs.declared.calls.Reply.TheVariants.{Empty}
use Rattle.lin_report.specs.declared.calls.Outcome.{Outcome}
use Rattle.lin_report.specs.declared.calls.Outcome.TheVariants.{Plain, ValueOf}
use Rattle.lin_report.specs.declared.calls.TheConstants.{PUT, PEEK}
use Rattle.step_memory.specs.declared.steps.Request.{Request}
use Rattle.step_memory.specs.declared.steps.Request.TheVariants.{Load, Exchange}
use Rattle.step_memory.specs.declared.steps.Seen.{Seen}
use Rattle.word_fields.specs.Versioned.{versioned_value, is_modified, changed_word}
use Rattle.node_arena.specs.declared.places.TheConstants.{HEAD, TAIL, NODE_VALUE, NODE_NEXT}
use Rattle.node_arena.specs.MemoryMap.{node_place, reference_to}
use Rattle.normal_traits.specs.declared.form.Found.{Found}
use Rattle.normal_traits.specs.declared.form.Found.TheVariants.{Going, Ready, Answer, Contended}
use Rattle.normal_traits.specs.NormalForm.{Offered}
use Rattle.ms_queue_form.specs.declared.states.QueueSearch.{QueueSearch}
use Rattle.ms_queue_form.specs.declared.states.QueueSearch.TheVariants.{PutTail, PutNext, PutHelp, PutReady, TakeHead, TakeTail, TakeNext, TakeHelp, TakeReady, PeekHead, PeekNext}

-- whether an operation puts; of the other commands of the queue take alone changes it
abbrev pub is_put : Op → Bool
is_put op = op.code == PUT

-- whether an operation looks at the first value and leaves it
abbrev pub is_peek : Op → Bool
is_peek op = op.code == PEEK

-- the place of the next word of the node that a word names
abbrev pub next_place : ℕ → ℕ
next_place word = node_place (versioned_value word) NODE_NEXT

-- the word that names the node which another word names, as the next word at this one's place
abbrev pub moved_word : ℕ → ℕ → ℕ
moved_word word next = changed_word word (versioned_value next)

-- a search that begins
abbrev pub begun : Op → QueueSearch
begun op = if is_put op then PutTail else (if is_peek op then PeekHead else TakeHead)

-- what a search asks for; one that is ready asks for nothing more
abbrev pub asked : QueueSearch → Request
asked PutTail = Load TAIL
asked (PutNext tail) = Load (next_place tail)
asked (PutHelp tail next) = Exchange TAIL tail (moved_word tail next)
asked (PutReady tail next) = Load TAIL
asked TakeHead = Load HEAD
asked (TakeTail head) = Load TAIL
asked (TakeNext head tail) = Load (next_place head)
asked (TakeHelp tail next) = Exchange TAIL tail (moved_word tail next)
asked (TakeReady head next) = Load HEAD
asked PeekHead = Load HEAD
asked (PeekNext head) = Load (next_place head)

-- a put has loaded the next word of the tail's node
abbrev pub met_by_put : ℕ → ℕ → QueueSearch × Found
met_by_put tail next =
    if versioned_value next == 0 then (if is_modified next then (PutNext tail, Contended) else (PutReady tail next, Ready))
    else (PutHelp tail next, Going)

-- a take has loaded the next word of the head's node
abbrev pub met_by_take : ℕ → ℕ → ℕ → QueueSearch × Found
met_by_take head tail next =
    if versioned_value next == 0 then (TakeNext head tail, Answer (Plain Empty))
    else (if versioned_value tail == versioned_value head then (TakeHelp tail next, Going) else (TakeReady head next, Ready))

-- what a peek tells by the next word of the head's node: the value of the node that it names
abbrev pub told_by_peek : ℕ → Outcome
told_by_peek next = if versioned_value next == 0 then Plain Empty else ValueOf (versioned_value next)

-- what a search is after its step, and what it found
abbrev pub fed : QueueSearch → Seen → QueueSearch × Found
fed PutTail seen = (PutNext seen.before, Going)
fed (PutNext tail) seen = met_by_put tail seen.before
fed (PutHelp tail next) seen = if seen.won then (PutTail, Going) else (PutHelp tail next, Contended)
fed (PutReady tail next) seen = (PutReady tail next, Ready)
fed TakeHead seen = if is_modified seen.before then (TakeHead, Contended) else (TakeTail seen.before, Going)
fed (TakeTail head) seen = (TakeNext head seen.before, Going)
fed (TakeNext head tail) seen = met_by_take head tail seen.before
fed (TakeHelp tail next) seen = if seen.won then (TakeHead, Going) else (TakeHelp tail next, Contended)
fed (TakeReady head next) seen = (TakeReady head next, Ready)
fed PeekHead seen = (PeekNext seen.before, Going)
fed (PeekNext head) seen = (PeekNext head, Answer (told_by_peek seen.before))

-- a search has a next step
abbrev pub Asks : QueueSearch → Type 0
Asks (PutReady tail next) = ⊥
Asks (TakeReady head next) = ⊥
Asks _ = Unit {0}

-- a search can name a list
abbrev pub IsReady : QueueSearch → Type 0
IsReady (PutReady tail next) = Unit {0}
IsReady (TakeReady head next) = Unit {0}
IsReady _ = ⊥

-- nothing is named
abbrev pub no_offer : Offered
no_offer = record { entries = []; stores = [] }

-- the block that a list uses: a put's alone, for its node
abbrev pub block_for : Op → ℕ → ℕ
block_for op block = if is_put op then block else 0

-- node 1 of the block is linked behind the tail's node, with the value
abbrev pub put_offer : ℕ → ℕ → ℕ → ℕ → Offered
put_offer tail next value block =
    record {
      entries = record { target = next_place tail; from = next; to = changed_word next (reference_to block 1) } ∷ [];
      stores = (node_place (reference_to block 1) NODE_VALUE, value) ∷ (node_place (reference_to block 1) NODE_NEXT, 0) ∷ [];
    }

-- the head is moved to the node behind it
abbrev pub take_offer : ℕ → ℕ → Offered
take_offer head next = record { entries = record { target = HEAD; from = head; to = moved_word head next } ∷ []; stores = [] }

-- what a ready search names
abbrev pub offered : QueueSearch → Op → ℕ → Offered
offered (PutReady tail next) op block = put_offer tail next op.value (block_for op block)
offered (TakeReady head next) op block = take_offer head next
offered _ op block = no_offer
