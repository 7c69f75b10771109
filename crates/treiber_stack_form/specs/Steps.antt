-- The stack's steps: what a search asks for, what it is after each step, the list that it names, and what a wrap-up says.
use Rattle.std.specs.Prelude.{ℕ, ◌==◌, if◌then◌else◌, [], ◌∷◌, List, slice_get, Option, Some, None}
use Rattle.lin_report.specs.declared.calls.Op.{Op}
use Rattle.lin_report.specs.declared.calls.Reply.TheVariants.{Empty, Done}
use Rattle.lin_report.specs.declared.calls.Outcome.TheVariants.{Plain, ValueOf}
use Rattle.step_memory.specs.declared.steps.Request.{Request}
use Rattle.step_memory.specs.declared.steps.Request.TheVariants.{Load}
use Rattle.step_memory.specs.declared.steps.Seen.{Seen}
use Rattle.word_fields.specs.Versioned.{versioned_value, is_modified, changed_word}
use Rattle.node_arena.specs.declared.places.TheConstants.{NODE_VALUE, NODE_NEXT}
use Rattle.node_arena.specs.MemoryMap.{node_place, reference_to}
use Rattle.normal_traits.specs.declared.form.Found.{Found}
use Rattle.normal_traits.specs.declared.form.Found.TheVariants.{Going, Ready, Answer, Contended}
use Rattle.normal_traits.specs.declared.lists.Entry.{Entry}
use Rattle.normal_traits.specs.NormalForm.{Offered}
use Rattle.treiber_stack_form.specs.declared.states.TheConstants.{TOP}
use Rattle.treiber_stack_form.specs.declared.states.StackSearch.{StackSearch}
use Rattle.treiber_stack_form.specs.declared.states.StackSearch.TheVariants.{PutTop, PutReady, TakeTop, TakeNext, TakeReady}
use Rattle.treiber_stack_form.specs.Object.{is_put}
use Rattle.lin_report.specs.declared.calls.Outcome.{Outcome}
use Rattle.normal_traits.specs.declared.form.Wrapped.{Wrapped}
use Rattle.normal_traits.specs.declared.form.Wrapped.TheVariants as wrapped
use Rattle.treiber_stack_form.specs.declared.states.StackWrap.{StackWrap}
use Rattle.treiber_stack_form.specs.declared.states.StackWrap.TheVariants.{Over}

-- the place of the next word of the node that a word names
abbrev pub next_place : ℕ → ℕ
next_place word = node_place (versioned_value word) NODE_NEXT

-- a search that begins
abbrev pub begun : Op → StackSearch
begun op = if is_put op then PutTop else TakeTop

-- what a search loads; one that is ready asks for nothing more
abbrev pub asked_place : StackSearch → ℕ
asked_place (TakeNext top) = next_place top
asked_place _ = TOP

abbrev pub asked : StackSearch → Request
asked search = Load (asked_place search)

-- a put has loaded the top
abbrev pub met_by_put : ℕ → StackSearch × Found
met_by_put top = if is_modified top then (PutTop, Contended) else (PutReady top, Ready)

-- a take has loaded the top
abbrev pub met_by_take : ℕ → StackSearch × Found
met_by_take top =
    if versioned_value top == 0 then (TakeTop, Answer (Plain Empty))
    else (if is_modified top then (TakeTop, Contended) else (TakeNext top, Going))

-- what a search is after its step, and what it found
abbrev pub fed : StackSearch → Seen → StackSearch × Found
fed PutTop seen = met_by_put seen.before
fed (PutReady top) seen = (PutReady top, Ready)
fed TakeTop seen = met_by_take seen.before
fed (TakeNext top) seen = (TakeReady top seen.before, Ready)
fed (TakeReady top next) seen = (TakeReady top next, Ready)

-- a search has a next step
abbrev pub Asks : StackSearch → Type 0
Asks (PutReady top) = ⊥
Asks (TakeReady top next) = ⊥
Asks _ = Unit {0}

-- a search can name a list
abbrev pub IsReady : StackSearch → Type 0
IsReady (PutReady top) = Unit {0}
IsReady (TakeReady top next) = Unit {0}
IsReady _ = ⊥

-- the block that a list uses: a put's alone, for its node
abbrev pub block_for : Op → ℕ → ℕ
block_for op block = if is_put op then block else 0

-- the top is exchanged for a word with this reference
abbrev pub top_entry : ℕ → ℕ → Entry
top_entry top reference = record { target = TOP; from = top; to = changed_word top reference }

-- the top is moved to node 1 of the block, which has the value and leads to the node that was the top's
abbrev pub put_offer : ℕ → ℕ → ℕ → Offered
put_offer top value block =
    record {
      entries = top_entry top (reference_to block 1) ∷ [];
      stores = (node_place (reference_to block 1) NODE_VALUE, value) ∷ (node_place (reference_to block 1) NODE_NEXT, versioned_value top) ∷ [];
    }

-- the top is moved to the node behind its own
abbrev pub take_offer : ℕ → ℕ → Offered
take_offer top next = record { entries = top_entry top (versioned_value next) ∷ []; stores = [] }

-- what a ready search names; another names nothing
abbrev pub offered : StackSearch → Op → ℕ → Offered
offered (PutReady top) op block = put_offer top op.value (block_for op block)
offered (TakeReady top next) op block = take_offer top next
offered _ op block = record { entries = []; stores = [] }

-- what an exchange from this top tells its call: a take the node that was the top's, which has its value
abbrev pub told : Op → ℕ → Outcome
told op top = if is_put op then Plain Done else ValueOf (versioned_value top)

-- no list that stopped behind its entry is without one
abbrev pub told_by : Op → Option Entry → Outcome
told_by op None = Plain Done
told_by op (Some entry) = told op entry.from

-- what a wrap-up says at once: the one entry was passed, or took effect
abbrev pub wrap_begun : Op → List Entry → ℕ → Wrapped
wrap_begun op entries stop = if stop == 0 then wrapped.Restart else wrapped.Done (told_by op (slice_get entries 0))

-- a wrap-up never goes on. Asked all the same, it would load the top and be done: its functions are total
abbrev pub wrap_asked : Request
wrap_asked = Load TOP

abbrev pub wrap_fed : Wrapped
wrap_fed = wrapped.Done (Plain Done)

-- so there is nothing that a wrap-up must be to be asked
abbrev pub Wraps : StackWrap → Type 0
Wraps Over = Unit {0}
