-- A request of the client goes to a word that may be the client's, and leaves all others.
use Rattle.std.proofs.Common.{◌≡◌, refl, sym, subst, ℕ, ◌+◌, true, inr, List, slice_get, Option, Some, None, Bool}
use Rattle.step_memory.specs.declared.steps.Request.{Request}
use Rattle.step_memory.specs.declared.steps.Request.TheVariants.{Load, Store, Exchange, Add}
use Rattle.step_memory.specs.Step.{requested_place}
use Rattle.node_arena.specs.MemoryMap.{block_place, MayBeClients}
use Rattle.node_arena.proofs.PlacesApart.{block_place_behind}
use Rattle.normal_traits.specs.declared.lists.Entry.{Entry}
use Rattle.normal_traits.specs.World.{World, is_word}
use Rattle.normal_traits.specs.NormalForm.{NormalForm}
use Rattle.normal_traits.specs.Laws.{AsksWell}
use Rattle.cas_executor.specs.declared.slow_run.SlowStep.{SlowStep}
use Rattle.cas_executor.specs.declared.slow_run.SlowStep.TheVariants as slow
use Rattle.cas_executor.specs.FastRuns.{FastWalk, exchange_of, fast_request}
use Rattle.cas_executor.specs.SlowRuns.{SlowWalk, request_at, slow_request, step_request}
use Rattle.fast_slow_engine.specs.OfferStores.{stored_by}
use Rattle.run_laws.specs.Ticks.{LeavesWord}
use Rattle.run_laws.proofs.CountersLeft.{leaves_elsewhere, leaves_load}
use Rattle.offered_blocks.proofs.Blocks.Places.{word_may}

-- the request leaves each word that can't be the client's
abbrev pub LeavesOthers : Request → Type 0
LeavesOthers request = (place : ℕ) (words : List ℕ) → ¬ MayBeClients place → LeavesWord place request words

pub leaves_at : (request : Request) → MayBeClients (requested_place request) → LeavesOthers request
leaves_at request may place words apart = leaves_elsewhere place request words (λ same. apart (subst MayBeClients (sym same) may))

pub loads_leave : (at : ℕ) → LeavesOthers (Load at)
loads_leave at place words apart = leaves_load place at words

-- what asks well
pub asks_leaves : {S W : Type 0} (form : NormalForm S W) (world : World) (request : Request) → AsksWell form world request → LeavesOthers request
asks_leaves form world (Load at) asks = loads_leave at
asks_leaves form world (Store at value) asks = absurd asks
asks_leaves form world (Add at by) asks = absurd asks
asks_leaves form world (Exchange at from to) asks = leaves_at (Exchange at from to) (word_may form.is_root world at asks.0)

-- a store that goes into a block
pub stores_leave : (next : Option (ℕ × ℕ)) → ((store : ℕ × ℕ) → next ≡ Some store → (block : ℕ) × (field : ℕ) × (store.0 ≡ block_place block field)) → LeavesOthers (stored_by next)
stores_leave None into = loads_leave 0
stores_leave (Some store) into =
    let is = into store refl in
    leaves_at (Store store.0 store.1) (subst MayBeClients (sym is.2) (inr (block_place_behind is.0 is.1)))

-- an exchange at a target that is a word of the client
entry_leaves : (is_root : ℕ → Bool) (world : World) (entry : Option Entry) → ((e : Entry) → entry ≡ Some e → is_word is_root world e.target ≡ true) → LeavesOthers (exchange_of entry)
entry_leaves is_root world None targets = loads_leave 0
entry_leaves is_root world (Some entry) targets = leaves_at (Exchange entry.target entry.from entry.to) (word_may is_root world entry.target (targets entry refl))

pub run_leaves : (is_root : ℕ → Bool) (world : World) (run : FastWalk) → ((e : Entry) → slice_get run.entries run.next ≡ Some e → is_word is_root world e.target ≡ true) → LeavesOthers (fast_request run)
run_leaves is_root world run targets = entry_leaves is_root world (slice_get run.entries run.next) targets

-- the same of a list that anyone may execute: its other exchanges are of the states in its block
step_leaves : (block j : ℕ) (entry : Entry) (step : SlowStep) → MayBeClients entry.target → LeavesOthers (step_request block j entry step)
step_leaves block j entry slow.LoadState may = loads_leave _
step_leaves block j entry slow.Install may = leaves_at (step_request block j entry slow.Install) may
step_leaves block j entry slow.LoadTarget may = loads_leave _
step_leaves block j entry slow.Succeed may = leaves_at (step_request block j entry slow.Succeed) (inr (block_place_behind block (9 + j)))
step_leaves block j entry slow.Fail may = leaves_at (step_request block j entry slow.Fail) (inr (block_place_behind block (9 + j)))
step_leaves block j entry slow.LoadDecision may = loads_leave _
step_leaves block j entry slow.Clear may = leaves_at (step_request block j entry slow.Clear) may

walk_leaves : (is_root : ℕ → Bool) (world : World) (run : SlowWalk) (entry : Option Entry) → ((e : Entry) → entry ≡ Some e → is_word is_root world e.target ≡ true) → LeavesOthers (request_at run entry)
walk_leaves is_root world run None targets = loads_leave 0
walk_leaves is_root world run (Some entry) targets = step_leaves run.block run.next entry run.step (word_may is_root world entry.target (targets entry refl))

pub slow_leaves : (is_root : ℕ → Bool) (world : World) (run : SlowWalk) → ((e : Entry) → slice_get run.entries run.next ≡ Some e → is_word is_root world e.target ≡ true) → LeavesOthers (slow_request run)
slow_leaves is_root world run targets = walk_leaves is_root world run (slice_get run.entries run.next) targets
