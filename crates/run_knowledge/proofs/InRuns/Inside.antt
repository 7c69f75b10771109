-- The request of the machine that moves is inside the memory, in a run of which the invariant holds.
use Rattle.std.proofs.Common.{◌≡◌, ◌∙◌, refl, sym, subst, ap, ℕ, ◌+◌, ◌^◌, ◌<◌, ◌≤◌, true, inl, inr, List, length, slice_get, Option, Some, None, arith}
use Rattle.std.proofs.lemmas.Option.{slice_get_cases}
use Rattle.arrayvec.specs.ArrayVec.{ArrayVec}
use Rattle.step_memory.specs.declared.steps.Request.{Request}
use Rattle.step_memory.specs.declared.steps.Request.TheVariants.{Load, Store, Exchange, Add}
use Rattle.step_memory.specs.Step.{requested_place}
use Rattle.word_fields.specs.Versioned.{versioned_version}
use Rattle.word_fields.proofs.ChangedWords.{version-changed_below}
use Rattle.node_arena.specs.MemoryMap.{block_place}
use Rattle.node_arena.proofs.PlacesApart.{block_place_inside}
use Rattle.normal_traits.specs.declared.lists.Entry.{Entry}
use Rattle.normal_traits.specs.World.{World}
use Rattle.normal_traits.specs.NormalForm.{NormalForm}
use Rattle.normal_traits.specs.Laws.{AsksWell, IsGoodEntry, IsGoodStore, Laws}
use Rattle.normal_traits.proofs.Stays.{all_at, entry_good}
use Rattle.cas_executor.specs.declared.slow_run.SlowStep.{SlowStep}
use Rattle.cas_executor.specs.declared.slow_run.SlowStep.TheVariants as slow
use Rattle.cas_executor.specs.FastRuns.{FastWalk}
use Rattle.cas_executor.specs.SlowRuns.{SlowWalk, request_at, slow_request, step_request}
use Rattle.fast_slow_engine.specs.declared.setup.Setup.{Setup}
use Rattle.fast_slow_engine.specs.Mechs.{Mech}
use Rattle.fast_slow_engine.specs.Runs.{AreMoves, Move, run_of}
use Rattle.helper_knowledge.specs.Carried.{OfSome}
use Rattle.run_world.specs.Ghosts.{Held}
use Rattle.run_world.specs.Lists.{IsOffering}
use Rattle.run_world.specs.RunGhosts.{world_of}
use Rattle.step_knowledge.specs.Known.{KnowsFill, KnowsRun, KnowsWrap}
use Rattle.step_knowledge.proofs.OfKinds.OwnStores.{IsOwnStore, filling, held_offer, own_stored}
use Rattle.run_knowledge.specs.InMemory.{AsksInside, StoresInside}
use Rattle.run_knowledge.specs.Kept.{IsKept}
use Rattle.run_knowledge.proofs.Bounds.InKept as bounds
use Rattle.run_knowledge.proofs.Bounds.Words.{words_count}

module _ {S W : Type 0} (form : NormalForm S W) (laws : Laws form) (setup : Setup) (older : List Move) (are : AreMoves form setup older) (kept : IsKept form setup older) where
  abbrev world : World
  world = world_of form setup older

  abbrev words : List ℕ
  words = (run_of form setup older).words

  -- what asks well asks inside the memory
  pub asks_inside : (request : Request) → AsksWell form world request → AsksInside request words
  asks_inside (Load at) asks = bounds.inside form setup older are kept at asks
  asks_inside (Store at value) asks = absurd asks
  asks_inside (Add at by) asks = absurd asks
  asks_inside (Exchange at from to) asks = (
    bounds.inside form setup older are kept at asks.0,
    λ same.
        (let least = bounds.has_room form setup older are kept laws at asks.0 asks.1 in
        ap versioned_version asks.3.2 ∙ version-changed_below from asks.3.0 asks.3.1 (subst (λ w. versioned_version w + 1 < 2 ^ 39) same least)),
  )

  -- a field of a block of the run
  pub field_inside : (block field : ℕ) → block ≤ setup.cap → field < 32 → block_place block field < length words
  field_inside block field within low = (let below = block_place_inside setup.cap block field within low in let count = words_count form setup older are in omega (arith, below, count))

  -- ---- the own call

  pub wrap_inside : (wrap : W) (held : Option (Held S)) → OfSome (KnowsWrap form world wrap) held → AsksInside (form.wrap_request_of wrap) words
  wrap_inside wrap None knows = absurd knows
  wrap_inside wrap (Some held) knows = asks_inside (form.wrap_request_of wrap) (laws.of_world.wrap_asks_well world wrap held.list held.stop kept.holds.shape knows.wraps knows.follows)

  pub fill_inside : (run : FastWalk) (stores : ArrayVec (ℕ × ℕ)) (made : ℕ) (mech : Mech S W) (held : Option (Held S)) → ((block : ℕ) → mech.hand ≡ Some block → (0 < block) × (block ≤ setup.cap)) → form.needs_block mech.op ≡ true
      → OfSome (λ (h : Held S). mech.hand ≡ Some h.list.block) held → OfSome (IsOffering form run stores mech) held → OfSome (KnowsFill form world run stores made) held → StoresInside (slice_get stores.items made) words
  fill_inside run stores made mech None small needs has offering knows = absurd knows
  fill_inside run stores made mech (Some held) small needs has offering knows =
      λ store at. (
      let block = held.list.block in
      let offer = form.offer_of held.offering held.list.call.op block in
      let good = (held_offer form laws world kept.holds.shape held knows.offered).stores in
      let is : IsOwnStore form block store =
      own_stored form laws block mech.seat mech.number mech.op (small block has).0 offer.stores (λ k s here. all_at (IsGoodStore form block) offer.stores k s good here) made store
      (ap (λ (l : List (ℕ × ℕ)). slice_get l made) (sym (filling form laws world kept.holds.shape run stores mech held needs has offering)) ∙ at) in
      subst (λ p. p < length words) (sym is.place) (field_inside block is.field (small block has).1 is.within))

  pub run_inside : (run : FastWalk) (stores : ArrayVec (ℕ × ℕ)) (mech : Mech S W) (held : Option (Held S)) → OfSome (IsOffering form run stores mech) held → OfSome (KnowsRun form world run) held
      → (entry : Entry) × (slice_get run.entries run.next ≡ Some entry) × (entry.target < length words)
  run_inside run stores mech None offering knows = absurd knows
  run_inside run stores mech (Some held) offering knows =
      elim (slice_get_cases run.entries run.next).1 [
        | inl has ↦
            let listed : slice_get held.list.entries run.next ≡ Some has.0 = ap (λ (l : List Entry). slice_get l run.next) offering.entries ∙ has.2 in
            let good : IsGoodEntry form world has.0 = entry_good form laws world held.list held.offering held.since run.next has.0 kept.holds.shape knows.offered listed in
            (has.0, has.2, bounds.inside form setup older are kept has.0.target good.word)
        | inr past ↦ (let running = knows.running in absurd (omega (arith, past.0, running.0)))
      ]

  -- ---- a named list

  step_inside : (at : SlowStep) (block j : ℕ) (entry : Entry) → block ≤ setup.cap → j < 2 → entry.target < length words → requested_place (step_request block j entry at) < length words
  step_inside slow.LoadState block j entry within few target = field_inside block (9 + j) within (omega (arith, few))
  step_inside slow.Install block j entry within few target = target
  step_inside slow.LoadTarget block j entry within few target = target
  step_inside slow.Succeed block j entry within few target = field_inside block (9 + j) within (omega (arith, few))
  step_inside slow.Fail block j entry within few target = field_inside block (9 + j) within (omega (arith, few))
  step_inside slow.LoadDecision block j entry within few target = field_inside block (9 + j) within (omega (arith, few))
  step_inside slow.Clear block j entry within few target = target

  pub slow_inside : (run : SlowWalk) → run.block ≤ setup.cap → run.next < 2 → ((entry : Entry) → slice_get run.entries run.next ≡ Some entry → entry.target < length words) → requested_place (slow_request run) < length words
  slow_inside run within few targets = by_entry (slice_get run.entries run.next) refl
    where
      by_entry : (entry : Option Entry) → slice_get run.entries run.next ≡ entry → requested_place (request_at run entry) < length words
      by_entry None at = (let count = words_count form setup older are in omega (arith, count))
      by_entry (Some entry) at = step_inside run.step run.block run.next entry within few (targets entry at)
