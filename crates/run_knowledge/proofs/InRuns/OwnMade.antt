-- The step of a machine's own call, in the world of its memory.
use Rattle.std.proofs.Common.{◌≡◌, ◌∙◌, refl, sym, subst, ap, ℕ, ◌<◌, ◌≤◌, if◌then◌else◌, Bool, true, false, List, length, slice_get, Option, Some, None, inl, inr, ◌⊎◌, arith}
use Rattle.step_memory.specs.declared.steps.Request.{Request}
use Rattle.step_memory.specs.declared.steps.Request.TheVariants.{Load, Exchange}
use Rattle.step_memory.specs.declared.steps.Seen.{Seen}
use Rattle.step_memory.specs.Step.{seen_of, words_after}
use Rattle.node_arena.specs.declared.places.TheConstants.{TICKS, QUEUE, CLAIMS}
use Rattle.normal_traits.specs.declared.lists.Entry.{Entry}
use Rattle.normal_traits.specs.World.{Listed, World}
use Rattle.normal_traits.specs.World.Maker.{By}
use Rattle.normal_traits.specs.NormalForm.{NormalForm}
use Rattle.normal_traits.specs.Steps.{exchanged, listed_if, with_word}
use Rattle.cas_executor.specs.FastRuns.{FastWalk, exchange_of}
use Rattle.help_queue.specs.Gathers.{gather_over}
use Rattle.help_queue.specs.declared.enter.EnterStage.{EnterStage}
use Rattle.help_queue.specs.declared.enter.EnterStage.TheVariants as stage
use Rattle.help_queue.specs.declared.remove.RemoveStage.{RemoveStage}
use Rattle.help_queue.specs.declared.remove.RemoveStage.TheVariants as removing
use Rattle.help_queue.specs.Enters.{enter_request_in}
use Rattle.help_queue.specs.Removes.{remove_request_in}
use Rattle.fast_slow_engine.specs.declared.phases.Phase.{Phase}
use Rattle.fast_slow_engine.specs.declared.phases.Phase.TheVariants as phase
use Rattle.fast_slow_engine.specs.declared.phases.Announcing.{Announcing}
use Rattle.fast_slow_engine.specs.declared.phases.Announcing.TheVariants as announcing
use Rattle.fast_slow_engine.specs.declared.phases.Generating.TheVariants.{Search, LookForBlock, Claim}
use Rattle.fast_slow_engine.specs.declared.phases.Applying.TheVariants.{Fill, Execute}
use Rattle.fast_slow_engine.specs.Mechs.{Mech}
use Rattle.fast_slow_engine.specs.OfferStores.{stored_by}
use Rattle.fast_slow_engine.specs.PhaseTable.{announce_request, request_in}
use Rattle.offered_blocks.specs.Blocks.{Offer}
use Rattle.helper_knowledge.specs.Carried.{OfSome}
use Rattle.run_world.specs.Lists.{IsOffering}
use Rattle.run_world.specs.Ghosts.{Held, uses_block}
use Rattle.run_world.specs.Worlds.{asked_listed, won_entry, world_stepped}
use Rattle.run_world.proofs.Words.Moved.{with_list}
use Rattle.run_world.proofs.Words.WordsAfterMoves.{word_in}
use Rattle.step_knowledge.specs.Moves.{Announces, Enters, OwnSteps, Puts}
use Rattle.step_knowledge.specs.Moves.Enters.{misses, wins}
use Rattle.run_knowledge.specs.InMemory.{IsInside}
use Rattle.run_knowledge.proofs.InRuns.Asked.{add_made, exchange_made, here, load_made, made, of_words, requested, store_made}

-- a world keeps its words where a block comes to be used
block_words : (b : Bool) (x y : World) (words : ℕ → ℕ) → x.words ≡ words → y.words ≡ words → of_words words (if b then x else y) ≡ (if b then x else y)
block_words true x y words h k = ap (λ (f : ℕ → ℕ). of_words f x) (sym h)
block_words false x y words h k = ap (λ (f : ℕ → ℕ). of_words f y) (sym k)

some_in : {X A : Type 0} (x : X) → None ≡ Some x → A
some_in x e = absurd cc

same_some : {X : Type 0} (x y : X) → Some x ≡ Some y → x ≡ y
same_some x y e = cc

module _ {S W : Type 0} (form : NormalForm S W) (words : List ℕ) (world : World) (offers offers' : ℕ → Option (Offer S)) where
  abbrev before : World
  before = here words world

  -- an exchange of the queue word, or a load
  pub queue_made : (request : Request) → ((at : ℕ) × (request ≡ Load at)) ⊎ ((from : ℕ) × ((to : ℕ) × (request ≡ Exchange QUEUE from to))) → 32 ≤ length words
      → (made words world request ≡ before) ⊎ Puts form before (made words world request) offers offers' QUEUE
  queue_made request (inl is) first = inl (ap (made words world) is.1 ∙ load_made words world is.0)
  queue_made request (inr is) first =
      elim (exchange_made words world QUEUE is.0 is.1.0 (omega (arith, first))) [
        | inl won ↦ inr (is.1.0, ap (made words world) is.1.1 ∙ won.2)
        | inr lost ↦ inl (ap (made words world) is.1.1 ∙ lost.2)
      ]

  abbrev pub AtQueue : Request → Type 0
  AtQueue request = ((at : ℕ) × (request ≡ Load at)) ⊎ ((from : ℕ) × ((to : ℕ) × (request ≡ Exchange QUEUE from to)))

  gather_at : (b : Bool) (word to at : ℕ) → AtQueue (if b then Exchange QUEUE word to else Load at)
  gather_at true word to at = inr (word, (to, refl))
  gather_at false word to at = inl (at, refl)

  pub enter_at : (at : EnterStage) → AtQueue (enter_request_in at)
  enter_at stage.Look = inl (QUEUE, refl)
  enter_at (stage.Gathers g) = gather_at (gather_over g) g.word _ _

  pub remove_at : (at : RemoveStage) (seat : ℕ) → AtQueue (remove_request_in at seat)
  remove_at removing.Look seat = inl (QUEUE, refl)
  remove_at (removing.Check word) seat = inl (_, refl)
  remove_at (removing.Gathers g) seat = gather_at (gather_over g) g.word _ _

  -- ---- an entry of the own list

  entry_made : (list : Listed) (j : ℕ) (entry : Entry) → entry.target < length words → word_in words entry.target ≡ entry.from
      → with_list (words_after (Exchange entry.target entry.from entry.to) words) (won_entry form list j (Some entry) before) ≡ won_entry form list j (Some entry) before
  entry_made list j entry inside found =
      let request = Exchange entry.target entry.from entry.to in
      elim (exchange_made words world entry.target entry.from entry.to inside) [
        | inl won ↦
            let after : word_in (words_after request words) ≡ with_word entry.target entry.to (word_in words) = ap (λ (w : World). w.words) won.2 in
            ap (λ (f : ℕ → ℕ). of_words f (won_entry form list j (Some entry) before)) after
            ∙ block_words (uses_block list j) _ (exchanged form (By list j) (listed_if (form.adds list j) list) entry entry.to before) (with_word entry.target entry.to (word_in words)) refl refl
        | inr lost ↦ absurd (lost.1 found)
      ]

  abbrev After : FastWalk → Option (Held S) → Option Entry → World
  After run held next = with_list (words_after (exchange_of next) words) (asked_listed form held run (seen_of (exchange_of next) words) before)

  lost_listed : (held : Option (Held S)) (run : FastWalk) (seen : Seen) → seen.won ≡ false → asked_listed form held run seen before ≡ before
  lost_listed None run seen off = refl
  lost_listed (Some held) run seen off = ap (λ b. if b then won_entry form held.list run.next (slice_get run.entries run.next) before else before) off

  pub entry_steps : (run : FastWalk) (held : Held S) (next : Option Entry) → slice_get run.entries run.next ≡ next → (entry : Entry) → next ≡ Some entry → entry.target < length words
      → Enters form before (After run (Some held) next) offers offers' run (Some held) (seen_of (exchange_of next) words)
  entry_steps run held None at entry is inside = some_in entry is
  entry_steps run held (Some other) at entry is inside =
      let request = Exchange other.target other.from other.to in
      let same : other ≡ entry = same_some other entry is in
      let within : other.target < length words = subst (λ (e : Entry). e.target < length words) (sym same) inside in
      elim (exchange_made words world other.target other.from other.to within) [
        | inl won ↦
            wins held other refl won.0 at won.1
            (ap (λ b. with_list (words_after request words) (if b then won_entry form held.list run.next (slice_get run.entries run.next) before else before)) won.0
            ∙ ap (λ (o : Option Entry). with_list (words_after request words) (won_entry form held.list run.next o before)) at
            ∙ entry_made held.list run.next other within won.1)
        | inr lost ↦
            misses lost.0 (λ e next found. lost.1 (let alike : other ≡ e = same_some other e (sym at ∙ next) in ap (λ (x : Entry). word_in words x.target) alike ∙ found ∙ ap (λ (x : Entry). x.from) (sym alike)))
            (ap (λ (w : World). with_list (words_after request words) w) (lost_listed (Some held) run (seen_of request words) lost.0) ∙ lost.2)
      ]

  executing : (run : FastWalk) (held : Option (Held S)) (P : Held S → Type 0) → OfSome P held → (entry : Entry) → slice_get run.entries run.next ≡ Some entry → entry.target < length words
      → Enters form before (After run held (slice_get run.entries run.next)) offers offers' run held (seen_of (exchange_of (slice_get run.entries run.next)) words)
  executing run None P has entry is inside = absurd has
  executing run (Some held) P has entry is inside = entry_steps run held (slice_get run.entries run.next) refl entry is inside

  -- ---- all phases of the own call

  module _ (mech : Mech S W) (held : Option (Held S)) where
    abbrev pub after_own : Phase S W → World
    after_own at = with_list (words_after (request_in form at mech) words) (world_stepped form at held offers (seen_of (request_in form at mech) words) before)

    abbrev pub Steps : Phase S W → Type 0
    Steps at = OwnSteps form before (after_own at) offers offers' at mech held (seen_of (request_in form at mech) words)

    announce_steps : (at : Announcing) → mech.seat < 8 → 32 ≤ length words → Announces form before (made words world (announce_request at mech)) offers offers' at mech
    announce_steps announcing.Value few first = store_made words world _ _ (omega (arith, few, first))
    announce_steps announcing.Op few first = store_made words world _ _ (omega (arith, few, first))
    announce_steps announcing.Record few first = store_made words world _ _ (omega (arith, few, first))

    pub own_steps : (at : Phase S W) → IsInside form at mech held words → Steps at
    own_steps phase.Idle is = load_made words world 0
    own_steps phase.Begin is = (_, add_made words world TICKS 1 (let first = is.first in omega (arith, first)))
    own_steps phase.Look is = load_made words world QUEUE
    own_steps (phase.Generate s Search) is = requested form (form.request_of s) words world is.asks
    own_steps (phase.Generate s LookForBlock) is = load_made words world CLAIMS
    own_steps (phase.Generate s Claim) is = (_, add_made words world CLAIMS 1 (let first = is.first in omega (arith, first)))
    own_steps (phase.Apply run stores (Fill n)) is = λ store at. (ap (λ o. made words world (stored_by o)) at ∙ store_made words world store.0 store.1 (is.asks store at))
    own_steps (phase.Apply run stores Execute) is = executing run held (IsOffering form run stores mech) is.lists is.asks.0 is.asks.1 is.asks.2
    own_steps (phase.Wrap w) is = requested form (form.wrap_request_of w) words world is.asks
    own_steps (phase.Announce at) is = announce_steps at is.few is.first
    own_steps (phase.Enter owner) is = queue_made (enter_request_in owner.stage) (enter_at owner.stage) is.first
    own_steps phase.Drive is = load_made words world QUEUE
    own_steps (phase.Help drives help) is = tt
    own_steps phase.Collect is = load_made words world _
    own_steps (phase.Value reference) is = load_made words world _
    own_steps (phase.End reply) is = (_, add_made words world TICKS 1 (let first = is.first in omega (arith, first)))
