-- The step of a helper, in the world of its memory.
use Rattle.std.proofs.Common.{◌≡◌, ◌∙◌, refl, sym, ap, ℕ, ◌+◌, ◌^◌, ◌<◌, ◌≤◌, ◌&&◌, nat_lt, if◌then◌else◌, Bool, true, false, List, length, slice_get, Option, Some, None, inl, inr, arith}
use Rattle.std.proofs.lemmas.Bool.{lt-ltb}
use Rattle.lin_report.specs.declared.calls.Op.{Op}
use Rattle.step_memory.specs.declared.steps.Seen.{Seen}
use Rattle.step_memory.specs.Step.{requested_place, seen_of, words_after}
use Rattle.step_memory.proofs.Words.{load_tells, word_at_place, word_elsewhere}
use Rattle.word_fields.specs.Records.{packed_record, record_of}
use Rattle.node_arena.specs.declared.places.TheConstants.{CLAIMS}
use Rattle.node_arena.specs.MemoryMap.{record_place}
use Rattle.normal_traits.specs.declared.form.Found.{Found}
use Rattle.normal_traits.specs.declared.form.Found.TheVariants.{Ready}
use Rattle.normal_traits.specs.declared.lists.Entry.{Entry}
use Rattle.normal_traits.specs.World.{World}
use Rattle.normal_traits.specs.NormalForm.{NormalForm}
use Rattle.cas_executor.specs.SlowRuns.{SlowWalk, installs, slow_request}
use Rattle.help_queue.specs.Removes.{remove_request_in}
use Rattle.fast_slow_engine.specs.declared.phases.Generating.TheVariants.{Search, LookForBlock, Claim}
use Rattle.fast_slow_engine.specs.declared.help.Helping.{Helping}
use Rattle.fast_slow_engine.specs.declared.help.Helping.TheVariants.{Record, Known, Remove}
use Rattle.fast_slow_engine.specs.declared.help.Work.{Work}
use Rattle.fast_slow_engine.specs.declared.help.Work.TheVariants as work
use Rattle.fast_slow_engine.specs.Hands.{block_of, holds_none}
use Rattle.fast_slow_engine.specs.HelpTable.{filling, found_work, helping_request, work_request}
use Rattle.fast_slow_engine.specs.HelpWords.{named_block}
use Rattle.fast_slow_engine.specs.Mechs.{Mech}
use Rattle.fast_slow_engine.specs.OfferStores.{stored_by}
use Rattle.offered_blocks.specs.Blocks.{Offer}
use Rattle.offered_blocks.specs.RunWorlds.{ran_by}
use Rattle.helper_knowledge.specs.Carried.{Carried, list_named}
use Rattle.helper_knowledge.specs.HelperStep.{Steps, call_in}
use Rattle.helper_knowledge.specs.Meetings.{won_offers}
use Rattle.run_world.specs.SeatSteps.{filled_helped, filled_worked, helps_on, named_if, offers_helped, offers_worked, works_on}
use Rattle.run_world.specs.Worlds.{asked_named, world_helped, world_worked}
use Rattle.run_world.proofs.Words.Moved.{with_list}
use Rattle.run_world.proofs.Words.WordsAfterMoves.{word_in}
use Rattle.step_knowledge.specs.Moves.{Advances, HelpSteps, WorkSteps}
use Rattle.step_knowledge.specs.Moves.Advances.{lost, won}
use Rattle.run_knowledge.specs.InMemory.{HelpInside, WorkInside}
use Rattle.run_knowledge.proofs.InRuns.Asked.{add_made, exchange_made, here, load_made, made, requested, seen_inside, store_made}
use Rattle.run_knowledge.proofs.InRuns.OwnMade.{queue_made, remove_at}

module _ {S W : Type 0} (form : NormalForm S W) (words : List ℕ) (world : World) (offers : ℕ → Option (Offer S)) (mech : Mech S W) (head : ℕ) (own : Carried S) (identity : ℕ)
    (cap : mech.setup.cap < 2 ^ 17) (small : (block : ℕ) → mech.hand ≡ Some block → block < 2 ^ 17) where
  abbrev before : World
  before = here words world

  -- what the request of a work sees, and what is left by it
  abbrev seen_by : Work S W → ℕ → Seen
  seen_by does word = seen_of (work_request form does head word) words

  abbrev after_work : Work S W → ℕ → World
  after_work does word = with_list (words_after (work_request form does head word) words) (world_worked form does (offers (named_block word)) (seen_by does word) before)

  abbrev carried_by : Work S W → ℕ → Carried S
  carried_by does word = record {
    since = if works_on does then own.since else length (after_work does word).changes;
    filled = filled_worked form identity does head word mech.hand mech.setup.cap (seen_by does word) own;
  }

  abbrev Stepped : Work S W → ℕ → Type 0
  Stepped does word = Steps form before (after_work does word) offers head word mech.hand own (carried_by does word) identity mech.setup.cap (seen_by does word) does

  -- ---- lists that are named

  -- a search that is ready, with a block in hand
  ready_filled : (op : Op) (s : S) (word block : ℕ) (what : Found) (list : ℕ → Offer S) → mech.hand ≡ Some block → what ≡ Ready
      → named_if (found_work form what op s head word mech.hand) (list (block_of mech.hand)) ≡ Some (list block)
  ready_filled op s word block what list has ready =
      ap (λ f. named_if (found_work form f op s head word mech.hand) (list (block_of mech.hand))) ready
      ∙ ap (λ (h : Option ℕ). named_if (if holds_none h then work.Generate op s LookForBlock else filling form op s head word h) (list (block_of h))) has

  search_steps : (op : Op) (s : S) (word : ℕ) → WorkInside form (work.Generate op s Search) word words → Stepped (work.Generate op s Search) word
  search_steps op s word asks = (
    requested form (form.request_of s) words world asks,
    refl,
    λ block has ready. (
      small block has,
      ready_filled op (form.feed_of s (seen_by (work.Generate op s Search) word)) word block (form.found_of s (seen_by (work.Generate op s Search) word))
          (λ b. list_named form identity (form.feed_of s (seen_by (work.Generate op s Search) word)) own.since (call_in head word op) b) has ready,
    ),
  )

  -- a claimed block
  claimed_filled : (op : Op) (s : S) (word counter to : ℕ) (b : Bool) (list : ℕ → Offer S) → b ≡ true
      → named_if (if b then filling form op s head word (Some (counter + 1)) else work.Advance to) (list (block_of (if b then Some (counter + 1) else mech.hand))) ≡ Some (list (counter + 1))
  claimed_filled op s word counter to true list on = refl
  claimed_filled op s word counter to false list on = absurd cc

  claim_steps : (op : Op) (s : S) (word : ℕ) → 32 ≤ length words → Stepped (work.Generate op s Claim) word
  claim_steps op s word first =
      let counter = (seen_by (work.Generate op s Claim) word).before in (
        (_, add_made words world CLAIMS 1 (omega (arith, first))),
        refl,
        λ below. (
          omega (arith, below, cap),
          claimed_filled op s word counter _ (nat_lt counter mech.setup.cap) (λ b. list_named form identity s own.since (call_in head word op) b) (lt-ltb counter mech.setup.cap below),
        ),
      )

  -- ---- lists of named blocks

  ran_words : (offer : Offer S) (j : ℕ) (b : Bool) (entry : Option Entry) (ws : List ℕ) → with_list ws (ran_by form before offer j before.words b entry) ≡ ran_by form before offer j (word_in ws) b entry
  ran_words offer j false entry ws = refl
  ran_words offer j true None ws = refl
  ran_words offer j true (Some entry) ws = refl

  execute_steps : (run : SlowWalk) (word : ℕ) → requested_place (slow_request run) < length words → Stepped (work.Execute run) word
  execute_steps run word inside =
      let request = slow_request run in
      let seen = seen_of request words in (
        record {
          here = word_at_place request words inside;
          beside = λ at apart. word_elsewhere request words at apart;
          tells = sym (seen_inside request words inside);
        },
        λ offer stands.
            ap (λ (o : Option (Offer S)). with_list (words_after request words) (asked_named form o run seen before)) stands
            ∙ ran_words offer run.next (installs run.step && seen.won) (slice_get offer.list.entries run.next) (words_after request words),
      )

  -- ---- the exchange of the record

  offers_won : (b : Bool) (to : ℕ) → b ≡ true → (if b then won_offers to own.filled offers else offers) ≡ won_offers to own.filled offers
  offers_won true to on = refl
  offers_won false to on = absurd cc

  offers_lost : (b : Bool) (to : ℕ) → b ≡ false → (if b then won_offers to own.filled offers else offers) ≡ offers
  offers_lost false to off = refl
  offers_lost true to off = absurd cc

  advance_steps : (to word : ℕ) → head < 8 → 32 ≤ length words
      → Advances form before (after_work (work.Advance to) word) offers (offers_worked {W = W} (work.Advance to) (seen_by (work.Advance to) word) own.filled offers) head word to own.filled (seen_by (work.Advance to) word)
  advance_steps to word few first =
      elim (exchange_made words world (record_place head) (packed_record (record_of word)) to (omega (arith, few, first))) [
        | inl is ↦ won is.0 is.1 is.2 (offers_won (seen_by (work.Advance to) word).won to is.0)
        | inr is ↦ lost is.0 is.2 (offers_lost (seen_by (work.Advance to) word).won to is.0)
      ]

  -- ---- all work

  pub work_steps : (does : Work S W) (word : ℕ) → head < 8 → 32 ≤ length words → WorkInside form does word words
      → WorkSteps form before (after_work does word) offers (offers_worked does (seen_by does word) own.filled offers) does head word mech own (carried_by does word) identity (seen_by does word)
  work_steps work.Head word few first asks = (refl, (load_made words world _, asks))
  work_steps work.Op word few first asks = (refl, (load_made words world _, load_tells _ words))
  work_steps (work.Value op) word few first asks = (refl, (load_made words world _, load_tells _ words, refl))
  work_steps (work.Generate op s Search) word few first asks = (refl, search_steps op s word asks)
  work_steps (work.Generate op s LookForBlock) word few first asks = (refl, (load_made words world _, refl))
  work_steps (work.Generate op s Claim) word few first asks = (refl, claim_steps op s word first)
  work_steps (work.Fill stores n) word few first asks = (refl, (refl, λ store at. (ap (λ o. made words world (stored_by o)) at ∙ store_made words world store.0 store.1 (asks store at))))
  work_steps (work.Advance to) word few first asks = advance_steps to word few first
  work_steps (work.Read read) word few first asks = (refl, (load_made words world _, load_tells _ words))
  work_steps (work.Execute run) word few first asks = (refl, execute_steps run word asks)
  work_steps (work.Wrap wrap) word few first asks = (refl, requested form (form.wrap_request_of wrap) words world asks)

  -- ---- all of helping

  abbrev seen_help : Helping S W → Seen
  seen_help at = seen_of (helping_request form at head) words

  abbrev after_help : Helping S W → World
  after_help at = with_list (words_after (helping_request form at head) words) (world_helped form at offers (seen_help at) before)

  abbrev carried_help : Helping S W → Carried S
  carried_help at = record { since = if helps_on at then own.since else length (after_help at).changes; filled = filled_helped form identity at head mech.hand mech.setup.cap (seen_help at) own }

  pub help_steps : (at : Helping S W) → head < 8 → 32 ≤ length words → HelpInside form at words
      → HelpSteps form before (after_help at) offers (offers_helped at (seen_help at) own.filled offers) at head mech own (carried_help at) identity (seen_help at)
  help_steps (Record known) few first asks = (load_made words world _, refl, load_tells _ words)
  help_steps (Known word does) few first asks = work_steps does word few first asks
  help_steps (Remove removal) few first asks =
      (queue_made form words world offers offers (remove_request_in removal.stage removal.seat) (remove_at form words world offers offers removal.stage removal.seat) first, refl)
