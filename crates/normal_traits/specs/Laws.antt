-- What a structure in normalized form owes, each law of one state and one step.
use Rattle.std.specs.Prelude.{◌≡◌, ◌≢◌, ℕ, ◌^◌, ◌<◌, ◌≤◌, ◌==◌, ◌++◌, ◌∷◌, true, false, ◌⊎◌, List, [], length, slice_get, Some, IsTrue, All, AllPairs}
use Rattle.lin_report.specs.declared.calls.Op.{Op}
use Rattle.lin_report.specs.declared.calls.Outcome.{Outcome}
use Rattle.lin_report.specs.declared.calls.Outcome.TheVariants.{Plain, ValueOf}
use Rattle.lin_report.specs.Object.{IsCommandOf}
use Rattle.lin_report.specs.Commands.{may_exhaust, told_value}
use Rattle.step_memory.specs.declared.steps.Request.{Request}
use Rattle.step_memory.specs.declared.steps.Request.TheVariants.{Load, Store, Exchange, Add}
use Rattle.step_memory.specs.declared.steps.Seen.{Seen}
use Rattle.word_fields.specs.Versioned.{versioned_bit, changed_word}
use Rattle.node_arena.specs.declared.places.TheConstants.{NODE_VALUE}
use Rattle.node_arena.specs.MemoryMap.{block_place, node_place}
use Rattle.normal_traits.specs.declared.form.Found.{Found}
use Rattle.normal_traits.specs.declared.form.Found.TheVariants as found
use Rattle.normal_traits.specs.declared.form.Wrapped.{Wrapped}
use Rattle.normal_traits.specs.declared.form.Wrapped.TheVariants as wrapped
use Rattle.normal_traits.specs.declared.lists.Entry.{Entry}
use Rattle.normal_traits.specs.World.{Listed, Won, Change, World, Among, held_after, StandsOrPassed, Took, Stopped, ChangedBy, RightSince, Observes, is_word}
use Rattle.normal_traits.specs.NormalForm.{NormalForm, Offered}
use Rattle.normal_traits.specs.Steps.{IsStep, IsFresh, IsOffered, Requested}

-- nothing was changed yet, and block 0 alone is used
abbrev pub opening_world : {S W : Type 0} → NormalForm S W → World
opening_world form = record { words = form.opening; changes = []; used = λ block. block == 0; journal = [] }

-- a request of a search or a wrap-up: a load of a client's word, or an exchange of a versioned one from a
-- word to that word changed; the bit of the first is clear where a list may have an entry
abbrev pub AsksWell : {S W : Type 0} → NormalForm S W → World → Request → Type 0
AsksWell form world (Load at) = is_word form.is_root world at ≡ true
AsksWell form world (Exchange at from to) =
    (is_word form.is_root world at ≡ true) × (form.is_versioned at ≡ true) × (form.is_listable at ≡ true → versioned_bit from ≡ 0)
    × ((value : ℕ) × (value < 2 ^ 24) × (to ≡ changed_word from value))
AsksWell form world (Store at value) = ⊥
AsksWell form world (Add at by) = ⊥

-- an entry of an offer
pub record IsGoodEntry {S W : Type 0} (form : NormalForm S W) (world : World) (entry : Entry) : Type 0 where
  pub word : is_word form.is_root world entry.target ≡ true
  pub versioned : form.is_versioned entry.target ≡ true
  pub listable : form.is_listable entry.target ≡ true
  pub clear : versioned_bit entry.from ≡ 0
  pub seen : StandsOrPassed world entry.target entry.from
  pub changed : (value : ℕ) × (value < 2 ^ 24) × (entry.to ≡ changed_word entry.from value)

-- a store of an offer: into a field of the block behind its notes; a versioned word has its bit clear and
-- version 0
pub record IsGoodStore {S W : Type 0} (form : NormalForm S W) (block : ℕ) (store : ℕ × ℕ) : Type 0 where
  pub field : ℕ
  pub behind : 12 ≤ field
  pub within : field < 32
  pub place : store.0 ≡ block_place block field
  pub word : store.1 < 2 ^ 64
  pub versioned : form.is_versioned store.0 ≡ true → store.1 < 2 ^ 24

-- an offer: one or two entries with different targets, and the stores, each at another place
pub record IsGoodOffer {S W : Type 0} (form : NormalForm S W) (world : World) (block : ℕ) (offer : Offered) : Type 0 where
  pub some : 0 < length offer.entries
  pub few : length offer.entries ≤ 2
  pub entries : All (IsGoodEntry form world) offer.entries
  pub apart : AllPairs (λ (a b : Entry). a.target ≢ b.target) offer.entries
  pub stores : All (IsGoodStore form block) offer.stores
  pub distinct : AllPairs (λ (a b : ℕ × ℕ). a.0 ≢ b.0) offer.stores
  pub count : length offer.stores ≤ 20

-- the value that an outcome names stands at a place that is never exchanged, so it stays
abbrev pub IsFixed : {S W : Type 0} → NormalForm S W → Outcome → Type 0
IsFixed form (Plain reply) = Unit {0}
IsFixed form (ValueOf reference) = form.is_versioned (node_place reference NODE_VALUE) ≡ false

-- an outcome fits the record of a call: a plain reply has a value below 2^20, or none. One that names a node always
-- fits: the record has its reference alone, and `StandsFor` says that its block is used
abbrev pub FitsRecord : Outcome → Type 0
FitsRecord (Plain reply) = told_value reply < 2 ^ 20
FitsRecord (ValueOf reference) = Unit {0}

-- what a search found, or a wrap-up says, fits
abbrev pub FoundFits : Found → Type 0
FoundFits (found.Answer outcome) = FitsRecord outcome
FoundFits _ = Unit {0}

abbrev pub WrappedFits : Wrapped → Type 0
WrappedFits (wrapped.Done outcome) = FitsRecord outcome
WrappedFits _ = Unit {0}

-- what a fed search has learnt, by what it found
abbrev pub FoundWell : {S W : Type 0} → NormalForm S W → World → Op → ℕ → S → Found → Type 0
FoundWell form world op since search found.Going = form.asks search
FoundWell form world op since search found.Ready = form.is_ready search
FoundWell form world op since search (found.Answer outcome) = RightSince form.object world op since outcome × IsFixed form outcome
FoundWell form world op since search found.Contended = Unit {0}

-- what has come of a wrap-up, by what it says
abbrev pub WrappedWell : {S W : Type 0} → NormalForm S W → World → Listed → ℕ → W → Wrapped → Type 0
WrappedWell form world list stop wrap wrapped.Going = form.wraps wrap × form.follows wrap list stop world
WrappedWell form world list stop wrap (wrapped.Done outcome) = ChangedBy world list outcome × IsFixed form outcome
WrappedWell form world list stop wrap wrapped.Restart = form.dead list world

-- why a search gave up
abbrev pub MayContend : {S W : Type 0} → NormalForm S W → S → Seen → Type 0
MayContend form search seen =
    ((word : ℕ) × form.keeps search seen word × (versioned_bit word ≡ 1))
    ⊎ ((at from to : ℕ) × (form.request_of search ≡ Exchange at from to) × (seen.won ≡ false))
    ⊎ form.is_forced search seen

-- The laws of one world: what holds wherever the shape holds, of what a search or a wrap-up asks for, offers and says.
-- No step is made in them, so an author proves them first.
pub record WorldLaws {S W : Type 0} (form : NormalForm S W) : Type 0 where
  -- each change really changed the object; no two changes are of lists with one identity, or with one block. No law of
  -- runs rests on the first and the last yet: they tell an author that a change is told once, and that its block is its own
  pub effective : (world : World) (newer older : List Change) (change : Change) → form.shape world → world.changes ≡ newer ++ change ∷ older → ¬ Observes form.object change.list.call.op (held_after form.object older)
  pub one_change_a_list : (world : World) → form.shape world → AllPairs (λ (a b : Change). a.list.identity ≢ b.list.identity) world.changes
  pub one_change_a_block : (world : World) → form.shape world → AllPairs (λ (a b : Change). 0 < a.list.block → a.list.block ≢ b.list.block) world.changes
  -- causes in the journal differ, each of a used block and of one of eight kinds
  pub causes_differ : (world : World) → form.shape world → AllPairs (λ (a b : Won). a.cause ≢ b.cause) world.journal
  pub causes_bounded : (world : World) → form.shape world → All (λ (won : Won). (world.used won.cause.block ≡ true) × (won.cause.kind < 8)) world.journal
  -- a search that begins asks, and knows what holds now
  pub begins_asking : (op : Op) → IsCommandOf form.object op → form.asks (form.begin_of op)
  pub begins_knowing : (world : World) (op : Op) → IsCommandOf form.object op → form.shape world → form.knows (form.begin_of op) op world (length world.changes)
  -- the notes of a block other than 0, which the engine stores, are no versioned words
  pub notes_plain : (block field : ℕ) → 0 < block → field < 12 → form.is_versioned (block_place block field) ≡ false
  -- a search asks for loads and exchanges of its own words, and gives up for a cause. No law of runs rests on the cause:
  -- it rules out a structure that gives up where nobody stands in its way
  pub search_asks_well : (world : World) (search : S) (op : Op) (since : ℕ) → IsCommandOf form.object op → form.shape world → form.asks search → form.knows search op world since → AsksWell form world (form.request_of search)
  pub contends : (search : S) (seen : Seen) → form.asks search → form.found_of search seen ≡ found.Contended → MayContend form search seen
  -- a ready search is of an operation that may change the object, and its offer is good
  pub lists : (world : World) (search : S) (op : Op) (since : ℕ) → IsCommandOf form.object op → form.knows search op world since → form.is_ready search → IsTrue (form.may_list op) × IsTrue (may_exhaust op)
  pub offers : (world : World) (search : S) (op : Op) (since block : ℕ) → IsCommandOf form.object op → form.shape world → form.knows search op world since → form.is_ready search → block < 2 ^ 17 → IsGoodOffer form world block (form.offer_of search op block)
  -- where the operation needs no block, its list is the same for every block, so that a helper without one makes the
  -- same list. No law of runs rests on it: there a list is read back from the words that were stored for it
  pub same_entries : (search : S) (op : Op) (block other : ℕ) → form.needs_block op ≡ false → (form.offer_of search op block).entries ≡ (form.offer_of search op other).entries
  -- a wrap-up asks for loads and exchanges of its own words, and what it begins with is right
  pub wrap_asks_well : (world : World) (wrap : W) (list : Listed) (stop : ℕ) → form.shape world → form.wraps wrap → form.follows wrap list stop world → AsksWell form world (form.wrap_request_of wrap)
  pub wrap_begun : (world : World) (list : Listed) (search : S) (since stop : ℕ) → form.shape world → IsOffered form world list search since → Stopped world list stop
      → WrappedWell form world list stop (form.begin_wrap_of list.call.op list.entries stop) (form.wrap_begun_of list.call.op list.entries stop)
  -- a dead list has made no change, and its first entry can't win any more. No law of runs rests on the latter: it tells
  -- an author what a list is dead for
  pub dead_unchanged : (world : World) (list : Listed) (change : Change) → form.shape world → form.dead list world → Among change world.changes → change.list ≢ list
  pub dead_first : (world : World) (list : Listed) (search : S) (since : ℕ) (entry : Entry) → form.shape world → form.dead list world → IsOffered form world list search since → IsFresh world list → slice_get list.entries 0 ≡ Some entry → world.words entry.target ≢ entry.from
  -- a change beside the lists is that of a list with a block, whose first entry took effect
  pub beside : (world : World) (list : Listed) (entry : Entry) → form.shape world → form.adds_beside world entry ≡ Some list → (0 < list.block) × Took world list 0
  -- the outcome with which a wrap-up begins fits the record of its call
  pub begun_fits : (world : World) (list : Listed) (search : S) (since stop : ℕ) → form.shape world → IsOffered form world list search since → Stopped world list stop → WrappedFits (form.wrap_begun_of list.call.op list.entries stop)

-- What a structure in normalized form owes: the laws of one world, and those of a step, whoever makes it.
pub record Laws {S W : Type 0} (form : NormalForm S W) : Type 0 where
  pub of_world : WorldLaws form
  -- the shape holds at the opening, and each step keeps it
  pub opens : form.shape (opening_world form)
  pub shape_kept : (world after : World) → form.shape world → IsStep form world after → form.shape after
  -- what a search knows and a wrap-up follows stays true, and a dead list stays dead, whatever anyone does
  pub knows_kept : (world after : World) (search : S) (op : Op) (since : ℕ) → IsCommandOf form.object op → form.shape world → form.knows search op world since → IsStep form world after → form.knows search op after since
  pub follows_kept : (world after : World) (wrap : W) (list : Listed) (stop : ℕ) → form.shape world → form.follows wrap list stop world → IsStep form world after → form.follows wrap list stop after
  pub dead_kept : (world after : World) (list : Listed) → form.shape world → form.dead list world → IsStep form world after → form.dead list after
  -- what a search is fed it knows, and what a wrap-up ends with is right
  pub search_fed : (world after : World) (seen : Seen) (search : S) (op : Op) (since : ℕ) → IsCommandOf form.object op → form.shape world → form.asks search → form.knows search op world since → Requested form (form.request_of search) world after seen
      → form.knows (form.feed_of search seen) op after since × FoundWell form after op since (form.feed_of search seen) (form.found_of search seen)
  pub wrap_fed : (world after : World) (seen : Seen) (wrap : W) (list : Listed) (stop : ℕ) → IsCommandOf form.object list.call.op → form.shape world → form.wraps wrap → form.follows wrap list stop world → Requested form (form.wrap_request_of wrap) world after seen
      → WrappedWell form after list stop (form.feed_wrap_of wrap seen) (form.wrap_found_of wrap seen)
  -- a plain outcome fits the record of its call, through which a helper tells it
  pub answers_fit : (world after : World) (seen : Seen) (search : S) (op : Op) (since : ℕ) → IsCommandOf form.object op → form.shape world → form.asks search → form.knows search op world since → Requested form (form.request_of search) world after seen
      → FoundFits (form.found_of search seen)
  pub wraps_fit : (world after : World) (seen : Seen) (wrap : W) (list : Listed) (stop : ℕ) → IsCommandOf form.object list.call.op → form.shape world → form.wraps wrap → form.follows wrap list stop world → Requested form (form.wrap_request_of wrap) world after seen
      → WrappedFits (form.wrap_found_of wrap seen)
