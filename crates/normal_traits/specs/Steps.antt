-- What anyone may do to the world of a client: the allowed steps, and what each leaves.
use Rattle.std.specs.Prelude.{◌≡◌, ◌≢◌, ℕ, ◌+◌, ◌^◌, ◌<◌, ◌==◌, ◌||◌, if◌then◌else◌, Bool, true, false, List, ◌∷◌, slice_get, Option, Some, None, All}
use Rattle.lin_report.specs.declared.calls.Op.{Op}
use Rattle.lin_report.specs.Object.{Object, IsCommandOf}
use Rattle.step_memory.specs.declared.steps.Request.{Request}
use Rattle.step_memory.specs.declared.steps.Request.TheVariants.{Load, Exchange}
use Rattle.step_memory.specs.declared.steps.Seen.{Seen}
use Rattle.word_fields.specs.Versioned.{versioned_version, cleared_word}
use Rattle.word_fields.specs.Announced.{op_word, value_word}
use Rattle.word_fields.specs.Owners.{owner_word}
use Rattle.node_arena.specs.declared.places.TheConstants.{OWNER_FIELD, OP_FIELD, VALUE_FIELD}
use Rattle.node_arena.specs.MemoryMap.{block_place}
use Rattle.normal_traits.specs.declared.lists.Entry.{Entry}
use Rattle.normal_traits.specs.World.{Listed, Maker, Change, World, held_after, Took, is_word}
use Rattle.normal_traits.specs.World.Maker.{By, Beside}
use Rattle.normal_traits.specs.NormalForm.{NormalForm}

-- the words with another one at a place
abbrev pub with_word : ℕ → ℕ → (ℕ → ℕ) → ℕ → ℕ
with_word place word words at = if at == place then word else words at

abbrev pub put_word : ℕ → ℕ → World → World
put_word place word world = record { words = with_word place word world.words; changes = world.changes; used = world.used; journal = world.journal }

-- the list's change in front of the others, with the reply of the object there
abbrev pub change_of : Object → Listed → List Change → Change
change_of object list changes = record { list = list; reply = (object.apply list.call.op (held_after object changes)).1 }

abbrev pub with_change : Object → Option Listed → List Change → List Change
with_change object None changes = changes
with_change object (Some list) changes = change_of object list changes ∷ changes

-- the list, if it is so
abbrev pub listed_if : Bool → Listed → Option Listed
listed_if true list = Some list
listed_if false list = None

-- block 0 is used from the opening on
abbrev pub using_block : ℕ → (ℕ → Bool) → ℕ → Bool
using_block block used at = at == block || used at

-- the block has what was stored for this list: its owner, its operation, and the stores of the offer
pub record IsFilled (world : World) (list : Listed) (stores : List (ℕ × ℕ)) : Type 0 where
  pub owner : world.words (block_place list.block OWNER_FIELD) ≡ owner_word list.call.seat list.call.number
  pub op : world.words (block_place list.block OP_FIELD) ≡ op_word list.call.op.code list.call.number list.call.op.key
  pub value : world.words (block_place list.block VALUE_FIELD) ≡ value_word list.call.number list.call.op.value
  pub stored : All (λ (store : ℕ × ℕ). world.words store.0 ≡ store.1) stores

-- no entry of a list with this identity took effect
abbrev pub IsFresh : World → Listed → Type 0
IsFresh world list = (other : Listed) (j : ℕ) → other.identity ≡ list.identity → ¬ Took world other j

-- the exchanged word is the entry's `to`, its bit set or not, one version above `from`
pub record IsExchanged (entry : Entry) (word : ℕ) : Type 0 where
  pub to : cleared_word word ≡ entry.to
  pub raised : versioned_version entry.to ≡ versioned_version entry.from + 1

module _ {S W : Type 0} (form : NormalForm S W) where
  -- after a won exchange: the word stands there, the journal and maybe the changes have it
  abbrev pub exchanged : Maker → Option Listed → Entry → ℕ → World → World
  exchanged maker list entry word world =
      record {
        words = with_word entry.target word world.words;
        changes = with_change form.object list world.changes;
        used = world.used;
        journal = record { place = entry.target; before = entry.from; after = entry.to; maker = maker; cause = form.cause_of world maker entry } ∷ world.journal;
      }

  -- a list of an offer that a ready search made for its call, whose block, if any, is one of the arena
  pub record IsOffered (world : World) (list : Listed) (search : S) (since : ℕ) : Type 0 where
    pub command : IsCommandOf form.object list.call.op
    pub knows : form.knows search list.call.op world since
    pub ready : form.is_ready search
    pub small : list.block < 2 ^ 17
    pub entries : list.entries ≡ (form.offer_of search list.call.op list.block).entries

  -- what a request of a search or wrap-up beside its list does to the world, and what it sees
  pub data Requested : Request → World → World → Seen → Type 0 where
    loaded : {world : World} (place : ℕ) → Requested (Load place) world world (record { before = world.words place; won = true })
    lost : {world : World} (place from to : ℕ) → world.words place ≢ from → Requested (Exchange place from to) world world (record { before = world.words place; won = false })
    won : {world : World} (place from to : ℕ) → world.words place ≡ from → versioned_version to ≡ versioned_version from + 1
        → Requested (Exchange place from to) world (exchanged Beside (form.adds_beside world (record { target = place; from = from; to = to })) (record { target = place; from = from; to = to }) to world) (record { before = from; won = true })

  -- an allowed step of anyone
  pub data IsStep : World → World → Type 0 where
    -- a load, or a lost exchange
    nothing : {world : World} → IsStep world world
    -- a step on a word that is none of the client's: of the engine, or of a block that isn't used yet
    elsewhere : {world : World} (place word : ℕ) → is_word form.is_root world place ≡ false → IsStep world (put_word place word world)
    -- the clearing of a bit, where a list may have set it
    clears : {world : World} (place : ℕ) → is_word form.is_root world place ≡ true → form.is_versioned place ≡ true → form.is_listable place ≡ true → IsStep world (put_word place (cleared_word (world.words place)) world)
    -- a request of a search
    searches : {world after : World} {seen : Seen} (search : S) (op : Op) (since : ℕ) → IsCommandOf form.object op → form.asks search → form.knows search op world since
        → Requested (form.request_of search) world after seen → IsStep world after
    -- a request of a wrap-up
    wraps : {world after : World} {seen : Seen} (wrap : W) (list : Listed) (stop : ℕ) → IsCommandOf form.object list.call.op → form.wraps wrap → form.follows wrap list stop world
        → Requested (form.wrap_request_of wrap) world after seen → IsStep world after
    -- the first entry of a list without a block wins; its operation needs none
    first : {world : World} (list : Listed) (search : S) (since : ℕ) (entry : Entry) (word : ℕ) → IsOffered world list search since → IsFresh world list → list.block ≡ 0 → form.needs_block list.call.op ≡ false
        → slice_get list.entries 0 ≡ Some entry → world.words entry.target ≡ entry.from → IsExchanged entry word
        → IsStep world (exchanged (By list 0) (listed_if (form.adds list 0) list) entry word world)
    -- the first entry of a list with a block wins, and the block, which was filled for it, is used from then on
    first_of_block : {world : World} (list : Listed) (search : S) (since : ℕ) (entry : Entry) (word : ℕ) → IsOffered world list search since → IsFresh world list
        → 0 < list.block → world.used list.block ≡ false → IsFilled world list (form.offer_of search list.call.op list.block).stores
        → slice_get list.entries 0 ≡ Some entry → world.words entry.target ≡ entry.from → IsExchanged entry word
        → IsStep world (let after = exchanged (By list 0) (listed_if (form.adds list 0) list) entry word world in record { words = after.words; changes = after.changes; used = using_block list.block after.used; journal = after.journal })
    -- the second entry of a list wins, after its first
    second : {world : World} (list : Listed) (search : S) (since : ℕ) (entry : Entry) (word : ℕ) → IsOffered world list search since → Took world list 0 → ¬ Took world list 1
        → slice_get list.entries 1 ≡ Some entry → world.words entry.target ≡ entry.from → IsExchanged entry word
        → IsStep world (exchanged (By list 1) (listed_if (form.adds list 1) list) entry word world)
