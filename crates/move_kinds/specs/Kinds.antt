-- The kinds of moves: what one move of one seat does to the client's world and to the offers, with what the mover
-- knew of it. Each part of what holds in a run is kept by each kind, so no proof of that looks at phases.
use Rattle.std.specs.Prelude.{◌≡◌, ◌≢◌, ℕ, ◌<◌, ◌⊎◌, true, false, Option, Some}
use Rattle.lin_report.specs.declared.calls.Outcome.{Outcome}
use Rattle.word_fields.specs.declared.records.RecordPhase.TheVariants.{Generate, Executing, Wrapping}
use Rattle.word_fields.specs.Records.{record_of, record_phase, record_number, packed_record}
use Rattle.word_fields.specs.Versioned.{versioned_bit}
use Rattle.node_arena.specs.declared.places.TheConstants.{TICKS, QUEUE, CLAIMS}
use Rattle.node_arena.specs.MemoryMap.{block_place, op_place, value_place, record_place}
use Rattle.op_record.specs.Outcomes.{completed_word}
use Rattle.help_queue.specs.Gathers.{is_open}
use Rattle.normal_traits.specs.declared.lists.Entry.{Entry}
use Rattle.normal_traits.specs.World.{ChangedBy, Listed, World}
use Rattle.normal_traits.specs.World.Maker.{By, Beside}
use Rattle.normal_traits.specs.NormalForm.{NormalForm}
use Rattle.normal_traits.specs.Steps.{listed_if, put_word}
use Rattle.fast_slow_engine.specs.HelpWords.{again_word, executing_word, named_block, wrapping_word}
use Rattle.offered_blocks.specs.Blocks.{Offer, record_for}
use Rattle.offered_blocks.specs.HelperSteps.{Helps}
use Rattle.offered_blocks.specs.OtherSteps.{CanName, IsExchange, IsSpare, IsStored, with_offer}
use Rattle.move_kinds.specs.Offering.{IsOfferFor, ListStopsAt}

-- the words of ticks and of claims
abbrev pub IsCounter : ℕ → Type 0
IsCounter place = (place ≡ TICKS) ⊎ (place ≡ CLAIMS)

-- the words that a seat stores before it announces its call
abbrev pub IsOwnWord : ℕ → ℕ → Type 0
IsOwnWord seat place = (place ≡ value_place seat) ⊎ (place ≡ op_place seat)

-- a record word that was loaded stands, and is exchanged to another one
pub record IsWon (world after : World) (head word to : ℕ) : Type 0 where
  pub small : head < 8
  pub stood : world.words (record_place head) ≡ packed_record (record_of word)
  pub after_is : after ≡ put_word (record_place head) to world

-- no block becomes used but that in hand
abbrev pub UsesHand : World → World → Option ℕ → Type 0
UsesHand world after hand = (block : ℕ) → after.used block ≡ true → (world.used block ≡ true) ⊎ (hand ≡ Some block)

-- the record of the list's seat is of another call than the list's
abbrev pub IsUnannounced : World → Listed → Type 0
IsUnannounced world list = (list.call.seat < 8) × (record_number (record_for world list) ≢ list.call.number)

-- the record word is in Wrapping, and the list that it names has made the change of its call, with this outcome
pub record HasChanged {S : Type 0} (world : World) (offers : ℕ → Option (Offer S)) (head word : ℕ) (outcome : Outcome) : Type 0 where
  pub phase : record_phase word ≡ Wrapping
  pub offer : Offer S
  pub of : IsOfferFor offers (named_block word) head (record_number word) offer
  pub by : ChangedBy world offer.list outcome

module _ {S W : Type 0} (form : NormalForm S W) (world after : World) where
  -- a move of a seat with this block in hand
  pub data Kind (offers offers' : ℕ → Option (Offer S)) (mover : ℕ) (hand : Option ℕ) : Type 0 where
    -- a load, or a lost exchange
    quiet : after ≡ world → offers' ≡ offers → Kind offers offers' mover hand
    -- a tick is drawn, or a block claimed
    counts : (place word : ℕ) → IsCounter place → after ≡ put_word place word world → offers' ≡ offers → Kind offers offers' mover hand
    -- a store into the block in hand, for the own call or for a head's
    fills : (block field word : ℕ) → hand ≡ Some block → IsSpare world offers block → field < 32 → IsStored field
        → (form.is_versioned (block_place block field) ≡ true → versioned_bit word ≡ 0) → after ≡ put_word (block_place block field) word world → offers' ≡ offers → Kind offers offers' mover hand
    -- value word and op word of the own call
    announces : (place word : ℕ) → mover < 8 → IsOwnWord mover place → after ≡ put_word place word world → offers' ≡ offers → Kind offers offers' mover hand
    -- its record word, over one that was closed
    publishes : (word : ℕ) → mover < 8 → is_open (record_phase (world.words (record_place mover))) ≡ false → record_phase word ≡ Generate
        → after ≡ put_word (record_place mover) word world → offers' ≡ offers → Kind offers offers' mover hand
    -- seats enter the queue word, or its head leaves it
    queues : (word : ℕ) → after ≡ put_word QUEUE word world → offers' ≡ offers → Kind offers offers' mover hand
    -- a record names the block in hand, from Generate
    names : (head word block : ℕ) (offer : Offer S) → record_phase word ≡ Generate → hand ≡ Some block → offer.list.call.seat ≡ head → CanName form world offers block offer (executing_word word block)
        → IsWon world after head word (executing_word word block) → offers' ≡ with_offer block offer offers → Kind offers offers' mover hand
    -- the list that a record names has stopped
    settles : (head word stop : ℕ) (offer : Offer S) → record_phase word ≡ Executing → IsOfferFor offers (named_block word) head (record_number word) offer → ListStopsAt world offer stop
        → IsWon world after head word (wrapping_word word stop) → offers' ≡ offers → Kind offers offers' mover hand
    -- a call is completed
    completes : (head word : ℕ) (outcome : Outcome) → (record_phase word ≡ Generate) ⊎ HasChanged world offers head word outcome
        → IsWon world after head word (completed_word (record_of word) outcome) → offers' ≡ offers → Kind offers offers' mover hand
    -- its list is dead, and is to be made anew
    restarts : (head word : ℕ) (offer : Offer S) → record_phase word ≡ Wrapping → IsOfferFor offers (named_block word) head (record_number word) offer → form.dead offer.list world
        → IsWon world after head word (again_word word) → offers' ≡ offers → Kind offers offers' mover hand
    -- a decision, an entry or a clearing of a list that a record has named
    executes : (block : ℕ) (offer : Offer S) → offers block ≡ Some offer → Helps form world offer after → offers' ≡ offers → Kind offers offers' mover hand
    -- a search or a wrap-up wins an exchange
    beside : (entry : Entry) → IsExchange form world after offers Beside (form.adds_beside world entry) entry → UsesHand world after hand → offers' ≡ offers → Kind offers offers' mover hand
    -- an entry of a list that its own seat executes wins; the call of the list was not announced
    enters : (list : Listed) (j : ℕ) (entry : Entry) → IsUnannounced world list → IsExchange form world after offers (By list j) (listed_if (form.adds list j) list) entry → UsesHand world after hand → offers' ≡ offers
        → Kind offers offers' mover hand
