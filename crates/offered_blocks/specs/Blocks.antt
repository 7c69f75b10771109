-- Blocks that records have named, in the world of a client, and what holds of them.
use Rattle.std.specs.Prelude.{◌≡◌, ℕ, ◌+◌, ◌<◌, ◌==◌, ◌&&◌, Bool, true, false, ◌⊎◌, List, Option, Some}
use Rattle.std.specs.List.{list_any}
use Rattle.word_fields.specs.declared.records.RecordPhase.TheVariants.{Executing}
use Rattle.word_fields.specs.Payloads.{payload_block}
use Rattle.word_fields.specs.Records.{record_phase, record_number, record_payload}
use Rattle.word_fields.specs.Versioned.{versioned_bit, versioned_version, marked_word}
use Rattle.node_arena.specs.MemoryMap.{record_place, MayBeClients}
use Rattle.normal_traits.specs.declared.lists.Entry.{Entry}
use Rattle.normal_traits.specs.World.{Listed, Maker, Won, World, Among, Took, is_word}
use Rattle.normal_traits.specs.World.Maker.{By, Beside}
use Rattle.normal_traits.specs.NormalForm.{NormalForm}
use Rattle.normal_traits.specs.Steps.{IsOffered}
use Rattle.cas_executor_laws.specs.ExecRuns.{IsEntry}
use Rattle.cas_executor_laws.specs.Parts.{Site, IsSite, Offered, KnowsStop}

-- a list that a record has named, with the search that offered it, and how many changes there were when that
-- search began
pub record Offer (S : Type 0) : Type 0 where
  pub list : Listed
  pub offering : S
  pub since : ℕ

abbrev pub site_of : {S : Type 0} → Offer S → Site
site_of offer = record { block = offer.list.block; entries = offer.list.entries }

-- the word of the record of a list's call
abbrev pub record_for : World → Listed → ℕ
record_for world list = world.words (record_place list.call.seat)

-- the record of the list's call names its block, whose list is executed
pub record IsExecuting (world : World) (list : Listed) : Type 0 where
  pub seated : list.call.seat < 8
  pub phase : record_phase (record_for world list) ≡ Executing
  pub number : record_number (record_for world list) ≡ list.call.number
  pub block : payload_block (record_payload (record_for world list)) ≡ list.block

-- whether entry j of a list took effect, by the journal
abbrev pub is_of : Listed → ℕ → Maker → Bool
is_of list j (By other k) = (other.identity == list.identity) && (k == j)
is_of list j Beside = false

abbrev pub has_taken : List Won → Listed → ℕ → Bool
has_taken journal list j = list_any (λ (won : Won). is_of list j won.maker) journal

-- of the won exchanges: the place is past the word before, and at one place no two have a word before of one
-- version
pub record JournalRises (world : World) : Type 0 where
  pub past : (won : Won) → Among won world.journal → versioned_version won.before < versioned_version (world.words won.place)
  pub raised : (won : Won) → Among won world.journal → versioned_version won.after ≡ versioned_version won.before + 1
  pub one : (a b : Won) → Among a world.journal → Among b world.journal → a.place ≡ b.place → versioned_version a.before ≡ versioned_version b.before → a ≡ b

module _ {S W : Type 0} (form : NormalForm S W) where
  -- what holds of an offered block for ever
  pub record IsOffer (world : World) (block : ℕ) (offer : Offer S) : Type 0 where
    pub block_is : offer.list.block ≡ block
    pub some : 0 < block
    pub offered : IsOffered form world offer.list offer.offering offer.since
    pub site : IsSite (site_of offer)
    pub targets : (j : ℕ) (entry : Entry) → IsEntry offer.list.entries j entry → (is_word form.is_root world entry.target ≡ true) × (form.is_versioned entry.target ≡ true) × (form.is_listable entry.target ≡ true)
    pub taken : (j : ℕ) → has_taken world.journal offer.list j ≡ true → Took world offer.list j
    pub parts : Offered (site_of offer) world.words (has_taken world.journal offer.list)
    -- the list has stopped unless its call's record names the block
    pub settled : IsExecuting world offer.list ⊎ ((stop : ℕ) × KnowsStop (site_of offer) world.words (has_taken world.journal offer.list) stop)

  -- a set bit is that of an entry of the one block whose list is executed
  pub record IsBit (world : World) (offers : ℕ → Option (Offer S)) (place : ℕ) : Type 0 where
    pub block : ℕ
    pub offer : Offer S
    pub j : ℕ
    pub entry : Entry
    pub stands : offers block ≡ Some offer
    pub listed : IsEntry offer.list.entries j entry
    pub here : entry.target ≡ place
    pub shows : world.words place ≡ marked_word entry.to
    pub executing : IsExecuting world offer.list
    pub took : has_taken world.journal offer.list j ≡ true

  -- the place is one where a list may set the bit, now or once its block is used
  pub record MayBeMarked (place : ℕ) : Type 0 where
    pub place_is : MayBeClients place
    pub versioned : form.is_versioned place ≡ true
    pub listable : form.is_listable place ≡ true

  pub record HasBlocks (world : World) (offers : ℕ → Option (Offer S)) : Type 0 where
    pub offered : (block : ℕ) (offer : Offer S) → offers block ≡ Some offer → IsOffer world block offer
    -- lists of different blocks have different identities
    pub apart : (block other : ℕ) (offer mate : Offer S) → offers block ≡ Some offer → offers other ≡ Some mate → offer.list.identity ≡ mate.list.identity → block ≡ other
    -- at most one seat's list is executed: that of the head of the queue word
    pub one : (list other : Listed) → IsExecuting world list → IsExecuting world other → list.call.seat ≡ other.call.seat
    pub bits : (place : ℕ) → MayBeMarked place → versioned_bit (world.words place) ≡ 1 → IsBit world offers place
    pub journal : JournalRises world
