-- What a step of a machine does to the client's world and to the blocks that records have named, by its phase; and what it
-- rests on. No run is in it: the laws of one step speak of these, and a run supplies them.
use Rattle.std.specs.Prelude.{◌≡◌, ◌≢◌, ℕ, ◌+◌, ◌^◌, ◌<◌, ◌≤◌, ◌⊎◌, Bool, true, false, not, length, slice_get, Option, Some, None}
use Rattle.step_memory.specs.declared.steps.Seen.{Seen}
use Rattle.word_fields.specs.declared.records.RecordPhase.TheVariants as marks
use Rattle.word_fields.specs.Announced.{op_word, value_word}
use Rattle.word_fields.specs.Records.{packed_record, record_number, record_of, record_phase, record_word}
use Rattle.word_fields.specs.Versioned.{versioned_version}
use Rattle.node_arena.specs.declared.places.TheConstants.{TICKS, QUEUE, CLAIMS}
use Rattle.node_arena.specs.MemoryMap.{op_place, record_place, value_place}
use Rattle.help_queue.specs.Gathers.{is_open}
use Rattle.normal_traits.specs.declared.lists.Entry.{Entry}
use Rattle.normal_traits.specs.World.{Called, World, is_word}
use Rattle.normal_traits.specs.NormalForm.{NormalForm}
use Rattle.normal_traits.specs.Steps.{Requested, put_word}
use Rattle.cas_executor.specs.FastRuns.{FastWalk}
use Rattle.fast_slow_engine.specs.declared.phases.Phase.{Phase}
use Rattle.fast_slow_engine.specs.declared.phases.Phase.TheVariants as phase
use Rattle.fast_slow_engine.specs.declared.phases.Announcing.{Announcing}
use Rattle.fast_slow_engine.specs.declared.phases.Announcing.TheVariants as announcing
use Rattle.fast_slow_engine.specs.declared.phases.Generating.TheVariants.{Search, LookForBlock, Claim}
use Rattle.fast_slow_engine.specs.declared.phases.Applying.TheVariants.{Fill, Execute}
use Rattle.fast_slow_engine.specs.declared.help.Helping.{Helping}
use Rattle.fast_slow_engine.specs.declared.help.Helping.TheVariants.{Record, Known, Remove}
use Rattle.fast_slow_engine.specs.declared.help.Work.{Work}
use Rattle.fast_slow_engine.specs.declared.help.Work.TheVariants as work
use Rattle.fast_slow_engine.specs.Mechs.{Mech}
use Rattle.fast_slow_engine.specs.PhaseTable.{mech_fed}
use Rattle.offered_blocks.specs.Blocks.{Offer}
use Rattle.offered_blocks.specs.Holds.{HasOffers}
use Rattle.offered_blocks.specs.OtherSteps.{IsSpare}
use Rattle.move_kinds.specs.Kinds.{Kind}
use Rattle.move_kinds.specs.Moves.{Leaves}
use Rattle.helper_knowledge.specs.Callers.{Caller, caller_of}
use Rattle.helper_knowledge.specs.Carried.{Carried}
use Rattle.helper_knowledge.specs.HelperStep.{RestsOn, Steps, UsedSmall}
use Rattle.helper_knowledge.specs.Meetings.{IsNew, Meets, won_offers, won_world}
use Rattle.helper_knowledge.specs.WorkKnown.{NamedBy}
use Rattle.run_world.specs.Ghosts.{Held, SeatGhost}
use Rattle.run_world.specs.InHand.{BlockIn, IsUnspent}
use Rattle.run_world.specs.Lists.{HoldsIn}
use Rattle.run_world.specs.SeatSteps.{seat_stepped}
use Rattle.run_world.specs.Worlds.{won_entry}
use Rattle.step_knowledge.specs.Known.{KnowsIn, MakesCommand, NoneFrom}

-- the call of the machine isn't announced yet: it is on its fast path, or about to announce
abbrev pub is_unannounced : {S W : Type 0} → Phase S W → Bool
is_unannounced phase.Begin = true
is_unannounced phase.Look = true
is_unannounced (phase.Generate s at) = true
is_unannounced (phase.Apply run stores at) = true
is_unannounced (phase.Wrap wrap) = true
is_unannounced (phase.Announce at) = true
is_unannounced (phase.Help drives help) = not drives
is_unannounced _ = false

-- the version of each versioned word of the client has room for one more
abbrev pub HasRoom : {S W : Type 0} → NormalForm S W → World → Type 0
HasRoom form world = (place : ℕ) → is_word form.is_root world place ≡ true → form.is_versioned place ≡ true → versioned_version (world.words place) + 1 < 2 ^ 39

module _ {S W : Type 0} (form : NormalForm S W) (world after : World) (offers offers' : ℕ → Option (Offer S)) where
  -- ---- what a step does

  -- a word is put there
  abbrev pub Puts : ℕ → Type 0
  Puts place = (word : ℕ) × (after ≡ put_word place word world)

  -- an entry of the held list wins, or nothing is done
  pub data Enters (run : FastWalk) (held : Option (Held S)) (seen : Seen) : Type 0 where
    misses : seen.won ≡ false → ((entry : Entry) → slice_get run.entries run.next ≡ Some entry → world.words entry.target ≢ entry.from) → after ≡ world → Enters run held seen
    wins : (list : Held S) (entry : Entry) → held ≡ Some list → seen.won ≡ true → slice_get run.entries run.next ≡ Some entry → world.words entry.target ≡ entry.from
        → after ≡ won_entry form list.list run.next (Some entry) world → Enters run held seen

  -- the words of an announcement
  abbrev pub Announces : Announcing → Mech S W → Type 0
  Announces announcing.Value mech = after ≡ put_word (value_place mech.seat) (value_word mech.number mech.op.value) world
  Announces announcing.Op mech = after ≡ put_word (op_place mech.seat) (op_word mech.op.code mech.number mech.op.key) world
  Announces announcing.Record mech = after ≡ put_word (record_place mech.seat) (record_word marks.Generate mech.number 0 0) world

  -- the exchange of a head's record is lost, or won: then it stood as it was loaded, and the block of the list that is
  -- carried is named, if it names one
  pub data Advances (head word to : ℕ) (filled : Option (Offer S)) (seen : Seen) : Type 0 where
    lost : seen.won ≡ false → after ≡ world → offers' ≡ offers → Advances head word to filled seen
    won : seen.won ≡ true → world.words (record_place head) ≡ packed_record (record_of word) → after ≡ won_world world head to → offers' ≡ won_offers to filled offers → Advances head word to filled seen

  -- a step of a helper's work: an exchange of the record, or one that leaves the named blocks
  abbrev pub WorkSteps : Work S W → ℕ → ℕ → Mech S W → Carried S → Carried S → ℕ → Seen → Type 0
  WorkSteps (work.Advance to) head word mech own own' identity seen = Advances head word to own.filled seen
  WorkSteps does head word mech own own' identity seen = (offers' ≡ offers) × Steps form world after offers head word mech.hand own own' identity mech.setup.cap seen does

  -- a step of a helper: it loads the record, works, or removes a completed call from the queue word
  abbrev pub HelpSteps : Helping S W → ℕ → Mech S W → Carried S → Carried S → ℕ → Seen → Type 0
  HelpSteps (Record known) head mech own own' identity seen = (after ≡ world) × (offers' ≡ offers) × (seen.before ≡ world.words (record_place head))
  HelpSteps (Known word does) head mech own own' identity seen = WorkSteps does head word mech own own' identity seen
  HelpSteps (Remove removal) head mech own own' identity seen = ((after ≡ world) ⊎ Puts QUEUE) × (offers' ≡ offers)

  -- a step of a machine's own call; of a helper nothing is said here
  abbrev pub OwnSteps : Phase S W → Mech S W → Option (Held S) → Seen → Type 0
  OwnSteps phase.Begin mech held seen = Puts TICKS
  OwnSteps (phase.Generate s Search) mech held seen = Requested form (form.request_of s) world after seen
  OwnSteps (phase.Generate s LookForBlock) mech held seen = after ≡ world
  OwnSteps (phase.Generate s Claim) mech held seen = Puts CLAIMS
  OwnSteps (phase.Apply run stores (Fill made)) mech held seen = (store : ℕ × ℕ) → slice_get stores.items made ≡ Some store → after ≡ put_word store.0 store.1 world
  OwnSteps (phase.Apply run stores Execute) mech held seen = Enters run held seen
  OwnSteps (phase.Wrap wrap) mech held seen = Requested form (form.wrap_request_of wrap) world after seen
  OwnSteps (phase.Announce at) mech held seen = Announces at mech
  OwnSteps (phase.Enter owner) mech held seen = (after ≡ world) ⊎ Puts QUEUE
  OwnSteps (phase.End reply) mech held seen = Puts TICKS
  OwnSteps (phase.Help drives help) mech held seen = Unit {0}
  OwnSteps _ mech held seen = after ≡ world

  -- a step in a phase, where this is known of the seat before and after it; a list that it names has this identity
  abbrev pub StepsIn : Phase S W → Mech S W → SeatGhost S → SeatGhost S → ℕ → Seen → Type 0
  StepsIn (phase.Help drives help) mech own own' identity seen = HelpSteps help.at help.head mech own.carried own'.carried identity seen
  StepsIn at mech own own' identity seen = (offers' ≡ offers) × OwnSteps at mech own.held seen

module _ {S W : Type 0} (form : NormalForm S W) (world : World) (offers : ℕ → Option (Offer S)) (callers : ℕ → Caller) where
  -- ---- what it rests on

  -- where a head's record stands as it was loaded, all that has to meet there; and the block that may be named is new
  pub record MeetsHead (head word : ℕ) (hand : Option ℕ) (filled : Option (Offer S)) : Type 0 where
    pub call : Called
    pub begun : ℕ
    pub is : callers head ≡ caller_of call begun
    pub meets : Meets form world offers head word call begun
    pub fresh : (block : ℕ) (offer : Offer S) → hand ≡ Some block → filled ≡ Some offer → IsNew form world offers block offer

  abbrev pub MeetsWork : Work S W → ℕ → ℕ → Option ℕ → Option (Offer S) → Type 0
  MeetsWork (work.Advance to) head word hand filled = world.words (record_place head) ≡ packed_record (record_of word) → MeetsHead head word hand filled
  MeetsWork _ head word hand filled = Unit {0}

  -- of a helper, what holds of the call of its head; where it loads the record, what that names if it is open
  abbrev pub RestsHelp : Helping S W → ℕ → Option ℕ → Option (Offer S) → Type 0
  RestsHelp (Record known) head hand filled =
      is_open (record_phase (world.words (record_place head))) ≡ true → NamedBy form world offers (record_phase (world.words (record_place head))) head (world.words (record_place head)) × (1 ≤ (callers head).number)
  RestsHelp (Known word does) head hand filled = RestsOn form world offers head (callers head) × MeetsWork does head word hand filled
  RestsHelp _ head hand filled = Unit {0}

  abbrev pub RestsIn : Phase S W → Option ℕ → Option (Offer S) → Type 0
  RestsIn (phase.Help drives help) hand filled = RestsHelp help.at help.head hand filled
  RestsIn _ hand filled = Unit {0}

  -- of a machine in this phase
  pub record RestsMove (at : Phase S W) (mech : Mech S W) (own : SeatGhost S) : Type 0 where
    pub holds : HasOffers form world offers
    pub room : HasRoom form world
    pub few : mech.seat < 8
    pub number : mech.number < 2 ^ 16
    pub command : MakesCommand form at mech
    pub knows : KnowsIn form at mech own world offers callers
    -- its list and its block, whose identity is that of no named list
    pub lists : HoldsIn form at mech own.held
    pub block : BlockIn form at mech own.held
    pub spare : (block : ℕ) → mech.hand ≡ Some block → IsUnspent form mech.op at → IsSpare world offers block
    pub apart : (block : ℕ) (offer : Offer S) (held : Held S) → offers block ≡ Some offer → own.held ≡ Some held → held.list.identity ≢ offer.list.identity
    -- its record is closed and of an earlier call, until it announces
    pub earlier : is_unannounced at ≡ true → record_number (world.words (record_place mech.seat)) < mech.number
    pub closed : is_unannounced at ≡ true → is_open (record_phase (world.words (record_place mech.seat))) ≡ false
    pub helps : RestsIn at mech.hand own.carried.filled

-- what a step leaves: it is an allowed step by which what is known grows, and holds of all blocks; the used blocks and that
-- in hand are of an arena; and a list that it names is new
pub record MoveLeaves {S W : Type 0} (form : NormalForm S W) (world after : World) (offers offers' : ℕ → Option (Offer S)) (mech : Mech S W) (identity : ℕ) : Type 0 where
  pub leaves : Leaves form world after offers offers' None
  pub holds : HasOffers form after offers'
  pub used : UsedSmall after
  pub fresh : NoneFrom after identity 0
  pub cap : mech.setup.cap < 2 ^ 17
  pub small : (block : ℕ) → mech.hand ≡ Some block → block < 2 ^ 17

module _ {S W : Type 0} (form : NormalForm S W) where
  -- each step of each machine, in whatever phase it is, is one of the kinds of moves
  abbrev pub StepsAreKinds : Type 0
  StepsAreKinds =
      (world after : World) (offers offers' : ℕ → Option (Offer S)) (callers : ℕ → Caller) (at : Phase S W) (mech : Mech S W) (own own' : SeatGhost S) (identity : ℕ) (seen : Seen)
      → RestsMove form world offers callers at mech own → StepsIn form world after offers offers' at mech own own' identity seen → Kind form world after offers offers' mech.seat mech.hand

  -- and the machine knows after it what it must in its next phase
  abbrev pub StepsKnow : Type 0
  StepsKnow =
      (world after : World) (offers offers' : ℕ → Option (Offer S)) (callers : ℕ → Caller) (mech : Mech S W) (own : SeatGhost S) (identity : ℕ) (seen : Seen)
      → RestsMove form world offers callers mech.phase mech own → StepsIn form world after offers offers' mech.phase mech own (seat_stepped form identity (length after.changes) mech seen own) identity seen
      → MoveLeaves form world after offers offers' mech identity
      → KnowsIn form (mech_fed form mech seen).phase (mech_fed form mech seen) (seat_stepped form identity (length after.changes) mech seen own) after offers' callers
