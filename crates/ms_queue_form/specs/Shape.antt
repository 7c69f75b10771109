-- The shape of the queue: what head, tail and nodes are for the changes that were made, and what the
-- changes and the won exchanges have to do with each other.
use Rattle.std.specs.Prelude.{◌≡◌, ◌≢◌, ℕ, ◌+◌, ◌<◌, ◌≤◌, if◌then◌else◌, true, List, [], ◌∷◌, length, slice_index, AllPairs, ◌==◌, ◌/◌}
use Rattle.lin_report.specs.declared.calls.Reply.{Reply}
use Rattle.lin_report.specs.declared.calls.Reply.TheVariants.{Done, Value}
use Rattle.lin_report.specs.Object.{queue_object}
use Rattle.word_fields.specs.Versioned.{versioned_value, versioned_version}
use Rattle.node_arena.specs.declared.places.TheConstants.{HEAD, TAIL}
use Rattle.normal_traits.specs.declared.lists.Entry.{Entry}
use Rattle.normal_traits.specs.World.{Listed, Maker, Cause, Won, Change, World, Among, held_after, Observes}
use Rattle.normal_traits.specs.World.Maker.{By, Beside}
use Rattle.ms_queue_form.specs.Search.{is_put}
use Rattle.ms_queue_form.specs.Chain.{puts, takes, node_block, put_value, node_at, next_of, value_of}
use Rattle.client_lemmas.specs.Made.{AreMade}

-- the kinds of causes: a node was linked, the head was moved to it, the tail was moved to it
abbrev pub kind_of : Maker → ℕ
kind_of (By list j) = if is_put list.call.op then 0 else 1
kind_of Beside = 2

-- an exchange is made for the sake of the node that it brings in
abbrev pub cause_of : World → Maker → Entry → Cause
cause_of world maker entry = record { block = versioned_value entry.to / 4; kind = kind_of maker }

-- the chain: each node in a used block of its own, each but the last naming the next, with its value
pub record IsChain (world : World) : Type 0 where
  pub dummy : world.used 0 ≡ true
  pub used : (k : ℕ) → k ≤ puts world.changes → world.used (node_block world.changes k) ≡ true
  pub apart : (i k : ℕ) → i < k → k ≤ puts world.changes → node_block world.changes i ≢ node_block world.changes k
  pub linked : (k : ℕ) → k < puts world.changes → versioned_value (world.words (next_of world.changes k)) ≡ node_at world.changes (k + 1)
  pub last : versioned_value (world.words (next_of world.changes (puts world.changes))) ≡ 0
  pub valued : (k : ℕ) → k < puts world.changes → world.words (value_of world.changes (k + 1)) ≡ put_value world.changes (k + 1)

-- head and tail: each names the node of the chain to which it was moved as often as its version says; the
-- head once for each take, the tail at least as often
pub record HasEnds (world : World) : Type 0 where
  pub taken : versioned_version (world.words HEAD) ≡ takes world.changes
  pub head : versioned_value (world.words HEAD) ≡ node_at world.changes (takes world.changes)
  pub tail : versioned_value (world.words TAIL) ≡ node_at world.changes (versioned_version (world.words TAIL))
  pub behind : takes world.changes ≤ versioned_version (world.words TAIL)
  pub within : versioned_version (world.words TAIL) ≤ puts world.changes

-- what is held are the values behind the head
pub record HoldsBehind (changes : List Change) : Type 0 where
  pub count : length (held_after queue_object changes) + takes changes ≡ puts changes
  pub at : (i : ℕ) → i < length (held_after queue_object changes) → slice_index (held_after queue_object changes) i ≡ put_value changes (takes changes + i + 1)

-- each change really changed what is held
abbrev pub AreEffective : List Change → Type 0
AreEffective [] = Unit {0}
AreEffective (change ∷ older) = (¬ Observes queue_object change.list.call.op (held_after queue_object older)) × AreEffective older

-- how far the chain is linked, taken or passed by the tail
abbrev pub reached : World → ℕ → ℕ
reached world kind = if kind == 0 then puts world.changes else (if kind == 1 then takes world.changes else versioned_version (world.words TAIL))

-- the reply to the change that brought in the k-th node
abbrev pub reply_at : List Change → Listed → ℕ → Reply
reply_at changes list k = if is_put list.call.op then Done else Value (put_value changes k)

-- a list's exchange made its change; that of a put linked a node behind this one
pub record MadeChange (world : World) (won : Won) (list : Listed) (before : ℕ) : Type 0 where
  pub change : Among (record { list = list; reply = reply_at world.changes list (before + 1) }) world.changes
  pub place : is_put list.call.op ≡ true → won.place ≡ next_of world.changes before

abbrev pub MadeWell : World → Won → ℕ → Maker → Type 0
MadeWell world won before (By list j) = (j ≡ 0) × MadeChange world won list before
MadeWell world won before Beside = Unit {0}

-- a won exchange brought in the node behind this one, for that node's sake
pub record BroughtIn (world : World) (won : Won) : Type 0 where
  pub before : ℕ
  pub within : before < reached world (kind_of won.maker)
  pub node : versioned_value won.after ≡ node_at world.changes (before + 1)
  pub cause : won.cause ≡ record { block = node_block world.changes (before + 1); kind = kind_of won.maker }
  pub made : MadeWell world won before won.maker

-- each won exchange is known, and no two were made for one node in one kind
pub record IsJournal (world : World) : Type 0 where
  pub known : (won : Won) → Among won world.journal → BroughtIn world won
  pub causes_differ : AllPairs (λ (a b : Won). a.cause ≢ b.cause) world.journal

-- the words are those of a queue with these changes
pub record IsQueue (world : World) : Type 0 where
  pub chain : IsChain world
  pub ends : HasEnds world
  pub holds : HoldsBehind world.changes
  pub effective : AreEffective world.changes
  pub made : AreMade world
  pub journal : IsJournal world
