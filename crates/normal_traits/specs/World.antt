-- The world of a client: what there is of a run for a structure that knows nothing of the engine.
use Rattle.std.specs.Prelude.{◌≡◌, ℕ, ◌+◌, ◌-◌, ◌<◌, ◌≤◌, ◌==◌, ◌||◌, ◌&&◌, not, nat_le, Bool, true, false, ◌⊎◌, List, [], ◌∷◌, length, drop, slice_get, Some}
use Rattle.lin_report.specs.declared.calls.Op.{Op}
use Rattle.lin_report.specs.declared.calls.Reply.{Reply}
use Rattle.lin_report.specs.declared.calls.Reply.TheVariants.{Value}
use Rattle.lin_report.specs.declared.calls.Outcome.{Outcome}
use Rattle.lin_report.specs.declared.calls.Outcome.TheVariants.{Plain, ValueOf}
use Rattle.lin_report.specs.Object.{Object}
use Rattle.word_fields.specs.Versioned.{versioned_bit, versioned_version}
use Rattle.node_arena.specs.declared.places.TheConstants.{FIRST_WORDS, NODE_VALUE, STATE_FIELD}
use Rattle.node_arena.specs.MemoryMap.{block_at, field_at, node_place, is_root_place}
use Rattle.normal_traits.specs.declared.lists.Entry.{Entry}

-- a call: the NUMBER-th of its seat
pub record Called : Type 0 where
  pub seat : ℕ
  pub number : ℕ
  pub op : Op

-- A list that a generator named, with a number that no other list has which took effect, the call that it serves, and
-- the block that its offer filled, 0 where it uses none.
pub record Listed : Type 0 where
  pub identity : ℕ
  pub call : Called
  pub block : ℕ
  pub entries : List Entry

-- who made an exchange: an entry of a list, or a search or wrap-up beside its list
pub data Maker : Type 0 where
  By : Listed → ℕ → Maker
  Beside : Maker

-- why an exchange was made: a block, and one of eight kinds; no two exchanges of a run have the same cause
pub record Cause : Type 0 where
  pub block : ℕ
  pub kind : ℕ

-- a won exchange, with the words before and after it, the latter without its modified bit
pub record Won : Type 0 where
  pub place : ℕ
  pub before : ℕ
  pub after : ℕ
  pub maker : Maker
  pub cause : Cause

-- a change of the sequential object, made for a list's call
pub record Change : Type 0 where
  pub list : Listed
  pub reply : Reply

-- the words by their places, the changes and the won exchanges, the newest first, and which blocks are
-- used: block 0, and each whose list's first entry took effect
pub record World : Type 0 where
  pub words : ℕ → ℕ
  pub changes : List Change
  pub used : ℕ → Bool
  pub journal : List Won

-- x is in a list
abbrev pub Among : {X : Type 0} → X → List X → Type 0
Among x [] = ⊥
Among x (y ∷ ys) = (x ≡ y) ⊎ Among x ys

-- what the object holds after these changes
abbrev pub held_after : (object : Object) → List Change → object.Held
held_after object [] = object.empty
held_after object (change ∷ older) = (object.apply change.list.call.op (held_after object older)).0

-- the first changes, as many as this
abbrev pub first_changes : ℕ → List Change → List Change
first_changes count changes = drop (length changes - count) changes

-- the states of a block's two entries, which are no word of its node
abbrev pub is_state : ℕ → Bool
is_state field = field == STATE_FIELD || field == STATE_FIELD + 1

-- the words that a structure may speak of: its roots, as far as they are at places for roots, and the words of the used
-- blocks, but for the states of their entries; block 0 has no entry
abbrev pub is_word : (ℕ → Bool) → World → ℕ → Bool
is_word is_root world place =
    (is_root place && is_root_place place)
    || (nat_le FIRST_WORDS place && world.used (block_at place) && (block_at place == 0 || not (is_state (field_at place))))

-- the roots of a structure that has all of its words in blocks
abbrev pub no_root : ℕ → Bool
no_root place = false

-- a word with its bit clear was seen at a place: it still stands there, or the place is past it
abbrev pub StandsOrPassed : World → ℕ → ℕ → Type 0
StandsOrPassed world place word =
    versioned_bit word ≡ 0 → (world.words place ≡ word) ⊎ (versioned_version word < versioned_version (world.words place))

-- an entry's place is past the word from which it would be exchanged, so it never will be
abbrev pub IsPassed : World → Entry → Type 0
IsPassed world entry = versioned_version entry.from < versioned_version (world.words entry.target)

-- entry j of a list took effect
pub record Took (world : World) (list : Listed) (j : ℕ) : Type 0 where
  pub entry : Entry
  pub cause : Cause
  pub listed : slice_get list.entries j ≡ Some entry
  pub won : Among (record { place = entry.target; before = entry.from; after = entry.to; maker = By list j; cause = cause }) world.journal

-- entry j didn't take effect and never will
pub record Failed (world : World) (list : Listed) (j : ℕ) : Type 0 where
  pub entry : Entry
  pub listed : slice_get list.entries j ≡ Some entry
  pub passed : IsPassed world entry
  pub lost : ¬ Took world list j

-- a list stopped at its first entry that failed, or at its length
pub record Stopped (world : World) (list : Listed) (stop : ℕ) : Type 0 where
  pub within : stop < length list.entries + 1
  pub took : (j : ℕ) → j < stop → Took world list j
  pub failed : stop < length list.entries → Failed world list stop

-- an outcome stands for a reply: it is the reply, or names the node that has its value
abbrev pub StandsFor : World → Outcome → Reply → Type 0
StandsFor world (Plain reply') reply = reply' ≡ reply
StandsFor world (ValueOf reference) reply =
    (world.used (block_at (node_place reference NODE_VALUE)) ≡ true) × (Value (world.words (node_place reference NODE_VALUE)) ≡ reply)

-- the call's change was made by this list, and the outcome stands for its reply
pub record ChangedBy (world : World) (list : Listed) (outcome : Outcome) : Type 0 where
  pub reply : Reply
  pub change : Among (record { list = list; reply = reply }) world.changes
  pub told : StandsFor world outcome reply

-- an operation observes what an object holds: it leaves it as it is
abbrev pub Observes : (object : Object) → Op → object.Held → Type 0
Observes object op held = (object.apply op held).0 ≡ held

-- the outcome is that of an observation after some of the changes, of which there were at least so many
pub record RightSince (object : Object) (world : World) (op : Op) (since : ℕ) (outcome : Outcome) : Type 0 where
  pub count : ℕ
  pub not_before : since ≤ count
  pub made : count ≤ length world.changes
  pub observes : Observes object op (held_after object (first_changes count world.changes))
  pub told : StandsFor world outcome (object.apply op (held_after object (first_changes count world.changes))).1
