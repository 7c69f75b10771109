-- What a search of the queue and a wrap-up have learnt. None of it looks at the modified bit of
-- a word that stands there now, but where a word was seen with its bit clear.
use Rattle.std.specs.Prelude.{◌≡◌, ℕ, ◌+◌, ◌<◌, ◌≤◌, List, length, slice_get, Some}
use Rattle.lin_report.specs.declared.calls.Op.{Op}
use Rattle.lin_report.specs.declared.calls.Reply.TheVariants.{Done}
use Rattle.lin_report.specs.declared.calls.TheConstants.{PUT, TAKE, PEEK}
use Rattle.lin_report.specs.Object.{queue_object}
use Rattle.step_memory.specs.declared.steps.Seen.{Seen}
use Rattle.word_fields.specs.Versioned.{versioned_value, versioned_bit, versioned_version}
use Rattle.node_arena.specs.declared.places.TheConstants.{HEAD, TAIL}
use Rattle.normal_traits.specs.World.{Listed, Change, World, Among, held_after, first_changes, StandsOrPassed}
use Rattle.ms_queue_form.specs.declared.states.QueueSearch.{QueueSearch}
use Rattle.ms_queue_form.specs.declared.states.QueueSearch.TheVariants.{PutTail, PutNext, PutHelp, PutReady, TakeHead, TakeTail, TakeNext, TakeHelp, TakeReady, PeekHead, PeekNext}
use Rattle.ms_queue_form.specs.declared.states.QueueWrap.{QueueWrap}
use Rattle.ms_queue_form.specs.declared.states.QueueWrap.TheVariants.{Over, Tail, Swing}
use Rattle.ms_queue_form.specs.Search.{next_place}
use Rattle.ms_queue_form.specs.Chain.{puts, put_value, node_at, next_of}

-- a word that was loaded as the tail, or as the head, which is never past the tail
pub record WasTail (world : World) (tail : ℕ) : Type 0 where
  pub names : versioned_value tail ≡ node_at world.changes (versioned_version tail)
  pub passed : versioned_version tail ≤ versioned_version (world.words TAIL)
  pub within : versioned_version tail ≤ puts world.changes

-- a word that was loaded as the head, with its bit clear
pub record WasHead (world : World) (head : ℕ) : Type 0 where
  pub was_tail : WasTail world head
  pub seen : StandsOrPassed world HEAD head
  pub clear : versioned_bit head ≡ 0
  pub passed : versioned_version head ≤ versioned_version (world.words HEAD)

-- a word that was loaded as the next one of the node that another word names, which isn't the last
pub record WasNext (world : World) (word next : ℕ) : Type 0 where
  pub names : versioned_value next ≡ node_at world.changes (versioned_version word + 1)
  pub within : versioned_version word < puts world.changes

-- a value was the first of the queue after some of the changes, of which there were at least so many
pub record WasFirst (changes : List Change) (since value : ℕ) : Type 0 where
  pub count : ℕ
  pub not_before : since ≤ count
  pub made : count ≤ length changes
  pub first : slice_get (held_after queue_object (first_changes count changes)) 0 ≡ Some value

-- a word that was loaded as the head, its bit clear or not, by a search that began with so many changes: if there is
-- a node behind that node, its value was the first one since then. If there is none, the head is still this word's
pub record WasPeeked (world : World) (head since : ℕ) : Type 0 where
  pub was_tail : WasTail world head
  pub passed : versioned_version head ≤ versioned_version (world.words HEAD)
  pub first : versioned_version head < puts world.changes → WasFirst world.changes since (put_value world.changes (versioned_version head + 1))

-- what a search that began with so many changes has learnt from its words
abbrev pub Learnt : QueueSearch → World → ℕ → Type 0
Learnt PutTail world since = Unit {0}
Learnt (PutNext tail) world since = WasTail world tail
Learnt (PutHelp tail next) world since = WasTail world tail × WasNext world tail next
Learnt (PutReady tail next) world since =
    WasTail world tail × StandsOrPassed world (next_place tail) next × (versioned_value next ≡ 0) × (versioned_bit next ≡ 0)
Learnt TakeHead world since = Unit {0}
Learnt (TakeTail head) world since = WasHead world head
Learnt (TakeNext head tail) world since = WasHead world head × WasTail world tail × (versioned_version head ≤ versioned_version tail)
Learnt (TakeHelp tail next) world since = WasTail world tail × WasNext world tail next
Learnt (TakeReady head next) world since =
    WasHead world head × WasNext world head next × (versioned_version head < versioned_version (world.words TAIL))
Learnt PeekHead world since = Unit {0}
Learnt (PeekNext head) world since = WasPeeked world head since

-- the operation is the search's
abbrev pub Serves : QueueSearch → Op → Type 0
Serves PutTail op = op.code ≡ PUT
Serves (PutNext tail) op = op.code ≡ PUT
Serves (PutHelp tail next) op = op.code ≡ PUT
Serves (PutReady tail next) op = op.code ≡ PUT
Serves TakeHead op = op.code ≡ TAKE
Serves (TakeTail head) op = op.code ≡ TAKE
Serves (TakeNext head tail) op = op.code ≡ TAKE
Serves (TakeHelp tail next) op = op.code ≡ TAKE
Serves (TakeReady head next) op = op.code ≡ TAKE
Serves PeekHead op = op.code ≡ PEEK
Serves (PeekNext head) op = op.code ≡ PEEK

-- what a search for an operation has learnt since there were so many changes
pub record Knows (search : QueueSearch) (op : Op) (world : World) (since : ℕ) : Type 0 where
  pub serves : Serves search op
  pub began : since ≤ length world.changes
  pub learnt : Learnt search world since

-- the word that a search has just loaded and would list: the last next word, or the head
abbrev pub Keeps : QueueSearch → Seen → ℕ → Type 0
Keeps (PutNext tail) seen word = seen.before ≡ word
Keeps TakeHead seen word = seen.before ≡ word
Keeps _ seen word = ⊥

-- the place and the word by which a put has linked its node
pub record WasLinked (world : World) (target to : ℕ) : Type 0 where
  pub k : ℕ
  pub within : k < puts world.changes
  pub place : target ≡ next_of world.changes k
  pub names : versioned_value to ≡ node_at world.changes (k + 1)

-- what a wrap-up of a put has learnt from its words
abbrev pub LearntWrap : QueueWrap → World → Type 0
LearntWrap Over world = ⊥
LearntWrap (Tail target to) world = WasLinked world target to
LearntWrap (Swing tail to) world = WasTail world tail × WasNext world tail to

-- the wrap-up is of a put that is among the changes
pub record Follows (wrap : QueueWrap) (list : Listed) (stop : ℕ) (world : World) : Type 0 where
  pub change : Among (record { list = list; reply = Done }) world.changes
  pub learnt : LearntWrap wrap world
