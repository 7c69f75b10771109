-- The shape of sorted lists: what the words are for the changes that were made, and what the changes and
-- the won exchanges have to do with each other.
use Rattle.std.specs.Prelude.{◌≡◌, ◌≢◌, ℕ, zero, suc, ◌^◌, ◌/◌, ◌<◌, if◌then◌else◌, Bool, true, false, ◌⊎◌, List, [], ◌∷◌, AllPairs}
use Rattle.lin_report.specs.declared.calls.Reply.TheVariants.{Yes}
use Rattle.lin_report.specs.declared.calls.TheConstants.{ADD, DEL}
use Rattle.lin_report.specs.Commands.{KEY_LIMIT}
use Rattle.word_fields.specs.Versioned.{versioned_value}
use Rattle.node_arena.specs.MemoryMap.{block_at}
use Rattle.normal_traits.specs.declared.lists.Entry.{Entry}
use Rattle.normal_traits.specs.World.{Listed, Maker, Cause, Won, Change, World, Among}
use Rattle.normal_traits.specs.World.Maker.{By, Beside}
use Rattle.harris_list_form.specs.Lists.{Lists}
use Rattle.harris_list_form.specs.Search.{is_add, led}
use Rattle.harris_list_form.specs.Nodes.{holds, is_node, node_key, next_at, key_at}
use Rattle.harris_list_form.specs.Path.{IsPath, AreLive, parity}
use Rattle.client_lemmas.specs.Made.{AreMade}

-- ---- causes

-- a node was linked; a node was marked; a node, the first of those that were unlinked at once, left the path
abbrev pub LINKED : ℕ
LINKED = 0

abbrev pub MARKED : ℕ
MARKED = 1

abbrev pub UNLINKED : ℕ
UNLINKED = 2

abbrev pub unlinks : Entry → Cause
unlinks entry = record { block = led entry.from / 4; kind = UNLINKED }

abbrev pub first_cause : Listed → Entry → Cause
first_cause list entry =
    if is_add list.call.op then record { block = led entry.to / 4; kind = LINKED } else record { block = block_at entry.target; kind = MARKED }

-- an exchange is made for the sake of the node that it links, marks or unlinks
abbrev pub cause_of : World → Maker → Entry → Cause
cause_of world (By list zero) entry = first_cause list entry
cause_of world (By list (suc j)) entry = unlinks entry
cause_of world Beside entry = unlinks entry

-- ---- nodes and changes

-- the words of a node: its block is one of the arena and used, and its key is as it was added
pub record IsStored (world : World) (block : ℕ) : Type 0 where
  pub some : 0 < block
  pub small : block < 2 ^ 17
  pub used : world.used block ≡ true
  pub limit : node_key world.changes block < KEY_LIMIT
  pub keyed : world.words (key_at block) ≡ node_key world.changes block

-- each change added a key that the set did not hold, or deleted one that it held
abbrev pub AreEffective : List Change → Type 0
AreEffective [] = Unit {0}
AreEffective (change ∷ older) =
    (((change.list.call.op.code ≡ ADD) × (holds older change.list.call.op.key ≡ false)) ⊎ ((change.list.call.op.code ≡ DEL) × (holds older change.list.call.op.key ≡ true)))
    × AreEffective older

-- ---- the won exchanges

-- the node of the list's block was linked
pub record WasLinked (world : World) (won : Won) (list : Listed) : Type 0 where
  pub node : is_node world.changes list.block ≡ true
  pub cause : won.cause ≡ record { block = list.block; kind = LINKED }

-- a node was marked; its next value is as it was left
pub record WasMarked (world : World) (won : Won) : Type 0 where
  pub block : ℕ
  pub node : is_node world.changes block ≡ true
  pub marked : parity world.words (next_at block) ≡ 1
  pub place : won.place ≡ next_at block
  pub stays : versioned_value (world.words (next_at block)) ≡ versioned_value won.after
  pub cause : won.cause ≡ record { block = block; kind = MARKED }

-- a node left the path
pub record WasUnlinked (world : World) (path : ℕ → Bool) (won : Won) : Type 0 where
  pub block : ℕ
  pub node : is_node world.changes block ≡ true
  pub off : path block ≡ false
  pub cause : won.cause ≡ record { block = block; kind = UNLINKED }

-- the list's first entry made the change of its call
pub record MadeChange (world : World) (won : Won) (list : Listed) : Type 0 where
  pub change : Among (record { list = list; reply = Yes }) world.changes
  pub brought : ((list.call.op.code ≡ ADD) × WasLinked world won list) ⊎ ((list.call.op.code ≡ DEL) × WasMarked world won)

abbrev pub KnownBy : World → (ℕ → Bool) → Won → Maker → Type 0
KnownBy world path won (By list zero) = MadeChange world won list
KnownBy world path won (By list (suc j)) = WasUnlinked world path won
KnownBy world path won Beside = WasUnlinked world path won

-- each won exchange is known, and no two were made for one node in one kind
pub record IsJournal (world : World) (path : ℕ → Bool) : Type 0 where
  pub known : (won : Won) → Among won world.journal → KnownBy world path won won.maker
  pub causes_differ : AllPairs (λ (a b : Won). a.cause ≢ b.cause) world.journal

-- ---- all of it

-- the words are those of sorted lists with these changes and this path
pub record HasPath (lists : Lists) (world : World) (path : ℕ → Bool) : Type 0 where
  pub leading : IsPath lists world.changes (λ place. led (world.words place)) path
  pub living : AreLive lists world.changes world.words path
  pub journal : IsJournal world path

pub record AreSorted (lists : Lists) (world : World) : Type 0 where
  pub first : world.used 0 ≡ true
  pub stored : (block : ℕ) → is_node world.changes block ≡ true → IsStored world block
  pub effective : AreEffective world.changes
  pub made : AreMade world
  pub path : ℕ → Bool
  pub has_path : HasPath lists world path
