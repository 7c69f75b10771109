-- What searches and wrap-ups of the tree have learnt, and which lists are dead.
use Rattle.std.specs.Prelude.{◌≡◌, ◌≢◌, ℕ, ◌^◌, ◌<◌, ◌≤◌, ◌==◌, not, true, false, ◌⊎◌, [], ◌∷◌, length, Option, Some, None}
use Rattle.std.specs.FinMap as map
use Rattle.lin_report.specs.declared.calls.Op.{Op}
use Rattle.lin_report.specs.Object.{map_object}
use Rattle.step_memory.specs.declared.steps.Seen.{Seen}
use Rattle.word_fields.specs.Versioned.{versioned_value, versioned_bit}
use Rattle.normal_traits.specs.declared.lists.Entry.{Entry}
use Rattle.normal_traits.specs.World.{Listed, World, held_after, first_changes, StandsOrPassed, IsPassed}
use Rattle.tree_help.specs.declared.states.TheConstants.{CLEAN, MARKED}
use Rattle.tree_help.specs.Updates.{state_of, inner}
use Rattle.ellen_tree_form.specs.Words.{is_internal, child_at, update_at, key_at, leaf_key_at, leaf_value_at, is_set, is_rem}
use Rattle.tree_help.specs.declared.states.Help.{Help}
use Rattle.tree_help.specs.declared.states.HelpInsert.{HelpInsert}
use Rattle.tree_help.specs.declared.states.HelpDelete.{HelpDelete}
use Rattle.tree_help.specs.declared.states.HelpMark.{HelpMark}
use Rattle.tree_help.specs.declared.states.Flag.{Flag}
use Rattle.tree_help.specs.Helps.{help_of}
use Rattle.tree_help.specs.declared.states.Help.TheVariants as helps
use Rattle.tree_help.specs.declared.states.HelpInsert.TheVariants as insert
use Rattle.tree_help.specs.declared.states.HelpDelete.TheVariants as delete
use Rattle.tree_help.specs.declared.states.HelpMark.TheVariants as mark
use Rattle.ellen_tree_form.specs.declared.states.TreeSearch.{TreeSearch}
use Rattle.ellen_tree_form.specs.declared.states.Passed.{Passed}
use Rattle.ellen_tree_form.specs.Search.{leaf_of, flag_of}
use Rattle.ellen_tree_form.specs.declared.states.TreeSearch.TheVariants.{AtUpdate, AtKey, AtChild, AtLeaf, Again, AtValue, SetReady, RemReady, Helps}
use Rattle.ellen_tree_form.specs.Shape.{is_node, IsLeaf, child_of, is_left, way, OnWay, told_by, Flagged, noted, Changed, IsMarked, IsGivenUp, IsGone}

-- ---- where a key's way was

-- after some of the changes, of which there were at least so many, the leaf told what the map holds at the key
pub record WasTold (world : World) (since key leaf : ℕ) : Type 0 where
  pub is : IsLeaf world.changes leaf
  pub count : ℕ
  pub not_before : since ≤ count
  pub made : count ≤ length world.changes
  pub told : map.get (held_after map_object (first_changes count world.changes)) key ≡ told_by world.words key leaf

-- the key's way comes to a node, or came to it since so many changes: from a marked node, whose children never
-- change, it goes on as it did
pub data Reaches (world : World) (since key : ℕ) : ℕ → Type 0 where
  on : {reference : ℕ} (node : ℕ) → reference ≡ inner node → OnWay world.words key node → Reaches world since key reference
  off : {reference : ℕ} (node : ℕ) → reference ≡ inner node → is_node world.changes node ≡ true → state_of (world.words (update_at node)) ≡ MARKED
      → Reaches world since key (way world.words key node) → Reaches world since key reference
  told : {reference : ℕ} → is_internal reference ≡ false → WasTold world since key reference → Reaches world since key reference

-- ---- help

-- the flag that is helped is that of the list
pub record IsFlag (world : World) (list : Listed) (flag : Flag) : Type 0 where
  pub flagged : Flagged world list
  pub own : flag ≡ flag_of list.entries

-- of an insertion, or of a removal of this node; which is as the list's operation says
abbrev pub IsInsert : World → Listed → Flag → Type 0
IsInsert world list flag = IsFlag world list flag × (is_set list.call.op ≡ true)

abbrev pub IsRemoval : World → Listed → Flag → Type 0
IsRemoval world list flag = IsFlag world list flag × (is_rem list.call.op ≡ true)

-- the removed node is marked
pub record WasMarked (world : World) (list : Listed) (gone : ℕ) : Type 0 where
  pub update : noted world list 0 ≡ update_at gone
  pub marked : IsMarked world list gone

-- the child that stays was read behind the mark, so it is still there
pub record WillStay (world : World) (list : Listed) (gone stays : ℕ) : Type 0 where
  pub marked : WasMarked world list gone
  pub child : versioned_value stays ≡ child_of world.words gone (not (is_left world.words list.call.op.key gone))

-- the mark is set, or can't be set any more
abbrev pub IsTried : World → Listed → Type 0
IsTried world list = (gone : ℕ) × (noted world list 0 ≡ update_at gone) × (IsMarked world list gone ⊎ IsGivenUp world list gone)

-- of an insertion: at its end the change was made
abbrev pub FollowsInsert : HelpInsert → World → Listed → Type 0
FollowsInsert (insert.ReadPlace flag) world list = IsInsert world list flag
FollowsInsert (insert.ReadWord flag at) world list = IsInsert world list flag × (at ≡ noted world list 0)
FollowsInsert (insert.Link flag at from) world list = IsInsert world list flag × (at ≡ noted world list 0) × (from ≡ noted world list 1)
FollowsInsert (insert.Unflag flag) world list = IsFlag world list flag × Changed world list

-- of a removal: at its end the change was made or given up
abbrev pub FollowsDelete : HelpDelete → World → Listed → Type 0
FollowsDelete (delete.MarkPlace flag) world list = IsRemoval world list flag
FollowsDelete (delete.MarkWord flag at) world list = IsRemoval world list flag × (at ≡ noted world list 0)
FollowsDelete (delete.Mark flag at from) world list = IsRemoval world list flag × (at ≡ noted world list 0) × (from ≡ noted world list 1)
FollowsDelete (delete.Check flag at) world list = IsRemoval world list flag × (at ≡ noted world list 0) × IsTried world list
FollowsDelete (delete.StayPlace flag) world list = IsRemoval world list flag × ((gone : ℕ) × WasMarked world list gone)
FollowsDelete (delete.StayWord flag at) world list = IsRemoval world list flag × (at ≡ noted world list 4) × ((gone : ℕ) × WasMarked world list gone)
FollowsDelete (delete.SwingPlace flag stays) world list = IsRemoval world list flag × ((gone : ℕ) × WillStay world list gone stays)
FollowsDelete (delete.SwingWord flag stays at) world list = IsRemoval world list flag × (at ≡ noted world list 2) × ((gone : ℕ) × WillStay world list gone stays)
FollowsDelete (delete.Swing flag stays at from) world list = IsRemoval world list flag × (at ≡ noted world list 2) × (from ≡ noted world list 3) × ((gone : ℕ) × WillStay world list gone stays)
FollowsDelete (delete.Unflag flag true) world list = IsFlag world list flag × Changed world list
FollowsDelete (delete.Unflag flag false) world list = IsFlag world list flag × IsGone world list

-- of a mark that was met: the node is marked for this block's list
abbrev pub FollowsMark : HelpMark → World → Listed → Type 0
FollowsMark (mark.FindPlace block) world list = Flagged world list × (is_rem list.call.op ≡ true) × (list.block ≡ block) × ((gone : ℕ) × WasMarked world list gone)
FollowsMark (mark.FindFlag block at) world list = Flagged world list × (is_rem list.call.op ≡ true) × (list.block ≡ block) × ((flagged : Flagged world list) × (at ≡ update_at flagged.node)) × ((gone : ℕ) × WasMarked world list gone)
FollowsMark (mark.Deletes it) world list = FollowsDelete it world list

abbrev pub Follows : Help → World → Listed → Type 0
Follows (helps.Insert it) = FollowsInsert it
Follows (helps.Delete it) = FollowsDelete it
Follows (helps.Mark it) = FollowsMark it

-- ---- on the way

-- an update word that was seen with its bit clear is clean, or it is known whose flag or mark it is
abbrev pub IsKnown : World → ℕ → ℕ → Type 0
IsKnown world node update =
    versioned_bit update ≡ 0 → (state_of update ≡ CLEAN) ⊎ ((list : Listed) × Follows (help_of (record { place = update_at node; word = update })) world list)

-- a node was passed: while its update word is as it was seen, and clean, so is its child
pub record HasPassed (world : World) (since key : ℕ) (passed : Passed) : Type 0 where
  pub is : is_node world.changes passed.node ≡ true
  pub reaches : Reaches world since key (inner passed.node)
  pub side : passed.left ≡ is_left world.words key passed.node
  pub seen : StandsOrPassed world (update_at passed.node) passed.update
  pub known : IsKnown world passed.node passed.update
  pub same : versioned_bit passed.update ≡ 0 → state_of passed.update ≡ CLEAN → world.words (update_at passed.node) ≡ passed.update → world.words (child_at passed.node passed.left) ≡ passed.child
  pub fits : (passed.update < 2 ^ 64) × (passed.child < 2 ^ 64)

-- from the node above, or at the root
abbrev pub CameFrom : World → ℕ → ℕ → Option Passed → ℕ → Type 0
CameFrom world since key None node = node ≡ 0
CameFrom world since key (Some above) node = HasPassed world since key above × (versioned_value above.child ≡ inner node) × (node ≢ 0)

-- at an internal node
pub record IsAt (world : World) (since key : ℕ) (above : Option Passed) (node : ℕ) : Type 0 where
  pub is : is_node world.changes node ≡ true
  pub reaches : Reaches world since key (inner node)
  pub came : CameFrom world since key above node

-- at a leaf
pub record HasLeaf (world : World) (since key : ℕ) (last : Passed) : Type 0 where
  pub passed : HasPassed world since key last
  pub told : WasTold world since key (leaf_of last)

-- the node's update word was seen
pub record SawUpdate (world : World) (node update : ℕ) : Type 0 where
  pub seen : StandsOrPassed world (update_at node) update
  pub known : IsKnown world node update
  pub fits : update < 2 ^ 64

-- may be flagged
pub record IsClear (passed : Passed) : Type 0 where
  pub clean : state_of passed.update ≡ CLEAN
  pub clear : versioned_bit passed.update ≡ 0

-- ---- searches

abbrev pub Learnt : TreeSearch → Op → World → ℕ → Type 0
Learnt (AtUpdate o above node) op world since = (o ≡ op) × IsAt world since op.key above node
Learnt (AtKey o above node update) op world since = (o ≡ op) × IsAt world since op.key above node × SawUpdate world node update
Learnt (AtChild o above node update key) op world since = (o ≡ op) × IsAt world since op.key above node × SawUpdate world node update × (key ≡ world.words (key_at node))
Learnt (AtLeaf o above last) op world since = (o ≡ op) × CameFrom world since op.key above last.node × HasLeaf world since op.key last
Learnt (Again o last is) op world since = (o ≡ op) × HasLeaf world since op.key last × ((world.words (leaf_key_at (leaf_of last)) == op.key) ≡ is) × ((is_set op ≡ true → is ≡ true) × (is_rem op ≡ true → is ≡ false))
Learnt (AtValue last key) op world since =
    HasLeaf world since op.key last × (is_set op ≡ true) × IsClear last × (key ≡ world.words (leaf_key_at (leaf_of last))) × (key ≢ op.key)
Learnt (SetReady last key value) op world since =
    HasLeaf world since op.key last × (is_set op ≡ true) × IsClear last × (key ≡ world.words (leaf_key_at (leaf_of last))) × (key ≢ op.key) × (value ≡ world.words (leaf_value_at (leaf_of last)))
Learnt (RemReady above last) op world since =
    HasLeaf world since op.key last × (is_rem op ≡ true) × CameFrom world since op.key (Some above) last.node × IsClear above × IsClear last × (world.words (leaf_key_at (leaf_of last)) ≡ op.key)
Learnt (Helps help) op world since = (list : Listed) × Follows help world list

pub record Knows (search : TreeSearch) (op : Op) (world : World) (since : ℕ) : Type 0 where
  pub began : since ≤ length world.changes
  pub learnt : Learnt search op world since

-- ---- dead lists: the flag was not set and never will be, or the removal was given up

pub record Dead (list : Listed) (world : World) : Type 0 where
  pub entry : Entry
  pub entries : list.entries ≡ entry ∷ []
  pub fate : (IsPassed world entry × (¬ Flagged world list) × ((node : ℕ) × (entry.target ≡ update_at node) × (world.used node ≡ true))) ⊎ (Flagged world list × IsGone world list)

-- ---- why a search gave up

abbrev pub KeepsAbove : Option Passed → ℕ → Type 0
KeepsAbove None word = ⊥
KeepsAbove (Some above) word = above.update ≡ word

-- the update words that it would list
abbrev pub Keeps : TreeSearch → Seen → ℕ → Type 0
Keeps (AtLeaf op above last) seen word = (last.update ≡ word) ⊎ KeepsAbove above word
Keeps _ seen word = ⊥

-- it has helped another call's flag, or a leaf with the key is right below the root
abbrev pub IsForced : TreeSearch → Seen → Type 0
IsForced (Helps help) seen = Unit {0}
IsForced (AtLeaf op None last) seen = Unit {0}
IsForced _ seen = ⊥
