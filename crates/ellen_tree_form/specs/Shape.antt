-- The shape of the tree: what the words are for the changes that were made, and what is so of each list that
-- set a flag.
use Rattle.std.specs.Prelude.{◌≡◌, ◌≢◌, ℕ, zero, suc, ◌+◌, ◌*◌, ◌/◌, ◌^◌, ◌<◌, ◌≤◌, ◌==◌, nat_lt, ◌||◌, ◌&&◌, not, if◌then◌else◌, Bool, true, false, ◌⊎◌, List, [], ◌∷◌, Option, Some, None, AllPairs}
use Rattle.std.specs.FinMap as map
use Rattle.lin_report.specs.declared.calls.Op.{Op}
use Rattle.lin_report.specs.declared.calls.Reply.TheVariants.{Yes}
use Rattle.lin_report.specs.Commands.{KEY_LIMIT, VALUE_LIMIT}
use Rattle.lin_report.specs.Object.{map_object}
use Rattle.word_fields.specs.Versioned.{versioned_value, versioned_bit, versioned_version, cleared_word}
use Rattle.node_arena.specs.MemoryMap.{block_at, reference_to}
use Rattle.normal_traits.specs.declared.lists.Entry.{Entry}
use Rattle.normal_traits.specs.World.{Listed, Maker, Cause, Won, Change, World, Among, held_after, Observes}
use Rattle.normal_traits.specs.World.Maker.{By, Beside}
use Rattle.tree_help.specs.declared.states.TheConstants.{CLEAN, INSERTING, DELETING, MARKED}
use Rattle.tree_help.specs.Updates.{state_of, block_of, updated, inner, note_at}
use Rattle.ellen_tree_form.specs.Words.{is_internal, child_at, update_at, key_at, leaf_key_at, leaf_value_at, is_child, is_set, is_rem}
use Rattle.ellen_tree_form.specs.Search.{leaf_on, greater}

-- ---- nodes, by the changes

abbrev pub brings : Change → ℕ → Bool
brings change block = is_set change.list.call.op && change.list.block == block

abbrev pub made_node : List Change → ℕ → Bool
made_node [] block = false
made_node (change ∷ older) block = brings change block || made_node older block

-- block 0 has the root and the first two leaves
abbrev pub is_node : List Change → ℕ → Bool
is_node changes block = block == 0 || made_node changes block

-- a reference to a leaf
pub record IsLeaf (changes : List Change) (leaf : ℕ) : Type 0 where
  pub block : ℕ
  pub node : is_node changes block ≡ true
  pub names : (leaf ≡ reference_to block 1) ⊎ (leaf ≡ reference_to block 3)

abbrev pub IsNamed : List Change → ℕ → Type 0
IsNamed changes reference = ((block : ℕ) × (is_node changes block ≡ true) × (reference ≡ inner block)) ⊎ IsLeaf changes reference

-- what a child word names: never the root
abbrev pub IsBelow : List Change → ℕ → Type 0
IsBelow changes reference = ((block : ℕ) × (made_node changes block ≡ true) × (reference ≡ inner block)) ⊎ IsLeaf changes reference

-- ---- ways

abbrev pub child_of : (ℕ → ℕ) → ℕ → Bool → ℕ
child_of words node left = versioned_value (words (child_at node left))

-- where a key's way goes on from a node
abbrev pub is_left : (ℕ → ℕ) → ℕ → ℕ → Bool
is_left words key node = nat_lt key (words (key_at node))

abbrev pub way : (ℕ → ℕ) → ℕ → ℕ → ℕ
way words key node = child_of words node (is_left words key node)

-- a key's way from the root comes to the internal node of a block
pub data OnWay (words : ℕ → ℕ) (key : ℕ) : ℕ → Type 0 where
  root : {node : ℕ} → node ≡ 0 → OnWay words key node
  below : {node : ℕ} (above : ℕ) → OnWay words key above → way words key above ≡ inner node → OnWay words key node

-- the leaf says what the map holds at the key
abbrev pub told_by : (ℕ → ℕ) → ℕ → ℕ → Option ℕ
told_by words key leaf = if words (leaf_key_at leaf) == key then Some (words (leaf_value_at leaf)) else None

-- ---- the order of the nodes that the root leads to: each has a range of keys, the two children of a node
-- share its range at its key, and a leaf's key is in its range. Given by references; no tree is spoken of.

abbrev pub TOP : ℕ
TOP = KEY_LIMIT + 2

pub record Ordered (key : ℕ → ℕ) (child : ℕ → Bool → ℕ) (on : ℕ → Bool) (low high : ℕ → ℕ) : Type 0 where
  pub root : on 2 ≡ true
  pub root_low : low 2 ≡ 0
  pub root_high : high 2 ≡ TOP
  pub leads : (r : ℕ) (left : Bool) → on r ≡ true → is_internal r ≡ true → on (child r left) ≡ true
  pub left_low : (r : ℕ) → on r ≡ true → is_internal r ≡ true → low (child r true) ≡ low r
  pub left_high : (r : ℕ) → on r ≡ true → is_internal r ≡ true → high (child r true) ≡ key r
  pub right_low : (r : ℕ) → on r ≡ true → is_internal r ≡ true → low (child r false) ≡ key r
  pub right_high : (r : ℕ) → on r ≡ true → is_internal r ≡ true → high (child r false) ≡ high r
  pub within : (r : ℕ) → on r ≡ true → is_internal r ≡ true → (low r < key r) × (key r < high r)
  pub leaf : (r : ℕ) → on r ≡ true → is_internal r ≡ false → (low r ≤ key r) × (key r < high r)
  -- no two leaves share a number; no two internal nodes have one key; no internal node's key is strictly in
  -- a leaf's range; no node is a left child and a right one
  pub one_leaf : (a b k : ℕ) → on a ≡ true → on b ≡ true → is_internal a ≡ false → is_internal b ≡ false → low a ≤ k → k < high a → low b ≤ k → k < high b → a ≡ b
  pub one_key : (a b : ℕ) → on a ≡ true → on b ≡ true → is_internal a ≡ true → is_internal b ≡ true → key a ≡ key b → a ≡ b
  pub leaf_apart : (a b : ℕ) → on a ≡ true → on b ≡ true → is_internal a ≡ false → is_internal b ≡ true → low a < key b → key b < high a → ⊥
  pub sides_apart : (a b : ℕ) → on a ≡ true → on b ≡ true → is_internal a ≡ true → is_internal b ≡ true → child a true ≢ child b false

-- ---- causes

-- the flag of a list's block, the child exchange, the flag's end, the mark
abbrev pub cause_here : ℕ → ℕ → Cause
cause_here block kind = record { block = block; kind = kind }

-- the update word of the node of which the place is a child word
abbrev pub flag_over : (ℕ → ℕ) → ℕ → ℕ
flag_over words place = words (update_at (block_at place))

abbrev pub cause_of : World → Maker → Entry → Cause
cause_of world (By list j) entry = cause_here list.block 0
cause_of world Beside entry =
    if is_child entry.target then cause_here (block_of (flag_over world.words entry.target)) 1
    else (if state_of entry.to == MARKED then cause_here (block_of entry.to) 3 else cause_here (block_of entry.to) 2)

-- the list with this block that set a flag
abbrev pub flagger_or : ℕ → Maker → Option Listed → Option Listed
flagger_or block (By list zero) others = if list.block == block then Some list else others
flagger_or block (By list (suc j)) others = others
flagger_or block Beside others = others

abbrev pub flagger : ℕ → List Won → Option Listed
flagger block [] = None
flagger block (won ∷ older) = flagger_or block won.maker (flagger block older)

-- an exchange of a child makes the change of the list whose flag is over it
abbrev pub adds_beside : World → Entry → Option Listed
adds_beside world entry = if is_child entry.target then flagger (block_of (flag_over world.words entry.target)) world.journal else None

-- ---- lists that set a flag

abbrev pub flag_state : Op → ℕ
flag_state op = if is_set op then INSERTING else DELETING

-- the entry with which a list sets its flag at a node
abbrev pub flags_at : ℕ → ℕ → Listed → Entry
flags_at node from list = record { target = update_at node; from = from; to = updated from list.block (flag_state list.call.op) }

abbrev pub flag_won : ℕ → ℕ → Listed → Won
flag_won node from list = record { place = update_at node; before = from; after = updated from list.block (flag_state list.call.op); maker = By list 0; cause = cause_here list.block 0 }

-- the list has set its flag
pub record Flagged (world : World) (list : Listed) : Type 0 where
  pub node : ℕ
  pub from : ℕ
  pub entries : list.entries ≡ flags_at node from list ∷ []
  pub won : Among (flag_won node from list) world.journal

-- the flag stands at the node
abbrev pub IsUp : World → Listed → ℕ → ℕ → Type 0
IsUp world list node from = cleared_word (world.words (update_at node)) ≡ updated from list.block (flag_state list.call.op)

abbrev pub noted : World → Listed → ℕ → ℕ
noted world list note = world.words (note_at list.block note)

-- its change was made
abbrev pub Changed : World → Listed → Type 0
Changed world list = Among (record { list = list; reply = Yes }) world.changes

-- ---- insertions

-- the new nodes are as they were stored
pub record IsNew (world : World) (list : Listed) (key : ℕ) : Type 0 where
  pub left : world.words (child_at list.block true) ≡ leaf_on (nat_lt list.call.op.key key) list.block
  pub right : world.words (child_at list.block false) ≡ leaf_on (not (nat_lt list.call.op.key key)) list.block
  pub update : world.words (update_at list.block) ≡ 0

-- the child is as it was noted, and the key's way comes to it
pub record InsertWaits (world : World) (list : Listed) (node from : ℕ) (left : Bool) : Type 0 where
  pub up : IsUp world list node from
  pub child : world.words (child_at node left) ≡ noted world list 1
  pub reached : OnWay world.words list.call.op.key node
  pub new : IsNew world list (world.words (leaf_key_at (versioned_value (noted world list 1))))

pub record Inserts (world : World) (list : Listed) (node from : ℕ) : Type 0 where
  pub set : is_set list.call.op ≡ true
  pub left : Bool
  pub side : is_left world.words list.call.op.key node ≡ left
  pub place : noted world list 0 ≡ child_at node left
  pub leaf : IsLeaf world.changes (versioned_value (noted world list 1))
  pub other : world.words (leaf_key_at (versioned_value (noted world list 1))) ≢ list.call.op.key
  pub new_key : world.words (leaf_key_at (reference_to list.block 1)) ≡ list.call.op.key
  pub new_value : world.words (leaf_value_at (reference_to list.block 1)) ≡ list.call.op.value
  pub old_key : world.words (leaf_key_at (reference_to list.block 3)) ≡ world.words (leaf_key_at (versioned_value (noted world list 1)))
  pub old_value : world.words (leaf_value_at (reference_to list.block 3)) ≡ world.words (leaf_value_at (versioned_value (noted world list 1)))
  pub key : world.words (key_at list.block) ≡ greater list.call.op.key (world.words (leaf_key_at (versioned_value (noted world list 1))))
  pub fate : InsertWaits world list node from left ⊎ Changed world list

-- ---- removals

abbrev pub IsMarked : World → Listed → ℕ → Type 0
IsMarked world list gone = world.words (update_at gone) ≡ updated (noted world list 1) list.block MARKED

-- the grandparent's child is as it was noted, the key's way comes to it, and the node that is to go has the
-- leaf of the key
pub record RemoveStands (world : World) (list : Listed) (node from : ℕ) (left : Bool) (gone : ℕ) : Type 0 where
  pub up : IsUp world list node from
  pub child : world.words (child_at node left) ≡ noted world list 3
  pub reached : OnWay world.words list.call.op.key node
  pub leaf : IsLeaf world.changes (way world.words list.call.op.key gone)
  pub key : world.words (leaf_key_at (way world.words list.call.op.key gone)) ≡ list.call.op.key

-- the mark was not set and never will be
pub record IsGivenUp (world : World) (list : Listed) (gone : ℕ) : Type 0 where
  pub passed : versioned_version (noted world list 1) < versioned_version (world.words (update_at gone))
  pub unmarked : versioned_value (world.words (update_at gone)) ≢ 4 * list.block + MARKED

pub record Removes (world : World) (list : Listed) (node from : ℕ) : Type 0 where
  pub rem : is_rem list.call.op ≡ true
  pub left : Bool
  pub gone : ℕ
  pub side : is_left world.words list.call.op.key node ≡ left
  pub some : gone ≢ 0
  pub is : is_node world.changes gone ≡ true
  pub update : noted world list 0 ≡ update_at gone
  pub clean : state_of (noted world list 1) ≡ CLEAN
  pub clear : versioned_bit (noted world list 1) ≡ 0
  pub place : noted world list 2 ≡ child_at node left
  pub child : versioned_value (noted world list 3) ≡ inner gone
  pub stays : noted world list 4 ≡ child_at gone (not (is_left world.words list.call.op.key gone))
  pub fate : (RemoveStands world list node from left gone × (world.words (update_at gone) ≡ noted world list 1))
      ⊎ ((RemoveStands world list node from left gone × IsMarked world list gone)
      ⊎ (Changed world list ⊎ IsGivenUp world list gone))

-- ---- each list that set a flag

pub record IsFlagger (world : World) (list : Listed) (node from : ℕ) : Type 0 where
  pub some : 0 < list.block
  pub small : list.block < 2 ^ 17
  pub used : world.used list.block ≡ true
  pub limit : list.call.op.key < KEY_LIMIT
  pub value : list.call.op.value < VALUE_LIMIT
  pub is : is_node world.changes node ≡ true
  pub clean : state_of from ≡ CLEAN
  pub clear : versioned_bit from ≡ 0
  pub does : Inserts world list node from ⊎ Removes world list node from

-- the list made its change: the child is past the word that was noted, and a removed node is marked
pub record IsMade (world : World) (list : Listed) (first : ℕ) : Type 0 where
  pub node : ℕ
  pub left : Bool
  pub place : noted world list first ≡ child_at node left
  pub passed : versioned_version (noted world list (first + 1)) < versioned_version (world.words (child_at node left))

abbrev pub WasMade : World → Listed → Type 0
WasMade world list =
    ((is_set list.call.op ≡ true) × IsMade world list 0)
    ⊎ ((is_rem list.call.op ≡ true) × IsMade world list 2 × ((gone : ℕ) × (noted world list 0 ≡ update_at gone) × IsMarked world list gone))

-- a removal was given up
abbrev pub IsGone : World → Listed → Type 0
IsGone world list = (is_rem list.call.op ≡ true) × ((gone : ℕ) × (noted world list 0 ≡ update_at gone) × IsGivenUp world list gone)

-- ---- the state of a node

-- the flag of a list stands there
pub record HasFlag (world : World) (node : ℕ) : Type 0 where
  pub list : Listed
  pub flagged : Flagged world list
  pub here : flagged.node ≡ node
  pub up : IsUp world list node flagged.from

-- a list has marked it
pub record HasMark (world : World) (node : ℕ) : Type 0 where
  pub list : Listed
  pub flagged : Flagged world list
  pub rem : is_rem list.call.op ≡ true
  pub update : noted world list 0 ≡ update_at node
  pub marked : IsMarked world list node

-- ---- the journal

-- an item that a list made is the setting of its flag
abbrev pub IsBy : World → Won → Maker → Type 0
IsBy world won (By list zero) = (node : ℕ) × (from : ℕ) × (won ≡ flag_won node from list) × (list.entries ≡ flags_at node from list ∷ [])
IsBy world won (By list (suc j)) = ⊥
IsBy world won Beside = Unit {0}

-- what was done for a cause can't be done again
abbrev pub IsOver : World → Listed → ℕ → Type 0
IsOver world list zero = Unit {0}
IsOver world list (suc zero) = Changed world list
IsOver world list (suc (suc zero)) = (flagged : Flagged world list) × (versioned_version (updated flagged.from list.block (flag_state list.call.op)) < versioned_version (world.words (update_at flagged.node)))
IsOver world list (suc (suc (suc zero))) = (gone : ℕ) × (noted world list 0 ≡ update_at gone) × IsMarked world list gone
IsOver world list (suc (suc (suc (suc kind)))) = ⊥

pub record IsSpent (world : World) (cause : Cause) : Type 0 where
  pub list : Listed
  pub flagged : Flagged world list
  pub block : list.block ≡ cause.block
  pub over : IsOver world list cause.kind

-- ---- all of it

abbrev pub EachChanges : List Change → Type 0
EachChanges [] = Unit {0}
EachChanges (change ∷ older) = (¬ Observes map_object change.list.call.op (held_after map_object older)) × EachChanges older

abbrev pub keys : World → ℕ → ℕ
keys world reference = world.words (leaf_key_at reference)

abbrev pub children : World → ℕ → Bool → ℕ
children world reference left = child_of world.words (reference / 4) left

-- the words of a node
pub record IsStored (world : World) (block : ℕ) : Type 0 where
  pub used : world.used block ≡ true
  pub small : block < 2 ^ 17
  pub leads : (left : Bool) → IsBelow world.changes (child_of world.words block left)
  pub fits : (left : Bool) → world.words (child_at block left) < 2 ^ 64
  pub update_fits : world.words (update_at block) < 2 ^ 64
  pub values : (world.words (leaf_value_at (reference_to block 1)) < 2 ^ 32) × (world.words (leaf_value_at (reference_to block 3)) < 2 ^ 32)
  pub leaf_keys : (world.words (leaf_key_at (reference_to block 1)) < TOP) × (world.words (leaf_key_at (reference_to block 3)) < TOP)
  pub inner_key : world.words (key_at block) < TOP
  pub state : (state_of (world.words (update_at block)) ≡ CLEAN) ⊎ (HasFlag world block ⊎ HasMark world block)

pub record Shape (world : World) : Type 0 where
  pub opened : world.used 0 ≡ true
  pub stored : (block : ℕ) → is_node world.changes block ≡ true → IsStored world block
  -- the nodes that the root leads to are in order, and each other was marked
  pub on : ℕ → Bool
  pub low : ℕ → ℕ
  pub high : ℕ → ℕ
  pub ordered : Ordered (keys world) (children world) on low high
  pub named : (reference : ℕ) → on reference ≡ true → IsNamed world.changes reference
  pub living : (block : ℕ) → is_node world.changes block ≡ true → on (inner block) ≡ false → state_of (world.words (update_at block)) ≡ MARKED
  -- the map is what the leaves say, each of the keys in its range
  pub tells : (leaf key : ℕ) → on leaf ≡ true → is_internal leaf ≡ false → low leaf ≤ key → key < high leaf → key < KEY_LIMIT
      → map.get (held_after map_object world.changes) key ≡ told_by world.words key leaf
  -- flags
  pub items : (won : Won) → Among won world.journal → IsBy world won won.maker
  pub flaggers : (list : Listed) (flagged : Flagged world list) → IsFlagger world list flagged.node flagged.from
  pub same_identity : (a b : Listed) → Flagged world a → Flagged world b → a.identity ≡ b.identity → a ≡ b
  pub same_block : (a b : Listed) → Flagged world a → Flagged world b → a.block ≡ b.block → a ≡ b
  -- changes
  pub flagged : (change : Change) → Among change world.changes → Flagged world change.list
  pub made : (change : Change) → Among change world.changes → WasMade world change.list
  pub yes : (change : Change) → Among change world.changes → change.reply ≡ Yes
  pub effective : EachChanges world.changes
  pub one_list : AllPairs (λ (a b : Change). a.list.identity ≢ b.list.identity) world.changes
  pub one_block : AllPairs (λ (a b : Change). 0 < a.list.block → a.list.block ≢ b.list.block) world.changes
  -- causes
  pub spent : (won : Won) → Among won world.journal → IsSpent world won.cause
  pub causes_differ : AllPairs (λ (a b : Won). a.cause ≢ b.cause) world.journal
