-- What a search in a list has learnt. None of it looks at the modified bit of a
-- word that stands there now, but where a word was seen with its bit clear.
use Rattle.std.specs.Prelude.{◌≡◌, ◌≢◌, ℕ, ◌+◌, ◌/◌, ◌%◌, ◌<◌, ◌≤◌, Bool, true, false, ◌⊎◌, List, length}
use Rattle.lin_report.specs.declared.calls.Op.{Op}
use Rattle.lin_report.specs.declared.calls.TheConstants.{ADD, DEL, HAS, MIN}
use Rattle.step_memory.specs.declared.steps.Seen.{Seen}
use Rattle.word_fields.specs.Versioned.{versioned_value, versioned_bit}
use Rattle.node_arena.specs.MemoryMap.{reference_to}
use Rattle.normal_traits.specs.World.{Listed, Change, World, StandsOrPassed, first_changes}
use Rattle.harris_list_form.specs.declared.states.Aim.{Aim}
use Rattle.harris_list_form.specs.declared.states.Aim.TheVariants.{Add, Del, Has}
use Rattle.harris_list_form.specs.declared.states.Sought.{Sought}
use Rattle.harris_list_form.specs.declared.states.Left.{Left}
use Rattle.harris_list_form.specs.declared.states.ListSearch.{ListSearch}
use Rattle.harris_list_form.specs.declared.states.ListSearch.TheVariants.{Start, Next, Key, Unlink, AddReady, DelReady, LeastStart, LeastNext, LeastUnlink, LeastKey}
use Rattle.harris_list_form.specs.declared.states.ListWrap.{ListWrap}
use Rattle.harris_list_form.specs.Lists.{Lists}
use Rattle.harris_list_form.specs.Search.{led, leading, next_place}
use Rattle.harris_list_form.specs.Nodes.{holds, is_node, node_key, next_at, place_rank, rank_of, IsLink, IsNamed}
use Rattle.harris_list_form.specs.Path.{parity}

-- ---- at some moment of the search

-- after some of the changes, of which there were at least so many, the set held the key, or held it not
pub record WasHeld (changes : List Change) (since key : ℕ) (is : Bool) : Type 0 where
  pub count : ℕ
  pub not_before : since ≤ count
  pub made : count ≤ length changes
  pub held : holds (first_changes count changes) key ≡ is

-- likewise, it held no key of the list between two ranks
pub record WasGap (lists : Lists) (changes : List Change) (since start low high : ℕ) : Type 0 where
  pub count : ℕ
  pub not_before : since ≤ count
  pub made : count ≤ length changes
  pub none : (key : ℕ) → lists.start_of key ≡ start → low < key + 1 → key + 1 < high → holds (first_changes count changes) key ≡ false

-- likewise, it held the key of this node and no lower key of the list, or where the reference is null no key of it
pub record WasLeast (lists : Lists) (changes : List Change) (since start reference : ℕ) : Type 0 where
  pub count : ℕ
  pub not_before : since ≤ count
  pub made : count ≤ length changes
  pub held : reference ≢ 0 → holds (first_changes count changes) (node_key changes (reference / 4)) ≡ true
  pub none : (key : ℕ) → lists.start_of key ≡ start → (reference ≡ 0) ⊎ (key < node_key changes (reference / 4)) → holds (first_changes count changes) key ≡ false

-- ---- on the way

-- the left word is the beginning's or that of a node with a lower key, which was unmarked
pub record AtLeft (lists : Lists) (world : World) (key : ℕ) (left : Left) : Type 0 where
  pub link : IsLink lists world.changes (lists.start_of key) left.place
  pub below : place_rank world.changes left.place < key + 1
  pub even : versioned_value left.word % 2 ≡ 0
  pub seen : StandsOrPassed world left.place left.word

-- the node that was come to, or the end, is of the list, and behind the left one
pub record AtCur (lists : Lists) (world : World) (key : ℕ) (left : Left) (cur : ℕ) : Type 0 where
  pub named : IsNamed lists world.changes (lists.start_of key) cur
  pub behind : place_rank world.changes left.place < rank_of world.changes cur

-- from one reference marked nodes alone lead to another
pub data IsRun (world : World) (cur : ℕ) : ℕ → Type 0 where
  ends : {reference : ℕ} (block : ℕ) → reference ≡ reference_to block 1 → is_node world.changes block ≡ true → parity world.words (next_at block) ≡ 1 → led (world.words (next_at block)) ≡ cur → IsRun world cur reference
  goes : {reference : ℕ} (block : ℕ) → reference ≡ reference_to block 1 → is_node world.changes block ≡ true → parity world.words (next_at block) ≡ 1 → IsRun world cur (led (world.words (next_at block))) → IsRun world cur reference

-- what is between the left word and the node that was come to: marked nodes, or nothing
abbrev pub Between : Lists → World → ℕ → ℕ → Left → ℕ → Bool → Type 0
Between lists world key since left cur true = IsRun world cur (led left.word)
Between lists world key since left cur false =
    (led left.word ≡ cur) × WasGap lists world.changes since (lists.start_of key) (place_rank world.changes left.place) (rank_of world.changes cur)

-- a node's next word, when it was unmarked: then the set held its key and none between it and the next
pub record AtNext (lists : Lists) (world : World) (key since cur next : ℕ) : Type 0 where
  pub some : cur ≢ 0
  pub even : versioned_value next % 2 ≡ 0
  pub seen : StandsOrPassed world (next_place cur) next
  pub named : IsNamed lists world.changes (lists.start_of key) (led next)
  pub behind : rank_of world.changes cur < rank_of world.changes (led next)
  pub gap : WasGap lists world.changes since (lists.start_of key) (rank_of world.changes cur) (rank_of world.changes (led next))
  pub held : WasHeld world.changes since (node_key world.changes (cur / 4)) true

-- the node's key is the one that is looked for, or is above, as the end is
abbrev pub Compared : Lists → World → ℕ → ℕ → ℕ → ℕ → Bool → Type 0
Compared lists world key since cur next true = (rank_of world.changes cur ≡ key + 1) × AtNext lists world key since cur next
Compared lists world key since cur next false = key + 1 < rank_of world.changes cur

-- the beginning of the list was seen, and a node that was come to from there, or the end
pub record AtFirst (lists : Lists) (world : World) (key : ℕ) (left : Left) (cur : ℕ) : Type 0 where
  pub place : left.place ≡ lists.start_of key
  pub at : AtLeft lists world key left
  pub was : AtCur lists world key left cur

-- the first node: if it is unmarked now, its key was the least. Marks stay, so what is known only gets less.
-- Behind a run nothing is known of it yet: a lower key may have been added at the beginning since
abbrev pub FromFirst : Lists → World → ℕ → ℕ → Left → ℕ → Bool → Type 0
FromFirst lists world key since left cur true = IsRun world cur (led left.word)
FromFirst lists world key since left cur false =
    (led left.word ≡ cur) × (parity world.words (next_place cur) ≡ 0 → WasLeast lists world.changes since (lists.start_of key) cur)

-- what a search has learnt from its words. That of a least key has the key 0 for the one that is looked for
abbrev pub Learnt : Lists → World → ℕ → ℕ → ListSearch → Type 0
Learnt lists world key since (Start sought start) = start ≡ lists.start_of key
Learnt lists world key since (Next sought left run cur) =
    AtLeft lists world key left × AtCur lists world key left cur × (cur ≢ 0) × Between lists world key since left cur run
Learnt lists world key since (Key sought left run cur next) =
    AtLeft lists world key left × AtCur lists world key left cur × Between lists world key since left cur run × AtNext lists world key since cur next
Learnt lists world key since (Unlink sought left cur next found) =
    AtLeft lists world key left × AtCur lists world key left cur × (versioned_bit left.word ≡ 0) × IsRun world cur (led left.word)
    × Compared lists world key since cur next found
Learnt lists world key since (AddReady left cur) =
    AtLeft lists world key left × AtCur lists world key left cur × (versioned_bit left.word ≡ 0) × (led left.word ≡ cur) × (key + 1 < rank_of world.changes cur)
Learnt lists world key since (DelReady left cur next) =
    AtLeft lists world key left × AtCur lists world key left cur × (versioned_bit left.word ≡ 0) × (led left.word ≡ cur) × (rank_of world.changes cur ≡ key + 1)
    × AtNext lists world key since cur next × (versioned_bit next ≡ 0)
Learnt lists world key since (LeastStart start) = start ≡ lists.start_of key
Learnt lists world key since (LeastNext left run cur) = AtFirst lists world key left cur × (cur ≢ 0) × FromFirst lists world key since left cur run
Learnt lists world key since (LeastUnlink left cur) =
    AtFirst lists world key left cur × (versioned_bit left.word ≡ 0) × IsRun world cur (led left.word)
    × (world.words left.place ≡ left.word → WasLeast lists world.changes since (lists.start_of key) cur)
Learnt lists world key since (LeastKey cur) =
    IsNamed lists world.changes (lists.start_of key) cur × (cur ≢ 0) × WasLeast lists world.changes since (lists.start_of key) cur

-- the operation is the one that the search is for
abbrev pub code_of : Aim → ℕ
code_of Add = ADD
code_of Del = DEL
code_of Has = HAS

abbrev pub IsFor : Sought → Op → Type 0
IsFor sought op = (op.code ≡ code_of sought.aim) × (op.key ≡ sought.key)

abbrev pub Serves : ListSearch → Op → Type 0
Serves (Start sought start) op = IsFor sought op
Serves (Next sought left run cur) op = IsFor sought op
Serves (Key sought left run cur next) op = IsFor sought op
Serves (Unlink sought left cur next found) op = IsFor sought op
Serves (AddReady left cur) op = op.code ≡ ADD
Serves (DelReady left cur next) op = op.code ≡ DEL
Serves (LeastStart start) op = op.code ≡ MIN
Serves (LeastNext left run cur) op = op.code ≡ MIN
Serves (LeastUnlink left cur) op = op.code ≡ MIN
Serves (LeastKey cur) op = op.code ≡ MIN

-- what a search for an operation has learnt since there were so many changes
pub record Knows (lists : Lists) (search : ListSearch) (op : Op) (world : World) (since : ℕ) : Type 0 where
  pub serves : Serves search op
  pub began : since ≤ length world.changes
  pub learnt : Learnt lists world op.key since search

-- the words that a search has seen and would list or exchange
abbrev pub Keeps : ListSearch → Seen → ℕ → Type 0
Keeps (Start sought start) seen word = seen.before ≡ word
Keeps (Next sought left run cur) seen word = left.word ≡ word
Keeps (Key sought left run cur next) seen word = (left.word ≡ word) ⊎ (next ≡ word)
Keeps (Unlink sought left cur next found) seen word = (leading left.word cur ≡ word) ⊎ (next ≡ word)
Keeps (AddReady left cur) seen word = ⊥
Keeps (DelReady left cur next) seen word = ⊥
Keeps (LeastStart start) seen word = ⊥
Keeps (LeastNext left run cur) seen word = left.word ≡ word
Keeps (LeastUnlink left cur) seen word = ⊥
Keeps (LeastKey cur) seen word = ⊥

-- ---- wrap-ups

-- a wrap-up has no step, so there is nothing to learn
abbrev pub Follows : ListWrap → Listed → ℕ → World → Type 0
Follows wrap list stop world = ⊥
