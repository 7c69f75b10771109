-- The search in the tree: what its steps ask for, what they find, and the list that it names; and the wrap-up.
use Rattle.std.specs.Prelude.{ℕ, ◌/◌, ◌^◌, ◌<◌, ◌==◌, nat_lt, ◌||◌, ◌&&◌, not, if◌then◌else◌, Bool, true, false, List, [], ◌∷◌, Option, Some, None}
use Rattle.lin_report.specs.declared.calls.Op.{Op}
use Rattle.lin_report.specs.declared.calls.Reply.TheVariants.{Yes, No, Done, Absent}
use Rattle.lin_report.specs.declared.calls.Outcome.{Outcome}
use Rattle.lin_report.specs.declared.calls.Outcome.TheVariants.{Plain, ValueOf}
use Rattle.lin_report.specs.declared.calls.TheConstants.{GET}
use Rattle.step_memory.specs.declared.steps.Request.{Request}
use Rattle.step_memory.specs.declared.steps.Request.TheVariants.{Load}
use Rattle.step_memory.specs.declared.steps.Seen.{Seen}
use Rattle.word_fields.specs.Versioned.{versioned_value, is_modified}
use Rattle.node_arena.specs.MemoryMap.{reference_to}
use Rattle.normal_traits.specs.declared.form.Found.{Found}
use Rattle.normal_traits.specs.declared.form.Found.TheVariants as found
use Rattle.normal_traits.specs.declared.form.Wrapped.{Wrapped}
use Rattle.normal_traits.specs.declared.form.Wrapped.TheVariants as wrapped
use Rattle.normal_traits.specs.declared.lists.Entry.{Entry}
use Rattle.normal_traits.specs.NormalForm.{Offered}
use Rattle.tree_help.specs.declared.states.TheConstants.{INSERTING, DELETING, MARKED}
use Rattle.tree_help.specs.Updates.{state_of, is_clean, updated, note_at}
use Rattle.ellen_tree_form.specs.declared.states.TreeSearch.{TreeSearch}
use Rattle.ellen_tree_form.specs.declared.states.TreeSearch.TheVariants.{AtUpdate, AtKey, AtChild, AtLeaf, Again, AtValue, SetReady, RemReady, Helps}
use Rattle.ellen_tree_form.specs.declared.states.Passed.{Passed}
use Rattle.ellen_tree_form.specs.Words.{is_internal, child_at, update_at, key_at, leaf_key_at, leaf_value_at, is_set, is_rem, may_list}
use Rattle.tree_help.specs.declared.states.Help.{Help}
use Rattle.tree_help.specs.declared.states.Helping.{Helping}
use Rattle.tree_help.specs.declared.states.Flag.{Flag}
use Rattle.tree_help.specs.Helps.{Fits, help_asked, help_fed, help_of}
use Rattle.tree_help.specs.declared.states.Help.TheVariants as helps
use Rattle.tree_help.specs.declared.states.HelpInsert.TheVariants as insert
use Rattle.tree_help.specs.declared.states.HelpDelete.TheVariants as delete
use Rattle.tree_help.specs.declared.states.Helping.TheVariants.{Running, Finished, BackedOut}

-- ---- states

abbrev pub leaf_of : Passed → ℕ
leaf_of passed = versioned_value passed.child

abbrev pub begun : Op → TreeSearch
begun op = AtUpdate op None 0

abbrev pub asked : TreeSearch → Request
asked (AtUpdate op above node) = Load (update_at node)
asked (AtKey op above node update) = Load (key_at node)
asked (AtChild op above node update key) = Load (child_at node (nat_lt op.key key))
asked (AtLeaf op above last) = Load (leaf_key_at (leaf_of last))
asked (Again op last is) = Load (update_at last.node)
asked (AtValue last key) = Load (leaf_value_at (leaf_of last))
asked (SetReady last key value) = Load (update_at last.node)
asked (RemReady above last) = Load (update_at last.node)
asked (Helps help) = help_asked help

-- ---- steps

-- a child was loaded: the search goes on below it, or has come to a leaf
abbrev pub came_to : Op → Option Passed → Passed → TreeSearch
came_to op above last = if is_internal (versioned_value last.child) then AtUpdate op (Some last) (versioned_value last.child / 4) else AtLeaf op above last

abbrev pub helped : ℕ → ℕ → TreeSearch × Found
helped place word = (Helps (help_of (record { place = place; word = word })), found.Going)

-- `set` of a key that isn't the leaf's
abbrev pub set_at : TreeSearch → Passed → ℕ → TreeSearch × Found
set_at stay last key =
    if is_modified last.update then (stay, found.Contended)
    else (if is_clean last.update then (AtValue last key, found.Going) else helped (update_at last.node) last.update)

-- `rem` of the leaf's key; no leaf that has the key of a command is right below the root
abbrev pub rem_at : TreeSearch → Option Passed → Passed → TreeSearch × Found
rem_at stay None last = (stay, found.Contended)
rem_at stay (Some above) last =
    if is_modified above.update || is_modified last.update then (stay, found.Contended)
    else (if not (is_clean above.update) then helped (update_at above.node) above.update
    else (if not (is_clean last.update) then helped (update_at last.node) last.update
    else (RemReady above last, found.Ready)))

-- the leaf's key was loaded, and it is the one that is looked for or it isn't
abbrev pub met_leaf : TreeSearch → Op → Option Passed → Passed → ℕ → Bool → TreeSearch × Found
met_leaf stay op above last key is =
    if is_set op && not is then set_at stay last key
    else (if is_rem op && is then rem_at stay above last
    else (Again op last is, found.Going))

-- what a call that only observes is told
abbrev pub told : Op → Passed → Bool → Outcome
told op last is = if op.code == GET then (if is then ValueOf (leaf_of last) else Plain Absent) else Plain No

abbrev pub met_again : TreeSearch → Op → Passed → Bool → ℕ → TreeSearch × Found
met_again stay op last is update = if state_of update == MARKED then helped (update_at last.node) update else (stay, found.Answer (told op last is))

abbrev pub after_help : TreeSearch → Help × Helping → TreeSearch × Found
after_help stay (help, Running) = (Helps help, found.Going)
after_help stay (help, Finished) = (Helps help, found.Contended)
after_help stay (help, BackedOut) = (Helps help, found.Contended)

abbrev pub fed : TreeSearch → Seen → TreeSearch × Found
fed (AtUpdate op above node) seen = (AtKey op above node seen.before, found.Going)
fed (AtKey op above node update) seen = (AtChild op above node update seen.before, found.Going)
fed (AtChild op above node update key) seen = (came_to op above (record { node = node; update = update; left = nat_lt op.key key; child = seen.before }), found.Going)
fed (AtLeaf op above last) seen = met_leaf (AtLeaf op above last) op above last seen.before (seen.before == op.key)
fed (Again op last is) seen = met_again (Again op last is) op last is seen.before
fed (AtValue last key) seen = (SetReady last key seen.before, found.Ready)
fed (SetReady last key value) seen = (SetReady last key value, found.Ready)
fed (RemReady above last) seen = (RemReady above last, found.Ready)
fed (Helps help) seen = after_help (Helps help) (help_fed help seen)

-- the blocks of passed nodes are ones that a word can name
abbrev pub InRange : Passed → Type 0
InRange passed = passed.node < 2 ^ 22

abbrev pub AboveInRange : Option Passed → Type 0
AboveInRange None = Unit {0}
AboveInRange (Some above) = InRange above

-- a search has a next step
abbrev pub Asks : TreeSearch → Type 0
Asks (AtUpdate op above node) = AboveInRange above × (node < 2 ^ 22)
Asks (AtKey op above node update) = AboveInRange above × (node < 2 ^ 22)
Asks (AtChild op above node update key) = AboveInRange above × (node < 2 ^ 22)
Asks (AtLeaf op above last) = AboveInRange above × InRange last
Asks (Again op last is) = InRange last
Asks (AtValue last key) = InRange last
Asks (SetReady last key value) = ⊥
Asks (RemReady above last) = ⊥
Asks (Helps help) = Fits help

-- a search is at an internal node
abbrev pub IsPassing : TreeSearch → Type 0
IsPassing (AtUpdate op above node) = Unit {0}
IsPassing (AtKey op above node update) = Unit {0}
IsPassing (AtChild op above node update key) = Unit {0}
IsPassing _ = ⊥

-- a search can name a list
abbrev pub IsReady : TreeSearch → Type 0
IsReady (SetReady last key value) = InRange last
IsReady (RemReady above last) = InRange above × InRange last
IsReady _ = ⊥

-- ---- the list

abbrev pub no_offer : Offered
no_offer = record { entries = []; stores = [] }

abbrev pub block_for : Op → ℕ → ℕ
block_for op block = if may_list op then block else 0

-- the entry that sets the flag of a block at a node
abbrev pub flag_entry : Passed → ℕ → ℕ → Entry
flag_entry at block state = record { target = update_at at.node; from = at.update; to = updated at.update block state }

-- the keys of a new internal node and of its left leaf are the greater and the lesser of two; its left leaf is
-- node 1, the new one, or node 3, the old one's copy
abbrev pub greater : ℕ → ℕ → ℕ
greater key other = if nat_lt key other then other else key

abbrev pub leaf_on : Bool → ℕ → ℕ
leaf_on new block = if new then reference_to block 1 else reference_to block 3

abbrev pub set_stores : Passed → Op → ℕ → ℕ → ℕ → List (ℕ × ℕ)
set_stores last op key value block =
    (leaf_key_at (reference_to block 1), op.key) ∷ (leaf_value_at (reference_to block 1), op.value)
    ∷ (leaf_key_at (reference_to block 3), key) ∷ (leaf_value_at (reference_to block 3), value)
    ∷ (key_at block, greater op.key key)
    ∷ (child_at block true, leaf_on (nat_lt op.key key) block) ∷ (child_at block false, leaf_on (not (nat_lt op.key key)) block)
    ∷ (update_at block, 0)
    ∷ (note_at block 0, child_at last.node last.left) ∷ (note_at block 1, last.child) ∷ []

abbrev pub rem_stores : Passed → Passed → ℕ → List (ℕ × ℕ)
rem_stores above last block =
    (note_at block 0, update_at last.node) ∷ (note_at block 1, last.update)
    ∷ (note_at block 2, child_at above.node above.left) ∷ (note_at block 3, above.child)
    ∷ (note_at block 4, child_at last.node (not last.left)) ∷ []

abbrev pub offered : TreeSearch → Op → ℕ → Offered
offered (SetReady last key value) op block = record { entries = flag_entry last (block_for op block) INSERTING ∷ []; stores = set_stores last op key value block }
offered (RemReady above last) op block = record { entries = flag_entry above (block_for op block) DELETING ∷ []; stores = rem_stores above last block }
offered _ op block = no_offer

-- ---- the wrap-up

-- the flag that a list's first entry sets
abbrev pub flag_of : List Entry → Flag
flag_of [] = record { place = 0; word = 0 }
flag_of (entry ∷ entries) = record { place = entry.target; word = entry.to }

abbrev pub begin_wrap_of : Op → List Entry → ℕ → Help
begin_wrap_of op entries stop = if is_set op then helps.Insert (insert.ReadPlace (flag_of entries)) else helps.Delete (delete.MarkPlace (flag_of entries))

-- another operation's list, or one that sets no flag of this operation, is of no run: it is done at once
abbrev pub sets_flag : Op → Flag → Bool
sets_flag op flag = (is_set op && state_of flag.word == INSERTING) || (is_rem op && state_of flag.word == DELETING)

abbrev pub flags : Op → List Entry → Bool
flags op entries = sets_flag op (flag_of entries)

abbrev pub wrap_begun_of : Op → List Entry → ℕ → Wrapped
wrap_begun_of op entries stop =
    if may_list op && (stop == 0) then wrapped.Restart
    else (if flags op entries then wrapped.Going else wrapped.Done (Plain Done))

abbrev pub wrapped_by : Helping → Wrapped
wrapped_by Running = wrapped.Going
wrapped_by Finished = wrapped.Done (Plain Yes)
wrapped_by BackedOut = wrapped.Restart

-- a wrap-up helps the flag of its own list, so it looks for none
abbrev pub WrapsUp : Help → Type 0
WrapsUp (helps.Mark it) = ⊥
WrapsUp _ = Unit {0}
