-- The help of a flag. For an insertion the child is exchanged to the new node, and the flag is taken away. For a
-- removal the node that is to go is marked, and the child above it swings past it to the child that stays; where
-- it can't be marked any more, neither is done; then the flag is taken away.
use Rattle.std.specs.Prelude.{ℕ, ◌+◌, ◌*◌, ◌^◌, ◌<◌, ◌==◌, ◌&&◌, not, if◌then◌else◌, Bool, true, false}
use Rattle.step_memory.specs.declared.steps.Request.{Request}
use Rattle.step_memory.specs.declared.steps.Request.TheVariants.{Load, Exchange}
use Rattle.step_memory.specs.declared.steps.Seen.{Seen}
use Rattle.word_fields.specs.Versioned.{versioned_value, is_modified, changed_word}
use Rattle.tree_help.specs.declared.states.TheConstants.{CLEAN, INSERTING, DELETING, MARKED, FIRST_PLACE, FIRST_WORD, SWING_PLACE, SWING_WORD, STAY_PLACE}
use Rattle.tree_help.specs.declared.states.Flag.{Flag}
use Rattle.tree_help.specs.declared.states.Helping.{Helping}
use Rattle.tree_help.specs.declared.states.Helping.TheVariants.{Running, Finished, BackedOut}
use Rattle.tree_help.specs.declared.states.HelpInsert.{HelpInsert}
use Rattle.tree_help.specs.declared.states.HelpInsert.TheVariants as insert
use Rattle.tree_help.specs.declared.states.HelpDelete.{HelpDelete}
use Rattle.tree_help.specs.declared.states.HelpDelete.TheVariants as delete
use Rattle.tree_help.specs.declared.states.HelpMark.{HelpMark}
use Rattle.tree_help.specs.declared.states.HelpMark.TheVariants as mark
use Rattle.tree_help.specs.declared.states.Help.{Help}
use Rattle.tree_help.specs.declared.states.Help.TheVariants as help
use Rattle.tree_help.specs.Updates.{state_of, block_of, updated, inner, note_at, place_in, flag_place}

abbrev pub flag_block : Flag → ℕ
flag_block flag = block_of flag.word

-- the exchange that takes a flag away
abbrev pub unflagging : Flag → Request
unflagging flag = Exchange flag.place flag.word (updated flag.word (flag_block flag) CLEAN)

-- ---- an insertion

abbrev pub insert_asked : HelpInsert → Request
insert_asked (insert.ReadPlace flag) = Load (note_at (flag_block flag) FIRST_PLACE)
insert_asked (insert.ReadWord flag at) = Load (note_at (flag_block flag) FIRST_WORD)
insert_asked (insert.Link flag at from) = Exchange at from (changed_word from (inner (flag_block flag)))
insert_asked (insert.Unflag flag) = unflagging flag

abbrev pub insert_next : HelpInsert → Seen → HelpInsert
insert_next (insert.ReadPlace flag) seen = insert.ReadWord flag (place_in seen.before)
insert_next (insert.ReadWord flag at) seen = insert.Link flag at seen.before
insert_next (insert.Link flag at from) seen = insert.Unflag flag
insert_next (insert.Unflag flag) seen = insert.Unflag flag

-- the end of a flag ends its help; an insertion is never given up
abbrev pub insert_helping : HelpInsert → Helping
insert_helping (insert.Unflag flag) = Finished
insert_helping _ = Running

abbrev pub insert_fed : HelpInsert → Seen → HelpInsert × Helping
insert_fed it seen = (insert_next it seen, insert_helping it)

-- ---- a removal

abbrev pub delete_asked : HelpDelete → Request
delete_asked (delete.MarkPlace flag) = Load (note_at (flag_block flag) FIRST_PLACE)
delete_asked (delete.MarkWord flag at) = Load (note_at (flag_block flag) FIRST_WORD)
delete_asked (delete.Mark flag at from) = Exchange at from (updated from (flag_block flag) MARKED)
delete_asked (delete.Check flag at) = Load at
delete_asked (delete.StayPlace flag) = Load (note_at (flag_block flag) STAY_PLACE)
delete_asked (delete.StayWord flag at) = Load at
delete_asked (delete.SwingPlace flag stays) = Load (note_at (flag_block flag) SWING_PLACE)
delete_asked (delete.SwingWord flag stays at) = Load (note_at (flag_block flag) SWING_WORD)
delete_asked (delete.Swing flag stays at from) = Exchange at from (changed_word from (versioned_value stays))
delete_asked (delete.Unflag flag made) = unflagging flag

-- the update word of the node that is to go has the mark of this block
abbrev pub has_mark : Flag → ℕ → Bool
has_mark flag word = versioned_value word == 4 * flag_block flag + MARKED

abbrev pub delete_next : HelpDelete → Seen → HelpDelete
delete_next (delete.MarkPlace flag) seen = delete.MarkWord flag (place_in seen.before)
delete_next (delete.MarkWord flag at) seen = delete.Mark flag at seen.before
delete_next (delete.Mark flag at from) seen = delete.Check flag at
delete_next (delete.Check flag at) seen = if has_mark flag seen.before then delete.StayPlace flag else delete.Unflag flag false
delete_next (delete.StayPlace flag) seen = delete.StayWord flag (place_in seen.before)
delete_next (delete.StayWord flag at) seen = delete.SwingPlace flag seen.before
delete_next (delete.SwingPlace flag stays) seen = delete.SwingWord flag stays (place_in seen.before)
delete_next (delete.SwingWord flag stays at) seen = delete.Swing flag stays at seen.before
delete_next (delete.Swing flag stays at from) seen = delete.Unflag flag true
delete_next (delete.Unflag flag made) seen = delete.Unflag flag made

-- the end of a flag ends its help, behind its change or without it
abbrev pub ended : Bool → Helping
ended true = Finished
ended false = BackedOut

abbrev pub delete_helping : HelpDelete → Helping
delete_helping (delete.Unflag flag made) = ended made
delete_helping _ = Running

abbrev pub delete_fed : HelpDelete → Seen → HelpDelete × Helping
delete_fed it seen = (delete_next it seen, delete_helping it)

-- ---- a mark that was met

-- the block whose note is read first is one that an update word can name
abbrev pub NamesBlock : HelpMark → Type 0
NamesBlock (mark.FindPlace block) = block < 2 ^ 22
NamesBlock _ = Unit {0}

abbrev pub mark_asked : HelpMark → Request
mark_asked (mark.FindPlace block) = Load (note_at block SWING_PLACE)
mark_asked (mark.FindFlag block at) = Load at
mark_asked (mark.Deletes it) = delete_asked it

-- a removal's flag of this block, with its bit clear
abbrev pub is_flag_of : ℕ → ℕ → Bool
is_flag_of block word = versioned_value word == 4 * block + DELETING && not (is_modified word)

-- the flag of the marked node's block is helped where it still stands; else its help is over
abbrev pub flag_found : ℕ → ℕ → ℕ → HelpMark × Helping
flag_found block at word =
    if is_flag_of block word then (mark.Deletes (delete.MarkPlace (record { place = at; word = word })), Running)
    else (mark.FindFlag block at, Finished)

abbrev pub mark_fed : HelpMark → Seen → HelpMark × Helping
mark_fed (mark.FindPlace block) seen = (mark.FindFlag block (flag_place (place_in seen.before)), Running)
mark_fed (mark.FindFlag block at) seen = flag_found block at seen.before
mark_fed (mark.Deletes it) seen = (mark.Deletes (delete_next it seen), delete_helping it)

-- ---- any of them

abbrev pub Fits : Help → Type 0
Fits (help.Mark it) = NamesBlock it
Fits _ = Unit {0}

abbrev pub help_asked : Help → Request
help_asked (help.Insert it) = insert_asked it
help_asked (help.Delete it) = delete_asked it
help_asked (help.Mark it) = mark_asked it

abbrev pub help_fed : Help → Seen → Help × Helping
help_fed (help.Insert it) seen = (help.Insert (insert_next it seen), insert_helping it)
help_fed (help.Delete it) seen = (help.Delete (delete_next it seen), delete_helping it)
help_fed (help.Mark it) seen = (help.Mark (mark_fed it seen).0, (mark_fed it seen).1)

-- the help of an update word that isn't clean, by its state
abbrev pub help_of : Flag → Help
help_of flag =
    if state_of flag.word == INSERTING then help.Insert (insert.ReadPlace flag)
    else (if state_of flag.word == DELETING then help.Delete (delete.MarkPlace flag) else help.Mark (mark.FindPlace (flag_block flag)))
