-- What an allowed step does to the tree: it exchanges nothing, or it makes one of five exchanges. Each effect has what
-- its exchange finds.
use Rattle.std.specs.Prelude.{◌≡◌, ℕ, ◌+◌, ◌^◌, ◌<◌, true, false, not, ◌⊎◌, [], ◌∷◌}
use Rattle.lin_report.specs.declared.calls.Reply.TheVariants.{Yes}
use Rattle.word_fields.specs.Versioned.{versioned_value, versioned_version, cleared_word}
use Rattle.normal_traits.specs.World.{Listed, Won, World, is_word, no_root}
use Rattle.normal_traits.specs.World.Maker.{Beside}
use Rattle.normal_traits.specs.Steps.{IsFresh, with_word, using_block}
use Rattle.tree_help.specs.declared.states.TheConstants.{CLEAN, MARKED}
use Rattle.tree_help.specs.Updates.{state_of, updated, inner}
use Rattle.ellen_tree_form.specs.Words.{child_at, update_at, is_update, is_set, is_rem}
use Rattle.ellen_tree_form.specs.Shape.{Flagged, flags_at, flag_won, cause_here, noted, child_of, is_left, Changed, IsGone, IsMarked, Inserts, InsertWaits, Removes, RemoveStands, IsFlagger}

-- nothing is exchanged: a client's word stays, or an update word has its bit cleared
pub record IsQuiet (world after : World) : Type 0 where
  pub words : (at : ℕ) → is_word no_root world at ≡ true → (after.words at ≡ world.words at) ⊎ ((is_update at ≡ true) × (after.words at ≡ cleared_word (world.words at)))
  pub changes : after.changes ≡ world.changes
  pub used : (block : ℕ) → after.used block ≡ world.used block
  pub journal : after.journal ≡ world.journal

-- a list sets its flag, and its block is used from then on
pub record Sets (world after : World) : Type 0 where
  pub list : Listed
  pub node : ℕ
  pub from : ℕ
  pub word : ℕ
  pub entries : list.entries ≡ flags_at node from list ∷ []
  pub fresh : IsFresh world list
  pub some : 0 < list.block
  pub unused : world.used list.block ≡ false
  pub stood : world.words (update_at node) ≡ from
  pub clean : state_of from ≡ CLEAN
  pub written : cleared_word word ≡ (flags_at node from list).to
  pub raised : versioned_version (flags_at node from list).to ≡ versioned_version from + 1
  pub fits : word < 2 ^ 64
  pub words : (at : ℕ) → after.words at ≡ with_word (update_at node) word world.words at
  pub changes : after.changes ≡ world.changes
  pub used : (block : ℕ) → after.used block ≡ using_block list.block world.used block
  pub journal : after.journal ≡ flag_won node from list ∷ world.journal
  pub is : IsFlagger after list node from

-- an exchange beside the lists, for a list's block
pub record IsBeside (world after : World) (list : Listed) (kind place to : ℕ) : Type 0 where
  pub words : (at : ℕ) → after.words at ≡ with_word place to world.words at
  pub used : (block : ℕ) → after.used block ≡ world.used block
  pub item : Won
  pub maker : item.maker ≡ Beside
  pub cause : item.cause ≡ cause_here list.block kind
  pub journal : after.journal ≡ item ∷ world.journal
  pub raised : versioned_version (world.words place) < versioned_version to
  pub fits : to < 2 ^ 64

-- the child is exchanged to the new node of an insertion that waits
pub record Links (world after : World) : Type 0 where
  pub list : Listed
  pub flagged : Flagged world list
  pub set : is_set list.call.op ≡ true
  pub inserts : Inserts world list flagged.node flagged.from
  pub waits : InsertWaits world list flagged.node flagged.from inserts.left
  pub to : ℕ
  pub value : versioned_value to ≡ inner list.block
  pub beside : IsBeside world after list 1 (child_at flagged.node inserts.left) to
  pub changes : after.changes ≡ record { list = list; reply = Yes } ∷ world.changes

-- the node that is to go is marked for a removal that waits
pub record Marks (world after : World) : Type 0 where
  pub list : Listed
  pub flagged : Flagged world list
  pub rem : is_rem list.call.op ≡ true
  pub removes : Removes world list flagged.node flagged.from
  pub stands : RemoveStands world list flagged.node flagged.from removes.left removes.gone
  pub stood : world.words (update_at removes.gone) ≡ noted world list 1
  pub beside : IsBeside world after list 3 (update_at removes.gone) (updated (noted world list 1) list.block MARKED)
  pub changes : after.changes ≡ world.changes

-- the child swings past the marked node to the child that stays
pub record Swings (world after : World) : Type 0 where
  pub list : Listed
  pub flagged : Flagged world list
  pub rem : is_rem list.call.op ≡ true
  pub removes : Removes world list flagged.node flagged.from
  pub stands : RemoveStands world list flagged.node flagged.from removes.left removes.gone
  pub marked : IsMarked world list removes.gone
  pub to : ℕ
  pub value : versioned_value to ≡ child_of world.words removes.gone (not (is_left world.words list.call.op.key removes.gone))
  pub beside : IsBeside world after list 1 (child_at flagged.node removes.left) to
  pub changes : after.changes ≡ record { list = list; reply = Yes } ∷ world.changes

-- a flag is taken away behind its list's change, or after the list was given up
pub record Ends (world after : World) : Type 0 where
  pub list : Listed
  pub flagged : Flagged world list
  pub done : Changed world list ⊎ IsGone world list
  pub stood : world.words (update_at flagged.node) ≡ (flags_at flagged.node flagged.from list).to
  pub beside : IsBeside world after list 2 (update_at flagged.node) (updated (flags_at flagged.node flagged.from list).to list.block CLEAN)
  pub changes : after.changes ≡ world.changes

-- one of the six
pub data Effect (world after : World) : Type 0 where
  quiet : IsQuiet world after → Effect world after
  sets : Sets world after → Effect world after
  links : Links world after → Effect world after
  marks : Marks world after → Effect world after
  swings : Swings world after → Effect world after
  ends : Ends world after → Effect world after
