-- What the states of the flagged register mean, and the structure in normalized form.
use Rattle.std.specs.Prelude.{◌≡◌, ◌≢◌, ℕ, zero, suc, ◌+◌, ◌/◌, ◌^◌, ◌<◌, ◌==◌, ◌||◌, if◌then◌else◌, true, false, ◌⊎◌, List, [], ◌∷◌, length, Option, Some, None, AllPairs, Bool}
use Rattle.std.specs.FinMap as map
use Rattle.lin_report.specs.declared.calls.Client.TheVariants as client
use Rattle.lin_report.specs.declared.calls.Op.{Op}
use Rattle.lin_report.specs.declared.calls.Reply.TheVariants.{Yes}
use Rattle.lin_report.specs.declared.calls.TheConstants.{SET, REM}
use Rattle.lin_report.specs.Object.{map_object}
use Rattle.word_fields.specs.Versioned.{versioned_value, versioned_bit, versioned_version, cleared_word}
use Rattle.node_arena.specs.MemoryMap.{block_at, field_at}
use Rattle.normal_traits.specs.declared.lists.Entry.{Entry}
use Rattle.normal_traits.specs.World.{Listed, Maker, Cause, Won, Change, World, Among, held_after, Observes, no_root}
use Rattle.normal_traits.specs.World.Maker.{By, Beside}
use Rattle.lin_report.proofs.Tellable.{objects_are_tellable}
use Rattle.node_arena.proofs.Openings.{clients_open}
use Rattle.node_arena.specs.Opening.{opening_word}
use Rattle.normal_traits.specs.NormalForm.{NormalForm}
use Rattle.flagged_register_form.specs.Register.{FLAG, REGISTER, value_at, note_place, decision_place, decided, flag_value, flag_word, toggles, flag_entry, flag_of, Help, Search, begin_of, request_of, feed_of, found_of, offer_of, request_of_help, feed_help, begin_wrap_of, wrap_begun_of, wrap_found_of}
use Rattle.flagged_register_form.specs.Register.Help.{Deciding, Checking, Reading, Changing, Clearing}
use Rattle.flagged_register_form.specs.Register.Search.{AtFlag, AtRegister, Named, Helping}

-- ---- who makes a change, and why

-- the block that a flag names
abbrev pub flagged_block : ℕ → ℕ
flagged_block flag = versioned_value flag / 4

abbrev pub cause_here : ℕ → ℕ → Cause
cause_here block kind = record { block = block; kind = kind }

-- the block of the flag's list, with 0 for the flag, 1 for its change, 2 for its end and 3 for the decision
abbrev pub cause_of : World → Maker → Entry → Cause
cause_of world (By list j) entry = cause_here list.block 0
cause_of world Beside entry =
    if entry.target == REGISTER then cause_here (flagged_block (world.words FLAG)) 1 else (if entry.target == FLAG then cause_here (flagged_block entry.from) 2 else cause_here (block_at entry.target) 3)

-- the list with this block that set a flag
abbrev pub flagger_or : ℕ → Maker → Option Listed → Option Listed
flagger_or block (By list zero) others = if list.block == block then Some list else others
flagger_or block (By list (suc j)) others = others
flagger_or block Beside others = others

abbrev pub flagger : ℕ → List Won → Option Listed
flagger block [] = None
flagger block (won ∷ older) = flagger_or block won.maker (flagger block older)

-- an exchange of the register makes the change of the list whose flag is up
abbrev pub adds_beside : World → Entry → Option Listed
adds_beside world entry = if entry.target == REGISTER then flagger (flagged_block (world.words FLAG)) world.journal else None

-- ---- what is so for ever

abbrev pub flag_won : Listed → ℕ → Won
flag_won list from = record { place = FLAG; before = from; after = flag_word from list.block; maker = By list 0; cause = cause_here list.block 0 }

-- the list has set the flag
pub record Flagged (world : World) (list : Listed) : Type 0 where
  pub from : ℕ
  pub entries : list.entries ≡ flag_entry from list.block ∷ []
  pub won : Among (flag_won list from) world.journal

-- its change was made, and the register is past the word that it noted
pub record Made (world : World) (list : Listed) : Type 0 where
  pub change : Among (record { list = list; reply = Yes }) world.changes
  pub passed : versioned_version (world.words (note_place list.block)) < versioned_version (world.words REGISTER)
  pub agreed : world.words (decision_place list.block) ≡ decided true

-- its change was given up
abbrev pub IsGone : World → Listed → Type 0
IsGone world list = world.words (decision_place list.block) ≡ decided false

-- its flag is up, and the register is as it noted it
pub record Stands (world : World) (list : Listed) : Type 0 where
  pub flag : cleared_word (world.words FLAG) ≡ flag_of list.entries
  pub register : world.words REGISTER ≡ world.words (note_place list.block)
  pub toggles : toggles list.call.op (world.words REGISTER) ≡ true
  pub not_gone : ¬ IsGone world list

-- what is so of each list that set the flag
pub record IsFlagger (world : World) (list : Listed) : Type 0 where
  pub some : 0 < list.block
  pub small : list.block < 2 ^ 17
  pub used : world.used list.block ≡ true
  pub key : list.call.op.key ≡ 0
  pub value : world.words (value_at list.block) ≡ list.call.op.value
  pub fate : Stands world list ⊎ (Made world list ⊎ IsGone world list)
  pub decision : (world.words (decision_place list.block) ≡ 0) ⊎ ((world.words (decision_place list.block) ≡ decided true) ⊎ IsGone world list)

-- an item of the journal that a list made is the setting of a flag
abbrev pub IsBy : Won → Maker → Type 0
IsBy won (By list j) = (won ≡ flag_won list won.before) × (list.entries ≡ flag_entry won.before list.block ∷ [])
IsBy won Beside = Unit {0}

-- what was done for a cause can't be done again
abbrev pub IsOver : World → ℕ → ℕ → Type 0
IsOver world block zero = Unit {0}
IsOver world block (suc zero) = versioned_version (world.words (note_place block)) < versioned_version (world.words REGISTER)
IsOver world block (suc (suc zero)) = versioned_value (world.words FLAG) ≢ flag_value block
IsOver world block (suc (suc (suc zero))) = world.words (decision_place block) ≢ 0
IsOver world block (suc (suc (suc (suc kind)))) = ⊥

pub record IsSpent (world : World) (cause : Cause) : Type 0 where
  pub used : world.used cause.block ≡ true
  pub over : IsOver world cause.block cause.kind

-- each change really changed what was held
abbrev pub EachChanges : List Change → Type 0
EachChanges [] = Unit {0}
EachChanges (change ∷ older) = (¬ Observes map_object change.list.call.op (held_after map_object older)) × EachChanges older

-- what the register says that the key's value is
abbrev pub content : ℕ → (ℕ → ℕ) → Option ℕ
content register words = if versioned_value register == 0 then None else Some (words (value_at (versioned_value register / 4)))

-- the register is 0 or names node 1 of a used block
abbrev pub IsName : ℕ → (ℕ → Bool) → Type 0
IsName register used = (versioned_value register ≡ 0) ⊎ ((block : ℕ) × (used block ≡ true) × (block < 2 ^ 17) × (versioned_value register ≡ flag_value block))

-- the flag that is up is that of a list
pub record IsUp (world : World) : Type 0 where
  pub list : Listed
  pub flagged : Flagged world list
  pub flag : cleared_word (world.words FLAG) ≡ flag_of list.entries

pub record Shape (world : World) : Type 0 where
  pub opened : world.used 0 ≡ true
  pub items : (won : Won) → Among won world.journal → IsBy won won.maker
  pub flaggers : (list : Listed) → Flagged world list → IsFlagger world list
  pub same_identity : (a b : Listed) → Flagged world a → Flagged world b → a.identity ≡ b.identity → a ≡ b
  pub same_block : (a b : Listed) → Flagged world a → Flagged world b → a.block ≡ b.block → a ≡ b
  pub flag : (versioned_value (world.words FLAG) ≡ 0) ⊎ IsUp world
  pub tells : map.get (held_after map_object world.changes) 0 ≡ content (world.words REGISTER) world.words
  pub names : IsName (world.words REGISTER) world.used
  pub clear : versioned_bit (world.words REGISTER) ≡ 0
  pub fits : world.words REGISTER < 2 ^ 64
  pub flagged : (change : Change) → Among change world.changes → Flagged world change.list
  pub passed : (change : Change) → Among change world.changes → versioned_version (world.words (note_place change.list.block)) < versioned_version (world.words REGISTER)
  pub agreed : (change : Change) → Among change world.changes → world.words (decision_place change.list.block) ≡ decided true
  pub effective : EachChanges world.changes
  pub one_list : AllPairs (λ (a b : Change). a.list.identity ≢ b.list.identity) world.changes
  pub one_block : AllPairs (λ (a b : Change). 0 < a.list.block → a.list.block ≢ b.list.block) world.changes
  pub spent : (won : Won) → Among won world.journal → IsSpent world won.cause
  pub causes_differ : AllPairs (λ (a b : Won). a.cause ≢ b.cause) world.journal

-- ---- what a search and a wrap-up know

-- the help of a list's flag
abbrev pub Helps : Help → World → Listed → Type 0
Helps (Deciding flag make) world list = Flagged world list × (flag ≡ flag_of list.entries)
Helps (Checking flag) world list = Flagged world list × (flag ≡ flag_of list.entries) × (world.words (decision_place list.block) ≢ 0)
Helps (Reading flag) world list = Flagged world list × (flag ≡ flag_of list.entries) × (world.words (decision_place list.block) ≡ decided true)
Helps (Changing flag noted) world list =
    Flagged world list × (flag ≡ flag_of list.entries) × (world.words (decision_place list.block) ≡ decided true) × (noted ≡ world.words (note_place list.block))
Helps (Clearing flag true) world list = Flagged world list × (flag ≡ flag_of list.entries) × Made world list
Helps (Clearing flag false) world list = Flagged world list × (flag ≡ flag_of list.entries) × IsGone world list

-- the flag was read when it was down
pub record WasDown (world : World) (flag : ℕ) : Type 0 where
  pub clear : versioned_bit flag ≡ 0
  pub down : versioned_value flag ≡ 0
  pub seen : (world.words FLAG ≡ flag) ⊎ (versioned_version flag < versioned_version (world.words FLAG))

-- and with it the register, which the operation changes
pub record WasRead (world : World) (op : Op) (flag register : ℕ) : Type 0 where
  pub down : WasDown world flag
  pub key : op.key ≡ 0
  pub value : op.value < 2 ^ 32
  pub toggles : toggles op register ≡ true
  pub fits : register < 2 ^ 64
  pub same : world.words FLAG ≡ flag → world.words REGISTER ≡ register

abbrev pub Learnt : Search → Op → World → Type 0
Learnt (AtFlag o) op world = o ≡ op
Learnt (AtRegister o flag) op world = (o ≡ op) × WasDown world flag
Learnt (Named o flag register) op world = (o ≡ op) × WasRead world op flag register
Learnt (Helping o help) op world = (o ≡ op) × ((list : Listed) × Helps help world list)

abbrev pub Knows : Search → Op → World → ℕ → Type 0
Knows search op world since = (since < length world.changes + 1) × Learnt search op world

-- the list's one entry was lost for ever, or its flag was set and then its change given up
pub record Dead (list : Listed) (world : World) : Type 0 where
  pub from : ℕ
  pub entries : list.entries ≡ flag_entry from list.block ∷ []
  pub fate : ((versioned_version from < versioned_version (world.words FLAG)) × (¬ Flagged world list)) ⊎ (Flagged world list × IsGone world list)

-- ---- the normalized form

abbrev pub asks : Search → Type 0
asks (Named op flag register) = ⊥
asks _ = Unit {0}

abbrev pub is_ready : Search → Type 0
is_ready (Named op flag register) = Unit {0}
is_ready _ = ⊥

abbrev pub flagged_form : NormalForm Search Help
flagged_form = record {
  object = map_object;
  tellable = objects_are_tellable client.Tree;
  is_root = no_root;
  opening = opening_word client.Tree;
  opens = clients_open client.Tree;
  needs_block = λ op. true;
  begin_of = begin_of;
  request_of = request_of;
  found_of = found_of;
  feed_of = feed_of;
  offer_of = offer_of;
  begin_wrap_of = begin_wrap_of;
  wrap_begun_of = wrap_begun_of;
  wrap_request_of = request_of_help;
  wrap_found_of = wrap_found_of;
  feed_wrap_of = feed_help;
  asks = asks;
  is_ready = is_ready;
  wraps = λ help. Unit {0};
  keeps = λ search seen word. ⊥;
  is_forced = λ search seen. ⊥;
  may_list = λ op. op.code == SET || op.code == REM;
  is_versioned = λ place. place == FLAG || place == REGISTER || field_at place == 28;
  is_listable = λ place. place == FLAG;
  shape = Shape;
  adds = λ list j. false;
  adds_beside = adds_beside;
  cause_of = cause_of;
  knows = Knows;
  follows = λ help list stop world. Helps help world list;
  dead = Dead;
}
