-- What the words of the stack stand for, and what a search has learnt.
use Rattle.std.specs.Prelude.{◌≡◌, ◌≢◌, ℕ, ◌/◌, ◌<◌, ◌==◌, if◌then◌else◌, Bool, true, List, [], ◌∷◌, AllPairs, ◌≤◌, false, length}
use Rattle.word_fields.specs.Versioned.{versioned_value, versioned_bit}
use Rattle.node_arena.specs.declared.places.TheConstants.{NODE_VALUE, NODE_NEXT}
use Rattle.node_arena.specs.MemoryMap.{node_place, reference_to, block_at}
use Rattle.normal_traits.specs.declared.lists.Entry.{Entry}
use Rattle.normal_traits.specs.World.{Listed, Maker, Cause, Won, Change, World, Among, held_after, Observes, ChangedBy, StandsOrPassed}
use Rattle.normal_traits.specs.World.Maker.{By, Beside}
use Rattle.client_lemmas.specs.Made.{AreMade}
use Rattle.treiber_stack_form.specs.declared.states.TheConstants.{TOP}
use Rattle.treiber_stack_form.specs.Object.{is_put, stack_object}
use Rattle.treiber_stack_form.specs.Steps.{told, next_place}
use Rattle.lin_report.specs.declared.calls.Op.{Op}
use Rattle.step_memory.specs.declared.steps.Seen.{Seen}
use Rattle.treiber_stack_form.specs.declared.states.StackSearch.{StackSearch}
use Rattle.treiber_stack_form.specs.declared.states.StackSearch.TheVariants.{PutTop, PutReady, TakeTop, TakeNext, TakeReady}

-- the one root, which alone is exchanged
abbrev pub is_top : ℕ → Bool
is_top place = place == TOP

-- a put's exchange brings in the node of its block, kind 0, and a take's leads past the node that was the top's, kind 1;
-- none is made beside the lists
abbrev pub cause_of : World → Maker → Entry → Cause
cause_of world (By list j) entry =
    if is_put list.call.op then record { block = list.block; kind = 0 } else record { block = versioned_value entry.from / 4; kind = 1 }
cause_of world Beside entry = record { block = 0; kind = 2 }

-- the reference to node 1 of the first block, or null where there is none
abbrev pub first_node : List ℕ → ℕ
first_node [] = 0
first_node (block ∷ blocks) = reference_to block 1

-- node 1 of a used block has the value, and leads to the first of the blocks behind it
pub record IsNode (world : World) (block value : ℕ) (behind : List ℕ) : Type 0 where
  pub used : world.used block ≡ true
  pub valued : world.words (node_place (reference_to block 1) NODE_VALUE) ≡ value
  pub linked : versioned_value (world.words (node_place (reference_to block 1) NODE_NEXT)) ≡ first_node behind
  pub once : ¬ Among block behind

-- the nodes of these blocks have these values, and each leads to the next
pub data AreLinked (world : World) : List ℕ → List ℕ → Type 0 where
  ends : AreLinked world [] []
  leads : (block value : ℕ) (blocks values : List ℕ) → IsNode world block value blocks → AreLinked world blocks values → AreLinked world (block ∷ blocks) (value ∷ values)

-- each change really changed what is held
abbrev pub AreEffective : List Change → Type 0
AreEffective [] = Unit {0}
AreEffective (change ∷ older) = (¬ Observes stack_object change.list.call.op (held_after stack_object older)) × AreEffective older

-- a won exchange is that of a list, which made its change by it and whose call is told the reply; a node that was taken
-- is none of those that the top leads to
pub record IsKnown (world : World) (blocks : List ℕ) (won : Won) : Type 0 where
  pub used : world.used won.cause.block ≡ true
  pub kind : won.cause.kind < 2
  pub gone : won.cause.kind ≡ 1 → ¬ Among won.cause.block blocks
  pub list : Listed
  pub maker : won.maker ≡ By list 0
  pub made : ChangedBy world list (told list.call.op won.before)

-- the words are those of a stack with these changes
pub record IsStack (world : World) : Type 0 where
  -- the blocks of the nodes that the top leads to, whose values are what is held
  pub blocks : List ℕ
  pub top : versioned_value (world.words TOP) ≡ first_node blocks
  pub linked : AreLinked world blocks (held_after stack_object world.changes)
  -- block 0, which lists without a block have
  pub zero : world.used 0 ≡ true
  pub effective : AreEffective world.changes
  pub made : AreMade world
  pub known : (won : Won) → Among won world.journal → IsKnown world blocks won
  pub causes_differ : AllPairs (λ (a b : Won). a.cause ≢ b.cause) world.journal

-- a word that was loaded as the top, with its bit clear
pub record WasTop (world : World) (top : ℕ) : Type 0 where
  pub seen : StandsOrPassed world TOP top
  pub clear : versioned_bit top ≡ 0

-- one that names a node, of a used block
pub record WasNode (world : World) (top : ℕ) : Type 0 where
  pub was_top : WasTop world top
  pub some : versioned_value top ≢ 0
  pub used : world.used (block_at (next_place top)) ≡ true

-- what a search has learnt from its words; a node that was put keeps its next word
abbrev pub Learnt : StackSearch → World → Type 0
Learnt (PutReady top) world = WasTop world top
Learnt (TakeNext top) world = WasNode world top
Learnt (TakeReady top next) world = WasNode world top × (world.words (next_place top) ≡ next)
Learnt _ world = Unit {0}

-- whether it is the search of a put
abbrev pub puts_it : StackSearch → Bool
puts_it PutTop = true
puts_it (PutReady top) = true
puts_it _ = false

-- what a search for an operation has learnt since there were so many changes
pub record Knows (search : StackSearch) (op : Op) (world : World) (since : ℕ) : Type 0 where
  pub serves : is_put op ≡ puts_it search
  pub began : since ≤ length world.changes
  pub learnt : Learnt search world

-- the word that a search has just loaded and would list
abbrev pub Keeps : StackSearch → Seen → ℕ → Type 0
Keeps PutTop seen word = seen.before ≡ word
Keeps TakeTop seen word = seen.before ≡ word
Keeps _ seen word = ⊥
