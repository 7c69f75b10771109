-- What each machine tells of its own call, by its phase: by whom its change is made, and of a call that is to return, that its
-- outcome is right. And whose the lists are that took effect on fast paths.
use Rattle.std.specs.Prelude.{◌≡◌, ℕ, ◌≤◌, true, Option, Some}
use Rattle.lin_report.specs.declared.calls.Outcome.TheVariants.{Plain, ValueOf}
use Rattle.word_fields.specs.Announced.{op_number, value_number}
use Rattle.node_arena.specs.MemoryMap.{op_place, value_place}
use Rattle.normal_traits.specs.World.{Among, Change, Listed, Took, World}
use Rattle.normal_traits.specs.NormalForm.{NormalForm}
use Rattle.fast_slow_engine.specs.declared.phases.Phase.{Phase}
use Rattle.fast_slow_engine.specs.declared.phases.Phase.TheVariants as phase
use Rattle.fast_slow_engine.specs.Mechs.{Mech}
use Rattle.offered_blocks.specs.Records.{MadeBy, MadeNone, TellsRight}
use Rattle.move_kinds.specs.Kinds.{IsUnannounced}
use Rattle.helper_knowledge.specs.Callers.{HasAnnounced, called, caller_of}
use Rattle.helper_knowledge.specs.Carried.{OfSome}
use Rattle.run_world.specs.Ghosts.{Held, SeatGhost}

-- how many changes there were when the call began, against those when its search began
abbrev pub CountsIn : {S W : Type 0} → Phase S W → SeatGhost S → Type 0
CountsIn (phase.Generate s at) own = own.begun ≤ own.carried.since
CountsIn _ own = Unit {0}

-- the op word and the value word of a seat are of its call or of an earlier one, and if of its call, the call's own
pub record IsAnnounced {S W : Type 0} (world : World) (mech : Mech S W) (begun : ℕ) : Type 0 where
  pub own : HasAnnounced world mech.seat (caller_of (called mech) begun)
  pub op : op_number (world.words (op_place mech.seat)) ≤ mech.number
  pub value : value_number (world.words (value_place mech.seat)) ≤ mech.number

-- no change of a seat is of a call to come
abbrev pub ChangesBelow : {S W : Type 0} → World → Mech S W → Type 0
ChangesBelow world mech = (change : Change) → Among change world.changes → change.list.call.seat ≡ mech.seat → change.list.call.number ≤ mech.number

module _ {S W : Type 0} (form : NormalForm S W) where
  -- what a machine tells in a phase. Before the announcement it has made no change, but by the list that it holds; from then
  -- on its record tells
  abbrev pub TellsIn : Phase S W → Mech S W → SeatGhost S → World → Type 0
  TellsIn phase.Idle mech own world = Unit {0}
  TellsIn (phase.Apply run stores at) mech own world = OfSome (λ (held : Held S). MadeBy world (called mech) held.list) own.held
  TellsIn (phase.Wrap wrap) mech own world = OfSome (λ (held : Held S). MadeBy world (called mech) held.list) own.held
  TellsIn (phase.Enter owner) mech own world = Unit {0}
  TellsIn phase.Drive mech own world = Unit {0}
  TellsIn (phase.Help true help) mech own world = Unit {0}
  TellsIn phase.Collect mech own world = Unit {0}
  TellsIn (phase.Value reference) mech own world = TellsRight form world (called mech) own.begun (ValueOf reference)
  TellsIn (phase.End reply) mech own world = TellsRight form world (called mech) own.begun (Plain reply)
  TellsIn _ mech own world = MadeNone world (called mech)

  -- a list is with its seat, which executes it or wraps it up, or it is dead, or has made its change
  pub data IsFollowed (world : World) (held : ℕ → Option (Held S)) (list : Listed) : Type 0 where
    with_seat : (own : Held S) → held list.call.seat ≡ Some own → own.list ≡ list → IsFollowed world held list
    dead : form.dead list world → IsFollowed world held list
    changed : (change : Change) → Among change world.changes → change.list ≡ list → IsFollowed world held list

  -- so it is with each list that took effect and whose call isn't announced. Once a call is to be announced its seat holds
  -- none, so its lists are dead or have made their change
  abbrev pub AllFollowed : World → (ℕ → Option (Held S)) → Type 0
  AllFollowed world held = (list : Listed) → Took world list 0 → IsUnannounced world list → IsFollowed world held list
