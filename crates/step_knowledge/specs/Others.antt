-- What a machine knows stays true where another seat moves, whatever that does.
use Rattle.std.specs.Prelude.{◌≡◌, ◌≢◌, ℕ, ◌≤◌, Option, Some}
use Rattle.word_fields.specs.Records.{record_number}
use Rattle.normal_traits.specs.World.{World}
use Rattle.normal_traits.specs.NormalForm.{NormalForm}
use Rattle.fast_slow_engine.specs.declared.phases.Phase.{Phase}
use Rattle.fast_slow_engine.specs.declared.phases.Phase.TheVariants as phase
use Rattle.fast_slow_engine.specs.declared.help.Helping.{Helping}
use Rattle.fast_slow_engine.specs.declared.help.Helping.TheVariants.{Known}
use Rattle.fast_slow_engine.specs.Mechs.{Mech}
use Rattle.offered_blocks.specs.Blocks.{Offer}
use Rattle.offered_blocks.specs.Holds.{HasOffers}
use Rattle.offered_blocks.specs.OtherSteps.{IsSpare}
use Rattle.move_kinds.specs.Kinds.{Kind}
use Rattle.helper_knowledge.specs.Callers.{Caller, KeepsCall}
use Rattle.run_world.specs.Ghosts.{Held, SeatGhost}
use Rattle.run_world.specs.InHand.{BlockIn, IsUnspent}
use Rattle.run_world.specs.Lists.{HoldsIn}
use Rattle.step_knowledge.specs.Known.{KnowsIn, MakesCommand, NoneFrom}

-- the seat of the call that a helper works on makes it after the move only if it did before, and no call is before that
abbrev pub FollowsHelp : {S W : Type 0} → Helping S W → ℕ → (ℕ → Caller) → (ℕ → Caller) → Type 0
FollowsHelp (Known word does) head callers callers' = KeepsCall (callers head) (callers' head) (record_number word) × ((callers head).number ≤ (callers' head).number)
FollowsHelp _ head callers callers' = Unit {0}

abbrev pub FollowsIn : {S W : Type 0} → Phase S W → (ℕ → Caller) → (ℕ → Caller) → Type 0
FollowsIn (phase.Help drives help) callers callers' = FollowsHelp help.at help.head callers callers'
FollowsIn _ callers callers' = Unit {0}

module _ {S W : Type 0} (form : NormalForm S W) (world after : World) (offers : ℕ → Option (Offer S)) (hand : Option ℕ) (callers callers' : ℕ → Caller) where
  -- what is known beside of a machine in this phase, whose seat doesn't move: the block in its hand is spare, until an entry of
  -- its list took effect, and isn't the mover's; and no entry of its list takes effect by the move
  pub record StaysBeside (at : Phase S W) (mech : Mech S W) (own : SeatGhost S) : Type 0 where
    pub command : MakesCommand form at mech
    pub lists : HoldsIn form at mech own.held
    pub block : BlockIn form at mech own.held
    pub spare : (block : ℕ) → mech.hand ≡ Some block → IsUnspent form mech.op at → IsSpare world offers block × (hand ≢ Some block)
    pub none : (held : Held S) (least : ℕ) → own.held ≡ Some held → NoneFrom world held.list.identity least → NoneFrom after held.list.identity least
    pub follows : FollowsIn at callers callers'

module _ {S W : Type 0} (form : NormalForm S W) where
  -- so it is with every kind of another seat's move
  abbrev pub OthersKnow : Type 0
  OthersKnow =
      (world after : World) (offers offers' : ℕ → Option (Offer S)) (mover : ℕ) (hand : Option ℕ) (callers callers' : ℕ → Caller) (at : Phase S W) (mech : Mech S W) (own : SeatGhost S)
      → HasOffers form world offers → Kind form world after offers offers' mover hand → StaysBeside form world after offers hand callers callers' at mech own
      → KnowsIn form at mech own world offers callers → KnowsIn form at mech own after offers' callers'
