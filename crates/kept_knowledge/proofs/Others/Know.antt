-- What the machines of the other seats know is kept by a move: their calls, their lists and their blocks are not the mover's.
use Rattle.std.proofs.Common.{◌≡◌, ◌≢◌, ◌∙◌, refl, sym, ap, ℕ, ◌⊎◌, true, inl, inr, List, ◌∷◌, slice_get, Option, Some, None}
use Rattle.std.proofs.lemmas.Bool.{cases_Bool}
use Rattle.normal_traits.specs.World.{Listed, World}
use Rattle.normal_traits.specs.NormalForm.{NormalForm}
use Rattle.normal_traits.specs.Laws.{Laws}
use Rattle.fast_slow_engine.specs.declared.phases.Phase.{Phase}
use Rattle.fast_slow_engine.specs.declared.phases.Phase.TheVariants as phase
use Rattle.fast_slow_engine.specs.declared.setup.Setup.{Setup}
use Rattle.fast_slow_engine.specs.Mechs.{Mech}
use Rattle.fast_slow_engine.specs.PhaseTable.{rests}
use Rattle.fast_slow_engine.specs.Runs.{AreMoves, Move, run_of}
use Rattle.offered_blocks.specs.Blocks.{Offer}
use Rattle.run_knowledge.specs.Ghosts.{Held, SeatGhost}
use Rattle.run_knowledge.specs.Identities.{Keeper, kept_list, list_held}
use Rattle.run_knowledge.specs.Identities.Keeper.{holder, named}
use Rattle.run_knowledge.specs.RunGhosts.{ghost_of, world_of}
use Rattle.run_knowledge.specs.Known.{KnowsIn, NoneFrom}
use Rattle.run_knowledge.specs.Others.{StaysBeside}
use Rattle.run_knowledge.specs.Kept.{IsKept, callers_in}
use Rattle.run_knowledge.proofs.Names.Journal.{won_came}
use Rattle.run_knowledge.proofs.Names.Kept.{identities_differ}
use Rattle.run_knowledge.proofs.Blocks.Spare.{hands_spare}
use Rattle.run_knowledge.proofs.Stays.OtherSeats.{others_know}
use Rattle.run_knowledge.proofs.Bounds.InKept.{keeps_claims}
use Rattle.run_knowledge.proofs.InRuns.Leaves.{kind}
use Rattle.run_knowledge.proofs.InRuns.Mover.{KnowsMover, mover_knows}
use Rattle.helper_knowledge.specs.Callers.{Caller}
use Rattle.kept_knowledge.proofs.Others.Callers.{follows_after}

same_holder : (seat other : ℕ) → holder seat ≡ holder other → seat ≡ other
same_holder seat other e = cc

not_named : {A : Type 0} (seat block : ℕ) → holder seat ≡ named block → A
not_named seat block e = absurd cc

module _ {S W : Type 0} (form : NormalForm S W) (laws : Laws form) (setup : Setup) (older : List Move) (move : Move) (mech : Mech S W) (are : AreMoves form setup (move ∷ older))
    (at : slice_get (run_of form setup older).mechs move.seat ≡ Some mech) (kept : IsKept form setup older) where
  abbrev world : World
  world = world_of form setup older

  abbrev after : World
  after = world_of form setup (move ∷ older)

  abbrev offers : ℕ → Option (Offer S)
  offers = (ghost_of form setup older).offers

  abbrev offers' : ℕ → Option (Offer S)
  offers' = (ghost_of form setup (move ∷ older)).offers

  abbrev callers : ℕ → Caller
  callers = callers_in (run_of form setup older) (ghost_of form setup older)

  abbrev callers' : ℕ → Caller
  callers' = callers_in (run_of form setup (move ∷ older)) (ghost_of form setup (move ∷ older))

  module _ (seat : ℕ) (mate : Mech S W) (apart : seat ≢ move.seat) (found : slice_get (run_of form setup older).mechs seat ≡ Some mate) where
    abbrev own : SeatGhost S
    own = (ghost_of form setup older).seats seat

    -- an entry that takes effect by the move is of the mover's list or of a named one, so it isn't of this seat's
    not_theirs : {A : Type 0} (held : Held S) → own.held ≡ Some held → (other : Listed) → other.identity ≡ held.list.identity → (k : Keeper) → kept_list (ghost_of form setup older) k ≡ Some other
        → (k ≡ holder move.seat) ⊎ ((block : ℕ) × (k ≡ named block)) → A
    not_theirs held has other same k is whose =
        let keepers : holder seat ≡ k = identities_differ form setup older (holder seat) k held.list other (ap list_held has) is (sym same) in
        elim whose [
          | inl mine ↦ absurd (apart (same_holder seat move.seat (keepers ∙ mine)))
          | inr there ↦ not_named seat there.0 (keepers ∙ there.1)
        ]

    none_after : (held : Held S) (least : ℕ) → own.held ≡ Some held → NoneFrom world held.list.identity least → NoneFrom after held.list.identity least
    none_after held least has none other j same past took =
        elim (won_came form setup older move _ other j took.won refl) [
          | inl old ↦ none other j same past (record { entry = took.entry; cause = took.cause; listed = took.listed; won = old })
          | inr mine ↦ not_theirs held has other same mine.0 mine.1 mine.2
        ]

    -- the block in its hand isn't the mover's
    hands_apart : (block : ℕ) → mate.hand ≡ Some block → mech.hand ≢ Some block
    hands_apart block has mine = apart ((hands_spare form setup older are.0 (keeps_claims form setup older are.0 kept) seat mate found block has).alone move.seat mech at mine)

    beside : KnowsMover form setup older are.0 kept seat mate → StaysBeside form world after offers mech.hand callers callers' mate.phase mate own
    beside known = record {
      command = known.command;
      lists = known.lists;
      block = known.block;
      spare = λ block has unspent. (known.spare block has unspent, hands_apart block has);
      none = none_after;
      follows = follows_after form laws setup older move mech are at kept seat mate found mate.phase refl;
    }

    -- a machine that rests knows nothing
    rest_knows : (p : Phase S W) → rests p ≡ true → KnowsIn form p mate own after offers' callers'
    rest_knows phase.Idle rest = tt
    rest_knows phase.Begin rest = absurd cc
    rest_knows phase.Look rest = absurd cc
    rest_knows (phase.Generate s step) rest = absurd cc
    rest_knows (phase.Apply run stores step) rest = absurd cc
    rest_knows (phase.Wrap w) rest = absurd cc
    rest_knows (phase.Announce step) rest = absurd cc
    rest_knows (phase.Enter owner) rest = absurd cc
    rest_knows phase.Drive rest = absurd cc
    rest_knows (phase.Help drives help) rest = absurd cc
    rest_knows phase.Collect rest = absurd cc
    rest_knows (phase.Value reference) rest = absurd cc
    rest_knows (phase.End reply) rest = absurd cc

    -- what the machine of another seat knows after the move
    pub others_know_after : KnowsIn form mate.phase mate own after offers' callers'
    others_know_after =
        elim (cases_Bool (rests mate.phase)) [
          | inl rest ↦ rest_knows mate.phase rest
          | inr runs ↦
              others_know form laws world after offers offers' move.seat mech.hand callers callers' mate.phase mate own kept.holds (kind form laws setup older move mech are at kept)
              (beside (mover_knows form setup older are.0 kept seat mate found None runs)) (kept.seats seat mate found).knows
        ]
