-- What is known of the machine that moves, with the call that it begins.
use Rattle.std.proofs.Common.{◌≡◌, ◌≢◌, sym, subst, ap, ℕ, ◌^◌, ◌<◌, ◌≤◌, true, List, slice_get, Option, Some, None, arith}
use Rattle.std.proofs.lemmas.Option.{slice_get_within}
use Rattle.lin_report.specs.declared.calls.Op.{Op}
use Rattle.lin_report.specs.Object.{IsCommandOf}
use Rattle.normal_traits.specs.World.{World}
use Rattle.normal_traits.specs.NormalForm.{NormalForm}
use Rattle.fast_slow_engine.specs.declared.phases.Phase.{Phase}
use Rattle.fast_slow_engine.specs.declared.phases.Phase.TheVariants as phase
use Rattle.fast_slow_engine.specs.declared.setup.Setup.{Setup}
use Rattle.fast_slow_engine.specs.Mechs.{Mech}
use Rattle.fast_slow_engine.specs.PhaseTable.{rests}
use Rattle.fast_slow_engine.specs.Runs.{AreMoves, CanMove, Move, begun, run_of}
use Rattle.offered_blocks.specs.Blocks.{Offer}
use Rattle.offered_blocks.specs.OtherSteps.{IsSpare}
use Rattle.run_queue.proofs.Runs.RunMoves.{runs_queued}
use Rattle.run_world.specs.Ghosts.{Held}
use Rattle.run_world.specs.Identities.{list_held, list_offered}
use Rattle.run_world.specs.Identities.Keeper.{holder, named}
use Rattle.run_world.specs.InHand.{BlockIn, IsUnspent}
use Rattle.run_world.specs.Lists.{HoldsIn}
use Rattle.run_world.specs.RunGhosts.{ghost_of, world_of}
use Rattle.run_world.proofs.Holding.HeldLists.{lists_held}
use Rattle.run_world.proofs.Names.Kept.{identities_differ}
use Rattle.run_hands.proofs.Blocks.OwnBlocks.{blocks_held}
use Rattle.run_hands.proofs.Blocks.Spare.{hands_spare}
use Rattle.step_knowledge.specs.Known.{KnowsIn, MakesCommand}
use Rattle.run_knowledge.specs.Kept.{IsKept, callers_in}
use Rattle.run_knowledge.proofs.Bounds.InKept.{keeps_claims, keeps_queue}

-- a machine that rests holds no list, and has used no block of its hand
rest_holds : {S W : Type 0} (form : NormalForm S W) (at : Phase S W) (mech : Mech S W) (held : Option (Held S)) → rests at ≡ true → HoldsIn form at mech held → held ≡ None
rest_holds form phase.Idle mech held rest is = is
rest_holds form phase.Begin mech held rest is = is
rest_holds form phase.Look mech held rest is = is
rest_holds form (phase.Generate s step) mech held rest is = is
rest_holds form (phase.Apply run stores step) mech held rest is = absurd cc
rest_holds form (phase.Wrap w) mech held rest is = absurd cc
rest_holds form (phase.Announce step) mech held rest is = is
rest_holds form (phase.Enter owner) mech held rest is = is
rest_holds form phase.Drive mech held rest is = is
rest_holds form (phase.Help drives help) mech held rest is = is
rest_holds form phase.Collect mech held rest is = is
rest_holds form (phase.Value reference) mech held rest is = is
rest_holds form (phase.End reply) mech held rest is = is

rest_unspent : {S W : Type 0} (form : NormalForm S W) (at : Phase S W) (op : Op) → rests at ≡ true → IsUnspent form op at
rest_unspent form phase.Idle op rest = tt
rest_unspent form phase.Begin op rest = absurd cc
rest_unspent form phase.Look op rest = absurd cc
rest_unspent form (phase.Generate s step) op rest = absurd cc
rest_unspent form (phase.Apply run stores step) op rest = absurd cc
rest_unspent form (phase.Wrap w) op rest = absurd cc
rest_unspent form (phase.Announce step) op rest = absurd cc
rest_unspent form (phase.Enter owner) op rest = absurd cc
rest_unspent form phase.Drive op rest = absurd cc
rest_unspent form (phase.Help drives help) op rest = absurd cc
rest_unspent form phase.Collect op rest = absurd cc
rest_unspent form (phase.Value reference) op rest = absurd cc
rest_unspent form (phase.End reply) op rest = absurd cc

makes_command : {S W : Type 0} (form : NormalForm S W) (at : Phase S W) (mech : Mech S W) → IsCommandOf form.object mech.op → MakesCommand form at mech
makes_command form phase.Idle mech is = tt
makes_command form _ mech is = is

apart_keepers : {A : Type 0} (seat block : ℕ) → holder seat ≡ named block → A
apart_keepers seat block e = absurd cc

module _ {S W : Type 0} (form : NormalForm S W) (setup : Setup) (older : List Move) (are : AreMoves form setup older) (kept : IsKept form setup older) where
  abbrev world : World
  world = world_of form setup older

  abbrev offers : ℕ → Option (Offer S)
  offers = (ghost_of form setup older).offers

  -- of a machine with the call that it begins, if it begins one
  pub record KnowsMover (seat : ℕ) (mech : Mech S W) : Type 0 where
    pub seat_is : mech.seat ≡ seat
    pub setup_is : mech.setup ≡ setup
    pub few : mech.seat < 8
    pub number : mech.number < 2 ^ 16
    pub command : MakesCommand form mech.phase mech
    pub knows : KnowsIn form mech.phase mech ((ghost_of form setup older).seats seat) world offers (callers_in (run_of form setup older) (ghost_of form setup older))
    pub lists : HoldsIn form mech.phase mech ((ghost_of form setup older).seats seat).held
    pub block : BlockIn form mech.phase mech ((ghost_of form setup older).seats seat).held
    pub spare : (block : ℕ) → mech.hand ≡ Some block → IsUnspent form mech.op mech.phase → IsSpare world offers block
    pub within : (block : ℕ) → mech.hand ≡ Some block → block ≤ setup.cap

  module _ (seat : ℕ) (mech : Mech S W) (at : slice_get (run_of form setup older).mechs seat ≡ Some mech) where
    few_seats : seat < 8
    few_seats =
        let q = runs_queued form setup older are (keeps_queue form setup older are kept) in
        (let inside = slice_get_within (run_of form setup older).mechs seat mech at in let many = q.count in let most = setup.few_seats in omega (arith, inside, many, most))

    hands : (block : ℕ) → mech.hand ≡ Some block → IsUnspent form mech.op mech.phase → IsSpare world offers block
    hands block has unspent =
        let is = hands_spare form setup older are (keeps_claims form setup older are kept) seat mech at block has in
        record { some = is.some; unused = is.unused unspent; unnamed = is.unnamed }

    pub mover_knows : (begins : Option Op) → CanMove form begins mech → KnowsMover seat (begun begins mech)
    mover_knows None can =
        let q = (runs_queued form setup older are (keeps_queue form setup older are kept)).seats seat mech at in
        let known = kept.seats seat mech at in
        let most = q.most in
        record {
          seat_is = q.seat;
          setup_is = q.setup';
          few = subst (λ s. s < 8) (sym q.seat) few_seats;
          number = omega (arith, most);
          command = makes_command form mech.phase mech (known.command (q.runs can).0);
          knows = known.knows;
          lists = lists_held form setup older are seat mech at;
          block = blocks_held form setup older are seat mech at;
          spare = hands;
          within = λ block has. (hands_spare form setup older are (keeps_claims form setup older are kept) seat mech at block has).within;
        }
    mover_knows (Some op) can =
        let q = (runs_queued form setup older are (keeps_queue form setup older are kept)).seats seat mech at in
        let few = can.1 in
        record {
          seat_is = q.seat;
          setup_is = q.setup';
          few = subst (λ s. s < 8) (sym q.seat) few_seats;
          number = omega (arith, few);
          command = can.2;
          knows = tt;
          lists = rest_holds form mech.phase mech _ can.0 (lists_held form setup older are seat mech at);
          block = tt;
          spare = λ block has unspent. hands block has (rest_unspent form mech.phase mech.op can.0);
          within = λ block has. (hands_spare form setup older are (keeps_claims form setup older are kept) seat mech at block has).within;
        }

  -- no named list has the identity of one that a seat holds
  pub apart : (seat block : ℕ) (offer : Offer S) (held : Held S) → offers block ≡ Some offer → ((ghost_of form setup older).seats seat).held ≡ Some held → held.list.identity ≢ offer.list.identity
  apart seat block offer held stands has same =
      apart_keepers seat block (identities_differ form setup older (holder seat) (named block) held.list offer.list (ap list_held has) (ap list_offered stands) same)
