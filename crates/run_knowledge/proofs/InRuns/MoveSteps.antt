-- Each move of a run is the step of its phase.
use Rattle.std.proofs.Common.{refl, sym, subst, ℕ, List, ◌∷◌, length, Option, if◌then◌else◌}
use Rattle.step_memory.specs.declared.steps.Seen.{Seen}
use Rattle.step_memory.specs.Step.{seen_of, words_after}
use Rattle.normal_traits.specs.World.{World}
use Rattle.normal_traits.specs.NormalForm.{NormalForm}
use Rattle.fast_slow_engine.specs.declared.phases.Phase.{Phase}
use Rattle.fast_slow_engine.specs.declared.phases.Phase.TheVariants as phase
use Rattle.fast_slow_engine.specs.Mechs.{Mech}
use Rattle.fast_slow_engine.specs.PhaseTable.{request_in, stepped}
use Rattle.fast_slow_engine.specs.Runs.{begun, run_of}
use Rattle.offered_blocks.specs.Blocks.{Offer}
use Rattle.run_world.specs.Ghosts.{SeatGhost}
use Rattle.run_world.specs.RunGhosts.{ghost_of, world_of}
use Rattle.run_world.specs.SeatSteps.{begun_after, filled_after, held_in, list_after, offers_after, searches_on}
use Rattle.run_world.specs.Worlds.{world_stepped}
use Rattle.run_world.proofs.Words.Moved.{made_moved, made_offers, made_seat, seat_after, seen_by, with_list}
use Rattle.step_knowledge.specs.Moves.{StepsIn}
use Rattle.run_knowledge.specs.InMemory.{IsInside, MovesStep}
use Rattle.run_knowledge.proofs.InRuns.Asked.{here}
use Rattle.run_knowledge.proofs.InRuns.HelpMade.{help_steps}
use Rattle.run_knowledge.proofs.InRuns.OwnMade.{own_steps}

module _ {S W : Type 0} (form : NormalForm S W) where
  module _ (words : List ℕ) (world : World) (offers : ℕ → Option (Offer S)) (mech : Mech S W) (own : SeatGhost S) (identity : ℕ) where
    abbrev seen_in : Phase S W → Seen
    seen_in at = seen_of (request_in form at mech) words

    abbrev stepped_world : Phase S W → World
    stepped_world at = world_stepped form at own.held offers (seen_in at) (here words world)

    abbrev after_in : Phase S W → World
    after_in at = with_list (words_after (request_in form at mech) words) (stepped_world at)

    -- what is known of the seat after a step in this phase
    abbrev own_in : Phase S W → SeatGhost S
    own_in at =
        record {
          begun = begun_after at (length (stepped_world at).changes) own.begun;
          held = held_in (stepped form at (seen_in at) mech).phase (list_after form identity at (seen_in at) own (stepped form at (seen_in at) mech));
          carried = record {
            since = if searches_on form at (seen_in at) then own.carried.since else length (stepped_world at).changes;
            filled = filled_after form identity at mech.hand mech.setup.cap (seen_in at) own.carried;
          };
        }

    pub made_steps : (at : Phase S W) → IsInside form at mech own.held words
        → StepsIn form (here words world) (after_in at) offers (offers_after at (seen_in at) own.carried.filled offers) at mech own (own_in at) identity (seen_in at)
    made_steps phase.Idle is = (refl, own_steps form words world offers offers mech own.held phase.Idle is)
    made_steps phase.Begin is = (refl, own_steps form words world offers offers mech own.held phase.Begin is)
    made_steps phase.Look is = (refl, own_steps form words world offers offers mech own.held phase.Look is)
    made_steps (phase.Generate s at) is = (refl, own_steps form words world offers offers mech own.held (phase.Generate s at) is)
    made_steps (phase.Apply run stores at) is = (refl, own_steps form words world offers offers mech own.held (phase.Apply run stores at) is)
    made_steps (phase.Wrap w) is = (refl, own_steps form words world offers offers mech own.held (phase.Wrap w) is)
    made_steps (phase.Announce at) is = (refl, own_steps form words world offers offers mech own.held (phase.Announce at) is)
    made_steps (phase.Enter owner) is = (refl, own_steps form words world offers offers mech own.held (phase.Enter owner) is)
    made_steps phase.Drive is = (refl, own_steps form words world offers offers mech own.held phase.Drive is)
    made_steps (phase.Help drives help) is = help_steps form words world offers mech help.head own.carried identity is.cap is.small help.at is.asks.0 is.first is.asks.1
    made_steps phase.Collect is = (refl, own_steps form words world offers offers mech own.held phase.Collect is)
    made_steps (phase.Value reference) is = (refl, own_steps form words world offers offers mech own.held (phase.Value reference) is)
    made_steps (phase.End reply) is = (refl, own_steps form words world offers offers mech own.held (phase.End reply) is)

  pub moves_step : MovesStep form
  moves_step setup older move mech at is =
      let one = begun move.begins mech in
      let words = (run_of form setup older).words in
      let world = world_of form setup older in
      let ghost = ghost_of form setup older in
      let own = ghost.seats move.seat in
      let seen = seen_by form setup older move mech in
      let Steps = λ (after : World) (offers' : ℕ → Option (Offer S)) (own' : SeatGhost S). StepsIn form world after ghost.offers offers' one.phase one own own' (length older) seen in
      subst (λ (o : SeatGhost S). Steps (world_of form setup (move ∷ older)) (ghost_of form setup (move ∷ older)).offers o) (sym (made_seat form setup older move mech at))
      (subst (λ (o : ℕ → Option (Offer S)). Steps (world_of form setup (move ∷ older)) o (seat_after form setup older move mech)) (sym (made_offers form setup older move mech at))
      (subst (λ (w : World). Steps w (offers_after one.phase seen own.carried.filled ghost.offers) (seat_after form setup older move mech)) (made_moved form setup older move mech at)
      (made_steps words world ghost.offers one own (length older) one.phase is)))
