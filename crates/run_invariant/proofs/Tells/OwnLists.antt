-- What has come of a list that the machine that moves executes or wraps up: a wrap-up that goes on, the change of its call, or
-- that it is dead.
use Rattle.std.proofs.Common.{◌≡◌, ap, ℕ, Option, Some, None}
use Rattle.arrayvec.specs.ArrayVec.{ArrayVec}
use Rattle.step_memory.specs.declared.steps.Seen.{Seen}
use Rattle.normal_traits.specs.World.{World}
use Rattle.normal_traits.specs.NormalForm.{NormalForm}
use Rattle.normal_traits.specs.Laws.{Laws, WrappedWell}
use Rattle.normal_traits.specs.Steps.{Requested}
use Rattle.cas_executor.specs.declared.fast_run.Execution.TheVariants as execution
use Rattle.cas_executor.specs.FastRuns.{FastWalk, fast_execution}
use Rattle.fast_slow_engine.specs.Mechs.{Mech}
use Rattle.offered_blocks.specs.Blocks.{Offer}
use Rattle.move_kinds.specs.Moves.{Leaves}
use Rattle.helper_knowledge.specs.Callers.{Caller}
use Rattle.kept_knowledge.specs.Ghosts.{Held}
use Rattle.kept_knowledge.specs.Lists.{IsOffering}
use Rattle.kept_knowledge.specs.Known.{IsStillOffered, KnowsRun, KnowsWrap}
use Rattle.kept_knowledge.specs.Moves.{Enters}
use Rattle.kept_knowledge.proofs.Goes.Runs.{has_run, run_stopped}
use Rattle.kept_knowledge.proofs.Goes.Wraps.{wrap_begins}

module _ {S W : Type 0} (form : NormalForm S W) (laws : Laws form) (world after : World) (offers offers' : ℕ → Option (Offer S)) (callers : ℕ → Caller) (seen : Seen) (leaves : Leaves form world after offers offers' None)
    (shape : form.shape world) (shape' : form.shape after) where
  still_offered : (held : Held S) → IsStillOffered form world held → IsStillOffered form after held
  still_offered held is = record {
    command = is.command;
    ready = is.ready;
    small = is.small;
    entries = is.entries;
    knows = laws.knows_kept world after held.offering held.list.call.op held.since is.command shape is.knows leaves.step;
  }

  -- where it stops
  pub run_ends : (one : Mech S W) (run : FastWalk) (stores : ArrayVec (ℕ × ℕ)) (held : Held S) (stop : ℕ) → IsOffering form run stores one held → KnowsRun form world run held → Enters form world after offers offers' run (Some held) seen
      → fast_execution run seen ≡ execution.Stopped stop → WrappedWell form after held.list stop (form.begin_wrap_of one.op run.entries stop) (form.wrap_begun_of one.op run.entries stop)
  run_ends one run stores held stop offering knows enters is =
      let has = has_run form laws world after offers offers' run seen held shape knows offering.entries enters in
      let ended = run_stopped form world after run seen held stop leaves.grows knows offering.entries has is in
      wrap_begins form laws after offers' callers 0 None shape' one.op run.entries held stop (still_offered held knows.offered) ended.0 (ap (λ c. c.op) offering.held_by.call) offering.entries

  -- and in its wrap-up
  pub wrap_goes : (w : W) (held : Held S) → KnowsWrap form world w held → Requested form (form.wrap_request_of w) world after seen → WrappedWell form after held.list held.stop (form.feed_wrap_of w seen) (form.wrap_found_of w seen)
  wrap_goes w held knows asked = laws.wrap_fed world after seen w held.list held.stop knows.offered.command shape knows.wraps knows.follows asked
