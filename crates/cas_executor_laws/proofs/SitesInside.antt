-- The block of a world is a site, and all its places are inside the memory.
use Rattle.std.proofs.Common.{◌∙◌, ap, ℕ, ◌+◌, ◌<◌, List, length, arith}
use Rattle.step_memory.specs.Step.{requested_place}
use Rattle.word_fields.specs.Versioned.{versioned_bit, versioned_version}
use Rattle.word_fields.proofs.ChangedWords.{bit-changed, version-changed_below}
use Rattle.node_arena.specs.declared.places.TheConstants.{STATE_FIELD}
use Rattle.node_arena.proofs.PlacesApart.{block_place_inside}
use Rattle.normal_traits.specs.declared.lists.Entry.{Entry}
use Rattle.cas_executor.specs.declared.slow_run.SlowStep.{SlowStep}
use Rattle.cas_executor.specs.declared.slow_run.SlowStep.TheVariants.{LoadState, Install, LoadTarget, Succeed, Fail, LoadDecision, Clear}
use Rattle.cas_executor.specs.SlowRuns.{state_place, step_request}
use Rattle.cas_executor_laws.specs.ExecRuns.{ExecSetup, CanOpen, CanList, IsEntry}
use Rattle.cas_executor_laws.specs.Entries.{IsRaised}
use Rattle.cas_executor_laws.specs.Parts.{Site, IsSite}

-- the block of a setup
abbrev pub site_of : ExecSetup → Site
site_of setup = record { block = setup.block; entries = setup.entries }

pub is_raised : (block : ℕ) (words : List ℕ) (entry : Entry) → CanList block words entry → IsRaised entry
is_raised block words entry can =
    record {
      from_clear = can.clear;
      to_clear = ap versioned_bit can.to ∙ bit-changed entry.from can.value can.small;
      version = ap versioned_version can.to ∙ version-changed_below entry.from can.value can.small (omega (arith, can.below));
    }

pub is_site : (setup : ExecSetup) → CanOpen setup → IsSite (site_of setup)
is_site setup can =
    record {
      short = can.short.1;
      raised = λ j entry listed. is_raised setup.block setup.words entry (can.listed j entry listed);
      apart = can.apart;
      outside = λ i j entry few listed. (can.listed j entry listed).outside (STATE_FIELD + i) (omega (arith, few));
    }

pub state_inside : (setup : ExecSetup) → CanOpen setup → (j : ℕ) → j < 2 → state_place setup.block j < length setup.words
state_inside setup can j few =
    omega (arith, block_place_inside setup.block setup.block (STATE_FIELD + j) (omega arith) (omega (arith, few)), can.room)

-- the place of a step on an entry is inside the memory
pub step_inside : (setup : ExecSetup) → CanOpen setup → (j : ℕ) (entry : Entry) → j < length setup.entries → IsEntry setup.entries j entry → (step : SlowStep)
    → requested_place (step_request setup.block j entry step) < length setup.words
step_inside setup can j entry within listed LoadState = state_inside setup can j (omega (arith, within, can.short.1))
step_inside setup can j entry within listed Install = (can.listed j entry listed).inside
step_inside setup can j entry within listed LoadTarget = (can.listed j entry listed).inside
step_inside setup can j entry within listed Succeed = state_inside setup can j (omega (arith, within, can.short.1))
step_inside setup can j entry within listed Fail = state_inside setup can j (omega (arith, within, can.short.1))
step_inside setup can j entry within listed LoadDecision = state_inside setup can j (omega (arith, within, can.short.1))
step_inside setup can j entry within listed Clear = (can.listed j entry listed).inside
