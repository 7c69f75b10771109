-- What a step of a machine does to the client's world, beside the word that it writes.
use Rattle.std.specs.Prelude.{ℕ, if◌then◌else◌, slice_get, Option, Some, None}
use Rattle.step_memory.specs.declared.steps.Request.{Request}
use Rattle.step_memory.specs.declared.steps.Request.TheVariants.{Exchange}
use Rattle.step_memory.specs.declared.steps.Seen.{Seen}
use Rattle.normal_traits.specs.declared.lists.Entry.{Entry}
use Rattle.normal_traits.specs.World.{Listed, World}
use Rattle.normal_traits.specs.World.Maker.{By, Beside}
use Rattle.normal_traits.specs.NormalForm.{NormalForm}
use Rattle.normal_traits.specs.Steps.{exchanged, listed_if, using_block}
use Rattle.cas_executor.specs.FastRuns.{FastWalk}
use Rattle.cas_executor.specs.SlowRuns.{SlowWalk}
use Rattle.fast_slow_engine.specs.declared.phases.Phase.{Phase}
use Rattle.fast_slow_engine.specs.declared.phases.Phase.TheVariants as phase
use Rattle.fast_slow_engine.specs.declared.phases.Generating.TheVariants.{Search}
use Rattle.fast_slow_engine.specs.declared.phases.Applying.TheVariants.{Execute}
use Rattle.fast_slow_engine.specs.declared.help.Helping.{Helping}
use Rattle.fast_slow_engine.specs.declared.help.Helping.TheVariants.{Known}
use Rattle.fast_slow_engine.specs.declared.help.Work.{Work}
use Rattle.fast_slow_engine.specs.declared.help.Work.TheVariants as work
use Rattle.fast_slow_engine.specs.HelpWords.{named_block}
use Rattle.offered_blocks.specs.Blocks.{Offer}
use Rattle.offered_blocks.specs.RunWorlds.{ran_world}
use Rattle.run_world.specs.Ghosts.{Held, uses_block}

-- with the block of a list used, if it is its first entry that takes effect
abbrev pub with_block : Listed → ℕ → World → World
with_block list j world =
    if uses_block list j then record { words = world.words; changes = world.changes; used = using_block list.block world.used; journal = world.journal }
    else world

module _ {S W : Type 0} (form : NormalForm S W) where
  -- a won exchange of a search or a wrap-up
  abbrev pub won_beside : Request → World → World
  won_beside (Exchange at from to) world =
      exchanged form Beside (form.adds_beside world (record { target = at; from = from; to = to })) (record { target = at; from = from; to = to }) to world
  won_beside _ world = world

  abbrev pub asked_beside : Request → Seen → World → World
  asked_beside request seen world = if seen.won then won_beside request world else world

  -- entry j of a list wins that its own seat executes: its bit is clear
  abbrev pub won_entry : Listed → ℕ → Option Entry → World → World
  won_entry list j None world = world
  won_entry list j (Some entry) world = with_block list j (exchanged form (By list j) (listed_if (form.adds list j) list) entry entry.to world)

  abbrev pub asked_listed : Option (Held S) → FastWalk → Seen → World → World
  asked_listed None run seen world = world
  asked_listed (Some held) run seen world = if seen.won then won_entry held.list run.next (slice_get run.entries run.next) world else world

  -- a step of a run on the list that a record has named for its block
  abbrev pub asked_named : Option (Offer S) → SlowWalk → Seen → World → World
  asked_named None run seen world = world
  asked_named (Some offer) run seen world = ran_world form world offer run seen world.words

  abbrev pub world_worked : Work S W → Option (Offer S) → Seen → World → World
  world_worked (work.Generate op search Search) offer seen world = asked_beside (form.request_of search) seen world
  world_worked (work.Execute run) offer seen world = asked_named offer run seen world
  world_worked (work.Wrap wrap) offer seen world = asked_beside (form.wrap_request_of wrap) seen world
  world_worked _ offer seen world = world

  abbrev pub world_helped : Helping S W → (ℕ → Option (Offer S)) → Seen → World → World
  world_helped (Known word does) offers seen world = world_worked does (offers (named_block word)) seen world
  world_helped _ offers seen world = world

  -- the world after a step of a machine in this phase, but for the word of a step that is no won exchange
  -- of the client
  abbrev pub world_stepped : Phase S W → Option (Held S) → (ℕ → Option (Offer S)) → Seen → World → World
  world_stepped (phase.Generate search Search) held offers seen world = asked_beside (form.request_of search) seen world
  world_stepped (phase.Apply run stores Execute) held offers seen world = asked_listed held run seen world
  world_stepped (phase.Wrap wrap) held offers seen world = asked_beside (form.wrap_request_of wrap) seen world
  world_stepped (phase.Help drives help) held offers seen world = world_helped help.at offers seen world
  world_stepped _ held offers seen world = world
