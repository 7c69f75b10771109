-- Each move of a run is a step of its phase, where its request is inside the memory.
use Rattle.std.specs.Prelude.{◌≡◌, ℕ, ◌+◌, ◌^◌, ◌<◌, ◌≤◌, true, List, ◌∷◌, length, slice_get, slice_index, Option, Some}
use Rattle.step_memory.specs.declared.steps.Request.{Request}
use Rattle.step_memory.specs.declared.steps.Request.TheVariants.{Load, Store, Exchange, Add}
use Rattle.step_memory.specs.Step.{requested_place, seen_of}
use Rattle.word_fields.specs.Records.{record_phase}
use Rattle.word_fields.specs.Versioned.{versioned_version}
use Rattle.help_queue.specs.Gathers.{is_open}
use Rattle.normal_traits.specs.declared.lists.Entry.{Entry}
use Rattle.normal_traits.specs.NormalForm.{NormalForm}
use Rattle.cas_executor.specs.SlowRuns.{slow_request}
use Rattle.fast_slow_engine.specs.declared.phases.Phase.{Phase}
use Rattle.fast_slow_engine.specs.declared.phases.Phase.TheVariants as phase
use Rattle.fast_slow_engine.specs.declared.phases.Generating.TheVariants.{Search}
use Rattle.fast_slow_engine.specs.declared.phases.Applying.TheVariants.{Fill, Execute}
use Rattle.fast_slow_engine.specs.declared.setup.Setup.{Setup}
use Rattle.fast_slow_engine.specs.declared.help.Helping.{Helping}
use Rattle.fast_slow_engine.specs.declared.help.Helping.TheVariants.{Known}
use Rattle.fast_slow_engine.specs.declared.help.Work.{Work}
use Rattle.fast_slow_engine.specs.declared.help.Work.TheVariants as work
use Rattle.fast_slow_engine.specs.Mechs.{Mech}
use Rattle.fast_slow_engine.specs.PhaseTable.{mech_request}
use Rattle.fast_slow_engine.specs.Runs.{Move, begun, run_of}
use Rattle.run_world.specs.Ghosts.{Held}
use Rattle.run_world.specs.Lists.{HoldsIn}
use Rattle.run_world.specs.RunGhosts.{ghost_of, world_of}
use Rattle.step_knowledge.specs.Moves.{StepsIn}

-- the request is a load, or an exchange of a word whose version the exchange raises by one, inside the memory
abbrev pub AsksInside : Request → List ℕ → Type 0
AsksInside (Load at) words = at < length words
AsksInside (Store at value) words = ⊥
AsksInside (Exchange at from to) words = (at < length words) × (slice_index words at ≡ from → versioned_version to ≡ versioned_version from + 1)
AsksInside (Add at by) words = ⊥

-- so is the next store
abbrev pub StoresInside : Option (ℕ × ℕ) → List ℕ → Type 0
StoresInside next words = (store : ℕ × ℕ) → next ≡ Some store → store.0 < length words

module _ {S W : Type 0} (form : NormalForm S W) where
  -- of a helper's work; what it looks at the head for is open
  abbrev pub WorkInside : Work S W → ℕ → List ℕ → Type 0
  WorkInside work.Head word words = is_open (record_phase word) ≡ true
  WorkInside (work.Generate op s Search) word words = AsksInside (form.request_of s) words
  WorkInside (work.Fill stores made) word words = StoresInside (slice_get stores.items made) words
  WorkInside (work.Execute run) word words = requested_place (slow_request run) < length words
  WorkInside (work.Wrap wrap) word words = AsksInside (form.wrap_request_of wrap) words
  WorkInside _ word words = Unit {0}

  abbrev pub HelpInside : Helping S W → List ℕ → Type 0
  HelpInside (Known word does) words = WorkInside does word words
  HelpInside _ words = Unit {0}

  abbrev pub PhaseInside : Phase S W → List ℕ → Type 0
  PhaseInside (phase.Generate s Search) words = AsksInside (form.request_of s) words
  PhaseInside (phase.Apply run stores (Fill made)) words = StoresInside (slice_get stores.items made) words
  PhaseInside (phase.Apply run stores Execute) words = (entry : Entry) × (slice_get run.entries run.next ≡ Some entry) × (entry.target < length words)
  PhaseInside (phase.Wrap wrap) words = AsksInside (form.wrap_request_of wrap) words
  PhaseInside (phase.Help drives help) words = (help.head < 8) × HelpInside help.at words
  PhaseInside _ words = Unit {0}

  -- of a machine with its list: the memory has the first words, and the blocks are those of an arena
  pub record IsInside (at : Phase S W) (mech : Mech S W) (held : Option (Held S)) (words : List ℕ) : Type 0 where
    pub first : 32 ≤ length words
    pub few : mech.seat < 8
    pub lists : HoldsIn form at mech held
    pub asks : PhaseInside at words
    pub cap : mech.setup.cap < 2 ^ 17
    pub small : (block : ℕ) → mech.hand ≡ Some block → block < 2 ^ 17

  -- each move is the step of its phase
  abbrev pub MovesStep : Type 0
  MovesStep =
      (setup : Setup) (older : List Move) (move : Move) (mech : Mech S W) → slice_get (run_of form setup older).mechs move.seat ≡ Some mech
      → IsInside (begun move.begins mech).phase (begun move.begins mech) ((ghost_of form setup older).seats move.seat).held (run_of form setup older).words
      → StepsIn form (world_of form setup older) (world_of form setup (move ∷ older)) (ghost_of form setup older).offers (ghost_of form setup (move ∷ older)).offers
      (begun move.begins mech).phase (begun move.begins mech) ((ghost_of form setup older).seats move.seat) ((ghost_of form setup (move ∷ older)).seats move.seat) (length older)
      (seen_of (mech_request form (begun move.begins mech)) (run_of form setup older).words)
