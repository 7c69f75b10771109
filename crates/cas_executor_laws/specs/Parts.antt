-- The invariant of one offered block, part by part, over any memory: a word for each place, and which entries
-- took effect.
use Rattle.std.specs.Prelude.{◌≡◌, ◌≢◌, ℕ, ◌<◌, ◌≤◌, Bool, true, false, ◌⊎◌, List, length}
use Rattle.step_memory.specs.declared.steps.Request.{Request}
use Rattle.step_memory.specs.declared.steps.Seen.{Seen}
use Rattle.step_memory.specs.Step.{requested_place, word_after, seen_at}
use Rattle.normal_traits.specs.declared.lists.Entry.{Entry}
use Rattle.cas_executor.specs.declared.fast_run.Execution.{Execution}
use Rattle.cas_executor.specs.declared.fast_run.Execution.TheVariants.{Running, Stopped}
use Rattle.cas_executor.specs.declared.slow_run.EntryState.TheVariants.{Pending, Succeeded, Failed}
use Rattle.cas_executor.specs.declared.slow_run.SlowStep.{SlowStep}
use Rattle.cas_executor.specs.declared.slow_run.SlowStep.TheVariants.{LoadState, Install, LoadTarget, Succeed, Fail, LoadDecision, Clear}
use Rattle.cas_executor.specs.SlowRuns.{SlowWalk, installs, state_place, state_word}
use Rattle.cas_executor_laws.specs.ExecRuns.{IsEntry, HasOwnTargets}
use Rattle.cas_executor_laws.specs.Entries.{IsRaised, View, IsPast, IsShown, StandsOrPassed, Life, OwnsBit, Turn, LeavesBit}

-- ---- blocks

-- a block with its list
pub record Site : Type 0 where
  pub block : ℕ
  pub entries : List Entry

-- its entries are raised, have targets of their own, and none has the state of one of the two for its target
pub record IsSite (site : Site) : Type 0 where
  pub short : length site.entries ≤ 2
  pub raised : (j : ℕ) (entry : Entry) → IsEntry site.entries j entry → IsRaised entry
  pub apart : HasOwnTargets site.entries
  pub outside : (i j : ℕ) (entry : Entry) → i < 2 → IsEntry site.entries j entry → entry.target ≢ state_place site.block i

-- entry j, as it stands in a memory
abbrev pub view_in : Site → (ℕ → ℕ) → (ℕ → Bool) → ℕ → Entry → View
view_in site words took j entry = record { state = words (state_place site.block j); word = words entry.target; took = took j }

-- a fact of each entry
abbrev pub OfEach : Site → (Entry → View → Type 0) → (ℕ → ℕ) → (ℕ → Bool) → Type 0
OfEach site P words took = (j : ℕ) (entry : Entry) → IsEntry site.entries j entry → P entry (view_in site words took j entry)

-- ---- the parts

-- an entry that took effect, or is decided, stands behind entries that succeeded
pub record IsBehind (site : Site) (words : ℕ → ℕ) (took : ℕ → Bool) (j : ℕ) : Type 0 where
  pub taken : took j ≡ true → (i : ℕ) → i < j → words (state_place site.block i) ≡ state_word Succeeded
  pub decided : words (state_place site.block j) ≢ state_word Pending → (i : ℕ) → i < j → words (state_place site.block i) ≡ state_word Succeeded

abbrev pub InOrder : Site → (ℕ → ℕ) → (ℕ → Bool) → Type 0
InOrder site words took = (j : ℕ) → j < length site.entries → IsBehind site words took j

-- what holds of an offered block for ever
pub record Offered (site : Site) (words : ℕ → ℕ) (took : ℕ → Bool) : Type 0 where
  pub seen : OfEach site StandsOrPassed words took
  pub lives : OfEach site Life words took
  pub order : InOrder site words took

-- what holds besides while only its helpers set bits at its targets
abbrev pub OwnsBits : Site → (ℕ → ℕ) → (ℕ → Bool) → Type 0
OwnsBits site words took = OfEach site OwnsBit words took

-- what a helper at entry j needs: shown, the entry took effect
abbrev pub ShowsTaken : Site → (ℕ → ℕ) → (ℕ → Bool) → ℕ → Type 0
ShowsTaken site words took j = (entry : Entry) → IsEntry site.entries j entry → IsShown entry (view_in site words took j entry) → took j ≡ true

-- ---- steps

-- a step of anyone: what it does to each entry, where one that is taken or decided by it stands behind
-- entries that succeeded
pub record Deed (site : Site) (words : ℕ → ℕ) (took : ℕ → Bool) (after : ℕ → ℕ) (took' : ℕ → Bool) : Type 0 where
  pub turns : (j : ℕ) (entry : Entry) → IsEntry site.entries j entry → Turn entry (view_in site words took j entry) (view_in site after took' j entry)
  pub taken : (j : ℕ) → j < length site.entries → took' j ≢ took j → (i : ℕ) → i < j → words (state_place site.block i) ≡ state_word Succeeded
  pub decided : (j : ℕ) → j < length site.entries → after (state_place site.block j) ≢ words (state_place site.block j) → (i : ℕ) → i < j → words (state_place site.block i) ≡ state_word Succeeded

-- what an atomic step does to a memory that has its place, and what it tells
pub record RequestMade (request : Request) (words after : ℕ → ℕ) (seen : Seen) : Type 0 where
  pub here : after (requested_place request) ≡ word_after request (words (requested_place request))
  pub beside : (at : ℕ) → at ≢ requested_place request → after at ≡ words at
  pub tells : seen ≡ seen_at request (words (requested_place request))

-- ---- helpers

-- an entry is done: it succeeded, and its bit is clear for good
pub record IsDone (entry : Entry) (view : View) : Type 0 where
  pub succeeded : view.state ≡ state_word Succeeded
  pub past : IsPast entry view
  pub gone : ¬ IsShown entry view

-- what a helper knows of the entry that it is at
abbrev pub KnowsEntry : SlowStep → Entry → View → Type 0
KnowsEntry LoadState entry view = Unit {0}
KnowsEntry Install entry view = Unit {0}
KnowsEntry LoadTarget entry view = IsPast entry view
KnowsEntry Succeed entry view = IsPast entry view × (view.took ≡ true)
KnowsEntry Fail entry view = IsPast entry view × (view.state ≡ state_word Pending → (view.took ≡ false) × (¬ IsShown entry view))
KnowsEntry LoadDecision entry view = IsPast entry view × (view.state ≢ state_word Pending)
KnowsEntry Clear entry view = IsPast entry view × (view.state ≡ state_word Succeeded)

-- the entries before one are done
abbrev pub AreDone : Site → (ℕ → ℕ) → (ℕ → Bool) → ℕ → Type 0
AreDone site words took place = (j : ℕ) (entry : Entry) → IsEntry site.entries j entry → j < place → IsDone entry (view_in site words took j entry)

-- what a run that goes on knows
pub record Knows (site : Site) (words : ℕ → ℕ) (took : ℕ → Bool) (walk : SlowWalk) : Type 0 where
  pub block : walk.block ≡ site.block
  pub entries : walk.entries ≡ site.entries
  pub within : walk.next < length site.entries
  pub done : AreDone site words took walk.next
  pub at_entry : (entry : Entry) → IsEntry site.entries walk.next entry → KnowsEntry walk.step entry (view_in site words took walk.next entry)

-- what a run that stopped knows: the entries before are done, and the entry there failed, or there is none
pub record KnowsStop (site : Site) (words : ℕ → ℕ) (took : ℕ → Bool) (stop : ℕ) : Type 0 where
  pub within : stop ≤ length site.entries
  pub done : AreDone site words took stop
  pub failed : stop < length site.entries → words (state_place site.block stop) ≡ state_word Failed

-- what a helper knows
abbrev pub Helps : Site → (ℕ → ℕ) → (ℕ → Bool) → SlowWalk → Execution → Type 0
Helps site words took walk Running = Knows site words took walk
Helps site words took walk (Stopped stop) = KnowsStop site words took stop

-- which entries took effect after a step of a run: that of a listed exchange that won, and those from before
pub record TookBy (walk : SlowWalk) (seen : Seen) (took took' : ℕ → Bool) : Type 0 where
  pub won : installs walk.step ≡ true → seen.won ≡ true → took' walk.next ≡ true
  pub others : (j : ℕ) → j ≢ walk.next → took' j ≡ took j
  pub lost : installs walk.step ≡ false ⊎ seen.won ≡ false → took' walk.next ≡ took walk.next

-- a step of the block's own helpers: it leaves no bit of others
pub record OwnDeed (site : Site) (words : ℕ → ℕ) (took : ℕ → Bool) (after : ℕ → ℕ) (took' : ℕ → Bool) : Type 0 where
  pub deed : Deed site words took after took'
  pub leaves : (j : ℕ) (entry : Entry) (listed : IsEntry site.entries j entry) → LeavesBit entry (view_in site words took j entry) (view_in site after took' j entry) (deed.turns j entry listed)
