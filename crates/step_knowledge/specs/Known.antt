-- What each machine knows of the client's world, by its phase: of its own call on the fast path, and as a helper of the
-- call of a head.
use Rattle.std.specs.Prelude.{◌≡◌, ℕ, ◌<◌, ◌≤◌, length, slice_get, Option, Some}
use Rattle.arrayvec.specs.ArrayVec.{ArrayVec}
use Rattle.lin_report.specs.Object.{IsCommandOf}
use Rattle.normal_traits.specs.World.{Stopped, Took, World}
use Rattle.normal_traits.specs.NormalForm.{NormalForm}
use Rattle.normal_traits.specs.Steps.{IsFilled, IsFresh, IsOffered}
use Rattle.cas_executor.specs.FastRuns.{FastWalk, IsRunning}
use Rattle.fast_slow_engine.specs.declared.phases.Phase.{Phase}
use Rattle.fast_slow_engine.specs.declared.phases.Phase.TheVariants as phase
use Rattle.fast_slow_engine.specs.declared.phases.Generating.TheVariants.{Search, LookForBlock, Claim}
use Rattle.fast_slow_engine.specs.declared.phases.Applying.TheVariants.{Fill, Execute}
use Rattle.fast_slow_engine.specs.declared.help.Helping.{Helping}
use Rattle.fast_slow_engine.specs.declared.help.Helping.TheVariants.{Known}
use Rattle.fast_slow_engine.specs.HelpTable.{CanWork}
use Rattle.fast_slow_engine.specs.Mechs.{Mech}
use Rattle.offered_blocks.specs.Blocks.{Offer}
use Rattle.helper_knowledge.specs.Callers.{Caller}
use Rattle.helper_knowledge.specs.Carried.{Carried, OfSome}
use Rattle.helper_knowledge.specs.WorkKnown.{KnowsWork}
use Rattle.run_world.specs.Ghosts.{Held, SeatGhost}

-- a store, which is a place and a word, still stands
abbrev pub Stands : World → ℕ × ℕ → Type 0
Stands world store = world.words store.0 ≡ store.1

-- no list of this identity took effect at an entry from this on
abbrev pub NoneFrom : World → ℕ → ℕ → Type 0
NoneFrom world identity least = (other : _) (j : ℕ) → other.identity ≡ identity → least ≤ j → ¬ Took world other j

module _ {S W : Type 0} (form : NormalForm S W) where
  -- ---- lists that their own seat makes

  -- the search that offered a held list still knows what it has learnt
  abbrev pub IsStillOffered : World → Held S → Type 0
  IsStillOffered world held = IsOffered form world held.list held.offering held.since

  -- a block is filled for the list, of which no entry took effect: so many stores were made, and each of them stands
  pub record KnowsFill (world : World) (run : FastWalk) (stores : ArrayVec (ℕ × ℕ)) (made : ℕ) (held : Held S) : Type 0 where
    pub offered : IsStillOffered world held
    pub running : IsRunning run
    pub within : made < length stores.items
    pub stored : (k : ℕ) (store : ℕ × ℕ) → k < made → slice_get stores.items k ≡ Some store → Stands world store
    pub fresh : IsFresh world held.list

  -- the list is executed: the entries so far took effect, and none from there on. Until the first did, its block stays as
  -- it was filled
  pub record KnowsRun (world : World) (run : FastWalk) (held : Held S) : Type 0 where
    pub offered : IsStillOffered world held
    pub running : IsRunning run
    pub filled : run.next ≡ 0 → 0 < held.list.block → IsFilled world held.list (form.offer_of held.offering held.list.call.op held.list.block).stores
    pub took : (j : ℕ) → j < run.next → j < length held.list.entries → Took world held.list j
    pub none : NoneFrom world held.list.identity run.next

  -- the list stopped, and its wrap-up follows it
  pub record KnowsWrap (world : World) (wrap : W) (held : Held S) : Type 0 where
    pub offered : IsStillOffered world held
    pub stopped : Stopped world held.list held.stop
    pub none : NoneFrom world held.list.identity held.stop
    pub wraps : form.wraps wrap
    pub follows : form.follows wrap held.list held.stop world

  -- ---- helpers

  -- of a helper with this block in hand, that helps this seat with the call that the seat makes. While it loads the record,
  -- and while it removes whom it found completed, it knows nothing but what the queue has of it. Whose record it found open has
  -- begun a call
  abbrev pub KnowsHelp : World → (ℕ → Option (Offer S)) → Caller → ℕ → Option ℕ → Carried S → Helping S W → Type 0
  KnowsHelp world offers caller head hand own (Known word does) = CanWork form does × KnowsWork form world offers caller head word hand own does × (1 ≤ caller.number)
  KnowsHelp world offers caller head hand own _ = Unit {0}

  -- ---- all phases

  -- what a machine knows in a phase, where the seats make these calls. From the announcement of its own call on, all that is
  -- known of that is told by its record, and of a call that is to return by its outcome
  abbrev pub KnowsIn : Phase S W → Mech S W → SeatGhost S → World → (ℕ → Option (Offer S)) → (ℕ → Caller) → Type 0
  KnowsIn (phase.Generate s Search) mech own world offers callers = form.asks s × form.knows s mech.op world own.carried.since
  KnowsIn (phase.Generate s LookForBlock) mech own world offers callers = form.is_ready s × form.knows s mech.op world own.carried.since
  KnowsIn (phase.Generate s Claim) mech own world offers callers = form.is_ready s × form.knows s mech.op world own.carried.since
  KnowsIn (phase.Apply run stores (Fill made)) mech own world offers callers = OfSome (KnowsFill world run stores made) own.held
  KnowsIn (phase.Apply run stores Execute) mech own world offers callers = OfSome (KnowsRun world run) own.held
  KnowsIn (phase.Wrap wrap) mech own world offers callers = OfSome (KnowsWrap world wrap) own.held
  KnowsIn (phase.Help drives help) mech own world offers callers = KnowsHelp world offers (callers help.head) help.head mech.hand own.carried help.at
  KnowsIn _ mech own world offers callers = Unit {0}

  -- the operation of a call that runs is a command
  abbrev pub MakesCommand : Phase S W → Mech S W → Type 0
  MakesCommand phase.Idle mech = Unit {0}
  MakesCommand _ mech = IsCommandOf form.object mech.op
