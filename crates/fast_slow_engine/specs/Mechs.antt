-- A machine as plain data, and which states a machine can be in.
use Rattle.std.specs.Prelude.{◌≡◌, ℕ, ◌^◌, ◌<◌, ◌≤◌, IsTrue, length, Option}
use Rattle.lin_report.specs.declared.calls.Op.{Op}
use Rattle.lin_report.specs.declared.calls.Path.{Path}
use Rattle.lin_report.specs.Object.{Object}
use Rattle.normal_traits.specs.NormalForm.{NormalForm}
use Rattle.cas_executor.specs.FastRuns.{IsRunning}
use Rattle.fast_slow_engine.specs.declared.setup.Setup.{Setup}
use Rattle.fast_slow_engine.specs.declared.call.Call.{Call}
use Rattle.fast_slow_engine.specs.declared.phases.Phase.{Phase}
use Rattle.fast_slow_engine.specs.declared.phases.Phase.TheVariants as phase
use Rattle.fast_slow_engine.specs.declared.phases.Generating.{Generating}
use Rattle.fast_slow_engine.specs.declared.phases.Generating.TheVariants.{Search, LookForBlock, Claim}
use Rattle.fast_slow_engine.specs.declared.phases.Applying.TheVariants.{Fill, Execute}
use Rattle.fast_slow_engine.specs.Hands.{block_of}
use Rattle.fast_slow_engine.specs.HelpTable.{CanHelp}

-- a seat with the call that it makes: which call of its seat, its operation and begin tick, its failures,
-- the block in hand, and the phase
pub record Mech (S W : Type 0) : Type 0 where
  pub setup : Setup
  pub seat : ℕ
  pub number : ℕ
  pub op : Op
  pub begin : ℕ
  pub failures : ℕ
  pub hand : Option ℕ
  pub path : Path
  pub phase : Phase S W

-- what must hold in a phase, so that its step can be made
abbrev pub IsReadyIn : {S W : Type 0} → NormalForm S W → Phase S W → Type 0
IsReadyIn form phase.Idle = Unit {0}
IsReadyIn form phase.Begin = Unit {0}
IsReadyIn form phase.Look = Unit {0}
IsReadyIn form (phase.Generate search Search) = form.asks search
IsReadyIn form (phase.Generate search LookForBlock) = form.is_ready search
IsReadyIn form (phase.Generate search Claim) = form.is_ready search
IsReadyIn form (phase.Apply run stores (Fill made)) = IsRunning run × (made < length stores.items)
IsReadyIn form (phase.Apply run stores Execute) = IsRunning run
IsReadyIn form (phase.Wrap wrap) = form.wraps wrap
IsReadyIn form (phase.Announce at) = Unit {0}
IsReadyIn form (phase.Enter owner) = Unit {0}
IsReadyIn form phase.Drive = Unit {0}
IsReadyIn form (phase.Help drives help) = CanHelp form help
IsReadyIn form phase.Collect = Unit {0}
IsReadyIn form (phase.Value reference) = reference < 2 ^ 20
IsReadyIn form (phase.End reply) = Unit {0}

-- a machine of a call and a phase
abbrev pub mech_of : {S W : Type 0} → Call → Phase S W → Mech S W
mech_of call phase = record { setup = call.setup; seat = call.seat; number = call.number; op = call.op; begin = call.begin; failures = call.contention.failures; hand = call.hand; path = call.path; phase = phase }

-- the seat, number and block of a call are in their ranges, and its failures have the limit of the run
pub record IsInRange (call : Call) : Type 0 where
  pub one_seat : call.seat < call.setup.seats
  pub few_calls : call.number < 65536
  pub few_blocks : block_of call.hand < 2 ^ 17
  pub same_limit : call.contention.limit ≡ call.setup.limit

-- a call of a command of the object
pub record IsCallOf (object : Object) (call : Call) : Type 0 where
  pub range : IsInRange call
  pub some : 1 ≤ call.number
  pub command : IsTrue (object.serves call.op)

-- a machine may be in this state: a call that runs is a command
abbrev pub IsMachine : {S W : Type 0} → NormalForm S W → Call → Phase S W → Type 0
IsMachine form call phase.Idle = IsInRange call
IsMachine form call phase = IsCallOf form.object call × IsReadyIn form phase

-- a generator of the phase can name its list
abbrev pub CanOffer : {S W : Type 0} → NormalForm S W → Phase S W → Type 0
CanOffer form (phase.Generate search at) = form.is_ready search
CanOffer form _ = ⊥

-- the phase is at this step of a generator
abbrev pub IsAt : {S W : Type 0} → Generating → Phase S W → Type 0
IsAt step (phase.Generate search at) = at ≡ step
IsAt step _ = ⊥

-- the phase helps a head
abbrev pub Helps : {S W : Type 0} → Phase S W → Type 0
Helps (phase.Help drives help) = Unit {0}
Helps _ = ⊥

-- the phase enters the queue word
abbrev pub Enters : {S W : Type 0} → Phase S W → Type 0
Enters (phase.Enter owner) = Unit {0}
Enters _ = ⊥

-- the phase is one of the slow path: the call is announced, entered, driven or collected, or the seat helps
abbrev pub IsSlow : {S W : Type 0} → Phase S W → Type 0
IsSlow (phase.Announce at) = Unit {0}
IsSlow (phase.Enter owner) = Unit {0}
IsSlow phase.Drive = Unit {0}
IsSlow (phase.Help drives help) = Unit {0}
IsSlow phase.Collect = Unit {0}
IsSlow _ = ⊥

-- the phase fills a block
abbrev pub Fills : {S W : Type 0} → Phase S W → Type 0
Fills (phase.Apply run stores (Fill made)) = made < length stores.items
Fills _ = ⊥

-- the phase executes a list
abbrev pub Executes : {S W : Type 0} → Phase S W → Type 0
Executes (phase.Apply run stores Execute) = Unit {0}
Executes _ = ⊥

-- the phase is a wrap-up
abbrev pub WrapsUp : {S W : Type 0} → Phase S W → Type 0
WrapsUp (phase.Wrap wrap) = Unit {0}
WrapsUp _ = ⊥

-- the phase is a search with its claim
abbrev pub Generates : {S W : Type 0} → Phase S W → Type 0
Generates (phase.Generate search at) = Unit {0}
Generates _ = ⊥

-- the phase is an offer with its list
abbrev pub Applies : {S W : Type 0} → Phase S W → Type 0
Applies (phase.Apply run stores at) = Unit {0}
Applies _ = ⊥

-- the seat makes the same call
pub record SameCall {S W : Type 0} (mech older : Mech S W) : Type 0 where
  pub setup : mech.setup ≡ older.setup
  pub seat : mech.seat ≡ older.seat
  pub number : mech.number ≡ older.number
  pub op : mech.op ≡ older.op
