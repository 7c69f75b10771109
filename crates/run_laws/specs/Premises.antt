-- What the laws of ticks and claims ask of the client: that its requests leave the two counters.
use Rattle.std.specs.Prelude.{◌≡◌, ℕ, ◌+◌, ◌*◌, nat_lt, min, Bool, true, false, List, [], ◌∷◌, slice_get, Option, Some, None}
use Rattle.node_arena.specs.declared.places.TheConstants.{TICKS, CLAIMS}
use Rattle.normal_traits.specs.NormalForm.{NormalForm}
use Rattle.fast_slow_engine.specs.declared.phases.Phase.{Phase}
use Rattle.fast_slow_engine.specs.declared.phases.Phase.TheVariants.{Generate, Apply, Wrap, Help}
use Rattle.fast_slow_engine.specs.declared.phases.Generating.TheVariants.{Search}
use Rattle.fast_slow_engine.specs.declared.phases.Applying.TheVariants.{Fill, Execute}
use Rattle.fast_slow_engine.specs.declared.help.Helping.{Helping}
use Rattle.fast_slow_engine.specs.declared.help.Helping.TheVariants.{Known}
use Rattle.fast_slow_engine.specs.declared.help.Work.{Work}
use Rattle.fast_slow_engine.specs.declared.help.Work.TheVariants as work
use Rattle.cas_executor.specs.declared.slow_run.SlowStep.{SlowStep}
use Rattle.cas_executor.specs.declared.slow_run.SlowStep.TheVariants.{Install, Clear}
use Rattle.fast_slow_engine.specs.declared.setup.Setup.{Setup}
use Rattle.fast_slow_engine.specs.Mechs.{Mech}
use Rattle.fast_slow_engine.specs.PhaseTable.{mech_request}
use Rattle.fast_slow_engine.specs.Runs.{Move, RunState, begun, run_of}
use Rattle.run_laws.specs.Ticks.{LeavesWord, KeepsTicks}
use Rattle.run_laws.specs.Claims.{KeepsClaims}

-- the exchanges of a list that others execute at its targets
abbrev pub at_target : SlowStep → Bool
at_target Install = true
at_target Clear = true
at_target _ = false

-- how many entries a list that others execute has, by the store of its length: at most two
abbrev pub entries_noted : Option (ℕ × ℕ) → ℕ
entries_noted None = 0
entries_noted (Some store) = min store.1 2

-- whether the next request of a helper is the client's, as below; of the stores the first are the engine's: three of
-- the call, the fourth of the length, and three for each entry
abbrev pub works_for_client : {S W : Type 0} → Work S W → Bool
works_for_client (work.Generate op search Search) = true
works_for_client (work.Fill stores made) = nat_lt (3 + 3 * entries_noted (slice_get stores.items 3)) made
works_for_client (work.Execute run) = at_target run.step
works_for_client (work.Wrap wrap) = true
works_for_client _ = false

abbrev pub helps_for_client : {S W : Type 0} → Helping S W → Bool
helps_for_client (Known word does) = works_for_client does
helps_for_client _ = false

-- whether the next request is the client's: of a search or a wrap-up, an exchange of a list at a target, or a
-- store of an offer behind those of the engine, for the own call or for that of a head
abbrev pub is_clients : {S W : Type 0} → Phase S W → Bool
is_clients (Generate search Search) = true
is_clients (Apply run stores (Fill made)) = nat_lt 2 made
is_clients (Apply run stores Execute) = true
is_clients (Wrap wrap) = true
is_clients (Help drives help) = helps_for_client help.at
is_clients _ = false

module _ {S W : Type 0} (form : NormalForm S W) where
  -- where the move makes a request of the client, it leaves the word at the place
  abbrev pub MoveLeaves : ℕ → RunState S W → Move → Type 0
  MoveLeaves place state move =
      (mech : Mech S W) → slice_get state.mechs move.seat ≡ Some mech → is_clients (begun move.begins mech).phase ≡ true
      → LeavesWord place (mech_request form (begun move.begins mech)) state.words

  -- every move does
  abbrev pub ClientLeaves : ℕ → Setup → List Move → Type 0
  ClientLeaves place setup [] = Unit {0}
  ClientLeaves place setup (move ∷ older) = ClientLeaves place setup older × MoveLeaves place (run_of form setup older) move

  -- the premise of the laws of ticks, by the client's requests
  abbrev pub ClientKeepsTicks : Type 0
  ClientKeepsTicks = (setup : Setup) (moves : List Move) → ClientLeaves TICKS setup moves → KeepsTicks form setup moves

  -- the premise of the laws of claims
  abbrev pub ClientKeepsClaims : Type 0
  ClientKeepsClaims = (setup : Setup) (moves : List Move) → ClientLeaves CLAIMS setup moves → KeepsClaims form setup moves
