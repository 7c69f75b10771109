-- The claim counter, and the blocks that were claimed.
use Rattle.std.specs.Prelude.{◌≡◌, ℕ, ◌+◌, ◌<◌, ◌≤◌, ◌&&◌, nat_lt, if◌then◌else◌, Bool, true, false, List, [], ◌∷◌, ◌++◌, slice_get, slice_index, Option, Some, None, All, AllPairs, Contains}
use Rattle.lin_report.specs.declared.calls.Reply.TheVariants.{Exhausted}
use Rattle.node_arena.specs.declared.places.TheConstants.{CLAIMS}
use Rattle.normal_traits.specs.NormalForm.{NormalForm}
use Rattle.fast_slow_engine.specs.declared.phases.Phase.{Phase}
use Rattle.fast_slow_engine.specs.declared.phases.Phase.TheVariants.{Generate, Help, End}
use Rattle.fast_slow_engine.specs.declared.phases.Generating.TheVariants.{LookForBlock, Claim}
use Rattle.fast_slow_engine.specs.declared.help.Helping.{Helping}
use Rattle.fast_slow_engine.specs.declared.help.Helping.TheVariants.{Known}
use Rattle.fast_slow_engine.specs.declared.help.Work.{Work}
use Rattle.fast_slow_engine.specs.declared.help.Work.TheVariants as work
use Rattle.fast_slow_engine.specs.declared.setup.Setup.{Setup}
use Rattle.fast_slow_engine.specs.Mechs.{Mech}
use Rattle.fast_slow_engine.specs.PhaseTable.{mech_request}
use Rattle.fast_slow_engine.specs.Runs.{Move, RunState, AreMoves, begun, run_of}
use Rattle.run_laws.specs.Seats.{EachMech}
use Rattle.run_laws.specs.Ticks.{LeavesWord}

-- whether the next step of a helper claims a block for the head's call; the block comes into the helper's own hand
abbrev pub work_claims : {S W : Type 0} → Work S W → Bool
work_claims (work.Generate op search Claim) = true
work_claims _ = false

abbrev pub helping_claims : {S W : Type 0} → Helping S W → Bool
helping_claims (Known word does) = work_claims does
helping_claims _ = false

-- whether the next step claims a block, for the own call or for that of a head
abbrev pub claims_block : {S W : Type 0} → Phase S W → Bool
claims_block (Generate search Claim) = true
claims_block (Help drives help) = helping_claims help.at
claims_block _ = false

-- whether the next step of a helper asks for a block: it looks at the counter, or claims
abbrev pub work_asks : {S W : Type 0} → Work S W → Bool
work_asks (work.Generate op search LookForBlock) = true
work_asks (work.Generate op search Claim) = true
work_asks _ = false

abbrev pub helping_asks : {S W : Type 0} → Helping S W → Bool
helping_asks (Known word does) = work_asks does
helping_asks _ = false

-- whether the next step asks for a block, for the own call or for that of a head
abbrev pub asks_for_block : {S W : Type 0} → Phase S W → Bool
asks_for_block (Generate search LookForBlock) = true
asks_for_block (Generate search Claim) = true
asks_for_block (Help drives help) = helping_asks help.at
asks_for_block _ = false

-- the word to which a helper exchanges the record of the head next, if it does
abbrev pub work_tells : {S W : Type 0} → Work S W → Option ℕ
work_tells (work.Advance to) = Some to
work_tells _ = None

abbrev pub helping_tells : {S W : Type 0} → Helping S W → Option ℕ
helping_tells (Known word does) = work_tells does
helping_tells _ = None

abbrev pub tells_record : {S W : Type 0} → Phase S W → Option ℕ
tells_record (Help drives help) = helping_tells help.at
tells_record _ = None

-- the block that a step claims where it finds the counter at this number
abbrev pub claimed_in : {S W : Type 0} → Phase S W → ℕ → ℕ → List ℕ
claimed_in phase counter cap = if claims_block phase && nat_lt counter cap then (counter + 1) ∷ [] else []

abbrev pub claimed_by : {S W : Type 0} → Option (Mech S W) → Move → RunState S W → List ℕ
claimed_by None move state = []
claimed_by (Some mech) move state = claimed_in (begun move.begins mech).phase (slice_index state.words CLAIMS) mech.setup.cap

-- a block that was claimed: it may be claimed, and the counter is past it
pub record IsClaimed (setup : Setup) (counter block : ℕ) : Type 0 where
  pub some : 0 < block
  pub within : block ≤ setup.cap
  pub below : block ≤ counter

-- the claims of a run, the newest first: all differ, those in hand are among them, and no two seats have one
-- block; an offer fills a block that no list has used by this
pub record HasClaims {S W : Type 0} (setup : Setup) (state : RunState S W) (claims : List ℕ) : Type 0 where
  pub counter : slice_index state.words CLAIMS < setup.cap + setup.seats
  pub claimed : All (IsClaimed setup (slice_index state.words CLAIMS)) claims
  pub apart : AllPairs (λ later earlier. earlier < later) claims
  pub in_hand : EachMech (λ seat mech. (block : ℕ) → mech.hand ≡ Some block → Contains claims block) state.mechs
  pub alone : EachMech (λ seat mech. EachMech (λ other mate. (block : ℕ) → mech.hand ≡ Some block → mate.hand ≡ Some block → seat ≡ other) state.mechs) state.mechs

module _ {S W : Type 0} (form : NormalForm S W) where
  -- the move leaves the claim counter as it was, unless it claims
  abbrev pub MoveKeepsClaims : RunState S W → Move → Type 0
  MoveKeepsClaims state move =
      (mech : Mech S W) → slice_get state.mechs move.seat ≡ Some mech → claims_block (begun move.begins mech).phase ≡ false
      → LeavesWord CLAIMS (mech_request form (begun move.begins mech)) state.words

  -- every move does; the premise of the laws of claims, which the client's laws meet
  abbrev pub KeepsClaims : Setup → List Move → Type 0
  KeepsClaims setup [] = Unit {0}
  KeepsClaims setup (move ∷ older) = KeepsClaims setup older × MoveKeepsClaims (run_of form setup older) move

  -- the blocks that a run has claimed, the newest first
  abbrev pub claims_of : Setup → List Move → List ℕ
  claims_of setup [] = []
  claims_of setup (move ∷ older) =
      let state = run_of form setup older in claimed_by (slice_get state.mechs move.seat) move state ++ claims_of setup older

  -- the claims of every run
  abbrev pub ClaimsHold : Type 0
  ClaimsHold = (setup : Setup) (moves : List Move) → AreMoves form setup moves → KeepsClaims setup moves → HasClaims setup (run_of form setup moves) (claims_of setup moves)

  -- no move lets the claim counter fall
  abbrev pub ClaimsRise : Type 0
  ClaimsRise =
      (setup : Setup) (older : List Move) (move : Move) → AreMoves form setup (move ∷ older) → KeepsClaims setup (move ∷ older)
      → slice_index (run_of form setup older).words CLAIMS ≤ slice_index (run_of form setup (move ∷ older)).words CLAIMS

  -- a call that ends with Exhausted where it asks for a block has seen that none is left
  abbrev pub ExhaustedSaw : Type 0
  ExhaustedSaw =
      (setup : Setup) (older : List Move) (move : Move) (before after : Mech S W) → AreMoves form setup (move ∷ older)
      → slice_get (run_of form setup older).mechs move.seat ≡ Some before → slice_get (run_of form setup (move ∷ older)).mechs move.seat ≡ Some after
      → asks_for_block before.phase ≡ true → after.phase ≡ End Exhausted → setup.cap ≤ slice_index (run_of form setup older).words CLAIMS

  -- a helper that asks for a block, and goes on to an exchange of the record and not to fill one, has seen that none
  -- is left; so where it asked, it completes a call with Exhausted on this ground alone
  abbrev pub HelperSaw : Type 0
  HelperSaw =
      (setup : Setup) (older : List Move) (move : Move) (before after : Mech S W) (to : ℕ) → AreMoves form setup (move ∷ older)
      → slice_get (run_of form setup older).mechs move.seat ≡ Some before → slice_get (run_of form setup (move ∷ older)).mechs move.seat ≡ Some after
      → asks_for_block before.phase ≡ true → tells_record after.phase ≡ Some to → setup.cap ≤ slice_index (run_of form setup older).words CLAIMS
