-- Blocks in hand: a claim puts one there, and the record exchange that names it takes it out. So no more are named than are
-- claimed, and rounds are bounded by claims.
use Rattle.std.specs.Prelude.{◌≡◌, ℕ, ◌+◌, ◌≤◌, ◌&&◌, nat_lt, Bool, true, false, List, [], ◌∷◌, slice_get, Option, Some, None}
use Rattle.step_memory.specs.Step.{seen_of}
use Rattle.word_fields.specs.Records.{record_phase}
use Rattle.normal_traits.specs.NormalForm.{NormalForm}
use Rattle.fast_slow_engine.specs.declared.phases.Phase.{Phase}
use Rattle.fast_slow_engine.specs.declared.phases.Phase.TheVariants as phase
use Rattle.fast_slow_engine.specs.declared.phases.Generating.TheVariants.{Claim}
use Rattle.fast_slow_engine.specs.declared.help.Helping.{Helping}
use Rattle.fast_slow_engine.specs.declared.help.Helping.TheVariants.{Known}
use Rattle.fast_slow_engine.specs.declared.help.Work.{Work}
use Rattle.fast_slow_engine.specs.declared.help.Work.TheVariants as work
use Rattle.fast_slow_engine.specs.declared.setup.Setup.{Setup}
use Rattle.fast_slow_engine.specs.Mechs.{Mech}
use Rattle.fast_slow_engine.specs.HelpWords.{is_executing}
use Rattle.fast_slow_engine.specs.PhaseTable.{mech_request}
use Rattle.fast_slow_engine.specs.Runs.{Move, RunState, AreMoves, begun, run_of}
use Rattle.run_queue.specs.Premises.{ClientLeavesQueue, KeepsQueue}
use Rattle.run_queue.specs.Rounds.{one_if, blocks_named}

-- the step claims a block, for its own call or for that of a head
abbrev pub claims_work : {S W : Type 0} → Work S W → Bool
claims_work (work.Generate op search Claim) = true
claims_work _ = false

abbrev pub claims_helping : {S W : Type 0} → Helping S W → Bool
claims_helping (Known word does) = claims_work does
claims_helping _ = false

abbrev pub claims_in : {S W : Type 0} → Phase S W → Bool
claims_in (phase.Generate search Claim) = true
claims_in (phase.Help drives help) = claims_helping help.at
claims_in _ = false

-- how many blocks this hand holds
abbrev pub in_hand : Option ℕ → ℕ
in_hand None = 0
in_hand (Some block) = 1

-- how many blocks all machines hold
abbrev pub hands_of : {S W : Type 0} → List (Mech S W) → ℕ
hands_of [] = 0
hands_of (mech ∷ mechs) = in_hand mech.hand + hands_of mechs

-- a helper that fills a block, or goes on to a record that names one, has one in hand: the premise with which the count of
-- names and hands never grows without a claim
abbrev pub WorkHand : {S W : Type 0} → Work S W → Option ℕ → Type 0
WorkHand (work.Fill stores made) hand = 1 ≤ in_hand hand
WorkHand (work.Advance to) hand = is_executing (record_phase to) ≡ true → 1 ≤ in_hand hand
WorkHand _ hand = Unit {0}

abbrev pub HelpingHand : {S W : Type 0} → Helping S W → Option ℕ → Type 0
HelpingHand (Known word does) hand = WorkHand does hand
HelpingHand _ hand = Unit {0}

abbrev pub PhaseHand : {S W : Type 0} → Phase S W → Option ℕ → Type 0
PhaseHand (phase.Help drives help) hand = HelpingHand help.at hand
PhaseHand _ hand = Unit {0}

module _ {S W : Type 0} (form : NormalForm S W) where
  -- whether the move claims a block, as 1 or 0; a counter at the end of the blocks gives none
  abbrev pub claimed_by : Option (Mech S W) → Move → RunState S W → ℕ
  claimed_by None move state = 0
  claimed_by (Some mech) move state =
      one_if (claims_in (begun move.begins mech).phase && nat_lt (seen_of (mech_request form (begun move.begins mech)) state.words).before (begun move.begins mech).setup.cap)

  -- how many blocks were claimed by moves, the newest first
  abbrev pub blocks_claimed : Setup → List Move → ℕ
  blocks_claimed setup [] = 0
  blocks_claimed setup (move ∷ older) = let state = run_of form setup older in blocks_claimed setup older + claimed_by (slice_get state.mechs move.seat) move state

  -- the blocks that were named, and those in hand, are at most those that were claimed
  abbrev pub NamesAreClaimed : Type 0
  NamesAreClaimed = (setup : Setup) (moves : List Move) → AreMoves form setup moves → blocks_named form setup moves + hands_of (run_of form setup moves).mechs ≤ blocks_claimed setup moves

  -- where no more blocks are claimed than there are, and the client's requests leave the words of the queue, the
  -- premises of the laws of the queue hold
  abbrev pub ClaimsKeepQueue : Type 0
  ClaimsKeepQueue = (setup : Setup) (moves : List Move) → AreMoves form setup moves → ClientLeavesQueue form setup moves → blocks_claimed setup moves ≤ setup.cap → KeepsQueue form setup moves
