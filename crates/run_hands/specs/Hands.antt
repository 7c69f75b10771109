-- The blocks in hand of the machines, the used blocks, and the blocks that records have named, in every run.
use Rattle.std.specs.Prelude.{◌≡◌, ℕ, ◌<◌, ◌≤◌, true, false, ◌⊎◌, List, ◌∷◌, Option, Some, Contains}
use Rattle.normal_traits.specs.World.{World}
use Rattle.normal_traits.specs.NormalForm.{NormalForm}
use Rattle.fast_slow_engine.specs.declared.setup.Setup.{Setup}
use Rattle.fast_slow_engine.specs.Mechs.{Mech}
use Rattle.fast_slow_engine.specs.Runs.{Move, RunState, AreMoves, run_of}
use Rattle.offered_blocks.specs.Blocks.{Offer}
use Rattle.offered_blocks.specs.Holds.{IsUnnamed}
use Rattle.run_laws.specs.Seats.{EachMech}
use Rattle.run_laws.specs.Claims.{KeepsClaims, claims_of}
use Rattle.run_queue.specs.HeldBlocks.{blocks_claimed}
use Rattle.run_queue.specs.Premises.{ClientLeavesQueue, KeepsQueue}
use Rattle.run_world.specs.InHand.{BlockIn, IsUnspent}
use Rattle.run_world.specs.RunGhosts.{ghost_of, world_of}

-- a used block: block 0, or one that was claimed
pub record IsUsed (setup : Setup) (claims : List ℕ) (block : ℕ) : Type 0 where
  pub claimed : (block ≡ 0) ⊎ Contains claims block
  pub within : block ≤ setup.cap

-- the list of a block that a record has named is for that block, which was claimed
pub record IsOffered {S : Type 0} (setup : Setup) (claims : List ℕ) (block : ℕ) (offer : Offer S) : Type 0 where
  pub block_is : offer.list.block ≡ block
  pub some : 0 < block
  pub claimed : Contains claims block
  pub within : block ≤ setup.cap

module _ {S W : Type 0} (form : NormalForm S W) where
  -- a block in the hand of this seat: it may be claimed, no other seat has it, no record has named it, and no list uses it
  -- before the first entry of its own takes effect
  pub record IsInHand (setup : Setup) (state : RunState S W) (claims : List ℕ) (world : World) (offers : ℕ → Option (Offer S)) (seat : ℕ) (mech : Mech S W) (block : ℕ) : Type 0 where
    pub some : 0 < block
    pub within : block ≤ setup.cap
    pub claimed : Contains claims block
    pub alone : EachMech (λ other mate. mate.hand ≡ Some block → seat ≡ other) state.mechs
    pub unnamed : IsUnnamed offers block
    pub unused : IsUnspent form mech.op mech.phase → world.used block ≡ false

  -- so it is with the hand of each machine and its list
  abbrev pub BlocksHeld : Type 0
  BlocksHeld =
      (setup : Setup) (moves : List Move) → AreMoves form setup moves
      → EachMech (λ seat mech. BlockIn form mech.phase mech ((ghost_of form setup moves).seats seat).held) (run_of form setup moves).mechs

  -- the used blocks were claimed
  abbrev pub UsedClaimed : Type 0
  UsedClaimed =
      (setup : Setup) (moves : List Move) → AreMoves form setup moves → KeepsClaims form setup moves
      → (block : ℕ) → (world_of form setup moves).used block ≡ true → IsUsed setup (claims_of form setup moves) block

  -- and so were those that records have named
  abbrev pub OffersClaimed : Type 0
  OffersClaimed =
      (setup : Setup) (moves : List Move) → AreMoves form setup moves → KeepsClaims form setup moves
      → (block : ℕ) (offer : Offer S) → (ghost_of form setup moves).offers block ≡ Some offer → IsOffered setup (claims_of form setup moves) block offer

  -- a block that a record has named stays named, for the same list
  abbrev pub OffersStay : Type 0
  OffersStay =
      (setup : Setup) (older : List Move) (move : Move) → AreMoves form setup (move ∷ older) → KeepsClaims form setup (move ∷ older)
      → (block : ℕ) (offer : Offer S) → (ghost_of form setup older).offers block ≡ Some offer → (ghost_of form setup (move ∷ older)).offers block ≡ Some offer

  -- the blocks in hand are spare
  abbrev pub HandsSpare : Type 0
  HandsSpare =
      (setup : Setup) (moves : List Move) → AreMoves form setup moves → KeepsClaims form setup moves
      → EachMech
      (λ seat mech. (block : ℕ) → mech.hand ≡ Some block
      → IsInHand setup (run_of form setup moves) (claims_of form setup moves) (world_of form setup moves) (ghost_of form setup moves).offers seat mech block)
      (run_of form setup moves).mechs

  -- no more blocks are claimed than there are
  abbrev pub ClaimsFit : Type 0
  ClaimsFit = (setup : Setup) (moves : List Move) → AreMoves form setup moves → KeepsClaims form setup moves → blocks_claimed form setup moves ≤ setup.cap

  -- so the laws of the help queue ask of the client's requests alone that they leave the words of claims and of the queue
  abbrev pub QueueKept : Type 0
  QueueKept = (setup : Setup) (moves : List Move) → AreMoves form setup moves → KeepsClaims form setup moves → ClientLeavesQueue form setup moves → KeepsQueue form setup moves
