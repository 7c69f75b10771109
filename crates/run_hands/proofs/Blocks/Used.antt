-- The used blocks of a run were claimed.
use Rattle.std.proofs.Common.{◌≡◌, ◌∙◌, refl, sym, subst, ap, ℕ, ◌<◌, ◌==◌, ◌||◌, ◌&&◌, nat_lt, if◌then◌else◌, Bool, true, false, List, [], ◌∷◌, Option, Some, ◌⊎◌, inl, inr, Contains, arith, rules}
use Rattle.std.proofs.lemmas.Bool.{cases_eq, cases_lt, le-ltb}
use Rattle.std.proofs.lemmas.Bool.Decides.{nat_tests}
use Rattle.arrayvec.specs.ArrayVec.{ArrayVec}
use Rattle.step_memory.specs.declared.steps.Seen.{Seen}
use Rattle.normal_traits.specs.World.{Listed, World}
use Rattle.normal_traits.specs.NormalForm.{NormalForm}
use Rattle.normal_traits.specs.Steps.{using_block}
use Rattle.cas_executor.specs.FastRuns.{FastWalk}
use Rattle.fast_slow_engine.specs.declared.phases.Phase.{Phase}
use Rattle.fast_slow_engine.specs.declared.phases.Phase.TheVariants.{Apply}
use Rattle.fast_slow_engine.specs.declared.phases.Applying.TheVariants.{Execute}
use Rattle.fast_slow_engine.specs.declared.setup.Setup.{Setup}
use Rattle.fast_slow_engine.specs.HelpWords.{named_block}
use Rattle.fast_slow_engine.specs.Mechs.{Mech}
use Rattle.fast_slow_engine.specs.Runs.{Move, IsMove, AreMoves, begun, run_of}
use Rattle.offered_blocks.specs.Blocks.{Offer}
use Rattle.run_laws.specs.Claims.{KeepsClaims, claims_of}
use Rattle.run_laws.proofs.BlocksClaimed.{claims_hold}
use Rattle.run_world.specs.Ghosts.{Held, uses_block}
use Rattle.run_world.specs.InHand.{BlockIn, ExecutesWith}
use Rattle.run_world.specs.RunGhosts.{ghost_of, world_of}
use Rattle.run_world.proofs.Words.Moved.{seen_by}
use Rattle.run_world.proofs.Words.Wins.{nothing, beside, takes, installed, used_with, move_wins}
use Rattle.run_hands.specs.Hands.{UsedClaimed}
use Rattle.run_hands.proofs.Blocks.Named.{begun_hand, claimed_within, more_claims, names_kept}
use Rattle.run_hands.proofs.Blocks.OwnBlocks.{begin_blocks, blocks_held}

-- a block that the first entry of a list doesn't use is used after it only where it was before
used_if : (b : Bool) (own : ℕ) (used : ℕ → Bool) (block : ℕ) → (if b then using_block own used else used) block ≡ true → (used block ≡ true) ⊎ ((b ≡ true) × (block ≡ own))
used_if false own used block is = inl is
used_if true own used block is =
    elim (cases_eq block own) [
      | inl same ↦ inr (refl, same)
      | inr apart ↦
          let test : (block == own) ≡ false = grind (arith, nat_tests) in
          inl (ap (λ b. b || used block) (sym test) ∙ is)
    ]

has_block : (first some : Bool) → (first && some) ≡ true → some ≡ true
has_block true some is = is
has_block false some is = absurd (search rules)

-- a block that comes to be used is that of the list
used_came : (list : Listed) (j : ℕ) (used : ℕ → Bool) (block : ℕ) → used_with list j used block ≡ true → (used block ≡ true) ⊎ ((0 < list.block) × (block ≡ list.block))
used_came list j used block is =
    elim (used_if (uses_block list j) list.block used block is) [
      | inl was ↦ inl was
      | inr new ↦
          let test : nat_lt 0 list.block ≡ true = has_block (j == 0) (nat_lt 0 list.block) new.0 in
          inr (elim (cases_lt 0 list.block) [ inl some ↦ some | inr none ↦ (let low : nat_lt 0 list.block ≡ false = le-ltb 0 list.block none in absurd (cc)) ], new.1)
    ]

-- a block that is used after a step was used before, or is that of the list whose first entry took effect: one that its own
-- seat executes, or one that a record has named
pub data NewlyUsed {S W : Type 0} (phase : Phase S W) (held : Option (Held S)) (offers : ℕ → Option (Offer S)) (seen : Seen) (before : World) (block : ℕ) : Type 0 where
  was : before.used block ≡ true → NewlyUsed phase held offers seen before block
  own : (run : FastWalk) (stores : ArrayVec (ℕ × ℕ)) (list : Held S) → phase ≡ Apply run stores Execute → held ≡ Some list → seen.won ≡ true → 0 < list.list.block → block ≡ list.list.block → NewlyUsed phase held offers seen before block
  offered : (at : ℕ) (offer : Offer S) → offers at ≡ Some offer → block ≡ offer.list.block → NewlyUsed phase held offers seen before block

module _ {S W : Type 0} (form : NormalForm S W) where
  -- so it is with each move
  pub newly_used : (setup : Setup) (older : List Move) (move : Move) (is : IsMove form (run_of form setup older) move) (block : ℕ) → (world_of form setup (move ∷ older)).used block ≡ true
      → NewlyUsed (begun move.begins is.mech).phase ((ghost_of form setup older).seats move.seat).held (ghost_of form setup older).offers (seen_by form setup older move is.mech) (world_of form setup older) block
  newly_used setup older move is block used =
      let before = (world_of form setup older).used in
      elim (move_wins form setup older move is.mech is.seated) [
        | nothing missed journal same ↦ was (ap (λ u. u block) (sym same) ∙ used)
        | beside won other maker journal same ↦ was (ap (λ u. u block) (sym same) ∙ used)
        | takes run stores list entry cause at holds next won journal by ↦
            elim (used_came list.list run.next before block (ap (λ u. u block) (sym by) ∙ used)) [
              | inl earlier ↦ was earlier
              | inr new ↦ own run stores list at holds won new.0 new.1
            ]
        | installed drives head seats word run offer entry cause at stands next won journal by ↦
            elim (used_if (run.next == 0) offer.list.block before block (ap (λ u. u block) (sym by) ∙ used)) [
              | inl earlier ↦ was earlier
              | inr new ↦ offered (named_block word) offer stands new.1
            ]
      ]

  hand_of : (b : Bool) (mech : Mech S W) (held : Held S) → form.needs_block mech.op ≡ b → ExecutesWith form mech (Some held) → 0 < held.list.block → mech.hand ≡ Some held.list.block
  hand_of true mech held needs with some = with.needed needs
  hand_of false mech held needs with some = (let none = with.other needs in absurd (omega (arith, none, some)))

  module _ (setup : Setup) (older : List Move) (move : Move) (are : AreMoves form setup older) (is : IsMove form (run_of form setup older) move)
      (run : FastWalk) (stores : ArrayVec (ℕ × ℕ)) (list : Held S) (at : (begun move.begins is.mech).phase ≡ Apply run stores Execute) (holds : ((ghost_of form setup older).seats move.seat).held ≡ Some list) where
    -- what an executed list has in the hand of its machine
    pub executes_with : ExecutesWith form (begun move.begins is.mech) (Some list)
    executes_with =
        let one = begun move.begins is.mech in
        let held = ((ghost_of form setup older).seats move.seat).held in
        let blocks = begin_blocks form move.begins is.mech held (blocks_held form setup older are move.seat is.mech is.seated) in
        subst (λ (h : Option (Held S)). ExecutesWith form one h) holds (subst (λ (p : Phase S W). BlockIn form p one held) at blocks)

    -- the block of a list that is executed was in hand before the move
    pub own_hand : 0 < list.list.block → is.mech.hand ≡ Some list.list.block
    own_hand some = (let one = begun move.begins is.mech in sym (begun_hand move.begins is.mech) ∙ hand_of (form.needs_block one.op) one list refl executes_with some)

  -- a used block is 0, or was claimed
  abbrev Claimed : Setup → List Move → ℕ → Type 0
  Claimed setup moves block = (block ≡ 0) ⊎ Contains (claims_of form setup moves) block

  used_in_claims : (setup : Setup) (moves : List Move) → AreMoves form setup moves → KeepsClaims form setup moves → (block : ℕ) → (world_of form setup moves).used block ≡ true → Claimed setup moves block
  used_in_claims setup [] are leaves block used = inl (grind (arith, nat_tests, used))
  used_in_claims setup (move ∷ older) are leaves block used =
      elim (newly_used setup older move are.1 block used) [
        | was before ↦
            elim (used_in_claims setup older are.0 leaves.0 block before) [
              | inl none ↦ inl none
              | inr has ↦ inr (more_claims form setup older move block has)
            ]
        | own run stores list at holds won some same ↦
            let hand = own_hand setup older move are.0 are.1 run stores list at holds some ∙ ap Some (sym same) in
            inr (more_claims form setup older move block ((claims_hold form setup older are.0 leaves.0).in_hand move.seat are.1.mech are.1.seated block hand))
        | offered at offer stands same ↦
            let is = (names_kept form setup older are.0 leaves.0).offered at offer stands in
            inr (more_claims form setup older move block (subst (Contains (claims_of form setup older)) (sym (same ∙ is.block_is)) is.claimed))
      ]

  pub used_claimed : UsedClaimed form
  used_claimed setup moves are leaves block used =
      let claimed = used_in_claims setup moves are leaves block used in
      record {
        claimed = claimed;
        within = elim claimed [ inl none ↦ omega (arith, none) | inr has ↦ (claimed_within form setup moves are leaves block has).within ];
      }
