-- The blocks that records have named were claimed, and none of them is in a hand.
use Rattle.std.proofs.Common.{◌≡◌, ◌≢◌, ◌∙◌, refl, sym, subst, ap, ℕ, ◌+◌, ◌<◌, List, [], ◌∷◌, length, get_or, slice_get, Option, Some, None, ◌⊎◌, inl, inr, Contains, arith}
use Rattle.std.proofs.lemmas.List.Elements.{Contains-append_right}
use Rattle.lin_report.specs.declared.calls.Op.{Op}
use Rattle.step_memory.proofs.Words.{length-words_after}
use Rattle.node_arena.proofs.ZerosOpen.{length-opening_words}
use Rattle.normal_traits.specs.NormalForm.{NormalForm}
use Rattle.fast_slow_engine.specs.declared.phases.Phase.{Phase}
use Rattle.fast_slow_engine.specs.declared.setup.Setup.{Setup}
use Rattle.fast_slow_engine.specs.Mechs.{Mech}
use Rattle.fast_slow_engine.specs.PhaseTable.{mech_request}
use Rattle.fast_slow_engine.specs.Runs.{Move, RunState, AreMoves, begun, run_of}
use Rattle.offered_blocks.specs.Blocks.{Offer}
use Rattle.offered_blocks.specs.Holds.{IsUnnamed}
use Rattle.run_laws.specs.Claims.{IsClaimed, KeepsClaims, claimed_by, claims_of}
use Rattle.run_laws.specs.Seats.{EachMech}
use Rattle.run_laws.proofs.ClaimKinds.{ClaimKind, claims, finds_none, keeps, claim_kind}
use Rattle.run_laws.proofs.BlocksClaimed.{claims_hold}
use Rattle.run_laws.proofs.MachinesKept.{new_mech}
use Rattle.run_laws.proofs.Steps.{move_steps, some_same}
use Rattle.run_world.specs.RunGhosts.{ghost_of}
use Rattle.run_world.proofs.Holding.CarriedLists.{begun_carries, carried_held}
use Rattle.run_world.proofs.Names.Comes.{names_in, none_some, offers_came}
use Rattle.run_world.proofs.Words.Moved.{made_offers, seen_by}
use Rattle.run_world.proofs.Words.Seats.{machine_after, seats_moved}
use Rattle.run_hands.specs.Hands.{IsOffered, OffersClaimed, OffersStay}
use Rattle.run_hands.proofs.Blocks.Naming.{hand_gone, named_stays, names_hand}
use Rattle.run_hands.proofs.Blocks.Spending.{begun_runs, none_there}

pub begun_hand : {S W : Type 0} (begins : Option Op) (mech : Mech S W) → (begun begins mech).hand ≡ mech.hand
begun_hand None mech = refl
begun_hand (Some op) mech = refl

module _ {S W : Type 0} (form : NormalForm S W) where
  pub some_words : (setup : Setup) (moves : List Move) → AreMoves form setup moves → 2 < length (run_of form setup moves).words
  some_words setup [] are = (let long = length-opening_words form.opening setup.cap in omega (arith, long))
  some_words setup (move ∷ older) are =
      let state = run_of form setup older in
      let is = are.1 in
      let words = ap (λ (s : RunState S W). length s.words) (move_steps form state move is.mech is.seated) ∙ length-words_after (mech_request form (begun move.begins is.mech)) state.words in
      let some = some_words setup older are.0 in
      omega (arith, words, some)

  kind_hand : (phase : Phase S W) (mech new : Mech S W) (blocks : List ℕ) (before after block : ℕ) → ClaimKind phase mech new blocks before after → new.hand ≡ Some block → (mech.hand ≡ Some block) ⊎ (before < block)
  kind_hand phase mech new blocks before after block kind hand =
      elim kind [
        | claims at other less has line word ↦ (let is : before + 1 ≡ block = some_same (before + 1) block (sym has ∙ hand) in inr (omega (arith, is)))
        | finds_none at other more has line word ↦ inl (sym has ∙ hand)
        | keeps at few less has line word ↦ elim has [ inl same ↦ inl (sym same ∙ hand) | inr gone ↦ none_there new.hand block gone hand ]
      ]

  pub more_claims : (setup : Setup) (older : List Move) (move : Move) (block : ℕ) → Contains (claims_of form setup older) block → Contains (claims_of form setup (move ∷ older)) block
  more_claims setup older move block has =
      let state = run_of form setup older in
      Contains-append_right (claimed_by (slice_get state.mechs move.seat) move state) (claims_of form setup older) block has

  -- a claimed block is one of the run
  pub claimed_within : (setup : Setup) (moves : List Move) → AreMoves form setup moves → KeepsClaims form setup moves → (block : ℕ) → Contains (claims_of form setup moves) block
      → IsClaimed setup (get_or (run_of form setup moves).words 2 0) block
  claimed_within setup moves are leaves block has =
      let all = (claims_hold form setup moves are leaves).claimed in
      subst (IsClaimed setup (get_or (run_of form setup moves).words 2 0)) has.2 (all has.0 block has.1)

  module _ (setup : Setup) (older : List Move) (move : Move) (are : AreMoves form setup (move ∷ older)) (leaves : KeepsClaims form setup (move ∷ older)) where
    abbrev one : Mech S W
    one = begun move.begins are.1.mech

    abbrev new : Mech S W
    new = machine_after form setup older move are.1.mech

    abbrev filled : Option (Offer S)
    filled = ((ghost_of form setup older).seats move.seat).carried.filled

    -- a block in the hand of the machine that moved was there before the step, or is a new one
    pub hand_from : (block : ℕ) → new.hand ≡ Some block → (are.1.mech.hand ≡ Some block) ⊎ (get_or (run_of form setup older).words 2 0 < block)
    hand_from block hand =
        let state = run_of form setup older in
        let is = are.1 in
        let counter = (claims_hold form setup older are.0 leaves.0).counter in
        let few_blocks = setup.few_blocks in
        let few_seats = setup.few_seats in
        let kind = claim_kind form one.phase one state.words (begun_runs form move.begins is.mech is.can) (leaves.1 is.mech is.seated) (some_words setup older are.0) (omega (arith, counter, few_blocks, few_seats)) in
        elim (kind_hand one.phase one new _ _ _ block kind hand) [
          | inl kept ↦ inl (sym (begun_hand move.begins is.mech) ∙ kept)
          | inr beyond ↦ inr beyond
        ]

    -- a block that the move names was in its hand, and the carried list is for it
    pub record NamedNow (block : ℕ) (offer : Offer S) : Type 0 where
      pub hand_is : are.1.mech.hand ≡ Some block
      pub block_is : offer.list.block ≡ block

    pub named_now : (block : ℕ) (offer : Offer S) → names_in one.phase (seen_by form setup older move are.1.mech) ≡ Some block → filled ≡ Some offer → NamedNow block offer
    named_now block offer names is =
        let mech = are.1.mech in
        let carries = begun_carries form move.begins mech filled are.1.can (carried_held form setup older are.0 move.seat mech are.1.seated) in
        let hand = names_hand form one.phase one.hand (seen_by form setup older move mech) filled block offer carries names is in
        let held : mech.hand ≡ Some offer.list.block = sym (begun_hand move.begins mech) ∙ hand.hand_is in
        let within = (claimed_within setup older are.0 leaves.0 offer.list.block ((claims_hold form setup older are.0 leaves.0).in_hand move.seat mech are.1.seated offer.list.block held)).within in
        let few = setup.few_blocks in
        let same : block ≡ offer.list.block = hand.at_is (omega (arith, within, few)) in
        record { hand_is = held ∙ ap Some (sym same); block_is = sym same }

    -- a block that is named after the move was before it, or is named now
    pub offers_from : (block : ℕ) (offer : Offer S) → (ghost_of form setup (move ∷ older)).offers block ≡ Some offer
        → ((ghost_of form setup older).offers block ≡ Some offer) ⊎ ((names_in one.phase (seen_by form setup older move are.1.mech) ≡ Some block) × NamedNow block offer)
    offers_from block offer is =
        elim (offers_came one.phase (seen_by form setup older move are.1.mech) filled (ghost_of form setup older).offers block offer (ap (λ (o : ℕ → Option (Offer S)). o block) (sym (made_offers form setup older move are.1.mech are.1.seated)) ∙ is)) [
          | inl before ↦ inl before
          | inr now ↦ inr (now.0, named_now block offer now.0 now.1)
        ]

  -- ---- in every run

  -- the named blocks were claimed, and none is in a hand
  pub record NamesKept (setup : Setup) (moves : List Move) : Type 0 where
    pub offered : (block : ℕ) (offer : Offer S) → (ghost_of form setup moves).offers block ≡ Some offer → IsOffered setup (claims_of form setup moves) block offer
    pub unnamed : EachMech (λ seat mech. (block : ℕ) → mech.hand ≡ Some block → IsUnnamed (ghost_of form setup moves).offers block) (run_of form setup moves).mechs

  module _ (setup : Setup) (older : List Move) (move : Move) (are : AreMoves form setup (move ∷ older)) (leaves : KeepsClaims form setup (move ∷ older)) (on : NamesKept setup older) where
    offered_moved : (block : ℕ) (offer : Offer S) → (ghost_of form setup (move ∷ older)).offers block ≡ Some offer → IsOffered setup (claims_of form setup (move ∷ older)) block offer
    offered_moved block offer is =
        elim (offers_from setup older move are leaves block offer is) [
          | inl before ↦ (let was = on.offered block offer before in record { block_is = was.block_is; some = was.some; claimed = more_claims setup older move block was.claimed; within = was.within })
          | inr now ↦
              let has = (claims_hold form setup older are.0 leaves.0).in_hand move.seat are.1.mech are.1.seated block now.1.hand_is in
              let within = claimed_within setup older are.0 leaves.0 block has in
              record { block_is = now.1.block_is; some = within.some; claimed = more_claims setup older move block has; within = within.within }
        ]

    other_unnamed : (seat : ℕ) (mech : Mech S W) → seat ≢ move.seat → slice_get (run_of form setup older).mechs seat ≡ Some mech → ((block : ℕ) → mech.hand ≡ Some block → IsUnnamed (ghost_of form setup older).offers block)
        → (block : ℕ) → mech.hand ≡ Some block → IsUnnamed (ghost_of form setup (move ∷ older)).offers block
    other_unnamed seat mech apart at unnamed block hand offer is =
        elim (offers_from setup older move are leaves block offer is) [
          | inl before ↦ unnamed block hand offer before
          | inr now ↦ apart ((claims_hold form setup older are.0 leaves.0).alone seat mech at move.seat are.1.mech are.1.seated block hand now.1.hand_is)
        ]

    own_unnamed : (block : ℕ) → (machine_after form setup older move are.1.mech).hand ≡ Some block → IsUnnamed (ghost_of form setup (move ∷ older)).offers block
    own_unnamed block hand offer is =
        let one = begun move.begins are.1.mech in
        elim (offers_from setup older move are leaves block offer is) [
          | inl before ↦
              elim (hand_from setup older move are leaves block hand) [
                | inl kept ↦ on.unnamed move.seat are.1.mech are.1.seated block kept offer before
                | inr beyond ↦ (let below = (claimed_within setup older are.0 leaves.0 block (on.offered block offer before).claimed).below in omega (arith, below, beyond))
              ]
          | inr now ↦ none_there (machine_after form setup older move are.1.mech).hand block (hand_gone form one.phase one (seen_by form setup older move are.1.mech) block now.0) hand
        ]

    names_moved : NamesKept setup (move ∷ older)
    names_moved = record {
      offered = offered_moved;
      unnamed = seats_moved form (λ seat mech ghost. (block : ℕ) → mech.hand ≡ Some block → IsUnnamed (ghost_of form setup older).offers block)
          (λ seat mech ghost. (block : ℕ) → mech.hand ≡ Some block → IsUnnamed (ghost_of form setup (move ∷ older)).offers block) setup older move are.1 on.unnamed other_unnamed own_unnamed;
    }

  pub names_kept : (setup : Setup) (moves : List Move) → AreMoves form setup moves → KeepsClaims form setup moves → NamesKept setup moves
  names_kept setup [] are leaves = record {
    offered = λ block offer is. none_some offer is;
    unnamed = λ seat mech at block hand. none_there mech.hand block (ap (λ (m : Mech S W). m.hand) (new_mech form setup seat mech at)) hand;
  }
  names_kept setup (move ∷ older) are leaves = names_moved setup older move are leaves (names_kept setup older are.0 leaves.0)

  pub offers_claimed : OffersClaimed form
  offers_claimed setup moves are leaves = (names_kept setup moves are leaves).offered

  pub offers_stay : OffersStay form
  offers_stay setup older move are leaves block offer is =
      let one = begun move.begins are.1.mech in
      let ghost = ghost_of form setup older in
      let kept = names_kept setup older are.0 leaves.0 in
      ap (λ (o : ℕ → Option (Offer S)). o block) (made_offers form setup older move are.1.mech are.1.seated)
      ∙ named_stays one.phase (seen_by form setup older move are.1.mech) (ghost.seats move.seat).carried.filled ghost.offers block
      (λ named own names filled same.
      let now = named_now setup older move are leaves named own names filled in
      kept.unnamed move.seat are.1.mech are.1.seated block (now.hand_is ∙ ap Some same) offer is)
      ∙ is
