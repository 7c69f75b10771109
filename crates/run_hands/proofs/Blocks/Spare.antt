-- The blocks in hand are spare: no list uses them before the first entry of their own takes effect.
use Rattle.std.proofs.Common.{◌≡◌, ◌≢◌, ◌∙◌, sym, subst, ap, ℕ, ◌<◌, false, List, [], ◌∷◌, get_or, slice_get, Some, inl, inr, arith}
use Rattle.normal_traits.specs.World.{World}
use Rattle.normal_traits.specs.NormalForm.{NormalForm}
use Rattle.fast_slow_engine.specs.declared.setup.Setup.{Setup}
use Rattle.fast_slow_engine.specs.Mechs.{Mech}
use Rattle.fast_slow_engine.specs.Runs.{Move, AreMoves, begun, run_of}
use Rattle.run_laws.specs.Claims.{KeepsClaims}
use Rattle.run_laws.specs.Seats.{EachMech}
use Rattle.run_laws.proofs.BlocksClaimed.{claims_hold}
use Rattle.run_laws.proofs.MachinesKept.{new_mech}
use Rattle.run_world.specs.InHand.{IsUnspent}
use Rattle.run_world.specs.RunGhosts.{ghost_of, world_of}
use Rattle.run_world.proofs.Words.Moved.{seen_by}
use Rattle.run_world.proofs.Words.Seats.{machine_after, seats_moved}
use Rattle.run_hands.specs.Hands.{HandsSpare}
use Rattle.run_hands.proofs.Blocks.Named.{claimed_within, hand_from, names_kept}
use Rattle.run_hands.proofs.Blocks.Spending.{begun_unspent, no_win, none_there, not_so, stays_unspent, true_false, was_unspent}
use Rattle.run_hands.proofs.Blocks.Used.{was, own, offered, executes_with, newly_used, own_hand, used_claimed}

module _ {S W : Type 0} (form : NormalForm S W) where
  abbrev Unused : World → Mech S W → Type 0
  Unused world mech = (block : ℕ) → mech.hand ≡ Some block → IsUnspent form mech.op mech.phase → world.used block ≡ false

  -- a block beyond the claim counter is not used
  beyond_unused : (setup : Setup) (older : List Move) → AreMoves form setup older → KeepsClaims form setup older → (block : ℕ) → get_or (run_of form setup older).words 2 0 < block → (world_of form setup older).used block ≡ false
  beyond_unused setup older are leaves block beyond =
      not_so ((world_of form setup older).used block) (λ used.
      elim (used_claimed form setup older are leaves block used).claimed [
        | inl none ↦ omega (arith, none, beyond)
        | inr has ↦ (let low = (claimed_within form setup older are leaves block has).below in omega (arith, low, beyond))
      ])

  module _ (setup : Setup) (older : List Move) (move : Move) (are : AreMoves form setup (move ∷ older)) (leaves : KeepsClaims form setup (move ∷ older)) where
    -- ---- the seat that moves

    own_unused : Unused (world_of form setup older) are.1.mech → Unused (world_of form setup (move ∷ older)) (machine_after form setup older move are.1.mech)
    own_unused unused block hand unspent =
        let is = are.1 in
        let one = begun move.begins is.mech in
        let seen = seen_by form setup older move is.mech in
        let kept = names_kept form setup older are.0 leaves.0 in
        let stays = stays_unspent form one.phase one seen block hand unspent in
        let from = hand_from form setup older move are leaves block hand in
        not_so ((world_of form setup (move ∷ older)).used block) (λ used.
        elim (newly_used form setup older move is block used) [
          | was before ↦
              true_false ((world_of form setup older).used block) before
              (elim from [
                | inl same ↦ unused block same (begun_unspent form move.begins is.mech is.can (was_unspent form one.phase one.op seen stays))
                | inr beyond ↦ beyond_unused setup older are.0 leaves.0 block beyond
              ])
          | own run stores list at holds won some same ↦
              let needs = no_win form run one.op stores one.phase seen at won stays in
              let none = (executes_with form setup older move are.0 is run stores list at holds).other needs in
              omega (arith, none, some)
          | offered at offer stands same ↦
              let named = kept.offered at offer stands in
              let there : (ghost_of form setup older).offers block ≡ Some offer = subst (λ b. (ghost_of form setup older).offers b ≡ Some offer) (sym (same ∙ named.block_is)) stands in
              elim from [
                | inl had ↦ kept.unnamed move.seat is.mech is.seated block had offer there
                | inr beyond ↦ (let low = (claimed_within form setup older are.0 leaves.0 block (kept.offered block offer there).claimed).below in omega (arith, low, beyond))
              ]
        ])

    -- ---- the other seats

    other_unused : (seat : ℕ) (mech : Mech S W) → seat ≢ move.seat → slice_get (run_of form setup older).mechs seat ≡ Some mech → Unused (world_of form setup older) mech → Unused (world_of form setup (move ∷ older)) mech
    other_unused seat mech apart at unused block hand unspent =
        let is = are.1 in
        let kept = names_kept form setup older are.0 leaves.0 in
        not_so ((world_of form setup (move ∷ older)).used block) (λ used.
        elim (newly_used form setup older move is block used) [
          | was before ↦ true_false ((world_of form setup older).used block) before (unused block hand unspent)
          | own run stores list at' holds won some same ↦
              let mine = own_hand form setup older move are.0 is run stores list at' holds some ∙ ap Some (sym same) in
              apart ((claims_hold form setup older are.0 leaves.0).alone seat mech at move.seat is.mech is.seated block hand mine)
          | offered at' offer stands same ↦
              let named = kept.offered at' offer stands in
              kept.unnamed seat mech at block hand offer (subst (λ b. (ghost_of form setup older).offers b ≡ Some offer) (sym (same ∙ named.block_is)) stands)
        ])

  all_unused : (setup : Setup) (moves : List Move) → AreMoves form setup moves → KeepsClaims form setup moves → EachMech (λ seat mech. Unused (world_of form setup moves) mech) (run_of form setup moves).mechs
  all_unused setup [] are leaves = λ seat mech at block hand unspent. none_there mech.hand block (ap (λ (m : Mech S W). m.hand) (new_mech form setup seat mech at)) hand
  all_unused setup (move ∷ older) are leaves =
      let each = all_unused setup older are.0 leaves.0 in
      seats_moved form (λ seat mech ghost. Unused (world_of form setup older) mech) (λ seat mech ghost. Unused (world_of form setup (move ∷ older)) mech) setup older move are.1 each
      (other_unused setup older move are leaves) (own_unused setup older move are leaves (each move.seat are.1.mech are.1.seated))

  pub hands_spare : HandsSpare form
  hands_spare setup moves are leaves seat mech at block hand =
      let hold = claims_hold form setup moves are leaves in
      let claimed = hold.in_hand seat mech at block hand in
      let is = claimed_within form setup moves are leaves block claimed in
      record {
        some = is.some;
        within = is.within;
        claimed = claimed;
        alone = λ other mate found has. hold.alone seat mech at other mate found block hand has;
        unnamed = (names_kept form setup moves are leaves).unnamed seat mech at block hand;
        unused = all_unused setup moves are leaves seat mech at block hand;
      }
