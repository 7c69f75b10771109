-- In every run the blocks that were named and those in hand are at most those that were claimed.
use Rattle.std.proofs.Common.{◌≡◌, refl, ap, sym, subst, ◌∙◌, ℕ, zero, suc, ◌+◌, ◌≤◌, List, [], ◌∷◌, slice_get, slice_set, Option, Some, None, arith, inl, inr}
use Rattle.std.proofs.lemmas.Bool.{cases_eq}
use Rattle.std.proofs.lemmas.Option.{slice_get_within}
use Rattle.lin_report.specs.declared.calls.Op.{Op}
use Rattle.step_memory.specs.Step.{seen_of}
use Rattle.normal_traits.specs.NormalForm.{NormalForm}
use Rattle.help_queue_laws.proofs.Runs.EveryRunHolds.{at_set, beside_set, same_some}
use Rattle.fast_slow_engine.specs.declared.setup.Setup.{Setup}
use Rattle.fast_slow_engine.specs.Mechs.{Mech}
use Rattle.fast_slow_engine.specs.PhaseTable.{mech_fed, mech_request}
use Rattle.fast_slow_engine.specs.Runs.{Move, RunState, begun, moved_by, opening_run, run_of}
use Rattle.run_queue.specs.Rounds.{blocks_named, named_by}
use Rattle.run_queue.specs.HeldBlocks.{in_hand, hands_of, claimed_by, blocks_claimed, PhaseHand, NamesAreClaimed, ClaimsKeepQueue}
use Rattle.run_queue.proofs.Blocks.HandMoves.{phase_hands}
use Rattle.run_queue.proofs.Runs.RunMoves.{new_mech}
use Rattle.run_queue.proofs.Blocks.RoundLaws.{rounds_hold}

module _ {S W : Type 0} where
  hands_set : (mechs : List (Mech S W)) (i : ℕ) (old new : Mech S W) → slice_get mechs i ≡ Some old → hands_of (slice_set mechs i new) + in_hand old.hand ≡ hands_of mechs + in_hand new.hand
  hands_set [] i old new found = absurd cc
  hands_set (mech ∷ mechs) zero old new found = (let same : in_hand mech.hand ≡ in_hand old.hand = ap (λ (m : Mech S W). in_hand m.hand) (same_some mech old found) in omega (arith, same))
  hands_set (mech ∷ mechs) (suc i) old new found = (let rest = hands_set mechs i old new found in omega (arith, rest))

  hands_none : (mechs : List (Mech S W)) → ((i : ℕ) (mech : Mech S W) → slice_get mechs i ≡ Some mech → in_hand mech.hand ≡ 0) → hands_of mechs ≡ 0
  hands_none [] none = refl
  hands_none (mech ∷ mechs) none = (let first = none 0 mech refl in let rest = hands_none mechs (λ i mate found. none (suc i) mate found) in omega (arith, first, rest))

  begun_hand : (begins : Option Op) (mech : Mech S W) → in_hand (begun begins mech).hand ≡ in_hand mech.hand
  begun_hand None mech = refl
  begun_hand (Some op) mech = refl

  begun_fits : (begins : Option Op) (mech : Mech S W) → PhaseHand mech.phase mech.hand → PhaseHand (begun begins mech).phase (begun begins mech).hand
  begun_fits None mech h = h
  begun_fits (Some op) mech h = tt

  -- each machine has a block in hand where its phase needs it, and so many were named and are in hand
  pub record HasHands (mechs : List (Mech S W)) (named claimed : ℕ) : Type 0 where
    pub fits : (i : ℕ) (mech : Mech S W) → slice_get mechs i ≡ Some mech → PhaseHand mech.phase mech.hand
    pub count : named + hands_of mechs ≤ claimed

  module _ (form : NormalForm S W) where
    moved_hands : (move : Move) (state : RunState S W) (named claimed : ℕ) (o : Option (Mech S W)) → slice_get state.mechs move.seat ≡ o → HasHands state.mechs named claimed
        → HasHands (moved_by form o move state).mechs (named + named_by form o move state) (claimed + claimed_by form o move state)
    moved_hands move state named claimed None at h = (let count = h.count in record { fits = h.fits; count = omega (arith, count) })
    moved_hands move state named claimed (Some old) at h =
        let mech = begun move.begins old in
        let seen = seen_of (mech_request form mech) state.words in
        let new = mech_fed form mech seen in
        let own = begun_fits move.begins old (h.fits move.seat old at) in
        let step = phase_hands form mech.phase seen mech own own in
        let sum = hands_set state.mechs move.seat old new at in
        let held = begun_hand move.begins old in
        let before = h.count in
        let count = step.count in
        record {
          fits = λ i mate found. elim (cases_eq i move.seat) [
            | inl same ↦ (
                let is : new ≡ mate = same_some new mate (sym (at_set state.mechs move.seat new (slice_get_within state.mechs move.seat old at)) ∙ subst (λ k. slice_get (slice_set state.mechs move.seat new) k ≡ Some mate) same found) in
                subst (λ (m : Mech S W). PhaseHand m.phase m.hand) is step.fits)
            | inr other ↦ h.fits i mate (sym (beside_set state.mechs move.seat i new other) ∙ found)
          ];
          count = omega (arith, sum, held, before, count);
        }

    pub runs_hands : (setup : Setup) (moves : List Move) → HasHands (run_of form setup moves).mechs (blocks_named form setup moves) (blocks_claimed form setup moves)
    runs_hands setup [] = record {
      fits = λ i mech found. subst (λ (m : Mech S W). PhaseHand m.phase m.hand) (new_mech form setup i mech found).0 tt;
      count = let none = hands_none (opening_run form setup).mechs (λ i mech found. ap (λ (m : Mech S W). in_hand m.hand) (sym (new_mech form setup i mech found).0)) in omega (arith, none);
    }
    runs_hands setup (move ∷ older) =
        let state = run_of form setup older in
        moved_hands move state (blocks_named form setup older) (blocks_claimed form setup older) (slice_get state.mechs move.seat) refl (runs_hands setup older)

    pub names_are_claimed : NamesAreClaimed form
    names_are_claimed setup moves are = (runs_hands setup moves).count

    pub claims_keep_queue : ClaimsKeepQueue form
    claims_keep_queue setup moves are leaves within =
        let count = (runs_hands setup moves).count in
        let few = setup.few_blocks in
        rounds_hold form setup moves are leaves (omega (arith, count, within, few))
