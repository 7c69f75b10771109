-- Every seat keeps its machine, and its number counts its calls.
use Rattle.std.proofs.Common.{◌≡◌, ◌∙◌, refl, sym, subst, ap, ℕ, ◌+◌, ◌<◌, ◌==◌, ◌&&◌, if◌then◌else◌, true, false, [], ◌∷◌, length-set, map, slice_get, slice_set, Option, Some, None, is_some, inl, inr, arith}
use Rattle.std.specs.List.{range_with_len}
use Rattle.std.proofs.lemmas.Bool.{cases_eq}
use Rattle.std.proofs.lemmas.Bool.Decides.{nat_tests}
use Rattle.std.proofs.lemmas.Option.{slice_get-get_or, slice_get_within}
use Rattle.std.proofs.lemmas.List.FromFn.{get_or-map-range_with_len, length-map-range_with_len}
use Rattle.lin_report.specs.declared.calls.Op.{Op}
use Rattle.step_memory.specs.Step.{seen_of}
use Rattle.normal_traits.specs.NormalForm.{NormalForm}
use Rattle.fast_slow_engine.specs.declared.setup.Setup.{Setup}
use Rattle.fast_slow_engine.specs.Mechs.{Mech}
use Rattle.fast_slow_engine.specs.PhaseTable.{mech_fed, mech_new, mech_request}
use Rattle.fast_slow_engine.specs.Runs.{Move, RunState, IsMove, begun, opening_run, run_of, run_step, stepped_by}
use Rattle.fast_slow_engine.proofs.SameCalls.{same_fed}
use Rattle.run_laws.specs.Seats.{IsMechOf, IsSeated, calls_begun, SeatsStay, NumbersCount}
use Rattle.run_laws.proofs.Steps.{at_set, beside_set, each_set, move_steps, some_same}

module _ {S W : Type 0} (form : NormalForm S W) where
  -- the machine with which a run opens a seat
  abbrev opened : Setup → ℕ → Mech S W
  opened setup seat = mech_new seat setup

  -- the machines with which a run opens
  pub new_mech : (setup : Setup) (seat : ℕ) (mech : Mech S W) → slice_get (opening_run form setup).mechs seat ≡ Some mech → mech ≡ mech_new seat setup
  new_mech setup seat mech found =
      let make = opened setup in
      let mechs = map make (range_with_len 0 setup.seats) in
      let inside : seat < setup.seats = subst (λ n. seat < n) (length-map-range_with_len make 0 setup.seats) (slice_get_within mechs seat mech found) in
      some_same mech (make seat) (sym found ∙ slice_get-get_or mechs seat mech (slice_get_within mechs seat mech found) ∙ ap Some (get_or-map-range_with_len make 0 setup.seats seat seat mech inside (omega arith)))

  pub begun_own : (setup : Setup) (seat : ℕ) (begins : Option Op) (mech : Mech S W) → IsMechOf setup seat mech → IsMechOf setup seat (begun begins mech)
  begun_own setup seat None mech own = own
  begun_own setup seat (Some op) mech own = record { seat = own.seat; setup = own.setup }

  pub begun_number : (begins : Option Op) (mech : Mech S W) → (begun begins mech).number ≡ mech.number + (if is_some begins then 1 else 0)
  begun_number None mech = omega arith
  begun_number (Some op) mech = refl

  seated_step : (setup : Setup) (state : RunState S W) (move : Move) → IsMove form state move → IsSeated setup state → IsSeated setup (run_step form state move)
  seated_step setup state move is seated =
      let mech = begun move.begins is.mech in
      let seen = seen_of (mech_request form mech) state.words in
      let new = mech_fed form mech seen in
      let same = same_fed form mech seen in
      let own = begun_own setup move.seat move.begins is.mech (seated.own move.seat is.mech is.seated) in
      subst (IsSeated setup) (sym (move_steps form state move is.mech is.seated)) (record {
        count = length-set state.mechs move.seat new ∙ seated.count;
        own = each_set (IsMechOf setup) (IsMechOf setup) state.mechs move.seat is.mech new is.seated seated.own (λ seat mech h. h) (record { seat = same.seat ∙ own.seat; setup = same.setup ∙ own.setup });
      })

  pub seats_stay : SeatsStay form
  seats_stay setup [] are = record {
    count = length-map-range_with_len (opened setup) 0 setup.seats;
    own = λ seat mech found. subst (IsMechOf setup seat) (sym (new_mech setup seat mech found)) (record { seat = refl; setup = refl });
  }
  seats_stay setup (move ∷ older) are = seated_step setup (run_of form setup older) move are.1 (seats_stay setup older are.0)

  counted : (move : Move) (state : RunState S W) (mech : Mech S W) (seat : ℕ) (before after : Mech S W) → slice_get state.mechs move.seat ≡ Some mech
      → slice_get state.mechs seat ≡ Some before → slice_get (stepped_by form move.seat (begun move.begins mech) state).mechs seat ≡ Some after
      → after.number ≡ before.number + calls_begun seat move
  counted move state mech seat before after at was is =
      let one = begun move.begins mech in
      let new = mech_fed form one (seen_of (mech_request form one) state.words) in
      elim (cases_eq move.seat seat) [
        | inl same ↦
            let here : new ≡ after = some_same new after (sym (at_set state.mechs move.seat new (slice_get_within state.mechs move.seat mech at)) ∙ subst (λ k. slice_get (slice_set state.mechs move.seat new) k ≡ Some after) (sym same) is) in
            let old : mech ≡ before = some_same mech before (sym at ∙ subst (λ k. slice_get state.mechs k ≡ Some before) (sym same) was) in
            let test : (move.seat == seat) ≡ true = grind (arith, nat_tests) in
            sym (ap (λ (m : Mech S W). m.number) here) ∙ (same_fed form one (seen_of (mech_request form one) state.words)).number ∙ begun_number move.begins mech
            ∙ ap (λ (m : Mech S W). m.number + (if is_some move.begins then 1 else 0)) old ∙ ap (λ b. before.number + (if b && is_some move.begins then 1 else 0)) (sym test)
        | inr apart ↦
            let stays : before ≡ after = some_same before after (sym was ∙ sym (beside_set state.mechs move.seat seat new (λ e. apart (sym e))) ∙ is) in
            let test : (move.seat == seat) ≡ false = grind (arith, nat_tests) in
            sym (ap (λ (m : Mech S W). m.number) stays) ∙ (omega arith) ∙ ap (λ b. before.number + (if b && is_some move.begins then 1 else 0)) (sym test)
      ]

  pub numbers_count : NumbersCount form
  numbers_count setup older move seat before after are was is =
      let step = are.1 in
      counted move (run_of form setup older) step.mech seat before after step.seated was
      (subst (λ (s : RunState S W). slice_get s.mechs seat ≡ Some after) (move_steps form (run_of form setup older) move step.mech step.seated) is)
