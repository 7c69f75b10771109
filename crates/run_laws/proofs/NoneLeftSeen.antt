-- A call that ends with Exhausted where it asks for a block has seen that none is left, and so has a helper that tells
-- it to a record.
use Rattle.std.proofs.Common.{rules, arith, ◌≡◌, ◌∙◌, refl, sym, subst, ap, true, slice_get, Option, Some, None}
use Rattle.std.proofs.lemmas.Option.{slice_get_within}
use Rattle.lin_report.specs.declared.calls.Op.{Op}
use Rattle.step_memory.specs.Step.{seen_of}
use Rattle.normal_traits.specs.NormalForm.{NormalForm}
use Rattle.fast_slow_engine.specs.declared.phases.Phase.{Phase}
use Rattle.fast_slow_engine.specs.declared.phases.Phase.TheVariants.{Idle, Begin, Look, Generate, Apply, Wrap, Announce, Enter, Drive, Help, Collect, Value, End}
use Rattle.fast_slow_engine.specs.declared.setup.Setup.{Setup}
use Rattle.fast_slow_engine.specs.Mechs.{Mech}
use Rattle.fast_slow_engine.specs.PhaseTable.{mech_fed, mech_request, rests}
use Rattle.fast_slow_engine.specs.Runs.{Move, RunState, CanMove, IsMove, begun, run_of, run_step}
use Rattle.run_laws.specs.Claims.{ExhaustedSaw, HelperSaw, asks_for_block, tells_record}
use Rattle.run_laws.proofs.Steps.{at_set, move_steps, some_same}
use Rattle.run_laws.proofs.MachinesKept.{seats_stay}
use Rattle.run_laws.proofs.Exhausted.{exhausted_phase, told_phase}

module _ {S W : Type 0} where
  module _ (form : NormalForm S W) where
    asks_runs : (phase : Phase S W) → asks_for_block phase ≡ true → rests phase ≡ true → ⊥
    asks_runs Idle asks free = absurd (search rules)
    asks_runs Begin asks free = absurd (search rules)
    asks_runs Look asks free = absurd (search rules)
    asks_runs (Generate s at) asks free = absurd (search rules)
    asks_runs (Apply run stores at) asks free = absurd (search rules)
    asks_runs (Wrap w) asks free = absurd (search rules)
    asks_runs (Announce at) asks free = absurd (search rules)
    asks_runs (Enter owner) asks free = absurd (search rules)
    asks_runs Drive asks free = absurd (search rules)
    asks_runs (Help drives help) asks free = absurd (search rules)
    asks_runs Collect asks free = absurd (search rules)
    asks_runs (Value reference) asks free = absurd (search rules)
    asks_runs (End reply) asks free = absurd (search rules)

    begins_none : (begins : Option Op) (mech : Mech S W) → CanMove form begins mech → asks_for_block mech.phase ≡ true → begun begins mech ≡ mech
    begins_none None mech can asks = refl
    begins_none (Some op) mech can asks = absurd (asks_runs mech.phase asks can.0)

    -- the machine after a step, made where it asks for a block; the call ran before
    asked : (state : RunState S W) (move : Move) (before after : Mech S W) → IsMove form state move → slice_get state.mechs move.seat ≡ Some before → slice_get (run_step form state move).mechs move.seat ≡ Some after
        → asks_for_block before.phase ≡ true → mech_fed form before (seen_of (mech_request form before) state.words) ≡ after
    asked state move before after by was is asks =
        let same : by.mech ≡ before = some_same by.mech before (sym by.seated ∙ was) in
        let asks : asks_for_block by.mech.phase ≡ true = subst (λ (m : Mech S W). asks_for_block m.phase ≡ true) (sym same) asks in
        let none = begins_none move.begins by.mech by.can asks in
        let fed = λ (m : Mech S W). mech_fed form m (seen_of (mech_request form m) state.words) in
        let stepped = subst (λ (s : RunState S W). slice_get s.mechs move.seat ≡ Some after) (move_steps form state move by.mech by.seated) is in
        let new : fed (begun move.begins by.mech) ≡ after = some_same (fed (begun move.begins by.mech)) after (sym (at_set state.mechs move.seat (fed (begun move.begins by.mech)) (slice_get_within state.mechs move.seat by.mech by.seated)) ∙ stepped) in
        sym (ap fed same) ∙ ap fed (sym none) ∙ new

    pub exhausted_saw : ExhaustedSaw form
    exhausted_saw setup older move before after are was is asks ends =
        let state = run_of form setup older in
        let fed = asked state move before after are.1 was is asks in
        let saw = exhausted_phase form before.phase before state.words asks (ap (λ (m : Mech S W). m.phase) fed ∙ ends) in
        let cap = ap (λ (s : Setup). s.cap) ((seats_stay form setup older are.0).own move.seat before was).setup in
        omega (arith, saw, cap)

    pub helper_saw : HelperSaw form
    helper_saw setup older move before after to are was is asks tells =
        let state = run_of form setup older in
        let fed = asked state move before after are.1 was is asks in
        let saw = told_phase form before.phase before state.words to asks (ap (λ (m : Mech S W). tells_record m.phase) fed ∙ tells) in
        let cap = ap (λ (s : Setup). s.cap) ((seats_stay form setup older are.0).own move.seat before was).setup in
        omega (arith, saw, cap)
