-- A core holds the run of its files, as they have grown, in the order of its steps.
use Rattle.std.proofs.Common.{rules, ◌≡◌, ◌∙◌, refl, sym, subst, ap, ℕ, Bool, true, false, List, [], ◌∷◌, Option, Some, None}
use Rattle.std.specs.Prelude.{is_some}
use Rattle.lin_report.specs.declared.calls.Op.{Op}
use Rattle.normal_traits.specs.NormalForm.{NormalForm}
use Rattle.fast_slow_engine.specs.declared.setup.Setup.{Setup}
use Rattle.fast_slow_engine.specs.Runs.{Move, RunState, moves_over, next_move, run_of, with_move}
use Rattle.event_core.specs.Cores.{CoreView, after_move, core_new, core_stepped}
use Rattle.event_core.specs.Submissions.{AreSteps, Deed, HoldsRun, after_deed, after_deeds, grown, has_move, submitted}
use Rattle.event_core.proofs.GrownFiles.{move_stays}

the_move : (o : Option Move) → is_some o ≡ true → (move : Move) × (o ≡ Some move)
the_move None h = absurd (search rules)
the_move (Some move) h = (move, refl)

module _ {S W : Type 0} (form : NormalForm S W) where
  one_more : (setup : Setup) (o : Option Move) (moves : List Move) → after_move form o (run_of form setup moves) ≡ run_of form setup (with_move o moves)
  one_more setup None moves = refl
  one_more setup (Some move) moves = refl

  no_move : (o : Option Move) (state : RunState S W) → is_some o ≡ false → after_move form o state ≡ state
  no_move None state h = refl
  no_move (Some move) state h = absurd (search rules)

  -- the steps of an order are those that they were where a file grows
  steps_stay : (setup : Setup) (files : List (List Op)) (seat : ℕ) (op : Op) (order : List ℕ) → AreSteps form setup files order
      → (moves_over form setup (grown seat op files) order ≡ moves_over form setup files order) × AreSteps form setup (grown seat op files) order
  steps_stay setup files seat op [] are = (refl, tt)
  steps_stay setup files seat op (i ∷ older) are =
      let before = steps_stay setup files seat op older are.0 in
      let was = moves_over form setup files older in
      let found = the_move (next_move files i (run_of form setup was)) are.1 in
      let stays = move_stays files seat op i (run_of form setup was) found.0 found.1 in
      let now : next_move (grown seat op files) i (run_of form setup (moves_over form setup (grown seat op files) older)) ≡ Some found.0
      = ap (λ moves. next_move (grown seat op files) i (run_of form setup moves)) before.0 ∙ stays in (
        ap (λ moves. with_move (next_move (grown seat op files) i (run_of form setup moves)) moves) before.0 ∙ ap (λ o. with_move o was) (stays ∙ sym found.1),
        (before.1, ap is_some now),
      )

  pub new_holds : (setup : Setup) (files : List (List Op)) → HoldsRun form (core_new form setup files) []
  new_holds setup files = record { steps = tt; state = refl }

  pub step_holds : (view : CoreView S W) (order : List ℕ) (seat : ℕ) → HoldsRun form view order → has_move seat view ≡ true → HoldsRun form (core_stepped form seat view) (seat ∷ order)
  step_holds view order seat holds moves =
      let so_far = moves_over form view.setup view.files order in
      record {
        steps = (holds.steps, subst (λ s. is_some (next_move view.files seat s) ≡ true) holds.state moves);
        state = ap (λ s. after_move form (next_move view.files seat s) s) holds.state ∙ one_more view.setup (next_move view.files seat (run_of form view.setup so_far)) so_far;
      }

  pub idle_keeps : (view : CoreView S W) (seat : ℕ) → has_move seat view ≡ false → core_stepped form seat view ≡ view
  idle_keeps view seat none = ap (λ s. record view { state = s }) (no_move (next_move view.files seat view.state) view.state none)

  pub submit_holds : (view : CoreView S W) (order : List ℕ) (seat : ℕ) (op : Op) → HoldsRun form view order → HoldsRun form (submitted seat op view) order
  submit_holds view order seat op holds =
      let stay = steps_stay view.setup view.files seat op order holds.steps in
      record { steps = stay.1; state = holds.state ∙ ap (run_of form view.setup) (sym stay.0) }

  step_keeps : (view : CoreView S W) (order : List ℕ) (seat : ℕ) (moves : Bool) → HoldsRun form view order → has_move seat view ≡ moves → (next : List ℕ) × HoldsRun form (core_stepped form seat view) next
  step_keeps view order seat true holds moves = (seat ∷ order, step_holds view order seat holds moves)
  step_keeps view order seat false holds none = (order, subst (λ (v : CoreView S W). HoldsRun form v order) (sym (idle_keeps view seat none)) holds)

  deed_keeps : (submits : Option Op) (seat : ℕ) (view : CoreView S W) (order : List ℕ) → HoldsRun form view order → (next : List ℕ) × HoldsRun form (after_deed form submits seat view) next
  deed_keeps None seat view order holds = step_keeps view order seat (has_move seat view) holds refl
  deed_keeps (Some op) seat view order holds = (order, submit_holds view order seat op holds)

  pub deeds_hold : (setup : Setup) (files : List (List Op)) (deeds : List Deed) → (order : List ℕ) × HoldsRun form (after_deeds form deeds (core_new form setup files)) order
  deeds_hold setup files [] = ([], new_holds setup files)
  deeds_hold setup files (deed ∷ older) =
      let before = deeds_hold setup files older in
      deed_keeps deed.submits deed.seat (after_deeds form older (core_new form setup files)) before.0 before.1
