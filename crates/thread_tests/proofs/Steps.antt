-- A port stays that of its seat through the steps of its machine.
use Rattle.std.proofs.Common.{◌≡◌, ◌∙◌, refl, ap, Option, Some, None}
use Rattle.lin_report.specs.declared.calls.Op.{Op}
use Rattle.normal_traits.specs.NormalForm.{NormalForm}
use Rattle.fast_slow_engine.specs.declared.setup.Turn.{Turn}
use Rattle.fast_slow_engine.specs.Mechs.{Mech}
use Rattle.fast_slow_engine.specs.Runs.{begun}
use Rattle.fast_slow_engine.proofs.SameCalls.{same_fed}
use Rattle.shared_memory.specs.declared.view.View.{View}
use Rattle.shared_memory.specs.Views.{Stepped, command_of}
use Rattle.thread_tests.specs.Driven.{Stays}

begun_seat : {S W : Type 0} (begins : Option Op) (mech : Mech S W) → (begun begins mech).seat ≡ mech.seat
begun_seat None mech = refl
begun_seat (Some op) mech = refl

begun_setup : {S W : Type 0} (begins : Option Op) (mech : Mech S W) → (begun begins mech).setup ≡ mech.setup
begun_setup None mech = refl
begun_setup (Some op) mech = refl

pub stepped_stays : {C S W : Type 0} (form : NormalForm S W) (v w : View C S W) (mech new : Mech S W) (turn : Turn) → Stepped form v mech w new turn → Stays v w
stepped_stays {C} {S} {W} form v w mech new turn step =
    let begins = command_of v.machine mech in
    let same = same_fed form (begun begins v.machine) step.seen in
    record {
      seat = ap (λ (x : View C S W). x.machine.seat) step.view ∙ same.seat ∙ begun_seat begins v.machine;
      setup = ap (λ (x : View C S W). x.machine.setup) step.view ∙ same.setup ∙ begun_setup begins v.machine;
      gathered = ap (λ (x : View C S W). x.gathered) step.view;
      root = ap (λ (x : View C S W). x.root) step.view;
      made = ap (λ (x : View C S W). x.made) step.view;
    }
