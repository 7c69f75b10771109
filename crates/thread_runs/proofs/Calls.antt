-- What a call keeps, step by step.
use Rattle.std.proofs.Common.{◌≡◌, ◌+◌, ◌<◌, true, false, Some, None, List, ◌++◌, sym, refl, ap, ◌∙◌, subst, if◌then◌else◌, append-nil}
use Rattle.lin_report.specs.declared.calls.Op.{Op}
use Rattle.lin_report.specs.declared.calls.Receipt.{Receipt}
use Rattle.lin_report.specs.Object.{IsCommandOf}
use Rattle.step_memory.specs.declared.steps.Seen.{Seen}
use Rattle.normal_traits.specs.NormalForm.{NormalForm}
use Rattle.fast_slow_engine.specs.declared.setup.Turn.{Turn}
use Rattle.fast_slow_engine.specs.declared.setup.Turn.TheVariants as turn
use Rattle.fast_slow_engine.specs.Mechs.{Mech}
use Rattle.fast_slow_engine.specs.PhaseTable.{mech_fed, mech_started, mech_turn, rests}
use Rattle.fast_slow_engine.specs.Runs.{CanMove, begun, returned}
use Rattle.fast_slow_engine.proofs.SameCalls.{same_fed}
use Rattle.fast_slow_engine.specs.Lines.{returns}
use Rattle.fast_slow_engine.proofs.LineOwners.{calls_end, lines_are_own}
use Rattle.shared_memory.specs.declared.view.View.{View}
use Rattle.shared_memory.specs.Views.{RunsOnFrom, Stepped, command_of, moved}
use Rattle.thread_runs.specs.Work.{HasMade, RestsIn, Under, after_call}

module _ {S W : Type 0} (form : NormalForm S W) where
  going : (mech : Mech S W) (seen : Seen) → rests mech.phase ≡ false → turn.Going ≡ mech_turn mech seen → rests (mech_fed form mech seen).phase ≡ false
  going mech seen runs is = calls_end form mech seen runs ∙ ap returns (sym is)

  returned_rests : (mech : Mech S W) (seen : Seen) (r : Receipt) → rests mech.phase ≡ false → turn.Returned r ≡ mech_turn mech seen → rests (mech_fed form mech seen).phase ≡ true
  returned_rests mech seen r runs is = calls_end form mech seen runs ∙ ap returns (sym is)

module _ {C S W : Type 0} (form : NormalForm S W) where
  -- a machine of which a call runs is followed by itself
  itself : (v : View C S W) (mech : Mech S W) → mech ≡ v.machine → rests mech.phase ≡ false → RunsOnFrom form v mech
  itself v mech same runs =
      let there : rests v.machine.phase ≡ false = ap (λ (m : Mech S W). rests m.phase) (sym same) ∙ runs in
      let none : command_of v.machine mech ≡ None = ap (λ b. if b then Some mech.op else None) there in
      record { is = same ∙ ap (λ o. begun o v.machine) (sym none); runs = runs; can = subst (λ o. CanMove form o v.machine) (sym none) there }

  pub starts : (v : View C S W) (mech : Mech S W) (op : Op) → RestsIn v mech → mech.number < 65535 → IsCommandOf form.object op → Under form v op v (mech_started op mech)
  starts v mech op rest fewer command =
      let there : rests v.machine.phase ≡ true = ap (λ (m : Mech S W). rests m.phase) (sym rest.same) ∙ rest.idle in
      let some : command_of v.machine (mech_started op mech) ≡ Some op = ap (λ b. if b then Some op else None) there in
      record {
        follows = record {
          is = ap (mech_started op) rest.same ∙ ap (λ o. begun o v.machine) (sym some);
          runs = refl;
          can = subst (λ o. CanMove form o v.machine) (sym some) (there, subst (λ (m : Mech S W). m.number < 65535) rest.same fewer, command);
        };
        number = ap (λ (m : Mech S W). m.number + 1) rest.same;
        of_op = refl;
        of_seat = ap (λ (m : Mech S W). m.seat) rest.same;
        of_run = ap (λ (m : Mech S W). m.setup) rest.same;
        same = refl;
      }

  abbrev put : View C S W → Mech S W → List Receipt → View C S W
  put w x rs = record w { machine = x; receipts = rs }

  view_after : (v0 : View C S W) (op : Op) (v v' : View C S W) (mech : Mech S W) (t : Turn) (seen : Seen) → Under form v0 op v mech → t ≡ mech_turn mech seen → v' ≡ moved form v (command_of v.machine mech) seen
      → v' ≡ put v0 v'.machine (v0.receipts ++ returned t)
  view_after v0 op v v' mech t seen u is e =
      let b = command_of v.machine mech in
      let x = mech_fed form (begun b v.machine) seen in
      let rs = v.receipts ++ returned (mech_turn (begun b v.machine) seen) in
      let one : x ≡ v'.machine = sym (ap (λ (w : View C S W). w.machine) e) in
      let two : rs ≡ v.receipts ++ returned t = ap (λ (y : Mech S W). v.receipts ++ returned (mech_turn y seen)) (sym u.follows.is) ∙ ap (λ (y : Turn). v.receipts ++ returned y) (sym is) in
      let there : put v x rs ≡ put v v'.machine (v.receipts ++ returned t) = λ i. put v (one i) (two i) in
      e ∙ (there ∙ ap (λ (w : View C S W). put w v'.machine (w.receipts ++ returned t)) u.same)

  pub goes : (v0 : View C S W) (op : Op) (v v' : View C S W) (mech mech' : Mech S W) → Under form v0 op v mech → Stepped form v mech v' mech' turn.Going → Under form v0 op v' mech'
  goes v0 op v v' mech mech' u s =
      let kept = going form mech s.seen u.follows.runs s.turns in
      let call = same_fed form mech s.seen in
      let same : mech' ≡ v'.machine = s.machine ∙ (ap (λ (x : Mech S W). mech_fed form x s.seen) u.follows.is ∙ sym (ap (λ (x : View C S W). x.machine) s.view)) in
      record {
        follows = itself v' mech' same (ap (λ (m : Mech S W). rests m.phase) s.machine ∙ kept);
        number = ap (λ (x : Mech S W). x.number) s.machine ∙ call.number ∙ u.number;
        of_op = ap (λ (x : Mech S W). x.op) s.machine ∙ call.op ∙ u.of_op;
        of_seat = ap (λ (x : Mech S W). x.seat) s.machine ∙ call.seat ∙ u.of_seat;
        of_run = ap (λ (x : Mech S W). x.setup) s.machine ∙ call.setup ∙ u.of_run;
        same = view_after v0 op v v' mech turn.Going s.seen u s.turns s.view ∙ ap (λ rs. put v0 v'.machine rs) (append-nil v0.receipts);
      }

  pub ends : (v0 : View C S W) (op : Op) (v v' : View C S W) (mech mech' : Mech S W) (r : Receipt) → Under form v0 op v mech → Stepped form v mech v' mech' (turn.Returned r) → HasMade op v0 v' mech' r
  ends v0 op v v' mech mech' r u s =
      let call = same_fed form mech s.seen in
      let same : mech' ≡ v'.machine = s.machine ∙ (ap (λ (x : Mech S W). mech_fed form x s.seen) u.follows.is ∙ sym (ap (λ (x : View C S W). x.machine) s.view)) in
      record {
        rest = record { same = same; idle = ap (λ (m : Mech S W). rests m.phase) s.machine ∙ returned_rests form mech s.seen r u.follows.runs s.turns };
        number = ap (λ (x : Mech S W). x.number) s.machine ∙ call.number ∙ u.number;
        of_op = (lines_are_own mech s.seen r (sym s.turns)).op ∙ u.of_op;
        of_seat = ap (λ (x : Mech S W). x.seat) s.machine ∙ call.seat ∙ u.of_seat;
        of_run = ap (λ (x : Mech S W). x.setup) s.machine ∙ call.setup ∙ u.of_run;
        view = view_after v0 op v v' mech (turn.Returned r) s.seen u s.turns s.view ∙ ap (λ (x : Mech S W). after_call v0 x r) (sym same);
      }
