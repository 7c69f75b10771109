-- What a step leaves of each seat, and of each view.
use Rattle.std.proofs.Common.{◌≡◌, ◌≢◌, ◌∙◌, refl, sym, subst, ap, ℕ, ◌≤◌, List, ◌++◌, Option, Some, None, append-nil}
use Rattle.std.proofs.lemmas.Option.{slice_get_within}
use Rattle.lin_report.specs.declared.calls.Op.{Op}
use Rattle.lin_report.specs.declared.calls.Receipt.{Receipt}
use Rattle.step_memory.specs.Step.{seen_of}
use Rattle.normal_traits.specs.NormalForm.{NormalForm}
use Rattle.fast_slow_engine.specs.declared.setup.Setup.{Setup}
use Rattle.fast_slow_engine.specs.Mechs.{Mech}
use Rattle.fast_slow_engine.specs.PhaseTable.{mech_fed, mech_request, mech_turn}
use Rattle.fast_slow_engine.specs.Runs.{RunState, begun, returned, stepped_by}
use Rattle.fast_slow_engine.proofs.SameCalls.{same_fed}
use Rattle.run_laws.proofs.Steps.{at_set, beside_set}
use Rattle.move_orders.specs.SeatLines.{lines_of}
use Rattle.move_orders.proofs.SeatLines.{lines_append, returned_other, returned_own}
use Rattle.shared_memory.specs.declared.view.View.{View}
use Rattle.shared_memory.specs.Views.{moved}
use Rattle.shared_memory.specs.Rule.{Fits, HasSeat}

-- a command that is begun is of the machine's seat and setup
pub begun_seat : {S W : Type 0} (begins : Option Op) (mech : Mech S W) → (begun begins mech).seat ≡ mech.seat
begun_seat None mech = refl
begun_seat (Some op) mech = refl

pub begun_setup : {S W : Type 0} (begins : Option Op) (mech : Mech S W) → (begun begins mech).setup ≡ mech.setup
begun_setup None mech = refl
begun_setup (Some op) mech = refl

module _ {S W : Type 0} (form : NormalForm S W) where
  -- a seat other than the one that steps has what it had
  pub other_has : (state : RunState S W) (seat k : ℕ) (mech mate : Mech S W) (rs : List Receipt) → k ≢ seat → mech.seat ≡ seat → HasSeat state k mate rs → HasSeat (stepped_by form seat mech state) k mate rs
  other_has state seat k mech mate rs apart own has =
      let seen = seen_of (mech_request form mech) state.words in
      record {
        machine = beside_set state.mechs seat k (mech_fed form mech seen) apart ∙ has.machine;
        lines = lines_append k state.receipts (returned (mech_turn mech seen))
            ∙ ap (λ l. lines_of k state.receipts ++ l) (returned_other k mech seen (λ e. apart (sym e ∙ own)))
            ∙ append-nil (lines_of k state.receipts) ∙ has.lines;
      }

  -- the seat that steps has its machine fed, and the line that it returned behind its others
  own_has : (state : RunState S W) (seat : ℕ) (mech old : Mech S W) (rs : List Receipt) → mech.seat ≡ seat → HasSeat state seat old rs
      → HasSeat (stepped_by form seat mech state) seat (mech_fed form mech (seen_of (mech_request form mech) state.words)) (rs ++ returned (mech_turn mech (seen_of (mech_request form mech) state.words)))
  own_has state seat mech old rs own has =
      let seen = seen_of (mech_request form mech) state.words in
      record {
        machine = at_set state.mechs seat (mech_fed form mech seen) (slice_get_within state.mechs seat old has.machine);
        lines = lines_append seat state.receipts (returned (mech_turn mech seen))
            ∙ ap (λ l. lines_of seat state.receipts ++ l) (returned_own seat mech seen own)
            ∙ ap (λ l. l ++ returned (mech_turn mech seen)) has.lines;
      }

module _ {C S W : Type 0} (form : NormalForm S W) where
  -- a view that doesn't have the seat that steps
  pub stays : (setup : Setup) (state : RunState S W) (owner : ℕ → ℕ) (made rooted j : ℕ) (v : View C S W) (seat : ℕ) (mech : Mech S W) → owner seat ≢ j → mech.seat ≡ seat
      → Fits setup state owner made rooted j v → Fits setup (stepped_by form seat mech state) owner made rooted j v
  stays setup state owner made rooted j v seat mech other own f = record {
    of_run = f.of_run;
    mine = f.mine;
    low = f.low;
    has = other_has form state seat v.machine.seat mech v.machine v.receipts (λ e. other (ap owner (sym e) ∙ f.mine)) own f.has;
    others = λ k g at.
        let o = f.others k g at in
        let r = o.3 in
        (o.0, o.1, o.2, record { mech = r.mech; has = other_has form state seat g.seat mech r.mech g.receipts (λ e. other (ap owner (sym e) ∙ o.0)) own r.has; idle = r.idle });
    root = f.root;
  }

  -- the view whose seat steps
  pub steps : (setup : Setup) (state : RunState S W) (owner : ℕ → ℕ) (made rooted j : ℕ) (v : View C S W) (begins : Option Op) → Fits setup state owner made rooted j v
      → Fits setup (stepped_by form v.machine.seat (begun begins v.machine) state) owner made rooted j (moved form v begins (seen_of (mech_request form (begun begins v.machine)) state.words))
  steps setup state owner made rooted j v begins f =
      let mech = begun begins v.machine in
      let seen = seen_of (mech_request form mech) state.words in
      let same = same_fed form mech seen in
      let own : mech.seat ≡ v.machine.seat = begun_seat begins v.machine in
      let seat : (mech_fed form mech seen).seat ≡ v.machine.seat = same.seat ∙ own in
      record {
        of_run = same.setup ∙ begun_setup begins v.machine ∙ f.of_run;
        mine = ap owner seat ∙ f.mine;
        low = subst (λ n. n ≤ made) (sym seat) f.low;
        has = subst (λ n. HasSeat (stepped_by form v.machine.seat mech state) n (mech_fed form mech seen) (v.receipts ++ returned (mech_turn mech seen))) (sym seat) (own_has form state v.machine.seat mech v.machine v.receipts own f.has);
        others = λ k g at.
            let o = f.others k g at in
            let r = o.3 in
            (o.0, (λ e. o.1 (e ∙ seat)), o.2, record { mech = r.mech; has = other_has form state v.machine.seat g.seat mech r.mech g.receipts o.1 own r.has; idle = r.idle });
        root = f.root;
      }
