-- A closed table is a run of the calls that were made through its handles.
use Rattle.std.proofs.Common.{arith, ◌≡◌, ◌∙◌, refl, sym, subst, ap, ℕ, zero, suc, ◌<◌, true, List, [], ◌++◌}
use Rattle.std.proofs.lemmas.List.FromFn.{get_or-map-range_with_len}
use Rattle.std.proofs.lemmas.Option.{same_Some, slice_get_within}
use Rattle.lin_report.specs.declared.calls.Receipt.{Receipt}
use Rattle.normal_traits.specs.NormalForm.{NormalForm}
use Rattle.fast_slow_engine.specs.Mechs.{Mech}
use Rattle.fast_slow_engine.specs.PhaseTable.{rests}
use Rattle.fast_slow_engine.specs.Runs.{run_of}
use Rattle.run_laws.proofs.MachinesKept.{seats_stay}
use Rattle.move_orders.specs.SeatLines.{lines_down, lines_of, ops_of}
use Rattle.shared_memory.specs.declared.view.View.{View}
use Rattle.shared_memory.specs.Closing.{Closes, lines_in}
use Rattle.thread_runs.specs.Whole.{IsRun}
use Rattle.handles.specs.Closing.{all_lines, files_in, lines_down_in}

module _ {C S W : Type 0} where
  same_down : (view : View C S W) (n : ℕ) (rs : List Receipt) → ((seat : ℕ) → seat < n → lines_of seat rs ≡ lines_in view seat) → lines_down_in view n ≡ lines_down n rs
  same_down view zero rs each = refl
  same_down view (suc n) rs each =
      ap (λ l. l ++ lines_down_in view n) (sym (each n (omega arith)))
      ∙ ap (λ l. lines_of n rs ++ l) (same_down view n rs (λ seat low. each seat (omega (arith, low))))

  pub closes_are_runs : (form : NormalForm S W) (view : View C S W) (ticks claimed : ℕ) → Closes form view ticks claimed → IsRun form view.machine.setup (files_in view) (all_lines view) ticks claimed
  closes_are_runs form view ticks claimed closes =
      let setup = view.machine.setup in
      let state = run_of form setup closes.moves in
      let seated = seats_stay form setup closes.moves closes.are in
      record {
        moves = closes.moves;
        are = closes.are;
        drawn = closes.drawn;
        asked = closes.asked;
        idle = λ seat mech found.
            let low = slice_get_within state.mechs seat mech found in
            let count = seated.count in
            let r = closes.rest seat (omega (arith, low, count)) in
            subst (λ (m : Mech S W). rests m.phase ≡ true) (same_Some r.mech mech (sym r.has.machine ∙ found)) r.idle;
        ops = λ seat low. ap ops_of (closes.rest seat low).has.lines ∙ sym (get_or-map-range_with_len (λ k. ops_of (lines_in view k)) 0 setup.seats seat seat [] low (omega arith));
        same = same_down view setup.seats state.receipts (λ seat low. (closes.rest seat low).has.lines);
      }
