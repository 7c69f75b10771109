-- The moves of a run with threads are the run over the files that it was given.
use Rattle.std.proofs.Common.{arith, ◌≡◌, ◌∙◌, refl, sym, subst, ap, ℕ, suc, ◌<◌, true, List, [], ◌∷◌, ◌++◌, length, get_or, slice_get, slice_index, Some, IsPermutation}
use Rattle.std.specs.Option.{option_to_list}
use Rattle.std.proofs.lemmas.Option.{slice_get-get_or}
use Rattle.std.proofs.lemmas.List.FromFn.{get_or-map-range_with_len, length-map-range_with_len}
use Rattle.lin_report.specs.declared.calls.Op.{Op}
use Rattle.node_arena.specs.declared.places.TheConstants.{TICKS, CLAIMS}
use Rattle.normal_traits.specs.NormalForm.{NormalForm}
use Rattle.normal_traits.specs.Laws.{Laws}
use Rattle.fast_slow_engine.specs.Mechs.{Mech}
use Rattle.fast_slow_engine.specs.PhaseTable.{mech_new, rests}
use Rattle.fast_slow_engine.specs.Runs.{RunState, moves_over, pending_of, run_of}
use Rattle.fast_slow_engine.proofs.LineOwners.{rest_pends_nothing}
use Rattle.run_laws.specs.Seats.{EachMech}
use Rattle.run_laws.proofs.MachinesKept.{seats_stay}
use Rattle.run_reports.proofs.Kept.Induction.{runs_are_kept}
use Rattle.run_reports.proofs.Placed.HeadlineMet.{files_meet_headline}
use Rattle.move_orders.specs.Orders.{AreOver, begun_at, begun_files, seats_of}
use Rattle.move_orders.proofs.OverFiles.{moves_over_files}
use Rattle.move_orders.proofs.Gathered.{lines_gather}
use Rattle.move_orders.proofs.Told.{lines_tell}
use Rattle.thread_laws.specs.Headline.{ThreadsMeetHeadline}

-- two lists that agree at each place
same_lists : (xs ys : List (List Op)) → length xs ≡ length ys → ((k : ℕ) → k < length xs → get_or xs k [] ≡ get_or ys k []) → xs ≡ ys
same_lists [] [] count each = refl
same_lists [] (y ∷ ys) count each = absurd (omega (arith, count))
same_lists (x ∷ xs) [] count each = absurd (omega (arith, count))
same_lists (x ∷ xs) (y ∷ ys) count each =
    ap (λ l. l ∷ xs) (each 0 (omega arith)) ∙ ap (λ l. y ∷ l) (same_lists xs ys (omega (arith, count)) (λ k low. each (suc k) (omega (arith, low))))

-- where each seat rests, no call is pending
none_pend : {S W : Type 0} (mechs : List (Mech S W)) → EachMech (λ seat mech. rests mech.phase ≡ true) mechs → pending_of mechs ≡ []
none_pend [] each = refl
none_pend (m ∷ ms) each = ap (λ o. option_to_list o ++ pending_of ms) (rest_pends_nothing m (each 0 m refl)) ∙ none_pend ms (λ seat mech found. each (suc seat) mech found)

module _ {S W : Type 0} (form : NormalForm S W) (laws : Laws form) where
  pub threads_meet_headline : ThreadsMeetHeadline form
  threads_meet_headline setup files lines ticks claimed many run =
      let moves = run.moves in
      let state = run_of form setup moves in
      let seated = seats_stay form setup moves run.are in
      let at : (k : ℕ) → k < setup.seats → begun_at moves k ≡ get_or files k [] = λ k low.
      let mech = get_or state.mechs k (mech_new k setup) in
      let found : slice_get state.mechs k ≡ Some mech = slice_get-get_or state.mechs k (mech_new k setup) (let count = seated.count in omega (arith, count, low)) in
      sym (lines_tell form setup moves k mech run.are found (run.idle k mech found)) ∙ run.ops k low in
      let long : length (begun_files setup moves) ≡ setup.seats = length-map-range_with_len (begun_at moves) 0 setup.seats in
      let same : begun_files setup moves ≡ files = same_lists (begun_files setup moves) files (long ∙ sym many)
      (λ k low. get_or-map-range_with_len (begun_at moves) 0 setup.seats k k [] (omega (arith, low, long)) (omega arith) ∙ at k (omega (arith, low, long))) in
      let over : AreOver form setup files moves = subst (λ fs. AreOver form setup fs moves) same (moves_over_files form setup moves run.are) in
      let is : run_of form setup moves ≡ run_of form setup (moves_over form setup files (seats_of moves)) = ap (run_of form setup) (sym over.same) in
      record {
        order = seats_of moves;
        over = subst (λ (s : RunState S W). pending_of s.mechs ≡ []) is (none_pend state.mechs run.idle);
        made = subst (λ (s : RunState S W). IsPermutation s.receipts lines) is (subst (IsPermutation state.receipts) (sym run.same) (lines_gather form setup moves run.are));
        drawn = subst (λ (s : RunState S W). slice_index s.words TICKS ≡ ticks) is run.drawn;
        asked = subst (λ (s : RunState S W). slice_index s.words CLAIMS ≡ claimed) is run.asked;
        meets = files_meet_headline form laws (runs_are_kept form laws) setup files (seats_of moves) over.fit;
      }
