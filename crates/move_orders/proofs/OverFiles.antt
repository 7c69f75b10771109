-- Moves are the run over the commands that they begin.
use Rattle.std.proofs.Common.{arith, ◌≡◌, ◌∙◌, refl, sym, subst, ap, ℕ, zero, suc, ◌<◌, ◌≤◌, ◌==◌, cond, List, [], ◌∷◌, ◌++◌, length, get_or, append_assoc, append-nil, slice_get, Option, Some, None, option_map}
use Rattle.std.specs.Option.{option_to_list}
use Rattle.std.proofs.lemmas.List.FromFn.{get_or-map-range_with_len, length-map-range_with_len}
use Rattle.std.proofs.lemmas.Option.{slice_get-get_or, slice_get_within}
use Rattle.lin_report.specs.declared.calls.Op.{Op}
use Rattle.lin_report.specs.CommandFiles.{IsCommandFile}
use Rattle.normal_traits.specs.NormalForm.{NormalForm}
use Rattle.fast_slow_engine.specs.declared.setup.Setup.{Setup}
use Rattle.fast_slow_engine.specs.Mechs.{Mech}
use Rattle.fast_slow_engine.specs.PhaseTable.{mech_new, rests}
use Rattle.fast_slow_engine.specs.Runs.{CanMove, Move, AreMoves, move_of_seat, move_over, moves_over, next_move, run_of, with_move}
use Rattle.run_laws.proofs.MachinesKept.{seats_stay}
use Rattle.move_orders.specs.Orders.{MovesOverFiles, begun_at, begun_files, seats_of}
use Rattle.move_orders.proofs.Begun.{each_counts, own_begun}

-- the element behind the first list
at_end : {A : Type 0} (xs ys : List A) (y : A) (n : ℕ) → n ≡ length xs → slice_get (xs ++ y ∷ ys) n ≡ Some y
at_end [] ys y zero e = refl
at_end [] ys y (suc n) e = absurd (omega (arith, e))
at_end (x ∷ xs) ys y zero e = absurd (omega (arith, e))
at_end (x ∷ xs) ys y (suc n) e = at_end xs ys y n (omega (arith, e))

-- each file has what the moves begin, and the rest behind it
abbrev Begin : List (List Op) → Setup → List Move → (ℕ → List Op) → Type 0
Begin files setup moves rest = (seat : ℕ) → seat < setup.seats → slice_get files seat ≡ Some (begun_at moves seat ++ rest seat)

module _ {S W : Type 0} (form : NormalForm S W) where
  next_over : (begins : Option Op) (seat : ℕ) (mech : Mech S W) (done rest : List Op) → CanMove form begins mech → mech.number ≡ length done
      → move_over seat (done ++ (option_to_list begins ++ rest)) (rests mech.phase) mech ≡ Some (record { seat = seat; begins = begins })
  next_over None seat mech done rest can number = ap (λ b. move_over seat (done ++ rest) b mech) can
  next_over (Some op) seat mech done rest can number =
      ap (λ b. move_over seat (done ++ op ∷ rest) b mech) can.0
      ∙ ap (option_map (λ (x : Op). let m : Move = record { seat = seat; begins = Some x } in m)) (at_end done rest op mech.number number)

  -- what the newest move begins stands behind what the older ones have begun
  over : (files : List (List Op)) (setup : Setup) (moves : List Move) (rest : ℕ → List Op) → AreMoves form setup moves → Begin files setup moves rest → moves_over form setup files (seats_of moves) ≡ moves
  over files setup [] rest are begin = refl
  over files setup (move ∷ older) rest are begin =
      let state = run_of form setup older in
      let is = are.1 in
      let seated = seats_stay form setup older are.0 in
      let within : move.seat < setup.seats = (let inside = slice_get_within state.mechs move.seat is.mech is.seated in let count = seated.count in omega (arith, inside, count)) in
      let earlier = over files setup older (λ seat. cond (move.seat == seat) (option_to_list move.begins) [] ++ rest seat) are.0
      (λ seat low. begin seat low ∙ ap Some (append_assoc (begun_at older seat) (cond (move.seat == seat) (option_to_list move.begins) []) (rest seat))) in
      let number = (each_counts form setup older are.0 move.seat is.mech is.seated).number in
      let file : slice_get files move.seat ≡ Some (begun_at older move.seat ++ (option_to_list move.begins ++ rest move.seat)) =
      begin move.seat within ∙ ap (λ l. Some (l ++ rest move.seat)) (own_begun move older) ∙ ap Some (append_assoc (begun_at older move.seat) (option_to_list move.begins) (rest move.seat)) in
      let next : next_move files move.seat state ≡ Some move =
      ap (λ o. move_of_seat move.seat o (slice_get files move.seat)) is.seated ∙ ap (move_of_seat move.seat (Some is.mech)) file
      ∙ next_over move.begins move.seat is.mech (begun_at older move.seat) (rest move.seat) is.can number in
      ap (λ ms. with_move (next_move files move.seat (run_of form setup ms)) ms) earlier ∙ ap (λ o. with_move o older) next

  -- what a seat has begun is a file that it can run
  runnable : (setup : Setup) (moves : List Move) → AreMoves form setup moves → (seat : ℕ) → seat < setup.seats → IsCommandFile form.object (begun_at moves seat)
  runnable setup moves are seat low =
      let mechs = (run_of form setup moves).mechs in
      let count = (seats_stay form setup moves are).count in
      let mech = get_or mechs seat (mech_new seat setup) in
      let counts = each_counts form setup moves are seat mech (slice_get-get_or mechs seat (mech_new seat setup) (omega (arith, count, low))) in
      record { few = subst (λ n. n ≤ 65535) counts.number counts.few; commands = counts.commands }

  pub moves_over_files : MovesOverFiles form
  moves_over_files setup moves are =
      let files = begun_files setup moves in
      let make = begun_at moves in
      let long : length files ≡ setup.seats = length-map-range_with_len make 0 setup.seats in
      let at : (seat : ℕ) → seat < setup.seats → slice_get files seat ≡ Some (begun_at moves seat) =
      λ seat low. slice_get-get_or files seat (make seat) (omega (arith, long, low)) ∙ ap Some (get_or-map-range_with_len make 0 setup.seats seat seat (make seat) low (omega arith)) in
      record {
        fit = record {
          count = long;
          runnable = λ k d inside. subst (IsCommandFile form.object) (sym (get_or-map-range_with_len make 0 setup.seats k k d (omega (arith, long, inside)) (omega arith))) (runnable setup moves are k (omega (arith, long, inside)));
        };
        same = over files setup moves (λ seat. []) are (λ seat low. at seat low ∙ ap Some (sym (append-nil (begun_at moves seat))));
      }
