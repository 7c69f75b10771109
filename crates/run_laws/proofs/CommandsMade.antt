-- A run over command files makes their commands.
use Rattle.std.proofs.Common.{rules, arith, ◌≡◌, ◌∙◌, refl, sym, subst, ap, ℕ, ◌+◌, ◌-◌, ◌<◌, ◌≤◌, Bool, true, false, List, [], ◌∷◌, length, slice_get, slice_index_or, Option, Some, None, option_map}
use Rattle.std.proofs.lemmas.Option.{get_or_from_slice_get, slice_get_within}
use Rattle.lin_report.specs.declared.calls.Op.{Op}
use Rattle.lin_report.specs.Object.{IsCommandOf}
use Rattle.lin_report.specs.CommandFiles.{IsCommandFile}
use Rattle.lin_report.specs.Report.{file_of}
use Rattle.step_memory.specs.Step.{seen_of}
use Rattle.normal_traits.specs.NormalForm.{NormalForm}
use Rattle.fast_slow_engine.specs.declared.setup.Setup.{Setup}
use Rattle.fast_slow_engine.specs.Mechs.{Mech, SameCall}
use Rattle.fast_slow_engine.specs.PhaseTable.{mech_fed, mech_request, rests}
use Rattle.fast_slow_engine.specs.Runs.{Move, RunState, CanMove, IsMove, begun, move_of_seat, move_over, moves_over, next_move, run_of, with_move}
use Rattle.fast_slow_engine.proofs.SameCalls.{same_fed}
use Rattle.run_laws.specs.Seats.{EachMech}
use Rattle.run_laws.specs.Files.{FilesFit, RunsFile, IsFileRun, FilesRun}
use Rattle.run_laws.proofs.Steps.{each_set, move_steps, some_same}
use Rattle.run_laws.proofs.MachinesKept.{new_mech}

module _ {S W : Type 0} where
  -- a move begins the next command where no call runs, and else none
  abbrev IsNext : Option Op → List Op → Mech S W → Type 0
  IsNext None file mech = rests mech.phase ≡ false
  IsNext (Some op) file mech = (rests mech.phase ≡ true) × (slice_get file mech.number ≡ Some op)

  next_begins : (seat : ℕ) (file : List Op) (mech : Mech S W) (o : Option Op) (move : Move) → rests mech.phase ≡ true → slice_get file mech.number ≡ o
      → option_map {U = Move} (λ op. record { seat = seat; begins = Some op }) o ≡ Some move → (move.seat ≡ seat) × IsNext move.begins file mech
  next_begins seat file mech None move free at e = absurd (cc)
  next_begins seat file mech (Some op) move free at e =
      subst (λ (m : Move). (m.seat ≡ seat) × IsNext m.begins file mech) (some_same (record { seat = seat; begins = Some op }) move e) (refl, (free, at))

  next_over : (seat : ℕ) (file : List Op) (mech : Mech S W) (b : Bool) (move : Move) → rests mech.phase ≡ b → move_over seat file b mech ≡ Some move → (move.seat ≡ seat) × IsNext move.begins file mech
  next_over seat file mech true move free e = next_begins seat file mech (slice_get file mech.number) move free refl e
  next_over seat file mech false move free e =
      subst (λ (m : Move). (m.seat ≡ seat) × IsNext m.begins file mech) (some_same (record { seat = seat; begins = None }) move e) (refl, free)

  -- the move is that of this machine over this file
  record IsNextOf (files : List (List Op)) (mechs : List (Mech S W)) (move : Move) : Type 0 where
    pub mech : Mech S W
    pub file : List Op
    pub seated : slice_get mechs move.seat ≡ Some mech
    pub filed : slice_get files move.seat ≡ Some file
    pub next : IsNext move.begins file mech

  next_of : (files : List (List Op)) (mechs : List (Mech S W)) (seat : ℕ) (o : Option (Mech S W)) (f : Option (List Op)) (move : Move)
      → slice_get mechs seat ≡ o → slice_get files seat ≡ f → move_of_seat seat o f ≡ Some move → IsNextOf files mechs move
  next_of files mechs seat None f move at filed e = absurd (cc)
  next_of files mechs seat (Some mech) None move at filed e = absurd (cc)
  next_of files mechs seat (Some mech) (Some file) move at filed e =
      let next = next_over seat file mech (rests mech.phase) move refl e in
      record {
        mech = mech;
        file = file;
        seated = subst (λ k. slice_get mechs k ≡ Some mech) (sym next.0) at;
        filed = subst (λ k. slice_get files k ≡ Some file) (sym next.0) filed;
        next = next.1;
      }

  -- a machine that runs is at the command with its number
  record IsAtCommand (file : List Op) (mech : Mech S W) : Type 0 where
    pub within : mech.number ≤ length file
    pub counted : 0 < mech.number
    pub command : slice_get file (mech.number - 1) ≡ Some mech.op

  begun_at : (file : List Op) (begins : Option Op) (mech : Mech S W) → IsNext begins file mech → RunsFile file mech → IsAtCommand file (begun begins mech)
  begun_at file None mech next runs = record { within = runs.within; counted = runs.counted next; command = runs.command next }
  begun_at file (Some op) mech next runs =
      let inside = slice_get_within file mech.number op next.1 in
      let back : mech.number + 1 - 1 ≡ mech.number = omega arith in
      record { within = omega arith; counted = omega arith; command = ap (slice_get file) back ∙ next.1 }

  same_runs : (file : List Op) (mech older : Mech S W) → SameCall mech older → IsAtCommand file older → RunsFile file mech
  same_runs file mech older same at = record {
    within = subst (λ n. n ≤ length file) (sym same.number) at.within;
    counted = λ runs. subst (λ n. 0 < n) (sym same.number) at.counted;
    command = λ runs. ap (λ n. slice_get file (n - 1)) same.number ∙ at.command ∙ ap Some (sym same.op);
  }

  module _ (form : NormalForm S W) where
    can_move : (file : List Op) (begins : Option Op) (mech : Mech S W) → IsCommandFile form.object file → IsNext begins file mech → CanMove form begins mech
    can_move file None mech runnable next = next
    can_move file (Some op) mech runnable next =
        let inside = slice_get_within file mech.number op next.1 in
        (next.0, omega (arith, inside, runnable.few), subst (λ o. IsCommandOf form.object o) (get_or_from_slice_get file mech.number op op next.1) (runnable.commands mech.number op inside))

    run_more : (setup : Setup) (files : List (List Op)) (moves : List Move) (move : Move) → FilesFit form.object setup files → IsFileRun form setup files moves
        → IsNextOf files (run_of form setup moves).mechs move → IsFileRun form setup files (move ∷ moves)
    run_more setup files moves move fit run next =
        let state = run_of form setup moves in
        let inside = slice_get_within files move.seat next.file next.filed in
        let own : slice_index_or files move.seat next.file ≡ next.file = get_or_from_slice_get files move.seat next.file next.file next.filed in
        let file : file_of files move.seat ≡ next.file = get_or_from_slice_get files move.seat next.file [] next.filed in
        let runnable = subst (IsCommandFile form.object) own (fit.runnable move.seat next.file inside) in
        let mech = begun move.begins next.mech in
        let seen = seen_of (mech_request form mech) state.words in
        let old = subst (λ f. RunsFile f next.mech) file (run.runs move.seat next.mech next.seated) in
        let new = same_runs next.file (mech_fed form mech seen) mech (same_fed form mech seen) (begun_at next.file move.begins next.mech next.next old) in
        let is : IsMove form state move = record { mech = next.mech; seated = next.seated; can = can_move next.file move.begins next.mech runnable next.next } in
        record {
          follow = (run.follow, is);
          runs = subst (λ (s : RunState S W). EachMech (λ seat mech. RunsFile (file_of files seat) mech) s.mechs) (sym (move_steps form state move next.mech next.seated))
              (each_set (λ seat mech. RunsFile (file_of files seat) mech) (λ seat mech. RunsFile (file_of files seat) mech) state.mechs move.seat next.mech (mech_fed form mech seen) next.seated run.runs (λ seat mech h. h)
              (subst (λ f. RunsFile f (mech_fed form mech seen)) (sym file) new));
        }

    with_next : (setup : Setup) (files : List (List Op)) (moves : List Move) (seat : ℕ) (o : Option Move) → FilesFit form.object setup files → IsFileRun form setup files moves
        → next_move files seat (run_of form setup moves) ≡ o → IsFileRun form setup files (with_move o moves)
    with_next setup files moves seat None fit run e = run
    with_next setup files moves seat (Some move) fit run e =
        run_more setup files moves move fit run (next_of files (run_of form setup moves).mechs seat _ _ move refl refl e)

    pub files_run : FilesRun form
    files_run setup files [] fit = record {
      follow = tt;
      runs = λ seat mech found. subst (RunsFile (file_of files seat)) (sym (new_mech form setup seat mech found)) (record { within = omega arith; counted = λ runs. absurd (search rules); command = λ runs. absurd (search rules) });
    }
    files_run setup files (seat ∷ older) fit =
        with_next setup files (moves_over form setup files older) seat _ fit (files_run setup files older fit) refl
