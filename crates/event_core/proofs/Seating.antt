-- Seats are made one for each file.
use Rattle.std.proofs.Common.{rules, arith, ◌<◌, subst, remove, suc, slice_index_or, sum_by, ◌*◌, ◌≡◌, ◌∙◌, ◌+◌, ◌≤◌, ◌++◌, ◌∷◌, [], refl, sym, ap, ℕ, List, length, map, All}
use Rattle.lin_report.specs.Object.{Object}
use Rattle.lin_report.specs.declared.calls.Op.{Op}
use Rattle.lin_report.specs.CommandFiles.{IsCommandFile}
use Rattle.normal_traits.specs.NormalForm.{NormalForm}
use Rattle.fast_slow_engine.specs.declared.setup.Setup.{Setup}
use Rattle.event_core.specs.Seats.{Seat, lines_owed}
use Rattle.fast_slow_engine.specs.PhaseTable.{mech_new}
use Rattle.std.proofs.lemmas.List.Sums.{sum_by-cons}
use Rattle.std.proofs.lemmas.List.{length-append, append_assoc, append-nil}
use Rattle.std.specs.List.{range_with_len}
use Rattle.node_arena.specs.Opening.{opening_words}
use Rattle.lin_report.specs.declared.calls.Receipt.{Receipt}
use Rattle.lin_report.specs.declared.events.Event.{Event}
use Rattle.event_core.specs.Cores.{HaveBegun, IsCore, IsRun, core_new, core_of, new_seats}
use Rattle.event_core.proofs.StepsAreMoves.{rebuilt}

-- so many seats stand, and the others come from the files that are left
pub record Seating {S W : Type 0} {F : Type 0} (commands : F → List Op) (form : NormalForm S W) (setup : Setup) (seats : List (Seat S W)) (room : ℕ) (rest files : List F) : Type 0 where
  pub made : seats ++ new_seats setup (length seats) (map commands rest) ≡ new_seats setup 0 (map commands files)
  pub commanded : All (λ file. IsCommandFile form.object (commands file)) rest
  pub count : length seats + length rest ≡ setup.seats
  pub room' : length seats + length rest ≤ room

-- the first file that is left is one of commands
pub first_file : {F : Type 0} (object : Object) (commands : F → List Op) (rest : List F) (file : F) → All (λ f. IsCommandFile object (commands f)) rest → 0 < length rest → file ≡ slice_index_or rest 0 file → IsCommandFile object (commands file)
first_file object commands rest file all some at = subst (λ x. IsCommandFile object (commands x)) (sym at) (all 0 file some)

all_behind : {F : Type 0} (P : F → Type 0) (rest : List F) → All P rest → All P (remove rest 0)
all_behind P [] all = all
all_behind P (f ∷ rest) all = λ k d h. all (suc k) d (omega (arith, h))

length_behind : {F : Type 0} (rest : List F) → 0 < length rest → length (remove rest 0) + 1 ≡ length rest
length_behind [] some = absurd (search rules)
length_behind (f ∷ rest) some = omega arith

module _ {S W F : Type 0} (commands : F → List Op) (form : NormalForm S W) (setup : Setup) where
  next_made : (seats : List (Seat S W)) (seat : Seat S W) (rest : List F) (file : F) → 0 < length rest → file ≡ slice_index_or rest 0 file
      → seat ≡ record { mech = mech_new (length seats) setup; file = commands file }
      → (seats ++ seat ∷ []) ++ new_seats setup (length (seats ++ seat ∷ [])) (map commands (remove rest 0)) ≡ seats ++ new_seats setup (length seats) (map commands rest)
  next_made seats seat [] file some at is = absurd (search rules)
  next_made seats seat (f ∷ rest) file some at is =
      append_assoc seats (seat ∷ []) _
      ∙ ap (λ n. seats ++ seat ∷ new_seats setup n (map commands rest)) (length-append seats (seat ∷ []))
      ∙ ap (λ x. seats ++ x ∷ new_seats setup (length seats + 1) (map commands rest)) (is ∙ ap (λ x. record { mech = mech_new (length seats) setup; file = commands x }) at)

  -- no seat stands, and the files are all left
  pub none_seated : (seats : List (Seat S W)) (room : ℕ) (files : List F) → seats ≡ [] → All (λ file. IsCommandFile form.object (commands file)) files → length files ≡ setup.seats → length files ≤ room
      → Seating commands form setup seats room files files
  none_seated seats room files none all count room' =
      record {
        made = ap (λ s. s ++ new_seats setup (length s) (map commands files)) none;
        commanded = all;
        count = subst (λ s. length s + length files ≡ setup.seats) (sym none) (omega (arith, count));
        room' = subst (λ s. length s + length files ≤ room) (sym none) (omega (arith, room'));
      }

  -- one more is seated, with the first file that is left
  pub one_seated : (seats seats' : List (Seat S W)) (room room' : ℕ) (rest rest' files : List F) (seat : Seat S W) (file : F)
      → Seating commands form setup seats room rest files → 0 < length rest → file ≡ slice_index_or rest 0 file → rest' ≡ remove rest 0
      → seat.mech ≡ mech_new (length seats) setup → seat.file ≡ commands file → seats' ≡ seats ++ seat ∷ [] → room' ≡ room
      → Seating commands form setup seats' room' rest' files
  one_seated seats seats' room room' rest rest' files seat file s some at is mech fs put same =
      let seat_is : seat ≡ record { mech = mech_new (length seats) setup; file = commands file } =
      ap (λ m. record { mech = m; file = seat.file }) mech ∙ ap (λ l. record { mech = mech_new (length seats) setup; file = l }) fs in
      let longer : length (seats ++ seat ∷ []) ≡ length seats + 1 = length-append seats (seat ∷ []) in
      let fewer = length_behind rest some in
      subst (λ x. Seating commands form setup x room' rest' files) (sym put)
      (subst (λ x. Seating commands form setup (seats ++ seat ∷ []) room' x files) (sym is)
      (subst (λ x. Seating commands form setup (seats ++ seat ∷ []) x (remove rest 0) files) (sym same)
      (record {
        made = next_made seats seat rest file some at seat_is ∙ s.made;
        commanded = all_behind (λ f. IsCommandFile form.object (commands f)) rest s.commanded;
        count = omega (arith, longer, fewer, s.count);
        room' = omega (arith, longer, fewer, s.room');
      })))

  -- all are seated
  pub all_seated : (seats : List (Seat S W)) (room : ℕ) (rest files : List F) → Seating commands form setup seats room rest files → length rest ≡ 0 → seats ≡ new_seats setup 0 (map commands files)
  all_seated seats room [] files s none = sym (append-nil seats) ∙ s.made
  all_seated seats room (f ∷ rest) files s none = absurd (omega (arith, none))

  -- seats that made no call owe a line for each command
  pub fresh_lines : (seat : ℕ) (files : List F) → sum_by lines_owed (new_seats {S = S} {W = W} setup seat (map commands files)) ≡ sum_by (λ file. length (commands file)) files
  fresh_lines seat [] = refl
  fresh_lines seat (file ∷ files) =
      let left = sum_by-cons lines_owed (record { mech = mech_new seat setup; file = commands file }) (new_seats {S = S} {W = W} setup (seat + 1) (map commands files)) in
      let right = sum_by-cons (λ f. length (commands f)) file files in
      omega (arith, fresh_lines (seat + 1) files, left, right)

  -- they are as many as the files
  fresh_count : (seat : ℕ) (files : List F) → length (new_seats {S = S} {W = W} setup seat (map commands files)) ≡ length files
  fresh_count seat [] = refl
  fresh_count seat (file ∷ files) = ap suc (fresh_count (seat + 1) files)

  -- they are those of an opening run
  fresh_files : (seat : ℕ) (files : List F) → map (λ (s : Seat S W). s.file) (new_seats {S = S} {W = W} setup seat (map commands files)) ≡ map commands files
  fresh_files seat [] = refl
  fresh_files seat (file ∷ files) = ap (λ l. commands file ∷ l) (fresh_files (seat + 1) files)

  fresh_mechs : (seat : ℕ) (files : List F) → map (λ (s : Seat S W). s.mech) (new_seats {S = S} {W = W} setup seat (map commands files)) ≡ map (λ at. mech_new at setup) (range_with_len seat (length files))
  fresh_mechs seat [] = refl
  fresh_mechs seat (file ∷ files) = ap (λ l. mech_new seat setup ∷ l) (fresh_mechs (seat + 1) files)

  pub fresh_core : (words words' : List ℕ) (seats : List (Seat S W)) (receipts : List Receipt) (events : List Event) (files : List F)
      → words ≡ words' → words' ≡ opening_words form.opening setup.cap → seats ≡ new_seats setup 0 (map commands files) → length files ≡ setup.seats → receipts ≡ [] → events ≡ []
      → core_of setup words seats receipts events ≡ core_new form setup (map commands files)
  fresh_core words words' seats receipts events files w w' s count r e =
      rebuilt setup (ap (map (λ (x : Seat S W). x.file)) s ∙ fresh_files 0 files) (w ∙ w')
      (ap (map (λ (x : Seat S W). x.mech)) s ∙ fresh_mechs 0 files ∙ ap (λ n. map (λ at. mech_new at setup) (range_with_len 0 n)) count) r e

  fresh_begun : (seat : ℕ) (files : List F) → HaveBegun (new_seats {S = S} {W = W} setup seat (map commands files))
  fresh_begun seat [] = tt
  fresh_begun seat (file ∷ files) = (omega arith, fresh_begun (seat + 1) files)

  fresh_commands : (seat : ℕ) (files : List F) → sum_by (λ (s : Seat S W). length s.file) (new_seats {S = S} {W = W} setup seat (map commands files)) ≡ sum_by (λ file. length (commands file)) files
  fresh_commands seat [] = refl
  fresh_commands seat (file ∷ files) =
      let left = sum_by-cons (λ (s : Seat S W). length s.file) (record { mech = mech_new seat setup; file = commands file }) (new_seats {S = S} {W = W} setup (seat + 1) (map commands files)) in
      let right = sum_by-cons (λ f. length (commands f)) file files in
      let rest = fresh_commands (seat + 1) files in
      omega (arith, rest, left, right)

  -- no move was made yet
  fresh_run : (words : List ℕ) (files : List F) → words ≡ opening_words form.opening setup.cap → length files ≡ setup.seats → IsRun form setup words (map (λ seat. seat.mech) (new_seats setup 0 (map commands files))) []
  fresh_run words files w count = record {
    moves = [];
    are = tt;
    words_are = sym w;
    mechs_are = sym (fresh_mechs 0 files ∙ ap (λ n. map (λ at. mech_new at setup) (range_with_len 0 n)) count);
    events_are = refl;
  }

  pub fresh_room : (opening words words' : List ℕ) (seats : List (Seat S W)) (files : List F) (commanded lines line_room : ℕ) (events : List Event) (event_room : ℕ) → opening ≡ opening_words form.opening 1 → words ≡ words' → words' ≡ opening_words form.opening setup.cap → seats ≡ new_seats setup 0 (map commands files)
      → commanded ≡ sum_by (λ file. length (commands file)) files → lines ≡ 0 → events ≡ [] → commanded ≤ line_room → 4 * commanded ≤ event_room → length files ≡ setup.seats
      → IsCore form setup opening words seats lines line_room events event_room
  fresh_room opening words words' seats files commanded lines line_room events event_room o w w' s c l e lr er count =
      let owed = fresh_lines 0 files in
      let all = fresh_commands 0 files in
      subst (λ x. IsCore form setup opening words x lines line_room events event_room) (sym s)
      (record {
        opened = o;
        count = fresh_count 0 files ∙ count;
        begun = fresh_begun 0 files;
        run = subst (IsRun form setup words (map (λ seat. seat.mech) (new_seats setup 0 (map commands files)))) (sym e) (fresh_run words files (w ∙ w') count);
        for_lines = omega (arith, owed, all, l);
        for_all_lines = omega (arith, all, c, lr);
        for_events = omega (arith, all, c, er);
      })
