-- What is due to a call is one status and one text, and the call gives it where nothing fails.
use Rattle.std.proofs.Common.{◌≡◌, ◌≢◌, ◌∙◌, refl, sym, ap, subst, arith, ℕ, ◌+◌, ◌<◌, ◌≤◌, ◌⊎◌, inl, inr, cond, Bool, true, false, List, [], ◌∷◌, length, Option, Some, None, is_some, Result, Ok, Err, IfOk, IfErr, IsSomeAnd}
use Rattle.std.proofs.lemmas.Bool.{cases_lt}
use Rattle.std.specs.Io.KnownBytes.{Appends}
use Rattle.script_reader.specs.declared.causes.Refusal.{Refusal}
use Rattle.whole_files.specs.Outside.{AppendsPrefix, Rose, WritesMessage}
use Rattle.client_reports.specs.declared.running.Replayed.{Replayed}
use Rattle.nwf_run.specs.declared.stops.Stop.{Stop}
use Rattle.nwf_run.specs.declared.stops.Stop.TheVariants.{Usage, Refused, ReadFault, NoMemory}
use Rattle.lin_report.specs.declared.calls.Client.{Client}
use Rattle.nwf_run.specs.Answers.{GivesDue, IsDue}
use Rattle.nwf_run.specs.Answers.IsDue.{unserved, reports, exhausts, refuses}
use Rattle.client_reports.specs.Judging.{AcceptedBefore, IsFirstRefused, refusal_in}
use Rattle.nwf_run.specs.Reading.{Refuses, files_by_name, first_of}
use Rattle.nwf_run.specs.Replaying.{AreRunsFor, Ends, IsReplayOf, Makes, Reports, StopsFor, text_for, AreSweepOf}
use Rattle.nwf_run.specs.Replaying.Reports.{wrote, failed}
use Rattle.client_reports.specs.Runs.{FilesRun}
use Rattle.nwf_run.specs.Stops.{status_of, message_of, refused_message}
use Rattle.client_reports.specs.Sweeps.{SomeExhausts}
use Rattle.nwf_run.specs.CommandLine.{Asked, Replay, Sweep, files_asked}
use Rattle.nwf_run.specs.CommandLine.Asked.{a_replay, a_sweep, a_load, a_run}
use Rattle.client_reports.proofs.JudgedFiles.{after_schedule, commands_accepted}
use Rattle.nwf_run.proofs.SameRuns.{replays_same, loads_same, sweeps_same}
use Rattle.nwf_run.proofs.AskedOfCore.{IsOfCore}

-- ---- one file is the first that is refused, and none where all are accepted

module _ (client : Client) (seats : ℕ) (files : ℕ → Option (List ℕ)) where
  not_both : (first file at : ℕ) (refusal : Refusal) → AcceptedBefore client seats files first at → IsFirstRefused client seats files first file refusal → file < at → ⊥
  not_both first file at refusal before is below = by_file (files file) (before file is.from below) is.refused
    where
      by_file : (held : Option (List ℕ)) → IsSomeAnd held (λ bytes. refusal_in client seats file bytes ≡ None) → IsSomeAnd held (λ bytes. refusal_in client seats file bytes ≡ Some refusal) → ⊥
      by_file None accepted refused = accepted
      by_file (Some bytes) accepted refused = absurd cc

  one_file : (first file other : ℕ) (refusal refusal' : Refusal) → IsFirstRefused client seats files first file refusal → IsFirstRefused client seats files first other refusal' → file ≡ other
  one_file first file other refusal refusal' is is' =
      elim (cases_lt file other) [
        | inl less ↦ absurd (not_both first file other refusal is'.before is less)
        | inr more ↦ elim (cases_lt other file) [ inl less ↦ absurd (not_both first other file refusal' is.before is' less) | inr same ↦ omega (arith, more, same) ]
      ]

  one_refusal : (first file : ℕ) (refusal refusal' : Refusal) → IsFirstRefused client seats files first file refusal → IsFirstRefused client seats files first file refusal' → refusal ≡ refusal'
  one_refusal first file refusal refusal' is is' = by_file (files file) is.refused is'.refused
    where
      by_file : (held : Option (List ℕ)) → IsSomeAnd held (λ bytes. refusal_in client seats file bytes ≡ Some refusal) → IsSomeAnd held (λ bytes. refusal_in client seats file bytes ≡ Some refusal') → refusal ≡ refusal'
      by_file None refused refused' = absurd refused
      by_file (Some bytes) refused refused' = cc

module _ (held : List ℕ → Option (List ℕ)) where
  same_message : (r : Replay) (file other : ℕ) (refusal refusal' : Refusal) → Refuses true held r file refusal → Refuses true held r other refusal' → refused_message file refusal ≡ refused_message other refusal'
  same_message r file other refusal refusal' is is' =
      let a = is.first refl in
      let b = is'.first refl in
      let files = files_by_name held r in
      let same : file ≡ other = one_file r.client (length r.files) files (first_of r) file other refusal refusal' a b in
      let moved : IsFirstRefused r.client (length r.files) files (first_of r) other refusal = subst (λ n. IsFirstRefused r.client (length r.files) files (first_of r) n refusal) same a in
      ap (λ n. refused_message n refusal) same ∙ ap (refused_message other) (one_refusal r.client (length r.files) files (first_of r) other refusal refusal' moved b)

  -- a file is not refused where there are runs
  replay_refused : (r : Replay) (run : FilesRun) (file : ℕ) (refusal : Refusal) → IsReplayOf true held r run → Refuses true held r file refusal → ⊥
  replay_refused r run file refusal is refused =
      let a = is.accepted refl in
      let files = files_by_name held r in
      let each = commands_accepted r.client (length r.files) files run.commands a.each in
      let whole = after_schedule r.client (length r.files) files _ a.schedule (length run.commands + 1) each in
      not_both r.client (length r.files) files (first_of r) file (length run.commands + 1) refusal (λ earlier from below. whole earlier (omega arith) below) (refused.first refl) (omega (arith, refused.within, is.seats))

  sweep_refused : (s : Sweep) (runs : List FilesRun) (file : ℕ) (refusal : Refusal) → s.of_files.schedule ≡ None → AreSweepOf true held s runs → Refuses true held s.of_files file refusal → ⊥
  sweep_refused s runs file refusal none are refused =
      let r = s.of_files in
      let files = files_by_name held r in
      let first : first_of r ≡ 1 = ap (λ o. cond (is_some o) 0 1) none in
      let each = commands_accepted r.client (length r.files) files are.commands (are.accepted refl) in
      not_both r.client (length r.files) files 1 file (length are.commands + 1) refusal each
      (subst (λ n. IsFirstRefused r.client (length r.files) files n file refusal) first (refused.first refl)) (omega (arith, refused.within, are.seats))

  runs_refused : (asked : Option Asked) (a : Asked) (r : Replay) (runs : List FilesRun) (file : ℕ) (refusal : Refusal) → IsOfCore asked → asked ≡ Some a → files_asked asked ≡ Some r → AreRunsFor true held a runs → Refuses true held r file refusal → ⊥
  runs_refused None a r runs file refusal core is files are refused = absurd cc
  runs_refused (Some (a_load l)) a r runs file refusal core is files are refused = absurd cc
  runs_refused (Some (a_run q)) a r runs file refusal core is files are refused = core
  runs_refused (Some (a_replay q)) a r runs file refusal core is files are refused =
      let of : a_replay q ≡ a = cc in
      let own : q ≡ r = cc in
      by_runs runs (subst (λ (x : Asked). AreRunsFor true held x runs) (sym of) are) (subst (λ (x : Replay). Refuses true held x file refusal) (sym own) refused)
    where
      by_runs : (runs : List FilesRun) → AreRunsFor true held (a_replay q) runs → Refuses true held q file refusal → ⊥
      by_runs [] are refused = are
      by_runs (run ∷ next ∷ more) are refused = are
      by_runs (run ∷ []) are refused = replay_refused q run file refusal are refused
  runs_refused (Some (a_sweep s)) a r runs file refusal core is files are refused =
      let of : a_sweep s ≡ a = cc in
      let own : s.of_files ≡ r = cc in
      sweep_refused s runs file refusal core (subst (λ (x : Asked). AreRunsFor true held x runs) (sym of) are) (subst (λ (x : Replay). Refuses true held x file refusal) (sym own) refused)

  one_list : (a : Asked) (runs others : List FilesRun) → IsOfCore (Some a) → AreRunsFor true held a runs → AreRunsFor true held a others → runs ≡ others
  one_list (a_replay r) runs others core are are' = replays_same held r runs others are are'
  one_list (a_sweep s) runs others core are are' = sweeps_same held s runs others are are'
  one_list (a_load l) runs others core are are' = loads_same held l runs others are are'
  one_list (a_run r) runs others core are are' = absurd core

-- ---- the call gives it

module _ (held : List ℕ → Option (List ℕ)) (written written' : Option (List ℕ)) (faults faults' status due : ℕ) (text : List ℕ) where
  abbrev Gives : Type 0
  Gives = GivesDue due text status written written' faults faults'

  abbrev report_status : Bool → ℕ
  report_status mark = cond mark 7 0

  mark_not_five : (mark : Bool) → status ≡ report_status mark → status ≡ 5 → ⊥
  mark_not_five true is five = omega (arith, is, five)
  mark_not_five false is five = omega (arith, is, five)

  -- the text that is due was made
  text_gives : (made : List ℕ) (mark : Bool) → made ≡ text → report_status mark ≡ due → Reports written written' faults faults' status made mark → Gives
  text_gives made mark same agrees (wrote is appends calm) =
      record { status_is = inl (is ∙ agrees); whole = λ _ _. subst (Appends written written') same appends; cut = λ five. absurd (mark_not_five mark is five) }
  text_gives made mark same agrees (failed is prefix rose) =
      record { status_is = inr (inr (inl is)); whole = λ _ none. absurd (none rose); cut = λ _. subst (AppendsPrefix written written') same prefix }

  marked : (mark : Bool) → mark ≡ true → report_status mark ≡ 7
  marked mark is = ap report_status is

  unmarked : (mark : Bool) → ¬ (mark ≡ true) → report_status mark ≡ 0
  unmarked true none = absurd (none refl)
  unmarked false none = refl

  made_gives : (b : Asked) → IsOfCore (Some b) → (made : List ℕ) (mark : Bool) → Makes true held b made mark → Reports written written' faults faults' status made mark → IsDue held (Some b) due text → Gives
  made_gives b core made mark m ends (unserved none is same) = absurd cc
  made_gives b core made mark m ends (reports a runs asked are none is same) =
      let own : b ≡ a = cc in
      let runs_are : m.runs ≡ runs = one_list held b m.runs runs core m.are (subst (λ x. AreRunsFor true held x runs) (sym own) are) in
      text_gives made mark (m.written ∙ ap (λ rs. text_for b rs) runs_are ∙ ap (λ x. text_for x runs) own ∙ sym same)
      (unmarked mark (λ yes. none (subst SomeExhausts runs_are (m.marked.0 yes))) ∙ sym is) ends
  made_gives b core made mark m ends (exhausts a runs asked are some is same) =
      let own : b ≡ a = cc in
      let runs_are : m.runs ≡ runs = one_list held b m.runs runs core m.are (subst (λ x. AreRunsFor true held x runs) (sym own) are) in
      text_gives made mark (m.written ∙ ap (λ rs. text_for b rs) runs_are ∙ ap (λ x. text_for x runs) own ∙ sym same)
      (marked mark (m.marked.1 (subst SomeExhausts (sym runs_are) some)) ∙ sym is) ends
  made_gives b core made mark m ends (refuses r file refusal files refused is same) = absurd (runs_refused held (Some b) b r m.runs file refusal core refl files m.are refused)

  abbrev Told : Stop → Type 0
  Told stop = (status ≡ status_of stop) × WritesMessage written written' faults faults' (message_of stop)

  -- the message that is due was written
  message_gives : (stop : Stop) → Told stop → status_of stop ≢ 5 → status_of stop ≡ due → message_of stop ≡ text → Gives
  message_gives stop told five agrees same =
      record { status_is = inl (told.0 ∙ agrees); whole = λ _ calm. subst (Appends written written') same (told.1.whole calm); cut = λ is. absurd (five (sym told.0 ∙ is)) }

  -- the file that is refused is the one that is due
  refused_gives : (asked : Option Asked) (q : Replay) (file : ℕ) (refusal : Refusal) → IsOfCore asked → files_asked asked ≡ Some q → Refuses true held q file refusal → Told (Refused file refusal)
      → IsDue held asked due text → Gives
  refused_gives asked q file refusal core files refused told (unserved none is same) = absurd (no_files asked none files)
    where
      no_files : (o : Option Asked) → o ≡ None → files_asked o ≡ Some q → ⊥
      no_files None none some = cc
      no_files (Some a) none some = cc
  refused_gives asked q file refusal core files refused told (reports a runs is are none due_is same) = absurd (runs_refused held asked a q runs file refusal core is files are refused)
  refused_gives asked q file refusal core files refused told (exhausts a runs is are some due_is same) = absurd (runs_refused held asked a q runs file refusal core is files are refused)
  refused_gives asked q file refusal core files refused told (refuses r other refusal' files' refused' is same) =
      let own : q ≡ r = cc in
      message_gives (Refused file refusal) told (λ five. omega (arith, five)) (sym is)
      (same_message held r file other refusal refusal' (subst (λ (x : Replay). Refuses true held x file refusal) own refused) refused' ∙ sym same)

  due_not : (asked : Option Asked) (n : ℕ) → n ≢ 0 → n ≢ 2 → n ≢ 3 → n ≢ 7 → IsDue held asked due text → due ≡ n → ⊥
  due_not asked n zero two three seven (unserved none is same) due_is = two (sym due_is ∙ is)
  due_not asked n zero two three seven (reports a runs asks are none is same) due_is = zero (sym due_is ∙ is)
  due_not asked n zero two three seven (exhausts a runs asks are some is same) due_is = seven (sym due_is ∙ is)
  due_not asked n zero two three seven (refuses r file refusal files refused is same) due_is = three (sym due_is ∙ is)

  -- a read that failed, and want of memory
  read_gives : (asked : Option Asked) (file : ℕ) → Told (ReadFault file) → IsDue held asked due text → Gives
  read_gives asked file told is =
      record {
        status_is = inr (inl told.0);
        whole = λ same _. absurd (due_not asked 4 (omega arith) (omega arith) (omega arith) (omega arith) is (sym same ∙ told.0));
        cut = λ five. absurd (omega (arith, told.0, five));
      }

  memory_gives : (asked : Option Asked) → Told NoMemory → IsDue held asked due text → Gives
  memory_gives asked told is =
      record {
        status_is = inr (inr (inr told.0));
        whole = λ same _. absurd (due_not asked 6 (omega arith) (omega arith) (omega arith) (omega arith) is (sym same ∙ told.0));
        cut = λ five. absurd (omega (arith, told.0, five));
      }

  usage_gives : Told Usage → IsDue held None due text → Gives
  usage_gives told (unserved none is same) = message_gives Usage told (λ five. omega (arith, five)) (sym is) (sym same)
  usage_gives told (reports a runs asked are none is same) = absurd cc
  usage_gives told (exhausts a runs asked are some is same) = absurd cc
  usage_gives told (refuses r file refusal files refused is same) = absurd cc

  stop_gives : (asked : Option Asked) (stop : Stop) → IsOfCore asked → StopsFor true held asked stop → Told stop → IsDue held asked due text → Gives
  stop_gives asked (ReadFault file) core stops told is = read_gives asked file told is
  stop_gives asked NoMemory core stops told is = memory_gives asked told is
  stop_gives None Usage core stops told is = usage_gives told is
  stop_gives None (Refused file refusal) core stops told is = absurd cc
  stop_gives (Some (a_load l)) Usage core stops told is = absurd cc
  stop_gives (Some (a_load l)) (Refused file refusal) core stops told is = absurd cc
  stop_gives (Some (a_run r)) stop core stops told is = absurd core
  stop_gives (Some (a_replay r)) Usage core stops told is = absurd stops
  stop_gives (Some (a_sweep s)) Usage core stops told is = absurd stops
  stop_gives (Some (a_replay r)) (Refused file refusal) core stops told is = refused_gives (Some (a_replay r)) r file refusal core refl stops told is
  stop_gives (Some (a_sweep s)) (Refused file refusal) core stops told is = refused_gives (Some (a_sweep s)) s.of_files file refusal core refl stops told is

  pub gives_due : (asked : Option Asked) (answer : Result Replayed Stop) → IsOfCore asked → IfOk answer (λ made. IsSomeAnd asked (λ a. Makes true held a made.text.items made.exhausted))
      → IfErr answer (StopsFor true held asked) → Ends written written' faults faults' status answer → IsDue held asked due text → Gives
  gives_due None (Ok made) core makes stops ends is = absurd makes
  gives_due (Some a) (Ok made) core makes stops ends is = made_gives a core made.text.items made.exhausted makes ends is
  gives_due asked (Err stop) core makes stops ends is = stop_gives asked stop core stops ends is
