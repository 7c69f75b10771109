-- What a call has written and opened, by its status.
use Rattle.std.proofs.Common.{◌≡◌, ℕ, ◌⊎◌, cond, Bool, true, false, List, Option, Some, None, Result, Ok, Err, IfOk, IsSomeAnd, inl, inr, refl, rules, subst, arith}
use Rattle.std.specs.Io.KnownBytes.{Appends}
use Rattle.client_reports.specs.declared.running.Replayed.{Replayed}
use Rattle.nwf_run.specs.declared.stops.Stop.{Stop}
use Rattle.nwf_run.specs.declared.stops.Stop.TheVariants.{Usage, Refused, ReadFault, NoMemory}
use Rattle.whole_files.specs.Outside.{Opening, AppendsPrefix}
use Rattle.nwf_run.specs.Replaying.{AreRunsFor, Ends, Makes, OpensAll, OpensFor, RunsMeetHeadline, text_for}
use Rattle.nwf_run.specs.Replaying.Reports.{wrote, failed}
use Rattle.client_reports.specs.Runs.{FilesRun}
use Rattle.nwf_run.specs.Stops.{status_of}
use Rattle.client_reports.specs.Sweeps.{SomeExhausts}
use Rattle.nwf_run.specs.CommandLine.{Asked, client_asked}
use Rattle.nwf_run.specs.CommandLine.Asked.{a_replay, a_sweep, a_load, a_run}
use Rattle.client_reports.proofs.JudgedFiles.{there-weaker}

-- a stop has none of the statuses of a report
pub not_report : (stop : Stop) (status : ℕ) → status ≡ status_of stop → (status ≡ 0) ⊎ (status ≡ 5) ⊎ (status ≡ 7) → ⊥
not_report Usage status is h = elim h [ inl a ↦ omega (arith, is, a) | inr b ↦ elim b [ inl a ↦ omega (arith, is, a) | inr a ↦ omega (arith, is, a) ] ]
not_report (Refused file refusal) status is h = elim h [ inl a ↦ omega (arith, is, a) | inr b ↦ elim b [ inl a ↦ omega (arith, is, a) | inr a ↦ omega (arith, is, a) ] ]
not_report (ReadFault file) status is h = elim h [ inl a ↦ omega (arith, is, a) | inr b ↦ elim b [ inl a ↦ omega (arith, is, a) | inr a ↦ omega (arith, is, a) ] ]
not_report NoMemory status is h = elim h [ inl a ↦ omega (arith, is, a) | inr b ↦ elim b [ inl a ↦ omega (arith, is, a) | inr a ↦ omega (arith, is, a) ] ]

pub marked_status : (status : ℕ) (mark : Bool) → status ≡ cond mark 7 0 → status ≡ 7 → mark ≡ true
marked_status status true is seven = refl
marked_status status false is seven = absurd (omega (arith, is, seven))

pub unmarked_status : (status : ℕ) (mark : Bool) → status ≡ cond mark 7 0 → status ≡ 0 → mark ≡ true → ⊥
unmarked_status status true is zero_is marked = omega (arith, is, zero_is)
unmarked_status status false is zero_is marked = absurd (search rules)

module _ (tells : Bool) (held : List ℕ → Option (List ℕ)) (words : Option Asked) (written written' : Option (List ℕ)) (faults faults' status : ℕ) where
  abbrev Made : Result Replayed Stop → Type 0
  Made answer = IfOk answer (λ made. IsSomeAnd words (λ a. Makes tells held a made.text.items made.exhausted))

  -- a text was written whole, and no call of the run found no block left
  abbrev Done : Type 0
  Done = IsSomeAnd words (λ a. (runs : List FilesRun) × AreRunsFor tells held a runs × RunsMeetHeadline (client_asked a) runs × (¬ SomeExhausts runs) × Appends written written' (text_for a runs))

  pub done : (answer : Result Replayed Stop) → Made answer → Ends written written' faults faults' status answer → status ≡ 0 → Done
  done (Err stop) made ends none = absurd (not_report stop status ends.0 (inl none))
  done (Ok made) text (failed five prefix rose) none = absurd (omega (arith, five, none))
  done (Ok made) text (wrote is appends calm) none =
      there-weaker _ _ (λ (a : Asked) (m : Makes tells held a made.text.items made.exhausted). (m.runs, m.are, m.headline, λ (e : SomeExhausts m.runs). unmarked_status status made.exhausted is none (m.marked.1 e), subst (Appends written written') m.written appends)) words text

  -- a text was written whole, and a call of the run found no block left
  abbrev Exhausted : Type 0
  Exhausted = IsSomeAnd words (λ a. (runs : List FilesRun) × AreRunsFor tells held a runs × RunsMeetHeadline (client_asked a) runs × SomeExhausts runs × Appends written written' (text_for a runs))

  pub exhausted : (answer : Result Replayed Stop) → Made answer → Ends written written' faults faults' status answer → status ≡ 7 → Exhausted
  exhausted (Err stop) made ends seven = absurd (not_report stop status ends.0 (inr (inr seven)))
  exhausted (Ok made) text (failed five prefix rose) seven = absurd (omega (arith, five, seven))
  exhausted (Ok made) text (wrote is appends calm) seven =
      there-weaker _ _ (λ (a : Asked) (m : Makes tells held a made.text.items made.exhausted). (m.runs, m.are, m.headline, m.marked.0 (marked_status status made.exhausted is seven), subst (Appends written written') m.written appends)) words text

  -- the first bytes of a text were written
  abbrev Cut : Type 0
  Cut = IsSomeAnd words (λ a. (runs : List FilesRun) × AreRunsFor tells held a runs × RunsMeetHeadline (client_asked a) runs × AppendsPrefix written written' (text_for a runs))

  pub cut : (answer : Result Replayed Stop) → Made answer → Ends written written' faults faults' status answer → status ≡ 5 → Cut
  cut (Err stop) made ends five = absurd (not_report stop status ends.0 (inr (inl five)))
  cut (Ok made) text (failed is prefix rose) five =
      there-weaker _ _ (λ (a : Asked) (m : Makes tells held a made.text.items made.exhausted). (m.runs, m.are, m.headline, subst (AppendsPrefix written written') m.written prefix)) words text
  cut (Ok made) text (wrote is appends calm) five = absurd (not_five made.exhausted is)
    where
      not_five : (mark : Bool) → status ≡ cond mark 7 0 → ⊥
      not_five true seven = omega (arith, five, seven)
      not_five false none = omega (arith, five, none)

module _ (tells : Bool) (held : List ℕ → Option (List ℕ)) (written written' : Option (List ℕ)) (faults faults' status read : ℕ) (before now : List Opening) where
  -- every file was opened where there is a text
  pub all_opened : (words : Option Asked) (answer : Result Replayed Stop) → IfOk answer (λ made. IsSomeAnd words (λ a. Makes tells held a made.text.items made.exhausted))
      → OpensFor words read before now answer → Ends written written' faults faults' status answer → (status ≡ 0) ⊎ (status ≡ 5) ⊎ (status ≡ 7) → IsSomeAnd words (λ a. OpensAll a read before now)
  all_opened words (Err stop) made opens ends h = absurd (not_report stop status ends.0 h)
  all_opened None (Ok made) text opens ends h = text
  all_opened (Some (a_replay r)) (Ok made) text opens ends h = opens
  all_opened (Some (a_sweep s)) (Ok made) text opens ends h = opens
  all_opened (Some (a_load l)) (Ok made) text opens ends h = opens
  all_opened (Some (a_run r)) (Ok made) text opens ends h = opens
