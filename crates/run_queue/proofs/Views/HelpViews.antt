-- A helper's loads of a record, its look at the head and its removal are those of its seat in the queue.
use Rattle.std.proofs.Common.{◌≡◌, refl, ap, ◌∙◌, ℕ, Bool, true, false, if◌then◌else◌, Option}
use Rattle.std.specs.Prelude.{not}
use Rattle.step_memory.specs.declared.steps.Seen.{Seen}
use Rattle.word_fields.specs.Records.{record_phase, record_number}
use Rattle.normal_traits.specs.NormalForm.{NormalForm}
use Rattle.help_queue.specs.declared.remove.Removing.{Removing}
use Rattle.help_queue.specs.declared.remove.Removing.TheVariants as removing_to
use Rattle.help_queue.specs.Gathers.{is_open, leads}
use Rattle.help_queue.specs.Removes.{Removal, remove_fed, remove_new, removing}
use Rattle.help_queue_laws.specs.declared.phases.Helping.TheVariants as at
use Rattle.help_queue_laws.specs.declared.phases.QueuePhase.TheVariants as in_queue
use Rattle.help_queue_laws.specs.Callers as callers
use Rattle.fast_slow_engine.specs.declared.phases.Phase.TheVariants as phase
use Rattle.fast_slow_engine.specs.declared.help.Help.{Help}
use Rattle.fast_slow_engine.specs.declared.help.Helping.{Helping}
use Rattle.fast_slow_engine.specs.declared.help.Helping.TheVariants.{Record, Known, Remove}
use Rattle.fast_slow_engine.specs.declared.help.Work.{Work}
use Rattle.fast_slow_engine.specs.declared.help.Work.TheVariants as work
use Rattle.fast_slow_engine.specs.declared.help.WorkTurn.TheVariants.{Going, Over}
use Rattle.fast_slow_engine.specs.Mechs.{Mech}
use Rattle.fast_slow_engine.specs.HelpTable.{helping_met, work_fed, worked, is_over, is_gone}
use Rattle.help_queue.specs.Heads.{is_other, record_met}
use Rattle.fast_slow_engine.specs.PhaseTable.{in_phase, with_hand, helped, help_stepped}
use Rattle.run_queue.proofs.Views.CallViews.{Views, views_helped, views_if}
use Rattle.run_queue.proofs.Views.WorkViews.{Works, works_on}

module _ {S W : Type 0} (form : NormalForm S W) (seats head n : ℕ) (drives : Bool) where
  -- the help of this head, at this point
  abbrev pub helper : Helping S W → Help S W
  helper at' = record { head = head; seats = seats; at = at' }

  -- ---- the record is loaded

  met_if : (word : ℕ) (b : Bool) (after : Mech S W) → (b ≡ true → is_open (record_phase word) ≡ true) → after.number ≡ n
      → Views seats (in_phase (phase.Help drives (helper (if b then Known word work.Head else Remove (remove_new head (record_number word) seats)))) after) n
      (in_queue.Helps head drives (if b then at.Head word else at.Removes (remove_new head (record_number word) seats)))
  met_if word true after opened number = record { phase' = refl; number = number; fits = (refl, opened refl) }
  met_if word false after opened number = record { phase' = refl; number = number; fits = (refl, tt) }

  helped_at : (mech : Mech S W) → mech.number ≡ n → Views seats (helped form drives mech) n (callers.after_help drives)
  helped_at mech number = let v = views_helped form seats drives mech in record { phase' = v.phase'; number = v.number ∙ number; fits = v.fits }

  pub record_views : (known : Option ℕ) (seen : Seen) (mech : Mech S W) → mech.number ≡ n
      → Views seats (help_stepped form drives (helper (Record known)) seen mech) n
      (if is_other known (record_number seen.before) then callers.after_help drives else in_queue.Helps head drives (record_met at.Head at.Removes seen.before head seats))
  record_views known seen mech number =
      let after = with_hand mech.hand mech in
      let helping : Mech S W = in_phase (phase.Help drives (helper (helping_met seen.before head seats))) after in
      let other = is_other known (record_number seen.before) in
      views_if seats n other (helped form drives after) helping (callers.after_help drives) (in_queue.Helps head drives (record_met at.Head at.Removes seen.before head seats))
      (helped_at after number) (met_if seen.before (is_open (record_phase seen.before)) after (λ h. h) number)

  -- ---- the queue word is loaded

  looked : (word : ℕ) (b : Bool) (next : Work S W) (after : Mech S W) → Works word next → after.number ≡ n
      → Views seats (if is_over form (if b then Going else Over) then helped form drives after else in_phase (phase.Help drives (helper (worked form (if b then Going else Over) word next))) after) n
      (if not b then callers.after_help drives else in_queue.Helps head drives (at.Complete word))
  looked word true next after works number = record { phase' = ap (in_queue.Helps head drives) works.view; number = number; fits = (refl, works.fits) }
  looked word false next after works number = helped_at after number

  pub head_views : (word : ℕ) (seen : Seen) (mech : Mech S W) → is_open (record_phase word) ≡ true → mech.number ≡ n
      → Views seats (help_stepped form drives (helper (Known word work.Head)) seen mech) n
      (if not (leads seen.before head) then callers.after_help drives else in_queue.Helps head drives (at.Complete word))
  head_views word seen mech opened number =
      looked word (leads seen.before head) (work_fed form work.Head head word mech.hand mech.setup.cap seen) (with_hand mech.hand mech) (works_on form word work.Head head mech.hand mech.setup.cap seen opened) number

  -- ---- the head is removed

  gone : (what : Removing) (next : Removal) (after : Mech S W) → after.number ≡ n
      → Views seats (if is_gone form what then helped form drives after else in_phase (phase.Help drives (helper (Remove next))) after) n (if callers.is_gone what then callers.after_help drives else in_queue.Helps head drives (at.Removes next))
  gone removing_to.Running next after number = record { phase' = refl; number = number; fits = (refl, tt) }
  gone removing_to.Gone next after number = helped_at after number

  pub remove_views : (removal : Removal) (seen : Seen) (mech : Mech S W) → mech.number ≡ n
      → Views seats (help_stepped form drives (helper (Remove removal)) seen mech) n (if callers.is_gone (removing removal seen) then callers.after_help drives else in_queue.Helps head drives (at.Removes (remove_fed removal seen)))
  remove_views removal seen mech number = gone (removing removal seen) (remove_fed removal seen) (with_hand mech.hand mech) number
