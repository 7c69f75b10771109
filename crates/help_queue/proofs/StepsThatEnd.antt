-- When entering and removing end, by what their steps show.
use Rattle.std.proofs.Common.{◌≡◌, ◌≢◌, ℕ, Bool, true, false, cond, refl, sym, ◌∙◌, subst, inl, inr, ◌⊎◌, ◌↔◌}
use Rattle.std.specs.Prelude.{◌==◌, ◌&&◌, nat_lt}
use Rattle.std.proofs.lemmas.Bool.{eqb-true, eq-eqb, and_parts, and_from, true≢false, lt-ltb, not_from_true}
use Rattle.lin_report.specs.declared.calls.Outcome.{Outcome}
use Rattle.step_memory.specs.declared.steps.Seen.{Seen}
use Rattle.word_fields.specs.declared.records.RecordPhase.{RecordPhase}
use Rattle.word_fields.specs.declared.records.RecordPhase.TheVariants.{Idle, Generate, Executing, Wrapping, Completed}
use Rattle.word_fields.specs.Records.{record_phase, record_number}
use Rattle.op_record.specs.Outcomes.{is_completed}
use Rattle.help_queue.specs.declared.enter.Entering.{Entering}
use Rattle.help_queue.specs.declared.enter.Entering.TheVariants as entering
use Rattle.help_queue.specs.declared.enter.EnterStage.{EnterStage}
use Rattle.help_queue.specs.declared.enter.EnterStage.TheVariants as enter
use Rattle.help_queue.specs.declared.remove.Removing.{Removing}
use Rattle.help_queue.specs.declared.remove.Removing.TheVariants as removing
use Rattle.help_queue.specs.declared.remove.RemoveStage.{RemoveStage}
use Rattle.help_queue.specs.declared.remove.RemoveStage.TheVariants as remove
use Rattle.help_queue.specs.Gathers.{Gathering, among_seats, holds, leads, gather_over, gather_fed}
use Rattle.help_queue.specs.Enters.{Owner, IsOwner, CanEnter, SeesSeat, SeesOutcome, outcome_or_done, finishes, entering_in}
use Rattle.help_queue.specs.Removes.{Removal, IsRemoval, CanRemove, SeesGone, completes, removing_in}
use Rattle.help_queue.proofs.SeatsGathered.{entered_holds, fed_is, not_over}

-- an answer that comes by a test comes exactly where the test holds
by_test : {A : Type 0} (b : Bool) (x y : A) → y ≢ x → (cond b x y ≡ x) ↔ (b ≡ true)
by_test true x y other = (λ _. refl, λ _. refl)
by_test false x y other = (λ e. absurd (other e), λ e. absurd (true≢false (sym e)))

by_failure : {A : Type 0} (b : Bool) (x y : A) → x ≢ y → (cond b x y ≡ y) ↔ (b ≡ false)
by_failure true x y other = (λ e. absurd (other e), λ e. absurd (true≢false e))
by_failure false x y other = (λ _. refl, λ _. refl)

abbrev gathering_answer : Bool → Bool → Bool → Bool → Outcome → Entering
gathering_answer over won found own outcome =
    cond over (cond (won && found) entering.Entered entering.Running) (cond own (entering.Finished outcome) entering.Running)

at_exchange : (over won found own : Bool) (outcome : Outcome) → (gathering_answer over won found own outcome ≡ entering.Entered) ↔ ((over ≡ true) × (won ≡ true) × (found ≡ true))
at_exchange true true true own outcome = (λ e. (refl, refl, refl), λ h. refl)
at_exchange true true false own outcome = (λ e. absurd (cc), λ h. absurd (true≢false (sym h.2)))
at_exchange true false found own outcome = (λ e. absurd (cc), λ h. absurd (true≢false (sym h.1)))
at_exchange false won found true outcome = (λ e. absurd (cc), λ h. absurd (true≢false (sym h.0)))
at_exchange false won found false outcome = (λ e. absurd (cc), λ h. absurd (true≢false (sym h.0)))

at_own_record : (over won found own : Bool) (outcome told : Outcome) → (gathering_answer over won found own outcome ≡ entering.Finished told) ↔ ((over ≡ false) × (own ≡ true) × (told ≡ outcome))
at_own_record true true true own outcome told = (λ e. absurd (cc), λ h. absurd (true≢false h.0))
at_own_record true true false own outcome told = (λ e. absurd (cc), λ h. absurd (true≢false h.0))
at_own_record true false found own outcome told = (λ e. absurd (cc), λ h. absurd (true≢false h.0))
at_own_record false won found true outcome told = (λ e. (refl, refl, cc), λ h. cc)
at_own_record false won found false outcome told = (λ e. absurd (cc), λ h. absurd (true≢false (sym h.1)))

entered_where : (stage : EnterStage) (seat seats : ℕ) (seen : Seen) → CanEnter stage seat seats → (entering_in stage seat seen ≡ entering.Entered) ↔ SeesSeat stage seat seen
entered_where enter.Look seat seats seen can = by_test (holds seen.before seat) entering.Entered entering.Running (λ e. cc)
entered_where (enter.Gathers g) seat seats seen can =
    let same = entered_holds g seat can.0.apart can.2 in
    let w = at_exchange (gather_over g) seen.won (among_seats seat g.found) (finishes g seat seen.before) (outcome_or_done seen.before) in
    (λ e. ((w.0 e).0, (w.0 e).1, same ∙ (w.0 e).2), λ h. w.1 (h.0, h.1, sym same ∙ h.2))

finished_where : (stage : EnterStage) (seat seats : ℕ) (seen : Seen) (told : Outcome) → CanEnter stage seat seats → (entering_in stage seat seen ≡ entering.Finished told) ↔ SeesOutcome stage seat seen told
finished_where enter.Look seat seats seen told can = elim (holds seen.before seat) as (λ b. (cond b entering.Entered entering.Running ≡ entering.Finished told) ↔ ⊥) [ true ↦ (λ e. absurd (cc), λ h. absurd h) | false ↦ (λ e. absurd (cc), λ h. absurd h) ]
finished_where (enter.Gathers g) seat seats seen told can =
    let w = at_own_record (gather_over g) seen.won (among_seats seat g.found) (finishes g seat seen.before) (outcome_or_done seen.before) told in (
      λ e. (
        can.2,
        not_over g (w.0 e).0,
        eqb-true g.next seat (and_parts (g.next == seat) (is_completed (record_phase seen.before)) (w.0 e).1).0,
        (and_parts (g.next == seat) (is_completed (record_phase seen.before)) (w.0 e).1).1,
        (w.0 e).2,
      ),
      λ h. w.1 (not_from_true (nat_lt g.next g.among) (lt-ltb g.next g.among h.1), and_from (g.next == seat) (is_completed (record_phase seen.before)) (eq-eqb g.next seat h.2) h.3, h.4),
    )

completed_phase : (phase : RecordPhase) → is_completed phase ≡ true → phase ≡ Completed
completed_phase Idle h = absurd (true≢false (sym h))
completed_phase Generate h = absurd (true≢false (sym h))
completed_phase Executing h = absurd (true≢false (sym h))
completed_phase Wrapping h = absurd (true≢false (sym h))
completed_phase Completed h = refl

completes_not : (phase : RecordPhase) (same : Bool) (n m : ℕ) → (same ≡ true ↔ n ≡ m) → ((is_completed phase && same) ≡ false) ↔ ((phase ≢ Completed) ⊎ (n ≢ m))
completes_not Idle same n m is = (λ e. inl (λ c. cc), λ h. refl)
completes_not Generate same n m is = (λ e. inl (λ c. cc), λ h. refl)
completes_not Executing same n m is = (λ e. inl (λ c. cc), λ h. refl)
completes_not Wrapping same n m is = (λ e. inl (λ c. cc), λ h. refl)
completes_not Completed true n m is = (λ e. absurd (true≢false e), λ h. elim h [ inl other ↦ absurd (other refl) | inr other ↦ absurd (other (is.0 refl)) ])
completes_not Completed false n m is = (λ e. inr (λ same. true≢false (sym (is.1 same))), λ h. refl)

gone_where : (stage : RemoveStage) (removal : Removal) (seen : Seen) → (removing_in stage removal seen ≡ removing.Gone) ↔ SeesGone stage removal seen
gone_where remove.Look removal seen = by_failure (leads seen.before removal.seat) removing.Running removing.Gone (λ e. cc)
gone_where (remove.Check word) removal seen =
    let w = by_failure (completes seen.before removal.number) removing.Running removing.Gone (λ e. cc) in
    let number = record_number seen.before in
    let v = completes_not (record_phase seen.before) (number == removal.number) number removal.number (λ h. eqb-true number removal.number h, λ h. eq-eqb number removal.number h) in
    (λ e. v.0 (w.0 e), λ h. w.1 (v.1 h))
gone_where (remove.Gathers g) removal seen =
    let w = by_test (gather_over g && seen.won) removing.Gone removing.Running (λ e. cc) in
    (λ e. and_parts (gather_over g) seen.won (w.0 e), λ h. w.1 (and_from (gather_over g) seen.won h.0 h.1))

module _ (owner : Owner) (seen : Seen) (answer : Entering) (e : answer ≡ entering_in owner.stage owner.seat seen) where
  pub entered_exactly : IsOwner owner → (answer ≡ entering.Entered) ↔ SeesSeat owner.stage owner.seat seen
  entered_exactly is = subst (λ a. (a ≡ entering.Entered) ↔ SeesSeat owner.stage owner.seat seen) (sym e) (entered_where owner.stage owner.seat owner.seats seen is.stage)

  pub finished_exactly : IsOwner owner → (told : Outcome) → (answer ≡ entering.Finished told) ↔ SeesOutcome owner.stage owner.seat seen told
  finished_exactly is told = subst (λ a. (a ≡ entering.Finished told) ↔ SeesOutcome owner.stage owner.seat seen told) (sym e) (finished_where owner.stage owner.seat owner.seats seen told is.stage)

pub gone_exactly : (removal : Removal) (seen : Seen) (answer : Removing) → answer ≡ removing_in removal.stage removal seen → (answer ≡ removing.Gone) ↔ SeesGone removal.stage removal seen
gone_exactly removal seen answer e = subst (λ a. (a ≡ removing.Gone) ↔ SeesGone removal.stage removal seen) (sym e) (gone_where removal.stage removal seen)

-- an owner that loads one more record stays one
pub owner_fed : (seat seats : ℕ) (stage : EnterStage) (g g' : Gathering) (before : ℕ) → IsOwner (record { seat = seat; seats = seats; stage = stage }) → stage ≡ enter.Gathers g → gather_over g ≡ false → g' ≡ gather_fed g before
    → IsOwner (record { seat = seat; seats = seats; stage = enter.Gathers g' })
owner_fed seat seats stage g g' before is at more fed =
    let can : CanEnter (enter.Gathers g) seat seats = subst (λ s. CanEnter s seat seats) at is.stage in
    record { seat = is.seat; few = is.few; stage = subst (λ x. CanEnter (enter.Gathers x) seat seats) (sym fed) (fed_is g before can.0 (not_over g more), can.1, can.2) }

-- and so does a removal
pub removal_fed : (seat number seats : ℕ) (stage : RemoveStage) (g g' : Gathering) (before : ℕ) → IsRemoval (record { seat = seat; number = number; seats = seats; stage = stage }) → stage ≡ remove.Gathers g → gather_over g ≡ false → g' ≡ gather_fed g before
    → IsRemoval (record { seat = seat; number = number; seats = seats; stage = remove.Gathers g' })
removal_fed seat number seats stage g g' before is at more fed =
    let can : CanRemove (remove.Gathers g) seats = subst (λ s. CanRemove s seats) at is.stage in
    record { seat = is.seat; few = is.few; number = is.number; stage = subst (λ x. CanRemove (remove.Gathers x) seats) (sym fed) (fed_is g before can.0 (not_over g more), can.1) }
