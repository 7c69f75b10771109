-- The loops of a drive: each has made so many steps of a seat, and goes on only where none was the last.
use Rattle.std.proofs.Common.{arith, ◌≡◌, ◌∙◌, ◌+◌, ◌-◌, ◌<◌, ◌≤◌, ◌++◌, ◌||◌, refl, sym, subst, ap, ℕ, suc, Bool, true, false, not, List, [], ◌∷◌, length, take, slice_index_or}
use Rattle.std.proofs.Math.Seq.{take-suc}
use Rattle.std.proofs.lemmas.Bool.{cases_order}
use Rattle.script_reader.specs.declared.schedules.ScheduleEntry.{ScheduleEntry}
use Rattle.script_reader.specs.Schedules.{STEP_LIMIT}
use Rattle.normal_traits.specs.NormalForm.{NormalForm}
use Rattle.event_core.specs.Cores.{CoreView, core_stepped, core_turn, next_listed}
use Rattle.schedule_runs.specs.Spans.{IsFirst, after_steps, goes_on, reaches_at}
use Rattle.schedule_runs.specs.Orders.{EntriesMade, EntryMade}
use Rattle.schedule_runs.proofs.OneSpan.{none_past}

module _ {S W : Type 0} (form : NormalForm S W) where
  -- so many steps were made, and this holds after none of them
  pub record HasGone (holds : ℕ → Bool) (seat : ℕ) (old : CoreView S W) (made : ℕ) (core : CoreView S W) : Type 0 where
    pub steps : core ≡ after_steps form seat old made
    pub none : (m : ℕ) → 1 ≤ m → m < made + 1 → holds m ≡ false

  -- one more step
  pub one_more : (seat : ℕ) (old core core' : CoreView S W) (made : ℕ) → core ≡ after_steps form seat old made → core' ≡ core_stepped form seat core → core' ≡ after_steps form seat old (made + 1)
  one_more seat old core core' made is step =
      let next : suc made ≡ made + 1 = omega arith in
      step ∙ ap (core_stepped form seat) is ∙ ap (after_steps form seat old) next

  -- what the next step answers is what is asked of its number
  pub reaches_now : (seat : ℕ) (old core core' : CoreView S W) (made : ℕ) (last : Bool) → core ≡ after_steps form seat old made → core' ≡ core_stepped form seat core
      → last ≡ (not (goes_on (core_turn form seat core)) || next_listed seat core') → reaches_at form seat old (made + 1) ≡ last
  reaches_now seat old core core' made last is step answer =
      let same : made + 1 - 1 ≡ made = omega arith in
      ap (λ n. not (goes_on (core_turn form seat (after_steps form seat old n))) || next_listed seat (after_steps form seat old (made + 1))) same
      ∙ sym (answer ∙ ap (λ c. not (goes_on (core_turn form seat c)) || next_listed seat core') is
      ∙ ap (λ c. not (goes_on (core_turn form seat (after_steps form seat old made))) || next_listed seat c) (one_more seat old core core' made is step))

  module _ (holds : ℕ → Bool) (seat : ℕ) (old : CoreView S W) where
    pub gone_on : (core core' : CoreView S W) (made : ℕ) → HasGone holds seat old made core → core' ≡ core_stepped form seat core → holds (made + 1) ≡ false → HasGone holds seat old (made + 1) core'
    gone_on core core' made gone step not_here =
        record {
          steps = one_more seat old core core' made gone.steps step;
          none = λ m some below. none_past holds (made + 1) gone.none not_here m some below (cases_order m (made + 1));
        }

    pub gone_to : (core core' : CoreView S W) (made : ℕ) → HasGone holds seat old made core → made < STEP_LIMIT → core' ≡ core_stepped form seat core → holds (made + 1) ≡ true
        → (n : ℕ) × IsFirst holds n × (core' ≡ after_steps form seat old n)
    gone_to core core' made gone below step here = (
      made + 1,
      record { some = omega arith; most = omega (arith, below); before = gone.none; here = λ _. here },
      one_more seat old core core' made gone.steps step,
    )

  -- the entries and one more
  pub follows_one : (entries : List ScheduleEntry) (entry : ScheduleEntry) (old core new : CoreView S W) → EntriesMade form entries old core → EntryMade form entry core new → EntriesMade form (entries ++ entry ∷ []) old new
  follows_one [] entry old core new same made = (new, subst (λ c. EntryMade form entry c new) same made, refl)
  follows_one (first ∷ rest) entry old core new (next, is, later) made = (next, is, follows_one rest entry next core new later made)

  -- one more of a schedule
  pub follows_next : (schedule : List ScheduleEntry) (i : ℕ) (entry : ScheduleEntry) (old core new : CoreView S W) → EntriesMade form (take i schedule) old core → i < length schedule
      → entry ≡ slice_index_or schedule i entry → EntryMade form entry core new → EntriesMade form (take (i + 1) schedule) old new
  follows_next schedule i entry old core new so_far inside at made =
      let next : suc i ≡ i + 1 = omega arith in
      let is : take i schedule ++ entry ∷ [] ≡ take (i + 1) schedule = ap (λ x. take i schedule ++ x ∷ []) at ∙ sym (take-suc schedule i entry inside) ∙ ap (λ n. take n schedule) next in
      subst (λ entries. EntriesMade form entries old new) is (follows_one (take i schedule) entry old core new so_far made)
