-- A block in hand that no entry of its list has spent was not spent before the step.
use Rattle.std.proofs.Common.{◌≡◌, ◌∙◌, refl, sym, subst, ap, ℕ, ◌+◌, ◌<◌, ◌==◌, ◌&&◌, nat_lt, min, if◌then◌else◌, Bool, true, false, List, length, Option, Some, None, ◌⊎◌, inl, inr, arith, rules}
use Rattle.std.proofs.lemmas.Bool.{cases_eq, lt-ltb}
use Rattle.std.proofs.lemmas.Bool.Decides.{nat_tests}
use Rattle.arrayvec.specs.ArrayVec.{ArrayVec}
use Rattle.lin_report.specs.declared.calls.Op.{Op}
use Rattle.lin_report.specs.declared.calls.Outcome.{Outcome}
use Rattle.lin_report.specs.declared.calls.Outcome.TheVariants.{Plain, ValueOf}
use Rattle.step_memory.specs.declared.steps.Seen.{Seen}
use Rattle.normal_traits.specs.declared.form.Wrapped.{Wrapped}
use Rattle.normal_traits.specs.declared.form.Wrapped.TheVariants as wrapped
use Rattle.normal_traits.specs.declared.lists.Entry.{Entry}
use Rattle.normal_traits.specs.NormalForm.{NormalForm}
use Rattle.cas_executor.specs.declared.fast_run.Execution.TheVariants.{Running, Stopped}
use Rattle.cas_executor.specs.FastRuns.{FastWalk, fast_execution, fast_fed}
use Rattle.fast_slow_engine.specs.declared.phases.Announcing.TheVariants as announcing
use Rattle.fast_slow_engine.specs.declared.phases.Generating.TheVariants.{Search}
use Rattle.fast_slow_engine.specs.declared.phases.Phase.{Phase}
use Rattle.fast_slow_engine.specs.declared.phases.Phase.TheVariants.{Generate, Apply, Announce}
use Rattle.fast_slow_engine.specs.declared.phases.Applying.TheVariants.{Execute}
use Rattle.fast_slow_engine.specs.Mechs.{Mech}
use Rattle.fast_slow_engine.specs.PhaseTable.{executed, in_phase, may_search, rests, spent, stepped, stopped, told, tried, with_hand, wrapped_up}
use Rattle.fast_slow_engine.specs.Runs.{CanMove, begun}
use Rattle.run_world.specs.InHand.{IsUnspent}

pub not_so : (b : Bool) → (b ≡ true → ⊥) → b ≡ false
not_so true no_true = absurd (no_true refl)
not_so false no_true = refl

pub none_there : {A : Type 0} (hand : Option ℕ) (block : ℕ) → hand ≡ None → hand ≡ Some block → A
none_there hand block none some = let both : None ≡ Some block = sym none ∙ some in absurd (search rules)

pub true_false : {A : Type 0} (b : Bool) → b ≡ true → b ≡ false → A
true_false b one two = let both : true ≡ false = sym one ∙ two in absurd (search rules)

module _ {S W : Type 0} (form : NormalForm S W) where
  -- ---- the hand after an execution

  told_hand : (outcome : Outcome) (mech : Mech S W) → (told outcome mech).hand ≡ mech.hand
  told_hand (Plain reply) mech = refl
  told_hand (ValueOf reference) mech = refl

  either_hand : (b : Bool) (x y : Mech S W) (hand : Option ℕ) → x.hand ≡ hand → y.hand ≡ hand → (if b then x else y).hand ≡ hand
  either_hand true x y hand h k = h
  either_hand false x y hand h k = k

  tried_hand : (mech : Mech S W) → (tried form mech).hand ≡ mech.hand
  tried_hand mech = either_hand (may_search mech) (in_phase (Generate (form.begin_of mech.op) Search) mech) (in_phase (Announce announcing.Value) mech) mech.hand refl refl

  wrapped_hand : (what : Wrapped) (w : W) (mech : Mech S W) → (wrapped_up form what w mech).hand ≡ mech.hand
  wrapped_hand wrapped.Going w mech = refl
  wrapped_hand (wrapped.Done outcome) w mech = told_hand outcome mech
  wrapped_hand wrapped.Restart w mech = tried_hand (record mech { failures = min (mech.failures + 1) mech.setup.limit })

  -- a block is out of the hand where an entry of its list took effect
  stopped_hand : (entries : List Entry) (stop : ℕ) (mech : Mech S W) → form.needs_block mech.op ≡ true → 0 < stop → (stopped form entries stop mech).hand ≡ None
  stopped_hand entries stop mech needs some =
      let test : (nat_lt 0 stop && form.needs_block mech.op) ≡ true = ap (λ b. b && form.needs_block mech.op) (lt-ltb 0 stop some) ∙ needs in
      wrapped_hand (form.wrap_begun_of mech.op entries stop) (form.begin_wrap_of mech.op entries stop) (spent form stop mech) ∙ ap (λ b. (if b then with_hand None mech else mech).hand) test

  -- an execution that has a block in hand still, which it needs, lost the first entry
  abbrev pub FirstLost : FastWalk → Seen → Type 0
  FirstLost run seen = (run.next ≡ 0) × (seen.won ≡ false)

  went_unspent : {A : Type 0} (b : Bool) (run later : FastWalk) (stores : ArrayVec (ℕ × ℕ)) (mech : Mech S W) (block : ℕ) → (run.next + 1 == length run.entries) ≡ b → later.next ≡ run.next + 1 → form.needs_block mech.op ≡ true
      → (let new = executed form (if b then Stopped (length run.entries) else Running) later stores mech in new.hand ≡ Some block → IsUnspent form new.op new.phase → A)
  went_unspent true run later stores mech block test next needs hand unspent =
      let last : run.next + 1 ≡ length run.entries = grind (arith, nat_tests) in
      none_there _ block (stopped_hand later.entries (length run.entries) mech needs (omega (arith, last))) hand
  went_unspent false run later stores mech block test next needs hand unspent =
      elim unspent [ inl first ↦ absurd (omega (arith, first, next)) | inr none ↦ true_false (form.needs_block mech.op) needs none ]

  lost_unspent : (run later : FastWalk) (stores : ArrayVec (ℕ × ℕ)) (mech : Mech S W) (seen : Seen) (block : ℕ) → seen.won ≡ false → form.needs_block mech.op ≡ true
      → (executed form (Stopped run.next) later stores mech).hand ≡ Some block → FirstLost run seen
  lost_unspent run later stores mech seen block lost needs hand =
      elim (cases_eq run.next 0) [
        | inl first ↦ (first, lost)
        | inr some ↦ none_there _ block (stopped_hand later.entries run.next mech needs (omega (arith, some))) hand
      ]

  tried_unspent : (b : Bool) (run later : FastWalk) (stores : ArrayVec (ℕ × ℕ)) (mech : Mech S W) (seen : Seen) (block : ℕ) → seen.won ≡ b → later.next ≡ (if b then run.next + 1 else run.next) → form.needs_block mech.op ≡ true
      → (let new = executed form (if b then (if run.next + 1 == length run.entries then Stopped (length run.entries) else Running) else Stopped run.next) later stores mech in
      new.hand ≡ Some block → IsUnspent form new.op new.phase → FirstLost run seen)
  tried_unspent true run later stores mech seen block won next needs hand unspent =
      went_unspent (run.next + 1 == length run.entries) run later stores mech block refl next needs hand unspent
  tried_unspent false run later stores mech seen block lost next needs hand unspent = lost_unspent run later stores mech seen block lost needs hand

  executed_unspent : (b : Bool) (run : FastWalk) (stores : ArrayVec (ℕ × ℕ)) (mech : Mech S W) (seen : Seen) (block : ℕ) → form.needs_block mech.op ≡ b
      → (let new = executed form (fast_execution run seen) (fast_fed run seen) stores mech in new.hand ≡ Some block → IsUnspent form new.op new.phase → (form.needs_block mech.op ≡ false) ⊎ FirstLost run seen)
  executed_unspent true run stores mech seen block needs hand unspent = inr (tried_unspent seen.won run (fast_fed run seen) stores mech seen block refl refl needs hand unspent)
  executed_unspent false run stores mech seen block needs hand unspent = inl needs

  -- ---- a block that is unspent after a step was so before it

  abbrev pub StaysUnspent : Op → Phase S W → Seen → Type 0
  StaysUnspent op (Apply run stores Execute) seen = (form.needs_block op ≡ false) ⊎ FirstLost run seen
  StaysUnspent op _ seen = Unit {0}

  pub stays_unspent : (phase : Phase S W) (mech : Mech S W) (seen : Seen) (block : ℕ) → (let new = stepped form phase seen mech in new.hand ≡ Some block → IsUnspent form new.op new.phase → StaysUnspent mech.op phase seen)
  stays_unspent (Apply run stores Execute) mech seen block hand unspent = executed_unspent (form.needs_block mech.op) run stores mech seen block refl hand unspent
  stays_unspent _ mech seen block hand unspent = tt

  pub was_unspent : (phase : Phase S W) (op : Op) (seen : Seen) → StaysUnspent op phase seen → IsUnspent form op phase
  was_unspent (Apply run stores Execute) op seen is = elim is [ inl none ↦ inr none | inr first ↦ inl first.0 ]
  was_unspent _ op seen is = tt

  rest_unspent : (phase : Phase S W) (op : Op) → rests phase ≡ true → IsUnspent form op phase
  rest_unspent (Apply run stores at) op free = absurd (search rules)
  rest_unspent _ op free = tt

  pub begun_unspent : (begins : Option Op) (mech : Mech S W) → CanMove form begins mech → IsUnspent form (begun begins mech).op (begun begins mech).phase → IsUnspent form mech.op mech.phase
  begun_unspent None mech can is = is
  begun_unspent (Some op) mech can is = rest_unspent mech.phase mech.op can.0

  pub begun_runs : (begins : Option Op) (mech : Mech S W) → CanMove form begins mech → rests (begun begins mech).phase ≡ false
  begun_runs None mech can = can
  begun_runs (Some op) mech can = refl

  -- a list whose entry wins, and after which the block is unspent still, needs none
  pub no_win : (run : FastWalk) (op : Op) (stores : ArrayVec (ℕ × ℕ)) (phase : Phase S W) (seen : Seen) → phase ≡ Apply run stores Execute → seen.won ≡ true → StaysUnspent op phase seen → form.needs_block op ≡ false
  no_win run op stores phase seen at won is =
      elim (subst (λ (p : Phase S W). StaysUnspent op p seen) at is) [ inl none ↦ none | inr first ↦ true_false seen.won won first.1 ]
