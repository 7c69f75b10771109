-- What a machine knows after an exchange of its own list, and where the list stops.
use Rattle.std.proofs.Common.{◌≡◌, ◌≢◌, ◌∙◌, refl, sym, subst, ap, ℕ, ◌+◌, ◌<◌, ◌==◌, if◌then◌else◌, Bool, true, false, ◌⊎◌, List, ◌∷◌, ◌++◌, [], length, slice_get, Option, Some, inl, inr, arith, rules}
use Rattle.std.proofs.lemmas.Bool.{cases_eq}
use Rattle.std.proofs.lemmas.Bool.Decides.{nat_tests}
use Rattle.std.proofs.lemmas.Option.{slice_get_cases}
use Rattle.arrayvec.specs.ArrayVec.{ArrayVec}
use Rattle.lin_report.specs.Object.{IsCommandOf}
use Rattle.step_memory.specs.declared.steps.Seen.{Seen}
use Rattle.normal_traits.specs.declared.lists.Entry.{Entry}
use Rattle.normal_traits.specs.World.{Among, IsPassed, Listed, Stopped, Took, Won, World}
use Rattle.normal_traits.specs.World.Maker.{By}
use Rattle.normal_traits.specs.NormalForm.{NormalForm}
use Rattle.normal_traits.specs.Steps.{exchanged, listed_if}
use Rattle.normal_traits.specs.Laws.{IsGoodEntry, Laws}
use Rattle.normal_traits.proofs.Stays.{entry_good}
use Rattle.cas_executor.specs.declared.fast_run.Execution.{Execution}
use Rattle.cas_executor.specs.declared.fast_run.Execution.TheVariants as execution
use Rattle.cas_executor.specs.FastRuns.{FastWalk, fast_execution, fast_fed}
use Rattle.fast_slow_engine.specs.Mechs.{Mech}
use Rattle.fast_slow_engine.specs.PhaseTable.{executed}
use Rattle.offered_blocks.specs.Blocks.{Offer}
use Rattle.move_kinds.specs.Moves.{Grows}
use Rattle.helper_knowledge.specs.Callers.{Caller}
use Rattle.run_world.specs.Ghosts.{Held, stopped_in, uses_block}
use Rattle.run_world.specs.Worlds.{won_entry}
use Rattle.step_knowledge.specs.Known.{IsStillOffered, KnowsRun, NoneFrom}
use Rattle.step_knowledge.specs.Moves.{Enters}
use Rattle.step_knowledge.specs.Moves.Enters.{misses, wins}
use Rattle.step_knowledge.proofs.Goes.Searches.{Knows}
use Rattle.step_knowledge.proofs.Goes.Wraps.{stops_knows}

-- what was among some things is among more
pub among_more : {X : Type 0} (x : X) (newer xs : List X) → Among x xs → Among x (newer ++ xs)
among_more x [] xs is = is
among_more x (y ∷ newer) xs is = inr (among_more x newer xs is)

-- an entry that took effect did so
pub took_grows : (world after : World) (list : Listed) (j : ℕ) → Grows world after → Took world list j → Took after list j
took_grows world after list j grows took = record {
  entry = took.entry;
  cause = took.cause;
  listed = took.listed;
  won = subst (Among _) (sym grows.journal.1) (among_more _ grows.journal.0 world.journal took.won);
}

-- where a list stopped: its exchange was the last one and won, or was lost
stops : (won last : Bool) (next count stop : ℕ) → (if won then (if last then execution.Stopped count else execution.Running) else execution.Stopped next) ≡ execution.Stopped stop
    → ((won ≡ true) × (last ≡ true) × (count ≡ stop)) ⊎ ((won ≡ false) × (next ≡ stop))
stops true true next count stop is = inl (refl, refl, cc)
stops true false next count stop is = absurd (search rules)
stops false last next count stop is = inr (refl, cc)

-- and where it goes on
goes_on : (won last : Bool) (next count : ℕ) → (if won then (if last then execution.Stopped count else execution.Running) else execution.Stopped next) ≡ execution.Running
    → (won ≡ true) × (last ≡ false)
goes_on true true next count is = absurd (search rules)
goes_on true false next count is = (refl, refl)
goes_on false last next count is = absurd (search rules)

same_entry : (list other : Listed) (j k : ℕ) → By list j ≡ By other k → j ≡ k
same_entry list other j k same = cc

module _ {S W : Type 0} (form : NormalForm S W) where
  took_if : (b : Bool) (x y : World) (list : Listed) (j : ℕ) → Took x list j → Took y list j → Took (if b then x else y) list j
  took_if true x y list j h k = h
  took_if false x y list j h k = k

  journal_if : (b : Bool) (x y : World) (journal : List Won) → x.journal ≡ journal → y.journal ≡ journal → (if b then x else y).journal ≡ journal
  journal_if true x y journal h k = h
  journal_if false x y journal h k = k

  -- an entry that wins took effect
  entry_took : (list : Listed) (j : ℕ) (entry : Entry) (world : World) → slice_get list.entries j ≡ Some entry → Took (won_entry form list j (Some entry) world) list j
  entry_took list j entry world at =
      took_if (uses_block list j) _ (exchanged form (By list j) (listed_if (form.adds list j) list) entry entry.to world) list j
      (record { entry = entry; cause = _; listed = at; won = inl refl }) (record { entry = entry; cause = _; listed = at; won = inl refl })

  -- and it alone took effect there
  entry_journal : (list : Listed) (j : ℕ) (entry : Entry) (world : World)
      → (won_entry form list j (Some entry) world).journal ≡ record { place = entry.target; before = entry.from; after = entry.to; maker = By list j; cause = form.cause_of world (By list j) entry } ∷ world.journal
  entry_journal list j entry world = journal_if (uses_block list j) _ (exchanged form (By list j) (listed_if (form.adds list j) list) entry entry.to world) _ refl refl

  pub none_more : (list : Listed) (j : ℕ) (entry : Entry) (world : World) (identity : ℕ) → NoneFrom world identity j → NoneFrom (won_entry form list j (Some entry) world) identity (j + 1)
  none_more list j entry world identity none other k same least took =
      elim (subst (Among _) (entry_journal list j entry world) took.won) [
        | inl new ↦ (let is : k ≡ j = same_entry other list k j (ap (λ (w : Won). w.maker) new) in absurd (omega (arith, is, least)))
        | inr old ↦ none other k same (omega (arith, least)) (record { entry = took.entry; cause = took.cause; listed = took.listed; won = old })
      ]

  -- an exchange of a list and what it leaves
  pub record HasRun (world after : World) (run : FastWalk) (seen : Seen) (held : Held S) : Type 0 where
    pub won : seen.won ≡ true → Took after held.list run.next × NoneFrom after held.list.identity (run.next + 1)
    pub lost : seen.won ≡ false → (after ≡ world) × ((entry : Entry) × (slice_get held.list.entries run.next ≡ Some entry) × IsPassed world entry)

  no_both : {A : Type 0} (b : Bool) → b ≡ true → b ≡ false → A
  no_both b on off = absurd cc

  same_some : {X : Type 0} (x y : X) → Some x ≡ Some y → x ≡ y
  same_some x y e = cc

  -- an entry that doesn't find its word is passed
  lost_passed : (laws : Laws form) (world : World) (run : FastWalk) (held : Held S) → form.shape world → KnowsRun form world run held → held.list.entries ≡ run.entries
      → ((entry : Entry) → slice_get run.entries run.next ≡ Some entry → world.words entry.target ≢ entry.from) → (entry : Entry) × (slice_get held.list.entries run.next ≡ Some entry) × IsPassed world entry
  lost_passed laws world run held shape known same differs =
      elim (slice_get_cases run.entries run.next).1 [
        | inl has ↦
            let entry = has.0 in
            let next : slice_get run.entries run.next ≡ Some entry = has.2 in
            let listed : slice_get held.list.entries run.next ≡ Some entry = ap (λ (l : List Entry). slice_get l run.next) same ∙ next in
            let fine : IsGoodEntry form world entry = entry_good form laws world held.list held.offering held.since run.next entry shape known.offered listed in
            (entry, listed, elim (fine.seen fine.clear) [ inl found ↦ absurd (differs entry next found) | inr past ↦ past ])
        | inr past ↦ (let running = known.running in absurd (omega (arith, past.0, running.0)))
      ]

  pub has_run : (laws : Laws form) (world after : World) (offers offers' : ℕ → Option (Offer S)) (run : FastWalk) (seen : Seen) (held : Held S) → form.shape world → KnowsRun form world run held → held.list.entries ≡ run.entries
      → Enters form world after offers offers' run (Some held) seen → HasRun world after run seen held
  has_run laws world after offers offers' run seen held shape known same (misses failed differs is) =
      record { won = λ on. no_both seen.won on failed; lost = λ off. (is, lost_passed laws world run held shape known same differs) }
  has_run laws world after offers offers' run seen held shape known same (wins list entry holds succeeded next found is) =
      record {
        won = λ on. (
            let one : list ≡ held = same_some list held (sym holds) in
            let listed : slice_get held.list.entries run.next ≡ Some entry = ap (λ (l : List Entry). slice_get l run.next) same ∙ next in
            let made : after ≡ won_entry form held.list run.next (Some entry) world = is ∙ ap (λ (h : Held S). won_entry form h.list run.next (Some entry) world) one in (
              subst (λ (w : World). Took w held.list run.next) (sym made) (entry_took held.list run.next entry world listed),
              subst (λ (w : World). NoneFrom w held.list.identity (run.next + 1)) (sym made) (none_more held.list run.next entry world held.list.identity known.none),
            ));
        lost = λ off. no_both seen.won succeeded off;
      }

  -- where it stops
  pub run_stopped : (world after : World) (run : FastWalk) (seen : Seen) (held : Held S) (stop : ℕ) → Grows world after → KnowsRun form world run held → held.list.entries ≡ run.entries → HasRun world after run seen held
      → fast_execution run seen ≡ execution.Stopped stop → Stopped after held.list stop × NoneFrom after held.list.identity stop
  run_stopped world after run seen held stop grows known entries has is =
      let same : length held.list.entries ≡ length run.entries = ap length entries in
      let running = known.running in
      elim (stops seen.won (run.next + 1 == length run.entries) run.next (length run.entries) stop is) [
        | inl ends ↦
            let last : run.next + 1 ≡ length run.entries = grind (arith, nat_tests, ends.1) in
            let at : run.next + 1 ≡ stop = last ∙ ends.2 in (
              record {
                within = omega (arith, same, ends.2);
                took = λ j less. elim (cases_eq j run.next) [
                  | inl here ↦ subst (Took after held.list) (sym here) (has.won ends.0).0
                  | inr apart ↦ took_grows world after held.list j grows (known.took j (omega (arith, less, apart, at)) (omega (arith, less, same, ends.2)))
                ];
                failed = λ less. absurd (omega (arith, less, same, ends.2));
              },
              subst (NoneFrom after held.list.identity) at (has.won ends.0).1,
            )
        | inr fails ↦
            let lost = has.lost fails.0 in
            let none : NoneFrom world held.list.identity stop = subst (NoneFrom world held.list.identity) fails.1 known.none in
            subst (λ (w : World). Stopped w held.list stop × NoneFrom w held.list.identity stop) (sym lost.0) (
              subst (Stopped world held.list) fails.1 (record {
                within = omega (arith, same, running.0);
                took = λ j less. known.took j less (omega (arith, less, same, running.0));
                failed = λ less. record { entry = lost.1.0; listed = lost.1.1; passed = lost.1.2; lost = known.none held.list run.next refl (omega arith) };
              }),
              none,
            )
      ]

  -- where it goes on
  run_goes : (world after : World) (run : FastWalk) (seen : Seen) (held : Held S) → Grows world after → KnowsRun form world run held → HasRun world after run seen held → IsStillOffered form after held
      → fast_execution run seen ≡ execution.Running → KnowsRun form after (fast_fed run seen) held
  run_goes world after run seen held grows known has still on =
      let goes = goes_on seen.won (run.next + 1 == length run.entries) run.next (length run.entries) on in
      let next : (fast_fed run seen).next ≡ run.next + 1 = ap (λ w. if w then run.next + 1 else run.next) goes.0 in
      let running = known.running in
      let more : run.next + 1 < length run.entries = grind (arith, nat_tests, goes.1, running.0) in
      let won = has.won goes.0 in
      record {
        offered = still;
        running = (subst (λ n. n < length run.entries) (sym next) more, running.1);
        filled = λ first some. absurd (omega (arith, first, next));
        took = λ j less within. elim (cases_eq j run.next) [
          | inl here ↦ subst (Took after held.list) (sym here) won.0
          | inr apart ↦ took_grows world after held.list j grows (known.took j (omega (arith, less, apart, next)) within)
        ];
        none = subst (NoneFrom after held.list.identity) (sym next) won.1;
      }

  -- what is known after an exchange of a list
  pub run_knows : (laws : Laws form) (world after : World) (offers offers' : ℕ → Option (Offer S)) (callers : ℕ → Caller) (begun : ℕ) (filled : Option (Offer S)) (run : FastWalk) (stores : ArrayVec (ℕ × ℕ)) (seen : Seen) (mech : Mech S W) (held : Held S)
      → form.shape world → form.shape after → Grows world after → IsCommandOf form.object mech.op → KnowsRun form world run held → IsStillOffered form after held
      → held.list.call.op ≡ mech.op → held.list.entries ≡ run.entries → Enters form world after offers offers' run (Some held) seen
      → Knows form after offers' callers begun filled (length after.changes) (stopped_in (fast_execution run seen) (Some held)) (executed form (fast_execution run seen) (fast_fed run seen) stores mech)
  run_knows laws world after offers offers' callers begun filled run stores seen mech held shape shape' grows command known still call entries enters =
      by_end (fast_execution run seen) refl
    where
      by_end : (ends : Execution) → fast_execution run seen ≡ ends
          → Knows form after offers' callers begun filled (length after.changes) (stopped_in ends (Some held)) (executed form ends (fast_fed run seen) stores mech)
      by_end execution.Running is = run_goes world after run seen held grows known (has_run laws world after offers offers' run seen held shape known entries enters) still is
      by_end (execution.Stopped stop) is =
          let ended = run_stopped world after run seen held stop grows known entries (has_run laws world after offers offers' run seen held shape known entries enters) is in
          stops_knows form laws after offers' callers begun filled shape' run.entries stop mech held command still ended.0 ended.1 call entries
