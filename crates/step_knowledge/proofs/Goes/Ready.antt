-- A helper's next work can be done: what its machine needs beside what it knows is kept by each step.
use Rattle.std.proofs.Common.{◌≡◌, refl, sym, subst, ap, ℕ, ◌+◌, ◌^◌, ◌<◌, ◌≤◌, ◌==◌, nat_lt, if◌then◌else◌, Bool, true, false, IsTrue, [], ◌∷◌, ◌++◌, length, Option, Some, None, arith}
use Rattle.std.proofs.Common.{length-append}
use Rattle.std.proofs.lemmas.Bool.{and_parts}
use Rattle.std.proofs.lemmas.Bool.Decides.{nat_tests}
use Rattle.arrayvec.specs.ArrayVec.{ArrayVec}
use Rattle.lin_report.specs.declared.calls.Op.{Op}
use Rattle.step_memory.specs.declared.steps.Seen.{Seen}
use Rattle.word_fields.specs.declared.records.RecordPhase as marks
use Rattle.word_fields.specs.declared.records.RecordPhase.TheVariants as record_phases
use Rattle.word_fields.specs.Announced.{value_number}
use Rattle.word_fields.specs.Records.{record_number, record_phase}
use Rattle.normal_traits.specs.declared.form.Found.{Found}
use Rattle.normal_traits.specs.declared.form.Found.TheVariants as found
use Rattle.normal_traits.specs.declared.form.Wrapped.{Wrapped}
use Rattle.normal_traits.specs.declared.form.Wrapped.TheVariants as wrapped
use Rattle.normal_traits.specs.declared.lists.Entry.{Entry}
use Rattle.normal_traits.specs.World.{World}
use Rattle.normal_traits.specs.NormalForm.{NormalForm}
use Rattle.cas_executor.specs.declared.block_read.ReadStep.{ReadStep}
use Rattle.cas_executor.specs.declared.block_read.ReadStep.TheVariants as reading
use Rattle.cas_executor.specs.declared.fast_run.Execution.{Execution}
use Rattle.cas_executor.specs.declared.fast_run.Execution.TheVariants as execution
use Rattle.cas_executor.specs.BlockReads.{IsInOrder, IsReading, ReadWalk, given_at, read_at, read_fed, read_result}
use Rattle.cas_executor.specs.SlowRuns.{SlowWalk, slow_execution, slow_fed}
use Rattle.fast_slow_engine.specs.declared.phases.Generating.TheVariants.{Search, LookForBlock, Claim}
use Rattle.fast_slow_engine.specs.declared.help.Work.{Work}
use Rattle.fast_slow_engine.specs.declared.help.Work.TheVariants as work
use Rattle.fast_slow_engine.specs.declared.help.WorkTurn.TheVariants.{Going}
use Rattle.fast_slow_engine.specs.Hands.{holds_none}
use Rattle.fast_slow_engine.specs.HelpTable.{CanWork, executed_work, filling, first_work, found_work, read_work, work_fed, work_turn, wrapped_work}
use Rattle.fast_slow_engine.specs.HelpWords.{announced_op, is_executing, named_block}
use Rattle.offered_blocks.specs.Blocks.{Offer}
use Rattle.offered_blocks.specs.Holds.{HasOffers}
use Rattle.helper_knowledge.specs.Callers.{Caller}
use Rattle.helper_knowledge.specs.Carried.{Carried}
use Rattle.helper_knowledge.specs.WorkKnown.{KnowsWork, NamedBy}
use Rattle.step_knowledge.proofs.Goes.Tests.{goes_if}

-- ---- reads

count_some : (b : Bool) → (0 < (if b then 2 else 1)) × ((if b then 2 else 1) ≤ 2)
count_some true = (omega arith, omega arith)
count_some false = (omega arith, omega arith)

last_not : (b : Bool) (given : ℕ × ℕ × ArrayVec Entry) → (if b then Some given else None) ≡ None → b ≡ false
last_not true given e = absurd cc
last_not false given e = refl

-- a read that goes on has words to load
read_on : (step : ReadStep) (walk : ReadWalk) (word : ℕ) → walk.block < 2 ^ 17 → length walk.entries < walk.count → walk.count ≤ 2 → IsInOrder step (length walk.entries) → given_at step walk word ≡ None → IsReading (read_at step walk word)
read_on reading.Op walk word small left short order going = record { small = small; left = left; short = short; in_order = order }
read_on reading.Value walk word small left short order going = record { small = small; left = left; short = short; in_order = order }
read_on reading.Length walk word small left short order going =
    (let some = count_some (word == 2) in record { small = small; left = omega (arith, order, some.0); short = some.1; in_order = tt })
read_on reading.Target walk word small left short order going = record { small = small; left = left; short = short; in_order = tt }
read_on reading.From walk word small left short order going = record { small = small; left = left; short = short; in_order = tt }
read_on reading.To walk word small left short order going =
    let test = last_not (length walk.entries + 1 == walk.count) _ going in
    let more : length walk.entries + 1 < walk.count = grind (arith, nat_tests, test, left) in
    let entry : Entry = record { target = walk.target; from = walk.from; to = word } in
    let long : length (walk.entries ++ (entry ∷ [])) ≡ length walk.entries + 1 = simp length-append in
    record { small = small; left = subst (λ n. n < walk.count) (sym long) more; short = short; in_order = tt }

module _ {S W : Type 0} (form : NormalForm S W) where
  -- what a work needs that its helper doesn't know of the world
  abbrev pub CanStill : Work S W → Type 0
  CanStill (work.Generate op s at) = IsTrue (form.object.serves op)
  CanStill (work.Fill stores made) = made < length stores.items
  CanStill (work.Read read) = IsReading read
  CanStill _ = Unit {0}

  module _ (world : World) (offers : ℕ → Option (Offer S)) (holds : HasOffers form world offers) (caller : Caller) (head word : ℕ) (hand : Option ℕ) (own : Carried S) where
    -- with what it knows it can be done
    pub can_work : (does : Work S W) → CanStill does → KnowsWork form world offers caller head word hand own does → CanWork form does
    can_work work.Head still knows = tt
    can_work work.Op still knows = tt
    can_work (work.Value op) still knows = tt
    can_work (work.Generate op s Search) still knows = (still, knows.2)
    can_work (work.Generate op s LookForBlock) still knows = (still, knows.2)
    can_work (work.Generate op s Claim) still knows = (still, knows.2)
    can_work (work.Fill stores made) still knows = still
    can_work (work.Advance to) still knows = tt
    can_work (work.Read read) still knows = still
    can_work (work.Execute run) still knows =
        let offer = knows.1.0 in
        let known = knows.1.2 in
        let mine = holds.blocks.offered (named_block word) offer knows.1.1.stands in
        let long : length run.entries ≡ length offer.list.entries = ap length known.entries in
        record {
          small = subst (λ b. b < 2 ^ 17) (sym known.block) mine.offered.small;
          at_entry = (let within = known.within in omega (arith, within, long));
          short = (let few = mine.site.short in omega (arith, few, long));
        }
    can_work (work.Wrap wrap) still knows = knows.1.3

    -- a block that is named is one of the arena
    read_new_on : named_block word < 2 ^ 17 → CanStill (work.Read (record { block = named_block word; op = 0; value = 0; count = 1; entries = []; target = 0; from = 0; step = reading.Op }))
    read_new_on small = record { small = small; left = omega arith; short = omega arith; in_order = refl }

    named_small : (offer : Offer S) → offers (named_block word) ≡ Some offer → named_block word < 2 ^ 17
    named_small offer stands =
        (let mine = holds.blocks.offered (named_block word) offer stands in subst (λ b. b < 2 ^ 17) mine.block_is mine.offered.small)

    first_still : (at : marks.RecordPhase) → NamedBy form world offers at head word → CanStill (first_work form at word)
    first_still record_phases.Executing named = read_new_on (named_small named.0 named.1.stands)
    first_still record_phases.Wrapping named = read_new_on (named_small named.0 named.1.stands)
    first_still record_phases.Idle named = tt
    first_still record_phases.Generate named = tt
    first_still record_phases.Completed named = tt

  -- ---- each work

  module _ (head word : ℕ) (hand : Option ℕ) (cap : ℕ) (seen : Seen) where
    fill_some : (op : Op) (s : S) (block : Option ℕ) → CanStill (filling form op s head word block)
    fill_some op s block = omega arith

    readied : (b : Bool) (op : Op) (s : S) → IsTrue (form.object.serves op) → CanStill (if b then work.Generate op s LookForBlock else filling form op s head word hand)
    readied true op s can = can
    readied false op s can = fill_some op s hand

    found_still : (what : Found) (op : Op) (s : S) → IsTrue (form.object.serves op) → CanStill (found_work form what op s head word hand)
    found_still found.Going op s can = can
    found_still found.Ready op s can = readied (holds_none hand) op s can
    found_still (found.Answer outcome) op s can = tt
    found_still found.Contended op s can = can

    looked_still : (b : Bool) (op : Op) (s : S) (to : ℕ) → IsTrue (form.object.serves op) → CanStill (if b then work.Generate op s Claim else work.Advance to)
    looked_still true op s to can = can
    looked_still false op s to can = tt

    claimed_still : (b : Bool) (op : Op) (s : S) (to : ℕ) → CanStill (if b then filling form op s head word (Some (seen.before + 1)) else work.Advance to)
    claimed_still true op s to = fill_some op s (Some (seen.before + 1))
    claimed_still false op s to = tt

    filled_still : (b : Bool) (stores : ArrayVec (ℕ × ℕ)) (made to : ℕ) → made + 1 == length stores.items ≡ b → made < length stores.items → CanStill (if b then work.Advance to else work.Fill stores (made + 1))
    filled_still true stores made to is can = tt
    filled_still false stores made to is can = grind (arith, nat_tests, is, can)

    wrapped_still : (what : Wrapped) (wrap : W) → CanStill (wrapped_work what wrap word)
    wrapped_still wrapped.Going wrap = tt
    wrapped_still (wrapped.Done outcome) wrap = tt
    wrapped_still wrapped.Restart wrap = tt

    given_still : (b : Bool) (run : SlowWalk) (what : Wrapped) (wrap : W) → CanStill (if b then work.Execute run else wrapped_work what wrap word)
    given_still true run what wrap = tt
    given_still false run what wrap = wrapped_still what wrap

    read_still : (read : ReadWalk) (given : Option (ℕ × ℕ × ArrayVec Entry)) → (given ≡ None → IsReading read) → CanStill (read_work form read given word)
    read_still read None on = on refl
    read_still read (Some given) on = given_still (is_executing (record_phase word)) _ _ _

    executed_still : (ends : Execution) (run : SlowWalk) → CanStill (executed_work ends run word)
    executed_still execution.Running run = tt
    executed_still (execution.Stopped stop) run = tt

    -- after a step that goes on
    pub still_can : (world : World) (offers : ℕ → Option (Offer S)) → HasOffers form world offers → (caller : Caller) (own : Carried S) (does : Work S W) → CanWork form does → work_turn form does head word seen ≡ Going
        → KnowsWork form world offers caller head word hand own does → CanStill (work_fed form does head word hand cap seen)
    still_can world offers holds caller own work.Head can going knows = first_still world offers holds caller head word hand own (record_phase word) knows
    still_can world offers holds caller own work.Op can going knows = tt
    still_can world offers holds caller own (work.Value op) can going knows =
        (and_parts (value_number seen.before == record_number word) (form.object.serves (announced_op op seen.before)) (goes_if form _ going)).1
    still_can world offers holds caller own (work.Generate op s Search) can going knows = found_still (form.found_of s seen) op (form.feed_of s seen) can.0
    still_can world offers holds caller own (work.Generate op s LookForBlock) can going knows = looked_still (nat_lt seen.before cap) op s _ can.0
    still_can world offers holds caller own (work.Generate op s Claim) can going knows = claimed_still (nat_lt seen.before cap) op s _
    still_can world offers holds caller own (work.Fill stores made) can going knows = filled_still (made + 1 == length stores.items) stores made _ refl can
    still_can world offers holds caller own (work.Advance to) can going knows = tt
    still_can world offers holds caller own (work.Read read) can going knows =
        read_still (read_fed read seen) (read_result read seen) (λ on. read_on read.step read seen.before can.small can.left can.short can.in_order on)
    still_can world offers holds caller own (work.Execute run) can going knows = executed_still (slow_execution run seen) (slow_fed run seen)
    still_can world offers holds caller own (work.Wrap wrap) can going knows = wrapped_still (form.wrap_found_of wrap seen) (form.feed_wrap_of wrap seen)
