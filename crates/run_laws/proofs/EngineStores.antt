-- In every run the first stores of an offer are the engine's.
use Rattle.std.proofs.Common.{◌≡◌, refl, subst, sym, ℕ, ◌+◌, ◌==◌, ◌&&◌, nat_lt, min, Bool, true, false, if◌then◌else◌, List, [], ◌∷◌, length, slice_get, Option, Some, None}
use Rattle.lin_report.specs.declared.calls.Op.{Op}
use Rattle.lin_report.specs.declared.calls.Outcome.{Outcome}
use Rattle.lin_report.specs.declared.calls.Outcome.TheVariants.{Plain, ValueOf}
use Rattle.lin_report.specs.declared.calls.Reply.TheVariants as reply
use Rattle.step_memory.specs.declared.steps.Seen.{Seen}
use Rattle.step_memory.specs.Step.{seen_of}
use Rattle.word_fields.specs.declared.records.RecordPhase.{RecordPhase}
use Rattle.word_fields.specs.declared.records.RecordPhase.TheVariants as marks
use Rattle.word_fields.specs.Records.{record_number, record_phase}
use Rattle.arrayvec.specs.ArrayVec.{ArrayVec}
use Rattle.normal_traits.specs.declared.lists.Entry.{Entry}
use Rattle.normal_traits.specs.declared.form.Found.{Found}
use Rattle.normal_traits.specs.declared.form.Found.TheVariants as found
use Rattle.normal_traits.specs.declared.form.Wrapped.{Wrapped}
use Rattle.normal_traits.specs.declared.form.Wrapped.TheVariants as wrapped
use Rattle.normal_traits.specs.NormalForm.{NormalForm}
use Rattle.cas_executor.specs.declared.fast_run.Execution.{Execution}
use Rattle.cas_executor.specs.declared.fast_run.Execution.TheVariants as execution
use Rattle.cas_executor.specs.FastRuns.{FastWalk, fast_execution, fast_fed}
use Rattle.cas_executor.specs.SlowRuns.{SlowWalk, slow_execution, slow_fed}
use Rattle.cas_executor.specs.BlockReads.{ReadWalk, read_fed, read_result}
use Rattle.help_queue.specs.declared.enter.Entering.{Entering}
use Rattle.help_queue.specs.declared.enter.Entering.TheVariants as entering_to
use Rattle.help_queue.specs.Enters.{Owner, enter_fed, entering, outcome_or_done}
use Rattle.help_queue.specs.Gathers.{holds, is_open}
use Rattle.help_queue.specs.Heads.{head_of}
use Rattle.help_queue.specs.Removes.{remove_new}
use Rattle.fast_slow_engine.specs.declared.phases.Phase.{Phase}
use Rattle.fast_slow_engine.specs.declared.phases.Phase.TheVariants.{Idle, Begin, Look, Generate, Apply, Wrap, Announce, Enter, Drive, Help, Collect, Value, End}
use Rattle.fast_slow_engine.specs.declared.phases.Generating.{Generating}
use Rattle.fast_slow_engine.specs.declared.phases.Generating.TheVariants.{Search, LookForBlock, Claim}
use Rattle.fast_slow_engine.specs.declared.phases.Applying.{Applying}
use Rattle.fast_slow_engine.specs.declared.phases.Applying.TheVariants.{Fill, Execute}
use Rattle.fast_slow_engine.specs.declared.phases.Announcing.{Announcing}
use Rattle.fast_slow_engine.specs.declared.phases.Announcing.TheVariants as announcing
use Rattle.fast_slow_engine.specs.declared.help.Help as helper
use Rattle.fast_slow_engine.specs.declared.help.Helping.{Helping}
use Rattle.fast_slow_engine.specs.declared.help.Helping.TheVariants as helping
use Rattle.fast_slow_engine.specs.declared.help.Work.{Work}
use Rattle.fast_slow_engine.specs.declared.help.Work.TheVariants as work
use Rattle.fast_slow_engine.specs.declared.help.WorkTurn.{WorkTurn}
use Rattle.fast_slow_engine.specs.declared.help.WorkTurn.TheVariants.{Going, Again, Over}
use Rattle.fast_slow_engine.specs.declared.setup.Setup.{Setup}
use Rattle.fast_slow_engine.specs.Hands.{block_of, holds_none}
use Rattle.fast_slow_engine.specs.HelpWords.{executing_word, is_executing, told_word}
use Rattle.fast_slow_engine.specs.HelpTable.{executed_work, filling, first_work, found_work, help_fed, helping_ends, helping_fed, helping_hand, read_work, work_fed, work_turn, worked, wrapped_work, wrapping_up}
use Rattle.fast_slow_engine.specs.Mechs.{Mech}
use Rattle.fast_slow_engine.specs.PhaseTable.{announced, applied, driven, entered, executed, generated, head_helped, help_stepped, helped, in_phase, may_search, mech_fed, mech_request, offered, searched, spent, stepped, stores_for, told, tried, with_hand, wrapped_up}
use Rattle.fast_slow_engine.specs.Runs.{Move, RunState, begun, moved_by, run_of}
use Rattle.run_laws.specs.Seats.{EachMech}
use Rattle.run_laws.proofs.Steps.{each_set}
use Rattle.run_laws.proofs.MachinesKept.{new_mech}
use Rattle.run_laws.proofs.StorePlaces.{AreBehind, NotesBehind, notes_behind, own_behind}

module _ {S W : Type 0} where
  -- the first stores of an offer that is filled are the engine's
  abbrev pub WorkStores : Work S W → Type 0
  WorkStores (work.Fill stores made) = NotesBehind stores.items
  WorkStores _ = Unit {0}

  abbrev pub HelpStores : Helping S W → Type 0
  HelpStores (helping.Known word does) = WorkStores does
  HelpStores _ = Unit {0}

  abbrev pub PhaseStores : Phase S W → Type 0
  PhaseStores (Apply run stores (Fill made)) = AreBehind 3 stores.items
  PhaseStores (Help drives help) = HelpStores help.at
  PhaseStores _ = Unit {0}

  either : (b : Bool) (x y : Mech S W) → PhaseStores x.phase → PhaseStores y.phase → PhaseStores (if b then x else y).phase
  either true x y h k = h
  either false x y h k = k

  either_work : (b : Bool) (x y : Work S W) → WorkStores x → WorkStores y → WorkStores (if b then x else y)
  either_work true x y h k = h
  either_work false x y h k = k

  either_help : (b : Bool) (x y : Helping S W) → HelpStores x → HelpStores y → HelpStores (if b then x else y)
  either_help true x y h k = h
  either_help false x y h k = k

  told_stores : (outcome : Outcome) (mech : Mech S W) → PhaseStores (told outcome mech).phase
  told_stores (Plain reply) mech = tt
  told_stores (ValueOf reference) mech = tt

  announced_stores : (at : Announcing) (mech : Mech S W) → PhaseStores (announced at mech).phase
  announced_stores announcing.Value mech = tt
  announced_stores announcing.Op mech = tt
  announced_stores announcing.Record mech = tt

  entered_stores : (what : Entering) (owner : Owner) (mech : Mech S W) → PhaseStores (entered what owner mech).phase
  entered_stores entering_to.Running owner mech = tt
  entered_stores entering_to.Entered owner mech = tt
  entered_stores (entering_to.Finished outcome) owner mech = told_stores outcome mech

  -- a list of a seat's own is filled where its operation needs a block
  own_stores_if : (b : Bool) (run : FastWalk) (stores : List (ℕ × ℕ)) (mech : Mech S W) → PhaseStores (Apply run (record { items = stores_for b stores mech }) (if b then Fill 0 else Execute))
  own_stores_if true run stores mech = own_behind (block_of mech.hand) mech.seat mech.number mech.op stores
  own_stores_if false run stores mech = tt

  module _ (form : NormalForm S W) where
    tried_stores : (mech : Mech S W) → PhaseStores (tried form mech).phase
    tried_stores mech = either (may_search mech) (in_phase (Generate (form.begin_of mech.op) Search) mech) (in_phase (Announce announcing.Value) mech) tt tt

    failed_stores : (mech : Mech S W) → PhaseStores (tried form (record mech { failures = min (mech.failures + 1) mech.setup.limit })).phase
    failed_stores mech = tried_stores (record mech { failures = min (mech.failures + 1) mech.setup.limit })

    helped_stores : (drives : Bool) (mech : Mech S W) → PhaseStores (helped form drives mech).phase
    helped_stores true mech = tt
    helped_stores false mech = tried_stores mech

    head_stores : (head : Option ℕ) (drives : Bool) (mech : Mech S W) → PhaseStores (head_helped form head drives mech).phase
    head_stores None drives mech = helped_stores drives mech
    head_stores (Some head) drives mech =
        either (nat_lt head mech.setup.seats) (in_phase (Help drives (record { head = head; seats = mech.setup.seats; at = helping.Record None })) mech) (helped form drives mech) tt (helped_stores drives mech)

    driven_stores : (seen : Seen) (mech : Mech S W) → PhaseStores (driven form seen mech).phase
    driven_stores seen mech = either (holds seen.before mech.seat) (head_helped form (head_of seen.before) true mech) (in_phase Collect mech) (head_stores (head_of seen.before) true mech) tt

    offered_stores : (s : S) (mech : Mech S W) → PhaseStores (offered form s mech).phase
    offered_stores s mech =
        let offer = form.offer_of s mech.op (if form.needs_block mech.op then block_of mech.hand else 0) in
        own_stores_if (form.needs_block mech.op) (record { entries = offer.entries; next = 0 }) offer.stores mech

    searched_stores : (what : Found) (s : S) (mech : Mech S W) → PhaseStores (searched form what s mech).phase
    searched_stores found.Going s mech = tt
    searched_stores found.Ready s mech = either (form.needs_block mech.op && holds_none mech.hand) (in_phase (Generate s LookForBlock) mech) (offered form s mech) tt (offered_stores s mech)
    searched_stores (found.Answer outcome) s mech = told_stores outcome mech
    searched_stores found.Contended s mech = failed_stores mech

    wrapped_stores : (what : Wrapped) (w : W) (mech : Mech S W) → PhaseStores (wrapped_up form what w mech).phase
    wrapped_stores wrapped.Going w mech = tt
    wrapped_stores (wrapped.Done outcome) w mech = told_stores outcome mech
    wrapped_stores wrapped.Restart w mech = failed_stores mech

    executed_stores : (what : Execution) (run : FastWalk) (stores : ArrayVec (ℕ × ℕ)) (mech : Mech S W) → PhaseStores (executed form what run stores mech).phase
    executed_stores execution.Running run stores mech = tt
    executed_stores (execution.Stopped stop) run stores mech = wrapped_stores (form.wrap_begun_of mech.op run.entries stop) (form.begin_wrap_of mech.op run.entries stop) (spent form stop mech)

    generated_stores : (s : S) (at : Generating) (seen : Seen) (mech : Mech S W) → PhaseStores (generated form s at seen mech).phase
    generated_stores s Search seen mech = searched_stores (form.found_of s seen) (form.feed_of s seen) mech
    generated_stores s LookForBlock seen mech = either (nat_lt seen.before mech.setup.cap) (in_phase (Generate s Claim) mech) (in_phase (End reply.Exhausted) mech) tt tt
    generated_stores s Claim seen mech =
        either (nat_lt seen.before mech.setup.cap) (offered form s (with_hand (Some (seen.before + 1)) mech)) (in_phase (End reply.Exhausted) mech) (offered_stores s (with_hand (Some (seen.before + 1)) mech)) tt

    filled_stores : (b : Bool) (run : FastWalk) (stores : ArrayVec (ℕ × ℕ)) (made : ℕ) → AreBehind 3 stores.items → PhaseStores (Apply run stores (if b then Execute else Fill made))
    filled_stores true run stores made behind = tt
    filled_stores false run stores made behind = behind

    applied_stores : (run : FastWalk) (stores : ArrayVec (ℕ × ℕ)) (at : Applying) (seen : Seen) (mech : Mech S W) → PhaseStores (Apply run stores at) → PhaseStores (applied form run stores at seen mech).phase
    applied_stores run stores (Fill made) seen mech behind = filled_stores (made + 1 == length stores.items) run stores (made + 1) behind
    applied_stores run stores Execute seen mech behind = executed_stores (fast_execution run seen) (fast_fed run seen) stores mech

    -- ---- a helper

    first_stores : (phase : RecordPhase) (word : ℕ) → WorkStores (first_work form phase word)
    first_stores marks.Idle word = tt
    first_stores marks.Generate word = tt
    first_stores marks.Executing word = tt
    first_stores marks.Wrapping word = tt
    first_stores marks.Completed word = tt

    filling_stores : (op : Op) (s : S) (head word : ℕ) (hand : Option ℕ) → WorkStores (filling form op s head word hand)
    filling_stores op s head word hand =
        let offer = form.offer_of s op (block_of hand) in
        notes_behind (block_of hand) head (record_number word) op offer.entries offer.stores

    found_stores : (what : Found) (op : Op) (s : S) (head word : ℕ) (hand : Option ℕ) → WorkStores (found_work form what op s head word hand)
    found_stores found.Going op s head word hand = tt
    found_stores found.Ready op s head word hand = either_work (holds_none hand) (work.Generate op s LookForBlock) (filling form op s head word hand) tt (filling_stores op s head word hand)
    found_stores (found.Answer outcome) op s head word hand = tt
    found_stores found.Contended op s head word hand = tt

    wrapped_work_stores : (what : Wrapped) (wrap : W) (word : ℕ) → WorkStores (wrapped_work what wrap word)
    wrapped_work_stores wrapped.Going wrap word = tt
    wrapped_work_stores (wrapped.Done outcome) wrap word = tt
    wrapped_work_stores wrapped.Restart wrap word = tt

    executed_work_stores : (what : Execution) (run : SlowWalk) (word : ℕ) → WorkStores (executed_work what run word)
    executed_work_stores execution.Running run word = tt
    executed_work_stores (execution.Stopped stop) run word = tt

    read_stores : (read : ReadWalk) (given : Option (ℕ × ℕ × ArrayVec Entry)) (word : ℕ) → WorkStores (read_work form read given word)
    read_stores read None word = tt
    read_stores read (Some given) word = either_work (is_executing (record_phase word)) _ (wrapping_up form _ given.2.items word) tt (wrapped_work_stores _ _ word)

    work_stores : (does : Work S W) (head word : ℕ) (hand : Option ℕ) (cap : ℕ) (seen : Seen) → WorkStores does → WorkStores (work_fed form does head word hand cap seen)
    work_stores work.Head head word hand cap seen on = first_stores (record_phase word) word
    work_stores work.Op head word hand cap seen on = tt
    work_stores (work.Value op) head word hand cap seen on = tt
    work_stores (work.Generate op s Search) head word hand cap seen on = found_stores (form.found_of s seen) op (form.feed_of s seen) head word hand
    work_stores (work.Generate op s LookForBlock) head word hand cap seen on = either_work (nat_lt seen.before cap) (work.Generate op s Claim) (work.Advance (told_word word (Plain reply.Exhausted))) tt tt
    work_stores (work.Generate op s Claim) head word hand cap seen on =
        either_work (nat_lt seen.before cap) (filling form op s head word (Some (seen.before + 1))) (work.Advance (told_word word (Plain reply.Exhausted))) (filling_stores op s head word (Some (seen.before + 1))) tt
    work_stores (work.Fill stores made) head word hand cap seen on = either_work (made + 1 == length stores.items) (work.Advance (executing_word word (block_of hand))) (work.Fill stores (made + 1)) tt on
    work_stores (work.Advance to) head word hand cap seen on = tt
    work_stores (work.Read read) head word hand cap seen on = read_stores (read_fed read seen) (read_result read seen) word
    work_stores (work.Execute run) head word hand cap seen on = executed_work_stores (slow_execution run seen) (slow_fed run seen) word
    work_stores (work.Wrap wrap) head word hand cap seen on = wrapped_work_stores (form.wrap_found_of wrap seen) (form.feed_wrap_of wrap seen) word

    worked_stores : (turn : WorkTurn) (word : ℕ) (does : Work S W) → WorkStores does → HelpStores (worked form turn word does)
    worked_stores Going word does on = on
    worked_stores Again word does on = tt
    worked_stores Over word does on = on

    helping_stores : (at : Helping S W) (head seats : ℕ) (hand : Option ℕ) (cap : ℕ) (seen : Seen) → HelpStores at → HelpStores (helping_fed form at head seats hand cap seen)
    helping_stores (helping.Record known) head seats hand cap seen on = either_help (is_open (record_phase seen.before)) (helping.Known seen.before work.Head) (helping.Remove (remove_new head (record_number seen.before) seats)) tt tt
    helping_stores (helping.Known word does) head seats hand cap seen on =
        worked_stores (work_turn form does head word seen) word (work_fed form does head word hand cap seen) (work_stores does head word hand cap seen on)
    helping_stores (helping.Remove removal) head seats hand cap seen on = tt

    help_stores : (drives : Bool) (help : helper.Help S W) (seen : Seen) (mech : Mech S W) → HelpStores help.at → PhaseStores (help_stepped form drives help seen mech).phase
    help_stores drives help seen mech on =
        let after = with_hand (helping_hand help.at mech.hand mech.setup.cap seen) mech in
        either (helping_ends form help.at help.head seen) (helped form drives after) (in_phase (Help drives (help_fed form help mech.hand mech.setup.cap seen)) after)
        (helped_stores drives after) (helping_stores help.at help.head help.seats mech.hand mech.setup.cap seen on)

    -- ---- every step, and every run

    stores_step : (phase : Phase S W) (seen : Seen) (mech : Mech S W) → PhaseStores mech.phase → PhaseStores phase → PhaseStores (stepped form phase seen mech).phase
    stores_step Idle seen mech own on = own
    stores_step Begin seen mech own on = tt
    stores_step Look seen mech own on = head_stores (head_of seen.before) false mech
    stores_step (Generate s at) seen mech own on = generated_stores s at seen mech
    stores_step (Apply run stores at) seen mech own on = applied_stores run stores at seen mech on
    stores_step (Wrap w) seen mech own on = wrapped_stores (form.wrap_found_of w seen) (form.feed_wrap_of w seen) mech
    stores_step (Announce at) seen mech own on = announced_stores at mech
    stores_step (Enter owner) seen mech own on = entered_stores (entering owner seen) (enter_fed owner seen) mech
    stores_step Drive seen mech own on = driven_stores seen mech
    stores_step (Help drives help) seen mech own on = help_stores drives help seen mech on
    stores_step Collect seen mech own on = told_stores (outcome_or_done seen.before) mech
    stores_step (Value reference) seen mech own on = tt
    stores_step (End reply) seen mech own on = tt

    -- a call that begins fills nothing
    pub begun_stores : (begins : Option Op) (mech : Mech S W) → PhaseStores mech.phase → PhaseStores (begun begins mech).phase
    begun_stores None mech on = on
    begun_stores (Some op) mech on = tt

    moved_stores : (state : RunState S W) (move : Move) (o : Option (Mech S W)) → slice_get state.mechs move.seat ≡ o → EachMech (λ seat mech. PhaseStores mech.phase) state.mechs → EachMech (λ seat mech. PhaseStores mech.phase) (moved_by form o move state).mechs
    moved_stores state move None at each = each
    moved_stores state move (Some old) at each =
        let mech = begun move.begins old in
        let on = begun_stores move.begins old (each move.seat old at) in
        let seen = seen_of (mech_request form mech) state.words in
        each_set (λ seat mech. PhaseStores mech.phase) (λ seat mech. PhaseStores mech.phase) state.mechs move.seat old (mech_fed form mech seen) at each (λ seat mech h. h) (stores_step mech.phase seen mech on on)

    pub stores_run : (setup : Setup) (moves : List Move) → EachMech (λ seat mech. PhaseStores mech.phase) (run_of form setup moves).mechs
    stores_run setup [] = λ seat mech at. subst (λ (m : Mech S W). PhaseStores m.phase) (sym (new_mech form setup seat mech at)) tt
    stores_run setup (move ∷ older) = moved_stores (run_of form setup older) move (slice_get (run_of form setup older).mechs move.seat) refl (stores_run setup older)
