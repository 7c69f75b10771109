-- The phase table: the next request of a machine, and what it becomes by what the request saw.
use Rattle.std.specs.Prelude.{ℕ, ◌+◌, ◌%◌, ◌^◌, ◌==◌, ◌&&◌, nat_lt, min, if◌then◌else◌, Bool, true, false, List, [], length, slice_get, Option, Some, None}
use Rattle.lin_report.specs.declared.calls.Op.{Op}
use Rattle.lin_report.specs.declared.calls.Outcome.{Outcome}
use Rattle.lin_report.specs.declared.calls.Outcome.TheVariants.{Plain, ValueOf}
use Rattle.lin_report.specs.declared.calls.Reply.{Reply}
use Rattle.lin_report.specs.declared.calls.Reply.TheVariants as reply
use Rattle.lin_report.specs.declared.calls.Receipt.{Receipt}
use Rattle.lin_report.specs.declared.calls.PendingCall.{PendingCall}
use Rattle.lin_report.specs.declared.calls.Path.TheVariants.{Fast, Slow}
use Rattle.lin_report.specs.declared.events.Event.{Event}
use Rattle.lin_report.specs.declared.events.EventKind.{EventKind}
use Rattle.lin_report.specs.declared.events.EventKind.TheVariants as kind
use Rattle.step_memory.specs.declared.steps.Request.{Request}
use Rattle.step_memory.specs.declared.steps.Request.TheVariants.{Load, Store, Add}
use Rattle.step_memory.specs.declared.steps.Seen.{Seen}
use Rattle.word_fields.specs.Announced.{op_word, value_word}
use Rattle.node_arena.specs.declared.places.TheConstants.{TICKS, QUEUE, CLAIMS, NODE_VALUE}
use Rattle.word_fields.specs.declared.records.RecordPhase.TheVariants as record_phase
use Rattle.word_fields.specs.Records.{record_word}
use Rattle.node_arena.specs.MemoryMap.{node_place, op_place, value_place, record_place}
use Rattle.help_queue.specs.declared.enter.Entering.{Entering}
use Rattle.help_queue.specs.declared.enter.Entering.TheVariants as entering_to
use Rattle.help_queue.specs.Gathers.{holds}
use Rattle.help_queue.specs.Enters.{Owner, enter_new, enter_request, enter_fed, entering, outcome_or_done}
use Rattle.arrayvec.specs.ArrayVec.{ArrayVec}
use Rattle.normal_traits.specs.declared.lists.Entry.{Entry}
use Rattle.normal_traits.specs.declared.form.Found.{Found}
use Rattle.normal_traits.specs.declared.form.Found.TheVariants as found
use Rattle.normal_traits.specs.declared.form.Wrapped.{Wrapped}
use Rattle.normal_traits.specs.declared.form.Wrapped.TheVariants as wrapped
use Rattle.normal_traits.specs.NormalForm.{NormalForm}
use Rattle.cas_executor.specs.declared.fast_run.Execution.{Execution}
use Rattle.cas_executor.specs.declared.fast_run.Execution.TheVariants.{Running, Stopped}
use Rattle.cas_executor.specs.FastRuns.{FastWalk, fast_request, fast_execution, fast_fed}
use Rattle.fast_slow_engine.specs.declared.phases.Phase.{Phase}
use Rattle.fast_slow_engine.specs.declared.phases.Phase.TheVariants.{Idle, Begin, Look, Generate, Apply, Wrap, Announce, Enter, Drive, Help, Collect, Value, End}
use Rattle.fast_slow_engine.specs.declared.phases.Announcing.{Announcing}
use Rattle.fast_slow_engine.specs.declared.phases.Announcing.TheVariants as announcing
use Rattle.fast_slow_engine.specs.declared.help.Help as helper
use Rattle.fast_slow_engine.specs.declared.help.Helping.TheVariants as helping
use Rattle.help_queue.specs.Heads.{head_of}
use Rattle.fast_slow_engine.specs.HelpTable.{help_request, help_fed, helping_hand, helping_ends, helps_listed}
use Rattle.fast_slow_engine.specs.declared.phases.Generating.{Generating}
use Rattle.fast_slow_engine.specs.declared.phases.Generating.TheVariants.{Search, LookForBlock, Claim}
use Rattle.fast_slow_engine.specs.declared.phases.Applying.{Applying}
use Rattle.fast_slow_engine.specs.declared.phases.Applying.TheVariants.{Fill, Execute}
use Rattle.fast_slow_engine.specs.declared.setup.Setup.{Setup}
use Rattle.fast_slow_engine.specs.declared.setup.Turn.{Turn}
use Rattle.fast_slow_engine.specs.declared.setup.Turn.TheVariants.{Going, Returned}
use Rattle.fast_slow_engine.specs.Hands.{block_of, holds_none}
use Rattle.fast_slow_engine.specs.OfferStores.{own_stores, stored_by}
use Rattle.fast_slow_engine.specs.Mechs.{Mech}

-- changes of one part of a machine
abbrev pub in_phase : {S W : Type 0} → Phase S W → Mech S W → Mech S W
in_phase phase mech = record mech { phase = phase }

abbrev pub with_hand : {S W : Type 0} → Option ℕ → Mech S W → Mech S W
with_hand hand mech = record mech { hand = hand }

-- the line of a call that ends at this tick
abbrev pub receipt_of : {S W : Type 0} → Mech S W → Reply → ℕ → Receipt
receipt_of mech reply end = record { seat = mech.seat; number = mech.number; op = mech.op; reply = reply; begin = mech.begin; end = end; path = mech.path }

-- an outcome is told: a reply as it is, a value by the load of its node; references are below 2^20
abbrev pub told : {S W : Type 0} → Outcome → Mech S W → Mech S W
told (Plain reply) mech = in_phase (End reply) mech
told (ValueOf reference) mech = in_phase (Value (reference % 2 ^ 20)) mech

-- a word of the announcement was stored; the call is on the slow path from the store of its record on
abbrev pub announced : {S W : Type 0} → Announcing → Mech S W → Mech S W
announced announcing.Value mech = in_phase (Announce announcing.Op) mech
announced announcing.Op mech = in_phase (Announce announcing.Record) mech
announced announcing.Record mech = in_phase (Enter (enter_new mech.seat mech.setup.seats)) (record mech { path = Slow })

abbrev pub entered : {S W : Type 0} → Entering → Owner → Mech S W → Mech S W
entered entering_to.Running owner mech = in_phase (Enter owner) mech
entered entering_to.Entered owner mech = in_phase Drive mech
entered (entering_to.Finished outcome) owner mech = told outcome mech

-- the stores that announce a call
abbrev pub announce_request : {S W : Type 0} → Announcing → Mech S W → Request
announce_request announcing.Value mech = Store (value_place mech.seat) (value_word mech.number mech.op.value)
announce_request announcing.Op mech = Store (op_place mech.seat) (op_word mech.op.code mech.number mech.op.key)
announce_request announcing.Record mech = Store (record_place mech.seat) (record_word record_phase.Generate mech.number 0 0)

-- whether the call tries once more on its own: below its limit of failures
abbrev pub may_search : {S W : Type 0} → Mech S W → Bool
may_search mech = nat_lt mech.failures mech.setup.limit

-- the stores of a list that the seat executes itself; an operation that needs no block makes none
abbrev pub stores_for : {S W : Type 0} → Bool → List (ℕ × ℕ) → Mech S W → List (ℕ × ℕ)
stores_for needs stores mech = if needs then own_stores (block_of mech.hand) mech.seat mech.number mech.op stores else []

module _ {S W : Type 0} (form : NormalForm S W) where
  -- a new search begins; a call at its limit of failures is announced
  abbrev pub tried : Mech S W → Mech S W
  tried mech = if may_search mech then in_phase (Generate (form.begin_of mech.op) Search) mech else in_phase (Announce announcing.Value) mech

  -- a failure is counted, up to the limit, and a new search begins
  abbrev pub failed : Mech S W → Mech S W
  failed mech = tried (record mech { failures = min (mech.failures + 1) mech.setup.limit })

  -- the search names its list, with the block in hand where the operation needs one, which is filled first
  abbrev pub offered : S → Mech S W → Mech S W
  offered search mech =
      let offer = form.offer_of search mech.op (if form.needs_block mech.op then block_of mech.hand else 0) in
      in_phase (Apply (record { entries = offer.entries; next = 0 }) (record { items = stores_for (form.needs_block mech.op) offer.stores mech }) (if form.needs_block mech.op then Fill 0 else Execute)) mech

  -- the same for the search of a phase
  abbrev pub offered_in : Phase S W → Mech S W → Mech S W
  offered_in (Generate search at) mech = offered search mech
  offered_in _ mech = mech

  -- a search is ready: it claims a block where one is needed and none is in hand
  abbrev pub readied : S → Mech S W → Mech S W
  readied search mech =
      if form.needs_block mech.op && holds_none mech.hand then in_phase (Generate search LookForBlock) mech
      else offered search mech

  -- the same for the search of a phase
  abbrev pub readied_in : Phase S W → Mech S W → Mech S W
  readied_in (Generate search at) mech = readied search mech
  readied_in _ mech = mech

  -- what a step of a search found
  abbrev pub searched : Found → S → Mech S W → Mech S W
  searched found.Going search mech = in_phase (Generate search Search) mech
  searched found.Ready search mech = readied search mech
  searched (found.Answer outcome) search mech = told outcome mech
  searched found.Contended search mech = failed mech

  -- what has come of a wrap-up
  abbrev pub wrapped_up : Wrapped → W → Mech S W → Mech S W
  wrapped_up wrapped.Going wrap mech = in_phase (Wrap wrap) mech
  wrapped_up (wrapped.Done outcome) wrap mech = told outcome mech
  wrapped_up wrapped.Restart wrap mech = failed mech

  -- where an entry of the list took effect, the block that it uses is no longer in hand
  abbrev pub spent : ℕ → Mech S W → Mech S W
  spent stop mech = if nat_lt 0 stop && form.needs_block mech.op then with_hand None mech else mech

  -- the list stopped, and its wrap-up begins
  abbrev pub stopped : List Entry → ℕ → Mech S W → Mech S W
  stopped entries stop mech =
      wrapped_up (form.wrap_begun_of mech.op entries stop) (form.begin_wrap_of mech.op entries stop)
      (spent stop mech)

  -- what has come of an exchange of the list
  abbrev pub executed : Execution → FastWalk → ArrayVec (ℕ × ℕ) → Mech S W → Mech S W
  executed Running run stores mech = in_phase (Apply run stores Execute) mech
  executed (Stopped stop) run stores mech = stopped run.entries stop mech

  -- each phase's step, by what it saw
  abbrev pub generated : S → Generating → Seen → Mech S W → Mech S W
  generated search Search seen mech = searched (form.found_of search seen) (form.feed_of search seen) mech
  generated search LookForBlock seen mech =
      if nat_lt seen.before mech.setup.cap then in_phase (Generate search Claim) mech else in_phase (End reply.Exhausted) mech
  generated search Claim seen mech =
      if nat_lt seen.before mech.setup.cap then offered search (with_hand (Some (seen.before + 1)) mech)
      else in_phase (End reply.Exhausted) mech

  abbrev pub applied : FastWalk → ArrayVec (ℕ × ℕ) → Applying → Seen → Mech S W → Mech S W
  applied run stores (Fill made) seen mech =
      in_phase (Apply run stores (if made + 1 == length stores.items then Execute else Fill (made + 1))) mech
  applied run stores Execute seen mech = executed (fast_execution run seen) (fast_fed run seen) stores mech

  -- ---- publishing and helping

  -- what follows when helping ends: the drive of a published call, or a search
  abbrev pub helped : Bool → Mech S W → Mech S W
  helped drives mech = if drives then in_phase Drive mech else tried mech

  -- helping the head begins; where there is none among the seats, helping is over
  abbrev pub head_helped : Option ℕ → Bool → Mech S W → Mech S W
  head_helped None drives mech = helped drives mech
  head_helped (Some head) drives mech =
      if nat_lt head mech.setup.seats then in_phase (Help drives (record { head = head; seats = mech.setup.seats; at = helping.Record None })) mech else helped drives mech

  abbrev pub help_stepped : Bool → helper.Help S W → Seen → Mech S W → Mech S W
  help_stepped drives help seen mech =
      let after = with_hand (helping_hand help.at mech.hand mech.setup.cap seen) mech in
      if helping_ends form help.at help.head seen then helped drives after else in_phase (Help drives (help_fed form help mech.hand mech.setup.cap seen)) after

  abbrev pub driven : Seen → Mech S W → Mech S W
  driven seen mech = if holds seen.before mech.seat then head_helped (head_of seen.before) true mech else in_phase Collect mech

  abbrev pub stepped : Phase S W → Seen → Mech S W → Mech S W
  stepped Idle seen mech = mech
  stepped Begin seen mech = in_phase Look (record mech { begin = seen.before })
  stepped Look seen mech = head_helped (head_of seen.before) false mech
  stepped (Generate search at) seen mech = generated search at seen mech
  stepped (Apply run stores at) seen mech = applied run stores at seen mech
  stepped (Wrap wrap) seen mech = wrapped_up (form.wrap_found_of wrap seen) (form.feed_wrap_of wrap seen) mech
  stepped (Announce at) seen mech = announced at mech
  stepped (Enter owner) seen mech = entered (entering owner seen) (enter_fed owner seen) mech
  stepped Drive seen mech = driven seen mech
  stepped (Help drives help) seen mech = help_stepped drives help seen mech
  stepped Collect seen mech = told (outcome_or_done seen.before) mech
  stepped (Value reference) seen mech = in_phase (End (reply.Value (seen.before % 2 ^ 32))) mech
  stepped (End reply) seen mech = in_phase Idle mech

  -- what a machine becomes
  abbrev pub mech_fed : Mech S W → Seen → Mech S W
  mech_fed mech seen = stepped mech.phase seen mech

  abbrev pub request_in : Phase S W → Mech S W → Request
  request_in Idle mech = Load 0
  request_in Begin mech = Add TICKS 1
  request_in Look mech = Load QUEUE
  request_in (Generate search Search) mech = form.request_of search
  request_in (Generate search LookForBlock) mech = Load CLAIMS
  request_in (Generate search Claim) mech = Add CLAIMS 1
  request_in (Apply run stores (Fill made)) mech = stored_by (slice_get stores.items made)
  request_in (Apply run stores Execute) mech = fast_request run
  request_in (Wrap wrap) mech = form.wrap_request_of wrap
  request_in (Announce at) mech = announce_request at mech
  request_in (Enter owner) mech = enter_request owner
  request_in Drive mech = Load QUEUE
  request_in (Help drives help) mech = help_request form help
  request_in Collect mech = Load (record_place mech.seat)
  request_in (Value reference) mech = Load (node_place reference NODE_VALUE)
  request_in (End reply) mech = Add TICKS 1

  -- the next request of a machine
  abbrev pub mech_request : Mech S W → Request
  mech_request mech = request_in mech.phase mech

-- a store into the block was made
abbrev pub filled : {S W : Type 0} → Phase S W → Phase S W
filled (Apply run stores (Fill made)) = Apply run stores (if made + 1 == length stores.items then Execute else Fill (made + 1))
filled phase = phase

-- whether the machine has no call
abbrev pub rests : {S W : Type 0} → Phase S W → Bool
rests Idle = true
rests _ = false

-- whether the next step draws the end tick
abbrev pub ends : {S W : Type 0} → Phase S W → Bool
ends (End reply) = true
ends _ = false

-- whether the next request is the exchange of an entry of a list
abbrev pub lists : {S W : Type 0} → Phase S W → Bool
lists (Apply run stores Execute) = true
lists (Help drives help) = helps_listed help.at
lists _ = false

-- what the step comes to: it returns where it draws the end tick
abbrev pub turn_in : {S W : Type 0} → Phase S W → Seen → Mech S W → Turn
turn_in (End reply) seen mech = Returned (receipt_of mech reply seen.before)
turn_in _ seen mech = Going

abbrev pub mech_turn : {S W : Type 0} → Mech S W → Seen → Turn
mech_turn mech seen = turn_in mech.phase seen mech

-- a call that has begun
abbrev pub pending_call : {S W : Type 0} → Mech S W → PendingCall
pending_call mech = record { seat = mech.seat; number = mech.number; op = mech.op; begin = mech.begin; path = mech.path }

abbrev pub pending_in : {S W : Type 0} → Phase S W → Mech S W → Option PendingCall
pending_in Idle mech = None
pending_in Begin mech = None
pending_in _ mech = Some (pending_call mech)

-- the call that runs, once its begin tick is drawn
abbrev pub mech_pending : {S W : Type 0} → Mech S W → Option PendingCall
mech_pending mech = pending_in mech.phase mech

-- a new seat
abbrev pub mech_new : {S W : Type 0} → ℕ → Setup → Mech S W
mech_new seat setup = record { setup = setup; seat = seat; number = 0; op = record { code = 0; key = 0; value = 0 }; begin = 0; failures = 0; hand = None; path = Fast; phase = Idle }

-- the next call begins
abbrev pub mech_started : {S W : Type 0} → Op → Mech S W → Mech S W
mech_started op mech = record mech { number = mech.number + 1; op = op; failures = 0; path = Fast; phase = Begin }

abbrev pub event_of : {S W : Type 0} → EventKind → Mech S W → Event
event_of kind mech = record { kind = kind; seat = mech.seat; number = mech.number }

abbrev pub event_in : {S W : Type 0} → Phase S W → Mech S W → Option Event
event_in Begin mech = Some (event_of kind.Begin mech)
event_in (End reply) mech = Some (event_of kind.Return mech)
event_in _ mech = None

-- the event of the next step: a call begins where its begin tick is drawn, and returns where its end tick is
abbrev pub mech_event : {S W : Type 0} → Mech S W → Option Event
mech_event mech = event_in mech.phase mech

-- how many ticks a call has still to draw
abbrev pub ticks_left : {S W : Type 0} → Phase S W → ℕ
ticks_left Idle = 0
ticks_left Begin = 2
ticks_left _ = 1

-- how many lines: one for a call that runs
abbrev pub lines_left : {S W : Type 0} → Phase S W → ℕ
lines_left phase = if rests phase then 0 else 1
