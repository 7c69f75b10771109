-- The table of helping: the next request of a helper, and what it becomes by what the request saw.
use Rattle.std.specs.Prelude.{◌≡◌, ℕ, ◌+◌, ◌<◌, ◌≤◌, ◌==◌, ◌&&◌, not, nat_lt, IsTrue, if◌then◌else◌, Bool, true, false, List, length, slice_get, Option, Some, None}
use Rattle.lin_report.specs.declared.calls.Op.{Op}
use Rattle.lin_report.specs.declared.calls.Reply.TheVariants as reply
use Rattle.lin_report.specs.declared.calls.Outcome.TheVariants.{Plain}
use Rattle.step_memory.specs.declared.steps.Request.{Request}
use Rattle.step_memory.specs.declared.steps.Request.TheVariants.{Load, Exchange, Add}
use Rattle.step_memory.specs.declared.steps.Seen.{Seen}
use Rattle.word_fields.specs.declared.records.RecordPhase as marks
use Rattle.word_fields.specs.declared.records.RecordPhase.TheVariants as record_phases
use Rattle.word_fields.specs.Announced.{op_number, value_number}
use Rattle.word_fields.specs.Records.{record_phase, record_number, packed_record, record_of}
use Rattle.node_arena.specs.declared.places.TheConstants.{QUEUE, CLAIMS}
use Rattle.node_arena.specs.MemoryMap.{op_place, value_place, record_place}
use Rattle.arrayvec.specs.ArrayVec.{ArrayVec}
use Rattle.normal_traits.specs.declared.lists.Entry.{Entry}
use Rattle.normal_traits.specs.declared.form.Found.{Found}
use Rattle.normal_traits.specs.declared.form.Found.TheVariants as found
use Rattle.normal_traits.specs.declared.form.Wrapped.{Wrapped}
use Rattle.normal_traits.specs.declared.form.Wrapped.TheVariants as wrapped
use Rattle.normal_traits.specs.NormalForm.{NormalForm}
use Rattle.help_queue.specs.declared.remove.Removing.{Removing}
use Rattle.help_queue.specs.declared.remove.Removing.TheVariants as removing_to
use Rattle.help_queue.specs.Gathers.{leads}
use Rattle.help_queue.specs.Heads.{is_other, record_met}
use Rattle.help_queue.specs.Removes.{remove_request, remove_fed, removing}
use Rattle.cas_executor.specs.declared.fast_run.Execution.{Execution}
use Rattle.cas_executor.specs.declared.fast_run.Execution.TheVariants as execution
use Rattle.cas_executor.specs.declared.slow_run.SlowStep.TheVariants.{LoadState}
use Rattle.cas_executor.specs.SlowRuns.{SlowWalk, IsWalking, installs, slow_request, slow_execution, slow_fed}
use Rattle.cas_executor.specs.BlockReads.{ReadWalk, IsReading, read_new, read_request, read_result, read_fed}
use Rattle.fast_slow_engine.specs.declared.phases.Generating.{Generating}
use Rattle.fast_slow_engine.specs.declared.phases.Generating.TheVariants.{Search, LookForBlock, Claim}
use Rattle.fast_slow_engine.specs.declared.help.Help.{Help}
use Rattle.fast_slow_engine.specs.declared.help.Helping.{Helping}
use Rattle.fast_slow_engine.specs.declared.help.Helping.TheVariants.{Record, Known, Remove}
use Rattle.fast_slow_engine.specs.declared.help.Work.{Work}
use Rattle.fast_slow_engine.specs.declared.help.Work.TheVariants as work
use Rattle.fast_slow_engine.specs.declared.help.WorkTurn.{WorkTurn}
use Rattle.fast_slow_engine.specs.declared.help.WorkTurn.TheVariants.{Going, Again, Over}
use Rattle.fast_slow_engine.specs.Hands.{block_of, holds_none}
use Rattle.fast_slow_engine.specs.HelpWords.{again_word, announced_op, executing_word, is_executing, named_block, stop_of, told_word, wrapping_word}
use Rattle.fast_slow_engine.specs.OfferStores.{offer_stores, stored_by}

-- by what a wrap-up came to
abbrev pub wrapped_work : {S W : Type 0} → Wrapped → W → ℕ → Work S W
wrapped_work wrapped.Going wrap word = work.Wrap wrap
wrapped_work (wrapped.Done outcome) wrap word = work.Advance (told_word word outcome)
wrapped_work wrapped.Restart wrap word = work.Advance (again_word word)

-- by what an execution came to
abbrev pub executed_work : {S W : Type 0} → Execution → SlowWalk → ℕ → Work S W
executed_work execution.Running run word = work.Execute run
executed_work (execution.Stopped stop) run word = work.Advance (wrapping_word word stop)

-- ---- the hand

-- a claim puts a block into the hand; a won exchange to Executing takes it out
abbrev pub work_hand : {S W : Type 0} → Work S W → Option ℕ → ℕ → Seen → Option ℕ
work_hand (work.Generate op search Claim) hand cap seen = if nat_lt seen.before cap then Some (seen.before + 1) else hand
work_hand (work.Advance to) hand cap seen = if seen.won && is_executing (record_phase to) then None else hand
work_hand _ hand cap seen = hand

-- a record was loaded: an open one is worked on, the call of any other is removed
abbrev pub helping_met : {S W : Type 0} → ℕ → ℕ → ℕ → Helping S W
helping_met word head seats = record_met (λ opened. Known opened work.Head) (λ removal. Remove removal) word head seats

abbrev pub helping_hand : {S W : Type 0} → Helping S W → Option ℕ → ℕ → Seen → Option ℕ
helping_hand (Known word does) hand cap seen = work_hand does hand cap seen
helping_hand _ hand cap seen = hand

module _ {S W : Type 0} (form : NormalForm S W) where
  -- ---- requests

  abbrev pub generate_request : S → Generating → Request
  generate_request search Search = form.request_of search
  generate_request search LookForBlock = Load CLAIMS
  generate_request search Claim = Add CLAIMS 1

  abbrev pub work_request : Work S W → ℕ → ℕ → Request
  work_request work.Head head word = Load QUEUE
  work_request work.Op head word = Load (op_place head)
  work_request (work.Value op) head word = Load (value_place head)
  work_request (work.Generate op search at) head word = generate_request search at
  work_request (work.Fill stores made) head word = stored_by (slice_get stores.items made)
  work_request (work.Advance to) head word = Exchange (record_place head) (packed_record (record_of word)) to
  work_request (work.Read read) head word = read_request read
  work_request (work.Execute run) head word = slow_request run
  work_request (work.Wrap wrap) head word = form.wrap_request_of wrap

  abbrev pub helping_request : Helping S W → ℕ → Request
  helping_request (Record known) head = Load (record_place head)
  helping_request (Known word does) head = work_request does head word
  helping_request (Remove removal) head = remove_request removal

  abbrev pub help_request : Help S W → Request
  help_request help = helping_request help.at help.head

  -- ---- what the work becomes

  -- the block of a list is filled for the call
  abbrev pub filling : Op → S → ℕ → ℕ → Option ℕ → Work S W
  filling op search head word hand =
      let offer = form.offer_of search op (block_of hand) in
      work.Fill (record { items = offer_stores (block_of hand) head (record_number word) op offer.entries offer.stores }) 0

  -- the same for the search of a work
  abbrev pub filling_in : Work S W → ℕ → ℕ → Option ℕ → Work S W
  filling_in (work.Generate op search at) head word hand = filling op search head word hand
  filling_in other head word hand = other

  -- by what a search found
  abbrev pub found_work : Found → Op → S → ℕ → ℕ → Option ℕ → Work S W
  found_work found.Going op search head word hand = work.Generate op search Search
  found_work found.Ready op search head word hand = if holds_none hand then work.Generate op search LookForBlock else filling op search head word hand
  found_work (found.Answer outcome) op search head word hand = work.Advance (told_word word outcome)
  found_work found.Contended op search head word hand = work.Generate op search Search

  -- a block was read, with this operation and list: the list is executed or wrapped up
  abbrev pub wrapping_up : Op → List Entry → ℕ → Work S W
  wrapping_up op entries word = wrapped_work (form.wrap_begun_of op entries (stop_of word entries)) (form.begin_wrap_of op entries (stop_of word entries)) word

  abbrev pub given_work : Op → List Entry → ℕ → Work S W
  given_work op entries word =
      if is_executing (record_phase word) then work.Execute (record { block = named_block word; entries = entries; next = 0; step = LoadState })
      else wrapping_up op entries word

  -- op word, value word and list, where all words are loaded
  abbrev pub read_work : ReadWalk → Option (ℕ × ℕ × ArrayVec Entry) → ℕ → Work S W
  read_work read None word = work.Read read
  read_work read (Some given) word = given_work (announced_op given.0 given.1) given.2.items word

  -- the head was found there: what is done depends on the word's phase
  abbrev pub first_work : marks.RecordPhase → ℕ → Work S W
  first_work record_phases.Executing word = work.Read (read_new (named_block word))
  first_work record_phases.Wrapping word = work.Read (read_new (named_block word))
  first_work _ word = work.Op

  abbrev pub generated_work : Op → S → Generating → ℕ → ℕ → Option ℕ → ℕ → Seen → Work S W
  generated_work op search Search head word hand cap seen = found_work (form.found_of search seen) op (form.feed_of search seen) head word hand
  generated_work op search LookForBlock head word hand cap seen =
      if nat_lt seen.before cap then work.Generate op search Claim else work.Advance (told_word word (Plain reply.Exhausted))
  generated_work op search Claim head word hand cap seen =
      if nat_lt seen.before cap then filling op search head word (Some (seen.before + 1)) else work.Advance (told_word word (Plain reply.Exhausted))

  abbrev pub work_fed : Work S W → ℕ → ℕ → Option ℕ → ℕ → Seen → Work S W
  work_fed work.Head head word hand cap seen = first_work (record_phase word) word
  work_fed work.Op head word hand cap seen = work.Value seen.before
  work_fed (work.Value op) head word hand cap seen = work.Generate (announced_op op seen.before) (form.begin_of (announced_op op seen.before)) Search
  work_fed (work.Generate op search at) head word hand cap seen = generated_work op search at head word hand cap seen
  work_fed (work.Fill stores made) head word hand cap seen =
      if made + 1 == length stores.items then work.Advance (executing_word word (block_of hand)) else work.Fill stores (made + 1)
  work_fed (work.Advance to) head word hand cap seen = work.Advance to
  work_fed (work.Read read) head word hand cap seen = read_work (read_fed read seen) (read_result read seen) word
  work_fed (work.Execute run) head word hand cap seen = executed_work (slow_execution run seen) (slow_fed run seen) word
  work_fed (work.Wrap wrap) head word hand cap seen = wrapped_work (form.wrap_found_of wrap seen) (form.feed_wrap_of wrap seen) word

  -- ---- what it has come to

  abbrev pub again_if : Bool → WorkTurn
  again_if true = Again
  again_if false = Going

  abbrev pub contended : Found → WorkTurn
  contended found.Contended = Again
  contended _ = Going

  -- a block whose operation is no command is not wrapped up
  abbrev pub given_turn : Op → ℕ → WorkTurn
  given_turn op word = again_if (not (is_executing (record_phase word)) && not (form.object.serves op))

  abbrev pub read_turn : Option (ℕ × ℕ × ArrayVec Entry) → ℕ → WorkTurn
  read_turn None word = Going
  read_turn (Some given) word = given_turn (announced_op given.0 given.1) word

  abbrev pub generate_turn : S → Generating → Seen → WorkTurn
  generate_turn search Search seen = contended (form.found_of search seen)
  generate_turn search _ seen = Going

  abbrev pub work_turn : Work S W → ℕ → ℕ → Seen → WorkTurn
  work_turn work.Head head word seen = if leads seen.before head then Going else Over
  work_turn work.Op head word seen = again_if (not (op_number seen.before == record_number word))
  work_turn (work.Value op) head word seen = again_if (not ((value_number seen.before == record_number word) && form.object.serves (announced_op op seen.before)))
  work_turn (work.Generate op search at) head word seen = generate_turn search at seen
  work_turn (work.Fill stores made) head word seen = Going
  work_turn (work.Advance to) head word seen = Again
  work_turn (work.Read read) head word seen = read_turn (read_result read seen) word
  work_turn (work.Execute run) head word seen = Going
  work_turn (work.Wrap wrap) head word seen = Going

  -- ---- helping

  abbrev pub worked : WorkTurn → ℕ → Work S W → Helping S W
  worked Going word does = Known word does
  worked Again word does = Record (Some (record_number word))
  worked Over word does = Known word does

  abbrev pub helping_fed : Helping S W → ℕ → ℕ → Option ℕ → ℕ → Seen → Helping S W
  helping_fed (Record known) head seats hand cap seen = helping_met seen.before head seats
  helping_fed (Known word does) head seats hand cap seen = worked (work_turn does head word seen) word (work_fed does head word hand cap seen)
  helping_fed (Remove removal) head seats hand cap seen = Remove (remove_fed removal seen)

  abbrev pub help_fed : Help S W → Option ℕ → ℕ → Seen → Help S W
  help_fed help hand cap seen = record { head = help.head; seats = help.seats; at = helping_fed help.at help.head help.seats hand cap seen }

  abbrev pub is_over : WorkTurn → Bool
  is_over Over = true
  is_over _ = false

  abbrev pub is_gone : Removing → Bool
  is_gone removing_to.Running = false
  is_gone removing_to.Gone = true

  -- whether helping ends: the word is of another call, the seat isn't the head, or it is gone
  abbrev pub helping_ends : Helping S W → ℕ → Seen → Bool
  helping_ends (Record known) head seen = is_other known (record_number seen.before)
  helping_ends (Known word does) head seen = is_over (work_turn does head word seen)
  helping_ends (Remove removal) head seen = is_gone (removing removal seen)

  -- ---- what must hold, so that the next step can be made

  abbrev pub IsGeneratingAt : S → Generating → Type 0
  IsGeneratingAt search Search = form.asks search
  IsGeneratingAt search LookForBlock = form.is_ready search
  IsGeneratingAt search Claim = form.is_ready search

  abbrev pub CanWork : Work S W → Type 0
  CanWork work.Head = Unit {0}
  CanWork work.Op = Unit {0}
  CanWork (work.Value op) = Unit {0}
  CanWork (work.Generate op search at) = IsTrue (form.object.serves op) × IsGeneratingAt search at
  CanWork (work.Fill stores made) = made < length stores.items
  CanWork (work.Advance to) = Unit {0}
  CanWork (work.Read read) = IsReading read
  CanWork (work.Execute run) = IsWalking run
  CanWork (work.Wrap wrap) = form.wraps wrap

  -- the work is a search that can name its list
  abbrev pub CanName : Work S W → Type 0
  CanName (work.Generate op search at) = IsTrue (form.object.serves op) × form.is_ready search
  CanName _ = ⊥

  abbrev pub CanHelpAt : Helping S W → Type 0
  CanHelpAt (Record known) = Unit {0}
  CanHelpAt (Known word does) = CanWork does
  CanHelpAt (Remove removal) = Unit {0}

  pub record CanHelp (help : Help S W) : Type 0 where
    pub head : help.head < help.seats
    pub few : help.seats ≤ 8
    pub at : CanHelpAt help.at

-- the work is of this kind
abbrev pub Generates : {S W : Type 0} → Work S W → Type 0
Generates (work.Generate op search at) = Unit {0}
Generates _ = ⊥

-- the work looks at the head, or loads the call's operation
abbrev pub LooksUp : {S W : Type 0} → Work S W → Type 0
LooksUp work.Head = Unit {0}
LooksUp work.Op = Unit {0}
LooksUp (work.Value op) = Unit {0}
LooksUp _ = ⊥

abbrev pub IsAtStep : {S W : Type 0} → Generating → Work S W → Type 0
IsAtStep step (work.Generate op search at) = at ≡ step
IsAtStep step _ = ⊥

abbrev pub Fills : {S W : Type 0} → Work S W → Type 0
Fills (work.Fill stores made) = Unit {0}
Fills _ = ⊥

abbrev pub Reads : {S W : Type 0} → Work S W → Type 0
Reads (work.Read read) = Unit {0}
Reads _ = ⊥

abbrev pub Executes : {S W : Type 0} → Work S W → Type 0
Executes (work.Execute run) = Unit {0}
Executes _ = ⊥

abbrev pub WrapsUp : {S W : Type 0} → Work S W → Type 0
WrapsUp (work.Wrap wrap) = Unit {0}
WrapsUp _ = ⊥

-- an execution after a step
abbrev pub executed_in : {S W : Type 0} → Work S W → ℕ → Seen → Work S W
executed_in (work.Execute run) word seen = executed_work (slow_execution run seen) (slow_fed run seen) word
executed_in other word seen = other

abbrev pub IsWalkingIn : {S W : Type 0} → Work S W → Type 0
IsWalkingIn (work.Execute run) = IsWalking run
IsWalkingIn _ = Unit {0}

-- whether the next request is the exchange of an entry of a list
abbrev pub works_listed : {S W : Type 0} → Work S W → Bool
works_listed (work.Execute run) = installs run.step
works_listed _ = false

abbrev pub helps_listed : {S W : Type 0} → Helping S W → Bool
helps_listed (Known word does) = works_listed does
helps_listed _ = false
