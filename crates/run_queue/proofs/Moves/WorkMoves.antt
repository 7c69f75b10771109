-- The steps of a helper behind its look at the head: all but the exchange of the record leave the words of the queue.
use Rattle.std.proofs.Common.{◌≡◌, ℕ, ◌+◌, ◌<◌, ◌≤◌, Bool, true, false, if◌then◌else◌, List, length, refl, ap, ◌∙◌, arith, inl, inr, ◌⊎◌, Option, Some, None, set}
use Rattle.std.specs.Prelude.{◌==◌, slice_index, slice_get}
use Rattle.std.proofs.lemmas.Bool.{cases_Bool, cases_eq, cond-false, ne_eqb}
use Rattle.step_memory.specs.declared.steps.Request.{Request}
use Rattle.step_memory.specs.declared.steps.Request.TheVariants.{Exchange, Add}
use Rattle.step_memory.specs.declared.steps.Seen.{Seen}
use Rattle.step_memory.specs.Step.{seen_of}
use Rattle.step_memory.proofs.Words.{exchange_changes}
use Rattle.word_fields.specs.Records.{record_phase, record_number, record_of, packed_record}
use Rattle.node_arena.specs.declared.places.TheConstants.{STATE_FIELD}
use Rattle.node_arena.specs.MemoryMap.{record_place}
use Rattle.node_arena.proofs.PlacesApart.{block_place_behind}
use Rattle.normal_traits.specs.declared.lists.Entry.{Entry}
use Rattle.normal_traits.specs.NormalForm.{NormalForm}
use Rattle.cas_executor.specs.declared.slow_run.SlowStep.{SlowStep}
use Rattle.cas_executor.specs.declared.slow_run.SlowStep.TheVariants.{LoadState, Install, LoadTarget, Succeed, Fail, LoadDecision, Clear}
use Rattle.cas_executor.specs.SlowRuns.{SlowWalk, step_request, request_at}
use Rattle.help_queue.specs.Gathers.{is_open}
use Rattle.help_queue_laws.specs.declared.phases.Helping.TheVariants as at
use Rattle.help_queue_laws.specs.declared.phases.QueuePhase as queue
use Rattle.help_queue_laws.specs.declared.phases.QueuePhase.TheVariants as in_queue
use Rattle.help_queue_laws.specs.Ghosts.{Ghosts}
use Rattle.help_queue_laws.proofs.Known.Scenes.{Scene, scene_of, IsSound}
use Rattle.help_queue_laws.proofs.Known.Knowledge.{IsHelped, BackFacts}
use Rattle.help_queue_laws.proofs.Acts.RecordActs.{advancing_sound, advancing_later}
use Rattle.help_queue_laws.proofs.Steps.WonSteps.{advances_head}
use Rattle.help_queue_laws.proofs.Steps.Results.{scene_after}
use Rattle.fast_slow_engine.specs.declared.phases.Phase.TheVariants as phase
use Rattle.fast_slow_engine.specs.declared.phases.Generating.{Generating}
use Rattle.fast_slow_engine.specs.declared.phases.Generating.TheVariants.{Search, LookForBlock, Claim}
use Rattle.fast_slow_engine.specs.declared.help.Help.{Help}
use Rattle.fast_slow_engine.specs.declared.help.Helping.{Helping}
use Rattle.fast_slow_engine.specs.declared.help.Helping.TheVariants.{Known}
use Rattle.fast_slow_engine.specs.declared.help.Work.{Work}
use Rattle.fast_slow_engine.specs.declared.help.Work.TheVariants as work
use Rattle.fast_slow_engine.specs.declared.help.WorkTurn.{WorkTurn}
use Rattle.fast_slow_engine.specs.declared.help.WorkTurn.TheVariants.{Going, Again, Over}
use Rattle.fast_slow_engine.specs.Mechs.{Mech}
use Rattle.fast_slow_engine.specs.HelpTable.{work_request, work_fed, work_turn, worked, is_over, helping_hand}
use Rattle.fast_slow_engine.specs.PhaseTable.{in_phase, with_hand, helped, help_stepped}
use Rattle.run_queue.specs.Fits.{GoesTo, WorkFits, PhaseFits}
use Rattle.run_queue.specs.Premises.{LeavesQueue, HasRounds, at_target, works_for_client}
use Rattle.run_queue.proofs.Views.CallViews.{Views, KnowsQueue, knows_by}
use Rattle.run_queue.proofs.Views.WorkViews.{Works, IsBehind, works_on, goes_on}
use Rattle.run_queue.proofs.Moves.Beside.{Goes, leaves_load, leaves_same, leaves_behind, leaves_counter, beside_goes, free_same, mine_same, out_same, in_or_done_same, helped_same}
use Rattle.run_queue.proofs.Moves.RecordExchanges.{advances}

-- ---- what a helper knows of its own call

pub back_same : (a b : Scene) → ((t : ℕ) → b.records t ≡ a.records t) → b.queue ≡ a.queue → (i n s word : ℕ) (drives : Bool) → BackFacts a i n s (at.Complete word) drives → BackFacts b i n s (at.Complete word) drives
back_same a b records queue i n s word false h = (free_same a b records queue i n h.0, out_same a b records queue i h.1)
back_same a b records queue i n s word true h = (mine_same a b records queue i n h.0, in_or_done_same a b records queue i h.1)

back_again : (a : Scene) (i n s word number : ℕ) (drives : Bool) → BackFacts a i n s (at.Complete word) drives → BackFacts a i n s (at.Record (Some number)) drives
back_again a i n s word number false h = h
back_again a i n s word number true h = h

-- ---- requests

state_leaves : (block j : ℕ) (entry : Entry) (words : List ℕ) (step : SlowStep) → at_target step ≡ false → LeavesQueue (step_request block j entry step) words
state_leaves block j entry words LoadState own = leaves_load _ words
state_leaves block j entry words Install own = absurd cc
state_leaves block j entry words LoadTarget own = leaves_load _ words
state_leaves block j entry words Succeed own = leaves_behind _ words (block_place_behind block (STATE_FIELD + j))
state_leaves block j entry words Fail own = leaves_behind _ words (block_place_behind block (STATE_FIELD + j))
state_leaves block j entry words LoadDecision own = leaves_load _ words
state_leaves block j entry words Clear own = absurd cc

slow_leaves : (run : SlowWalk) (entry : Option Entry) (words : List ℕ) → at_target run.step ≡ false → LeavesQueue (request_at run entry) words
slow_leaves run None words own = leaves_load 0 words
slow_leaves run (Some entry) words own = state_leaves run.block run.next entry words run.step own

module _ {S W : Type 0} (form : NormalForm S W) where
  -- all but the exchange of the record leaves the words of the queue
  abbrev pub IsQuietWork : Work S W → Type 0
  IsQuietWork (work.Advance to) = ⊥
  IsQuietWork _ = Unit {0}

  generate_leaves : (op : _) (s : S) (step : Generating) (head word : ℕ) (words : List ℕ) → works_for_client {S = S} {W = W} (work.Generate op s step) ≡ false → LeavesQueue (work_request form (work.Generate op s step) head word) words
  generate_leaves op s Search head word words own = absurd cc
  generate_leaves op s LookForBlock head word words own = leaves_load 2 words
  generate_leaves op s Claim head word words own = leaves_counter (Add 2 1) words (inr refl)

  own_leaves : (does : Work S W) (head word : ℕ) (words : List ℕ) → IsQuietWork does → works_for_client does ≡ false → LeavesQueue (work_request form does head word) words
  own_leaves work.Head head word words quiet own = leaves_load 1 words
  own_leaves work.Op head word words quiet own = leaves_load _ words
  own_leaves (work.Value op) head word words quiet own = leaves_load _ words
  own_leaves (work.Generate op s step) head word words quiet own = generate_leaves op s step head word words own
  own_leaves (work.Fill stores made) head word words quiet own = absurd cc
  own_leaves (work.Advance to) head word words quiet own = absurd quiet
  own_leaves (work.Read read) head word words quiet own = leaves_load _ words
  own_leaves (work.Execute run) head word words quiet own = slow_leaves run (slice_get run.entries run.next) words own
  own_leaves (work.Wrap wrap) head word words quiet own = absurd cc

  pub work_leaves : (does : Work S W) (head word : ℕ) (words : List ℕ) → IsQuietWork does → (works_for_client does ≡ true → LeavesQueue (work_request form does head word) words) → LeavesQueue (work_request form does head word) words
  work_leaves does head word words quiet client = elim (cases_Bool (works_for_client does)) [ inl theirs ↦ client theirs | inr own ↦ own_leaves does head word words quiet own ]

  -- ---- the machine after the step

  module _ (seats head p word n : ℕ) (drives : Bool) (among : p ≡ seats) where
    abbrev pub Turned : Mech S W → Type 0
    Turned new = Views seats new n (in_queue.Helps head drives (at.Complete word)) ⊎ Views seats new n (in_queue.Helps head drives (at.Record (Some (record_number word))))

    turned : (turn : WorkTurn) (next : Work S W) (after other : Mech S W) → Works word next → is_over form turn ≡ false → after.number ≡ n
        → Turned (if is_over form turn then other else in_phase (phase.Help drives (record { head = head; seats = p; at = worked form turn word next })) after)
    turned Going next after other works none number = inl (record { phase' = ap (in_queue.Helps head drives) works.view; number = number; fits = (among, works.fits) })
    turned Again next after other works none number = inr (record { phase' = refl; number = number; fits = (among, tt) })
    turned Over next after other works none number = absurd cc

    abbrev pub help_at : Helping S W → Help S W
    help_at at' = record { head = head; seats = p; at = at' }

    pub help_turned : (does : Work S W) (seen : Seen) (mech : Mech S W) → IsBehind does → WorkFits word does → mech.number ≡ n → Turned (help_stepped form drives (help_at (Known word does)) seen mech)
    help_turned does seen mech behind fits number =
        let after = with_hand (helping_hand (Known word does) mech.hand mech.setup.cap seen) mech in
        turned (work_turn form does head word seen) (work_fed form does head word mech.hand mech.setup.cap seen) after (helped form drives after)
        (works_on form word does head mech.hand mech.setup.cap seen fits) (goes_on form word does head seen behind) number

    pub knows_turned : (b : Scene) (i : ℕ) (new : Mech S W) → Turned new → head < seats → is_open (record_phase word) ≡ true → IsHelped b head word → BackFacts b i n head (at.Complete word) drives → KnowsQueue b seats i new × PhaseFits seats new.phase
    knows_turned b i new next inside opened helped' back =
        elim next [
          | inl on ↦ (knows_by b seats i n new _ on (inside, (opened, helped'), back), on.fits)
          | inr again ↦ (knows_by b seats i n new _ again (inside, tt, back_again b i n head word (record_number word) drives back), again.fits)
        ]

  -- ---- the steps

  module _ (seats i : ℕ) (few : seats ≤ 8) (words : List ℕ) (ghosts : Ghosts) (long : 32 ≤ length words) (sound : IsSound (scene_of words ghosts)) (mech : Mech S W) (drives : Bool) (head p word : ℕ) (among : p ≡ seats) (inside : head < seats)
      (opened : is_open (record_phase word) ≡ true) (helped' : IsHelped (scene_of words ghosts) head word) (back : BackFacts (scene_of words ghosts) i mech.number head (at.Complete word) drives) where
    abbrev was : Scene
    was = scene_of words ghosts

    abbrev view : queue.QueuePhase
    view = in_queue.Helps head drives (at.Complete word)

    abbrev next : Work S W → Seen → Mech S W
    next does seen = help_stepped form drives (help_at seats head p word mech.number drives among (Known word does)) seen mech

    quiet_work : (does : Work S W) (request : Request) → IsBehind does → WorkFits word does → LeavesQueue request words → Goes seats i words ghosts view request (next does)
    quiet_work does request behind fits leaves =
        beside_goes seats i words ghosts view long request (next does) refl leaves sound
        (λ b records queue. knows_turned seats head p word mech.number drives among b i (next does (seen_of request words)) (help_turned seats head p word mech.number drives among does (seen_of request words) mech behind fits refl)
        inside opened (helped_same was b records queue head word helped') (back_same was b records queue i mech.number head word drives back))

    exchange_work : (to : ℕ) → GoesTo word to → HasRounds words → Goes seats i words ghosts view (Exchange (record_place head) (packed_record (record_of word)) to) (next (work.Advance to))
    exchange_work to goes rounds =
        let from = packed_record (record_of word) in
        let request = Exchange (record_place head) from to in
        elim (cases_eq (slice_index words (record_place head)) from) [
          | inr other ↦ quiet_work (work.Advance to) request tt goes
              (leaves_same request words (exchange_changes (record_place head) from to words ∙ cond-false (slice_index words (record_place head) == from) (set words (record_place head) to) words (ne_eqb (slice_index words (record_place head)) from other)))
          | inl same ↦ (
              let act = advances seats i words ghosts view long head word to (omega (arith, inside, few)) goes refl rounds sound helped' same in
              let after = scene_after i words ghosts view request in
              record {
                sound = advancing_sound i head was after act sound;
                later = advancing_later i head was after act seats;
                knows = (inside, tt, advances_head i mech.number head word was after drives (record_number word) act back);
                fits = (among, tt);
              })
        ]

    pub work_goes : (does : Work S W) → IsBehind does → WorkFits word does → HasRounds words → (works_for_client does ≡ true → LeavesQueue (work_request form does head word) words) → Goes seats i words ghosts view (work_request form does head word) (next does)
    work_goes work.Head behind fits rounds client = absurd behind
    work_goes work.Op behind fits rounds client = quiet_work work.Op _ behind fits (work_leaves work.Op head word words tt client)
    work_goes (work.Value op) behind fits rounds client = quiet_work (work.Value op) _ behind fits (work_leaves (work.Value op) head word words tt client)
    work_goes (work.Generate op s step) behind fits rounds client = quiet_work (work.Generate op s step) _ behind fits (work_leaves (work.Generate op s step) head word words tt client)
    work_goes (work.Fill stores made) behind fits rounds client = quiet_work (work.Fill stores made) _ behind fits (work_leaves (work.Fill stores made) head word words tt client)
    work_goes (work.Advance to) behind fits rounds client = exchange_work to fits rounds
    work_goes (work.Read read) behind fits rounds client = quiet_work (work.Read read) _ behind fits (work_leaves (work.Read read) head word words tt client)
    work_goes (work.Execute run) behind fits rounds client = quiet_work (work.Execute run) _ behind fits (work_leaves (work.Execute run) head word words tt client)
    work_goes (work.Wrap wrap) behind fits rounds client = quiet_work (work.Wrap wrap) _ behind fits (work_leaves (work.Wrap wrap) head word words tt client)
