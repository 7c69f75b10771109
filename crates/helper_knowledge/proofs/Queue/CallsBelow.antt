-- No record, and no record word that a helper works on, has the number of a call to come.
use Rattle.std.proofs.Common.{◌≡◌, ap, subst, ℕ, ◌+◌, ◌<◌, ◌≤◌, ◌⊎◌, Bool, true, false, inl, inr, List, arith}
use Rattle.word_fields.specs.Records.{record_number, record_of}
use Rattle.op_record.specs.Progress.{IsEarlier}
use Rattle.help_queue_laws.specs.declared.phases.QueuePhase.{QueuePhase}
use Rattle.help_queue_laws.specs.declared.phases.QueuePhase.TheVariants.{Look, StoreValue, StoreOp, StoreRecord, Enters, Drive, Collect, Helps}
use Rattle.help_queue_laws.specs.declared.phases.Helping.{Helping}
use Rattle.std.proofs.lemmas.Option.{slice_get_within}
use Rattle.help_queue.specs.Gathers.{leads}
use Rattle.help_queue_laws.specs.Members.{IsHelped as IsHelpedIn}
use Rattle.help_queue_laws.specs.Runs.{queue_in, record_in}
use Rattle.help_queue_laws.proofs.Known.Scenes.{Scene, scene_of}
use Rattle.help_queue_laws.proofs.Known.SceneLaws.{record_is}
use Rattle.fast_slow_engine.specs.declared.help.Helping.{Helping as Helping'}
use Rattle.fast_slow_engine.specs.declared.help.Helping.TheVariants.{Record as at_record, Known as at_work, Remove as at_removal}
use Rattle.fast_slow_engine.specs.declared.help.Work.TheVariants as work
use Rattle.fast_slow_engine.specs.Runs.{RunState, run_of}
use Rattle.normal_traits.specs.NormalForm.{NormalForm}
use Rattle.run_queue.specs.QueueGhosts.{queue_ghosts}
use Rattle.run_queue.proofs.Runs.RunMoves.{runs_queued}
use Rattle.run_queue.proofs.QueueLaws.{helped_hold}
use Rattle.helper_knowledge.specs.CallLaws.{HelpingBelow, LoadedBelow, NumbersBelow}
use Rattle.help_queue_laws.proofs.Known.Knowledge.{BackFacts, PhaseFacts}
use Rattle.fast_slow_engine.specs.declared.phases.Phase.{Phase}
use Rattle.run_queue.specs.QueueViews.{helping_view, next_number, phase_view}
use Rattle.fast_slow_engine.specs.declared.phases.Phase.TheVariants as phase
use Rattle.fast_slow_engine.specs.declared.phases.Announcing.TheVariants as announcing

earlier_below : (word now : ℕ) → IsEarlier (record_of word) (record_of now) → record_number word ≤ record_number now
earlier_below word now (inl less) = omega (arith, less)
earlier_below word now (inr same) = omega (arith, same.0)

-- a word that was loaded of the head's record has at most its number
word_below : (words : List ℕ) (head word : ℕ) → ((record_in words head ≡ word) × (leads (queue_in words) head ≡ true)) ⊎ IsEarlier (record_of word) (record_of (record_in words head)) → record_number word ≤ record_number (record_in words head)
word_below words head word (inl now) = omega (arith, ap record_number now.0)
word_below words head word (inr earlier) = earlier_below word (record_in words head) earlier

back_below : (a : Scene) (i n s : ℕ) (at : Helping) (announced : _) → BackFacts a i n s at announced → record_number (a.records i) ≤ n
back_below a i n s at false h = (let less = h.0.number in omega (arith, less))
back_below a i n s at true h = omega (arith, h.0.number)

-- the record of a seat is of the call that runs or comes next, or of an earlier one
pub facts_below : (a : Scene) (seats i n : ℕ) (phase : QueuePhase) → PhaseFacts a seats i n phase → record_number (a.records i) ≤ n
facts_below a seats i n Look h = (let less = h.number in omega (arith, less))
facts_below a seats i n StoreValue h = (let less = h.0.number in omega (arith, less))
facts_below a seats i n StoreOp h = (let less = h.0.number in omega (arith, less))
facts_below a seats i n StoreRecord h = (let less = h.0.number in omega (arith, less))
facts_below a seats i n (Enters owner) h = omega (arith, h.mine.number)
facts_below a seats i n Drive h = omega (arith, h.0.number)
facts_below a seats i n Collect h = omega (arith, h.0.number)
facts_below a seats i n (Helps s announced at) h = back_below a i n s at announced h.2

-- where no call runs, or at its end, it is of an earlier one than the next
looks_below : (a : Scene) (seats i n : ℕ) → PhaseFacts a seats i n Look → record_number (a.records i) < n
looks_below a seats i n h = h.number

-- so it has at most the number of the machine
pub machine_below : {S W : Type 0} (a : Scene) (seats i number : ℕ) (at : Phase S W) → PhaseFacts a seats i (next_number at number) (phase_view at) → record_number (a.records i) ≤ number
machine_below a seats i number phase.Idle h = (let less = looks_below a seats i (number + 1) h in omega (arith, less))
machine_below a seats i number (phase.Value reference) h = (let less = looks_below a seats i (number + 1) h in omega (arith, less))
machine_below a seats i number (phase.End reply) h = (let less = looks_below a seats i (number + 1) h in omega (arith, less))
machine_below a seats i number phase.Begin h = facts_below a seats i number Look h
machine_below a seats i number phase.Look h = facts_below a seats i number Look h
machine_below a seats i number (phase.Generate s step) h = facts_below a seats i number StoreValue h
machine_below a seats i number (phase.Apply run stores step) h = facts_below a seats i number StoreValue h
machine_below a seats i number (phase.Wrap w) h = facts_below a seats i number StoreValue h
machine_below a seats i number (phase.Announce announcing.Value) h = facts_below a seats i number StoreValue h
machine_below a seats i number (phase.Announce announcing.Op) h = facts_below a seats i number StoreOp h
machine_below a seats i number (phase.Announce announcing.Record) h = facts_below a seats i number StoreRecord h
machine_below a seats i number (phase.Enter owner) h = facts_below a seats i number (Enters owner) h
machine_below a seats i number phase.Drive h = facts_below a seats i number Drive h
machine_below a seats i number (phase.Help drives help) h = facts_below a seats i number (Helps help.head drives (helping_view help.at)) h
machine_below a seats i number phase.Collect h = facts_below a seats i number Collect h

-- of a helper's loaded word, by what the queue has of it
pub loaded_below : {S W : Type 0} (words : List ℕ) (head : ℕ) (drives : Bool) (at : Helping' S W) → IsHelpedIn words (Helps head drives (helping_view at)) → HelpingBelow (record_in words head) at
loaded_below words head drives (at_record known) h = tt
loaded_below words head drives (at_removal removal) h = tt
loaded_below words head drives (at_work word work.Head) h = tt
loaded_below words head drives (at_work word work.Op) h = word_below words head word h
loaded_below words head drives (at_work word (work.Value op)) h = word_below words head word h
loaded_below words head drives (at_work word (work.Generate op s step)) h = word_below words head word h
loaded_below words head drives (at_work word (work.Fill stores made)) h = word_below words head word h
loaded_below words head drives (at_work word (work.Advance to)) h = word_below words head word h
loaded_below words head drives (at_work word (work.Read read)) h = word_below words head word h
loaded_below words head drives (at_work word (work.Execute run)) h = word_below words head word h
loaded_below words head drives (at_work word (work.Wrap wrap)) h = word_below words head word h

pub phase_below : {S W : Type 0} (state : RunState S W) (at : Phase S W) → IsHelpedIn state.words (phase_view at) → LoadedBelow state at
phase_below state (phase.Help drives help) h = loaded_below state.words help.head drives help.at h
phase_below state phase.Idle h = tt
phase_below state phase.Begin h = tt
phase_below state phase.Look h = tt
phase_below state (phase.Generate s step) h = tt
phase_below state (phase.Apply run stores step) h = tt
phase_below state (phase.Wrap wrap) h = tt
phase_below state (phase.Announce step) h = tt
phase_below state (phase.Enter owner) h = tt
phase_below state phase.Drive h = tt
phase_below state phase.Collect h = tt
phase_below state (phase.Value reference) h = tt
phase_below state (phase.End reply) h = tt

module _ {S W : Type 0} (form : NormalForm S W) where
  pub numbers_below : NumbersBelow form
  numbers_below setup moves are keeps seat mech found =
      let q = runs_queued form setup moves are keeps in
      let state = run_of form setup moves in
      let ghosts = queue_ghosts form setup moves in
      let few : seat < 8 = (let inside = slice_get_within state.mechs seat mech found in let many = q.count in let most = setup.few_seats in omega (arith, inside, many, most)) in
      let is = record_is setup.seats state.words ghosts setup.few_seats q.sound seat few in
      let below = machine_below (scene_of state.words ghosts) setup.seats seat mech.number mech.phase (q.knows seat mech found) in
      (subst (λ w. record_number w ≤ mech.number) is below, phase_below state mech.phase (helped_hold form setup moves are keeps seat mech found))
