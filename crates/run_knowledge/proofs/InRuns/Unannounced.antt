-- Until a call is announced, the record of its seat is closed, and of an earlier call.
use Rattle.std.proofs.Common.{◌≡◌, ◌∙◌, refl, sym, subst, ℕ, ◌<◌, Bool, true, false, List, slice_get, Option, Some, None, arith}
use Rattle.std.proofs.lemmas.Option.{slice_get_within}
use Rattle.lin_report.specs.declared.calls.Op.{Op}
use Rattle.word_fields.specs.Records.{record_number, record_phase}
use Rattle.help_queue.specs.Gathers.{is_open}
use Rattle.help_queue_laws.specs.Runs.{record_in}
use Rattle.help_queue_laws.proofs.Known.Knowledge.{PhaseFacts}
use Rattle.help_queue_laws.proofs.Known.Scenes.{Scene, scene_of}
use Rattle.help_queue_laws.proofs.Known.SceneLaws.{record_is}
use Rattle.normal_traits.specs.NormalForm.{NormalForm}
use Rattle.fast_slow_engine.specs.declared.phases.Phase.{Phase}
use Rattle.fast_slow_engine.specs.declared.phases.Phase.TheVariants as phase
use Rattle.fast_slow_engine.specs.declared.phases.Announcing.TheVariants as announcing
use Rattle.fast_slow_engine.specs.declared.setup.Setup.{Setup}
use Rattle.fast_slow_engine.specs.Mechs.{Mech}
use Rattle.fast_slow_engine.specs.PhaseTable.{rests}
use Rattle.fast_slow_engine.specs.Runs.{AreMoves, CanMove, Move, begun, run_of}
use Rattle.run_laws.proofs.Steps.{some_same}
use Rattle.run_queue.specs.Premises.{KeepsQueue}
use Rattle.run_queue.specs.QueueGhosts.{queue_ghosts}
use Rattle.run_queue.specs.QueueLaws.{OwnsRecord, Publishes}
use Rattle.run_queue.specs.QueueViews.{next_number, phase_view}
use Rattle.run_queue.proofs.QueueLaws.{owners_hold}
use Rattle.run_queue.proofs.Runs.RunMoves.{runs_queued}
use Rattle.helper_knowledge.proofs.Queue.CallsBelow.{numbers_below}
use Rattle.step_knowledge.specs.Moves.{is_unannounced}
use Rattle.run_knowledge.specs.Unannounced.{IsBefore, MoversBefore}

-- the number of the record, by the phase
facts_before : {S W : Type 0} (a : Scene) (seats i number : ℕ) (at : Phase S W) → is_unannounced at ≡ true → PhaseFacts a seats i (next_number at number) (phase_view at) → record_number (a.records i) < number
facts_before a seats i number phase.Idle not h = absurd cc
facts_before a seats i number phase.Begin not h = h.number
facts_before a seats i number phase.Look not h = h.number
facts_before a seats i number (phase.Generate s at) not h = h.0.number
facts_before a seats i number (phase.Apply run stores at) not h = h.0.number
facts_before a seats i number (phase.Wrap w) not h = h.0.number
facts_before a seats i number (phase.Announce announcing.Value) not h = h.0.number
facts_before a seats i number (phase.Announce announcing.Op) not h = h.0.number
facts_before a seats i number (phase.Announce announcing.Record) not h = h.0.number
facts_before a seats i number (phase.Enter owner) not h = absurd cc
facts_before a seats i number phase.Drive not h = absurd cc
facts_before a seats i number (phase.Help true help) not h = absurd cc
facts_before a seats i number (phase.Help false help) not h = (let back = h.2 in back.0.number)
facts_before a seats i number phase.Collect not h = absurd cc
facts_before a seats i number (phase.Value reference) not h = absurd cc
facts_before a seats i number (phase.End reply) not h = absurd cc

-- whose call is not announced publishes none
none_published : {S W : Type 0} (at : Phase S W) → is_unannounced at ≡ true → ¬ Publishes at
none_published phase.Idle not is = is
none_published phase.Begin not is = is
none_published phase.Look not is = is
none_published (phase.Generate s at) not is = is
none_published (phase.Apply run stores at) not is = is
none_published (phase.Wrap w) not is = is
none_published (phase.Announce at) not is = is
none_published (phase.Enter owner) not is = absurd cc
none_published phase.Drive not is = absurd cc
none_published (phase.Help true help) not is = absurd cc
none_published (phase.Help false help) not is = absurd cc
none_published phase.Collect not is = is
none_published (phase.Value reference) not is = is
none_published (phase.End reply) not is = is

-- nor does one that rests
none_resting : {S W : Type 0} (at : Phase S W) → rests at ≡ true → ¬ Publishes at
none_resting (phase.Enter owner) rest is = absurd cc
none_resting phase.Drive rest is = absurd cc
none_resting (phase.Help drives help) rest is = absurd cc
none_resting _ rest is = is

closed_by : {P : Type 0} (opened : Bool) → (opened ≡ true → P) → ¬ P → opened ≡ false
closed_by true gives none = absurd (none (gives refl))
closed_by false gives none = refl

module _ {S W : Type 0} (form : NormalForm S W) (setup : Setup) (older : List Move) (are : AreMoves form setup older) (keeps : KeepsQueue form setup older) (seat : ℕ) (mech : Mech S W)
    (at : slice_get (run_of form setup older).mechs seat ≡ Some mech) where
  abbrev words : List ℕ
  words = (run_of form setup older).words

  owns : OwnsRecord words seat mech
  owns = (owners_hold form setup older are keeps seat mech at).0

  closed : ¬ Publishes mech.phase → is_open (record_phase (record_in words seat)) ≡ false
  closed none = closed_by (is_open (record_phase (record_in words seat))) (λ opened. (owns opened).1) none

  running_before : is_unannounced mech.phase ≡ true → IsBefore words seat mech.number
  running_before not =
      let q = runs_queued form setup older are keeps in
      let ghosts = queue_ghosts form setup older in
      let few : seat < 8 = (let inside = slice_get_within (run_of form setup older).mechs seat mech at in let many = q.count in let most = setup.few_seats in omega (arith, inside, many, most)) in
      let is = record_is setup.seats words ghosts setup.few_seats q.sound seat few in
      record {
        earlier = subst (λ w. record_number w < mech.number) is (facts_before (scene_of words ghosts) setup.seats seat mech.number mech.phase not (q.knows seat mech at));
        closed = closed (none_published mech.phase not);
      }

  begun_before : (begins : Option Op) → CanMove form begins mech → is_unannounced (begun begins mech).phase ≡ true → IsBefore words seat (begun begins mech).number
  begun_before None can not = running_before not
  begun_before (Some op) can not =
      record { earlier = (let below = (numbers_below form setup older are keeps seat mech at).0 in omega (arith, below)); closed = closed (none_resting mech.phase can.0) }

module _ {S W : Type 0} (form : NormalForm S W) where
  pub movers_before : MoversBefore form
  movers_before setup older move mech are keeps at not =
      let same : are.1.mech ≡ mech = some_same are.1.mech mech (sym are.1.seated ∙ at) in
      begun_before form setup older are.0 keeps move.seat mech at move.begins (subst (CanMove form move.begins) same are.1.can) not
