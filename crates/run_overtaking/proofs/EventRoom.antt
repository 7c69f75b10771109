-- The events of a run are of calls that its seats have begun, so that there are at most four for each of these.
use Rattle.std.proofs.Common.{◌≡◌, ◌∙◌, refl, sym, ap, subst, ℕ, ◌<◌, ◌≤◌, true, false, List, [], ◌∷◌, ◌++◌, slice_get, slice_set, Option, Some, None, inl, inr, arith}
use Rattle.std.specs.Prelude.{Contains}
use Rattle.std.specs.Option.{option_to_list}
use Rattle.std.proofs.lemmas.Bool.{cases_eq}
use Rattle.std.proofs.lemmas.List.Elements.{Contains-append_cases}
use Rattle.std.proofs.lemmas.Option.{slice_get_cases, slice_get_within}
use Rattle.lin_report.specs.declared.calls.Op.{Op}
use Rattle.lin_report.specs.declared.events.Event.{Event}
use Rattle.step_memory.specs.Step.{seen_of}
use Rattle.word_fields.specs.Records.{record_phase, record_number}
use Rattle.word_fields.specs.Seats.{queue_seats}
use Rattle.normal_traits.specs.NormalForm.{NormalForm}
use Rattle.help_queue.specs.Gathers.{holds, is_open}
use Rattle.help_queue_laws.specs.Runs.{queue_in, record_in}
use Rattle.help_queue_laws.proofs.Known.QueueWords.{not_both}
use Rattle.help_queue_laws.proofs.Known.Scenes.{scene_of}
use Rattle.help_queue_laws.proofs.Steps.Results.{seat_word}
use Rattle.help_queue_laws.proofs.Runs.EveryRunHolds.{at_set, beside_set, same_some}
use Rattle.fast_slow_engine.specs.declared.phases.Phase.{Phase}
use Rattle.fast_slow_engine.specs.declared.phases.Phase.TheVariants as phase
use Rattle.fast_slow_engine.specs.declared.setup.Setup.{Setup}
use Rattle.fast_slow_engine.specs.Mechs.{Mech}
use Rattle.fast_slow_engine.specs.PhaseTable.{mech_event, mech_fed, mech_request, rests}
use Rattle.fast_slow_engine.specs.Runs.{Move, AreMoves, CanMove, begun, moved_by, run_of}
use Rattle.fast_slow_engine.proofs.SameCalls.{same_fed}
use Rattle.run_queue.specs.QueueGhosts.{queue_ghosts}
use Rattle.run_queue.specs.QueueLaws.{Publishes}
use Rattle.run_queue.specs.Premises.{KeepsQueue}
use Rattle.run_queue.proofs.QueueLaws.{owners_hold}
use Rattle.run_queue.proofs.Runs.RunMoves.{mover, runs_later, runs_queued}
use Rattle.fast_slow_engine.specs.Events.{completed, eight_seats, published}
use Rattle.run_overtaking.specs.Events.{EventsFit}
use Rattle.run_overtaking.proofs.Events.Folded.{events_are, events_moved, events_of}
use Rattle.run_overtaking.proofs.Accounts.Runs.{runs_counted}
use Rattle.run_overtaking.proofs.Events.Few.{IsOfCall, few_events}
use Rattle.run_overtaking.proofs.Events.Members.{completed_has, in_none, published_has}
use Rattle.run_overtaking.proofs.Events.StepOrder.{in_one, own_is}
use Rattle.run_overtaking.proofs.OrderLaws.{eight_low, events_ordered, inside_run}

module _ {S W : Type 0} where
  abbrev calls : Mech S W → ℕ
  calls mech = mech.number

  -- a machine that publishes a call makes one
  publishes_runs : (p : Phase S W) → Publishes p → rests p ≡ false
  publishes_runs phase.Idle is = absurd is
  publishes_runs phase.Begin is = refl
  publishes_runs phase.Look is = refl
  publishes_runs (phase.Generate s step) is = refl
  publishes_runs (phase.Apply run stores step) is = refl
  publishes_runs (phase.Wrap w) is = refl
  publishes_runs (phase.Announce step) is = refl
  publishes_runs (phase.Enter owner) is = refl
  publishes_runs phase.Drive is = refl
  publishes_runs (phase.Help drives help) is = refl
  publishes_runs phase.Collect is = refl
  publishes_runs (phase.Value reference) is = refl
  publishes_runs (phase.End reply) is = refl

  -- a call that was begun stays begun, whoever moves
  more_calls : (mechs : List (Mech S W)) (i : ℕ) (old new : Mech S W) (e : Event) → slice_get mechs i ≡ Some old → old.number ≤ new.number → IsOfCall calls mechs e → IsOfCall calls (slice_set mechs i new) e
  more_calls mechs i old new e at more of =
      elim (cases_eq e.seat i) [
        | inl here ↦ (
            let is_old : of.seat ≡ old = same_some of.seat old (sym of.seated ∙ ap (slice_get mechs) here ∙ at) in
            let most = of.most in
            let number = ap calls is_old in
            record { seat = new; seated = ap (slice_get (slice_set mechs i new)) here ∙ at_set mechs i new (slice_get_within mechs i old at); some = of.some; most = omega (arith, most, number, more) })
        | inr other ↦ record { seat = of.seat; seated = beside_set mechs i e.seat new other ∙ of.seated; some = of.some; most = of.most }
      ]

  begun_calls : (begins : Option Op) (old : Mech S W) → old.number ≤ (begun begins old).number
  begun_calls None old = omega arith
  begun_calls (Some op) old = omega arith

  module _ (form : NormalForm S W) where
    abbrev OfCalls : List Event → List (Mech S W) → Type 0
    OfCalls events mechs = (e : Event) → Contains events e → IsOfCall calls mechs e

    -- an open record is of a call that its seat has begun
    open_calls : (setup : Setup) (moves : List Move) → AreMoves form setup moves → KeepsQueue form setup moves → (t : ℕ) → t < 8 → is_open (record_phase (record_in (run_of form setup moves).words t)) ≡ true
        → (e : Event) → e.seat ≡ t → e.number ≡ record_number (record_in (run_of form setup moves).words t) → IsOfCall calls (run_of form setup moves).mechs e
    open_calls setup moves are keeps t few opened e seat number =
        let state = run_of form setup moves in
        let q = runs_queued form setup moves are keeps in
        elim ((slice_get_cases state.mechs t).1) [
          | inl found ↦ (
              let owns = (owners_hold form setup moves are keeps t found.0 found.2).0 opened in
              let some = ((q.seats t found.0 found.2).runs (publishes_runs found.0.phase owns.1)).0 in
              let own = owns.0 in
              record { seat = found.0; seated = ap (slice_get state.mechs) seat ∙ found.2; some = omega (arith, some, own, number); most = omega (arith, own, number) })
          | inr past ↦ (
              let beyond : setup.seats ≤ t = subst (λ n. n ≤ t) q.count past.0 in
              let closed = ((runs_counted form setup moves are keeps).beyond t beyond).0 in
              let is = seat_word t (record_in state.words t) few in
              absurd (not_both (ap (λ w. is_open (record_phase w)) is ∙ opened) closed))
        ]

    -- the machine's own event is of its call
    own_call : (mech : Mech S W) (e : Event) → Contains (option_to_list (mech_event mech)) e → (e.seat ≡ mech.seat) × (e.number ≡ mech.number)
    own_call mech e c =
        elim (own_is form mech.phase mech) [
          | inl none ↦ absurd (in_none e (subst (λ (o : Option Event). Contains (option_to_list o) e) none c))
          | inr (inl begins) ↦ (let is = in_one _ e (mech_event mech) begins.0 c in (ap (λ (x : Event). x.seat) is, ap (λ (x : Event). x.number) is))
          | inr (inr returns) ↦ (let is = in_one _ e (mech_event mech) returns.0 c in (ap (λ (x : Event). x.seat) is, ap (λ (x : Event). x.number) is))
        ]

    module _ (setup : Setup) (move : Move) (older : List Move) (are : AreMoves form setup (move ∷ older)) (keeps : KeepsQueue form setup (move ∷ older)) (old : Mech S W) (at : slice_get (run_of form setup older).mechs move.seat ≡ Some old) where
      abbrev words : List ℕ
      words = (run_of form setup older).words

      abbrev words' : List ℕ
      words' = (run_of form setup (move ∷ older)).words

      abbrev mech : Mech S W
      mech = begun move.begins old

      abbrev new : Mech S W
      new = mech_fed form (begun move.begins old) (seen_of (mech_request form (begun move.begins old)) (run_of form setup older).words)

      mechs_are : (run_of form setup (move ∷ older)).mechs ≡ slice_set (run_of form setup older).mechs move.seat new
      mechs_are = ap (λ o. (moved_by form o move (run_of form setup older)).mechs) at

      stays : (e : Event) → IsOfCall calls (run_of form setup older).mechs e → IsOfCall calls (run_of form setup (move ∷ older)).mechs e
      stays e of =
          let number = (same_fed form mech (seen_of (mech_request form mech) words)).number in
          let grew = begun_calls move.begins old in
          subst (λ ms. IsOfCall calls ms e) (sym mechs_are) (more_calls (run_of form setup older).mechs move.seat old new e at (omega (arith, number, grew)) of)

      -- one that completes was open before the move
      completes_call : (e : Event) → Contains (completed (record_in words) (record_in words') eight_seats) e → IsOfCall calls (run_of form setup (move ∷ older)).mechs e
      completes_call e c =
          let is = completed_has (record_in words) (record_in words') eight_seats e c in
          stays e (open_calls setup older are.0 keeps.0 is.seat (eight_low is.seat is.among) is.opened e (ap (λ (x : Event). x.seat) is.is) (ap (λ (x : Event). x.number) is.is))

      -- so was the record of a seat that enters the word
      publishes_call : (e : Event) → Contains (published (queue_in words) (record_in words') (queue_seats (queue_in words'))) e → IsOfCall calls (run_of form setup (move ∷ older)).mechs e
      publishes_call e c =
          let is = published_has (queue_in words) (record_in words') (queue_seats (queue_in words')) e c in
          let few = inside_run form setup (move ∷ older) are keeps is.seat is.among in
          let was = seat_word is.seat (record_in words is.seat) few in
          let now = seat_word is.seat (record_in words' is.seat) few in
          elim (runs_later form setup move older are keeps).queue [
            | inl same ↦ absurd (not_both (subst (λ q. holds q is.seat ≡ true) same is.among) is.out)
            | inr changed ↦ (
                let opened = changed.enters is.seat is.out is.among in
                let records = changed.records is.seat in
                stays e
                (open_calls setup older are.0 keeps.0 is.seat few (ap (λ w. is_open (record_phase w)) (sym was) ∙ opened) e (ap (λ (x : Event). x.seat) is.is) (ap (λ (x : Event). x.number) is.is ∙ ap record_number (sym now ∙ records ∙ was))))
          ]

      own_of_call : (e : Event) → Contains (option_to_list (mech_event mech)) e → IsOfCall calls (run_of form setup (move ∷ older)).mechs e
      own_of_call e c =
          let q = runs_queued form setup older are.0 keeps.0 in
          let same : are.1.mech ≡ old = same_some are.1.mech old (sym are.1.seated ∙ at) in
          let can = subst (λ (m : Mech S W). CanMove form move.begins m) same are.1.can in
          let m = mover form setup move.seat (scene_of words (queue_ghosts form setup older)) move.begins old can (q.seats move.seat old at) (q.knows move.seat old at) in
          let own = own_call mech e c in
          let number = (same_fed form mech (seen_of (mech_request form mech) words)).number in
          let mine = own.1 in
          let some = (m.is.runs m.runs).0 in
          subst (λ ms. IsOfCall calls ms e) (sym mechs_are)
          (record {
            seat = new;
            seated = ap (slice_get (slice_set (run_of form setup older).mechs move.seat new)) (own.0 ∙ m.is.seat) ∙ at_set (run_of form setup older).mechs move.seat new (slice_get_within (run_of form setup older).mechs move.seat old at);
            some = omega (arith, some, mine);
            most = omega (arith, mine, number);
          })

      -- the events of a move are of such calls, in the machines that it leaves
      moved_calls : (e : Event) → Contains (events_moved form (Some old) move (run_of form setup older)) e → IsOfCall calls (run_of form setup (move ∷ older)).mechs e
      moved_calls e c =
          let after_is : (moved_by form (Some old) move (run_of form setup older)).words ≡ words' = ap (λ o. (moved_by form o move (run_of form setup older)).words) (sym at) in
          let in' = subst (λ w. Contains (completed (record_in words) (record_in w) eight_seats ++ (option_to_list (mech_event mech) ++ published (queue_in words) (record_in w) (queue_seats (queue_in w)))) e) after_is c in
          elim (Contains-append_cases (completed (record_in words) (record_in words') eight_seats) (option_to_list (mech_event mech) ++ published (queue_in words) (record_in words') (queue_seats (queue_in words'))) e in') [
            | inl done ↦ completes_call e done
            | inr rest ↦ elim (Contains-append_cases (option_to_list (mech_event mech)) (published (queue_in words) (record_in words') (queue_seats (queue_in words'))) e rest) [ inl own ↦ own_of_call e own | inr new' ↦ publishes_call e new' ]
          ]

    each_of_call : (setup : Setup) (moves : List Move) → AreMoves form setup moves → KeepsQueue form setup moves → OfCalls (events_of form setup moves) (run_of form setup moves).mechs
    each_of_call setup [] are keeps e c = absurd (in_none e c)
    each_of_call setup (move ∷ older) are keeps e c =
        let state = run_of form setup older in
        elim (Contains-append_cases (events_of form setup older) (events_moved form (slice_get state.mechs move.seat) move state) e c) [
          | inl was ↦ stays setup move older are keeps are.1.mech are.1.seated e (each_of_call setup older are.0 keeps.0 e was)
          | inr now ↦ moved_calls setup move older are keeps are.1.mech are.1.seated e (subst (λ o. Contains (events_moved form o move state) e) are.1.seated now)
        ]

    pub events_fit : EventsFit form
    events_fit setup moves are keeps = few_events calls (run_of form setup moves).events (run_of form setup moves).mechs (events_ordered form setup moves are keeps)
        (subst (λ es. OfCalls es (run_of form setup moves).mechs) (events_are form setup moves) (each_of_call setup moves are keeps))
