-- The events of every run are ordered.
use Rattle.std.proofs.Common.{◌≡◌, ◌∙◌, refl, sym, ap, subst, ℕ, ◌<◌, ◌==◌, true, List, [], ◌∷◌, ◌++◌, slice_get, slice_set, Option, Some, None, inl, inr, arith}
use Rattle.std.specs.Prelude.{◌&&◌, not, if◌then◌else◌}
use Rattle.std.specs.Option.{option_to_list}
use Rattle.std.proofs.lemmas.Bool.{cases_eq, or_cases, or_left, or_right, eq-eqb, eqb-true, true≢false}
use Rattle.std.proofs.lemmas.Option.{slice_get_within}
use Rattle.lin_report.specs.declared.calls.Op.{Op}
use Rattle.lin_report.specs.declared.events.Event.{Event}
use Rattle.step_memory.specs.Step.{seen_of}
use Rattle.word_fields.specs.Records.{record_phase, record_number}
use Rattle.word_fields.specs.Seats.{queue_seats}
use Rattle.word_fields.specs.ProvedSeats.{queue_seats_are}
use Rattle.normal_traits.specs.NormalForm.{NormalForm}
use Rattle.help_queue.specs.Gathers.{among_seats, holds, is_open}
use Rattle.help_queue_laws.specs.Ghosts.{Ghosts, no_ghosts}
use Rattle.help_queue_laws.specs.Runs.{record_in}
use Rattle.help_queue_laws.proofs.Known.QueueWords.{not_both}
use Rattle.help_queue_laws.proofs.Steps.Results.{seat_word}
use Rattle.help_queue_laws.proofs.Runs.EveryRunHolds.{at_set, beside_set, same_some}
use Rattle.help_queue_laws.proofs.Known.Scenes.{Scene, scene_of, IsIn, Later}
use Rattle.fast_slow_engine.specs.declared.setup.Setup.{Setup}
use Rattle.fast_slow_engine.specs.Mechs.{Mech}
use Rattle.fast_slow_engine.specs.PhaseTable.{mech_event, mech_fed, mech_request}
use Rattle.fast_slow_engine.specs.Runs.{Move, RunState, IsMove, AreMoves, CanMove, begun, moved_by, run_of}
use Rattle.overtaking_law.specs.Order.{publication, completion, AreOrdered}
use Rattle.overtaking_law.proofs.EventsOrdered.{are_ordered-nil}
use Rattle.run_queue.specs.QueueGhosts.{ghosts_moved, queue_ghosts}
use Rattle.run_queue.specs.Premises.{KeepsQueue}
use Rattle.run_queue.proofs.Runs.Openings.{opens_out}
use Rattle.run_queue.proofs.Runs.RunMoves.{IsQueued, mover, runs_queued, runs_later}
use Rattle.fast_slow_engine.specs.Events.{completed, published, eight_seats}
use Rattle.run_overtaking.specs.Events.{EventsOrdered}
use Rattle.run_overtaking.proofs.Events.Folded.{events_are, events_moved, events_of}
use Rattle.run_overtaking.proofs.Accounts.Runs.{inside_of, runs_counted}
use Rattle.run_overtaking.proofs.EventLaws.{eight_has}
use Rattle.run_overtaking.proofs.Events.Members.{apart_of, in_none}
use Rattle.run_overtaking.proofs.Events.StepOrder.{TellsQueue, TellsCalls, now_ordered, queue_told, own_told, others_told}

-- ---- the events of words are those of scenes

completed_same : (r s r' s' : ℕ → ℕ) (seats : List ℕ) → ((t : ℕ) → among_seats t seats ≡ true → r t ≡ s t) → ((t : ℕ) → among_seats t seats ≡ true → r' t ≡ s' t) → completed r r' seats ≡ completed s s' seats
completed_same r s r' s' [] same same' = refl
completed_same r s r' s' (t ∷ seats) same same' =
    let here = or_left (t == t) (among_seats t seats) (eq-eqb t t refl) in
    let rest = completed_same r s r' s' seats (λ u in'. same u (or_right (t == u) (among_seats u seats) in')) (λ u in'. same' u (or_right (t == u) (among_seats u seats) in')) in
    let part : ℕ → ℕ → List Event → List Event = λ w w' es. if is_open (record_phase w) && not (is_open (record_phase w')) then completion t (record_number w) ∷ es else es in
    ap (λ w. part w (r' t) (completed r r' seats)) (same t here) ∙ ap (λ w. part (s t) w (completed r r' seats)) (same' t here) ∙ ap (part (s t) (s' t)) rest

published_same : (q : ℕ) (r s : ℕ → ℕ) (seats : List ℕ) → ((t : ℕ) → among_seats t seats ≡ true → r t ≡ s t) → published q r seats ≡ published q s seats
published_same q r s [] same = refl
published_same q r s (t ∷ seats) same =
    let here = or_left (t == t) (among_seats t seats) (eq-eqb t t refl) in
    let rest = published_same q r s seats (λ u in'. same u (or_right (t == u) (among_seats u seats) in')) in
    let part : ℕ → List Event → List Event = λ w es. if holds q t then es else publication t (record_number w) ∷ es in
    ap (λ w. part w (published q r seats)) (same t here) ∙ ap (part (s t)) rest

-- ---- the eight seats

abbrev Low : List ℕ → Type 0
Low [] = Unit {0}
Low (s ∷ seats) = (s < 8) × Low seats

low_among : (t : ℕ) (seats : List ℕ) → Low seats → among_seats t seats ≡ true → t < 8
low_among t [] low in' = absurd (true≢false (sym in'))
low_among t (s ∷ seats) low in' = elim (or_cases (s == t) (among_seats t seats) in') [ inl same ↦ subst (λ k. k < 8) (eqb-true s t same) low.0 | inr rest ↦ low_among t seats low.1 rest ]

pub eight_low : (t : ℕ) → among_seats t eight_seats ≡ true → t < 8
eight_low t in' = low_among t eight_seats (omega arith, (omega arith, (omega arith, (omega arith, (omega arith, (omega arith, (omega arith, (omega arith, tt)))))))) in'

-- ---- runs

module _ {S W : Type 0} where
  -- the events are ordered, and tell of the queue and of each machine: the invariant of the induction over moves
  record IsTold (events : List Event) (a : Scene) (mechs : List (Mech S W)) : Type 0 where
    pub ordered : AreOrdered events
    pub queue : TellsQueue events a
    pub calls : (i : ℕ) (mech : Mech S W) → slice_get mechs i ≡ Some mech → TellsCalls events i mech

  begun_told : (events : List Event) (i : ℕ) (begins : Option Op) (old : Mech S W) → TellsCalls events i old → TellsCalls events i (begun begins old)
  begun_told events i None old h = h
  begun_told events i (Some op) old h = record {
    begun' = λ n c. elim (h.begun' n c) [ inl less ↦ inl (omega (arith, less)) | inr at ↦ (let same = at.0 in inl (omega (arith, same))) ];
    returned' = λ n c. elim (h.returned' n c) [ inl less ↦ inl (omega (arith, less)) | inr at ↦ (let same = at.0 in inl (omega (arith, same))) ];
  }

  module _ (form : NormalForm S W) where
    moved : (setup : Setup) (move : Move) (state : RunState S W) (ghosts : Ghosts) (o : Option (Mech S W)) → slice_get state.mechs move.seat ≡ o → IsMove form state move → IsQueued setup state ghosts
        → (let a = scene_of state.words ghosts in
        let b = scene_of (moved_by form o move state).words (ghosts_moved form o move state ghosts) in
        Later setup.seats move.seat a b → ((t : ℕ) → IsIn a t → t < 8) → ((t : ℕ) → IsIn b t → t < 8) → (events : List Event) → IsTold events a state.mechs → IsTold (events ++ events_moved form o move state) b (moved_by form o move state).mechs)
    moved setup move state ghosts None at is q l real real' events h = (let none : None ≡ Some is.mech = sym at ∙ is.seated in absurd cc)
    moved setup move state ghosts (Some old) at is q l real real' events h =
        let i = move.seat in
        let same : is.mech ≡ old = same_some is.mech old (sym is.seated ∙ at) in
        let can = subst (λ (m : Mech S W). CanMove form move.begins m) same is.can in
        let m = mover form setup i (scene_of state.words ghosts) move.begins old can (q.seats i old at) (q.knows i old at) in
        let mech = begun move.begins old in
        let seen = seen_of (mech_request form mech) state.words in
        let new = mech_fed form mech seen in
        let seated : i < setup.seats = subst (λ n. i < n) q.count (slice_get_within state.mechs i old at) in
        let a = scene_of state.words ghosts in
        let b = scene_of (moved_by form (Some old) move state).words (ghosts_moved form (Some old) move state ghosts) in
        let own = m.is.seat in
        let later : Later setup.seats mech.seat a b = subst (λ k. Later setup.seats k a b) (sym own) l in
        let inside : mech.seat < setup.seats = subst (λ k. k < setup.seats) (sym own) seated in
        let calls : TellsCalls events mech.seat mech = subst (λ k. TellsCalls events k mech) (sym own) (begun_told events i move.begins old (h.calls i old at)) in
        let apart = apart_of (queue_seats b.queue) (queue_seats_are b.queue).differ in
        let words' = (moved_by form (Some old) move state).words in
        let last = published a.queue b.records (queue_seats b.queue) in
        let first = completed a.records b.records eight_seats in
        let to : events ++ (first ++ (option_to_list (mech_event mech) ++ last)) ≡ events ++ events_moved form (Some old) move state =
        ap (λ es. events ++ (es ++ (option_to_list (mech_event mech) ++ last)))
        (completed_same a.records (record_in state.words) b.records (record_in words') eight_seats (λ t in'. seat_word t _ (eight_low t in')) (λ t in'. seat_word t _ (eight_low t in')))
        ∙ ap (λ es. events ++ (completed (record_in state.words) (record_in words') eight_seats ++ (option_to_list (mech_event mech) ++ es))) (published_same a.queue b.records (record_in words') (queue_seats b.queue) (λ t in'. seat_word t _ (real' t in'))) in
        let ordered = now_ordered form setup.seats setup.few_seats mech seen m.runs inside a b later real real' apart eight_has eight_low events h.ordered h.queue calls in
        let queue = queue_told form setup.seats setup.few_seats mech seen m.runs inside a b later real real' apart eight_has eight_low events h.ordered h.queue calls in
        let mine = own_told form setup.seats setup.few_seats mech seen m.runs inside a b later real real' apart eight_has eight_low events h.ordered h.queue calls in
        let others = others_told form setup.seats setup.few_seats mech seen m.runs inside a b later real real' apart eight_has eight_low events h.ordered h.queue calls in
        record {
          ordered = subst AreOrdered to ordered;
          queue = subst (λ es. TellsQueue es b) to queue;
          calls = λ u mate found. elim (cases_eq u i) [
            | inl here ↦ (
                let is_new : new ≡ mate = same_some new mate (sym (at_set state.mechs i new (slice_get_within state.mechs i old at)) ∙ subst (λ t. slice_get (slice_set state.mechs i new) t ≡ Some mate) here found) in
                subst (λ k. TellsCalls (events ++ events_moved form (Some old) move state) k mate) (own ∙ sym here) (subst (λ (k : Mech S W). TellsCalls (events ++ events_moved form (Some old) move state) mech.seat k) is_new (subst (λ es. TellsCalls es mech.seat new) to mine)))
            | inr other ↦ subst (λ es. TellsCalls es u mate) to (others u mate (λ same'. other (same' ∙ own)) (h.calls u mate (sym (beside_set state.mechs i u new other) ∙ found)))
          ];
        }

    pub inside_run : (setup : Setup) (moves : List Move) → AreMoves form setup moves → KeepsQueue form setup moves → (t : ℕ) → IsIn (scene_of (run_of form setup moves).words (queue_ghosts form setup moves)) t → t < 8
    inside_run setup moves are keeps t in' =
        let less = inside_of (scene_of (run_of form setup moves).words (queue_ghosts form setup moves)) setup.seats (runs_counted form setup moves are keeps).beyond t in' in
        let few = setup.few_seats in omega (arith, less, few)

    told : (setup : Setup) (moves : List Move) → AreMoves form setup moves → KeepsQueue form setup moves → IsTold (events_of form setup moves) (scene_of (run_of form setup moves).words (queue_ghosts form setup moves)) (run_of form setup moves).mechs
    told setup [] are keeps = record {
      ordered = are_ordered-nil;
      queue = record {
        published' = λ t n c. absurd (in_none _ c);
        completed' = λ t n c. absurd (in_none _ c);
        waits = λ t in' opened. absurd (not_both in' (opens_out form.opening form.opens setup.cap t));
      };
      calls = λ i mech found. record { begun' = λ n c. absurd (in_none _ c); returned' = λ n c. absurd (in_none _ c) };
    }
    told setup (move ∷ older) are keeps =
        let state = run_of form setup older in
        moved setup move state (queue_ghosts form setup older) (slice_get state.mechs move.seat) refl are.1 (runs_queued form setup older are.0 keeps.0) (runs_later form setup move older are keeps) (inside_run setup older are.0 keeps.0) (inside_run setup (move ∷ older) are keeps)
        (events_of form setup older) (told setup older are.0 keeps.0)

    pub events_ordered : EventsOrdered form
    events_ordered setup moves are keeps = subst AreOrdered (events_are form setup moves) (told setup moves are keeps).ordered
