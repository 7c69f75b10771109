-- The ticks among the events of a step are those that the machine draws.
use Rattle.std.proofs.Common.{◌≡◌, ◌∙◌, refl, ap, ℕ, ◌&&◌, Bool, if◌then◌else◌, List, [], ◌∷◌, ◌++◌, append-nil, inl, inr}
use Rattle.std.specs.Prelude.{filter, not}
use Rattle.std.specs.Option.{option_to_list}
use Rattle.std.proofs.lemmas.Bool.{cases_Bool}
use Rattle.std.proofs.lemmas.List.Elements.{filter-append}
use Rattle.lin_report.specs.declared.events.Event.{Event}
use Rattle.word_fields.specs.Records.{record_phase, record_number}
use Rattle.word_fields.specs.Seats.{queue_seats}
use Rattle.help_queue.specs.Gathers.{holds, is_open}
use Rattle.fast_slow_engine.specs.declared.phases.Phase.{Phase}
use Rattle.fast_slow_engine.specs.declared.phases.Phase.TheVariants as phase
use Rattle.fast_slow_engine.specs.Mechs.{Mech}
use Rattle.fast_slow_engine.specs.PhaseTable.{event_in, mech_event}
use Rattle.overtaking_law.specs.Order.{publication, completion}
use Rattle.fast_slow_engine.specs.Events.{completed, eight_seats, is_tick, published, queue_word, record_word_of, step_events}

abbrev pub tick_events : List Event → List Event
tick_events events = filter (λ (event : Event). is_tick event.kind) events

none_completed : (r r' : ℕ → ℕ) (seats : List ℕ) → tick_events (completed r r' seats) ≡ []
none_completed r r' [] = refl
none_completed r r' (t ∷ seats) =
    let part : Bool → List Event = λ b. if b then completion t (record_number (r t)) ∷ completed r r' seats else completed r r' seats in
    elim (cases_Bool (is_open (record_phase (r t)) && not (is_open (record_phase (r' t))))) [ inl does ↦ ap (λ b. tick_events (part b)) does ∙ none_completed r r' seats | inr none ↦ ap (λ b. tick_events (part b)) none ∙ none_completed r r' seats ]

none_published : (q : ℕ) (r : ℕ → ℕ) (seats : List ℕ) → tick_events (published q r seats) ≡ []
none_published q r [] = refl
none_published q r (t ∷ seats) =
    let part : Bool → List Event = λ b. if b then published q r seats else publication t (record_number (r t)) ∷ published q r seats in
    elim (cases_Bool (holds q t)) [ inl was ↦ ap (λ b. tick_events (part b)) was ∙ none_published q r seats | inr out ↦ ap (λ b. tick_events (part b)) out ∙ none_published q r seats ]

module _ {S W : Type 0} where
  tick_kept : (p : Phase S W) (mech : Mech S W) → tick_events (option_to_list (event_in p mech)) ≡ option_to_list (event_in p mech)
  tick_kept phase.Idle mech = refl
  tick_kept phase.Begin mech = refl
  tick_kept phase.Look mech = refl
  tick_kept (phase.Generate s step) mech = refl
  tick_kept (phase.Apply run stores step) mech = refl
  tick_kept (phase.Wrap wrap) mech = refl
  tick_kept (phase.Announce step) mech = refl
  tick_kept (phase.Enter owner) mech = refl
  tick_kept phase.Drive mech = refl
  tick_kept (phase.Help drives help) mech = refl
  tick_kept phase.Collect mech = refl
  tick_kept (phase.Value reference) mech = refl
  tick_kept (phase.End reply) mech = refl

  pub step_ticks : (mech : Mech S W) (words words' : List ℕ) → tick_events (step_events mech words words') ≡ option_to_list (mech_event mech)
  step_ticks mech words words' =
      let first = completed (record_word_of words) (record_word_of words') eight_seats in
      let own = option_to_list (mech_event mech) in
      let last = published (queue_word words) (record_word_of words') (queue_seats (queue_word words')) in
      filter-append (λ (event : Event). is_tick event.kind) first (own ++ last)
      ∙ ap (λ es. es ++ tick_events (own ++ last)) (none_completed (record_word_of words) (record_word_of words') eight_seats)
      ∙ filter-append (λ (event : Event). is_tick event.kind) own last
      ∙ ap (λ es. tick_events own ++ es) (none_published (queue_word words) (record_word_of words') (queue_seats (queue_word words')))
      ∙ append-nil (tick_events own) ∙ tick_kept mech.phase mech
