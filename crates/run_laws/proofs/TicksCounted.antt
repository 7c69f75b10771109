-- The tick counter counts the ticks that were drawn.
use Rattle.std.proofs.Common.{arith, ◌≡◌, ◌∙◌, refl, sym, subst, ℕ, ◌+◌, ◌-◌, ◌*◌, ◌<◌, ◌≤◌, ◌^◌, false, List, [], ◌∷◌, length, length-append, length-set, get_or, slice_get, slice_set, Option, Some, None, All, ap, inl}
use Rattle.std.specs.Prelude.{sum_by}
use Rattle.std.specs.Option.{option_to_list}
use Rattle.std.proofs.lemmas.List.Elements.{filter-append}
use Rattle.std.proofs.lemmas.List.Sums.{sum_by-le, sum_by-set}
use Rattle.std.proofs.lemmas.Option.{get_or_from_slice_get, slice_get-get_or, slice_get_within}
use Rattle.lin_report.specs.declared.calls.Op.{Op}
use Rattle.lin_report.specs.declared.calls.Receipt.{Receipt}
use Rattle.lin_report.specs.declared.events.Event.{Event}
use Rattle.step_memory.specs.Step.{seen_of, words_after}
use Rattle.step_memory.proofs.Words.{length-words_after}
use Rattle.node_arena.proofs.Openings.{opens_zero_at}
use Rattle.node_arena.proofs.ZerosOpen.{length-opening_words, opening_each}
use Rattle.normal_traits.specs.NormalForm.{NormalForm}
use Rattle.fast_slow_engine.specs.declared.setup.Setup.{Setup}
use Rattle.fast_slow_engine.specs.Mechs.{Mech}
use Rattle.fast_slow_engine.specs.Events.{is_tick, step_events}
use Rattle.fast_slow_engine.specs.PhaseTable.{mech_event, mech_fed, mech_request, mech_turn, rests, ticks_left}
use Rattle.fast_slow_engine.specs.Runs.{Move, RunState, CanMove, IsMove, AreMoves, begun, opening_run, returned, run_of, run_step}
use Rattle.fast_slow_engine.proofs.Events.{step_ticks, tick_events}
use Rattle.fast_slow_engine.proofs.SameCalls.{same_fed}
use Rattle.run_laws.specs.Seats.{EachMech}
use Rattle.run_laws.specs.Ticks.{MoveKeepsTicks, KeepsTicks, TicksCount}
use Rattle.run_laws.proofs.Steps.{each_set, move_steps}
use Rattle.run_laws.proofs.MachinesKept.{new_mech, seats_stay}
use Rattle.run_laws.proofs.StepKinds.{StepKind, begins, returns, goes, kind_of, rests_none}

module _ {S W : Type 0} where
  -- how many ticks a seat has drawn
  abbrev pub ticks_had : Mech S W → ℕ
  ticks_had mech = 2 * mech.number - ticks_left mech.phase

  -- a seat has begun a call for each tick that is left, and no more calls than there can be
  pub record IsFew (mech : Mech S W) : Type 0 where
    pub number : mech.number ≤ 65535
    pub left : ticks_left mech.phase ≤ 2 * mech.number

  pub each_all : (P : Mech S W → Type 0) (mechs : List (Mech S W)) → EachMech (λ seat mech. P mech) mechs → All P mechs
  each_all P mechs each k d inside = each k (get_or mechs k d) (slice_get-get_or mechs k d inside)

  pub set_sum : (f : Mech S W → ℕ) (mechs : List (Mech S W)) (i : ℕ) (old new : Mech S W) → slice_get mechs i ≡ Some old → sum_by f (slice_set mechs i new) + f old ≡ sum_by f mechs + f new
  set_sum f mechs i old new at =
      subst (λ (m : Mech S W). sum_by f (slice_set mechs i new) + f m ≡ sum_by f mechs + f new) (get_or_from_slice_get mechs i old old at) (sum_by-set f mechs i new old (slice_get_within mechs i old at))

  module _ (form : NormalForm S W) where
    -- a machine with its call begun
    pub record IsBegun (old mech : Mech S W) : Type 0 where
      pub runs : rests mech.phase ≡ false
      pub few : IsFew mech
      pub had : ticks_had mech ≡ ticks_had old

    pub begun_few : (begins : Option Op) (mech : Mech S W) → CanMove form begins mech → IsFew mech → IsBegun mech (begun begins mech)
    begun_few None mech can few = record { runs = can; few = few; had = refl }
    begun_few (Some op) mech can few =
        let none = rests_none mech.phase can.0 in
        record { runs = refl; few = record { number = omega (arith, can.1); left = omega arith }; had = omega (arith, none) }

    -- the tick counter of a run
    pub record CountsTicks (state : RunState S W) : Type 0 where
      pub inside : 0 < length state.words
      pub few : EachMech (λ seat mech. IsFew mech) state.mechs
      pub seats : length state.mechs ≤ 8
      pub word : get_or state.words 0 0 ≡ sum_by ticks_had state.mechs
      pub events : get_or state.words 0 0 ≡ length (tick_events state.events)

    pub room : (state : RunState S W) → CountsTicks state → get_or state.words 0 0 + 1 < 2 ^ 64
    room state counts =
        let most = sum_by-le ticks_had 131070 state.mechs (each_all (λ mech. ticks_had mech ≤ 131070) state.mechs (λ seat mech at. omega (arith, (counts.few seat mech at).number))) in
        omega (arith, most, counts.seats, counts.word)

    -- the step that a move makes
    abbrev pub KindOf : RunState S W → Mech S W → Type 0
    KindOf state mech =
        let seen = seen_of (mech_request form mech) state.words in
        StepKind mech.phase mech (mech_fed form mech seen) (returned (mech_turn mech seen)) (length (option_to_list (mech_event mech))) (get_or state.words 0 0) (get_or (words_after (mech_request form mech) state.words) 0 0)

    pub move_kind : (state : RunState S W) (move : Move) → CountsTicks state → (is : IsMove form state move) → MoveKeepsTicks form state move → KindOf state (begun move.begins is.mech)
    move_kind state move counts is keeps =
        let one = begun_few move.begins is.mech is.can (counts.few move.seat is.mech is.seated) in
        kind_of form (begun move.begins is.mech).phase (begun move.begins is.mech) state.words one.runs (keeps is.mech is.seated) counts.inside (room state counts)

    -- the ticks of a step are those of the machine and those of the counter
    pub record Adds (old new : Mech S W) (events before after : ℕ) : Type 0 where
      pub had : ticks_had new ≡ ticks_had old + events
      pub word : after ≡ before + events
      pub left : ticks_left new.phase ≤ ticks_left old.phase

    adds : (old new : Mech S W) (lines : List Receipt) (events before after : ℕ) → new.number ≡ old.number → ticks_left old.phase ≤ 2 * old.number → StepKind old.phase old new lines events before after → Adds old new events before after
    adds old new lines events before after number left kind =
        elim kind [
          | begins two one begin line event word ↦ record { had = omega (arith, number, left, two, one, event); word = omega (arith, event, word); left = omega (arith, two, one) }
          | returns reply one none line event word ↦ record { had = omega (arith, number, left, one, none, event); word = omega (arith, event, word); left = omega (arith, one, none) }
          | goes one still begin line event word ↦ record { had = omega (arith, number, left, one, still, event); word = omega (arith, event, word); left = omega (arith, one, still) }
        ]

    counts_more : (state : RunState S W) (move : Move) → CountsTicks state → IsMove form state move → MoveKeepsTicks form state move → CountsTicks (run_step form state move)
    counts_more state move counts is keeps =
        let one = begun_few move.begins is.mech is.can (counts.few move.seat is.mech is.seated) in
        let mech = begun move.begins is.mech in
        let seen = seen_of (mech_request form mech) state.words in
        let new = mech_fed form mech seen in
        let same = same_fed form mech seen in
        let more = adds mech new _ _ _ _ same.number one.few.left (move_kind state move counts is keeps) in
        let sums = set_sum ticks_had state.mechs move.seat is.mech new is.seated in
        subst CountsTicks (sym (move_steps form state move is.mech is.seated)) (record {
          inside = subst (λ n. 0 < n) (sym (length-words_after (mech_request form mech) state.words)) counts.inside;
          few = each_set (λ seat m. IsFew m) (λ seat m. IsFew m) state.mechs move.seat is.mech new is.seated counts.few (λ seat m h. h)
              (record { number = omega (arith, same.number, one.few.number); left = omega (arith, same.number, one.few.left, more.left) });
          seats = omega (arith, length-set state.mechs move.seat new, counts.seats);
          word = omega (arith, sums, more.had, more.word, one.had, counts.word);
          events = (
              let words' = words_after (mech_request form mech) state.words in
              let parts = ap length (filter-append (λ (event : Event). is_tick event.kind) state.events (step_events mech state.words words')) in
              let both = length-append (tick_events state.events) (tick_events (step_events mech state.words words')) in
              let own = ap length (step_ticks mech state.words words') in
              omega (arith, parts, both, own, more.word, counts.events));
        })

    pub opening_word_at : (setup : Setup) → get_or (opening_run form setup).words 0 0 ≡ 0
    opening_word_at setup = opening_each form.opening setup.cap 0 (omega arith) ∙ opens_zero_at form.opening form.opens 0 (inl (omega arith))

    counts_open : (setup : Setup) → CountsTicks (opening_run form setup)
    counts_open setup =
        let state = opening_run form setup in
        let none = sum_by-le ticks_had 0 state.mechs (each_all (λ mech. ticks_had mech ≤ 0) state.mechs (λ seat mech at. subst (λ (m : Mech S W). ticks_had m ≤ 0) (sym (new_mech form setup seat mech at)) (omega arith))) in
        record {
          inside = omega (arith, length-opening_words form.opening setup.cap);
          few = λ seat mech at. subst IsFew (sym (new_mech form setup seat mech at)) (record { number = omega arith; left = omega arith });
          seats = omega (arith, (seats_stay form setup [] tt).count, setup.few_seats);
          word = omega (arith, opening_word_at setup, none);
          events = opening_word_at setup;
        }

    pub counts_ticks : (setup : Setup) (moves : List Move) → AreMoves form setup moves → KeepsTicks form setup moves → CountsTicks (run_of form setup moves)
    counts_ticks setup [] are keeps = counts_open setup
    counts_ticks setup (move ∷ older) are keeps = counts_more (run_of form setup older) move (counts_ticks setup older are.0 keeps.0) are.1 keeps.1

    pub ticks_count : TicksCount form
    ticks_count setup moves are keeps = (counts_ticks setup moves are keeps).events
