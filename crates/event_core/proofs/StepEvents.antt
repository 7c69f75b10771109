-- The events of a step are those that are read off the word at its place.
use Rattle.std.proofs.Common.{rules, arith, subst, ◌≤◌, ◌≡◌, ◌≢◌, ◌∙◌, refl, sym, ap, ℕ, zero, suc, ◌+◌, ◌-◌, ◌<◌, ◌==◌, ◌&&◌, not, if◌then◌else◌, Bool, true, false, List, [], ◌∷◌, ◌++◌, slice_index, Option, Some, None, inl, inr}
use Rattle.std.specs.Prelude.{is_some, nat_le, nat_lt, unwrap_or}
use Rattle.std.specs.Option.{option_to_list}
use Rattle.std.proofs.lemmas.Bool.{and_parts, cases_Bool, cases_eq, eq-eqb, eqb-false, le-leb, leb-true, le-ltb, lt-ltb, ltb-true, ne_eqb, or_left, or_parts, or_right, true≢false}
use Rattle.lin_report.specs.declared.events.Event.{Event}
use Rattle.step_memory.specs.declared.steps.Request.{Request}
use Rattle.step_memory.specs.declared.steps.Request.TheVariants.{Load, Store, Exchange, Add}
use Rattle.step_memory.specs.Step.{requested_place, words_after}
use Rattle.step_memory.proofs.Words.{load_keeps, word_elsewhere}
use Rattle.word_fields.specs.Records.{record_phase, record_number}
use Rattle.word_fields.specs.Seats.{queue_seats}
use Rattle.node_arena.specs.declared.places.TheConstants.{QUEUE, RECORDS}
use Rattle.normal_traits.specs.NormalForm.{NormalForm}
use Rattle.help_queue.specs.Gathers.{among_seats, is_open}
use Rattle.overtaking_law.specs.Order.{completion}
use Rattle.fast_slow_engine.specs.Events.{completed, eight_seats, published, queue_word, record_word_of, step_events}
use Rattle.fast_slow_engine.specs.Mechs.{Mech}
use Rattle.fast_slow_engine.specs.declared.phases.Phase.{Phase}
use Rattle.fast_slow_engine.specs.declared.phases.Phase.TheVariants.{Idle, Begin, Look, Generate, Apply, Wrap, Announce, Enter, Drive, Help, Collect, Value, End}
use Rattle.fast_slow_engine.specs.PhaseTable.{ends, event_in, mech_event, mech_request, request_in}
use Rattle.run_overtaking.proofs.OrderLaws.{eight_low}
use Rattle.event_core.specs.declared.watching.Mark.{Mark}
use Rattle.event_core.specs.Noted.{completed_at, marked, noted, published_at, tells_nothing}
use Rattle.event_core.specs.Watching.{mark_of}
use Rattle.event_core.proofs.Publications.{none_published}

-- ---- marks

the_mark : (b : Bool) (mark other : Mark) → Some mark ≡ (if b then None else Some other) → mark ≡ other
the_mark true mark other is = absurd (search rules)
the_mark false mark other is = ap (λ o. unwrap_or o mark) is

no_mark : (b : Bool) (other : Mark) → None ≡ (if b then None else Some other) → b ≡ true
no_mark true other is = refl
no_mark false other is = absurd (search rules)

pub none_is : (o : Option Mark) → ((mark : Mark) → o ≡ Some mark → ⊥) → None ≡ o
none_is None other = refl
none_is (Some mark) other = absurd (other mark refl)

-- ---- completions

closed_not : (b : Bool) → (b && not b) ≡ false
closed_not true = refl
closed_not false = refl

module _ (r r' : ℕ → ℕ) where
  abbrev closes : ℕ → Bool
  closes t = is_open (record_phase (r t)) && not (is_open (record_phase (r' t)))

  abbrev after : ℕ → List Event → Bool → List Event
  after t events b = if b then completion t (record_number (r t)) ∷ events else events

  -- a record that stayed has not closed
  same_stays : (t : ℕ) (seats : List ℕ) → r' t ≡ r t → completed r r' (t ∷ seats) ≡ completed r r' seats
  same_stays t seats same = ap (after t (completed r r' seats)) (ap (λ w. is_open (record_phase (r t)) && not (is_open (record_phase w))) same ∙ closed_not (is_open (record_phase (r t))))

  module _ (t : ℕ) (others : (s : ℕ) → s ≢ t → r' s ≡ r s) where
    -- no other has closed
    none_closed : (seats : List ℕ) → among_seats t seats ≡ false → completed r r' seats ≡ []
    none_closed [] none = refl
    none_closed (s ∷ seats) none =
        let parts = or_parts (s == t) (among_seats t seats) none in
        same_stays s seats (others s (eqb-false s t parts.0)) ∙ none_closed seats parts.1

    -- so the completion is its own, if it is one
    one_closed : (before behind : List ℕ) → among_seats t before ≡ false → among_seats t behind ≡ false → completed r r' (before ++ t ∷ behind) ≡ (if closes t then completion t (record_number (r t)) ∷ [] else [])
    one_closed [] behind none none' = ap (λ es. after t es (closes t)) (none_closed behind none')
    one_closed (s ∷ before) behind none none' =
        let parts = or_parts (s == t) (among_seats t before) none in
        same_stays s (before ++ t ∷ behind) (others s (eqb-false s t parts.0)) ∙ one_closed before behind parts.1 none'

some_or_none : (e : Event) (b : Bool) → (if b then e ∷ [] else []) ≡ option_to_list (if b then Some e else None)
some_or_none e true = refl
some_or_none e false = refl

module _ (r r' : ℕ → ℕ) where
  eight_closed : (t : ℕ) → t < 8 → ((s : ℕ) → s ≢ t → r' s ≡ r s) → completed r r' eight_seats ≡ (if is_open (record_phase (r t)) && not (is_open (record_phase (r' t))) then completion t (record_number (r t)) ∷ [] else [])
  eight_closed zero few others = one_closed r r' 0 others [] (1 ∷ 2 ∷ 3 ∷ 4 ∷ 5 ∷ 6 ∷ 7 ∷ []) refl refl
  eight_closed (suc zero) few others = one_closed r r' 1 others (0 ∷ []) (2 ∷ 3 ∷ 4 ∷ 5 ∷ 6 ∷ 7 ∷ []) refl refl
  eight_closed (suc (suc zero)) few others = one_closed r r' 2 others (0 ∷ 1 ∷ []) (3 ∷ 4 ∷ 5 ∷ 6 ∷ 7 ∷ []) refl refl
  eight_closed (suc (suc (suc zero))) few others = one_closed r r' 3 others (0 ∷ 1 ∷ 2 ∷ []) (4 ∷ 5 ∷ 6 ∷ 7 ∷ []) refl refl
  eight_closed (suc (suc (suc (suc zero)))) few others = one_closed r r' 4 others (0 ∷ 1 ∷ 2 ∷ 3 ∷ []) (5 ∷ 6 ∷ 7 ∷ []) refl refl
  eight_closed (suc (suc (suc (suc (suc zero))))) few others = one_closed r r' 5 others (0 ∷ 1 ∷ 2 ∷ 3 ∷ 4 ∷ []) (6 ∷ 7 ∷ []) refl refl
  eight_closed (suc (suc (suc (suc (suc (suc zero)))))) few others = one_closed r r' 6 others (0 ∷ 1 ∷ 2 ∷ 3 ∷ 4 ∷ 5 ∷ []) (7 ∷ []) refl refl
  eight_closed (suc (suc (suc (suc (suc (suc (suc zero))))))) few others = one_closed r r' 7 others (0 ∷ 1 ∷ 2 ∷ 3 ∷ 4 ∷ 5 ∷ 6 ∷ []) [] refl refl
  eight_closed (suc (suc (suc (suc (suc (suc (suc (suc n)))))))) few others = absurd (omega (arith, few))

  none_closed_of : (seats : List ℕ) → ((s : ℕ) → among_seats s seats ≡ true → r' s ≡ r s) → completed r r' seats ≡ []
  none_closed_of [] same = refl
  none_closed_of (s ∷ seats) same =
      same_stays r r' s seats (same s (or_left (s == s) (among_seats s seats) (eq-eqb s s refl))) ∙ none_closed_of seats (λ t among. same t (or_right (s == t) (among_seats t seats) among))

-- a place at a record is one of the eight
outside : {A : Type 0} (place s : ℕ) → RECORDS + s ≡ place → s < 8 → (nat_le RECORDS place && nat_lt place (RECORDS + 8)) ≡ false → A
outside place s same few without =
    let low : nat_le RECORDS place ≡ true = le-leb RECORDS place (omega (arith, same)) in
    let high : nat_lt place (RECORDS + 8) ≡ true = lt-ltb place (RECORDS + 8) (omega (arith, same, few)) in
    absurd (true≢false (sym (ap (λ b. b && nat_lt place (RECORDS + 8)) low ∙ high) ∙ without))

module _ (request : Request) (words : List ℕ) where
  abbrev place : ℕ
  place = requested_place request

  abbrev words' : List ℕ
  words' = words_after request words

  beside : (p : ℕ) → p ≢ place → slice_index words' p ≡ slice_index words p
  beside p other = word_elsewhere request words p other

  -- the completion of a step
  completed_is : completed (record_word_of words) (record_word_of words') eight_seats ≡ option_to_list (completed_at place (slice_index words place) (slice_index words' place))
  completed_is =
      let closing : Bool = is_open (record_phase (slice_index words place)) && not (is_open (record_phase (slice_index words' place))) in
      let event = completion (place - RECORDS) (record_number (slice_index words place)) in
      elim (cases_Bool (nat_le RECORDS place && nat_lt place (RECORDS + 8))) [
        | inl within ↦ (
            let low = leb-true RECORDS place (and_parts (nat_le RECORDS place) (nat_lt place (RECORDS + 8)) within).0 in
            let high = ltb-true place (RECORDS + 8) (and_parts (nat_le RECORDS place) (nat_lt place (RECORDS + 8)) within).1 in
            let t = place - RECORDS in
            let here : RECORDS + t ≡ place = omega (arith, low) in
            let few : t < 8 = omega (arith, high, low) in
            eight_closed (record_word_of words) (record_word_of words') t few (λ s other. beside (RECORDS + s) (λ same. other (omega (arith, same))))
            ∙ ap (λ p. if is_open (record_phase (slice_index words p)) && not (is_open (record_phase (slice_index words' p))) then completion t (record_number (slice_index words p)) ∷ [] else []) here
            ∙ some_or_none event closing
            ∙ ap (λ b. option_to_list (if b && closing then Some event else None)) (sym within))
        | inr without ↦ none_closed_of (record_word_of words) (record_word_of words') eight_seats (λ s among. beside (RECORDS + s) (λ same. outside place s same (eight_low s among) without))
            ∙ ap (λ b. option_to_list (if b && closing then Some event else None)) (sym without)
      ]

  -- the publications of a step
  published_is : published (queue_word words) (record_word_of words') (queue_seats (queue_word words')) ≡ published_at place (slice_index words place) words'
  published_is =
      let there = published (queue_word words) (record_word_of words') (queue_seats (queue_word words')) in
      elim (cases_eq place QUEUE) [
        | inl at ↦ ap (λ p. published (slice_index words p) (record_word_of words') (queue_seats (queue_word words'))) (sym at) ∙ ap (λ b. if b then published (slice_index words place) (record_word_of words') (queue_seats (queue_word words')) else []) (sym (eq-eqb place QUEUE at))
        | inr other ↦ (
            let same : queue_word words' ≡ queue_word words = beside QUEUE (λ e. other (sym e)) in
            ap (λ q. published (queue_word words) (record_word_of words') (queue_seats q)) same
            ∙ none_published (queue_word words) (record_word_of words') (queue_seats (queue_word words)) (λ t among. among)
            ∙ ap (λ b. if b then published (slice_index words place) (record_word_of words') (queue_seats (queue_word words')) else []) (sym (ne_eqb place QUEUE other)))
      ]

  pub step_noted : {S W : Type 0} (mech : Mech S W) → step_events mech words words' ≡ noted (mech_event mech) place (slice_index words place) words'
  step_noted mech = ap (λ es. es ++ (option_to_list (mech_event mech) ++ published (queue_word words) (record_word_of words') (queue_seats (queue_word words')))) completed_is
      ∙ ap (λ es. option_to_list (completed_at place (slice_index words place) (slice_index words' place)) ++ (option_to_list (mech_event mech) ++ es)) published_is

module _ {S W : Type 0} (form : NormalForm S W) (mech : Mech S W) (words words' now now' : List ℕ) (request : Request) (place before : ℕ) (tick : Option Event) (asks : request ≡ mech_request form mech) (at : place ≡ requested_place request)
    (same : now ≡ words) (found : before ≡ slice_index now place) (left : words' ≡ words_after request words) (same' : now' ≡ words') (drawn : tick ≡ mech_event mech) where
  -- what is noted of a step is what it tells
  pub noted_step : noted tick place before now' ≡ step_events mech words words'
  noted_step =
      ap (λ t. noted t place before now') drawn
      ∙ ap (λ ws. noted (mech_event mech) place before ws) (same' ∙ left)
      ∙ ap (λ b. noted (mech_event mech) place b (words_after request words)) (found ∙ ap (λ ws. slice_index ws place) same)
      ∙ ap (λ p. noted (mech_event mech) p (slice_index words p) (words_after request words)) at
      ∙ sym (step_noted request words mech)
      ∙ ap (step_events mech words) (sym left)

-- a step at a place beyond the records tells no event, where it draws no tick
module _ (place before : ℕ) (words : List ℕ) (beyond : RECORDS + 8 ≤ place) where
  abbrev closing : Bool
  closing = is_open (record_phase before) && not (is_open (record_phase (slice_index words place)))

  abbrev closed_with : Bool → List Event
  closed_with within = option_to_list (if within && closing then Some (completion (place - RECORDS) (record_number before)) else None)

  never : (b : Bool) → (b && false) ≡ false
  never true = refl
  never false = refl

  none_noted : noted None place before words ≡ []
  none_noted =
      let past : nat_lt place (RECORDS + 8) ≡ false = le-ltb place (RECORDS + 8) beyond in
      let other : (place == QUEUE) ≡ false = ne_eqb place QUEUE (λ e. absurd (omega (arith, e, beyond))) in
      ap (λ b. closed_with (nat_le RECORDS place && b) ++ published_at place before words) past
      ∙ ap (λ b. closed_with b ++ published_at place before words) (never (nat_le RECORDS place))
      ∙ ap (λ b. if b then published before (record_word_of words) (queue_seats (queue_word words)) else []) other

module _ {S W : Type 0} (form : NormalForm S W) where
  -- a step whose request tells nothing draws no tick
  draws_none : (phase : Phase S W) (mech : Mech S W) → tells_nothing (request_in form phase mech) ≡ true → (event_in phase mech ≡ None) × (ends phase ≡ false)
  draws_none Begin mech nothing = absurd (search rules)
  draws_none (End reply) mech nothing = absurd (search rules)
  draws_none Idle mech nothing = (refl, refl)
  draws_none Look mech nothing = (refl, refl)
  draws_none (Generate s at) mech nothing = (refl, refl)
  draws_none (Apply run stores at) mech nothing = (refl, refl)
  draws_none (Wrap wrap) mech nothing = (refl, refl)
  draws_none (Announce at) mech nothing = (refl, refl)
  draws_none (Enter owner) mech nothing = (refl, refl)
  draws_none Drive mech nothing = (refl, refl)
  draws_none (Help drives help) mech nothing = (refl, refl)
  draws_none Collect mech nothing = (refl, refl)
  draws_none (Value reference) mech nothing = (refl, refl)

  module _ (mech : Mech S W) (words : List ℕ) (drawn : mech_event mech ≡ None) where
    -- where no word changes, nothing is told
    same_told : step_events mech words words ≡ []
    same_told =
        ap (λ es. es ++ (option_to_list (mech_event mech) ++ there)) (none_closed_of (record_word_of words) (record_word_of words) eight_seats (λ s among. refl))
        ∙ ap (λ t. option_to_list t ++ there) drawn
        ∙ none_published (queue_word words) (record_word_of words) (queue_seats (queue_word words)) (λ t among. among)
      where
        there : List Event
        there = published (queue_word words) (record_word_of words) (queue_seats (queue_word words))

    -- nor is it by a step beyond the records
    beyond_told : (request : Request) → nat_le (RECORDS + 8) (requested_place request) ≡ true → step_events mech words (words_after request words) ≡ []
    beyond_told request beyond =
        step_noted request words mech
        ∙ ap (λ t. noted t (requested_place request) (slice_index words (requested_place request)) (words_after request words)) drawn
        ∙ none_noted (requested_place request) (slice_index words (requested_place request)) (words_after request words) (leb-true (RECORDS + 8) (requested_place request) beyond)

    nothing_told : (request : Request) → tells_nothing request ≡ true → step_events mech words (words_after request words) ≡ []
    nothing_told (Load at) nothing = ap (step_events mech words) (load_keeps at words) ∙ same_told
    nothing_told (Store at value) nothing = beyond_told (Store at value) nothing
    nothing_told (Exchange at from to) nothing = beyond_told (Exchange at from to) nothing
    nothing_told (Add at by) nothing = beyond_told (Add at by) nothing

  module _ (mech : Mech S W) (request : Request) (asks : request ≡ mech_request form mech) (nothing : tells_nothing request ≡ true) where
    -- the call goes on after a step whose request tells nothing
    pub goes_on : ends mech.phase ≡ false
    goes_on = (draws_none mech.phase mech (subst (λ r. tells_nothing r ≡ true) asks nothing)).1

    -- and it tells nothing
    pub tells_none : (words now : List ℕ) → now ≡ words_after request words → step_events mech words now ≡ []
    tells_none words now left =
        ap (step_events mech words) left
        ∙ nothing_told mech words (draws_none mech.phase mech (subst (λ r. tells_nothing r ≡ true) asks nothing)).0 request nothing

  -- a step that draws no tick goes on with its call
  undrawn : (phase : Phase S W) (mech : Mech S W) → is_some (event_in phase mech) ≡ false → (event_in phase mech ≡ None) × (ends phase ≡ false)
  undrawn Begin mech none = absurd (search rules)
  undrawn (End reply) mech none = absurd (search rules)
  undrawn Idle mech none = (refl, refl)
  undrawn Look mech none = (refl, refl)
  undrawn (Generate s at) mech none = (refl, refl)
  undrawn (Apply run stores at) mech none = (refl, refl)
  undrawn (Wrap wrap) mech none = (refl, refl)
  undrawn (Announce at) mech none = (refl, refl)
  undrawn (Enter owner) mech none = (refl, refl)
  undrawn Drive mech none = (refl, refl)
  undrawn (Help drives help) mech none = (refl, refl)
  undrawn Collect mech none = (refl, refl)
  undrawn (Value reference) mech none = (refl, refl)

  -- a tick is drawn at the tick counter, where nothing else is told
  tick_alone : (phase : Phase S W) (mech : Mech S W) (before : ℕ) (words : List ℕ) → is_some (event_in phase mech) ≡ true
      → noted (event_in phase mech) (requested_place (request_in form phase mech)) before words ≡ option_to_list (event_in phase mech)
  tick_alone Begin mech before words some = refl
  tick_alone (End reply) mech before words some = refl
  tick_alone Idle mech before words some = absurd (search rules)
  tick_alone Look mech before words some = absurd (search rules)
  tick_alone (Generate s at) mech before words some = absurd (search rules)
  tick_alone (Apply run stores at) mech before words some = absurd (search rules)
  tick_alone (Wrap wrap) mech before words some = absurd (search rules)
  tick_alone (Announce at) mech before words some = absurd (search rules)
  tick_alone (Enter owner) mech before words some = absurd (search rules)
  tick_alone Drive mech before words some = absurd (search rules)
  tick_alone (Help drives help) mech before words some = absurd (search rules)
  tick_alone Collect mech before words some = absurd (search rules)
  tick_alone (Value reference) mech before words some = absurd (search rules)

  module _ (mech : Mech S W) (words now : List ℕ) (left : now ≡ words_after (mech_request form mech) words) where
    told : step_events mech words now ≡ noted (mech_event mech) (requested_place (mech_request form mech)) (slice_index words (requested_place (mech_request form mech))) now
    told =
        ap (step_events mech words) left ∙ step_noted (mech_request form mech) words mech
        ∙ ap (noted (mech_event mech) (requested_place (mech_request form mech)) (slice_index words (requested_place (mech_request form mech)))) (sym left)

    -- a step that draws a tick tells that alone
    pub tick_told : is_some (mech_event mech) ≡ true → option_to_list (mech_event mech) ≡ step_events mech words now
    tick_told some = sym (told ∙ tick_alone mech.phase mech (slice_index words (requested_place (mech_request form mech))) now some)

    module _ (none : is_some (mech_event mech) ≡ false) where
      pub goes_on_over : ends mech.phase ≡ false
      goes_on_over = (undrawn mech.phase mech none).1

      -- one with a mark tells what is read off that
      pub mark_told : (mark : Mark) → Some mark ≡ mark_of (mech_request form mech) words → marked mark now ≡ step_events mech words now
      mark_told mark is =
          ap (λ m. marked m now) (the_mark (tells_nothing (mech_request form mech)) mark _ is)
          ∙ sym (told ∙ ap (λ t. noted t (requested_place (mech_request form mech)) (slice_index words (requested_place (mech_request form mech))) now) (undrawn mech.phase mech none).0)

      -- one without a mark tells nothing
      pub unmarked_told : None ≡ mark_of (mech_request form mech) words → step_events mech words now ≡ []
      unmarked_told is = tells_none mech (mech_request form mech) refl (no_mark (tells_nothing (mech_request form mech)) _ is) words now left
