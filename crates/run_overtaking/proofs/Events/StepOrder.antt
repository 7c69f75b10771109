-- One step: its events may come behind those before it, and what the events tell of the queue and of the machines goes on.
use Rattle.std.proofs.Common.{◌≡◌, ◌≢◌, ◌∙◌, refl, sym, ap, subst, ℕ, ◌<◌, ◌≤◌, true, false, List, [], ◌++◌, length, Option, Some, None, inl, inr, ◌⊎◌, arith}
use Rattle.std.specs.Prelude.{Contains}
use Rattle.std.specs.Option.{option_to_list}
use Rattle.std.proofs.lemmas.Bool.{cases_Bool}
use Rattle.std.proofs.lemmas.List.Elements.{Contains-append_cases, Contains-append_left, Contains-append_right}
use Rattle.lin_report.specs.declared.events.Event.{Event}
use Rattle.lin_report.specs.declared.events.EventKind.{EventKind}
use Rattle.lin_report.specs.declared.events.EventKind.TheVariants as kind
use Rattle.step_memory.specs.declared.steps.Seen.{Seen}
use Rattle.word_fields.specs.Records.{record_phase, record_number}
use Rattle.word_fields.specs.Seats.{queue_seats}
use Rattle.normal_traits.specs.NormalForm.{NormalForm}
use Rattle.help_queue.specs.Gathers.{among_seats, holds, is_open}
use Rattle.help_queue_laws.proofs.Known.Scenes.{Scene, IsOpen, IsClosed, IsDone, IsIn, IsOut, Later}
use Rattle.help_queue_laws.proofs.Known.QueueWords.{not_both, head_holds}
use Rattle.help_queue_laws.proofs.Acts.LearntStays.{done_closed}
use Rattle.fast_slow_engine.specs.declared.phases.Phase.{Phase}
use Rattle.fast_slow_engine.specs.declared.phases.Phase.TheVariants as phase
use Rattle.fast_slow_engine.specs.Mechs.{Mech}
use Rattle.fast_slow_engine.specs.PhaseTable.{event_in, event_of, mech_event, mech_fed, rests, stepped, ticks_left}
use Rattle.fast_slow_engine.proofs.SameCalls.{same_fed}
use Rattle.fast_slow_engine.proofs.Ticks.{draws}
use Rattle.overtaking_law.specs.Order.{publication, completion, AreOrdered}
use Rattle.run_queue.proofs.EventLaws.{HasCompleted, completed_later}
use Rattle.fast_slow_engine.specs.Events.{published, completed, eight_seats}
use Rattle.run_overtaking.proofs.Accounts.Scenes.{opened_before}
use Rattle.run_overtaking.proofs.Events.Members.{Apart, MayComeAfter, in_none, in_cons, in_parts, follows_append, ordered_more, completed_has, completed_all, completed_follow, published_has, published_all, published_follow}

-- ---- what the events tell

abbrev event : EventKind → ℕ → ℕ → Event
event kind seat number = record { kind = kind; seat = seat; number = number }

-- of the queue: a published call was completed, or waits; a completed call is over; who waits was published
pub record TellsQueue (events : List Event) (a : Scene) : Type 0 where
  pub published' : (t n : ℕ) → Contains events (publication t n) → Contains events (completion t n) ⊎ (IsIn a t × IsOpen a t × (record_number (a.records t) ≡ n))
  pub completed' : (t n : ℕ) → Contains events (completion t n) → HasCompleted t n a
  pub waits : (t : ℕ) → IsIn a t → IsOpen a t → Contains events (publication t (record_number (a.records t)))

-- of a machine: the call whose begin is among the events has drawn its tick, and the one whose return is among them is over
pub record TellsCalls {S W : Type 0} (events : List Event) (i : ℕ) (mech : Mech S W) : Type 0 where
  pub begun' : (n : ℕ) → Contains events (event kind.Begin i n) → (n < mech.number) ⊎ ((mech.number ≡ n) × (ticks_left mech.phase ≤ 1))
  pub returned' : (n : ℕ) → Contains events (event kind.Return i n) → (n < mech.number) ⊎ ((mech.number ≡ n) × (rests mech.phase ≡ true))

pub in_one : (x e : Event) (o : Option Event) → o ≡ Some x → Contains (option_to_list o) e → e ≡ x
in_one x e o is c = elim (in_cons x e [] (subst (λ (p : Option Event). Contains (option_to_list p) e) is c)) [ inl same ↦ sym same | inr none ↦ absurd (in_none e none) ]

-- ---- the machine's own event

-- it has none, or it begins, or it returns
abbrev pub Own : {S W : Type 0} → NormalForm S W → Phase S W → Mech S W → Type 0
Own form p mech =
    (event_in p mech ≡ None)
    ⊎ (((event_in p mech ≡ Some (event_of kind.Begin mech)) × (ticks_left p ≡ 2))
    ⊎ ((event_in p mech ≡ Some (event_of kind.Return mech)) × ((seen : Seen) → rests (stepped form p seen mech).phase ≡ true)))

module _ {S W : Type 0} (form : NormalForm S W) where
  pub own_is : (p : Phase S W) (mech : Mech S W) → Own form p mech
  own_is phase.Idle mech = inl refl
  own_is phase.Begin mech = inr (inl (refl, refl))
  own_is phase.Look mech = inl refl
  own_is (phase.Generate s step) mech = inl refl
  own_is (phase.Apply run stores step) mech = inl refl
  own_is (phase.Wrap wrap) mech = inl refl
  own_is (phase.Announce step) mech = inl refl
  own_is (phase.Enter owner) mech = inl refl
  own_is phase.Drive mech = inl refl
  own_is (phase.Help drives help) mech = inl refl
  own_is phase.Collect mech = inl refl
  own_is (phase.Value reference) mech = inl refl
  own_is (phase.End reply) mech = inr (inr (refl, λ seen. refl))

-- ---- the step

module _ {S W : Type 0} (form : NormalForm S W) (seats : ℕ) (few : seats ≤ 8) (mech : Mech S W) (seen : Seen) (runs : rests mech.phase ≡ false) (inside : mech.seat < seats) (a b : Scene) (l : Later seats mech.seat a b)
    (real : (t : ℕ) → IsIn a t → t < 8) (real' : (t : ℕ) → IsIn b t → t < 8) (apart : Apart (queue_seats b.queue)) (eight : (t : ℕ) → t < 8 → among_seats t eight_seats ≡ true) (below : (t : ℕ) → among_seats t eight_seats ≡ true → t < 8)
    (before : List Event) (ordered : AreOrdered before) (tells : TellsQueue before a) (calls : TellsCalls before mech.seat mech) where
  abbrev first : List Event
  first = completed a.records b.records eight_seats

  abbrev own : List Event
  own = option_to_list (mech_event mech)

  abbrev last : List Event
  last = published a.queue b.records (queue_seats b.queue)

  abbrev pub now : List Event
  now = before ++ (completed a.records b.records eight_seats ++ (option_to_list (mech_event mech) ++ published a.queue b.records (queue_seats b.queue)))

  -- ---- of which kinds the parts are

  in_first : (e : Event) → Contains (completed a.records b.records eight_seats) e → e.kind ≡ kind.Complete
  in_first e c = ap (λ (x : Event). x.kind) (completed_has a.records b.records eight_seats e c).is

  in_last : (e : Event) → Contains (published a.queue b.records (queue_seats b.queue)) e → e.kind ≡ kind.Publish
  in_last e c = ap (λ (x : Event). x.kind) (published_has a.queue b.records (queue_seats b.queue) e c).is

  in_own : (e : Event) → Contains (option_to_list (mech_event mech)) e → (e ≡ event_of kind.Begin mech) ⊎ (e ≡ event_of kind.Return mech)
  in_own e c =
      elim (own_is form mech.phase mech) [
        | inl none ↦ absurd (in_none e (subst (λ (o : Option Event). Contains (option_to_list o) e) none c))
        | inr (inl begins) ↦ inl (in_one (event_of kind.Begin mech) e (mech_event mech) begins.0 c)
        | inr (inr returns) ↦ inr (in_one (event_of kind.Return mech) e (mech_event mech) returns.0 c)
      ]

  own_kind : (e : Event) → Contains (option_to_list (mech_event mech)) e → (e.kind ≡ kind.Begin) ⊎ (e.kind ≡ kind.Return)
  own_kind e c = elim (in_own e c) [ inl begins ↦ inl (ap (λ (x : Event). x.kind) begins) | inr returns ↦ inr (ap (λ (x : Event). x.kind) returns) ]

  -- a begin leaves one tick to draw, and behind a return the seat rests
  begin_told : (n : ℕ) → Contains (option_to_list (mech_event mech)) (event kind.Begin mech.seat n) → (mech.number ≡ n) × (ticks_left (mech_fed form mech seen).phase ≤ 1)
  begin_told n c =
      elim (own_is form mech.phase mech) [
        | inl none ↦ absurd (in_none _ (subst (λ (o : Option Event). Contains (option_to_list o) (event kind.Begin mech.seat n)) none c))
        | inr (inl begins) ↦ (
            let same = in_one (event_of kind.Begin mech) (event kind.Begin mech.seat n) (mech_event mech) begins.0 c in
            let one : length (option_to_list (mech_event mech)) ≡ 1 = ap (λ (o : Option Event). length (option_to_list o)) begins.0 in
            let ticks = (draws form mech.phase seen mech runs).ticks in
            let two = begins.1 in
            (sym (ap (λ (x : Event). x.number) same), omega (arith, ticks, one, two)))
        | inr (inr returns) ↦ (let same = ap (λ (x : Event). x.kind) (in_one (event_of kind.Return mech) (event kind.Begin mech.seat n) (mech_event mech) returns.0 c) in absurd cc)
      ]

  return_told : (n : ℕ) → Contains (option_to_list (mech_event mech)) (event kind.Return mech.seat n) → (mech.number ≡ n) × (rests (mech_fed form mech seen).phase ≡ true)
  return_told n c =
      elim (own_is form mech.phase mech) [
        | inl none ↦ absurd (in_none _ (subst (λ (o : Option Event). Contains (option_to_list o) (event kind.Return mech.seat n)) none c))
        | inr (inl begins) ↦ (let same = ap (λ (x : Event). x.kind) (in_one (event_of kind.Begin mech) (event kind.Return mech.seat n) (mech_event mech) begins.0 c) in absurd cc)
        | inr (inr returns) ↦ (sym (ap (λ (x : Event). x.number) (in_one (event_of kind.Return mech) (event kind.Return mech.seat n) (mech_event mech) returns.0 c)), returns.1 seen)
      ]

  -- a publication, a completion among all of them
  published_in : (t n : ℕ) → Contains now (publication t n) → Contains before (publication t n) ⊎ Contains (published a.queue b.records (queue_seats b.queue)) (publication t n)
  published_in t n c =
      elim (in_parts before first own last (publication t n) c) [
        | inl old ↦ inl old
        | inr (inl done) ↦ (let is = in_first (publication t n) done in absurd cc)
        | inr (inr (inl own')) ↦ elim (own_kind (publication t n) own') [ inl is ↦ absurd cc | inr is ↦ absurd cc ]
        | inr (inr (inr new)) ↦ inr new
      ]

  completed_in : (t n : ℕ) → Contains now (completion t n) → Contains before (completion t n) ⊎ Contains (completed a.records b.records eight_seats) (completion t n)
  completed_in t n c =
      elim (in_parts before first own last (completion t n) c) [
        | inl old ↦ inl old
        | inr (inl done) ↦ inr done
        | inr (inr (inl own')) ↦ elim (own_kind (completion t n) own') [ inl is ↦ absurd cc | inr is ↦ absurd cc ]
        | inr (inr (inr new)) ↦ (let is = in_last (completion t n) new in absurd cc)
      ]

  -- ---- what a step does to a call

  -- who enters has an open record, which stays
  entered : (t : ℕ) → IsOut a t → IsIn b t → IsOpen a t × (b.records t ≡ a.records t)
  entered t out in' = elim l.queue [ inl same ↦ absurd (not_both (subst (λ q. holds q t ≡ true) same in') out) | inr changed ↦ (changed.enters t out in', changed.records t) ]

  -- who waits stays in the word
  stays_in : (t : ℕ) → IsIn a t → IsOpen a t → IsIn b t
  stays_in t in' opened = elim l.queue [ inl same ↦ subst (λ q. holds q t ≡ true) (sym same) in' | inr changed ↦ elim (changed.leaves t in') [ inl stays ↦ stays | inr gone ↦ absurd (not_both opened (done_closed _ gone.0)) ] ]

  same_number : (t : ℕ) → IsIn a t → record_number (b.records t) ≡ record_number (a.records t)
  same_number t in' = elim (l.moves t) [ inl stays ↦ ap record_number stays.same | inr (inl announces) ↦ absurd (not_both in' announces.out) | inr (inr advances) ↦ advances.number ]

  -- who is completed is the head, in the word, and its record has its number
  closes : (t : ℕ) → IsOpen a t → IsClosed b t → IsIn a t × IsDone b t × (record_number (b.records t) ≡ record_number (a.records t))
  closes t opened closed =
      elim (l.moves t) [
        | inl stays ↦ absurd (not_both (ap (λ w. is_open (record_phase w)) stays.same ∙ opened) closed)
        | inr (inl announces) ↦ absurd (not_both opened announces.closed)
        | inr (inr advances) ↦ (head_holds a.queue t advances.head, elim advances.called [ inl still' ↦ absurd (not_both still' closed) | inr done ↦ done ], advances.number)
      ]

  not_over : (t : ℕ) → IsOpen a t → HasCompleted t (record_number (a.records t)) a → ⊥
  not_over t opened over = elim over [ inl less ↦ omega (arith, less) | inr at ↦ not_both opened (done_closed _ at.1) ]

  -- ---- the events may come

  first_follow : MayComeAfter before (completed a.records b.records eight_seats)
  first_follow =
      completed_follow a.records b.records before eight_seats (refl, (refl, (refl, (refl, (refl, (refl, (refl, (refl, tt)))))))) (λ t in' opened closed. record {
        seat = below t in';
        once = λ c. not_over t opened (tells.completed' t (record_number (a.records t)) c);
        published' = tells.waits t (closes t opened closed).0 opened;
      })

  own_follow : MayComeAfter (before ++ completed a.records b.records eight_seats) (option_to_list (mech_event mech))
  own_follow =
      elim (own_is form mech.phase mech) [
        | inl none ↦ subst (λ (o : Option Event). MayComeAfter (before ++ completed a.records b.records eight_seats) (option_to_list o)) (sym none) tt
        | inr (inl begins) ↦ subst (λ (o : Option Event). MayComeAfter (before ++ completed a.records b.records eight_seats) (option_to_list o)) (sym begins.0) (
          record {
            seat = omega (arith, inside, few);
            once = λ c. elim (Contains-append_cases before (completed a.records b.records eight_seats) (event_of kind.Begin mech) c) [
              | inl old ↦ elim (calls.begun' mech.number old) [ inl less ↦ omega (arith, less) | inr at ↦ (let two = begins.1 in let one = at.1 in omega (arith, two, one)) ]
              | inr new ↦ (let is = in_first (event_of kind.Begin mech) new in absurd cc)
            ];
            published_first = λ is. absurd cc;
            one_open = λ is. absurd cc;
          },
          tt,
        )
        | inr (inr returns) ↦ subst (λ (o : Option Event). MayComeAfter (before ++ completed a.records b.records eight_seats) (option_to_list o)) (sym returns.0) (
          record {
            seat = omega (arith, inside, few);
            once = λ c. elim (Contains-append_cases before (completed a.records b.records eight_seats) (event_of kind.Return mech) c) [
              | inl old ↦ elim (calls.returned' mech.number old) [ inl less ↦ omega (arith, less) | inr at ↦ absurd (not_both at.1 runs) ]
              | inr new ↦ (let is = in_first (event_of kind.Return mech) new in absurd cc)
            ];
            published_first = λ is. absurd cc;
            one_open = λ is. absurd cc;
          },
          tt,
        )
      ]

  -- a publication before the last part is an old one
  old_publication : (t n : ℕ) → Contains ((before ++ completed a.records b.records eight_seats) ++ option_to_list (mech_event mech)) (publication t n) → Contains before (publication t n)
  old_publication t n c =
      elim (Contains-append_cases (before ++ completed a.records b.records eight_seats) (option_to_list (mech_event mech)) (publication t n) c) [
        | inr own' ↦ elim (own_kind (publication t n) own') [ inl is ↦ absurd cc | inr is ↦ absurd cc ]
        | inl rest ↦ elim (Contains-append_cases before (completed a.records b.records eight_seats) (publication t n) rest) [ inl old ↦ old | inr done ↦ (let is = in_first (publication t n) done in absurd cc) ]
      ]

  last_follow : MayComeAfter ((before ++ completed a.records b.records eight_seats) ++ option_to_list (mech_event mech)) (published a.queue b.records (queue_seats b.queue))
  last_follow =
      published_follow a.queue b.records ((before ++ completed a.records b.records eight_seats) ++ option_to_list (mech_event mech)) (queue_seats b.queue) apart (λ t in' out.
      let new = entered t out in' in
      let number : record_number (b.records t) ≡ record_number (a.records t) = ap record_number new.1 in
      record {
        seat = real' t in';
        once = λ c. elim (tells.published' t (record_number (b.records t)) (old_publication t (record_number (b.records t)) c)) [
          | inl done ↦ not_over t new.0 (subst (λ n. HasCompleted t n a) number (tells.completed' t (record_number (b.records t)) done))
          | inr waits' ↦ not_both waits'.0 out
        ];
        alone = λ other differs open'. elim (tells.published' t other (old_publication t other open'.published)) [
          | inl done ↦ open'.incomplete (Contains-append_left (before ++ completed a.records b.records eight_seats) (option_to_list (mech_event mech)) (completion t other) (Contains-append_left before (completed a.records b.records eight_seats) (completion t other) done))
          | inr waits' ↦ not_both waits'.0 out
        ];
      })

  pub now_ordered : AreOrdered now
  now_ordered = ordered_more before (first ++ (own ++ last)) ordered (follows_append before first (own ++ last) first_follow (follows_append (before ++ first) own last own_follow last_follow))

  -- ---- what they tell goes on

  pub queue_told : TellsQueue now b
  queue_told = record {
    published' = λ t n c. elim (published_in t n c) [
      | inl old ↦ elim (tells.published' t n old) [
        | inl done ↦ inl (Contains-append_left before (first ++ (own ++ last)) (completion t n) done)
        | inr w ↦ elim (cases_Bool (is_open (record_phase (b.records t)))) [
          | inl opened ↦ inr (stays_in t w.0 w.1, opened, same_number t w.0 ∙ w.2)
          | inr closed ↦ inl (Contains-append_right before (first ++ (own ++ last)) (completion t n) (Contains-append_left first (own ++ last) (completion t n)
              (subst (λ k. Contains first (completion t k)) w.2 (completed_all a.records b.records t eight_seats (eight t (real t w.0)) w.1 closed))))
        ]
      ]
      | inr new ↦ (
          let is = published_has a.queue b.records (queue_seats b.queue) (publication t n) new in
          let seat : is.seat ≡ t = ap (λ (x : Event). x.seat) (sym is.is) in
          let number : n ≡ record_number (b.records is.seat) = ap (λ (x : Event). x.number) is.is in
          let out : IsOut a t = subst (λ k. holds a.queue k ≡ false) seat is.out in
          let in' : IsIn b t = subst (λ k. among_seats k (queue_seats b.queue) ≡ true) seat is.among in
          let e = entered t out in' in
          inr (in', ap (λ w. is_open (record_phase w)) e.1 ∙ e.0, ap (λ k. record_number (b.records k)) (sym seat) ∙ sym number))
    ];
    completed' = λ t n c. elim (completed_in t n c) [
      | inl old ↦ completed_later seats mech.seat t n a b l (tells.completed' t n old)
      | inr new ↦ (
          let is = completed_has a.records b.records eight_seats (completion t n) new in
          let seat : is.seat ≡ t = ap (λ (x : Event). x.seat) (sym is.is) in
          let number : n ≡ record_number (a.records is.seat) = ap (λ (x : Event). x.number) is.is in
          let done = closes is.seat is.opened is.closed in
          inr (ap (λ k. record_number (b.records k)) (sym seat) ∙ done.2 ∙ sym number, subst (λ k. IsDone b k) seat done.1))
    ];
    waits = λ t in' opened. elim (cases_Bool (holds a.queue t)) [
      | inl was ↦ (
          let opens = opened_before seats mech.seat a b l t was opened in
          subst (λ k. Contains now (publication t k)) (sym (same_number t was)) (Contains-append_left before (first ++ (own ++ last)) (publication t (record_number (a.records t))) (tells.waits t was opens)))
      | inr out ↦ Contains-append_right before (first ++ (own ++ last)) _ (Contains-append_right first (own ++ last) _ (Contains-append_right own last _ (published_all a.queue b.records t (queue_seats b.queue) in' out)))
    ];
  }

  -- an event of a machine is an old one, or the step's own
  call_in : (e : Event) → (e.kind ≡ kind.Begin) ⊎ (e.kind ≡ kind.Return) → Contains now e → Contains before e ⊎ Contains (option_to_list (mech_event mech)) e
  call_in e is c =
      elim (in_parts before first own last e c) [
        | inl old ↦ inl old
        | inr (inl done) ↦ (let k = in_first e done in elim is [ inl x ↦ absurd cc | inr x ↦ absurd cc ])
        | inr (inr (inl own')) ↦ inr own'
        | inr (inr (inr new)) ↦ (let k = in_last e new in elim is [ inl x ↦ absurd cc | inr x ↦ absurd cc ])
      ]

  -- of other seats
  pub others_told : (u : ℕ) (mate : Mech S W) → u ≢ mech.seat → TellsCalls before u mate → TellsCalls now u mate
  others_told u mate other h = record {
    begun' = λ n c. h.begun' n (old (event kind.Begin u n) other (inl refl) c);
    returned' = λ n c. h.returned' n (old (event kind.Return u n) other (inr refl) c);
  }
    where
      old : (e : Event) → e.seat ≢ mech.seat → (e.kind ≡ kind.Begin) ⊎ (e.kind ≡ kind.Return) → Contains now e → Contains before e
      old e apart' is c = elim (call_in e is c) [ inl was ↦ was | inr own' ↦ elim (in_own e own') [ inl same ↦ absurd (apart' (ap (λ (x : Event). x.seat) same)) | inr same ↦ absurd (apart' (ap (λ (x : Event). x.seat) same)) ] ]

  -- of the machine that made the step
  pub own_told : TellsCalls now mech.seat (mech_fed form mech seen)
  own_told =
      let new = mech_fed form mech seen in
      let number : new.number ≡ mech.number = (same_fed form mech seen).number in
      let ticks = (draws form mech.phase seen mech runs).ticks in
      record {
        begun' = λ n c. elim (call_in (event kind.Begin mech.seat n) (inl refl) c) [
          | inl old ↦ elim (calls.begun' n old) [
            | inl less ↦ inl (subst (λ k. n < k) (sym number) less)
            | inr at ↦ inr (number ∙ at.0, let one = at.1 in omega (arith, ticks, one))
          ]
          | inr own' ↦ (let h = begin_told n own' in inr (number ∙ h.0, h.1))
        ];
        returned' = λ n c. elim (call_in (event kind.Return mech.seat n) (inr refl) c) [
          | inl old ↦ elim (calls.returned' n old) [
            | inl less ↦ inl (subst (λ k. n < k) (sym number) less)
            | inr at ↦ absurd (not_both at.1 runs)
          ]
          | inr own' ↦ (let h = return_told n own' in inr (number ∙ h.0, h.1))
        ];
      }
