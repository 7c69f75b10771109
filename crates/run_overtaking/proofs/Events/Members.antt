-- Which events a step has, read off its lists of completions and publications, and when they may come one after another.
use Rattle.std.proofs.Common.{◌≡◌, ◌≢◌, ◌∙◌, refl, sym, ap, subst, ℕ, zero, suc, ◌<◌, Bool, true, false, List, [], ◌∷◌, ◌++◌, append-nil, append_assoc, inl, inr, ◌⊎◌, arith}
use Rattle.std.specs.Prelude.{Contains, AllPairs, ◌&&◌, ◌==◌, not, if◌then◌else◌}
use Rattle.std.proofs.lemmas.Bool.{cases_Bool, cases_eq, and_parts, eq-eqb, ne_eqb, or_left, or_right, true≢false}
use Rattle.std.proofs.lemmas.List.Elements.{Contains-append_cases, Contains-append_left, Contains-append_right}
use Rattle.lin_report.specs.declared.events.Event.{Event}
use Rattle.word_fields.specs.Records.{record_phase, record_number}
use Rattle.help_queue.specs.Gathers.{among_seats, holds, is_open}
use Rattle.help_queue_laws.proofs.Known.QueueWords.{not_both}
use Rattle.overtaking_law.specs.Order.{publication, completion, IsOpen, MayFollow, AreOrdered}
use Rattle.overtaking_law.proofs.EventsOrdered.{are_ordered-push}
use Rattle.fast_slow_engine.specs.Events.{published, completed}
use Rattle.run_overtaking.proofs.Accounts.Places.{in_rest}
use Rattle.run_overtaking.proofs.Accounts.Allowances.{tail_differ, head_differs}

-- ---- one event among others

pub in_none : (e : Event) → Contains [] e → ⊥
in_none e c = (let less = c.1 in absurd (omega (arith, less)))

pub in_cons : (x e : Event) (es : List Event) → Contains (x ∷ es) e → (x ≡ e) ⊎ Contains es e
in_cons x e es (zero, less, same) = inl same
in_cons x e es (suc i, less, same) = inr (i, omega (arith, less), same)

pub in_here : (e : Event) (es : List Event) → Contains (e ∷ es) e
in_here e es = (0, omega arith, refl)

-- among four parts
pub in_parts : (before first own last : List Event) (e : Event) → Contains (before ++ (first ++ (own ++ last))) e → Contains before e ⊎ (Contains first e ⊎ (Contains own e ⊎ Contains last e))
in_parts before first own last e c =
    elim (Contains-append_cases before (first ++ (own ++ last)) e c) [
      | inl old ↦ inl old
      | inr new ↦ elim (Contains-append_cases first (own ++ last) e new) [ inl a ↦ inr (inl a) | inr rest ↦ elim (Contains-append_cases own last e rest) [ inl b ↦ inr (inr (inl b)) | inr d ↦ inr (inr (inr d)) ] ]
    ]

-- ---- events that may come one after another

abbrev pub MayComeAfter : List Event → List Event → Type 0
MayComeAfter before [] = Unit {0}
MayComeAfter before (e ∷ es) = MayFollow before e × MayComeAfter (before ++ e ∷ []) es

pub follows_append : (before es fs : List Event) → MayComeAfter before es → MayComeAfter (before ++ es) fs → MayComeAfter before (es ++ fs)
follows_append before [] fs h k = subst (λ b. MayComeAfter b fs) (append-nil before) k
follows_append before (e ∷ es) fs h k = (h.0, follows_append (before ++ e ∷ []) es fs h.1 (subst (λ b. MayComeAfter b fs) (sym (append_assoc before (e ∷ []) es)) k))

pub ordered_more : (before es : List Event) → AreOrdered before → MayComeAfter before es → AreOrdered (before ++ es)
ordered_more before [] ordered h = subst AreOrdered (sym (append-nil before)) ordered
ordered_more before (e ∷ es) ordered h = subst AreOrdered (append_assoc before (e ∷ []) es) (ordered_more (before ++ e ∷ []) es (are_ordered-push before e ordered h.0) h.1)

-- ---- seats, each once

abbrev pub Apart : List ℕ → Type 0
Apart [] = Unit {0}
Apart (s ∷ seats) = (among_seats s seats ≡ false) × Apart seats

pub apart_of : (seats : List ℕ) → AllPairs (λ s t. s ≢ t) seats → Apart seats
apart_of [] differ = tt
apart_of (s ∷ seats) differ = (head_differs s seats differ, apart_of seats (tail_differ s seats differ))

apart_from : (s t : ℕ) (seats : List ℕ) → among_seats s seats ≡ false → among_seats t seats ≡ true → s ≡ t → ⊥
apart_from s t seats out in' same = not_both in' (subst (λ k. among_seats k seats ≡ false) same out)

-- ---- completions

module _ (r r' : ℕ → ℕ) where
  abbrev closes : ℕ → Bool
  closes t = is_open (record_phase (r t)) && not (is_open (record_phase (r' t)))

  closes_from : (t : ℕ) → is_open (record_phase (r t)) ≡ true → is_open (record_phase (r' t)) ≡ false → closes t ≡ true
  closes_from t opened closed = ap (λ b. b && not (is_open (record_phase (r' t)))) opened ∙ ap not closed

  abbrev after : ℕ → List ℕ → Bool → List Event
  after t seats b = if b then completion t (record_number (r t)) ∷ completed r r' seats else completed r r' seats

  -- a completion is that of a seat whose record has closed
  pub record Closes (seats : List ℕ) (e : Event) : Type 0 where
    pub seat : ℕ
    pub among : among_seats seat seats ≡ true
    pub opened : is_open (record_phase (r seat)) ≡ true
    pub closed : is_open (record_phase (r' seat)) ≡ false
    pub is : e ≡ completion seat (record_number (r seat))

  closed_before : (b : Bool) → not b ≡ true → b ≡ false
  closed_before true h = absurd (true≢false (sym h))
  closed_before false h = refl

  closes_more : (t : ℕ) (seats : List ℕ) (e : Event) → Closes seats e → Closes (t ∷ seats) e
  closes_more t seats e c = record { seat = c.seat; among = or_right (t == c.seat) (among_seats c.seat seats) c.among; opened = c.opened; closed = c.closed; is = c.is }

  pub completed_has : (seats : List ℕ) (e : Event) → Contains (completed r r' seats) e → Closes seats e
  completed_has [] e c = absurd (in_none e c)
  completed_has (t ∷ seats) e c =
      elim (cases_Bool (closes t)) [
        | inr none ↦ closes_more t seats e (completed_has seats e (subst (λ b. Contains (after t seats b) e) none c))
        | inl does ↦ elim (in_cons (completion t (record_number (r t))) e (completed r r' seats) (subst (λ b. Contains (after t seats b) e) does c)) [
          | inr rest ↦ closes_more t seats e (completed_has seats e rest)
          | inl same ↦ (
              let parts = and_parts (is_open (record_phase (r t))) (not (is_open (record_phase (r' t)))) does in
              record { seat = t; among = or_left (t == t) (among_seats t seats) (eq-eqb t t refl); opened = parts.0; closed = closed_before (is_open (record_phase (r' t))) parts.1; is = sym same })
        ]
      ]

  pub completed_all : (t : ℕ) (seats : List ℕ) → among_seats t seats ≡ true → is_open (record_phase (r t)) ≡ true → is_open (record_phase (r' t)) ≡ false → Contains (completed r r' seats) (completion t (record_number (r t)))
  completed_all t [] in' opened closed = absurd (true≢false (sym in'))
  completed_all t (s ∷ seats) in' opened closed =
      elim (cases_eq s t) [
        | inl same ↦ subst (λ k. Contains (after k seats (closes k)) (completion t (record_number (r t)))) (sym same) (subst (λ b. Contains (after t seats b) (completion t (record_number (r t)))) (sym (closes_from t opened closed)) (in_here _ _))
        | inr other ↦ (
            let rest = completed_all t seats (in_rest t s seats in' (ne_eqb s t other)) opened closed in
            elim (cases_Bool (closes s)) [
              | inl does ↦ subst (λ b. Contains (after s seats b) (completion t (record_number (r t)))) (sym does) (Contains-append_right (completion s (record_number (r s)) ∷ []) (completed r r' seats) (completion t (record_number (r t))) rest)
              | inr none ↦ subst (λ b. Contains (after s seats b) (completion t (record_number (r t)))) (sym none) rest
            ])
      ]

  -- a call that may complete behind these events: it was published there, and has not completed
  pub record MayComplete (before : List Event) (t : ℕ) : Type 0 where
    pub seat : t < 8
    pub once : ¬ Contains before (completion t (record_number (r t)))
    pub published' : Contains before (publication t (record_number (r t)))

  completes_next : (before : List Event) (t : ℕ) → MayComplete before t → MayFollow before (completion t (record_number (r t)))
  completes_next before t m = record { seat = m.seat; once = m.once; published_first = λ _. m.published'; one_open = λ kind. absurd cc }

  completes_later : (before : List Event) (s t : ℕ) → (s ≡ t → ⊥) → MayComplete before t → MayComplete (before ++ completion s (record_number (r s)) ∷ []) t
  completes_later before s t apart m =
      let e = completion s (record_number (r s)) in
      record {
        seat = m.seat;
        once = λ c. elim (Contains-append_cases before (e ∷ []) (completion t (record_number (r t))) c) [
          | inl old ↦ m.once old
          | inr new ↦ elim (in_cons e (completion t (record_number (r t))) [] new) [ inl same ↦ apart (ap (λ (x : Event). x.seat) same) | inr none ↦ in_none _ none ]
        ];
        published' = Contains-append_left before (e ∷ []) (publication t (record_number (r t))) m.published';
      }

  pub completed_follow : (before : List Event) (seats : List ℕ) → Apart seats → ((t : ℕ) → among_seats t seats ≡ true → is_open (record_phase (r t)) ≡ true → is_open (record_phase (r' t)) ≡ false → MayComplete before t) → MayComeAfter before (completed r r' seats)
  completed_follow before [] apart may = tt
  completed_follow before (s ∷ seats) apart may =
      elim (cases_Bool (closes s)) [
        | inr none ↦ subst (λ b. MayComeAfter before (after s seats b)) (sym none) (completed_follow before seats apart.1 (λ t in'. may t (or_right (s == t) (among_seats t seats) in')))
        | inl does ↦ (
            let parts = and_parts (is_open (record_phase (r s))) (not (is_open (record_phase (r' s)))) does in
            let first = may s (or_left (s == s) (among_seats s seats) (eq-eqb s s refl)) parts.0 (closed_before (is_open (record_phase (r' s))) parts.1) in
            subst (λ b. MayComeAfter before (after s seats b)) (sym does) (
              completes_next before s first,
              completed_follow (before ++ completion s (record_number (r s)) ∷ []) seats apart.1 (λ t in' opened closed. completes_later before s t (apart_from s t seats apart.0 in') (may t (or_right (s == t) (among_seats t seats) in') opened closed)),
            ))
      ]

-- ---- publications

module _ (q : ℕ) (r : ℕ → ℕ) where
  abbrev enters_after : ℕ → List ℕ → Bool → List Event
  enters_after t seats b = if b then published q r seats else publication t (record_number (r t)) ∷ published q r seats

  -- a publication is that of a seat that the old word has not
  pub record Enters (seats : List ℕ) (e : Event) : Type 0 where
    pub seat : ℕ
    pub among : among_seats seat seats ≡ true
    pub out : holds q seat ≡ false
    pub is : e ≡ publication seat (record_number (r seat))

  enters_more : (t : ℕ) (seats : List ℕ) (e : Event) → Enters seats e → Enters (t ∷ seats) e
  enters_more t seats e c = record { seat = c.seat; among = or_right (t == c.seat) (among_seats c.seat seats) c.among; out = c.out; is = c.is }

  pub published_has : (seats : List ℕ) (e : Event) → Contains (published q r seats) e → Enters seats e
  published_has [] e c = absurd (in_none e c)
  published_has (t ∷ seats) e c =
      elim (cases_Bool (holds q t)) [
        | inl was ↦ enters_more t seats e (published_has seats e (subst (λ b. Contains (enters_after t seats b) e) was c))
        | inr out ↦ elim (in_cons (publication t (record_number (r t))) e (published q r seats) (subst (λ b. Contains (enters_after t seats b) e) out c)) [
          | inr rest ↦ enters_more t seats e (published_has seats e rest)
          | inl same ↦ record { seat = t; among = or_left (t == t) (among_seats t seats) (eq-eqb t t refl); out = out; is = sym same }
        ]
      ]

  pub published_all : (t : ℕ) (seats : List ℕ) → among_seats t seats ≡ true → holds q t ≡ false → Contains (published q r seats) (publication t (record_number (r t)))
  published_all t [] in' out = absurd (true≢false (sym in'))
  published_all t (s ∷ seats) in' out =
      elim (cases_eq s t) [
        | inl same ↦ subst (λ k. Contains (enters_after k seats (holds q k)) (publication t (record_number (r t)))) (sym same) (subst (λ b. Contains (enters_after t seats b) (publication t (record_number (r t)))) (sym out) (in_here _ _))
        | inr other ↦ (
            let rest = published_all t seats (in_rest t s seats in' (ne_eqb s t other)) out in
            elim (cases_Bool (holds q s)) [
              | inl was ↦ subst (λ b. Contains (enters_after s seats b) (publication t (record_number (r t)))) (sym was) rest
              | inr none ↦ subst (λ b. Contains (enters_after s seats b) (publication t (record_number (r t)))) (sym none) (Contains-append_right (publication s (record_number (r s)) ∷ []) (published q r seats) (publication t (record_number (r t))) rest)
            ])
      ]

  -- a call that may be published behind these events: it was not, and no other call of its seat is open there
  pub record MayPublish (before : List Event) (t : ℕ) : Type 0 where
    pub seat : t < 8
    pub once : ¬ Contains before (publication t (record_number (r t)))
    pub alone : (other : ℕ) → other ≢ record_number (r t) → ¬ IsOpen before t other

  publishes_next : (before : List Event) (t : ℕ) → MayPublish before t → MayFollow before (publication t (record_number (r t)))
  publishes_next before t m = record { seat = m.seat; once = m.once; published_first = λ kind. absurd cc; one_open = λ _. m.alone }

  publishes_later : (before : List Event) (s t : ℕ) → (s ≡ t → ⊥) → MayPublish before t → MayPublish (before ++ publication s (record_number (r s)) ∷ []) t
  publishes_later before s t apart m =
      let e = publication s (record_number (r s)) in
      let old : (n : ℕ) → Contains (before ++ e ∷ []) (publication t n) → Contains before (publication t n) = λ n c.
      elim (Contains-append_cases before (e ∷ []) (publication t n) c) [
        | inl was ↦ was
        | inr new ↦ elim (in_cons e (publication t n) [] new) [ inl same ↦ absurd (apart (ap (λ (x : Event). x.seat) same)) | inr none ↦ absurd (in_none _ none) ]
      ] in
      record {
        seat = m.seat;
        once = λ c. m.once (old _ c);
        alone = λ other differs open'. m.alone other differs (record { published = old other open'.published; incomplete = λ c. open'.incomplete (Contains-append_left before (e ∷ []) (completion t other) c) });
      }

  pub published_follow : (before : List Event) (seats : List ℕ) → Apart seats → ((t : ℕ) → among_seats t seats ≡ true → holds q t ≡ false → MayPublish before t) → MayComeAfter before (published q r seats)
  published_follow before [] apart may = tt
  published_follow before (s ∷ seats) apart may =
      elim (cases_Bool (holds q s)) [
        | inl was ↦ subst (λ b. MayComeAfter before (enters_after s seats b)) (sym was) (published_follow before seats apart.1 (λ t in'. may t (or_right (s == t) (among_seats t seats) in')))
        | inr out ↦ (
            let first = may s (or_left (s == s) (among_seats s seats) (eq-eqb s s refl)) out in
            subst (λ b. MayComeAfter before (enters_after s seats b)) (sym out) (
              publishes_next before s first,
              published_follow (before ++ publication s (record_number (r s)) ∷ []) seats apart.1 (λ t in' out'. publishes_later before s t (apart_from s t seats apart.0 in') (may t (or_right (s == t) (among_seats t seats) in') out')),
            ))
      ]
