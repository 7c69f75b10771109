-- One call, one seat, one step: the account is opened where the call is published, and goes on while it waits.
use Rattle.std.proofs.Common.{◌≡◌, ◌∙◌, refl, sym, ap, subst, ℕ, suc, ◌-◌, ◌<◌, ◌≤◌, Bool, true, false, if◌then◌else◌, drop, length, length-drop, inl, inr, ◌⊎◌, arith}
use Rattle.std.specs.Prelude.{◌&&◌, not, nat_lt}
use Rattle.std.proofs.lemmas.Bool.{cases_Bool, cases_lt, cond-false, lt-ltb, le-ltb, ltb-true, and_parts}
use Rattle.word_fields.specs.Records.{record_phase}
use Rattle.word_fields.specs.Seats.{queue_seats}
use Rattle.help_queue.specs.Gathers.{holds, is_open}
use Rattle.help_queue_laws.proofs.Known.Scenes.{Scene, IsOpen, IsClosed, IsIn, IsSound, Later}
use Rattle.help_queue_laws.proofs.Known.QueueWords.{not_both}
use Rattle.run_overtaking.specs.Waiting.{position, enters, waits_ahead}
use Rattle.run_overtaking.specs.Counts.{allowance}
use Rattle.run_overtaking.specs.Accounts.{Account, KeepsAccount}
use Rattle.run_overtaking.proofs.Accounts.Places.{position_below, place_in, out_behind, out_past, tail_out, first_place, leaves, stays}
use Rattle.run_overtaking.proofs.Accounts.Scenes.{Dropped, queue_goes, nearer, places, both_places, opened_before}

-- u waits ahead of x, in a scene
abbrev pub ahead_in : Scene → ℕ → ℕ → Bool
ahead_in a u x = waits_ahead a.queue a.records u x

abbrev pub queue_place : Scene → ℕ → ℕ
queue_place a t = position t (queue_seats a.queue)

ahead_from : (a : Scene) (u x : ℕ) → queue_place a u < queue_place a x → IsOpen a u → ahead_in a u x ≡ true
ahead_from a u x less opened = ap (λ b. b && is_open (record_phase (a.records u))) (lt-ltb (queue_place a u) (queue_place a x) less) ∙ opened

-- what it says of the two: they stand in this order, and u is in the word with an open record
record Ahead (a : Scene) (u x : ℕ) : Type 0 where
  pub less : queue_place a u < queue_place a x
  pub in' : IsIn a u
  pub opened : IsOpen a u

ahead_parts : (a : Scene) (u x : ℕ) → IsIn a x → ahead_in a u x ≡ true → Ahead a u x
ahead_parts a u x in' h =
    let parts = and_parts (nat_lt (queue_place a u) (queue_place a x)) (is_open (record_phase (a.records u))) h in
    let less = ltb-true (queue_place a u) (queue_place a x) parts.0 in
    let below = position_below x (queue_seats a.queue) in' in
    record { less = less; in' = place_in u (queue_seats a.queue) (omega (arith, less, below)); opened = parts.1 }

-- ---- the call is published

module _ (b : Scene) (sound : IsSound b) (x u : ℕ) (in' : IsIn b x) (held : Bool) where
  px : ℕ
  px = position x (queue_seats b.queue)

  abbrev pu : ℕ
  pu = position u (queue_seats b.queue)

  allowed_ahead : position u (queue_seats b.queue) < position x (queue_seats b.queue) → allowance x u (queue_seats b.queue) ≡ suc (position x (queue_seats b.queue)) - position u (queue_seats b.queue)
  allowed_ahead less = ap (λ c. suc (position x (queue_seats b.queue)) - (if c then pu else 0)) (lt-ltb pu (position x (queue_seats b.queue)) less)

  allowed_behind : position x (queue_seats b.queue) ≤ position u (queue_seats b.queue) → allowance x u (queue_seats b.queue) ≡ suc (position x (queue_seats b.queue))
  allowed_behind past = ap (λ c. suc (position x (queue_seats b.queue)) - (if c then pu else 0)) (le-ltb pu (position x (queue_seats b.queue)) past) ∙ omega arith

  -- the allowance is one more than the place, but for seats that wait ahead
  allowed_since : ahead_in b u x ≡ false → allowance x u (queue_seats b.queue) ≡ suc (position x (queue_seats b.queue))
  allowed_since none =
      elim (cases_lt pu (position x (queue_seats b.queue))) [
        | inr past ↦ allowed_behind past
        | inl less ↦ (
            let below = position_below x (queue_seats b.queue) in' in
            let among = place_in u (queue_seats b.queue) (omega (arith, less, below)) in
            let first : pu ≡ 0 = elim (sound.published u among) [ inl opened ↦ absurd (not_both (ahead_from b u x less opened) none) | inr done ↦ first_place u (queue_seats b.queue) (sound.heads u among done) ] in
            let is = allowed_ahead less in
            omega (arith, is, first))
      ]

  pub publishes : KeepsAccount (allowance x u (queue_seats b.queue)) 0 (queue_place b x) (queue_place b u) (ahead_in b u x) held
  publishes = record {
    before = λ h. (let parts = ahead_parts b u x in' h in let less = parts.less in let is = allowed_ahead less in (refl, omega (arith, is, less)));
    since = λ none. (let is = allowed_since none in record { loose = omega (arith, is); strict = λ _. omega (arith, is) });
  }

-- ---- the call waits on

module _ (seats who : ℕ) (a b : Scene) (l : Later seats who a b) (x u : ℕ) (in' : IsIn a x) (opens : IsOpen a x) where
  out_stays : holds a.queue u ≡ false → queue_place b x ≤ queue_place b u
  out_stays out =
      let below = position_below x (queue_seats a.queue) in' in
      elim (queue_goes seats who a b l) [
        | inl behind ↦ (
            let far : length (queue_seats a.queue) ≤ queue_place b u = subst (λ qs. length (queue_seats a.queue) ≤ position u qs) (sym behind.1) (out_behind u (queue_seats a.queue) behind.0 out) in
            elim (places seats who a b l x in' opens) [ inl same ↦ omega (arith, far, below, same) | inr near ↦ omega (arith, far, below, near) ])
        | inr (inl same) ↦ (
            let far : length (queue_seats a.queue) ≤ queue_place b u = subst (λ q. length (queue_seats a.queue) ≤ position u (queue_seats q)) (sym same) (out_past u (queue_seats a.queue) out) in
            elim (places seats who a b l x in' opens) [ inl still' ↦ omega (arith, far, below, still') | inr near ↦ omega (arith, far, below, near) ])
        | inr (inr d) ↦ (
            let rest = drop 1 (queue_seats a.queue) in
            let far : length (drop 1 (queue_seats a.queue)) ≤ queue_place b u = subst (λ qs. length (drop 1 (queue_seats a.queue)) ≤ position u qs) (sym d.seats) (out_behind u (drop 1 (queue_seats a.queue)) d.more (tail_out u (queue_seats a.queue) out)) in
            let less = length-drop 1 (queue_seats a.queue) in
            let near = nearer seats who a b l x in' opens d in
            omega (arith, far, less, near, below))
      ]

  -- who waits ahead of it now did so before
  ahead_before : ahead_in b u x ≡ true → IsIn b x → Ahead a u x × IsOpen b u
  ahead_before h in'' =
      let now = ahead_parts b u x in'' h in
      elim (cases_Bool (holds a.queue u)) [
        | inr out ↦ (let past = out_stays out in let less = now.less in absurd (omega (arith, past, less)))
        | inl was ↦ (
            let opened = opened_before seats who a b l u was now.opened in
            let less = now.less in
            (record { less = elim (both_places seats who a b l x u in' opens was opened) [ inl same ↦ (let p = same.0 in let q = same.1 in omega (arith, p, q, less)) | inr near ↦ (let p = near.0 in let q = near.1 in omega (arith, p, q, less)) ]; in' = was; opened = opened }, now.opened))
      ]

  -- who waited ahead and doesn't now is the head, whose call was completed
  ahead_completed : Ahead a u x → ahead_in b u x ≡ false → queue_place a u ≡ 0
  ahead_completed was none =
      let less = was.less in
      let less' : queue_place b u < queue_place b x = elim (both_places seats who a b l x u in' opens was.in' was.opened) [ inl same ↦ (let p = same.0 in let q = same.1 in omega (arith, p, q, less)) | inr near ↦ (let p = near.0 in let q = near.1 in omega (arith, p, q, less)) ] in
      let closed : IsClosed b u = elim (cases_Bool (is_open (record_phase (b.records u)))) [ inl opened ↦ absurd (not_both (ahead_from b u x less' opened) none) | inr closed ↦ closed ] in
      elim (l.moves u) [
        | inl stays ↦ absurd (not_both (ap (λ w. is_open (record_phase w)) stays.same ∙ was.opened) closed)
        | inr (inl announces) ↦ absurd (not_both was.opened announces.closed)
        | inr (inr advances) ↦ first_place u (queue_seats a.queue) advances.head
      ]

  module _ (allowed r : ℕ) (held held' ret : Bool) (account : KeepsAccount allowed r (queue_place a x) (queue_place a u) (ahead_in a u x) held) (on : held ≡ true → (held' ≡ true) ⊎ Dropped a b) (back : ret ≡ true → (held ≡ false) × (held' ≡ true) × IsClosed a u) where
    abbrev next : ℕ
    next = if ret then suc r else r

    -- who waits doesn't return
    none_returns : IsOpen a u → next ≡ r
    none_returns opened = elim (cases_Bool ret) [ inl does ↦ absurd (not_both opened (back does).2) | inr none ↦ cond-false ret (suc r) r none ]

    waited : Account allowed r (queue_place a x) held → Account allowed r (queue_place b x) held'
    waited old =
        elim (places seats who a b l x in' opens) [
          | inr near ↦ leaves allowed r (queue_place a x) (queue_place b x) held held' near old
          | inl same ↦ elim (cases_Bool held) [
            | inl back' ↦ elim (on back') [
              | inl still' ↦ stays allowed r (queue_place a x) (queue_place b x) held held' same (λ _. still') old
              | inr d ↦ leaves allowed r (queue_place a x) (queue_place b x) held held' (nearer seats who a b l x in' opens d) old
            ]
            | inr free ↦ stays allowed r (queue_place a x) (queue_place b x) held held' same (λ back'. absurd (not_both back' free)) old
          ]
        ]

    returned_once : Account allowed r (queue_place a x) held → held ≡ false → held' ≡ true → Account allowed (suc r) (queue_place b x) held'
    returned_once old free back' =
        let s = old.strict free in
        record {
          loose = elim (places seats who a b l x in' opens) [ inr near ↦ omega (arith, near, s) | inl same ↦ omega (arith, same, s) ];
          strict = λ e. absurd (not_both back' e);
        }

    since_on : Account allowed r (queue_place a x) held → Account allowed next (queue_place b x) held'
    since_on old =
        elim (cases_Bool ret) [
          | inl does ↦ subst (λ c. Account allowed (if c then suc r else r) (queue_place b x) held') (sym does) (returned_once old (back does).0 (back does).1)
          | inr none ↦ subst (λ c. Account allowed (if c then suc r else r) (queue_place b x) held') (sym none) (waited old)
        ]

    -- the call of a seat ahead was completed: its account begins
    begins : Ahead a u x → ahead_in b u x ≡ false → Account allowed next (queue_place b x) held'
    begins was none =
        let k = account.before (ahead_from a u x was.less was.opened) in
        let zero' = k.0 in
        let sum = k.1 in
        let head = ahead_completed was none in
        let same = none_returns was.opened in
        elim (places seats who a b l x in' opens) [
          | inl still' ↦ record { loose = omega (arith, zero', sum, head, same, still'); strict = λ _. omega (arith, zero', sum, head, same, still') }
          | inr near ↦ record { loose = omega (arith, zero', sum, head, same, near); strict = λ _. omega (arith, zero', sum, head, same, near) }
        ]

    pub goes_on : IsIn b x → KeepsAccount allowed next (queue_place b x) (queue_place b u) (ahead_in b u x) held'
    goes_on in'' = record {
      before = λ h.
          let was = ahead_before h in'' in
          let k = account.before (ahead_from a u x was.0.less was.0.opened) in
          let zero' = k.0 in
          let sum = k.1 in
          let same = none_returns was.0.opened in
          (same ∙ zero', elim (both_places seats who a b l x u in' opens was.0.in' was.0.opened) [ inl still' ↦ (let p = still'.0 in let q = still'.1 in omega (arith, sum, p, q)) | inr near ↦ (let p = near.0 in let q = near.1 in omega (arith, sum, p, q)) ]);
      since = λ none. elim (cases_Bool (ahead_in a u x)) [ inl was ↦ begins (ahead_parts a u x in' was) none | inr not_before ↦ since_on (account.since not_before) ];
    }

-- ---- whether it has just entered or was there

pub account_goes : (seats who : ℕ) (a b : Scene) (l : Later seats who a b) (sound : IsSound b) (x u : ℕ) (in' : IsIn b x) (opened : IsOpen b x) (allowed r : ℕ) (held held' ret : Bool)
    → (IsIn a x → IsOpen a x → KeepsAccount allowed r (queue_place a x) (queue_place a u) (ahead_in a u x) held) → (IsIn a x → held ≡ true → (held' ≡ true) ⊎ Dropped a b) → (ret ≡ true → (held ≡ false) × (held' ≡ true) × IsClosed a u)
    → KeepsAccount (if enters a.queue b.queue x then allowance x u (queue_seats b.queue) else allowed) (if enters a.queue b.queue x then 0 else (if ret then suc r else r)) (queue_place b x) (queue_place b u) (ahead_in b u x) held'
account_goes seats who a b l sound x u in' opened allowed r held held' ret account on back =
    let fresh = allowance x u (queue_seats b.queue) in
    let next = if ret then suc r else r in
    elim (cases_Bool (holds a.queue x)) [
      | inl was ↦ (
          let none : enters a.queue b.queue x ≡ false = ap (λ c. not c && holds b.queue x) was in
          let opens = opened_before seats who a b l x was opened in
          subst (λ c. KeepsAccount (if c then fresh else allowed) (if c then 0 else next) (queue_place b x) (queue_place b u) (ahead_in b u x) held') (sym none)
          (goes_on seats who a b l x u was opens allowed r held held' ret (account was opens) (on was) back in'))
      | inr out ↦ (
          let entered : enters a.queue b.queue x ≡ true = ap (λ c. not c && holds b.queue x) out ∙ in' in
          subst (λ c. KeepsAccount (if c then fresh else allowed) (if c then 0 else next) (queue_place b x) (queue_place b u) (ahead_in b u x) held') (sym entered) (publishes b sound x u in' held'))
    ]
