-- The count of one call over the events of a step: it is what the seats have returned while the call waits.
use Rattle.std.proofs.Common.{◌≡◌, ◌∙◌, refl, sym, ap, subst, ℕ, suc, ◌+◌, ◌<◌, ◌≤◌, Bool, true, false, cond, if◌then◌else◌, List, ◌++◌, inl, inr, arith}
use Rattle.std.specs.Prelude.{◌==◌, ◌&&◌, not}
use Rattle.std.specs.List.{fold}
use Rattle.std.specs.Option.{option_to_list}
use Rattle.std.proofs.lemmas.Bool.{eq-eqb, ne_eqb, true≢false}
use Rattle.word_fields.specs.Records.{record_phase, record_number}
use Rattle.word_fields.specs.Seats.{queue_seats}
use Rattle.help_queue.specs.Gathers.{among_seats, holds, is_open}
use Rattle.help_queue_laws.specs.Runs.{queue_in, record_in}
use Rattle.fast_slow_engine.specs.Mechs.{Mech}
use Rattle.fast_slow_engine.specs.PhaseTable.{ends, mech_event}
use Rattle.overtaking_law.proofs.States.{State, next, completed_stays}
use Rattle.overtaking_law.proofs.States.State.{Unpublished, Waiting, Completed}
use Rattle.run_overtaking.specs.Accounts.{overtakers, most_overtaken}
use Rattle.run_overtaking.specs.Counts.{Counts, counts_after}
use Rattle.run_overtaking.specs.Waiting.{Waits, enters}
use Rattle.fast_slow_engine.specs.Events.{published, completed, eight_seats, step_events}
use Rattle.run_overtaking.proofs.Accounts.SeatSums.{fold_append, sum_grows, sum_zero}
use Rattle.run_overtaking.proofs.Events.CallStates.{published_waits, published_none, completed_none, completed_waits, own_waits, own_none}

-- what the state of call k of x says: while it waits its count is the sum of the other seats' returns, and once it is
-- completed that count stays within the bound
abbrev pub IsTracked : ℕ → List ℕ → Counts → ℕ → ℕ → State → Type 0
IsTracked seats words counts x k Unpublished = Unit {0}
IsTracked seats words counts x k (Waiting c) = Waits words x × (record_number (record_in words x) ≡ k) × (c ≡ overtakers seats x (counts.returned x))
IsTracked seats words counts x k (Completed c) = c ≤ most_overtaken seats

abbrev tick : Bool → ℕ
tick b = cond b 1 0

-- what a step leaves in the words of a call that waits, or makes of one that enters
pub record Steps (seats : ℕ) (words words' : List ℕ) (x : ℕ) : Type 0 where
  pub stays : Waits words x → is_open (record_phase (record_in words' x)) ≡ true → Waits words' x × (record_number (record_in words' x) ≡ record_number (record_in words x))
  pub enters' : holds (queue_in words) x ≡ false → holds (queue_in words') x ≡ true → Waits words' x
  pub eight : Waits words x → among_seats x eight_seats ≡ true

module _ {S W : Type 0} (seats i : ℕ) (inside : i < seats) (words words' : List ℕ) (counts : Counts) (mech : Mech S W) (own : mech.seat ≡ i) (x k : ℕ) (steps : Steps seats words words' x)
    (few : Waits words x → overtakers seats x (counts.returned x) ≤ most_overtaken seats) where
  abbrev after : Counts
  after = counts_after i mech.phase words words' counts

  -- a call that enters counts from 0
  entered_none : holds (queue_in words) x ≡ false → holds (queue_in words') x ≡ true → overtakers seats x (after.returned x) ≡ 0
  entered_none out in' =
      let is : enters (queue_in words) (queue_in words') x ≡ true = ap (λ c. not c && holds (queue_in words') x) out ∙ in' in
      sum_zero seats (λ u. if u == x then 0 else after.returned x u) (λ u. either (u == x)
      (ap (λ c. if c then 0 else (if ends mech.phase && (u == i) then suc (counts.returned x u) else counts.returned x u)) is))
    where
      either : (b : Bool) {n : ℕ} → n ≡ 0 → (if b then 0 else n) ≡ 0
      either true e = refl
      either false e = e

  grown : (b e c : Bool) (r : ℕ) → (b ≡ not c) → (if c then 0 else (if e && true then suc r else r)) ≡ (if c then 0 else r) + cond (e && b) 1 0
  grown b true true r is = (let z : tick b ≡ 0 = ap tick is in omega (arith, z))
  grown b true false r is = (let z : tick b ≡ 1 = ap tick is in omega (arith, z))
  grown b false true r is = omega arith
  grown b false false r is = omega arith

  same_false : (e c : Bool) (r : ℕ) → (if c then 0 else (if e && false then suc r else r)) ≡ (if c then 0 else r)
  same_false true true r = refl
  same_false true false r = refl
  same_false false true r = refl
  same_false false false r = refl

  -- one more where another seat returns
  waits_more : holds (queue_in words) x ≡ true → overtakers seats x (after.returned x) ≡ overtakers seats x (counts.returned x) + cond (ends mech.phase && not (mech.seat == x)) 1 0
  waits_more was =
      let none : enters (queue_in words) (queue_in words') x ≡ false = ap (λ c. not c && holds (queue_in words') x) was in
      let r = counts.returned x in
      let clear : (u : ℕ) → (if u == x then 0 else after.returned x u) ≡ (if u == x then 0 else (if ends mech.phase && (u == i) then suc (r u) else r u)) =
      λ u. ap (λ c. if u == x then 0 else (if c then 0 else (if ends mech.phase && (u == i) then suc (r u) else r u))) none in
      sum_grows seats i (cond (ends mech.phase && not (mech.seat == x)) 1 0) (λ u. if u == x then 0 else r u) (λ u. if u == x then 0 else after.returned x u) inside
      (λ u other. clear u ∙ ap (λ c. if u == x then 0 else (if ends mech.phase && c then suc (r u) else r u)) (ne_eqb u i other) ∙ same_false (ends mech.phase) (u == x) (r u))
      (clear i ∙ ap (λ c. if i == x then 0 else (if ends mech.phase && c then suc (r i) else r i)) (eq-eqb i i refl) ∙ grown (not (mech.seat == x)) (ends mech.phase) (i == x) (r i) (ap (λ s. not (s == x)) own))

  split : (s : State) → fold (next x k) s (step_events mech words words')
      ≡ fold (next x k) (fold (next x k) (fold (next x k) s (completed (record_in words) (record_in words') eight_seats)) (option_to_list (mech_event mech))) (published (queue_in words) (record_in words') (queue_seats (queue_in words')))
  split s =
      let own' = option_to_list (mech_event mech) in
      let last = published (queue_in words) (record_in words') (queue_seats (queue_in words')) in
      fold_append (next x k) s (completed (record_in words) (record_in words') eight_seats) (own' ++ last) ∙ fold_append (next x k) (fold (next x k) s (completed (record_in words) (record_in words') eight_seats)) own' last

  pub step_tracked : (s : State) → IsTracked seats words counts x k s → IsTracked seats words' after x k (fold (next x k) s (step_events mech words words'))
  step_tracked Unpublished h =
      let own' = option_to_list (mech_event mech) in
      let last = published (queue_in words) (record_in words') (queue_seats (queue_in words')) in
      let to = split Unpublished ∙ ap (λ s. fold (next x k) (fold (next x k) s own') last) (completed_none x k (record_in words) (record_in words') eight_seats) ∙ ap (λ s. fold (next x k) s last) (own_none x k mech mech.phase) in
      elim (published_none x k (queue_in words) (record_in words') (queue_seats (queue_in words'))) [
        | inl none ↦ subst (IsTracked seats words' after x k) (sym (to ∙ none)) tt
        | inr p ↦ subst (IsTracked seats words' after x k) (sym (to ∙ p.0)) (steps.enters' p.1 p.2, p.3, sym (entered_none p.1 p.2))
      ]
  step_tracked (Waiting c) h =
      let own' = option_to_list (mech_event mech) in
      let last = published (queue_in words) (record_in words') (queue_seats (queue_in words')) in
      elim (completed_waits x k c (record_in words) (record_in words') eight_seats h.1) [
        | inl done ↦ (
            let to = split (Waiting c) ∙ ap (λ s. fold (next x k) (fold (next x k) s own') last) done ∙ ap (λ s. fold (next x k) s last) (completed_stays x k c own') ∙ completed_stays x k c last in
            subst (IsTracked seats words' after x k) (sym to) (let f = few h.0 in let e = h.2 in omega (arith, f, e)))
        | inr on ↦ (
            let d = cond (ends mech.phase && not (mech.seat == x)) 1 0 in
            let to = split (Waiting c) ∙ ap (λ s. fold (next x k) (fold (next x k) s own') last) on.0 ∙ ap (λ s. fold (next x k) s last) (own_waits x k c mech mech.phase) ∙ published_waits x k (c + d) (queue_in words) (record_in words') (queue_seats (queue_in words')) in
            let opened = still (is_open (record_phase (record_in words x))) (is_open (record_phase (record_in words' x))) h.0.incomplete (on.1 (steps.eight h.0)) in
            let w = steps.stays h.0 opened in
            subst (IsTracked seats words' after x k) (sym to) (w.0, w.1 ∙ h.1, let e = h.2 in let more = waits_more h.0.published in omega (arith, e, more)))
      ]
    where
      still : (b b' : Bool) → b ≡ true → (b && not b') ≡ false → b' ≡ true
      still true true h k = refl
      still true false h k = absurd (true≢false k)
      still false b' h k = absurd (true≢false (sym h))
  step_tracked (Completed c) h = subst (IsTracked seats words' after x k) (sym (completed_stays x k c (step_events mech words words'))) h
