-- What each part of the events of a step makes of the count of call k of seat x.
use Rattle.std.proofs.Common.{◌≡◌, ◌∙◌, refl, sym, ap, subst, ℕ, ◌+◌, Bool, true, false, cond, if◌then◌else◌, List, [], ◌∷◌, inl, inr, ◌⊎◌, arith}
use Rattle.std.specs.Prelude.{◌==◌, ◌&&◌, not}
use Rattle.std.specs.List.{fold}
use Rattle.std.specs.Option.{option_to_list}
use Rattle.std.proofs.lemmas.Bool.{cases_Bool, cases_eq, eqb-true, eq-eqb, ne_eqb, and_parts, or_left, or_right, true≢false}
use Rattle.word_fields.specs.Records.{record_phase, record_number}
use Rattle.help_queue.specs.Gathers.{among_seats, holds, is_open}
use Rattle.fast_slow_engine.specs.declared.phases.Phase.{Phase}
use Rattle.fast_slow_engine.specs.declared.phases.Phase.TheVariants as phase
use Rattle.fast_slow_engine.specs.Mechs.{Mech}
use Rattle.fast_slow_engine.specs.PhaseTable.{ends, event_in}
use Rattle.overtaking_law.specs.Order.{publication, completion}
use Rattle.overtaking_law.proofs.States.{State, next, completed_stays}
use Rattle.overtaking_law.proofs.States.State.{Unpublished, Waiting, Completed}
use Rattle.run_overtaking.proofs.Accounts.Places.{in_rest}
use Rattle.fast_slow_engine.specs.Events.{published, completed}

module _ (x k : ℕ) where
  keeps_count : (c : ℕ) → Waiting (c + 0) ≡ Waiting c
  keeps_count c = ap Waiting (omega arith)

  -- publications leave a call that waits
  pub published_waits : (c q : ℕ) (r : ℕ → ℕ) (seats : List ℕ) → fold (next x k) (Waiting c) (published q r seats) ≡ Waiting c
  published_waits c q r [] = refl
  published_waits c q r (t ∷ seats) =
      elim (cases_Bool (holds q t)) [
        | inl in' ↦ ap (λ b. fold (next x k) (Waiting c) (if b then published q r seats else publication t (record_number (r t)) ∷ published q r seats)) in' ∙ published_waits c q r seats
        | inr out ↦ ap (λ b. fold (next x k) (Waiting c) (if b then published q r seats else publication t (record_number (r t)) ∷ published q r seats)) out
            ∙ ap (λ s. fold (next x k) s (published q r seats)) (keeps_count c) ∙ published_waits c q r seats
      ]

  -- they publish a call only where its seat enters with its number
  pub published_none : (q : ℕ) (r : ℕ → ℕ) (seats : List ℕ)
      → (fold (next x k) Unpublished (published q r seats) ≡ Unpublished) ⊎ ((fold (next x k) Unpublished (published q r seats) ≡ Waiting 0) × (holds q x ≡ false) × (among_seats x seats ≡ true) × (record_number (r x) ≡ k))
  published_none q r [] = inl refl
  published_none q r (t ∷ seats) =
      let after : Bool → State = λ b. fold (next x k) Unpublished (if b then published q r seats else publication t (record_number (r t)) ∷ published q r seats) in
      let rest = published_none q r seats in
      elim (cases_Bool (holds q t)) [
        | inl in' ↦ elim rest [
          | inl none ↦ inl (ap after in' ∙ none)
          | inr p ↦ inr (ap after in' ∙ p.0, p.1, or_right (t == x) (among_seats x seats) p.2, p.3)
        ]
        | inr out ↦ elim (cases_Bool ((t == x) && (record_number (r t) == k))) [
          | inl is ↦ (
              let parts = and_parts (t == x) (record_number (r t) == k) is in
              let same = eqb-true t x parts.0 in
              inr (
                ap after out ∙ ap (λ b. fold (next x k) (cond b (Waiting 0) Unpublished) (published q r seats)) is ∙ published_waits 0 q r seats,
                subst (λ s. holds q s ≡ false) same out,
                or_left (t == x) (among_seats x seats) parts.0,
                subst (λ s. record_number (r s) ≡ k) same (eqb-true (record_number (r t)) k parts.1),
              ))
          | inr other ↦ (
              let skip = ap after out ∙ ap (λ b. fold (next x k) (cond b (Waiting 0) Unpublished) (published q r seats)) other in
              elim rest [
                | inl none ↦ inl (skip ∙ none)
                | inr p ↦ inr (skip ∙ p.0, p.1, or_right (t == x) (among_seats x seats) p.2, p.3)
              ])
        ]
      ]

  -- completions leave a call that isn't published
  pub completed_none : (r r' : ℕ → ℕ) (seats : List ℕ) → fold (next x k) Unpublished (completed r r' seats) ≡ Unpublished
  completed_none r r' [] = refl
  completed_none r r' (t ∷ seats) =
      let after : Bool → State = λ c. fold (next x k) Unpublished (if c then completion t (record_number (r t)) ∷ completed r r' seats else completed r r' seats) in
      elim (cases_Bool (is_open (record_phase (r t)) && not (is_open (record_phase (r' t))))) [ inl does ↦ ap after does ∙ completed_none r r' seats | inr none ↦ ap after none ∙ completed_none r r' seats ]

  -- a call that waits is completed, or goes on where its record stays open
  pub completed_waits : (c : ℕ) (r r' : ℕ → ℕ) (seats : List ℕ) → record_number (r x) ≡ k
      → (fold (next x k) (Waiting c) (completed r r' seats) ≡ Completed c) ⊎ ((fold (next x k) (Waiting c) (completed r r' seats) ≡ Waiting c) × (among_seats x seats ≡ true → (is_open (record_phase (r x)) && not (is_open (record_phase (r' x)))) ≡ false))
  completed_waits c r r' [] number = inr (refl, λ h. absurd (true≢false (sym h)))
  completed_waits c r r' (t ∷ seats) number =
      let after : Bool → State = λ b. fold (next x k) (Waiting c) (if b then completion t (record_number (r t)) ∷ completed r r' seats else completed r r' seats) in
      let rest = completed_waits c r r' seats number in
      elim (cases_Bool (is_open (record_phase (r t)) && not (is_open (record_phase (r' t))))) [
        | inr none ↦ elim rest [
          | inl done ↦ inl (ap after none ∙ done)
          | inr on ↦ inr (
            ap after none ∙ on.0,
            λ h. elim (cases_eq t x) [
              | inl same ↦ subst (λ s. (is_open (record_phase (r s)) && not (is_open (record_phase (r' s)))) ≡ false) same none
              | inr other ↦ on.1 (in_rest x t seats h (ne_eqb t x other))
            ],
          )
        ]
        | inl does ↦ elim (cases_eq t x) [
          | inl same ↦ (
              let is : ((t == x) && (record_number (r t) == k)) ≡ true = ap (λ b. b && (record_number (r t) == k)) (eq-eqb t x same) ∙ eq-eqb (record_number (r t)) k (ap (λ s. record_number (r s)) same ∙ number) in
              inl (ap after does ∙ ap (λ b. fold (next x k) (cond b (Completed c) (Waiting (c + 0))) (completed r r' seats)) is ∙ completed_stays x k c (completed r r' seats)))
          | inr other ↦ (
              let apart = ap (λ b. b && (record_number (r t) == k)) (ne_eqb t x other) in
              let skip = ap after does ∙ ap (λ b. fold (next x k) (cond b (Completed c) (Waiting (c + 0))) (completed r r' seats)) apart ∙ ap (λ s. fold (next x k) s (completed r r' seats)) (keeps_count c) in
              elim rest [
                | inl done ↦ inl (skip ∙ done)
                | inr on ↦ inr (skip ∙ on.0, λ h. on.1 (in_rest x t seats h (ne_eqb t x other)))
              ])
        ]
      ]

  -- the own event of a step: a return of another seat counts one
  pub own_waits : {S W : Type 0} (c : ℕ) (mech : Mech S W) (p : Phase S W) → fold (next x k) (Waiting c) (option_to_list (event_in p mech)) ≡ Waiting (c + cond (ends p && not (mech.seat == x)) 1 0)
  own_waits c mech phase.Idle = sym (keeps_count c)
  own_waits c mech phase.Begin = refl
  own_waits c mech phase.Look = sym (keeps_count c)
  own_waits c mech (phase.Generate s step) = sym (keeps_count c)
  own_waits c mech (phase.Apply r stores step) = sym (keeps_count c)
  own_waits c mech (phase.Wrap wrap) = sym (keeps_count c)
  own_waits c mech (phase.Announce step) = sym (keeps_count c)
  own_waits c mech (phase.Enter owner) = sym (keeps_count c)
  own_waits c mech phase.Drive = sym (keeps_count c)
  own_waits c mech (phase.Help drives help) = sym (keeps_count c)
  own_waits c mech phase.Collect = sym (keeps_count c)
  own_waits c mech (phase.Value reference) = sym (keeps_count c)
  own_waits c mech (phase.End reply) = refl

  pub own_none : {S W : Type 0} (mech : Mech S W) (p : Phase S W) → fold (next x k) Unpublished (option_to_list (event_in p mech)) ≡ Unpublished
  own_none mech phase.Idle = refl
  own_none mech phase.Begin = refl
  own_none mech phase.Look = refl
  own_none mech (phase.Generate s step) = refl
  own_none mech (phase.Apply r stores step) = refl
  own_none mech (phase.Wrap wrap) = refl
  own_none mech (phase.Announce step) = refl
  own_none mech (phase.Enter owner) = refl
  own_none mech phase.Drive = refl
  own_none mech (phase.Help drives help) = refl
  own_none mech phase.Collect = refl
  own_none mech (phase.Value reference) = refl
  own_none mech (phase.End reply) = refl
