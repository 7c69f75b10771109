-- Rounds of all seats but one, behind the steps of that one.
use Rattle.std.proofs.Common.{arith, ◌≡◌, ◌≢◌, ◌∙◌, ◌+◌, ◌∷◌, refl, sym, ap, ℕ, zero, suc, cond, replicate}
use Rattle.std.proofs.lemmas.Bool.{eq-eqb, ne_eqb}
use Rattle.normal_traits.specs.NormalForm.{NormalForm}
use Rattle.event_core.specs.Cores.{CoreView, core_stepped}
use Rattle.schedule_runs.specs.Spans.{after_steps}
use Rattle.schedule_runs.specs.Rounds.{after_order, repeated}
use Rattle.schedule_runs.specs.Stops.{round_without, stop_order}
use Rattle.schedule_runs.proofs.RoundsTakeTurns.{after_both}

module _ {S W : Type 0} (form : NormalForm S W) where
  -- steps of a seat, as an order
  steps_as_order : (seat : ℕ) (view : CoreView S W) (n : ℕ) → after_steps form seat view n ≡ after_order form view (replicate n seat)
  steps_as_order seat view zero = refl
  steps_as_order seat view (suc n) = ap (core_stepped form seat) (steps_as_order seat view n)

  -- the rounds come after the steps
  pub stop_made : (seats stopped steps count : ℕ) (old between core : CoreView S W) → between ≡ after_steps form stopped old steps → core ≡ after_order form between (repeated (round_without stopped seats) count)
      → core ≡ after_order form old (stop_order seats stopped steps count)
  stop_made seats stopped steps count old between core first then =
      let order = repeated (round_without stopped seats) count in
      then ∙ ap (λ v. after_order form v order) (first ∙ steps_as_order stopped old steps) ∙ sym (after_both form old order (replicate steps stopped))

  module _ (stopped seat : ℕ) (old core : CoreView S W) (is : core ≡ after_order form old (round_without stopped seat)) where
    -- one more seat of a round
    pub next_without : (core' : CoreView S W) → seat ≢ stopped → core' ≡ core_stepped form seat core → core' ≡ after_order form old (round_without stopped (seat + 1))
    next_without core' other step =
        let next : suc seat ≡ seat + 1 = omega arith in
        step ∙ ap (core_stepped form seat) is
        ∙ ap (λ b. after_order form old (cond b (round_without stopped seat) (seat ∷ round_without stopped seat))) (sym (ne_eqb seat stopped other))
        ∙ ap (λ n. after_order form old (round_without stopped n)) next

    -- the seat that stopped has no step in it
    pub passed_over : seat ≡ stopped → core ≡ after_order form old (round_without stopped (seat + 1))
    passed_over here =
        let next : suc seat ≡ seat + 1 = omega arith in
        is
        ∙ ap (λ b. after_order form old (cond b (round_without stopped seat) (seat ∷ round_without stopped seat))) (sym (eq-eqb seat stopped here))
        ∙ ap (λ n. after_order form old (round_without stopped n)) next
