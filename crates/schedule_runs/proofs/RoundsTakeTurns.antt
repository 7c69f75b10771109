-- Rounds of the seats of a core.
use Rattle.std.proofs.Common.{rules, arith, ◌≡◌, ◌∙◌, ◌+◌, ◌-◌, ◌*◌, ◌%◌, ◌≤◌, ◌++◌, refl, sym, ap, ℕ, suc, zero, List, [], ◌∷◌, map, reverse, Option, Some, None}
use Rattle.std.specs.List.{range_with_len}
use Rattle.std.proofs.lemmas.List.{reverse-append}
use Rattle.std.proofs.lemmas.List.FromFn.{map-range_with_len_more}
use Rattle.std.proofs.lemmas.Nat.{mod-mul-add}
use Rattle.normal_traits.specs.NormalForm.{NormalForm}
use Rattle.fast_slow_engine.specs.declared.setup.Turn.{Turn}
use Rattle.fast_slow_engine.specs.declared.setup.Turn.TheVariants as turn
use Rattle.fast_slow_engine.specs.Mechs.{Mech}
use Rattle.fast_slow_engine.specs.Runs.{Move, RunState, moved_by, next_move}
use Rattle.event_core.specs.declared.cores.CoreTurn.TheVariants.{Idle}
use Rattle.event_core.specs.Cores.{CoreView, after_move, core_stepped, core_turn, core_turn_of, turn_after, turn_by}
use Rattle.schedule_runs.specs.Rounds.{RoundsTakeTurns, StepsRunInOrder, after_order, repeated, round, rounds}
use Rattle.schedule_runs.proofs.RunsInOrder.{stepped_in}

never_idle : (t : Turn) → core_turn_of t ≡ Idle → ⊥
never_idle turn.Going h = absurd (search rules)
never_idle (turn.Returned receipt) h = absurd (search rules)

module _ {S W : Type 0} (form : NormalForm S W) where
  stays_by : (mech : Option (Mech S W)) (move : Move) (state : RunState S W) → turn_by form mech move state ≡ Idle → moved_by form mech move state ≡ state
  stays_by None move state idle = refl
  stays_by (Some mech) move state idle = absurd (never_idle _ idle)

  stays_after : (move : Option Move) (state : RunState S W) → turn_after form move state ≡ Idle → after_move form move state ≡ state
  stays_after None state idle = refl
  stays_after (Some move) state idle = stays_by _ move state idle

  -- a step that finds its seat idle leaves the run as it is
  pub idle_stays : (seat : ℕ) (view : CoreView S W) → core_turn form seat view ≡ Idle → core_stepped form seat view ≡ view
  idle_stays seat view idle = ap (λ (state : RunState S W). record view { state = state }) (stays_after (next_move view.files seat view.state) view.state idle)

  pub after_both : (view : CoreView S W) (newer older : List ℕ) → after_order form view (newer ++ older) ≡ after_order form (after_order form view older) newer
  after_both view [] older = refl
  after_both view (seat ∷ newer) older = ap (core_stepped form seat) (after_both view newer older)

  pub none_repeated : (once : List ℕ) (old : CoreView S W) → old ≡ after_order form old (repeated once 0)
  unfolding repeated
  none_repeated once old = refl

  module _ (once : List ℕ) (old core : CoreView S W) (made : ℕ) (is : core ≡ after_order form old (repeated once made)) where
    -- one more time
    pub repeated_more : (core' : CoreView S W) → core' ≡ after_order form core once → core' ≡ after_order form old (repeated once (made + 1))
    unfolding repeated
    repeated_more core' step =
        let next : suc made ≡ made + 1 = omega arith in
        step ∙ ap (λ v. after_order form v once) is ∙ sym (after_both old once (repeated once made)) ∙ ap (λ n. after_order form old (repeated once n)) next

    -- once the steps have changed nothing, no later ones do
    repeated_past : after_order form core once ≡ core → (left : ℕ) → after_order form old (repeated once (left + made)) ≡ core
    unfolding repeated
    repeated_past still zero = ap (λ n. after_order form old (repeated once n)) (let e : 0 + made ≡ made = omega arith in e) ∙ sym is
    repeated_past still (suc left) =
        ap (λ n. after_order form old (repeated once n)) (let e : suc left + made ≡ suc (left + made) = omega arith in e)
        ∙ after_both old once (repeated once (left + made)) ∙ ap (λ v. after_order form v once) (repeated_past still left) ∙ still

    pub repeated_over : (core' : CoreView S W) (count : ℕ) → made ≤ count → core' ≡ after_order form core once → core' ≡ core → core' ≡ after_order form old (repeated once count)
    repeated_over core' count within step same =
        let all : count - made + made ≡ count = omega (arith, within) in
        same ∙ sym (repeated_past (sym step ∙ same) (count - made)) ∙ ap (λ n. after_order form old (repeated once n)) all

  -- one more seat of a round
  pub seat_more : (seat : ℕ) (old core core' : CoreView S W) → core ≡ after_order form old (round seat) → core' ≡ core_stepped form seat core → core' ≡ after_order form old (round (seat + 1))
  seat_more seat old core core' is step =
      let next : suc seat ≡ seat + 1 = omega arith in
      step ∙ ap (core_stepped form seat) is ∙ ap (λ n. after_order form old (round n)) next

  pub steps_run_in_order : StepsRunInOrder form
  steps_run_in_order setup files [] = refl
  steps_run_in_order setup files (seat ∷ older) = ap (core_stepped form seat) (steps_run_in_order setup files older) ∙ stepped_in form setup files seat older

-- ---- turns

-- the steps of a round, counted from the first one of all
module _ (seats n : ℕ) (so_far : reverse (rounds seats n) ≡ map (λ k. k % seats) (range_with_len 0 (n * seats))) where
  turns_of : (seat : ℕ) → seat ≤ seats → reverse (round seat ++ rounds seats n) ≡ map (λ k. k % seats) (range_with_len 0 (n * seats + seat))
  turns_of zero within = so_far ∙ ap (λ m. map (λ k. k % seats) (range_with_len 0 m)) (let e : n * seats ≡ n * seats + 0 = omega arith in e)
  turns_of (suc seat) within =
      reverse-append (seat ∷ []) (round seat ++ rounds seats n)
      ∙ ap (λ (l : List ℕ). l ++ seat ∷ []) (turns_of seat (omega (arith, within)))
      ∙ ap (λ k. map (λ k. k % seats) (range_with_len 0 (n * seats + seat)) ++ k ∷ []) (sym (mod-mul-add n seats seat (omega (arith, within))))
      ∙ sym (map-range_with_len_more (λ k. k % seats) 0 (n * seats + seat) (n * seats + seat) (omega arith))
      ∙ ap (λ m. map (λ k. k % seats) (range_with_len 0 m)) (let e : n * seats + seat + 1 ≡ n * seats + suc seat = omega arith in e)

pub rounds_take_turns : RoundsTakeTurns
unfolding repeated
rounds_take_turns seats zero = ap (λ m. map (λ k. k % seats) (range_with_len 0 m)) (let e : 0 ≡ 0 * seats = omega arith in e)
rounds_take_turns seats (suc n) =
    turns_of seats n (rounds_take_turns seats n) seats (omega arith) ∙ ap (λ m. map (λ k. k % seats) (range_with_len 0 m)) (let e : n * seats + seats ≡ suc n * seats = omega arith in e)
