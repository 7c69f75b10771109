-- How many changes there were when a tick was drawn, after one more move.
use Rattle.std.proofs.Common.{◌≡◌, ◌∙◌, refl, sym, ap, ℕ, ◌<◌, ◌≤◌, if◌then◌else◌, true, List, [], ◌∷◌, ◌++◌, length, length-append, slice_get, Option, Some, inl, inr, arith, rules}
use Rattle.std.proofs.lemmas.Bool.{cases_lt, lt-ltb, le-ltb}
use Rattle.step_memory.specs.Step.{seen_of}
use Rattle.normal_traits.specs.World.{World}
use Rattle.normal_traits.specs.NormalForm.{NormalForm}
use Rattle.fast_slow_engine.specs.declared.phases.Phase.{Phase}
use Rattle.fast_slow_engine.specs.declared.phases.Phase.TheVariants.{Idle, Begin, Look, Generate, Apply, Wrap, Announce, Enter, Drive, Help, Collect, Value, End}
use Rattle.fast_slow_engine.specs.declared.setup.Setup.{Setup}
use Rattle.fast_slow_engine.specs.Mechs.{Mech}
use Rattle.fast_slow_engine.specs.PhaseTable.{mech_request}
use Rattle.fast_slow_engine.specs.Runs.{Move, RunState, AreMoves, begun, run_of}
use Rattle.offered_blocks.specs.Blocks.{Offer}
use Rattle.run_laws.specs.Ticks.{KeepsTicks, draws_tick}
use Rattle.run_laws.proofs.StepKinds.{begins, returns, goes}
use Rattle.run_laws.proofs.Summaries.{Summary, summary, tick_of}
use Rattle.run_exchanges.specs.Ghosts.{Held}
use Rattle.run_exchanges.specs.RunGhosts.{ghost_of, world_of}
use Rattle.run_exchanges.specs.Worlds.{world_stepped}
use Rattle.run_exchanges.proofs.Words.Grow.{world_grows}
use Rattle.run_exchanges.proofs.Words.Moved.{made_moved}
use Rattle.run_reports.specs.Changes.{changes_at}

-- the counter after a step is no lower
pub tick_rises : {S W : Type 0} (state after : RunState S W) → Summary state after → tick_of state ≤ tick_of after
tick_rises state after h =
    elim h.kind [
      | begins two one begin none event word ↦ omega (arith, word)
      | returns reply one rest line event word ↦ omega (arith, word)
      | goes one still begin none event word ↦ omega (arith, word)
    ]

module _ {S W : Type 0} (form : NormalForm S W) where
  -- how many changes there are
  abbrev pub count_of : Setup → List Move → ℕ
  count_of setup moves = length (world_of form setup moves).changes

  pub count_rises : (setup : Setup) (older : List Move) (move : Move) → count_of setup older ≤ count_of setup (move ∷ older)
  count_rises setup older move =
      let more = (world_grows form setup older move).changes in
      let same : count_of setup (move ∷ older) ≡ length (more.0 ++ (world_of form setup older).changes) = ap length more.1 in
      omega (arith, same, length-append more.0 (world_of form setup older).changes)

  -- a tick that was drawn before the move, and one that was not drawn yet
  pub at_early : (setup : Setup) (older : List Move) (move : Move) (tick : ℕ) → tick < tick_of (run_of form setup (move ∷ older))
      → changes_at form setup (move ∷ older) tick ≡ changes_at form setup older tick
  at_early setup older move tick early =
      ap (λ b. if b then changes_at form setup older tick else count_of setup (move ∷ older)) (lt-ltb tick (tick_of (run_of form setup (move ∷ older))) early)

  at_late : (setup : Setup) (older : List Move) (move : Move) (tick : ℕ) → tick_of (run_of form setup (move ∷ older)) ≤ tick
      → changes_at form setup (move ∷ older) tick ≡ count_of setup (move ∷ older)
  at_late setup older move tick late =
      ap (λ b. if b then changes_at form setup older tick else count_of setup (move ∷ older)) (le-ltb tick (tick_of (run_of form setup (move ∷ older))) late)

  -- there were no more than there are now
  pub at_within : (setup : Setup) (moves : List Move) (tick : ℕ) → changes_at form setup moves tick ≤ count_of setup moves
  at_within setup [] tick = omega arith
  at_within setup (move ∷ older) tick =
      elim (cases_lt tick (tick_of (run_of form setup (move ∷ older)))) [
        | inl early ↦ omega (arith, at_early setup older move tick early, at_within setup older tick, count_rises setup older move)
        | inr late ↦ omega (arith, at_late setup older move tick late)
      ]

  -- and no more at an earlier tick than at a later one
  pub at_rises : (setup : Setup) (moves : List Move) (tick later : ℕ) → tick ≤ later → changes_at form setup moves tick ≤ changes_at form setup moves later
  at_rises setup [] tick later less = omega arith
  at_rises setup (move ∷ older) tick later less =
      elim (cases_lt later (tick_of (run_of form setup (move ∷ older)))) [
        | inl early ↦
            omega (arith, at_early setup older move later early, at_early setup older move tick (omega (arith, early, less)), at_rises setup older tick later less)
        | inr late ↦ omega (arith, at_late setup older move later late, at_within setup (move ∷ older) tick)
      ]

  -- at a tick that is not drawn yet there are as many as now
  pub at_now : (setup : Setup) (moves : List Move) (tick : ℕ) → tick_of (run_of form setup moves) ≤ tick → changes_at form setup moves tick ≡ count_of setup moves
  at_now setup [] tick late = refl
  at_now setup (move ∷ older) tick late = at_late setup older move tick late

  -- a tick that was drawn keeps its count
  pub at_stays : (setup : Setup) (older : List Move) (move : Move) (tick : ℕ) → AreMoves form setup (move ∷ older) → KeepsTicks form setup (move ∷ older)
      → tick < tick_of (run_of form setup older) → changes_at form setup (move ∷ older) tick ≡ changes_at form setup older tick
  at_stays setup older move tick are keeps early =
      let rises = tick_rises (run_of form setup older) (run_of form setup (move ∷ older)) (summary form setup older move are keeps) in
      at_early setup older move tick (omega (arith, early, rises))

  -- a step that draws a tick changes nothing
  quiet_step : (phase : Phase S W) (mech : Mech S W) (held : Option (Held S)) (offers : ℕ → Option (Offer S)) (words : List ℕ) (world : World) → draws_tick phase ≡ true
      → (world_stepped form phase held offers (seen_of (mech_request form mech) words) world) ≡ world
  quiet_step Idle mech held offers words world draws = absurd (search rules)
  quiet_step Begin mech held offers words world draws = refl
  quiet_step Look mech held offers words world draws = absurd (search rules)
  quiet_step (Generate s at) mech held offers words world draws = absurd (search rules)
  quiet_step (Apply run stores at) mech held offers words world draws = absurd (search rules)
  quiet_step (Wrap w) mech held offers words world draws = absurd (search rules)
  quiet_step (Announce stage) mech held offers words world draws = absurd (search rules)
  quiet_step (Enter owner) mech held offers words world draws = absurd (search rules)
  quiet_step Drive mech held offers words world draws = absurd (search rules)
  quiet_step (Help drives help) mech held offers words world draws = absurd (search rules)
  quiet_step Collect mech held offers words world draws = absurd (search rules)
  quiet_step (Value reference) mech held offers words world draws = absurd (search rules)
  quiet_step (End reply) mech held offers words world draws = refl

  -- so the changes and the won exchanges are those before it
  pub drawn_changes : (setup : Setup) (older : List Move) (move : Move) (mech : Mech S W) → slice_get (run_of form setup older).mechs move.seat ≡ Some mech
      → draws_tick (begun move.begins mech).phase ≡ true
      → ((world_of form setup (move ∷ older)).changes ≡ (world_of form setup older).changes) × ((world_of form setup (move ∷ older)).journal ≡ (world_of form setup older).journal)
  drawn_changes setup older move mech at draws =
      let one = begun move.begins mech in
      let made = sym (made_moved form setup older move mech at) in
      let same = quiet_step one.phase one ((ghost_of form setup older).seats move.seat).held (ghost_of form setup older).offers (run_of form setup older).words (world_of form setup older) draws in
      (ap (λ (w : World). w.changes) made ∙ ap (λ (w : World). w.changes) same, ap (λ (w : World). w.journal) made ∙ ap (λ (w : World). w.journal) same)

  drawn_count : (setup : Setup) (older : List Move) (move : Move) (mech : Mech S W) → slice_get (run_of form setup older).mechs move.seat ≡ Some mech
      → draws_tick (begun move.begins mech).phase ≡ true → count_of setup (move ∷ older) ≡ count_of setup older
  drawn_count setup older move mech at draws = ap length (drawn_changes setup older move mech at draws).0

  -- at the tick that a move draws there are as many as after it
  pub at_drawn : (setup : Setup) (older : List Move) (move : Move) (mech : Mech S W) → slice_get (run_of form setup older).mechs move.seat ≡ Some mech
      → draws_tick (begun move.begins mech).phase ≡ true → changes_at form setup (move ∷ older) (tick_of (run_of form setup older)) ≡ count_of setup (move ∷ older)
  at_drawn setup older move mech at draws =
      let tick = tick_of (run_of form setup older) in
      elim (cases_lt tick (tick_of (run_of form setup (move ∷ older)))) [
        | inl early ↦ at_early setup older move tick early ∙ at_now setup older tick (omega arith) ∙ sym (drawn_count setup older move mech at draws)
        | inr late ↦ at_late setup older move tick late
      ]
