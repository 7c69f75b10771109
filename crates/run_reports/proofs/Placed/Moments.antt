-- How the calls of a run stand to its changes, and its ticks to its moments.
use Rattle.std.proofs.Common.{◌≡◌, ◌≢◌, ◌∙◌, AllPairs, refl, sym, subst, ap, ℕ, ◌+◌, ◌<◌, ◌≤◌, List, [], ◌∷◌, ◌++◌, length, inl, inr, arith}
use Rattle.std.proofs.lemmas.Bool.{cases_lt}
use Rattle.std.proofs.lemmas.List.{append_assoc}
use Rattle.normal_traits.specs.World.{Called, Change, World, Among}
use Rattle.normal_traits.specs.NormalForm.{NormalForm}
use Rattle.normal_traits.specs.Laws.{Laws}
use Rattle.fast_slow_engine.specs.declared.setup.Setup.{Setup}
use Rattle.fast_slow_engine.specs.Runs.{Move, AreMoves, run_of}
use Rattle.move_kinds.specs.Moves.{Grows}
use Rattle.run_laws.specs.Drawn.{IsDrawnAt}
use Rattle.run_laws.specs.Ticks.{KeepsTicks}
use Rattle.run_laws.proofs.Pairs.{pairs_cons, pairs_nil}
use Rattle.run_laws.proofs.StepKinds.{begins, returns, goes}
use Rattle.run_laws.proofs.Summaries.{summary, tick_of}
use Rattle.run_laws.proofs.TicksCounted.{opening_word_at}
use Rattle.run_laws.proofs.CountersLeft.{client_keeps_ticks}
use Rattle.run_exchanges.specs.RunGhosts.{ghost_of, world_of}
use Rattle.run_exchanges.specs.Kept.{RunsAreKept}
use Rattle.run_exchanges.proofs.Words.Grow.{same_grows, world_grows}
use Rattle.run_exchanges.proofs.Journals.Once.{all_among}
use Rattle.run_reports.specs.Changes.{changes_at}
use Rattle.run_reports.specs.Endings.{StandsOver}
use Rattle.run_reports.specs.History.{EachCallEnded, NoneChangedTwice, EachCallPlaced, EachTickDrawn, EachTickCounted, HasHistory, HistoryGrows}
use Rattle.run_reports.proofs.Endings.Accounted.{calls_accounted}
use Rattle.run_reports.proofs.Counts.Ticks.{at_early, at_now, at_stays, tick_rises}
use Rattle.run_reports.proofs.Counts.Stands.{among_stands}
use Rattle.run_reports.proofs.Endings.Stays.{drawn_stays}
use Rattle.run_reports.proofs.Placed.Placeable.{each_placeable}
use Rattle.run_reports.proofs.Placed.Reports.{is_placed}

-- ---- no call made two changes

abbrev OnceOver : List Change → Type 0
OnceOver changes =
    (change mate : Change) (older rest : List Change) → StandsOver changes change older → StandsOver older mate rest
    → change.list.call.seat ≡ mate.list.call.seat → ¬ (change.list.call.number ≡ mate.list.call.number)

-- a change in front of others is of no call of theirs
front_apart : (x mate : Change) (xs : List Change) → OnceOver (x ∷ xs) → Among mate xs → x.list.call ≢ mate.list.call
front_apart x mate xs once among same =
    let stands = among_stands xs mate among in
    once x mate xs stands.0 ([], refl) stands.1 (ap (λ (c : Called). c.seat) same) (ap (λ (c : Called). c.number) same)

all_apart : (changes : List Change) → OnceOver changes → AllPairs (λ (change mate : Change). change.list.call ≢ mate.list.call) changes
all_apart [] once = pairs_nil (λ (change mate : Change). change.list.call ≢ mate.list.call)
all_apart (x ∷ xs) once =
    pairs_cons (λ (change mate : Change). change.list.call ≢ mate.list.call) x xs
    (all_among (λ (mate : Change). x.list.call ≢ mate.list.call) xs (λ mate among. front_apart x mate xs once among))
    (all_apart xs (λ one two older rest stands below. once one two older rest (x ∷ stands.0, ap (λ (l : List Change). x ∷ l) stands.1) below))

-- ---- what is known only grows

in_front : {X : Type 0} (first more later : List X) (newest newer : List X) → later ≡ newest ++ more → more ≡ newer ++ first → later ≡ (newest ++ newer) ++ first
in_front first more later newest newer is was = is ∙ ap (λ l. newest ++ l) was ∙ sym (append_assoc newest newer first)

grows_on : (world more later : World) → Grows world more → Grows more later → Grows world later
grows_on world more later one two = record {
  changes = (two.changes.0 ++ one.changes.0, in_front world.changes more.changes later.changes two.changes.0 one.changes.0 two.changes.1 one.changes.1);
  journal = (two.journal.0 ++ one.journal.0, in_front world.journal more.journal later.journal two.journal.0 one.journal.0 two.journal.1 one.journal.1);
  used = λ block is. two.used block (one.used block is);
}

module _ {S W : Type 0} (form : NormalForm S W) where
  grows_over : (setup : Setup) (newer older : List Move) → Grows (world_of form setup older) (world_of form setup (newer ++ older))
  grows_over setup [] older = same_grows (world_of form setup older)
  grows_over setup (move ∷ newer) older =
      grows_on (world_of form setup older) (world_of form setup (newer ++ older)) (world_of form setup (move ∷ newer ++ older)) (grows_over setup newer older) (world_grows form setup (newer ++ older) move)

  pub history_grows : HistoryGrows form
  history_grows setup moves newer older is = subst (λ (l : List Move). Grows (world_of form setup older) (world_of form setup l)) (sym is) (grows_over setup newer older)

  -- ---- the move that drew a tick

  drawn_by : (setup : Setup) (moves : List Move) → AreMoves form setup moves → KeepsTicks form setup moves → (tick : ℕ) → tick < tick_of (run_of form setup moves)
      → (move : Move) × (older : List Move) × IsDrawnAt form setup moves tick move older
  drawn_by setup [] are keeps tick below = absurd (omega (arith, below, opening_word_at form setup))
  drawn_by setup (move ∷ older) are keeps tick below =
      elim (cases_lt tick (tick_of (run_of form setup older))) [
        | inl early ↦
            let there = drawn_by setup older are.0 keeps.0 tick early in
            (there.0, there.1, drawn_stays form setup older move tick there.0 there.1 there.2)
        | inr late ↦ elim (summary form setup older move are keeps).kind [
          | begins two one begin none event word ↦ now word late
          | returns reply one rest line event word ↦ now word late
          | goes one still begin none event word ↦ absurd (omega (arith, below, late, word))
        ]
      ]
    where
      now : tick_of (run_of form setup (move ∷ older)) ≡ tick_of (run_of form setup older) + 1 → tick_of (run_of form setup older) ≤ tick → (one : Move) × (past : List Move) × IsDrawnAt form setup (move ∷ older) tick one past
      now word late = (move, older, record { newer = []; made = refl; before = omega (arith, word, late, below); after = omega (arith, word, late, below) })

  -- ---- the changes when it was drawn

  ticks_up : (setup : Setup) (newer older : List Move) → AreMoves form setup (newer ++ older) → KeepsTicks form setup (newer ++ older) → tick_of (run_of form setup older) ≤ tick_of (run_of form setup (newer ++ older))
  ticks_up setup [] older are keeps = omega arith
  ticks_up setup (move ∷ newer) older are keeps =
      let rises = tick_rises (run_of form setup (newer ++ older)) (run_of form setup (move ∷ newer ++ older)) (summary form setup (newer ++ older) move are keeps) in
      omega (arith, rises, ticks_up setup newer older are.0 keeps.0)

  counted_at : (setup : Setup) (newer : List Move) (move : Move) (older : List Move) (tick : ℕ) → AreMoves form setup (newer ++ move ∷ older) → KeepsTicks form setup (newer ++ move ∷ older)
      → tick_of (run_of form setup older) ≡ tick → tick_of (run_of form setup (move ∷ older)) ≡ tick + 1 → changes_at form setup (newer ++ move ∷ older) tick ≡ length (ghost_of form setup older).changes
  counted_at setup [] move older tick are keeps before after = at_early form setup older move tick (omega (arith, after)) ∙ at_now form setup older tick (omega (arith, before))
  counted_at setup (last ∷ newer) move older tick are keeps before after =
      let up = ticks_up setup newer (move ∷ older) are.0 keeps.0 in
      at_stays form setup (newer ++ move ∷ older) last tick are keeps (omega (arith, after, up)) ∙ counted_at setup newer move older tick are.0 keeps.0 before after

  -- ---- of every run

  module _ (laws : Laws form) (kept : RunsAreKept form) where
    pub calls_ended : EachCallEnded form
    calls_ended setup moves are = (calls_accounted form laws kept setup moves are).ended

    pub changed_once : NoneChangedTwice form
    changed_once setup moves are = all_apart (ghost_of form setup moves).changes (calls_accounted form laws kept setup moves are).once

    pub calls_placed : EachCallPlaced form
    calls_placed setup moves are = is_placed form setup moves (each_placeable form laws kept setup moves are)

    pub ticks_drawn : EachTickDrawn form
    ticks_drawn setup moves are = drawn_by setup moves are (client_keeps_ticks form setup moves (kept setup moves are).ticks)

    pub ticks_counted : EachTickCounted form
    ticks_counted setup moves are tick move older drawn =
        let keeps = (client_keeps_ticks form setup moves (kept setup moves are).ticks) in
        subst (λ (l : List Move). changes_at form setup l tick ≡ length (ghost_of form setup older).changes) (sym drawn.made)
        (counted_at setup drawn.newer move older tick (subst (AreMoves form setup) drawn.made are) (subst (KeepsTicks form setup) drawn.made keeps) drawn.before drawn.after)

    pub has_history : (setup : Setup) (moves : List Move) → AreMoves form setup moves → HasHistory form setup moves
    has_history setup moves are = record {
      ended = calls_ended setup moves are;
      changed_once = changed_once setup moves are;
      placed = calls_placed setup moves are;
      drawn = ticks_drawn setup moves are;
      counted = ticks_counted setup moves are;
      earlier = history_grows setup moves;
    }
