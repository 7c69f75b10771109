-- How the calls that returned ended stays as it was where more moves are made.
use Rattle.std.proofs.Common.{◌≡◌, ◌∙◌, sym, subst, ap, ℕ, suc, ◌≤◌, List, [], ◌∷◌, ◌++◌, AllPairs, inl, inr, arith}
use Rattle.lin_report.specs.declared.calls.Receipt.{Receipt}
use Rattle.normal_traits.specs.World.{Change, Among, Observes, first_changes, held_after}
use Rattle.normal_traits.specs.NormalForm.{NormalForm}
use Rattle.fast_slow_engine.specs.declared.setup.Setup.{Setup}
use Rattle.fast_slow_engine.specs.Runs.{Move, AreMoves, run_of}
use Rattle.run_laws.specs.Drawn.{IsDrawnAt}
use Rattle.run_laws.specs.Ticks.{KeepsTicks}
use Rattle.run_laws.proofs.CallsFollow.{HasEnded}
use Rattle.run_laws.proofs.Summaries.{tick_of}
use Rattle.run_exchanges.specs.RunGhosts.{ghost_of}
use Rattle.run_exchanges.proofs.Words.Grow.{world_grows}
use Rattle.run_exchanges.proofs.Changes.Adds.{DifferentLists, first_differs}
use Rattle.run_reports.specs.Endings.{ChangedNone, HasSeen, MadeChange, StandsOver, WasRefused, WonInVain}
use Rattle.run_reports.specs.Endings as endings
use Rattle.run_reports.specs.Endings.HasEnded.{made, saw, refused}
use Rattle.run_reports.proofs.Counts.Stands.{first_after, stands_more}
use Rattle.run_reports.proofs.Counts.Ticks.{at_stays, at_within, count_of}

-- two changes of one list are one
pub same_change : (changes : List Change) (change mate : Change) → AllPairs DifferentLists changes → Among change changes → Among mate changes → change.list.identity ≡ mate.list.identity → change ≡ mate
same_change [] change mate pairs among other same = absurd among
same_change (x ∷ xs) change mate pairs (inl here) (inl there) same = here ∙ sym there
same_change (x ∷ xs) change mate pairs (inl here) (inr other) same =
    absurd (first_differs x xs mate pairs other (ap (λ (c : Change). c.list.identity) (sym here) ∙ same))
same_change (x ∷ xs) change mate pairs (inr among) (inl there) same =
    absurd (first_differs x xs change pairs among (ap (λ (c : Change). c.list.identity) (sym there) ∙ sym same))
same_change (x ∷ xs) change mate pairs (inr among) (inr other) same =
    same_change xs change mate (λ i j d before inside. pairs (suc i) (suc j) d (omega arith) (omega arith)) among other same

module _ {S W : Type 0} (form : NormalForm S W) (setup : Setup) (older : List Move) (move : Move) where
  -- the changes of the run after the move
  changes_grow : (newer : List Change) × ((ghost_of form setup (move ∷ older)).changes ≡ newer ++ (ghost_of form setup older).changes)
  changes_grow = (world_grows form setup older move).changes

  pub stands_still : (change : Change) (past : List Change) → StandsOver (ghost_of form setup older).changes change past → StandsOver (ghost_of form setup (move ∷ older)).changes change past
  stands_still change past stands = stands_more (ghost_of form setup (move ∷ older)).changes changes_grow.0 (ghost_of form setup older).changes change past changes_grow.1 stands

  pub first_still : (count : ℕ) → count ≤ count_of form setup older → first_changes count (ghost_of form setup (move ∷ older)).changes ≡ first_changes count (ghost_of form setup older).changes
  first_still count few = ap (first_changes count) changes_grow.1 ∙ first_after count changes_grow.0 (ghost_of form setup older).changes few

  -- the move that drew a tick did so
  pub drawn_stays : (tick : ℕ) (one : Move) (past : List Move) → IsDrawnAt form setup older tick one past → IsDrawnAt form setup (move ∷ older) tick one past
  drawn_stays tick one past drawn = record { newer = move ∷ drawn.newer; made = ap (λ (l : List Move). move ∷ l) drawn.made; before = drawn.before; after = drawn.after }

  -- ---- the calls that returned before the move

  module _ (are : AreMoves form setup (move ∷ older)) (ticks : KeepsTicks form setup (move ∷ older)) where
    pub made_stays : (r : Receipt) (change : Change) (past : List Change) → HasEnded (tick_of (run_of form setup older)) r
        → MadeChange form setup older r change past → MadeChange form setup (move ∷ older) r change past
    made_stays r change past drawn by =
        let begin = at_stays form setup older move r.begin are ticks (omega (arith, drawn.forward, drawn.below)) in
        let end = at_stays form setup older move r.end are ticks drawn.below in
        record {
          stands = stands_still change past by.stands;
          call = by.call;
          reply = by.reply;
          begun = omega (arith, begin, by.begun);
          ended = omega (arith, end, by.ended);
        }

    pub seen_stays : (r : Receipt) → HasEnded (tick_of (run_of form setup older)) r → (ChangedNone form setup older r → ChangedNone form setup (move ∷ older) r)
        → HasSeen form setup older r → HasSeen form setup (move ∷ older) r
    seen_stays r drawn quiet seen =
        let begin = at_stays form setup older move r.begin are ticks (omega (arith, drawn.forward, drawn.below)) in
        let end = at_stays form setup older move r.end are ticks drawn.below in
        let object = form.object in
        let same = first_still seen.count (omega (arith, seen.ended, at_within form setup older r.end)) in
        record {
          count = seen.count;
          begun = omega (arith, begin, seen.begun);
          ended = omega (arith, end, seen.ended);
          observes = subst (λ (l : List Change). Observes object r.op (held_after object l)) (sym same) seen.observes;
          told = subst (λ (l : List Change). r.reply ≡ (object.apply r.op (held_after object l)).1) (sym same) seen.told;
          unchanged = quiet seen.unchanged;
        }

    refused_stays : (r : Receipt) → (ChangedNone form setup older r → ChangedNone form setup (move ∷ older) r) → (WonInVain form setup older r → WonInVain form setup (move ∷ older) r)
        → WasRefused form setup older r → WasRefused form setup (move ∷ older) r
    refused_stays r quiet vain was = record {
      exhausted = was.exhausted;
      may = was.may;
      move = was.move;
      older = was.older;
      drawn = drawn_stays r.end was.move was.older was.drawn;
      own = was.own;
      none_left = was.none_left;
      unchanged = quiet was.unchanged;
      in_vain = vain was.in_vain;
    }

    -- how a call ended stays
    pub ending_stays : (r : Receipt) → HasEnded (tick_of (run_of form setup older)) r → (ChangedNone form setup older r → ChangedNone form setup (move ∷ older) r)
        → (WonInVain form setup older r → WonInVain form setup (move ∷ older) r) → endings.HasEnded form setup older r → endings.HasEnded form setup (move ∷ older) r
    ending_stays r drawn quiet vain ending =
        elim ending [
          | made change past by ↦ made change past (made_stays r change past drawn by)
          | saw seen ↦ saw (seen_stays r drawn quiet seen)
          | refused none ↦ refused (refused_stays r quiet vain none)
        ]
