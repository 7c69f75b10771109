-- Which move made each won exchange of a list: one of the list's call, or of a helper of that call.
use Rattle.std.proofs.Common.{◌≡◌, ◌≢◌, ◌∙◌, refl, sym, subst, ap, ℕ, ◌&&◌, ◌*◌, ◌+◌, ◌≤◌, ◌⊎◌, Bool, true, false, List, [], ◌∷◌, length, slice_get, Some, inl, inr, arith}
use Rattle.std.proofs.lemmas.List.{length-map}
use Rattle.arrayvec.specs.ArrayVec.{ArrayVec}
use Rattle.step_memory.specs.declared.steps.Request.TheVariants.{Exchange}
use Rattle.word_fields.specs.Versioned.{marked_word, versioned_version}
use Rattle.normal_traits.specs.declared.lists.Entry.{Entry}
use Rattle.normal_traits.specs.World.{Among, Cause, Listed, Took, Won}
use Rattle.normal_traits.specs.World.Maker.{By}
use Rattle.normal_traits.specs.NormalForm.{NormalForm}
use Rattle.normal_traits.specs.Laws.{Laws}
use Rattle.cas_executor.specs.declared.slow_run.SlowStep.{SlowStep}
use Rattle.cas_executor.specs.declared.slow_run.SlowStep.TheVariants.{LoadState, Install, LoadTarget, Succeed, Fail, LoadDecision, Clear}
use Rattle.cas_executor.specs.FastRuns.{FastWalk, exchange_of}
use Rattle.cas_executor.specs.SlowRuns.{SlowWalk, installs, request_at, step_request}
use Rattle.fast_slow_engine.specs.declared.phases.Phase.{Phase}
use Rattle.fast_slow_engine.specs.declared.phases.Phase.TheVariants.{Apply, Help}
use Rattle.fast_slow_engine.specs.declared.phases.Applying.TheVariants.{Execute}
use Rattle.fast_slow_engine.specs.declared.help.Helping.TheVariants.{Known}
use Rattle.fast_slow_engine.specs.declared.help.Work.TheVariants as work
use Rattle.fast_slow_engine.specs.declared.setup.Setup.{Setup}
use Rattle.fast_slow_engine.specs.HelpWords.{named_block}
use Rattle.fast_slow_engine.specs.PhaseTable.{request_in}
use Rattle.fast_slow_engine.specs.Runs.{AreMoves, Move, run_of}
use Rattle.offered_blocks.specs.Blocks.{Offer, IsExecuting}
use Rattle.run_laws.proofs.Pairs.{all_map, pairs_map}
use Rattle.run_invariant.specs.Ghosts.{Held}
use Rattle.run_invariant.specs.Lists.{HoldsIn, IsOffering}
use Rattle.run_invariant.specs.RunGhosts.{ghost_of, world_of}
use Rattle.run_invariant.specs.Known.{KnowsIn}
use Rattle.run_invariant.specs.Kept.{RunsAreKept, callers_in}
use Rattle.run_invariant.proofs.Words.Wins.{nothing, beside, takes, installed, move_wins, won_by}
use Rattle.run_invariant.proofs.InRuns.MovesInRuns.{Moved, after, known, mech, mover, offers, seated, seen, step, world, moved}
use Rattle.run_invariant.proofs.InRuns.MovesInRuns as moves_of
use Rattle.run_exchanges.specs.Exchanges.{AreAtMostOnce, ExchangesOnce, IsMadeFor, IsWonBy, JournalsTell, WonExchange, block_executed, told_exchange}
use Rattle.run_exchanges.specs.Exchanges.IsMadeFor.{own, helped}
use Rattle.run_exchanges.proofs.Changes.Adds.{now_executing}
use Rattle.run_exchanges.proofs.Changes.Items.{Does, step_does}
use Rattle.run_exchanges.proofs.Changes.Items.Does.{nothing as does_nothing, beside as does_beside, listed as does_listed}
use Rattle.run_exchanges.proofs.Exchanges.Tells.{journal_same, only_clears}
use Rattle.run_exchanges.proofs.Journals.Obey.{obeys}
use Rattle.run_exchanges.proofs.Journals.Once.{each_entrys, no_maker, same_maker, wins_once}
use Rattle.run_exchanges.proofs.Moves.Served.{executing_named, named_published, some_of}

not_longer : {A X : Type 0} (x : X) (xs : List X) → x ∷ xs ≡ xs → A
not_longer x xs is = absurd (let long : length (x ∷ xs) ≡ length xs = ap length is in omega (arith, long))

both_on : (a b : Bool) → (a && b) ≡ true → (a ≡ true) × (b ≡ true)
both_on true b on = (refl, on)
both_on false b on = absurd cc

first_same : (x y : Won) (xs ys : List Won) → x ∷ xs ≡ y ∷ ys → x ≡ y
first_same x y xs ys is = cc

-- the listed exchange of an entry
installs_asks : (block j : ℕ) (entry : Entry) (at : SlowStep) → installs at ≡ true → step_request block j entry at ≡ Exchange entry.target entry.from (marked_word entry.to)
installs_asks block j entry LoadState on = absurd cc
installs_asks block j entry Install on = refl
installs_asks block j entry LoadTarget on = absurd cc
installs_asks block j entry Succeed on = absurd cc
installs_asks block j entry Fail on = absurd cc
installs_asks block j entry LoadDecision on = absurd cc
installs_asks block j entry Clear on = absurd cc

module _ {S W : Type 0} (form : NormalForm S W) where
  module _ {setup : Setup} {older : List Move} {move : Move} (m : Moved form setup older move) where
    -- a list of which an entry wins by a helper is executed then
    executing_by : (block : ℕ) (offer : Offer S) (j : ℕ) (entry : Entry) (cause : Cause) → offers form m block ≡ Some offer → (after form m).journal ≡ won_by offer.list j entry cause ∷ (world form m).journal
        → Does form (world form m) (after form m) → IsExecuting (world form m) offer.list
    executing_by block offer j entry cause stands journal (does_nothing same changes) = not_longer (won_by offer.list j entry cause) (world form m).journal (sym journal ∙ same)
    executing_by block offer j entry cause stands journal (does_beside other why same changes) =
        no_maker offer.list j (sym (ap (λ (w : Won). w.maker) (first_same _ _ _ _ (sym journal ∙ same))))
    executing_by block offer j entry cause stands journal (does_listed list k other why at behind stood same changes) =
        let one = first_same _ _ _ _ (sym journal ∙ same) in
        let both = same_maker offer.list list j k (ap (λ (w : Won). w.maker) one) in
        now_executing form m block offer stands k other (subst (λ (l : Listed). slice_get l.entries k ≡ Some other) (sym both.0) at) (subst (λ (l : Listed). (k ≡ 0) ⊎ Took (world form m) l 0) (sym both.0) behind) stood

    -- the move makes the exchange of an item of its own list
    own_made : (run : FastWalk) (stores : ArrayVec (ℕ × ℕ)) (held : Held S) (entry : Entry) (cause : Cause) → (mover form m).phase ≡ Apply run stores Execute → (moves_of.own form m).held ≡ Some held → slice_get run.entries run.next ≡ Some entry
        → IsMadeFor form setup older (mover form m) held.list (won_by held.list run.next entry cause)
    own_made run stores held entry cause at holds next =
        let lists = some_of (IsOffering form run stores (mover form m)) (moves_of.own form m).held held holds (subst (λ (p : Phase S W). HoldsIn form p (mover form m) (moves_of.own form m).held) at (known form m).lists) in
        own (sym lists.held_by.call) (ap (λ (p : Phase S W). request_in form p (mover form m)) at ∙ ap exchange_of next)

    helped_made : (drives : Bool) (head seats word : ℕ) (run : SlowWalk) (offer : Offer S) (entry : Entry) (cause : Cause) → (mover form m).phase ≡ Help drives (record { head = head; seats = seats; at = Known word (work.Execute run) })
        → offers form m (named_block word) ≡ Some offer → slice_get offer.list.entries run.next ≡ Some entry → installs run.step ≡ true → (after form m).journal ≡ won_by offer.list run.next entry cause ∷ (world form m).journal
        → IsMadeFor form setup older (mover form m) offer.list (won_by offer.list run.next entry cause)
    helped_made drives head seats word run offer entry cause at stands next on journal =
        let executing = executing_by (named_block word) offer run.next entry cause stands journal (step_does form (world form m) (after form m) (step form m)) in
        let is = named_published form setup older m.are.0 m.kept offer.list (executing_named form setup older m.are.0 m.kept (named_block word) offer stands executing) in
        let knows = subst (λ (p : Phase S W). KnowsIn form p (mover form m) (moves_of.own form m) (world form m) (offers form m) (callers_in (run_of form setup older) (ghost_of form setup older))) at (known form m).knows in
        let entries = knows.1.1.2.entries in
        let mine = knows.1.1.1.stands in
        let same : knows.1.1.0 ≡ offer = same_offer knows.1.1.0 offer (sym mine ∙ stands) in
        let there : slice_get run.entries run.next ≡ Some entry = ap (λ (l : List Entry). slice_get l run.next) (entries ∙ ap (λ (o : Offer S). o.list.entries) same) ∙ next in
        helped (record {
          works = ap block_executed at ∙ ap Some (sym (m.kept.holds.blocks.offered (named_block word) offer stands).block_is);
          named = executing;
          owner = is.owner;
          seated = is.seated;
          calls = sym is.call;
          published = is.published;
        }) (ap (λ (p : Phase S W). request_in form p (mover form m)) at ∙ ap (request_at run) there ∙ installs_asks run.block run.next entry run.step on)
      where
        same_offer : (x y : Offer S) → Some x ≡ Some y → x ≡ y
        same_offer x y e = cc

  -- a move that made an item made it, whatever moves come
  won_later : (setup : Setup) (older : List Move) (move : Move) (list : Listed) (won : Won) → IsWonBy form setup older list won → IsWonBy form setup (move ∷ older) list won
  won_later setup older move list won by = record {
    newer = move ∷ by.newer;
    move = by.move;
    older = by.older;
    mech = by.mech;
    made = ap (λ (l : List Move). move ∷ l) by.made;
    seated = by.seated;
    makes = by.makes;
    wins = by.wins;
  }

  won_now : {setup : Setup} {older : List Move} {move : Move} (m : Moved form setup older move) (made : Listed) (item : Won) (k : ℕ) (won : Won) (list : Listed) (j : ℕ) → item.maker ≡ By made k → won ≡ item → won.maker ≡ By list j
      → IsMadeFor form setup older (mover form m) made item → (seen form m).won ≡ true → IsWonBy form setup (move ∷ older) list won
  won_now {setup} {older} {move} m made item k won list j by here maker makes wins =
      let same = same_maker made list k j (sym by ∙ ap (λ (w : Won). w.maker) (sym here) ∙ maker) in
      record {
        newer = [];
        move = move;
        older = older;
        mech = mech form m;
        made = refl;
        seated = seated form m;
        makes = subst (λ (l : Listed). IsMadeFor form setup older (mover form m) l won) same.0 (subst (λ (w : Won). IsMadeFor form setup older (mover form m) made w) (sym here) makes);
        wins = wins;
      }

  won_more : {setup : Setup} {older : List Move} {move : Move} (m : Moved form setup older move) → ((won : Won) (list : Listed) (j : ℕ) → Among won (world form m).journal → won.maker ≡ By list j → IsWonBy form setup older list won)
      → (won : Won) (list : Listed) (j : ℕ) → Among won (after form m).journal → won.maker ≡ By list j → IsWonBy form setup (move ∷ older) list won
  won_more {setup} {older} {move} m before won list j among maker =
      let old = λ (there : Among won (world form m).journal). won_later setup older move list won (before won list j there maker) in
      elim (move_wins form setup older move (mech form m) (seated form m)) [
        | nothing missed journal used ↦ old (subst (Among won) journal among)
        | beside new other made journal used ↦ elim (subst (Among won) journal among) [
          | inl here ↦ no_maker list j (sym made ∙ ap (λ (w : Won). w.maker) (sym here) ∙ maker)
          | inr there ↦ old there
        ]
        | takes run stores held entry cause at holds next wins journal used ↦ elim (subst (Among won) journal among) [
          | inl here ↦ won_now m held.list (won_by held.list run.next entry cause) run.next won list j refl here maker (own_made m run stores held entry cause at holds next) wins
          | inr there ↦ old there
        ]
        | installed drives head seats word run offer entry cause at stands next wins journal used ↦ elim (subst (Among won) journal among) [
          | inl here ↦
              let on = both_on (installs run.step) (seen form m).won wins in
              won_now m offer.list (won_by offer.list run.next entry cause) run.next won list j refl here maker (helped_made m drives head seats word run offer entry cause at stands next on.0 journal) on.1
          | inr there ↦ old there
        ]
      ]

  module _ (laws : Laws form) (kept : RunsAreKept form) where
    -- each item of a list was made by a move of its call, or of a helper of that call
    won_for : (setup : Setup) (moves : List Move) → AreMoves form setup moves → (won : Won) (list : Listed) (j : ℕ) → Among won (world_of form setup moves).journal → won.maker ≡ By list j → IsWonBy form setup moves list won
    won_for setup [] are = λ won list j among maker. absurd among
    won_for setup (move ∷ older) are = won_more (moved form laws kept setup older move are) (won_for setup older are.0)

    pub journals_tell : JournalsTell form
    journals_tell setup moves are = record {
      same = journal_same form laws kept setup moves are;
      listed = each_entrys form laws kept setup moves are;
      called_for = won_for setup moves are;
      rest = only_clears form laws kept setup moves are;
      once = λ i j d before inside list k one other. wins_once form laws kept setup moves are i j d before inside list list k one other refl;
    }

    pub exchanges_once : ExchangesOnce form
    exchanges_once setup moves are =
        let obey = obeys form laws kept setup moves are in
        let journal = (world_of form setup moves).journal in
        subst (AreAtMostOnce setup.cap) (journal_same form laws kept setup moves are) (record {
          once_from = pairs_map (λ (a b : WonExchange). a.place ≡ b.place → a.before ≢ b.before) told_exchange journal obey.once_from;
          raised = all_map (λ (e : WonExchange). versioned_version e.after ≡ versioned_version e.before + 1) told_exchange journal obey.raised;
          few = subst (λ n. n ≤ 8 * (setup.cap + 1)) (sym (length-map journal told_exchange)) obey.few;
        })
