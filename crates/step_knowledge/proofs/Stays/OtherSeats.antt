-- What a machine knows stays where another seat moves, by cases on its phase.
use Rattle.std.proofs.Common.{◌≡◌, ◌≢◌, ◌∙◌, refl, sym, subst, ap, ℕ, ◌<◌, true, false, inl, inr, ◌⊎◌, List, slice_get, Option, Some, None, arith}
use Rattle.std.proofs.lemmas.Bool.{cases_Bool}
use Rattle.arrayvec.specs.ArrayVec.{ArrayVec}
use Rattle.lin_report.specs.Object.{IsCommandOf}
use Rattle.node_arena.specs.declared.places.TheConstants.{OWNER_FIELD, OP_FIELD, VALUE_FIELD}
use Rattle.normal_traits.specs.World.{World}
use Rattle.normal_traits.specs.NormalForm.{NormalForm}
use Rattle.normal_traits.specs.Steps.{IsFilled, IsStep}
use Rattle.normal_traits.specs.Laws.{IsGoodEntry, IsGoodStore, Laws}
use Rattle.normal_traits.proofs.Stays.{all_at, entry_good, passed_stays}
use Rattle.cas_executor.specs.FastRuns.{FastWalk}
use Rattle.fast_slow_engine.specs.declared.phases.Phase.{Phase}
use Rattle.fast_slow_engine.specs.declared.phases.Phase.TheVariants as phase
use Rattle.fast_slow_engine.specs.declared.phases.Generating.TheVariants.{Search, LookForBlock, Claim}
use Rattle.fast_slow_engine.specs.declared.phases.Applying.TheVariants.{Fill, Execute}
use Rattle.fast_slow_engine.specs.declared.help.Helping.{Helping}
use Rattle.fast_slow_engine.specs.declared.help.Helping.TheVariants.{Record, Known, Remove}
use Rattle.fast_slow_engine.specs.Mechs.{Mech}
use Rattle.offered_blocks.specs.Blocks.{Offer}
use Rattle.offered_blocks.specs.Holds.{HasOffers}
use Rattle.offered_blocks.specs.OtherSteps.{IsSpare}
use Rattle.move_kinds.specs.Kinds.{Kind}
use Rattle.move_kinds.specs.Moves.{BlockStays, Leaves}
use Rattle.move_kinds.proofs.KindsLeave.{kind_leaves}
use Rattle.helper_knowledge.specs.Callers.{Caller}
use Rattle.helper_knowledge.specs.Carried.{OfSome}
use Rattle.helper_knowledge.proofs.LawsOfHelpers.{knowledge_kept}
use Rattle.run_world.specs.Ghosts.{Held, SeatGhost}
use Rattle.run_world.specs.InHand.{ExecutesWith}
use Rattle.run_world.specs.Lists.{IsOffering}
use Rattle.step_knowledge.specs.Known.{IsStillOffered, KnowsFill, KnowsHelp, KnowsIn, KnowsRun, KnowsWrap, NoneFrom}
use Rattle.step_knowledge.specs.Others.{FollowsHelp, OthersKnow, StaysBeside}
use Rattle.step_knowledge.proofs.OfKinds.OwnStores.{IsOwnStore, filling, held_offer, own_stored}
use Rattle.step_knowledge.proofs.Goes.Runs.{took_grows}

none_in : {A : Type 0} (block : ℕ) → None ≡ Some block → A
none_in block e = absurd cc

module _ {S W : Type 0} (form : NormalForm S W) (laws : Laws form) (world after : World) (offers offers' : ℕ → Option (Offer S)) (holds : HasOffers form world offers) (mover : ℕ) (hand : Option ℕ)
    (kind : Kind form world after offers offers' mover hand) where
  leaves : Leaves form world after offers offers' None
  leaves = kind_leaves form laws world after offers offers' holds mover hand kind None (λ block e. none_in block e) (λ block e. none_in block e)

  step : IsStep form world after
  step = leaves.step

  -- a block in another hand stays
  block_stays : (block : ℕ) → IsSpare world offers block → hand ≢ Some block → BlockStays block world after
  block_stays block spare apart =
      let there = kind_leaves form laws world after offers offers' holds mover hand kind (Some block) (λ b is. subst (IsSpare world offers) (same b is) spare) (λ b is here. apart (subst (λ x. hand ≡ Some x) (sym (same b is)) here)) in
      there.hand_stays block refl
    where
      same : (b : ℕ) → Some block ≡ Some b → block ≡ b
      same b is = cc

  still_offered : (held : Held S) → IsStillOffered form world held → IsStillOffered form after held
  still_offered held is = record {
    command = is.command;
    ready = is.ready;
    small = is.small;
    entries = is.entries;
    knows = laws.knows_kept world after held.offering held.list.call.op held.since is.command holds.shape is.knows step;
  }

  -- so the stores made into it stand, and what it was filled with
  fill_stays : (run : FastWalk) (stores : ArrayVec (ℕ × ℕ)) (made : ℕ) (mech : Mech S W) (held : Held S) → form.needs_block mech.op ≡ true → mech.hand ≡ Some held.list.block → IsOffering form run stores mech held
      → 0 < held.list.block → BlockStays held.list.block world after → (NoneFrom world held.list.identity 0 → NoneFrom after held.list.identity 0) → KnowsFill form world run stores made held → KnowsFill form after run stores made held
  fill_stays run stores made mech held needs has offering some stays none knows =
      let block = held.list.block in
      let items = (form.offer_of held.offering held.list.call.op block).stores in
      let good = (held_offer form laws world holds.shape held knows.offered).stores in
      let all = filling form laws world holds.shape run stores mech held needs has offering in
      let fresh : NoneFrom after held.list.identity 0 = none (λ other j same least took. knows.fresh other j same took) in
      record {
        offered = still_offered held knows.offered;
        running = knows.running;
        within = knows.within;
        stored = λ k store less at.
            (let own : IsOwnStore form block store =
            own_stored form laws block mech.seat mech.number mech.op some items (λ i s here. all_at (IsGoodStore form block) items i s good here) k store
            (ap (λ (l : List (ℕ × ℕ)). slice_get l k) (sym all) ∙ at) in
            ap after.words own.place ∙ stays own.field own.within ∙ ap world.words (sym own.place) ∙ knows.stored k store less at);
        fresh = λ other j same took. fresh other j same (omega arith) took;
      }

  filled_stays : (held : Held S) → IsStillOffered form world held → BlockStays held.list.block world after → (let stores = (form.offer_of held.offering held.list.call.op held.list.block).stores in IsFilled world held.list stores → IsFilled after held.list stores)
  filled_stays held offered stays is =
      let block = held.list.block in
      let stores = (form.offer_of held.offering held.list.call.op block).stores in
      let good = (held_offer form laws world holds.shape held offered).stores in
      record {
        owner = stays OWNER_FIELD (omega arith) ∙ is.owner;
        op = stays OP_FIELD (omega arith) ∙ is.op;
        value = stays VALUE_FIELD (omega arith) ∙ is.value;
        stored = λ k d within. (let g = good k d within in ap after.words g.place ∙ stays g.field g.within ∙ ap world.words (sym g.place) ∙ is.stored k d within);
      }

  run_stays : (run : FastWalk) (mech : Mech S W) (held : Held S) → ExecutesWith form mech (Some held) → ((block : ℕ) → mech.hand ≡ Some block → (run.next ≡ 0) ⊎ (form.needs_block mech.op ≡ false) → IsSpare world offers block × (hand ≢ Some block))
      → (NoneFrom world held.list.identity run.next → NoneFrom after held.list.identity run.next) → KnowsRun form world run held → KnowsRun form after run held
  run_stays run mech held with_block spare none knows = record {
    offered = still_offered held knows.offered;
    running = knows.running;
    filled = λ first some. elim (cases_Bool (form.needs_block mech.op)) [
      | inl needs ↦ (let own = spare held.list.block (with_block.needed needs) (inl first) in filled_stays held knows.offered (block_stays held.list.block own.0 own.1) (knows.filled first some))
      | inr free ↦ (let no_block : held.list.block ≡ 0 = with_block.other free in absurd (omega (arith, no_block, some)))
    ];
    took = λ j less within. took_grows world after held.list j leaves.grows (knows.took j less within);
    none = none knows.none;
  }

  wrap_stays : (wrap : W) (held : Held S) → (NoneFrom world held.list.identity held.stop → NoneFrom after held.list.identity held.stop) → KnowsWrap form world wrap held → KnowsWrap form after wrap held
  wrap_stays wrap held none knows =
      let list = held.list in
      let still = none knows.none in
      record {
        offered = still_offered held knows.offered;
        stopped = record {
          within = knows.stopped.within;
          took = λ j less. took_grows world after list j leaves.grows (knows.stopped.took j less);
          failed = λ less.
              (let failed = knows.stopped.failed less in
              let fine : IsGoodEntry form world failed.entry = entry_good form laws world list held.offering held.since held.stop failed.entry holds.shape knows.offered failed.listed in
              let rises = passed_stays form world after failed.entry.target fine.word step in
              let before = failed.passed in
              record { entry = failed.entry; listed = failed.listed; passed = omega (arith, before, rises); lost = still list held.stop refl (omega arith) });
        };
        none = still;
        wraps = knows.wraps;
        follows = laws.follows_kept world after wrap list held.stop holds.shape knows.follows step;
      }

  module _ (callers callers' : ℕ → Caller) (mech : Mech S W) (own : SeatGhost S) where
    abbrev Beside : Phase S W → Type 0
    Beside at = StaysBeside form world after offers hand callers callers' at mech own

    abbrev Keeps : Phase S W → Type 0
    Keeps at = KnowsIn form at mech own world offers callers → KnowsIn form at mech own after offers' callers'

    search_stays : (s : S) → IsCommandOf form.object mech.op → form.knows s mech.op world own.carried.since → form.knows s mech.op after own.carried.since
    search_stays s command knows = laws.knows_kept world after s mech.op own.carried.since command holds.shape knows step

    -- of a held list
    fill_list : (run : FastWalk) (stores : ArrayVec (ℕ × ℕ)) (made : ℕ) (held : Option (Held S)) → form.needs_block mech.op ≡ true → OfSome (λ (h : Held S). mech.hand ≡ Some h.list.block) held → OfSome (IsOffering form run stores mech) held
        → ((block : ℕ) → mech.hand ≡ Some block → IsSpare world offers block × (hand ≢ Some block)) → ((h : Held S) → held ≡ Some h → NoneFrom world h.list.identity 0 → NoneFrom after h.list.identity 0)
        → OfSome (KnowsFill form world run stores made) held → OfSome (KnowsFill form after run stores made) held
    fill_list run stores made None needs has offering spare none knows = absurd knows
    fill_list run stores made (Some held) needs has offering spare none knows =
        let mine = spare held.list.block has in
        fill_stays run stores made mech held needs has offering mine.0.some (block_stays held.list.block mine.0 mine.1) (none held refl) knows

    run_list : (run : FastWalk) (held : Option (Held S)) → ExecutesWith form mech held → ((block : ℕ) → mech.hand ≡ Some block → (run.next ≡ 0) ⊎ (form.needs_block mech.op ≡ false) → IsSpare world offers block × (hand ≢ Some block))
        → ((h : Held S) → held ≡ Some h → NoneFrom world h.list.identity run.next → NoneFrom after h.list.identity run.next) → OfSome (KnowsRun form world run) held → OfSome (KnowsRun form after run) held
    run_list run None with_block spare none knows = absurd knows
    run_list run (Some held) with_block spare none knows = run_stays run mech held with_block spare (none held refl) knows

    wrap_list : (wrap : W) (held : Option (Held S)) → ((h : Held S) → held ≡ Some h → NoneFrom world h.list.identity h.stop → NoneFrom after h.list.identity h.stop) → OfSome (KnowsWrap form world wrap) held → OfSome (KnowsWrap form after wrap) held
    wrap_list wrap None none knows = absurd knows
    wrap_list wrap (Some held) none knows = wrap_stays wrap held (none held refl) knows

    -- of a helper
    help_stays : (at : Helping S W) (head : ℕ) → ((block : ℕ) → mech.hand ≡ Some block → IsSpare world offers block × (hand ≢ Some block)) → FollowsHelp at head callers callers'
        → KnowsHelp form world offers (callers head) head mech.hand own.carried at → KnowsHelp form after offers' (callers' head) head mech.hand own.carried at
    help_stays (Record known) head spare follows knows = tt
    help_stays (Known word does) head spare follows knows = (
      knows.0,
      knowledge_kept form laws world after offers offers' mover hand mech.hand holds kind spare (callers head) (callers' head) head word own.carried does follows.0 knows.0 knows.1,
      (let more = follows.1 in let some = knows.2 in omega (arith, more, some)),
    )
    help_stays (Remove removal) head spare follows knows = tt

    pub phase_stays : (at : Phase S W) → Beside at → Keeps at
    phase_stays phase.Idle beside knows = tt
    phase_stays phase.Begin beside knows = tt
    phase_stays phase.Look beside knows = tt
    phase_stays (phase.Generate s Search) beside knows = (knows.0, search_stays s beside.command knows.1)
    phase_stays (phase.Generate s LookForBlock) beside knows = (knows.0, search_stays s beside.command knows.1)
    phase_stays (phase.Generate s Claim) beside knows = (knows.0, search_stays s beside.command knows.1)
    phase_stays (phase.Apply run stores (Fill made)) beside knows =
        fill_list run stores made own.held beside.block.0 beside.block.2 beside.lists (λ block has. beside.spare block has tt) (λ h is. beside.none h 0 is) knows
    phase_stays (phase.Apply run stores Execute) beside knows = run_list run own.held beside.block beside.spare (λ h is. beside.none h run.next is) knows
    phase_stays (phase.Wrap wrap) beside knows = wrap_list wrap own.held (λ h is. beside.none h h.stop is) knows
    phase_stays (phase.Announce at) beside knows = tt
    phase_stays (phase.Enter owner) beside knows = tt
    phase_stays phase.Drive beside knows = tt
    phase_stays (phase.Help drives help) beside knows = help_stays help.at help.head (λ block has. beside.spare block has tt) beside.follows knows
    phase_stays phase.Collect beside knows = tt
    phase_stays (phase.Value reference) beside knows = tt
    phase_stays (phase.End reply) beside knows = tt

module _ {S W : Type 0} (form : NormalForm S W) (laws : Laws form) where
  pub others_know : OthersKnow form
  others_know world after offers offers' mover hand callers callers' at mech own holds kind beside knows =
      phase_stays form laws world after offers offers' holds mover hand kind callers callers' mech own at beside knows
