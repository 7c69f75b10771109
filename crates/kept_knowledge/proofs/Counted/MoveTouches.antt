-- What each move does to words, by cases on its phase.
use Rattle.std.proofs.Common.{◌≡◌, ◌∙◌, sym, subst, ap, ℕ, ◌+◌, ◌^◌, ◌<◌, ◌≤◌, ◌⊎◌, inl, inr, Bool, true, false, List, ◌∷◌, length, slice_get, get_or, Option, Some, None, if◌then◌else◌, arith}
use Rattle.std.proofs.lemmas.Option.{slice_get-get_or}
use Rattle.arrayvec.specs.ArrayVec.{ArrayVec}
use Rattle.lin_report.specs.declared.calls.Op.{Op}
use Rattle.lin_report.specs.Object.{IsCommandOf}
use Rattle.step_memory.specs.declared.steps.Seen.{Seen}
use Rattle.step_memory.specs.Step.{seen_of}
use Rattle.word_fields.specs.Payloads.{payload_stop}
use Rattle.word_fields.specs.Records.{record_payload}
use Rattle.word_fields.specs.Versioned.{changed_word, versioned_version}
use Rattle.word_fields.proofs.ChangedWords.{version-changed}
use Rattle.normal_traits.specs.declared.lists.Entry.{Entry}
use Rattle.normal_traits.specs.World.{Listed, World}
use Rattle.normal_traits.specs.World.Maker.{By}
use Rattle.normal_traits.specs.NormalForm.{NormalForm}
use Rattle.normal_traits.specs.Laws.{IsGoodEntry, Laws}
use Rattle.normal_traits.specs.Steps.{Requested, exchanged, listed_if, put_word}
use Rattle.normal_traits.proofs.Stays.{entry_good}
use Rattle.cas_executor.specs.FastRuns.{FastWalk}
use Rattle.cas_executor.specs.SlowRuns.{SlowWalk}
use Rattle.fast_slow_engine.specs.declared.phases.Phase.{Phase}
use Rattle.fast_slow_engine.specs.declared.phases.Phase.TheVariants as phase
use Rattle.fast_slow_engine.specs.declared.phases.Announcing.{Announcing}
use Rattle.fast_slow_engine.specs.declared.phases.Announcing.TheVariants as announcing
use Rattle.fast_slow_engine.specs.declared.phases.Generating.TheVariants.{Search, LookForBlock, Claim}
use Rattle.fast_slow_engine.specs.declared.phases.Applying.TheVariants.{Fill, Execute}
use Rattle.fast_slow_engine.specs.declared.setup.Setup.{Setup}
use Rattle.fast_slow_engine.specs.declared.help.Helping.{Helping}
use Rattle.fast_slow_engine.specs.declared.help.Helping.TheVariants.{Record, Known, Remove}
use Rattle.fast_slow_engine.specs.declared.help.Work.{Work}
use Rattle.fast_slow_engine.specs.declared.help.Work.TheVariants as work
use Rattle.fast_slow_engine.specs.HelpTable.{CanWork}
use Rattle.fast_slow_engine.specs.HelpWords.{named_block}
use Rattle.fast_slow_engine.specs.Mechs.{Mech}
use Rattle.fast_slow_engine.specs.PhaseTable.{mech_request}
use Rattle.fast_slow_engine.specs.Runs.{AreMoves, Move, begun, run_of}
use Rattle.fast_slow_engine.proofs.Commands.{code_fits}
use Rattle.offered_blocks.specs.Blocks.{Offer}
use Rattle.offered_blocks.specs.HelperSteps.{Helps}
use Rattle.offered_blocks.specs.Holds.{HasOffers}
use Rattle.offered_blocks.proofs.Helpers.Running.{run_helps}
use Rattle.helper_knowledge.specs.Callers.{Caller}
use Rattle.helper_knowledge.specs.Carried.{Carried, OfSome}
use Rattle.helper_knowledge.specs.HelperStep.{Steps}
use Rattle.helper_knowledge.specs.Knowing.{KnowsOffer}
use Rattle.helper_knowledge.specs.WorkKnown.{KnowsWork}
use Rattle.helper_knowledge.proofs.Own.OwnKinds.{search_kind, wrap_kind}
use Rattle.run_knowledge.specs.Ghosts.{Held, SeatGhost, uses_block}
use Rattle.run_knowledge.specs.Lists.{IsOffering}
use Rattle.run_knowledge.specs.RunGhosts.{ghost_of, world_of}
use Rattle.run_knowledge.specs.Known.{KnowsFill, KnowsHelp, KnowsRun, KnowsWrap}
use Rattle.run_knowledge.specs.Moves.{Advances, Announces, Enters, HelpSteps, Puts, RestsMove, StepsIn, WorkSteps}
use Rattle.run_knowledge.specs.Moves.Advances.{lost, won}
use Rattle.run_knowledge.specs.Moves.Enters.{misses, wins as wins_entry}
use Rattle.run_knowledge.specs.InMemory.{PhaseInside}
use Rattle.run_knowledge.specs.Kept.{IsKept, callers_in}
use Rattle.run_knowledge.proofs.Blocks.Spare.{hands_spare}
use Rattle.run_knowledge.proofs.OfKinds.OwnStores.{filling, held_offer}
use Rattle.run_knowledge.proofs.Bounds.InKept.{keeps_claims}
use Rattle.run_knowledge.proofs.InRuns.MoveSteps.{moves_step}
use Rattle.run_knowledge.proofs.InRuns.MovesKinds.{is_inside}
use Rattle.run_knowledge.proofs.InRuns.Rests.{rests_move}
use Rattle.kept_knowledge.proofs.Counted.Stored.{IsStart, offer_starts, own_starts}
use Rattle.kept_knowledge.proofs.Counted.Touches.{Touches, kind_touches, record_touches}
use Rattle.kept_knowledge.proofs.Counted.Touches.Touches.{leaves, puts, tells_value, tells_op, stores, wins, helps}

-- a change raises the version by one at most
changed_version : (word value : ℕ) → value < 2 ^ 24 → versioned_version (changed_word word value) ≤ versioned_version word + 1
changed_version word value small = (let is = version-changed word value small in omega (arith, is))

module _ {S W : Type 0} (form : NormalForm S W) (laws : Laws form) (world after : World) (offers offers' : ℕ → Option (Offer S)) (holds : HasOffers form world offers) (mech : Mech S W)
    (some : (block : ℕ) → mech.hand ≡ Some block → 0 < block) where
  abbrev Does : Type 0
  Does = Touches form world after offers mech

  queue_does : (after ≡ world) ⊎ Puts form world after offers offers' 1 → Does
  queue_does (inl same) = leaves same
  queue_does (inr put) = puts 1 put.0 (inl (omega arith)) put.1

  store_does : (block : ℕ) (store : ℕ × ℕ) → IsStart form block store → after ≡ put_word store.0 store.1 world → Does
  store_does block store is put =
      stores block is.field store.1 (λ versioned. is.zero (ap form.is_versioned is.place ∙ versioned)) (put ∙ ap (λ p. put_word p store.1 world) is.place)

  -- ---- a helper's work

  module _ (caller : Caller) (head word : ℕ) (own own' : Carried S) (identity : ℕ) (seen : Seen) where
    fill_does : (items : ArrayVec (ℕ × ℕ)) (made : ℕ) (filled : Option (Offer S)) (block : ℕ) → 0 < block → made < length items.items → OfSome (KnowsOffer form world caller head word block items.items made) filled
        → Steps form world after offers head word mech.hand own own' identity mech.setup.cap seen (work.Fill items made) → Does
    fill_does items made None block some' can knows is = absurd knows
    fill_does items made (Some held) block some' can knows is =
        let store = get_or items.items made (0, 0) in
        let at = slice_get-get_or items.items made (0, 0) can in
        store_does block store (offer_starts form laws world holds.shape caller head word block made items.items held some' knows made store at) (is.1 store at)

    execute_does : (run : SlowWalk) → KnowsWork form world offers caller head word mech.hand own (work.Execute run) → Steps form world after offers head word mech.hand own own' identity mech.setup.cap seen (work.Execute run) → Does
    execute_does run knows is =
        let known = knows.1 in
        let offer = known.0 in
        let of = known.1 in
        helps (named_block word) offer of.stands (subst (Helps form world offer) (sym (is.1 offer of.stands)) (run_helps form world offers holds (named_block word) offer of.stands run seen after.words known.2 is.0))

    wrap_does : (wrap : W) → KnowsWork form world offers caller head word mech.hand own (work.Wrap wrap) → Steps form world after offers head word mech.hand own own' identity mech.setup.cap seen (work.Wrap wrap) → Does
    wrap_does wrap knows is =
        let known = knows.1 in
        let mine = holds.blocks.offered (named_block word) known.0 known.1.stands in
        kind_touches form world after offers mech offers
        (wrap_kind form laws world holds.shape offers 8 None wrap after seen known.0.list (payload_stop (record_payload word)) mine.offered.command known.3 known.4 is)

    advance_does : (to : ℕ) → head < 8 → Advances form world after offers offers' head word to own.filled seen → Does
    advance_does to small (lost failed same kept) = leaves same
    advance_does to small (won succeeded stood same kept) = record_touches form world after offers mech head to small same

    work_does : (does : Work S W) → head < 8 → CanWork form does → KnowsWork form world offers caller head word mech.hand own does → WorkSteps form world after offers offers' does head word mech own own' identity seen → Does
    work_does work.Head small can knows is = leaves is.1.0
    work_does work.Op small can knows is = leaves is.1.0
    work_does (work.Value op) small can knows is = leaves is.1.0
    work_does (work.Generate op s Search) small can knows is =
        kind_touches form world after offers mech offers (search_kind form laws world holds.shape offers 8 None s after seen op own.since knows.1.command knows.2 knows.1.knows is.1.0)
    work_does (work.Generate op s LookForBlock) small can knows is = leaves is.1.0
    work_does (work.Generate op s Claim) small can knows is = puts 2 is.1.0.0 (inl (omega arith)) is.1.0.1
    work_does (work.Fill items made) small can knows is = fill_does items made own.filled knows.1.0 (some knows.1.0 knows.1.1) can knows.1.2 is.1
    work_does (work.Advance to) small can knows is = advance_does to small is
    work_does (work.Read read) small can knows is = leaves is.1.0
    work_does (work.Execute run) small can knows is = execute_does run knows is.1
    work_does (work.Wrap wrap) small can knows is = wrap_does wrap knows is.1

  -- ---- the own call

  own_fill : (run : FastWalk) (items : ArrayVec (ℕ × ℕ)) (made : ℕ) (held : Option (Held S)) → form.needs_block mech.op ≡ true → OfSome (λ (h : Held S). mech.hand ≡ Some h.list.block) held
      → OfSome (IsOffering form run items mech) held → OfSome (KnowsFill form world run items made) held → ((store : ℕ × ℕ) → slice_get items.items made ≡ Some store → after ≡ put_word store.0 store.1 world) → Does
  own_fill run items made None needs hand offering knows is = absurd knows
  own_fill run items made (Some held) needs hand offering knows is =
      let block = held.list.block in
      let own = (form.offer_of held.offering held.list.call.op block).stores in
      let store = get_or items.items made (0, 0) in
      let at = slice_get-get_or items.items made (0, 0) knows.within in
      let good = (held_offer form laws world holds.shape held knows.offered).stores in
      let all = filling form laws world holds.shape run items mech held needs hand offering in
      store_does block store (own_starts form laws block mech.seat mech.number mech.op (some block hand) own good made store (ap (λ (l : List (ℕ × ℕ)). slice_get l made) (sym all) ∙ at)) (is store at)

  -- a won entry of the held list, whether it uses a block or not
  entry_does : (b : Bool) (list : Listed) (j : ℕ) (entry : Entry) (used : ℕ → Bool) → IsGoodEntry form world entry → world.words entry.target ≡ entry.from
      → (let w = exchanged form (By list j) (listed_if (form.adds list j) list) entry entry.to world in
      let with_used : World = record { words = w.words; changes = w.changes; used = used; journal = w.journal } in
      after ≡ (if b then with_used else w) → Does)
  entry_does true list j entry used good stood is =
      let longer = ap (λ (w : World). length w.journal) is in
      let changed = ap versioned_version good.changed.2 in
      let least = changed_version entry.from good.changed.0 good.changed.1 in
      let was = ap versioned_version stood in
      wins entry.target entry.to (record { client = good.word; words = ap (λ (w : World). w.words) is; raised = omega (arith, changed, least, was); longer = omega (arith, longer) })
  entry_does false list j entry used good stood is =
      let longer = ap (λ (w : World). length w.journal) is in
      let changed = ap versioned_version good.changed.2 in
      let least = changed_version entry.from good.changed.0 good.changed.1 in
      let was = ap versioned_version stood in
      wins entry.target entry.to (record { client = good.word; words = ap (λ (w : World). w.words) is; raised = omega (arith, changed, least, was); longer = omega (arith, longer) })

  own_run : (run : FastWalk) (items : ArrayVec (ℕ × ℕ)) (held : Option (Held S)) (seen : Seen) → OfSome (IsOffering form run items mech) held → OfSome (KnowsRun form world run) held
      → Enters form world after offers offers' run held seen → Does
  own_run run items held seen offering knows (misses failed past same) = leaves same
  own_run run items held seen offering knows (wins_entry list entry has succeeded next stood same) =
      let known : KnowsRun form world run list = subst (OfSome (KnowsRun form world run)) has knows in
      let offered : IsOffering form run items mech list = subst (OfSome (IsOffering form run items mech)) has offering in
      let listed : slice_get list.list.entries run.next ≡ Some entry = ap (λ (l : List Entry). slice_get l run.next) offered.entries ∙ next in
      entry_does (uses_block list.list run.next) list.list run.next entry _ (entry_good form laws world list.list list.offering list.since run.next entry holds.shape known.offered listed) stood same

  own_wrap : (wrap : W) (held : Option (Held S)) (seen : Seen) → OfSome (KnowsWrap form world wrap) held → Requested form (form.wrap_request_of wrap) world after seen → Does
  own_wrap wrap None seen knows is = absurd knows
  own_wrap wrap (Some held) seen knows is =
      kind_touches form world after offers mech offers (wrap_kind form laws world holds.shape offers 8 None wrap after seen held.list held.stop knows.offered.command knows.wraps knows.follows is)

  announce_does : (at : Announcing) → mech.seat < 8 → IsCommandOf form.object mech.op → Announces form world after offers offers' at mech → Does
  announce_does announcing.Value few command is = tells_value is
  announce_does announcing.Op few command is = tells_op (code_fits form.object form.tellable mech.op command.command) is
  announce_does announcing.Record few command is = record_touches form world after offers mech mech.seat _ few is

  module _ (callers : ℕ → Caller) (own own' : SeatGhost S) (identity : ℕ) (seen : Seen) where
    help_does : (at : Helping S W) (head : ℕ) → head < 8 → KnowsHelp form world offers (callers head) head mech.hand own.carried at
        → HelpSteps form world after offers offers' at head mech own.carried own'.carried identity seen → Does
    help_does (Record known) head small knows is = leaves is.0
    help_does (Known word does) head small knows is = work_does (callers head) head word own.carried own'.carried identity seen does small knows.0 knows.1 is
    help_does (Remove removal) head small knows is = queue_does is.0

    phase_does : (at : Phase S W) (words : List ℕ) → RestsMove form world offers callers at mech own → PhaseInside form at words → StepsIn form world after offers offers' at mech own own' identity seen → Does
    phase_does phase.Idle words rests inside is = leaves is.1
    phase_does phase.Begin words rests inside is = puts 0 is.1.0 (inl (omega arith)) is.1.1
    phase_does phase.Look words rests inside is = leaves is.1
    phase_does (phase.Generate s Search) words rests inside is =
        kind_touches form world after offers mech offers (search_kind form laws world holds.shape offers 8 None s after seen mech.op own.carried.since rests.command rests.knows.0 rests.knows.1 is.1)
    phase_does (phase.Generate s LookForBlock) words rests inside is = leaves is.1
    phase_does (phase.Generate s Claim) words rests inside is = puts 2 is.1.0 (inl (omega arith)) is.1.1
    phase_does (phase.Apply run items (Fill made)) words rests inside is = own_fill run items made own.held rests.block.0 rests.block.2 rests.lists rests.knows is.1
    phase_does (phase.Apply run items Execute) words rests inside is = own_run run items own.held seen rests.lists rests.knows is.1
    phase_does (phase.Wrap wrap) words rests inside is = own_wrap wrap own.held seen rests.knows is.1
    phase_does (phase.Announce at) words rests inside is = announce_does at rests.few rests.command is.1
    phase_does (phase.Enter owner) words rests inside is = queue_does is.1
    phase_does phase.Drive words rests inside is = leaves is.1
    phase_does (phase.Help drives help) words rests inside is = help_does help.at help.head inside.0 rests.knows is
    phase_does phase.Collect words rests inside is = leaves is.1
    phase_does (phase.Value reference) words rests inside is = leaves is.1
    phase_does (phase.End reply) words rests inside is = puts 0 is.1.0 (inl (omega arith)) is.1.1

module _ {S W : Type 0} (form : NormalForm S W) (laws : Laws form) (setup : Setup) (older : List Move) (move : Move) (mech : Mech S W) (are : AreMoves form setup (move ∷ older))
    (at : slice_get (run_of form setup older).mechs move.seat ≡ Some mech) (kept : IsKept form setup older) where
  hand_some : (begins : Option Op) (block : ℕ) → (begun begins mech).hand ≡ Some block → 0 < block
  hand_some None block has = (hands_spare form setup older are.0 (keeps_claims form setup older are.0 kept) move.seat mech at block has).some
  hand_some (Some op) block has = (hands_spare form setup older are.0 (keeps_claims form setup older are.0 kept) move.seat mech at block has).some

  -- what the move does to words
  pub move_touches : Touches form (world_of form setup older) (world_of form setup (move ∷ older)) (ghost_of form setup older).offers (begun move.begins mech)
  move_touches =
      let one = begun move.begins mech in
      let own = (ghost_of form setup older).seats move.seat in
      let inside = is_inside form laws setup older move mech are at kept in
      phase_does form laws (world_of form setup older) (world_of form setup (move ∷ older)) (ghost_of form setup older).offers (ghost_of form setup (move ∷ older)).offers kept.holds one (hand_some move.begins)
      (callers_in (run_of form setup older) (ghost_of form setup older)) own ((ghost_of form setup (move ∷ older)).seats move.seat) (length older) (seen_of (mech_request form one) (run_of form setup older).words)
      one.phase (run_of form setup older).words (rests_move form laws setup older move mech are at kept) inside.asks (moves_step form setup older move mech at inside)
