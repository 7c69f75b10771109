-- What each move has asked, by the phase of its machine: which exchange it won, if it won one.
use Rattle.std.proofs.Common.{◌≡◌, ◌≢◌, ◌∙◌, refl, sym, subst, ap, ℕ, ◌+◌, ◌^◌, ◌<◌, Bool, true, false, List, ◌∷◌, length, slice_get, Option, Some, None, ◌⊎◌, inl, inr, arith, ◌&&◌, if◌then◌else◌}
use Rattle.arrayvec.specs.ArrayVec.{ArrayVec}
use Rattle.step_memory.specs.declared.steps.Request.{Request}
use Rattle.step_memory.specs.declared.steps.Request.TheVariants.{Load, Exchange}
use Rattle.step_memory.specs.declared.steps.Seen.{Seen}
use Rattle.word_fields.specs.Versioned.{cleared_word, marked_word, versioned_version}
use Rattle.word_fields.specs.Records.{packed_record, record_of}
use Rattle.word_fields.proofs.ChangedWords.{bit-marked, cleared-clear, cleared-marked, version-changed_below, version-marked, cleared-changed}
use Rattle.node_arena.specs.MemoryMap.{record_place, MayBeClients}
use Rattle.help_queue.specs.Enters.{enter_request}
use Rattle.help_queue.specs.Removes.{remove_request}
use Rattle.normal_traits.specs.declared.lists.Entry.{Entry}
use Rattle.normal_traits.specs.World.{World, Won}
use Rattle.normal_traits.specs.NormalForm.{NormalForm}
use Rattle.normal_traits.specs.Steps.{Requested, exchanged, listed_if, put_word}
use Rattle.normal_traits.specs.Steps.Requested.{loaded, lost as request_lost, won as request_won}
use Rattle.normal_traits.specs.Laws.{AsksWell, IsGoodEntry}
use Rattle.normal_traits.specs.World.Maker.{By, Beside}
use Rattle.normal_traits.proofs.Stays.{entry_good}
use Rattle.cas_executor.specs.declared.slow_run.SlowStep.{SlowStep}
use Rattle.cas_executor.specs.declared.slow_run.SlowStep.TheVariants.{LoadState, Install, LoadTarget, Succeed, Fail, LoadDecision, Clear}
use Rattle.cas_executor.specs.FastRuns.{FastWalk, exchange_of}
use Rattle.cas_executor.specs.SlowRuns.{SlowWalk, request_at, slow_request, state_place, state_word, step_request, installs}
use Rattle.cas_executor.specs.declared.slow_run.EntryState.TheVariants.{Pending, Succeeded, Failed}
use Rattle.cas_executor_laws.specs.Parts.{Knows}
use Rattle.cas_executor_laws.specs.Entries.{IsRaised}
use Rattle.cas_executor_laws.proofs.OfferedPartsKept.{entry_at}
use Rattle.fast_slow_engine.specs.declared.phases.Phase.{Phase}
use Rattle.fast_slow_engine.specs.declared.phases.Phase.TheVariants as phase
use Rattle.fast_slow_engine.specs.declared.phases.Announcing.TheVariants as announcing
use Rattle.fast_slow_engine.specs.declared.phases.Generating.TheVariants.{Search, LookForBlock, Claim}
use Rattle.fast_slow_engine.specs.declared.phases.Applying.TheVariants.{Fill, Execute}
use Rattle.fast_slow_engine.specs.declared.help.Helping.{Helping}
use Rattle.fast_slow_engine.specs.declared.help.Helping.TheVariants.{Record, Known, Remove}
use Rattle.fast_slow_engine.specs.declared.help.Work.{Work}
use Rattle.fast_slow_engine.specs.declared.help.Work.TheVariants as work
use Rattle.fast_slow_engine.specs.declared.setup.Setup.{Setup}
use Rattle.fast_slow_engine.specs.HelpTable.{helping_request, work_request}
use Rattle.fast_slow_engine.specs.HelpWords.{named_block}
use Rattle.fast_slow_engine.specs.OfferStores.{stored_by}
use Rattle.fast_slow_engine.specs.PhaseTable.{mech_request, request_in}
use Rattle.fast_slow_engine.specs.Runs.{Move, run_of}
use Rattle.offered_blocks.specs.Blocks.{Offer, has_taken, site_of}
use Rattle.offered_blocks.specs.RunWorlds.{ran_by}
use Rattle.offered_blocks.proofs.Blocks.Places.{word_may}
use Rattle.helper_knowledge.specs.Callers.{Caller}
use Rattle.helper_knowledge.specs.Carried.{Carried, OfSome}
use Rattle.helper_knowledge.specs.WorkKnown.{KnowsWork}
use Rattle.run_invariant.specs.Ghosts.{Held, SeatGhost, uses_block}
use Rattle.run_invariant.specs.Lists.{HoldsIn, IsOffering}
use Rattle.run_invariant.specs.RunGhosts.{ghost_of}
use Rattle.run_invariant.specs.Worlds.{won_entry, world_stepped}
use Rattle.run_invariant.specs.Known.{KnowsHelp, KnowsIn, KnowsRun, KnowsWrap, MakesCommand}
use Rattle.run_invariant.specs.Moves.{Enters, HelpSteps, StepsIn, WorkSteps, Advances, Puts}
use Rattle.run_invariant.specs.Moves.Enters.{misses as entry_misses, wins as entry_won}
use Rattle.run_invariant.specs.Moves.Advances.{lost as exchange_lost, won as exchange_won}
use Rattle.run_invariant.specs.Kept.{callers_in}
use Rattle.run_invariant.specs.InMemory.{PhaseInside}
use Rattle.run_invariant.proofs.Words.Moved.{made_moved}
use Rattle.run_invariant.proofs.Bounds.InKept.{has_room}
use Rattle.run_invariant.proofs.InRuns.MovesKinds.{is_inside}
use Rattle.run_invariant.proofs.InRuns.OwnMade.{enter_at, remove_at}
use Rattle.run_invariant.proofs.InRuns.MovesInRuns.{Moved, after, does, known, mech, mover, offers, own, seated, seen, world}
use Rattle.run_exchanges.proofs.Exchanges.Requests.{Asked, none, lost, elsewhere, clears, wins}

module _ {S W : Type 0} (form : NormalForm S W) where
  -- a store is no exchange, and a request at the queue word is none of a word of the client
  not_stored : (store : Option (ℕ × ℕ)) (at from to : ℕ) → stored_by store ≢ Exchange at from to
  not_stored None at from to e = cc
  not_stored (Some store) at from to e = cc

  at_queue : (request : Request) (won : Bool) (world' after' : World) → ((at : ℕ) × (request ≡ Load at)) ⊎ ((from : ℕ) × ((to : ℕ) × (request ≡ Exchange 1 from to))) → after'.journal ≡ world'.journal → Asked form.is_versioned request won world' after'
  at_queue request won world' after' (inl load) same = none (λ at from to e. (let both = sym load.1 ∙ e in cc)) same
  at_queue request won world' after' (inr exchange) same = elsewhere 1 exchange.0 exchange.1.0 exchange.1.1 (inl (omega arith)) same

  -- a request of a search or a wrap-up
  requested : (request : Request) (was now : World) (saw : Seen) → AsksWell form was request → Requested form request was now saw → Asked form.is_versioned request saw.won was now
  requested request was now saw asks (loaded at) = none (λ at' from to e. cc) refl
  requested request was now saw asks (request_lost at from to differs) = lost refl refl
  requested request was now saw asks (request_won at from to found raised) =
      let of = asks.3 in
      let entry : Entry = record { target = at; from = from; to = to } in
      wins Beside entry (form.cause_of was Beside entry) to refl refl (word_may form.is_root was at asks.0) asks.1 raised (ap cleared_word of.2 ∙ cleared-changed from of.0 of.1 ∙ sym of.2) refl

  -- a step of a list that a record has named
  module _ (was now : World) (offer : Offer S) (block j : ℕ) (entry : Entry) (words : ℕ → ℕ) (plain : form.is_versioned (state_place block j) ≡ false) (here : MayBeClients entry.target)
      (versioned : form.is_versioned entry.target ≡ true) (raised : IsRaised entry) where
    cleared_to : cleared_word entry.to ≡ entry.to
    cleared_to = cleared-clear entry.to raised.to_clear

    step_asked : (step : SlowStep) (won : Bool) → now.journal ≡ (ran_by form was offer j words (installs step && won) (Some entry)).journal → Asked form.is_versioned (step_request block j entry step) won was now
    step_asked LoadState won journal = none (λ at from to e. cc) journal
    step_asked Install true journal =
        wins (By offer.list j) entry (form.cause_of was (By offer.list j) entry) (marked_word entry.to) refl refl here versioned (version-marked entry.to ∙ raised.version) (cleared-marked entry.to ∙ cleared_to) journal
    step_asked Install false journal = lost refl journal
    step_asked LoadTarget won journal = none (λ at from to e. cc) journal
    step_asked Succeed won journal = elsewhere (state_place block j) (state_word Pending) (state_word Succeeded) refl (inr plain) journal
    step_asked Fail won journal = elsewhere (state_place block j) (state_word Pending) (state_word Failed) refl (inr plain) journal
    step_asked LoadDecision won journal = none (λ at from to e. cc) journal
    step_asked Clear won journal =
        clears entry.target (marked_word entry.to) entry.to refl (sym (version-marked entry.to)) (record { marked = bit-marked entry.to; cleared = sym cleared_to ∙ sym (cleared-marked entry.to) }) journal

  module _ {setup : Setup} {older : List Move} {move : Move} (m : Moved form setup older move) where
    abbrev Asks : Request → Type 0
    Asks request = Asked form.is_versioned request (seen form m).won (world form m) (after form m)

    quiet : (request : Request) → ((at from to : ℕ) → request ≢ Exchange at from to) → after form m ≡ world form m → Asks request
    quiet request other is = none other (ap (λ (w : World). w.journal) is)

    put : (request : Request) (place word : ℕ) → ((at from to : ℕ) → request ≢ Exchange at from to) → after form m ≡ put_word place word (world form m) → Asks request
    put request place word other is = none other (ap (λ (w : World). w.journal) is)

    queue_same : (offers' : ℕ → Option (Offer S)) → (after form m ≡ world form m) ⊎ Puts form (world form m) (after form m) (offers form m) offers' 1 → (after form m).journal ≡ (world form m).journal
    queue_same offers' (inl is) = ap (λ (w : World). w.journal) is
    queue_same offers' (inr is) = ap (λ (w : World). w.journal) is.1

    -- the journal after a step in this phase
    journal_at : (at : Phase S W) → (mover form m).phase ≡ at → (after form m).journal ≡ (world_stepped form at (own form m).held (offers form m) (seen form m) (world form m)).journal
    journal_at at is =
        ap (λ (w : World). w.journal) (sym (made_moved form setup older move (mech form m) (seated form m)))
        ∙ ap (λ (p : Phase S W). (world_stepped form p (own form m).held (offers form m) (seen form m) (world form m)).journal) is

    -- ---- a list that its own seat executes

    same_held : (x y : Held S) → Some x ≡ Some y → x ≡ y
    same_held x y e = cc

    journal_if : (b : Bool) (x y : World) (journal : List Won) → x.journal ≡ journal → y.journal ≡ journal → (if b then x else y).journal ≡ journal
    journal_if true x y journal h k = h
    journal_if false x y journal h k = k

    entry_wins : (run : FastWalk) (held : Held S) (entry : Entry) → IsGoodEntry form (world form m) entry → slice_get run.entries run.next ≡ Some entry → (seen form m).won ≡ true → (world form m).words entry.target ≡ entry.from
        → after form m ≡ won_entry form held.list run.next (Some entry) (world form m) → Asks (exchange_of (slice_get run.entries run.next))
    entry_wins run held entry good next on found made =
        let of = good.changed in
        let room = has_room form setup older m.are.0 m.kept m.laws entry.target good.word good.versioned in
        let raised : versioned_version entry.to ≡ versioned_version entry.from + 1 = ap versioned_version of.2 ∙ version-changed_below entry.from of.0 of.1 (subst (λ w. versioned_version w + 1 < 2 ^ 39) found room) in
        let made' = exchanged form (By held.list run.next) (listed_if (form.adds held.list run.next) held.list) entry entry.to (world form m) in
        wins (By held.list run.next) entry (form.cause_of (world form m) (By held.list run.next) entry) entry.to (ap exchange_of next) on (word_may form.is_root (world form m) entry.target good.word) good.versioned raised
        (ap cleared_word of.2 ∙ cleared-changed entry.from of.0 of.1 ∙ sym of.2)
        (ap (λ (w : World). w.journal) made ∙ journal_if (uses_block held.list run.next) _ made' made'.journal refl refl)

    enters : (run : FastWalk) (stores : ArrayVec (ℕ × ℕ)) (held : Held S) (offers' : ℕ → Option (Offer S)) → IsOffering form run stores (mover form m) held → KnowsRun form (world form m) run held
        → Enters form (world form m) (after form m) (offers form m) offers' run (Some held) (seen form m) → Asks (exchange_of (slice_get run.entries run.next))
    enters run stores held offers' lists knows (entry_misses off differs is) = lost off (ap (λ (w : World). w.journal) is)
    enters run stores held offers' lists knows (entry_won list entry holds on next found made) =
        let one : list ≡ held = same_held list held (sym holds) in
        let listed : slice_get held.list.entries run.next ≡ Some entry = ap (λ (l : List Entry). slice_get l run.next) lists.entries ∙ next in
        let good = entry_good form m.laws (world form m) held.list held.offering held.since run.next entry m.kept.holds.shape knows.offered listed in
        entry_wins run held entry good next on found (made ∙ ap (λ (h : Held S). won_entry form h.list run.next (Some entry) (world form m)) one)

    execute_asked : (run : FastWalk) (stores : ArrayVec (ℕ × ℕ)) (held : Option (Held S)) (offers' : ℕ → Option (Offer S)) → OfSome (IsOffering form run stores (mover form m)) held → OfSome (KnowsRun form (world form m) run) held
        → Enters form (world form m) (after form m) (offers form m) offers' run held (seen form m) → Asks (exchange_of (slice_get run.entries run.next))
    execute_asked run stores None offers' lists knows steps = absurd knows
    execute_asked run stores (Some held) offers' lists knows steps = enters run stores held offers' lists knows steps

    wrap_asked : (w : W) (held : Option (Held S)) → OfSome (KnowsWrap form (world form m) w) held → Requested form (form.wrap_request_of w) (world form m) (after form m) (seen form m) → Asks (form.wrap_request_of w)
    wrap_asked w None knows steps = absurd knows
    wrap_asked w (Some held) knows steps =
        requested (form.wrap_request_of w) (world form m) (after form m) (seen form m) (m.laws.of_world.wrap_asks_well (world form m) w held.list held.stop m.kept.holds.shape knows.wraps knows.follows) steps

    -- ---- a helper

    run_asked : (run : SlowWalk) (block : ℕ) (offer : Offer S) → offers form m block ≡ Some offer → Knows (site_of offer) (world form m).words (has_taken (world form m).journal offer.list) run
        → (after form m).journal ≡ (ran_by form (world form m) offer run.next (after form m).words (installs run.step && (seen form m).won) (slice_get offer.list.entries run.next)).journal → Asks (slow_request run)
    run_asked run block offer stands knows journal =
        let mine = m.kept.holds.blocks.offered block offer stands in
        let at = entry_at offer.list.entries run.next knows.within in
        let entry = at.0 in
        let target = mine.targets run.next entry at.1 in
        let some : 0 < block = mine.some in
        let short = mine.site.short in
        let within = knows.within in
        let next : slice_get run.entries run.next ≡ Some entry = ap (λ (l : List Entry). slice_get l run.next) knows.entries ∙ at.1 in
        let is : run.block ≡ block = knows.block ∙ mine.block_is in
        let plain : form.is_versioned (state_place run.block run.next) ≡ false =
        subst (λ b. form.is_versioned (state_place b run.next) ≡ false) (sym is) (m.laws.of_world.notes_plain block (9 + run.next) some (omega (arith, short, within))) in
        subst (λ (o : Option Entry). Asks (request_at run o)) (sym next)
        (step_asked (world form m) (after form m) offer run.block run.next entry (after form m).words plain (word_may form.is_root (world form m) entry.target target.0) target.1 (mine.site.raised run.next entry at.1) run.step (seen form m).won
        (journal ∙ ap (λ (o : Option Entry). (ran_by form (world form m) offer run.next (after form m).words (installs run.step && (seen form m).won) o).journal) at.1))

    advance_same : (head word to : ℕ) (offers' : ℕ → Option (Offer S)) → Advances form (world form m) (after form m) (offers form m) offers' head word to (own form m).carried.filled (seen form m) → (after form m).journal ≡ (world form m).journal
    advance_same head word to offers' (exchange_lost off is kept) = ap (λ (w : World). w.journal) is
    advance_same head word to offers' (exchange_won on stood is kept) = ap (λ (w : World). w.journal) is

    work_asked : (drives : Bool) (head seats word : ℕ) (does' : Work S W) (offers' : ℕ → Option (Offer S)) (own' : Carried S) (caller : Caller) → (mover form m).phase ≡ phase.Help drives (record { head = head; seats = seats; at = Known word does' })
        → head < 8 → KnowsWork form (world form m) (offers form m) caller head word (mover form m).hand (own form m).carried does'
        → WorkSteps form (world form m) (after form m) (offers form m) offers' does' head word (mover form m) (own form m).carried own' (length older) (seen form m) → Asks (work_request form does' head word)
    work_asked drives head seats word work.Head offers' own' caller is few knows steps = quiet (work_request form work.Head head word) (λ at from to e. cc) steps.1.0
    work_asked drives head seats word work.Op offers' own' caller is few knows steps = quiet (work_request form work.Op head word) (λ at from to e. cc) steps.1.0
    work_asked drives head seats word (work.Value op) offers' own' caller is few knows steps = quiet (work_request form (work.Value op) head word) (λ at from to e. cc) steps.1.0
    work_asked drives head seats word (work.Generate op s Search) offers' own' caller is few knows steps =
        requested (form.request_of s) (world form m) (after form m) (seen form m) (m.laws.of_world.search_asks_well (world form m) s op (own form m).carried.since knows.1.command m.kept.holds.shape knows.2 knows.1.knows) steps.1.0
    work_asked drives head seats word (work.Generate op s LookForBlock) offers' own' caller is few knows steps = quiet (work_request form (work.Generate op s LookForBlock) head word) (λ at from to e. cc) steps.1.0
    work_asked drives head seats word (work.Generate op s Claim) offers' own' caller is few knows steps = put (work_request form (work.Generate op s Claim) head word) 2 steps.1.0.0 (λ at from to e. cc) steps.1.0.1
    work_asked drives head seats word (work.Fill stores made) offers' own' caller is few knows steps =
        none (not_stored (slice_get stores.items made)) (journal_at (phase.Help drives (record { head = head; seats = seats; at = Known word (work.Fill stores made) })) is)
    work_asked drives head seats word (work.Advance to) offers' own' caller is few knows steps =
        elsewhere (record_place head) (packed_record (record_of word)) to refl (inl (omega (arith, few))) (advance_same head word to offers' steps)
    work_asked drives head seats word (work.Read read) offers' own' caller is few knows steps = quiet (work_request form (work.Read read) head word) (λ at from to e. cc) steps.1.0
    work_asked drives head seats word (work.Execute run) offers' own' caller is few knows steps =
        let offer = knows.1.0 in
        let for = knows.1.1 in
        run_asked run (named_block word) offer for.stands knows.1.2 (ap (λ (w : World). w.journal) (steps.1.1 offer for.stands))
    work_asked drives head seats word (work.Wrap wrap) offers' own' caller is few knows steps =
        requested (form.wrap_request_of wrap) (world form m) (after form m) (seen form m) (m.laws.of_world.wrap_asks_well (world form m) wrap knows.1.0.list _ m.kept.holds.shape knows.1.3 knows.1.4) steps.1

    help_asked : (drives : Bool) (head seats : ℕ) (at : Helping S W) (offers' : ℕ → Option (Offer S)) (own' : Carried S) → (mover form m).phase ≡ phase.Help drives (record { head = head; seats = seats; at = at }) → head < 8
        → KnowsHelp form (world form m) (offers form m) (callers_in (run_of form setup older) (ghost_of form setup older) head) head (mover form m).hand (own form m).carried at
        → HelpSteps form (world form m) (after form m) (offers form m) offers' at head (mover form m) (own form m).carried own' (length older) (seen form m) → Asks (helping_request form at head)
    help_asked drives head seats (Record loaded') offers' own' is few knows steps = quiet (helping_request form (Record loaded') head) (λ at from to e. cc) steps.0
    help_asked drives head seats (Known word does') offers' own' is few knows steps = work_asked drives head seats word does' offers' own' _ is few knows.1 steps
    help_asked drives head seats (Remove removal) offers' own' is few knows steps =
        at_queue (remove_request removal) (seen form m).won (world form m) (after form m) (remove_at form (run_of form setup older).words (world form m) (offers form m) offers' removal.stage removal.seat) (queue_same offers' steps.0)

    -- ---- by the phase of the machine

    asked_at : (at : Phase S W) (offers' : ℕ → Option (Offer S)) (own' : SeatGhost S) → (mover form m).phase ≡ at → MakesCommand form at (mover form m) → HoldsIn form at (mover form m) (own form m).held
        → KnowsIn form at (mover form m) (own form m) (world form m) (offers form m) (callers_in (run_of form setup older) (ghost_of form setup older)) → PhaseInside form at (run_of form setup older).words
        → StepsIn form (world form m) (after form m) (offers form m) offers' at (mover form m) (own form m) own' (length older) (seen form m) → Asks (request_in form at (mover form m))
    asked_at phase.Idle offers' own' is command lists knows inside steps = quiet (request_in form phase.Idle (mover form m)) (λ at from to e. cc) steps.1
    asked_at phase.Begin offers' own' is command lists knows inside steps = put (request_in form phase.Begin (mover form m)) 0 steps.1.0 (λ at from to e. cc) steps.1.1
    asked_at phase.Look offers' own' is command lists knows inside steps = quiet (request_in form phase.Look (mover form m)) (λ at from to e. cc) steps.1
    asked_at (phase.Generate s Search) offers' own' is command lists knows inside steps =
        requested (form.request_of s) (world form m) (after form m) (seen form m) (m.laws.of_world.search_asks_well (world form m) s (mover form m).op (own form m).carried.since command m.kept.holds.shape knows.0 knows.1) steps.1
    asked_at (phase.Generate s LookForBlock) offers' own' is command lists knows inside steps = quiet (request_in form (phase.Generate s LookForBlock) (mover form m)) (λ at from to e. cc) steps.1
    asked_at (phase.Generate s Claim) offers' own' is command lists knows inside steps = put (request_in form (phase.Generate s Claim) (mover form m)) 2 steps.1.0 (λ at from to e. cc) steps.1.1
    asked_at (phase.Apply run stores (Fill made)) offers' own' is command lists knows inside steps = none (not_stored (slice_get stores.items made)) (journal_at (phase.Apply run stores (Fill made)) is)
    asked_at (phase.Apply run stores Execute) offers' own' is command lists knows inside steps = execute_asked run stores (own form m).held offers' lists knows steps.1
    asked_at (phase.Wrap w) offers' own' is command lists knows inside steps = wrap_asked w (own form m).held knows steps.1
    asked_at (phase.Announce announcing.Value) offers' own' is command lists knows inside steps = put (request_in form (phase.Announce announcing.Value) (mover form m)) _ _ (λ at from to e. cc) steps.1
    asked_at (phase.Announce announcing.Op) offers' own' is command lists knows inside steps = put (request_in form (phase.Announce announcing.Op) (mover form m)) _ _ (λ at from to e. cc) steps.1
    asked_at (phase.Announce announcing.Record) offers' own' is command lists knows inside steps = put (request_in form (phase.Announce announcing.Record) (mover form m)) _ _ (λ at from to e. cc) steps.1
    asked_at (phase.Enter owner) offers' own' is command lists knows inside steps =
        at_queue (enter_request owner) (seen form m).won (world form m) (after form m) (enter_at form (run_of form setup older).words (world form m) (offers form m) offers' owner.stage) (queue_same offers' steps.1)
    asked_at phase.Drive offers' own' is command lists knows inside steps = quiet (request_in form phase.Drive (mover form m)) (λ at from to e. cc) steps.1
    asked_at (phase.Help drives help) offers' own' is command lists knows inside steps = help_asked drives help.head help.seats help.at offers' own'.carried is inside.0 knows steps
    asked_at phase.Collect offers' own' is command lists knows inside steps = quiet (request_in form phase.Collect (mover form m)) (λ at from to e. cc) steps.1
    asked_at (phase.Value reference) offers' own' is command lists knows inside steps = quiet (request_in form (phase.Value reference) (mover form m)) (λ at from to e. cc) steps.1
    asked_at (phase.End reply) offers' own' is command lists knows inside steps = put (request_in form (phase.End reply) (mover form m)) 0 steps.1.0 (λ at from to e. cc) steps.1.1

    pub move_asked : Asked form.is_versioned (mech_request form (mover form m)) (seen form m).won (world form m) (after form m)
    move_asked =
        asked_at (mover form m).phase (ghost_of form setup (move ∷ older)).offers ((ghost_of form setup (move ∷ older)).seats move.seat) refl (known form m).command (known form m).lists (known form m).knows
        (is_inside form m.laws setup older move (mech form m) m.are (seated form m) m.kept).asks (does form m)
