-- What holds of the call of a head, for the helper that moves: of its seat's machine, of its record, and where a won exchange
-- of the record meets all of that.
use Rattle.std.proofs.Common.{◌≡◌, ◌∙◌, refl, sym, subst, ap, ℕ, ◌<◌, ◌≤◌, Bool, true, false, inl, inr, List, slice_get, Option, Some, arith}
use Rattle.std.proofs.lemmas.Option.{slice_get_cases}
use Rattle.lin_report.specs.declared.calls.Outcome.{Outcome}
use Rattle.word_fields.specs.declared.records.RecordPhase as marks
use Rattle.word_fields.specs.declared.records.RecordPhase.TheVariants as record_phases
use Rattle.word_fields.specs.Records.{record_number, record_of, record_payload, record_phase}
use Rattle.node_arena.specs.MemoryMap.{record_place}
use Rattle.help_queue.specs.Gathers.{is_open}
use Rattle.help_queue_laws.proofs.Known.Knowledge.{PhaseFacts}
use Rattle.help_queue_laws.proofs.Known.Scenes.{scene_of}
use Rattle.normal_traits.specs.World.{Called, World}
use Rattle.normal_traits.specs.NormalForm.{NormalForm}
use Rattle.normal_traits.specs.Laws.{Laws}
use Rattle.fast_slow_engine.specs.declared.phases.Phase.{Phase}
use Rattle.fast_slow_engine.specs.declared.phases.Phase.TheVariants as phase
use Rattle.fast_slow_engine.specs.declared.setup.Setup.{Setup}
use Rattle.fast_slow_engine.specs.declared.help.Help as helper
use Rattle.fast_slow_engine.specs.declared.help.Helping.{Helping}
use Rattle.fast_slow_engine.specs.declared.help.Helping.TheVariants.{Record, Known, Remove}
use Rattle.fast_slow_engine.specs.declared.help.Work.{Work}
use Rattle.fast_slow_engine.specs.declared.help.Work.TheVariants as work
use Rattle.fast_slow_engine.specs.Mechs.{Mech}
use Rattle.fast_slow_engine.specs.PhaseTable.{rests}
use Rattle.fast_slow_engine.specs.Runs.{AreMoves, Move, run_of}
use Rattle.offered_blocks.specs.Blocks.{Offer}
use Rattle.op_record.specs.Outcomes.{outcome_of}
use Rattle.offered_blocks.specs.Records.{RecordIsRight, RecordTells}
use Rattle.helper_knowledge.specs.Callers.{Caller, HasAnnounced, called, caller_of}
use Rattle.helper_knowledge.specs.HelperStep.{RestsOn}
use Rattle.helper_knowledge.specs.Meetings.{IsNew}
use Rattle.helper_knowledge.specs.WorkKnown.{NamedBy}
use Rattle.helper_knowledge.proofs.LawsOfHelpers.{wins_meet}
use Rattle.run_queue.specs.QueueGhosts.{queue_ghosts}
use Rattle.run_queue.specs.QueueLaws.{Advances, HelpingAdvances, Publishes}
use Rattle.run_queue.specs.QueueViews.{next_number, phase_view}
use Rattle.run_queue.proofs.QueueLaws.{advances_hold, owners_hold}
use Rattle.run_queue.proofs.Runs.RunMoves.{runs_queued}
use Rattle.run_world.specs.Identities.{list_offered}
use Rattle.run_world.specs.Identities.Keeper.{carrier, named}
use Rattle.run_world.specs.InHand.{IsUnspent}
use Rattle.run_world.specs.RunGhosts.{ghost_of, world_of}
use Rattle.run_world.proofs.Names.Fresh.{carried_fresh}
use Rattle.run_world.proofs.Names.Kept.{identities_differ}
use Rattle.run_hands.proofs.Blocks.Spare.{hands_spare}
use Rattle.step_knowledge.specs.Known.{KnowsHelp, KnowsIn}
use Rattle.step_knowledge.specs.Moves.{MeetsWork, RestsHelp}
use Rattle.run_knowledge.specs.Kept.{IsKept, caller_at, callers_in}
use Rattle.run_knowledge.proofs.Bounds.InKept.{has_room, keeps_claims, keeps_queue}

-- a machine that publishes doesn't rest
publishing_runs : {S W : Type 0} (at : Phase S W) → Publishes at → rests at ≡ false
publishing_runs phase.Idle is = absurd is
publishing_runs _ is = refl

carrier_not : {A : Type 0} (seat block : ℕ) → named block ≡ carrier seat → A
carrier_not seat block e = absurd cc

module _ {S W : Type 0} (form : NormalForm S W) (laws : Laws form) (setup : Setup) (older : List Move) (are : AreMoves form setup older) (kept : IsKept form setup older) where
  abbrev world : World
  world = world_of form setup older

  abbrev offers : ℕ → Option (Offer S)
  offers = (ghost_of form setup older).offers

  abbrev callers : ℕ → Caller
  callers = callers_in (run_of form setup older) (ghost_of form setup older)

  abbrev begun_at : ℕ → ℕ
  begun_at seat = ((ghost_of form setup older).seats seat).begun

  -- ---- the machine of the head

  module _ (head : ℕ) (mate : Mech S W) (at : slice_get (run_of form setup older).mechs head ≡ Some mate) where
    caller_is : callers head ≡ caller_of (called mate) (begun_at head)
    caller_is = ap (λ (o : Option (Mech S W)). caller_at o (begun_at head)) at

    seat_is : mate.seat ≡ head
    seat_is = ((runs_queued form setup older are (keeps_queue form setup older are kept)).seats head mate at).seat

    rests_on : 1 ≤ (callers head).number → RestsOn form world offers head (callers head)
    rests_on some =
        let known = kept.seats head mate at in
        let most = ((runs_queued form setup older are (keeps_queue form setup older are kept)).seats head mate at).most in
        let began : 1 ≤ mate.number = subst (λ (c : Caller). 1 ≤ c.number) caller_is some in
        subst (RestsOn form world offers head) (sym caller_is) (record {
          holds = kept.holds;
          contents = kept.contents;
          announced = subst (λ s. HasAnnounced world s (caller_of (called mate) (begun_at head))) seat_is known.announced.own;
          command = known.command began;
          few = omega (arith, most);
          early = known.early;
        })

    -- what its record names, if it is open
    names_by : (p : marks.RecordPhase) (word : ℕ) (told : Option Outcome) → record_number word ≡ mate.number → RecordTells form world offers (called mate) (begun_at head) p (record_payload word) told → NamedBy form world offers p head word
    names_by record_phases.Idle word told number tells = tt
    names_by record_phases.Generate word told number tells = tt
    names_by record_phases.Executing word told number tells =
        (tells.offer, record { stands = tells.stands; seat_is = ap (λ (c : Called). c.seat) tells.call_is ∙ seat_is; number_is = ap (λ (c : Called). c.number) tells.call_is ∙ sym number })
    names_by record_phases.Wrapping word told number tells = (
      tells.0.offer,
      record { stands = tells.0.stands; seat_is = ap (λ (c : Called). c.seat) tells.0.call_is ∙ seat_is; number_is = ap (λ (c : Called). c.number) tells.0.call_is ∙ sym number },
      tells.1,
    )
    names_by record_phases.Completed word told number tells = tt

    record_named : is_open (record_phase (world.words (record_place head))) ≡ true
        → NamedBy form world offers (record_phase (world.words (record_place head))) head (world.words (record_place head)) × (1 ≤ (callers head).number)
    record_named opened =
        let keeps = keeps_queue form setup older are kept in
        let owns = (owners_hold form setup older are keeps head mate at).0 opened in
        let runs = ((runs_queued form setup older are keeps).seats head mate at).runs (publishing_runs mate.phase owns.1) in
        let known = kept.seats head mate at in
        let here = ap record_place seat_is in
        let word = world.words (record_place head) in
        let right = known.record_tells (ap (λ p. record_number (world.words p)) here ∙ owns.0) in (
          names_by (record_phase word) word (outcome_of (record_of word)) owns.0 (subst (λ p. RecordIsRight form world offers (called mate) (begun_at head) (record_of (world.words p))) here right),
          subst (λ (c : Caller). 1 ≤ c.number) (sym caller_is) runs.0,
        )

  -- ---- the helper

  module _ (seat : ℕ) (mech : Mech S W) (found : slice_get (run_of form setup older).mechs seat ≡ Some mech) (drives : Bool) (help : helper.Help S W) (is : mech.phase ≡ phase.Help drives help) where
    abbrev carried : Option (Offer S)
    carried = ((ghost_of form setup older).seats seat).carried.filled

    -- its head is a seat of the run, which has a machine
    head_below : help.head < setup.seats
    head_below =
        let q = runs_queued form setup older are (keeps_queue form setup older are kept) in
        let scene = scene_of (run_of form setup older).words (queue_ghosts form setup older) in
        let facts = subst (λ (p : Phase S W). PhaseFacts scene setup.seats seat (next_number p mech.number) (phase_view p)) is (q.knows seat mech found) in
        facts.0

    pub head_few : help.head < 8
    head_few = (let below = head_below in let few = setup.few_seats in omega (arith, below, few))

    pub head_seated : (mate : Mech S W) × (slice_get (run_of form setup older).mechs help.head ≡ Some mate)
    head_seated =
        let q = runs_queued form setup older are (keeps_queue form setup older are kept) in
        elim (slice_get_cases (run_of form setup older).mechs help.head).1 [
          | inl has ↦ (has.0, has.2)
          | inr past ↦ (let below = head_below in let count = q.count in absurd (omega (arith, past.0, below, count)))
        ]

    -- the list that it carries is new, and the block in its hand spare
    carried_new : (block : ℕ) (offer : Offer S) → mech.hand ≡ Some block → carried ≡ Some offer → IsNew form world offers block offer
    carried_new block offer has filled =
        let hand = hands_spare form setup older are (keeps_claims form setup older are kept) seat mech found block has in
        record {
          spare = record { some = hand.some; unused = hand.unused (subst (λ (p : Phase S W). IsUnspent form mech.op p) (sym is) tt); unnamed = hand.unnamed };
          fresh = λ j. carried_fresh form setup older seat offer j filled;
          identity = λ other mate stands same. carrier_not seat other (identities_differ form setup older (named other) (carrier seat) mate.list offer.list (ap list_offered stands) (ap list_offered filled) same);
          room = has_room form setup older are kept laws;
        }

    meets_work : (mate : Mech S W) → slice_get (run_of form setup older).mechs help.head ≡ Some mate → (word : ℕ) (does : Work S W) → help.at ≡ Known word does
        → MeetsWork form world offers callers does help.head word mech.hand carried
    meets_work mate at word (work.Advance to) goes = λ stood.
        let state = run_of form setup older in
        let advances = subst (λ (p : Phase S W). Advances state p) is (advances_hold form setup older are (keeps_queue form setup older are kept) seat mech found) in
        let wins = subst (λ (h : Helping S W). HelpingAdvances state help.head h) goes advances in
        record {
          call = called mate;
          begun = begun_at help.head;
          is = caller_is help.head mate at;
          meets = wins_meet form laws state world offers help.head word mate (begun_at help.head) head_few (λ place. refl) stood (wins stood) at (seat_is help.head mate at) (kept.seats help.head mate at).record_tells;
          fresh = carried_new;
        }
    meets_work mate at word work.Head goes = tt
    meets_work mate at word work.Op goes = tt
    meets_work mate at word (work.Value op) goes = tt
    meets_work mate at word (work.Generate op s step) goes = tt
    meets_work mate at word (work.Fill stores made) goes = tt
    meets_work mate at word (work.Read read) goes = tt
    meets_work mate at word (work.Execute run) goes = tt
    meets_work mate at word (work.Wrap wrap) goes = tt

    rests_at : (at : Helping S W) → help.at ≡ at → KnowsHelp form world offers (callers help.head) help.head mech.hand ((ghost_of form setup older).seats seat).carried at
        → RestsHelp form world offers callers at help.head mech.hand carried
    rests_at (Record known) goes knows = record_named help.head head_seated.0 head_seated.1
    rests_at (Known word does) goes knows = (rests_on help.head head_seated.0 head_seated.1 knows.2, meets_work head_seated.0 head_seated.1 word does goes)
    rests_at (Remove removal) goes knows = tt

    -- all that a helper's step rests on
    pub help_rests : RestsHelp form world offers callers help.at help.head mech.hand carried
    help_rests =
        let own = (ghost_of form setup older).seats seat in
        rests_at help.at refl (subst (λ (p : Phase S W). KnowsIn form p mech own world offers callers) is (kept.seats seat mech found).knows)
