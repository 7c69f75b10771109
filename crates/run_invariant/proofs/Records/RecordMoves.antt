-- What a move does to the record of a seat: nothing, or a helper's exchange of it wins and it tells what is right of its call, or
-- the seat announces its call.
use Rattle.std.proofs.Common.{◌≡◌, ◌≢◌, ◌∙◌, refl, sym, subst, ap, ℕ, ◌<◌, Bool, true, ◌⊎◌, inl, inr, List, ◌∷◌, length, slice_get, Option, Some, None, arith}
use Rattle.std.specs.Prelude.{slice_index}
use Rattle.std.proofs.lemmas.Bool.{cases_eq}
use Rattle.lin_report.specs.declared.calls.Op.{Op}
use Rattle.step_memory.specs.declared.steps.Seen.{Seen}
use Rattle.word_fields.specs.declared.records.RecordPhase.TheVariants as marks
use Rattle.word_fields.specs.declared.records.RecordWord.{RecordWord}
use Rattle.word_fields.specs.Records.{packed_record, record_of, record_phase, record_word}
use Rattle.word_fields.proofs.RecordWords.{record_of-packed}
use Rattle.node_arena.specs.declared.places.TheConstants.{TICKS, QUEUE, CLAIMS}
use Rattle.node_arena.specs.MemoryMap.{op_place, record_place, value_place}
use Rattle.help_queue.specs.Gathers.{is_open}
use Rattle.normal_traits.specs.World.{Called, World}
use Rattle.normal_traits.specs.NormalForm.{NormalForm}
use Rattle.normal_traits.specs.Laws.{Laws}
use Rattle.normal_traits.specs.Steps.{put_word}
use Rattle.normal_traits.proofs.Stays.{word_beside}
use Rattle.fast_slow_engine.specs.declared.help.Helping.{Helping}
use Rattle.fast_slow_engine.specs.declared.help.Helping.TheVariants.{Record, Known, Remove}
use Rattle.fast_slow_engine.specs.declared.help.Work.{Work}
use Rattle.fast_slow_engine.specs.declared.help.Work.TheVariants as work
use Rattle.fast_slow_engine.specs.declared.help.Help as helper
use Rattle.fast_slow_engine.specs.declared.phases.Announcing.TheVariants as announcing
use Rattle.fast_slow_engine.specs.declared.phases.Phase.{Phase}
use Rattle.fast_slow_engine.specs.declared.phases.Phase.TheVariants as phase
use Rattle.fast_slow_engine.specs.declared.phases.Generating.TheVariants.{Search, LookForBlock, Claim}
use Rattle.fast_slow_engine.specs.declared.phases.Applying.TheVariants.{Fill, Execute}
use Rattle.fast_slow_engine.specs.declared.setup.Setup.{Setup}
use Rattle.fast_slow_engine.specs.HelpTable.{helping_request}
use Rattle.fast_slow_engine.specs.Mechs.{Mech}
use Rattle.fast_slow_engine.specs.PhaseTable.{mech_request, request_in}
use Rattle.fast_slow_engine.specs.Runs.{AreMoves, Move, RunState, begun, run_of}
use Rattle.offered_blocks.specs.Blocks.{Offer}
use Rattle.offered_blocks.specs.Records.{RecordIsRight}
use Rattle.helper_knowledge.specs.Callers.{Caller, caller_of}
use Rattle.helper_knowledge.specs.Meetings.{won_offers}
use Rattle.helper_knowledge.specs.WorkKnown.{KnowsWork, MayAdvance}
use Rattle.helper_knowledge.specs.WorkKnown.MayAdvance.{offers_it, answers, exhausts, settles, completes, restarts}
use Rattle.helper_knowledge.proofs.LawsOfHelpers.{advances_are_right}
use Rattle.run_laws.proofs.Steps.{move_steps}
use Rattle.run_queue.specs.Fits.{PhaseFits}
use Rattle.run_queue.specs.Premises.{KeepsQueue, LeavesQueue, helps_for_client, is_for_client}
use Rattle.run_queue.proofs.Moves.FastMoves.{apply_leaves}
use Rattle.run_queue.proofs.Moves.WorkMoves.{IsQuietWork, work_leaves}
use Rattle.run_queue.proofs.Runs.RunMoves.{runs_queued}
use Rattle.kept_knowledge.specs.Ghosts.{SeatGhost}
use Rattle.kept_knowledge.specs.RunGhosts.{ghost_of, world_of}
use Rattle.kept_knowledge.specs.Known.{KnowsHelp}
use Rattle.kept_knowledge.specs.Moves.{Advances, HelpSteps, MeetsHead, MeetsWork, RestsHelp, RestsMove, StepsIn}
use Rattle.kept_knowledge.specs.Moves.Advances.{lost, won as has_won}
use Rattle.kept_knowledge.specs.Kept.{IsKept, callers_in}
use Rattle.kept_knowledge.proofs.Words.Moved.{seen_by}
use Rattle.kept_knowledge.proofs.Bounds.InKept.{keeps_queue}
use Rattle.kept_knowledge.proofs.InRuns.MoveSteps.{moves_step}
use Rattle.kept_knowledge.proofs.InRuns.MovesKinds.{is_inside}
use Rattle.kept_knowledge.proofs.InRuns.Rests.{rests_move}

module _ {S W : Type 0} (form : NormalForm S W) (laws : Laws form) (setup : Setup) (older : List Move) (move : Move) (mech : Mech S W) (are : AreMoves form setup (move ∷ older))
    (at : slice_get (run_of form setup older).mechs move.seat ≡ Some mech) (kept : IsKept form setup older) where
  abbrev world : World
  world = world_of form setup older

  abbrev after : World
  after = world_of form setup (move ∷ older)

  abbrev offers : ℕ → Option (Offer S)
  offers = (ghost_of form setup older).offers

  abbrev offers' : ℕ → Option (Offer S)
  offers' = (ghost_of form setup (move ∷ older)).offers

  abbrev callers : ℕ → Caller
  callers = callers_in (run_of form setup older) (ghost_of form setup older)

  abbrev words : List ℕ
  words = (run_of form setup older).words

  abbrev one : Mech S W
  one = begun move.begins mech

  abbrev own : SeatGhost S
  own = (ghost_of form setup older).seats move.seat

  abbrev own' : SeatGhost S
  own' = (ghost_of form setup (move ∷ older)).seats move.seat

  abbrev seen : Seen
  seen = seen_by form setup older move mech

  -- of the record of seat t
  pub data RecordMoves (t : ℕ) : Type 0 where
    stays : after.words (record_place t) ≡ world.words (record_place t) → RecordMoves t
    -- the call is that which the seat makes, and the record was open
    won : (drives : Bool) (help : helper.Help S W) (call : Called) (begun_at : ℕ) → one.phase ≡ phase.Help drives help → callers t ≡ caller_of call begun_at → call.seat ≡ t
        → is_open (record_phase (world.words (record_place t))) ≡ true → RecordIsRight form after offers' call begun_at (record_of (after.words (record_place t))) → RecordMoves t
    announced : one.phase ≡ phase.Announce announcing.Record → t ≡ one.seat → after ≡ put_word (record_place one.seat) (record_word marks.Generate one.number 0 0) world → offers' ≡ offers → RecordMoves t

  module _ (keeps : KeepsQueue form setup (move ∷ older)) (t : ℕ) (few : t < 8) where
    same : after ≡ world → RecordMoves t
    same is = stays (ap (λ (w : World). w.words (record_place t)) is)

    put : (place word : ℕ) → after ≡ put_word place word world → record_place t ≢ place → RecordMoves t
    put place word is apart = stays (ap (λ (w : World). w.words (record_place t)) is ∙ word_beside place word world.words (record_place t) apart)

    left : LeavesQueue (mech_request form one) words → RecordMoves t
    left leaves =
        stays (ap (λ (s : RunState S W). slice_index s.words (record_place t)) (move_steps form (run_of form setup older) move mech at) ∙ leaves (record_place t) (inr (inl (omega arith, omega (arith, few)))))

    -- a request that leaves the words of the queue, of the client or not
    leaves_by : (p : Phase S W) → one.phase ≡ p → LeavesQueue (request_in form p one) words → RecordMoves t
    leaves_by p is leaves = left (subst (λ (q : Phase S W). LeavesQueue (request_in form q one) words) (sym is) leaves)

    client : (p : Phase S W) → one.phase ≡ p → is_for_client p ≡ true → LeavesQueue (request_in form p one) words
    client p is theirs = subst (λ (q : Phase S W). LeavesQueue (request_in form q one) words) is (keeps.1 mech at (ap is_for_client is ∙ theirs))

    -- ---- a helper

    -- a record is exchanged where it is open
    advances_open : (caller : Caller) (head word to : ℕ) (filled : Option (Offer S)) → MayAdvance form world offers caller head word one.hand filled to → is_open (record_phase word) ≡ true
    advances_open caller head word to filled (offers_it block stores is hand goes known) = ap is_open is
    advances_open caller head word to filled (answers since op outcome is goes fits known) = ap is_open is
    advances_open caller head word to filled (exhausts is goes) = ap is_open is
    advances_open caller head word to filled (settles stop offer is of goes stopped) = ap is_open is
    advances_open caller head word to filled (completes outcome offer is of goes fits by fixed) = ap is_open is
    advances_open caller head word to filled (restarts offer is of goes dead) = ap is_open is

    stood_open : (head word to : ℕ) → world.words (record_place head) ≡ packed_record (record_of word) → MayAdvance form world offers (callers head) head word one.hand own.carried.filled to
        → is_open (record_phase (world.words (record_place head))) ≡ true
    stood_open head word to stood may =
        let fields : record_of (world.words (record_place head)) ≡ record_of word = ap record_of stood ∙ record_of-packed (record_of word) in
        ap (λ (r : RecordWord). is_open r.phase) fields ∙ advances_open (callers head) head word to own.carried.filled may

    -- an exchange of the record of a head
    advance : (drives : Bool) (help : helper.Help S W) (word to : ℕ) → one.phase ≡ phase.Help drives help → MeetsWork form world offers callers (work.Advance to) help.head word one.hand own.carried.filled → KnowsWork form world offers (callers help.head) help.head word one.hand own.carried (work.Advance to)
        → Advances form world after offers offers' help.head word to own.carried.filled seen → RecordMoves t
    advance drives help word to is meets knows (lost failed stood kept') = same stood
    advance drives help word to is meets knows (has_won succeeded stood made named) =
        elim (cases_eq t help.head) [
          | inr other ↦ put (record_place help.head) to made (λ e. other (omega (arith, e)))
          | inl here ↦
              let m : MeetsHead form world offers callers help.head word one.hand own.carried.filled = meets stood in
              let known : KnowsWork form world offers _ help.head word one.hand own.carried (work.Advance to) = subst (λ (c : Caller). KnowsWork form world offers c help.head word one.hand own.carried (work.Advance to)) m.is knows in
              let wins = advances_are_right form laws world offers help.head word m.call m.begun one.seat one.hand own.carried.filled to kept.holds m.meets m.fresh known in
              let Right = λ (w : World) (o : ℕ → Option (Offer S)) (s : ℕ). RecordIsRight form w o m.call m.begun (record_of (w.words (record_place s))) in
              won drives help m.call m.begun is (ap callers here ∙ m.is) (m.meets.seat_is ∙ sym here)
              (subst (λ s. is_open (record_phase (world.words (record_place s))) ≡ true) (sym here) (stood_open help.head word to stood knows))
              (subst (λ (s : ℕ). Right after offers' s) (sym here)
              (subst (λ (o : ℕ → Option (Offer S)). Right after o help.head) (sym named) (subst (λ (w : World). Right w (won_offers to own.carried.filled offers) help.head) (sym made) wins.tells)))
        ]

    -- work that exchanges no record
    quiet : (drives : Bool) (help : helper.Help S W) (word : ℕ) (does : Work S W) → IsQuietWork form does → one.phase ≡ phase.Help drives help → help.at ≡ Known word does → RecordMoves t
    quiet drives help word does no_exchange is goes =
        leaves_by (phase.Help drives help) is
        (subst (λ (h : Helping S W). LeavesQueue (helping_request form h help.head) words) (sym goes)
        (work_leaves form does help.head word words no_exchange (λ theirs. subst (λ (h : Helping S W). LeavesQueue (helping_request form h help.head) words) goes (client (phase.Help drives help) is (ap helps_for_client goes ∙ theirs)))))

    worked : (drives : Bool) (help : helper.Help S W) (word : ℕ) (does : Work S W) → one.phase ≡ phase.Help drives help → help.at ≡ Known word does
        → RestsHelp form world offers callers (Known word does) help.head one.hand own.carried.filled → KnowsHelp form world offers (callers help.head) help.head one.hand own.carried (Known word does)
        → HelpSteps form world after offers offers' (Known word does) help.head one own.carried own'.carried (length older) seen → RecordMoves t
    worked drives help word work.Head is goes rests knows steps = quiet drives help word work.Head tt is goes
    worked drives help word work.Op is goes rests knows steps = quiet drives help word work.Op tt is goes
    worked drives help word (work.Value op) is goes rests knows steps = quiet drives help word (work.Value op) tt is goes
    worked drives help word (work.Generate op s step) is goes rests knows steps = quiet drives help word (work.Generate op s step) tt is goes
    worked drives help word (work.Fill stores made) is goes rests knows steps = quiet drives help word (work.Fill stores made) tt is goes
    worked drives help word (work.Advance to) is goes rests knows steps = advance drives help word to is rests.1 knows.1 steps
    worked drives help word (work.Read read) is goes rests knows steps = quiet drives help word (work.Read read) tt is goes
    worked drives help word (work.Execute run) is goes rests knows steps = quiet drives help word (work.Execute run) tt is goes
    worked drives help word (work.Wrap w) is goes rests knows steps = quiet drives help word (work.Wrap w) tt is goes

    queued : (after ≡ world) ⊎ ((word : ℕ) × (after ≡ put_word QUEUE word world)) → RecordMoves t
    queued (inl is) = same is
    queued (inr is) = put QUEUE is.0 is.1 (λ e. absurd (omega (arith, e)))

    helping : (drives : Bool) (help : helper.Help S W) (h : Helping S W) → one.phase ≡ phase.Help drives help → help.at ≡ h → RestsHelp form world offers callers h help.head one.hand own.carried.filled
        → KnowsHelp form world offers (callers help.head) help.head one.hand own.carried h → HelpSteps form world after offers offers' h help.head one own.carried own'.carried (length older) seen → RecordMoves t
    helping drives help (Record known) is goes rests knows steps = same steps.0
    helping drives help (Known word does) is goes rests knows steps = worked drives help word does is goes rests knows steps
    helping drives help (Remove removal) is goes rests knows steps = queued steps.0

    -- ---- all phases

    phase_moves : (p : Phase S W) → one.phase ≡ p → PhaseFits setup.seats p → one.seat < 8 → RestsMove form world offers callers p one own → StepsIn form world after offers offers' p one own own' (length older) seen → RecordMoves t
    phase_moves phase.Idle is fits small rests steps = same steps.1
    phase_moves phase.Begin is fits small rests steps = put TICKS steps.1.0 steps.1.1 (λ e. absurd (omega (arith, e)))
    phase_moves phase.Look is fits small rests steps = same steps.1
    phase_moves (phase.Generate s Search) is fits small rests steps = leaves_by _ is (client _ is refl)
    phase_moves (phase.Generate s LookForBlock) is fits small rests steps = same steps.1
    phase_moves (phase.Generate s Claim) is fits small rests steps = put CLAIMS steps.1.0 steps.1.1 (λ e. absurd (omega (arith, e)))
    phase_moves (phase.Apply run stores (Fill made)) is fits small rests steps =
        leaves_by (phase.Apply run stores (Fill made)) is (apply_leaves form one words setup.seats run stores (Fill made) fits (client (phase.Apply run stores (Fill made)) is))
    phase_moves (phase.Apply run stores Execute) is fits small rests steps = leaves_by _ is (client _ is refl)
    phase_moves (phase.Wrap w) is fits small rests steps = leaves_by _ is (client _ is refl)
    phase_moves (phase.Announce announcing.Value) is fits small rests steps = put (value_place one.seat) _ steps.1 (λ e. absurd (omega (arith, e, few)))
    phase_moves (phase.Announce announcing.Op) is fits small rests steps = put (op_place one.seat) _ steps.1 (λ e. absurd (omega (arith, e, small)))
    phase_moves (phase.Announce announcing.Record) is fits small rests steps =
        elim (cases_eq t one.seat) [
          | inl here ↦ announced is here steps.1 steps.0
          | inr other ↦ put (record_place one.seat) _ steps.1 (λ e. other (omega (arith, e)))
        ]
    phase_moves (phase.Enter owner) is fits small rests steps = queued steps.1
    phase_moves phase.Drive is fits small rests steps = same steps.1
    phase_moves (phase.Help drives help) is fits small rests steps = helping drives help help.at is refl rests.helps rests.knows steps
    phase_moves phase.Collect is fits small rests steps = same steps.1
    phase_moves (phase.Value reference) is fits small rests steps = same steps.1
    phase_moves (phase.End answer) is fits small rests steps = put TICKS steps.1.0 steps.1.1 (λ e. absurd (omega (arith, e)))

    fits_from : (begins : Option Op) → PhaseFits setup.seats (begun begins mech).phase
    fits_from None = ((runs_queued form setup older are.0 (keeps_queue form setup older are.0 kept)).seats move.seat mech at).fits
    fits_from (Some op) = tt

    pub record_moves : RecordMoves t
    record_moves =
        let rests = rests_move form laws setup older move mech are at kept in
        phase_moves one.phase refl (fits_from move.begins) rests.few rests (moves_step form setup older move mech at (is_inside form laws setup older move mech are at kept))
