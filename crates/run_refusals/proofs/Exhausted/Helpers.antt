-- A helper that is about to tell a record that no block is left has found none, for an operation that may be told so.
use Rattle.std.proofs.Common.{◌≡◌, ◌≢◌, ◌∙◌, refl, sym, subst, ap, ℕ, ◌+◌, ◌≤◌, ◌==◌, nat_lt, if◌then◌else◌, ◌⊎◌, inl, inr, Bool, true, false, IsTrue, List, ◌∷◌, length, slice_get, slice_index, Option, Some, None, arith}
use Rattle.std.proofs.lemmas.Bool.{cases_eq, cases_lt, lt-ltb}
use Rattle.lin_report.specs.declared.calls.Op.{Op}
use Rattle.lin_report.specs.declared.calls.Outcome.TheVariants.{Plain}
use Rattle.lin_report.specs.declared.calls.Reply.TheVariants.{Exhausted}
use Rattle.lin_report.specs.Commands.{may_exhaust}
use Rattle.step_memory.specs.Step.{seen_of}
use Rattle.step_memory.proofs.Words.{add_tells, load_tells}
use Rattle.word_fields.specs.declared.records.RecordPhase as marks
use Rattle.word_fields.specs.declared.records.RecordPhase.TheVariants as record_phases
use Rattle.word_fields.specs.Records.{record_number, record_phase}
use Rattle.node_arena.specs.declared.places.TheConstants.{CLAIMS}
use Rattle.help_queue_laws.specs.Runs.{record_in}
use Rattle.normal_traits.specs.declared.form.Found.{Found}
use Rattle.normal_traits.specs.declared.form.Found.TheVariants as found
use Rattle.normal_traits.specs.World.{RightSince}
use Rattle.normal_traits.specs.NormalForm.{NormalForm}
use Rattle.normal_traits.specs.Laws.{FoundWell}
use Rattle.fast_slow_engine.specs.declared.phases.Phase.{Phase}
use Rattle.fast_slow_engine.specs.declared.phases.Phase.TheVariants as phase
use Rattle.fast_slow_engine.specs.declared.phases.Generating.TheVariants.{Search, LookForBlock, Claim}
use Rattle.fast_slow_engine.specs.declared.help.Helping.TheVariants.{Known}
use Rattle.fast_slow_engine.specs.declared.help.Work.{Work}
use Rattle.fast_slow_engine.specs.declared.help.Work.TheVariants as work
use Rattle.fast_slow_engine.specs.declared.help.WorkTurn.{WorkTurn}
use Rattle.fast_slow_engine.specs.declared.help.WorkTurn.TheVariants.{Going, Again, Over}
use Rattle.fast_slow_engine.specs.declared.setup.Setup.{Setup}
use Rattle.fast_slow_engine.specs.Hands.{holds_none}
use Rattle.fast_slow_engine.specs.HelpTable.{CanWork, filling, first_work, found_work, is_over, work_fed, work_hand, work_turn, worked}
use Rattle.fast_slow_engine.specs.HelpWords.{told_word}
use Rattle.fast_slow_engine.specs.Mechs.{Mech}
use Rattle.fast_slow_engine.specs.PhaseTable.{request_in}
use Rattle.fast_slow_engine.specs.Runs.{Move, RunState, begun, run_of}
use Rattle.fast_slow_engine.proofs.SameCalls.{same_fed}
use Rattle.offered_blocks.specs.Blocks.{Offer}
use Rattle.helper_knowledge.specs.CallLaws.{WorkBelow}
use Rattle.helper_knowledge.specs.Callers.{Caller, called, caller_of}
use Rattle.helper_knowledge.specs.Carried.{Carried}
use Rattle.helper_knowledge.specs.HelperStep.{HandIsSpare, RestsOn, Steps}
use Rattle.helper_knowledge.specs.Knowing.{KnowsSearch}
use Rattle.helper_knowledge.specs.WorkKnown.{KnowsWork}
use Rattle.helper_knowledge.proofs.LawsOfHelpers.{numbers_below, work_goes_on}
use Rattle.run_laws.proofs.BlocksClaimed.{claims_rise}
use Rattle.run_laws.proofs.Steps.{beside_set, move_steps, some_same}
use Rattle.run_invariant.specs.RunGhosts.{ghost_of}
use Rattle.run_invariant.specs.Moves.{WorkSteps}
use Rattle.run_invariant.specs.Kept.{caller_at, callers_in}
use Rattle.run_invariant.proofs.Bounds.InKept.{used_small}
use Rattle.run_invariant.proofs.InRuns.MovesInRuns.{Moved, after, claims, mech, mover, new, new_seated, of_seat, offers, own, queued, seated, seen, world}
use Rattle.run_invariant.proofs.Tells.Values.{AreReplied}
use Rattle.run_invariant.proofs.Tells.Replies.{right_not}
use Rattle.run_refusals.specs.NoneLeft.{LeftFor, LeftHelp, LeftWork, NoneLeft}
use Rattle.run_refusals.proofs.Exhausted.Outcomes.{advance_not, told_tells, untold_word}

pub no_less : (m n : ℕ) → nat_lt m n ≡ false → n ≤ m
no_less m n off = elim (cases_lt m n) [ inl less ↦ (let on : nat_lt m n ≡ true = lt-ltb m n less in absurd cc) | inr more ↦ more ]

module _ {S W : Type 0} (form : NormalForm S W) {setup : Setup} {older : List Move} {move : Move} (m : Moved form setup older move) where
  abbrev state : RunState S W
  state = run_of form setup older

  abbrev later : RunState S W
  later = run_of form setup (move ∷ older)

  abbrev pub counter : ℕ
  counter = slice_index (run_of form setup older).words CLAIMS

  -- ---- what was found stays so

  pub left_still : (op : Op) → NoneLeft setup.cap (slice_index (run_of form setup older).words CLAIMS) op → NoneLeft setup.cap (slice_index (run_of form setup (move ∷ older)).words CLAIMS) op
  left_still op left = (let more = claims_rise form setup older move m.are (claims form m) in record { may = left.may; none_left = (let least = left.none_left in omega (arith, least, more)) })

  mover_left : (begins : Option Op) (one : Mech S W) (seat number : ℕ) (op : Op) → (begun begins one).number ≡ number → (begun begins one).op ≡ op → number ≤ one.number
      → slice_get (run_of form setup older).mechs seat ≡ Some one → LeftFor setup (run_of form setup older) seat number → NoneLeft setup.cap (slice_index (run_of form setup older).words CLAIMS) op
  mover_left None one seat number op is operates low at left = subst (NoneLeft setup.cap (slice_index (run_of form setup older).words CLAIMS)) operates (left one at is)
  mover_left (Some other) one seat number op is operates low at left = absurd (omega (arith, is, low))

  -- for the call of a seat, whose record is of no earlier one
  pub left_later : (seat number : ℕ) → number ≤ record_number (record_in (run_of form setup older).words seat) → LeftFor setup (run_of form setup older) seat number → LeftFor setup (run_of form setup (move ∷ older)) seat number
  left_later seat number below left owner at is =
      left_still owner.op (elim (cases_eq seat move.seat) [
        | inl here ↦
            let at' : slice_get (run_of form setup older).mechs seat ≡ Some (mech form m) = ap (λ k. slice_get (run_of form setup older).mechs k) here ∙ seated form m in
            let one : new form m ≡ owner = some_same (new form m) owner (sym (new_seated form m) ∙ ap (λ k. slice_get (run_of form setup (move ∷ older)).mechs k) (sym here) ∙ at) in
            let same = same_fed form (mover form m) (seen form m) in
            let low = (numbers_below form m.laws setup older m.are.0 (queued form m) seat (mech form m) at').0 in
            mover_left move.begins (mech form m) seat number owner.op (sym same.number ∙ ap (λ (x : Mech S W). x.number) one ∙ is) (sym same.op ∙ ap (λ (x : Mech S W). x.op) one) (omega (arith, below, low)) at' left
        | inr apart ↦
            left owner (sym (ap (λ (s : RunState S W). slice_get s.mechs seat) (move_steps form (run_of form setup older) move (mech form m) (seated form m)) ∙ beside_set (run_of form setup older).mechs move.seat seat (new form m) apart) ∙ at) is
      ])

  -- ---- a helper's own step

  module _ (replied : AreReplied form.object (after form m).changes) (drives : Bool) (head seats word : ℕ) where
    abbrev caller : Caller
    caller = callers_in (run_of form setup older) (ghost_of form setup older) head

    abbrev Left : Work S W → Type 0
    Left does = LeftWork setup (run_of form setup older) does head word

    worked_left : (turn : WorkTurn) (next : Work S W) → Left next → LeftHelp setup (run_of form setup older) (worked form turn word next) head
    worked_left Going next left = left
    worked_left Again next left = tt
    worked_left Over next left = left

    either_left : (b : Bool) (x y : Work S W) → Left x → (b ≡ false → Left y) → Left (if b then x else y)
    either_left true x y h k = h
    either_left false x y h k = k refl

    first_left : (p : marks.RecordPhase) → Left (first_work form p word)
    first_left record_phases.Idle = tt
    first_left record_phases.Generate = tt
    first_left record_phases.Executing = tt
    first_left record_phases.Wrapping = tt
    first_left record_phases.Completed = tt

    -- by what a search found: its answer is another one
    found_left : (what : Found) (op : Op) (s : S) (since : ℕ) (hand : Option ℕ) → FoundWell form (after form m) op since s what → Left (found_work form what op s head word hand)
    found_left found.Going op s since hand well = tt
    found_left found.Ready op s since hand well = either_left (holds_none hand) (work.Generate op s LookForBlock) (filling form op s head word hand) tt (λ off. tt)
    found_left (found.Answer outcome) op s since hand well = λ tells.
        absurd (right_not form.object form.tellable (after form m) op since Exhausted (subst (RightSince form.object (after form m) op since) (told_tells word outcome tells) well.0) refl)
    found_left found.Contended op s since hand well = tt

    -- a search that finds no block
    none_found : (op : Op) (s : S) (since : ℕ) → KnowsSearch form (world form m) caller word op s since → form.is_ready s → setup.cap ≤ counter → LeftFor setup (run_of form setup older) head (record_number word)
    none_found op s since knows ready full owner at is =
        let same : caller ≡ caller_of (called owner) ((ghost_of form setup older).seats head).begun = ap (λ (o : Option (Mech S W)). caller_at o ((ghost_of form setup older).seats head).begun) at in
        let operates : op ≡ owner.op = knows.op_is (ap (λ (c : Caller). c.number) same ∙ is) ∙ ap (λ (c : Caller). c.op) same in
        record {
          may = subst (λ (o : Op). IsTrue (may_exhaust o)) operates (m.laws.of_world.lists (world form m) s op since knows.command knows.knows ready).1;
          none_left = full;
        }

    full_where : (b : Bool) (before : ℕ) → nat_lt before (mover form m).setup.cap ≡ false → before ≡ counter → setup.cap ≤ counter
    full_where b before off saw = (let past = no_less before (mover form m).setup.cap off in let cap = ap (λ (s : Setup). s.cap) (of_seat form m).setup in omega (arith, past, saw, cap))

    -- what the step comes to where the record was not in Generate
    left_of : (hand : Option ℕ) (own' : Carried S) (next : Work S W) → KnowsWork form (after form m) (offers form m) caller head word hand own' next → record_phase word ≢ record_phases.Generate → Left next
    left_of hand own' (work.Advance to) knows other = λ tells. absurd (advance_not form (after form m) (offers form m) caller head word hand own'.filled to replied knows other tells)
    left_of hand own' work.Head knows other = tt
    left_of hand own' work.Op knows other = tt
    left_of hand own' (work.Value op) knows other = tt
    left_of hand own' (work.Generate op s at) knows other = tt
    left_of hand own' (work.Fill stores made) knows other = tt
    left_of hand own' (work.Read read) knows other = tt
    left_of hand own' (work.Execute run) knows other = tt
    left_of hand own' (work.Wrap wrap) knows other = tt

    goes_left : (does : Work S W) (own' : Carried S) → RestsOn form (world form m) (offers form m) head caller → CanWork form does
        → Steps form (world form m) (after form m) (offers form m) head word (mover form m).hand (own form m).carried own' (length older) (mover form m).setup.cap (seen form m) does
        → KnowsWork form (world form m) (offers form m) caller head word (mover form m).hand (own form m).carried does → record_phase word ≢ record_phases.Generate
        → HandIsSpare (world form m) (offers form m) (mover form m).hand → is_over form (work_turn form does head word (seen form m)) ≡ false
        → LeftHelp setup (run_of form setup older) (worked form (work_turn form does head word (seen form m)) word (work_fed form does head word (mover form m).hand (mover form m).setup.cap (seen form m))) head
    goes_left does own' rests can steps knows other spare on = by_turn (work_turn form does head word (seen form m)) refl on
      where
        by_turn : (turn : WorkTurn) → work_turn form does head word (seen form m) ≡ turn → is_over form turn ≡ false
            → LeftHelp setup (run_of form setup older) (worked form turn word (work_fed form does head word (mover form m).hand (mover form m).setup.cap (seen form m))) head
        by_turn Going going on' =
            left_of (work_hand does (mover form m).hand (mover form m).setup.cap (seen form m)) own' (work_fed form does head word (mover form m).hand (mover form m).setup.cap (seen form m))
            (work_goes_on form m.laws (world form m) (after form m) (offers form m) caller head word (mover form m).hand (own form m).carried own' (length older) (mover form m).setup.cap (seen form m) does rests spare
            (used_small form setup (move ∷ older) m.are m.later) can steps going knows) other
        by_turn Again going on' = tt
        by_turn Over going on' = absurd cc

    -- the phase in which the record was loaded that a list is read, executed or wrapped up for
    engaged_not : (p : marks.RecordPhase) → (p ≡ record_phases.Executing) ⊎ (p ≡ record_phases.Wrapping) → p ≢ record_phases.Generate
    engaged_not p (inl e) other = (let both = sym e ∙ other in absurd cc)
    engaged_not p (inr e) other = (let both = sym e ∙ other in absurd cc)

    saw_in : (does : Work S W) → (mover form m).phase ≡ phase.Help drives (record { head = head; seats = seats; at = Known word does })
        → (seen form m).before ≡ (seen_of (request_in form (phase.Help drives (record { head = head; seats = seats; at = Known word does })) (mover form m)) (run_of form setup older).words).before
    saw_in does is = ap (λ (p : Phase S W). (seen_of (request_in form p (mover form m)) (run_of form setup older).words).before) is

    -- by its work
    pub work_left : (does : Work S W) (own' : Carried S) (offers' : ℕ → Option (Offer S)) → (mover form m).phase ≡ phase.Help drives (record { head = head; seats = seats; at = Known word does }) → RestsOn form (world form m) (offers form m) head caller
        → CanWork form does → WorkSteps form (world form m) (after form m) (offers form m) offers' does head word (mover form m) (own form m).carried own' (length older) (seen form m)
        → KnowsWork form (world form m) (offers form m) caller head word (mover form m).hand (own form m).carried does → HandIsSpare (world form m) (offers form m) (mover form m).hand
        → is_over form (work_turn form does head word (seen form m)) ≡ false
        → LeftHelp setup (run_of form setup older) (worked form (work_turn form does head word (seen form m)) word (work_fed form does head word (mover form m).hand (mover form m).setup.cap (seen form m))) head
    work_left work.Head own' offers' is rests can steps knows spare on = worked_left (work_turn form work.Head head word (seen form m)) _ (first_left (record_phase word))
    work_left work.Op own' offers' is rests can steps knows spare on = worked_left (work_turn form work.Op head word (seen form m)) _ tt
    work_left (work.Value op) own' offers' is rests can steps knows spare on = worked_left (work_turn form (work.Value op) head word (seen form m)) _ tt
    work_left (work.Generate op s Search) own' offers' is rests can steps knows spare on =
        let known' : KnowsSearch form (world form m) caller word op s (own form m).carried.since = knows.1 in
        let fed = m.laws.search_fed (world form m) (after form m) (seen form m) s op (own form m).carried.since known'.command m.kept.holds.shape knows.2 known'.knows steps.1.0 in
        worked_left (work_turn form (work.Generate op s Search) head word (seen form m)) _
        (found_left (form.found_of s (seen form m)) op (form.feed_of s (seen form m)) (own form m).carried.since (mover form m).hand fed.1)
    work_left (work.Generate op s LookForBlock) own' offers' is rests can steps knows spare on =
        either_left (nat_lt (seen form m).before (mover form m).setup.cap) (work.Generate op s Claim) (work.Advance (told_word word (Plain Exhausted))) tt
        (λ off tells. none_found op s (own form m).carried.since knows.1 knows.2 (full_where true (seen form m).before off (saw_in (work.Generate op s LookForBlock) is ∙ load_tells 2 (run_of form setup older).words)))
    work_left (work.Generate op s Claim) own' offers' is rests can steps knows spare on =
        either_left (nat_lt (seen form m).before (mover form m).setup.cap) (filling form op s head word (Some ((seen form m).before + 1))) (work.Advance (told_word word (Plain Exhausted))) tt
        (λ off tells. none_found op s (own form m).carried.since knows.1 knows.2 (full_where true (seen form m).before off (saw_in (work.Generate op s Claim) is ∙ add_tells 2 1 (run_of form setup older).words)))
    work_left (work.Fill stores made) own' offers' is rests can steps knows spare on =
        either_left (made + 1 == length stores.items) (work.Advance _) (work.Fill stores (made + 1)) (λ tells. untold_word record_phases.Executing _ _ _ refl tells) (λ off. tt)
    work_left (work.Advance to) own' offers' is rests can steps knows spare on = tt
    work_left (work.Read read) own' offers' is rests can steps knows spare on = goes_left (work.Read read) own' rests can steps.1 knows (engaged_not (record_phase word) knows.0) spare on
    work_left (work.Execute run) own' offers' is rests can steps knows spare on = goes_left (work.Execute run) own' rests can steps.1 knows (engaged_not (record_phase word) (inl knows.0)) spare on
    work_left (work.Wrap wrap) own' offers' is rests can steps knows spare on = goes_left (work.Wrap wrap) own' rests can steps.1 knows (engaged_not (record_phase word) (inr knows.0)) spare on

  -- ---- where the helper stands after it

  module _ (head word : ℕ) where
    pub next_later : (next : Work S W) → record_number word ≤ record_number (record_in (run_of form setup older).words head) → LeftWork setup (run_of form setup older) next head word → LeftWork setup (run_of form setup (move ∷ older)) next head word
    next_later (work.Advance to) below left = λ tells. left_later head (record_number word) below (left tells)
    next_later work.Head below left = tt
    next_later work.Op below left = tt
    next_later (work.Value op) below left = tt
    next_later (work.Generate op s at) below left = tt
    next_later (work.Fill stores made) below left = tt
    next_later (work.Read read) below left = tt
    next_later (work.Execute run) below left = tt
    next_later (work.Wrap wrap) below left = tt

    turn_later : (turn : WorkTurn) (next : Work S W) → record_number word ≤ record_number (record_in (run_of form setup older).words head) → LeftHelp setup (run_of form setup older) (worked form turn word next) head
        → LeftHelp setup (run_of form setup (move ∷ older)) (worked form turn word next) head
    turn_later Going next below left = next_later next below left
    turn_later Again next below left = tt
    turn_later Over next below left = next_later next below left

    first_later : (turn : WorkTurn) (p : marks.RecordPhase) → LeftHelp setup (run_of form setup (move ∷ older)) (worked form turn word (first_work form p word)) head
    first_later Again p = tt
    first_later Going record_phases.Idle = tt
    first_later Going record_phases.Generate = tt
    first_later Going record_phases.Executing = tt
    first_later Going record_phases.Wrapping = tt
    first_later Going record_phases.Completed = tt
    first_later Over record_phases.Idle = tt
    first_later Over record_phases.Generate = tt
    first_later Over record_phases.Executing = tt
    first_later Over record_phases.Wrapping = tt
    first_later Over record_phases.Completed = tt

    abbrev After : Work S W → Type 0
    After does = LeftHelp setup (run_of form setup (move ∷ older)) (worked form (work_turn form does head word (seen form m)) word (work_fed form does head word (mover form m).hand (mover form m).setup.cap (seen form m))) head

    pub fed_left : (does : Work S W) → WorkBelow word (record_in (run_of form setup older).words head) does
        → LeftHelp setup (run_of form setup older) (worked form (work_turn form does head word (seen form m)) word (work_fed form does head word (mover form m).hand (mover form m).setup.cap (seen form m))) head → After does
    fed_left work.Head below left = first_later (work_turn form work.Head head word (seen form m)) (record_phase word)
    fed_left work.Op below left = turn_later (work_turn form work.Op head word (seen form m)) _ below left
    fed_left (work.Value op) below left = turn_later (work_turn form (work.Value op) head word (seen form m)) _ below left
    fed_left (work.Generate op s at) below left = turn_later (work_turn form (work.Generate op s at) head word (seen form m)) _ below left
    fed_left (work.Fill stores made) below left = turn_later (work_turn form (work.Fill stores made) head word (seen form m)) _ below left
    fed_left (work.Advance to) below left = tt
    fed_left (work.Read read) below left = turn_later (work_turn form (work.Read read) head word (seen form m)) _ below left
    fed_left (work.Execute run) below left = turn_later (work_turn form (work.Execute run) head word (seen form m)) _ below left
    fed_left (work.Wrap wrap) below left = turn_later (work_turn form (work.Wrap wrap) head word (seen form m)) _ below left
