-- In every run, who is told that no block is left is told so where none is.
use Rattle.std.proofs.Common.{◌≡◌, ◌∙◌, refl, sym, subst, ap, ℕ, ◌+◌, nat_lt, if◌then◌else◌, Bool, true, false, List, [], ◌∷◌, length, slice_get, slice_index, Option, Some, None, arith}
use Rattle.std.proofs.lemmas.Option.{slice_get_within}
use Rattle.arrayvec.specs.ArrayVec.{ArrayVec}
use Rattle.lin_report.specs.declared.calls.Op.{Op}
use Rattle.lin_report.specs.declared.calls.Reply.TheVariants.{Exhausted}
use Rattle.word_fields.specs.Records.{record_number, record_phase}
use Rattle.op_record.specs.Outcomes.{is_completed}
use Rattle.help_queue.specs.Gathers.{is_open}
use Rattle.help_queue_laws.specs.Runs.{record_in}
use Rattle.help_queue_laws.proofs.Runs.EveryRunHolds.{zero_phase}
use Rattle.normal_traits.specs.declared.form.Found.{Found}
use Rattle.normal_traits.specs.declared.form.Found.TheVariants as found
use Rattle.normal_traits.specs.declared.form.Wrapped.{Wrapped}
use Rattle.normal_traits.specs.declared.form.Wrapped.TheVariants as wrapped
use Rattle.normal_traits.specs.NormalForm.{NormalForm}
use Rattle.normal_traits.specs.Laws.{Laws}
use Rattle.cas_executor.specs.declared.fast_run.Execution.{Execution}
use Rattle.cas_executor.specs.declared.fast_run.Execution.TheVariants.{Running, Stopped}
use Rattle.cas_executor.specs.FastRuns.{FastWalk, fast_execution, fast_fed}
use Rattle.fast_slow_engine.specs.declared.phases.Phase.{Phase}
use Rattle.fast_slow_engine.specs.declared.phases.Phase.TheVariants as phase
use Rattle.fast_slow_engine.specs.declared.phases.Generating.{Generating}
use Rattle.fast_slow_engine.specs.declared.phases.Generating.TheVariants.{Search, LookForBlock, Claim}
use Rattle.fast_slow_engine.specs.declared.phases.Applying.TheVariants.{Fill, Execute}
use Rattle.fast_slow_engine.specs.declared.help.Helping.{Helping}
use Rattle.fast_slow_engine.specs.declared.help.Helping.TheVariants.{Record, Known, Remove}
use Rattle.fast_slow_engine.specs.declared.help.Work.TheVariants as work
use Rattle.fast_slow_engine.specs.declared.setup.Setup.{Setup}
use Rattle.fast_slow_engine.specs.HelpTable.{helping_ends, helping_fed}
use Rattle.fast_slow_engine.specs.Mechs.{Mech}
use Rattle.fast_slow_engine.specs.PhaseTable.{executed, in_phase, offered, searched, spent, stepped, with_hand, wrapped_up}
use Rattle.fast_slow_engine.specs.Runs.{Move, RunState, begun, run_of}
use Rattle.fast_slow_engine.proofs.SameCalls.{same_fed}
use Rattle.helper_knowledge.specs.CallLaws.{LoadedBelow}
use Rattle.helper_knowledge.specs.HelperStep.{HandIsSpare}
use Rattle.helper_knowledge.proofs.LawsOfHelpers.{numbers_below}
use Rattle.run_laws.proofs.MachinesKept.{new_mech, seats_stay}
use Rattle.run_laws.proofs.Steps.{move_steps}
use Rattle.run_laws.proofs.Summaries.{each_moved}
use Rattle.run_queue.specs.Fits.{PhaseFits}
use Rattle.run_queue.proofs.Moves.RecordExchanges.{goes_number}
use Rattle.run_queue.proofs.Runs.Openings.{opens_zero}
use Rattle.run_queue.proofs.Runs.RunMoves.{runs_queued}
use Rattle.run_invariant.specs.Ghosts.{SeatGhost}
use Rattle.run_invariant.specs.InHand.{IsUnspent}
use Rattle.run_invariant.specs.RunGhosts.{ghost_of}
use Rattle.run_invariant.specs.Known.{KnowsHelp, KnowsIn}
use Rattle.run_invariant.specs.Moves.{HelpSteps, RestsHelp, RestsIn, StepsIn}
use Rattle.run_invariant.specs.Kept.{RunsAreKept, callers_in}
use Rattle.run_invariant.proofs.Holding.PlainSteps.{HoldsPlain, either_plain, failed_plain, help_plain, leads_plain, told_plain}
use Rattle.run_invariant.proofs.InRuns.Rests.{rests_move}
use Rattle.run_invariant.proofs.InRuns.MovesInRuns.{Moved, after, does, known, mech, mover, new, offers, own, queued, seated, seen, world, moved}
use Rattle.run_invariant.proofs.Tells.Values.{AreReplied}
use Rattle.run_invariant.proofs.Tells.Replies.{replies_right}
use Rattle.run_refusals.specs.NoneLeft.{EachLeft, LeftFor, LeftHelp, LeftHelping, LeftWell, NoneLeft, NoneLeftHolds, TellsNone}
use Rattle.run_refusals.proofs.Exhausted.Ends.{ends_left, is_begin, same_begun}
use Rattle.run_refusals.proofs.Exhausted.Helpers.{fed_left, left_later, left_still, next_later, work_left}
use Rattle.run_refusals.proofs.Exhausted.Outcomes.{untold}
use Rattle.run_refusals.proofs.Records.Goes.{Goes, advanced, announced, record_goes, stays}

zero_untold : is_completed (record_phase 0) ≡ false
zero_untold = ap is_completed zero_phase

module _ {S W : Type 0} (form : NormalForm S W) {setup : Setup} {older : List Move} {move : Move} (m : Moved form setup older move) (replied : AreReplied form.object (after form m).changes) (each : EachLeft form setup older) where
  -- ---- a helper's own step

  abbrev Later : Phase S W → Type 0
  Later at = LeftHelping setup (run_of form setup (move ∷ older)) at

  plain : HoldsPlain Later
  plain = record { idle = tt; look = tt; searches = λ s. tt; announces = λ at. tt; enters = λ owner. tt; drives = tt; helps = λ drives head seats. tt; collects = tt; values = λ reference. tt; ends = λ reply. tt }

  generated_later : (s : S) (at : Generating) (what : Found) → Later (searched form what s (mover form m)).phase
  generated_later s at found.Going = tt
  generated_later s at found.Ready = either_plain Later plain _ (in_phase (phase.Generate s LookForBlock) (mover form m)) (offered form s (mover form m)) tt tt
  generated_later s at (found.Answer outcome) = told_plain Later plain outcome (mover form m)
  generated_later s at found.Contended = failed_plain Later plain form (mover form m)

  wrapped_later : (what : Wrapped) (w : W) (one : Mech S W) → Later (wrapped_up form what w one).phase
  wrapped_later wrapped.Going w one = tt
  wrapped_later (wrapped.Done outcome) w one = told_plain Later plain outcome one
  wrapped_later wrapped.Restart w one = failed_plain Later plain form one

  executed_later : (ended : Execution) (run next : FastWalk) (stores : ArrayVec (ℕ × ℕ)) → Later (executed form ended next stores (mover form m)).phase
  executed_later Running run next stores = tt
  executed_later (Stopped stop) run next stores = wrapped_later (form.wrap_begun_of (mover form m).op next.entries stop) (form.begin_wrap_of (mover form m).op next.entries stop) (spent form stop (mover form m))

  met_later : (b : Bool) (head : ℕ) (x y : Helping S W) → LeftHelp setup (run_of form setup (move ∷ older)) x head → LeftHelp setup (run_of form setup (move ∷ older)) y head → LeftHelp setup (run_of form setup (move ∷ older)) (if b then x else y) head
  met_later true head x y h k = h
  met_later false head x y h k = k

  help_later : (drives : Bool) (head seats : ℕ) (at : Helping S W) (offers' : ℕ → Option _) (own' : SeatGhost S) → (mover form m).phase ≡ phase.Help drives (record { head = head; seats = seats; at = at })
      → KnowsHelp form (world form m) (offers form m) (callers_in (run_of form setup older) (ghost_of form setup older) head) head (mover form m).hand (own form m).carried at
      → RestsHelp form (world form m) (offers form m) (callers_in (run_of form setup older) (ghost_of form setup older)) at head (mover form m).hand (own form m).carried.filled
      → HelpSteps form (world form m) (after form m) (offers form m) offers' at head (mover form m) (own form m).carried own'.carried (length older) (seen form m)
      → LoadedBelow (run_of form setup older) (phase.Help drives (record { head = head; seats = seats; at = at })) → helping_ends form at head (seen form m) ≡ false
      → LeftHelp setup (run_of form setup (move ∷ older)) (helping_fed form at head seats (mover form m).hand (mover form m).setup.cap (seen form m)) head
  help_later drives head seats (Record loaded) offers' own' is knows rests steps below goes = met_later (is_open (record_phase (seen form m).before)) head (Known (seen form m).before work.Head) (Remove _) tt tt
  help_later drives head seats (Known word does') offers' own' is knows rests steps below goes =
      let spare : HandIsSpare (world form m) (offers form m) (mover form m).hand = λ block has. (known form m).spare block has (subst (λ (p : Phase S W). IsUnspent form (mover form m).op p) (sym is) tt) in
      fed_left form m head word does' below (work_left form m replied drives head seats word does' own'.carried offers' is rests.0 knows.0 steps knows.1 spare goes)
  help_later drives head seats (Remove removal) offers' own' is knows rests steps below goes = tt

  helps_at : (at : Phase S W) (offers' : ℕ → Option _) (own' : SeatGhost S) → (mover form m).phase ≡ at
      → KnowsIn form at (mover form m) (own form m) (world form m) (offers form m) (callers_in (run_of form setup older) (ghost_of form setup older))
      → RestsIn form (world form m) (offers form m) (callers_in (run_of form setup older) (ghost_of form setup older)) at (mover form m).hand (own form m).carried.filled
      → StepsIn form (world form m) (after form m) (offers form m) offers' at (mover form m) (own form m) own' (length older) (seen form m) → LoadedBelow (run_of form setup older) at → Later (stepped form at (seen form m) (mover form m)).phase
  helps_at phase.Idle offers' own' is knows rests steps below = subst Later (sym is) tt
  helps_at phase.Begin offers' own' is knows rests steps below = tt
  helps_at phase.Look offers' own' is knows rests steps below = leads_plain Later plain form phase.Look (seen form m) (mover form m) tt
  helps_at (phase.Generate s Search) offers' own' is knows rests steps below = generated_later (form.feed_of s (seen form m)) Search (form.found_of s (seen form m))
  helps_at (phase.Generate s LookForBlock) offers' own' is knows rests steps below =
      either_plain Later plain (nat_lt (seen form m).before (mover form m).setup.cap) (in_phase (phase.Generate s Claim) (mover form m)) (in_phase (phase.End Exhausted) (mover form m)) tt tt
  helps_at (phase.Generate s Claim) offers' own' is knows rests steps below =
      either_plain Later plain (nat_lt (seen form m).before (mover form m).setup.cap) (offered form s (with_hand (Some ((seen form m).before + 1)) (mover form m))) (in_phase (phase.End Exhausted) (mover form m)) tt tt
  helps_at (phase.Apply run stores (Fill made)) offers' own' is knows rests steps below = tt
  helps_at (phase.Apply run stores Execute) offers' own' is knows rests steps below = executed_later (fast_execution run (seen form m)) run (fast_fed run (seen form m)) stores
  helps_at (phase.Wrap w) offers' own' is knows rests steps below = wrapped_later (form.wrap_found_of w (seen form m)) (form.feed_wrap_of w (seen form m)) (mover form m)
  helps_at (phase.Announce stage) offers' own' is knows rests steps below = leads_plain Later plain form (phase.Announce stage) (seen form m) (mover form m) tt
  helps_at (phase.Enter owner) offers' own' is knows rests steps below = leads_plain Later plain form (phase.Enter owner) (seen form m) (mover form m) tt
  helps_at phase.Drive offers' own' is knows rests steps below = leads_plain Later plain form phase.Drive (seen form m) (mover form m) tt
  helps_at (phase.Help drives help) offers' own' is knows rests steps below =
      help_plain Later plain form drives help (seen form m) (mover form m) (λ goes. help_later drives help.head help.seats help.at offers' own' is knows rests steps below goes)
  helps_at phase.Collect offers' own' is knows rests steps below = leads_plain Later plain form phase.Collect (seen form m) (mover form m) tt
  helps_at (phase.Value reference) offers' own' is knows rests steps below = leads_plain Later plain form (phase.Value reference) (seen form m) (mover form m) tt
  helps_at (phase.End reply) offers' own' is knows rests steps below = leads_plain Later plain form (phase.End reply) (seen form m) (mover form m) tt

  begun_below : (begins : Option Op) (one : Mech S W) → LoadedBelow (run_of form setup older) one.phase → LoadedBelow (run_of form setup older) (begun begins one).phase
  begun_below None one below = below
  begun_below (Some op) one below = tt

  mover_below : LoadedBelow (run_of form setup older) (mover form m).phase
  mover_below = begun_below move.begins (mech form m) (numbers_below form m.laws setup older m.are.0 (queued form m) move.seat (mech form m) (seated form m)).1

  own_helps : Later (new form m).phase
  own_helps =
      helps_at (mover form m).phase (ghost_of form setup (move ∷ older)).offers ((ghost_of form setup (move ∷ older)).seats move.seat) refl (known form m).knows
      (rests_move form m.laws setup older move (mech form m) m.are (seated form m) m.kept).helps (does form m) mover_below

  -- ---- the record of a seat

  -- where it stays, or goes on as the mover was to exchange it
  record_left : (seat : ℕ) (before now : ℕ) → before ≡ record_in (run_of form setup older).words seat → Goes (mover form m).phase seat before now → TellsNone now → LeftFor setup (run_of form setup (move ∷ older)) seat (record_number now)
  record_left seat before now here (stays same) tells =
      let is : record_in (run_of form setup older).words seat ≡ now = sym here ∙ sym same in
      left_later form m seat (record_number now) (omega (arith, ap record_number is)) (λ owner at number. (each seat owner at).told (ap record_number is ∙ sym number) (subst TellsNone (sym is) tells))
  record_left seat before now here (announced generates) tells = untold now (ap is_completed generates) tells
  record_left seat before now here (advanced is) tells =
      let at : Phase S W = phase.Help is.drives (record { head = seat; seats = is.seats; at = Known is.word (work.Advance now) }) in
      let same = same_begun move.begins (mech form m) (ap is_begin is.advances) in
      let on : (mech form m).phase ≡ at = ap (λ (one : Mech S W). one.phase) (sym same) ∙ is.advances in
      let left = subst (λ (p : Phase S W). LeftHelping setup (run_of form setup older) p) on (each move.seat (mech form m) (seated form m)).helps in
      let below = subst (λ (p : Phase S W). LoadedBelow (run_of form setup older) p) is.advances mover_below in
      let fits = subst (λ (p : Phase S W). PhaseFits setup.seats p) on ((runs_queued form setup older m.are.0 (queued form m)).seats move.seat (mech form m) (seated form m)).fits in
      let number = goes_number is.word now fits.1 in
      subst (λ n. LeftFor setup (run_of form setup (move ∷ older)) seat n) (sym number) (left_later form m seat (record_number is.word) below (left tells))

  told_later : (seat : ℕ) (owner : Mech S W) → slice_get (run_of form setup (move ∷ older)).mechs seat ≡ Some owner → record_number (record_in (run_of form setup (move ∷ older)).words seat) ≡ owner.number
      → TellsNone (record_in (run_of form setup (move ∷ older)).words seat) → NoneLeft setup.cap (slice_index (run_of form setup (move ∷ older)).words 2) owner.op
  told_later seat owner at number tells =
      let inside = slice_get_within (run_of form setup (move ∷ older)).mechs seat owner at in
      let count = (seats_stay form setup (move ∷ older) m.are).count in
      let few = setup.few_seats in
      record_left seat (record_in (run_of form setup older).words seat) (record_in (run_of form setup (move ∷ older)).words seat) refl (record_goes form m seat (omega (arith, inside, count, few))) tells owner at (sym number)

  -- ---- all seats

  other_helps : (at : Phase S W) → LoadedBelow (run_of form setup older) at → LeftHelping setup (run_of form setup older) at → Later at
  other_helps (phase.Help drives help) below left = other_help help.head help.at below left
    where
      other_help : (head : ℕ) (at : Helping S W) → LoadedBelow (run_of form setup older) (phase.Help drives (record { head = head; seats = help.seats; at = at })) → LeftHelp setup (run_of form setup older) at head → LeftHelp setup (run_of form setup (move ∷ older)) at head
      other_help head (Record loaded) below' left' = tt
      other_help head (Remove removal) below' left' = tt
      other_help head (Known word work.Head) below' left' = tt
      other_help head (Known word work.Op) below' left' = tt
      other_help head (Known word (work.Value op)) below' left' = tt
      other_help head (Known word (work.Generate op s step)) below' left' = tt
      other_help head (Known word (work.Fill stores made)) below' left' = tt
      other_help head (Known word (work.Advance to)) below' left' = next_later form m head word (work.Advance to) below' left'
      other_help head (Known word (work.Read read)) below' left' = tt
      other_help head (Known word (work.Execute run)) below' left' = tt
      other_help head (Known word (work.Wrap wrap)) below' left' = tt
  other_helps phase.Idle below left = tt
  other_helps phase.Begin below left = tt
  other_helps phase.Look below left = tt
  other_helps (phase.Generate s step) below left = tt
  other_helps (phase.Apply run stores step) below left = tt
  other_helps (phase.Wrap wrap) below left = tt
  other_helps (phase.Announce stage) below left = tt
  other_helps (phase.Enter owner) below left = tt
  other_helps phase.Drive below left = tt
  other_helps phase.Collect below left = tt
  other_helps (phase.Value reference) below left = tt
  other_helps (phase.End reply) below left = tt

  pub left_more : EachLeft form setup (move ∷ older)
  left_more seat owner at = (each_moved (λ seat one. (slice_get (run_of form setup older).mechs seat ≡ Some one) × LeftWell setup (run_of form setup older) seat one)
      (λ seat one. slice_get (run_of form setup (move ∷ older)).mechs seat ≡ Some one → LeftWell setup (run_of form setup (move ∷ older)) seat one)
      (run_of form setup older).mechs (run_of form setup (move ∷ older)).mechs move.seat (mech form m) (new form m) (seated form m)
      (ap (λ (s : RunState S W). s.mechs) (move_steps form (run_of form setup older) move (mech form m) (seated form m))) (λ seat one here. (here, each seat one here))
      (λ seat one apart h there. record {
        ends = λ is. left_still form m one.op (h.1.ends is);
        told = told_later seat one there;
        helps = other_helps one.phase (numbers_below form m.laws setup older m.are.0 (queued form m) seat one h.0).1 h.1.helps;
      })
      (λ there. record {
        ends = λ is. left_still form m (new form m).op (subst (λ op. NoneLeft setup.cap (slice_index (run_of form setup older).words 2) op) (sym (same_fed form (mover form m) (seen form m)).op) (ends_left form m replied each is));
        told = told_later move.seat (new form m) there;
        helps = own_helps;
      })) seat owner at at

module _ {S W : Type 0} (form : NormalForm S W) (laws : Laws form) (kept : RunsAreKept form) where
  -- a run opens with machines that rest, and with records that tell nothing
  left_open : (setup : Setup) → EachLeft form setup []
  left_open setup seat one at =
      let is = new_mech form setup seat one at in
      let inside = slice_get_within (run_of form setup []).mechs seat one at in
      let count = (seats_stay form setup [] tt).count in
      let few = setup.few_seats in
      record {
        ends = λ e. absurd (let both = sym (ap (λ (x : Mech S W). x.phase) is) ∙ e in cc);
        told = λ number tells. untold 0 zero_untold (subst TellsNone (opens_zero form.opening form.opens setup.cap seat (omega (arith, inside, count, few))) tells);
        helps = subst (λ (p : Phase S W). LeftHelping setup (run_of form setup []) p) (sym (ap (λ (x : Mech S W). x.phase) is)) tt;
      }

  pub none_left_holds : NoneLeftHolds form
  none_left_holds setup [] are = left_open setup
  none_left_holds setup (move ∷ older) are = left_more form (moved form laws kept setup older move are) (replies_right form laws kept setup (move ∷ older) are) (none_left_holds setup older are.0)
