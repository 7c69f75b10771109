-- The calls that seats make, after a move: those of the other seats stay, and the seat that moved makes the call that it made
-- before, or one that no record has yet.
use Rattle.std.proofs.Common.{◌≡◌, ◌≢◌, ◌∙◌, refl, sym, subst, ap, ℕ, ◌≤◌, ◌⊎◌, Bool, true, inl, inr, List, ◌∷◌, length, slice_get, slice_set, Option, Some, None, arith}
use Rattle.std.proofs.lemmas.Bool.{cases_eq}
use Rattle.std.proofs.lemmas.Option.{slice_get_within}
use Rattle.lin_report.specs.declared.calls.Op.{Op}
use Rattle.step_memory.specs.declared.steps.Seen.{Seen}
use Rattle.word_fields.specs.Records.{record_number, record_of}
use Rattle.op_record.specs.Progress.{IsEarlier}
use Rattle.help_queue_laws.specs.Runs.{record_in}
use Rattle.help_queue_laws.proofs.Known.Knowledge.{HelpFacts, PhaseFacts}
use Rattle.help_queue_laws.proofs.Known.Scenes.{scene_of}
use Rattle.help_queue_laws.proofs.Known.SceneLaws.{record_is}
use Rattle.normal_traits.specs.NormalForm.{NormalForm}
use Rattle.normal_traits.specs.Laws.{Laws}
use Rattle.fast_slow_engine.specs.declared.phases.Phase.{Phase}
use Rattle.fast_slow_engine.specs.declared.phases.Phase.TheVariants as phase
use Rattle.fast_slow_engine.specs.declared.help.Help as helper
use Rattle.fast_slow_engine.specs.declared.help.Helping.{Helping}
use Rattle.fast_slow_engine.specs.declared.help.Helping.TheVariants.{Record, Known, Remove}
use Rattle.fast_slow_engine.specs.declared.help.Work.{Work}
use Rattle.fast_slow_engine.specs.declared.help.Work.TheVariants as work
use Rattle.fast_slow_engine.specs.declared.setup.Setup.{Setup}
use Rattle.fast_slow_engine.specs.Mechs.{Mech}
use Rattle.fast_slow_engine.specs.PhaseTable.{mech_fed}
use Rattle.fast_slow_engine.specs.Runs.{AreMoves, Move, RunState, begun, run_of}
use Rattle.fast_slow_engine.proofs.SameCalls.{same_fed}
use Rattle.helper_knowledge.specs.CallLaws.{HelpingBelow, LoadedBelow}
use Rattle.helper_knowledge.specs.Callers.{Caller, KeepsCall, called, caller_of}
use Rattle.helper_knowledge.proofs.LawsOfHelpers.{calls_follow}
use Rattle.helper_knowledge.proofs.Queue.CallsBelow.{numbers_below}
use Rattle.run_laws.proofs.MachinesKept.{begun_number}
use Rattle.run_laws.proofs.Steps.{at_set, beside_set, move_steps}
use Rattle.run_queue.specs.QueueGhosts.{queue_ghosts}
use Rattle.run_queue.specs.QueueViews.{helping_view, next_number, phase_view}
use Rattle.run_queue.proofs.Runs.RunMoves.{runs_queued}
use Rattle.run_knowledge.specs.Ghosts.{SeatGhost}
use Rattle.run_knowledge.specs.RunGhosts.{ghost_of, world_of}
use Rattle.run_knowledge.specs.SeatSteps.{begun_after}
use Rattle.run_knowledge.specs.Worlds.{world_stepped}
use Rattle.run_knowledge.specs.Moves.{is_unannounced}
use Rattle.run_knowledge.specs.Others.{FollowsHelp, FollowsIn}
use Rattle.run_knowledge.specs.Kept.{IsKept, caller_at, callers_in}
use Rattle.run_knowledge.proofs.Words.Grow.{others_stay}
use Rattle.run_knowledge.proofs.Words.Moved.{made_seat, seat_after, seen_by}
use Rattle.run_knowledge.proofs.Words.Seats.{machine_after}
use Rattle.run_knowledge.proofs.Bounds.InKept.{keeps_queue}
use Rattle.run_knowledge.proofs.InRuns.Helped.{head_few, head_seated}
use Rattle.run_knowledge.proofs.InRuns.Unannounced.{movers_before}

-- the begin tick is drawn in this phase, or how many changes there were at it stays
begins_or_stays : {S W : Type 0} (at : Phase S W) (count before : ℕ) → (at ≡ phase.Begin) ⊎ (begun_after at count before ≡ before)
begins_or_stays phase.Idle count before = inr refl
begins_or_stays phase.Begin count before = inl refl
begins_or_stays phase.Look count before = inr refl
begins_or_stays (phase.Generate s step) count before = inr refl
begins_or_stays (phase.Apply run stores step) count before = inr refl
begins_or_stays (phase.Wrap w) count before = inr refl
begins_or_stays (phase.Announce step) count before = inr refl
begins_or_stays (phase.Enter owner) count before = inr refl
begins_or_stays phase.Drive count before = inr refl
begins_or_stays (phase.Help drives help) count before = inr refl
begins_or_stays phase.Collect count before = inr refl
begins_or_stays (phase.Value reference) count before = inr refl
begins_or_stays (phase.End reply) count before = inr refl

earlier_below : (word now : ℕ) → IsEarlier (record_of word) (record_of now) → record_number word ≤ record_number now
earlier_below word now (inl less) = omega (arith, less)
earlier_below word now (inr same) = omega (arith, same.0)

module _ {S W : Type 0} (form : NormalForm S W) (laws : Laws form) (setup : Setup) (older : List Move) (move : Move) (mech : Mech S W) (are : AreMoves form setup (move ∷ older))
    (at : slice_get (run_of form setup older).mechs move.seat ≡ Some mech) (kept : IsKept form setup older) where
  abbrev new : Mech S W
  new = machine_after form setup older move mech

  abbrev callers : ℕ → Caller
  callers = callers_in (run_of form setup older) (ghost_of form setup older)

  abbrev callers' : ℕ → Caller
  callers' = callers_in (run_of form setup (move ∷ older)) (ghost_of form setup (move ∷ older))

  -- the machines after the move
  mechs_after : (run_of form setup (move ∷ older)).mechs ≡ slice_set (run_of form setup older).mechs move.seat new
  mechs_after = ap (λ (s : RunState S W). s.mechs) (move_steps form (run_of form setup older) move mech at)

  pub mover_found : slice_get (run_of form setup (move ∷ older)).mechs move.seat ≡ Some new
  mover_found =
      let mechs = (run_of form setup older).mechs in
      ap (λ (l : List (Mech S W)). slice_get l move.seat) mechs_after ∙ at_set mechs move.seat new (slice_get_within mechs move.seat mech at)

  pub other_found : (seat : ℕ) → seat ≢ move.seat → slice_get (run_of form setup (move ∷ older)).mechs seat ≡ slice_get (run_of form setup older).mechs seat
  other_found seat apart = ap (λ (l : List (Mech S W)). slice_get l seat) mechs_after ∙ beside_set (run_of form setup older).mechs move.seat seat new apart

  -- the call of the seat that moved, and those of the others
  pub mover_called : callers' move.seat ≡ caller_of (called new) (seat_after form setup older move mech).begun
  mover_called =
      ap (λ (o : Option (Mech S W)). caller_at o ((ghost_of form setup (move ∷ older)).seats move.seat).begun) mover_found
      ∙ ap (λ (g : SeatGhost S). caller_of (called new) g.begun) (made_seat form setup older move mech at)

  pub other_called : (seat : ℕ) → seat ≢ move.seat → callers' seat ≡ callers seat
  other_called seat apart =
      ap (λ (o : Option (Mech S W)). caller_at o ((ghost_of form setup (move ∷ older)).seats seat).begun) (other_found seat apart)
      ∙ ap (λ (g : SeatGhost S). caller_at (slice_get (run_of form setup older).mechs seat) g.begun) (others_stay form setup older move seat apart)

  -- ---- the call of the seat that moved

  abbrev old : Caller
  old = caller_of (called mech) ((ghost_of form setup older).seats move.seat).begun

  abbrev now : Caller
  now = caller_of (called new) (seat_after form setup older move mech).begun

  record_below : record_number (record_in (run_of form setup older).words move.seat) ≤ mech.number
  record_below = (numbers_below form setup older are.0 (keeps_queue form setup older are.0 kept) move.seat mech at).0

  -- where it draws its begin tick no record is of its call
  drawn_follows : (begun move.begins mech).phase ≡ phase.Begin → (number : ℕ) → number ≤ record_number (record_in (run_of form setup older).words move.seat) → KeepsCall old now number
  drawn_follows draws number below makes =
      let not : is_unannounced (begun move.begins mech).phase ≡ true = ap (λ (p : Phase S W). is_unannounced p) draws in
      let earlier = (movers_before form setup older move mech are (keeps_queue form setup older are.0 kept) at not).earlier in
      let stays = (same_fed form (begun move.begins mech) (seen_by form setup older move mech)).number in
      absurd (omega (arith, earlier, below, makes, stays))

  begun_follows : (begins : Option Op) (seen : Seen) (count began number : ℕ) → ((begun begins mech).phase ≡ phase.Begin) ⊎ (begun_after (begun begins mech).phase count began ≡ began) → number ≤ mech.number
      → ((begun begins mech).phase ≡ phase.Begin → KeepsCall (caller_of (called mech) began) (caller_of (called (mech_fed form (begun begins mech) seen)) (begun_after (begun begins mech).phase count began)) number)
      → KeepsCall (caller_of (called mech) began) (caller_of (called (mech_fed form (begun begins mech) seen)) (begun_after (begun begins mech).phase count began)) number
  begun_follows begins seen count began number (inl draws) below drawn = drawn draws
  begun_follows None seen count began number (inr same) below drawn =
      subst (λ b. KeepsCall (caller_of (called mech) began) (caller_of (called (mech_fed form mech seen)) b) number) (sym same) ((calls_follow form laws mech mech.op seen began number).0)
  begun_follows (Some op) seen count began number (inr same) below drawn = drawn refl

  mover_follows : (number : ℕ) → number ≤ record_number (record_in (run_of form setup older).words move.seat) → KeepsCall old now number
  mover_follows number below =
      let one = begun move.begins mech in
      let ghost = ghost_of form setup older in
      let seen = seen_by form setup older move mech in
      let count = length (world_stepped form one.phase (ghost.seats move.seat).held ghost.offers seen (world_of form setup older)).changes in
      let least = record_below in
      begun_follows move.begins seen count (ghost.seats move.seat).begun number (begins_or_stays one.phase count (ghost.seats move.seat).begun) (omega (arith, below, least)) (λ draws. drawn_follows draws number below)

  mover_counts : mech.number ≤ new.number
  mover_counts =
      let stays = (same_fed form (begun move.begins mech) (seen_by form setup older move mech)).number in
      let began = begun_number form move.begins mech in
      omega (arith, stays, began)

  -- so it is with the calls of all seats, for a word that isn't later than the record of its seat
  pub all_follow : (head : ℕ) (mate : Mech S W) → slice_get (run_of form setup older).mechs head ≡ Some mate → (word : ℕ) → record_number word ≤ record_number (record_in (run_of form setup older).words head)
      → KeepsCall (callers head) (callers' head) (record_number word) × ((callers head).number ≤ (callers' head).number)
  all_follow head mate found word below =
      elim (cases_eq head move.seat) [
        | inl same ↦
            subst (λ s. KeepsCall (callers s) (callers' s) (record_number word) × ((callers s).number ≤ (callers' s).number)) (sym same)
            (let was : callers move.seat ≡ old = ap (λ (o : Option (Mech S W)). caller_at o ((ghost_of form setup older).seats move.seat).begun) at in
            subst (λ (c : Caller). KeepsCall c (callers' move.seat) (record_number word) × (c.number ≤ (callers' move.seat).number)) (sym was)
            (subst (λ (c : Caller). KeepsCall old c (record_number word) × (old.number ≤ c.number)) (sym mover_called)
            (mover_follows (record_number word) (subst (λ s. record_number word ≤ record_number (record_in (run_of form setup older).words s)) same below), mover_counts)))
        | inr apart ↦
            let stays = other_called head apart in
            (λ makes. stays, (let number = ap (λ (c : Caller). c.number) stays in omega (arith, number)))
      ]

  -- ---- what a helper has loaded

  module _ (seat : ℕ) (mate : Mech S W) (found : slice_get (run_of form setup older).mechs seat ≡ Some mate) (drives : Bool) (help : helper.Help S W) (is : mate.phase ≡ phase.Help drives help) where
    abbrev head_word : ℕ
    head_word = record_in (run_of form setup older).words help.head

    -- while it looks at the head, by what the queue has of it
    looking_below : (word : ℕ) → help.at ≡ Known word work.Head → record_number word ≤ record_number head_word
    looking_below word goes =
        let q = runs_queued form setup older are.0 (keeps_queue form setup older are.0 kept) in
        let scene = scene_of (run_of form setup older).words (queue_ghosts form setup older) in
        let facts = subst (λ (p : Phase S W). PhaseFacts scene setup.seats seat (next_number p mate.number) (phase_view p)) is (q.knows seat mate found) in
        let since = subst (λ (h : Helping S W). HelpFacts scene setup.seats seat help.head (helping_view h)) goes facts.1 in
        let here = record_is setup.seats (run_of form setup older).words (queue_ghosts form setup older) setup.few_seats q.sound help.head (head_few form laws setup older are.0 kept seat mate found drives help is) in
        subst (λ w. record_number word ≤ record_number w) here
        (elim since.1 [ inl stood ↦ (let same = ap record_number stood in omega (arith, same)) | inr earlier ↦ earlier_below word (scene.records help.head) earlier ])

    below : LoadedBelow (run_of form setup older) (phase.Help drives help)
    below = subst (λ (p : Phase S W). LoadedBelow (run_of form setup older) p) is (numbers_below form setup older are.0 (keeps_queue form setup older are.0 kept) seat mate found).1

    work_below : (word : ℕ) (does : Work S W) → help.at ≡ Known word does → HelpingBelow head_word (Known word does) → record_number word ≤ record_number head_word
    work_below word work.Head goes h = looking_below word goes
    work_below word work.Op goes h = h
    work_below word (work.Value op) goes h = h
    work_below word (work.Generate op s step) goes h = h
    work_below word (work.Fill stores made) goes h = h
    work_below word (work.Advance to) goes h = h
    work_below word (work.Read read) goes h = h
    work_below word (work.Execute run) goes h = h
    work_below word (work.Wrap wrap) goes h = h

    help_follows : (h : Helping S W) → help.at ≡ h → HelpingBelow head_word h → FollowsHelp h help.head callers callers'
    help_follows (Record known) goes is' = tt
    help_follows (Known word does) goes is' =
        let head = head_seated form laws setup older are.0 kept seat mate found drives help is in
        all_follow help.head head.0 head.1 word (work_below word does goes is')
    help_follows (Remove removal) goes is' = tt

    pub helper_follows : FollowsIn (phase.Help drives help) callers callers'
    helper_follows = help_follows help.at refl below

  -- the call that a helper works on, by the phase of its machine
  pub follows_after : (seat : ℕ) (mate : Mech S W) → slice_get (run_of form setup older).mechs seat ≡ Some mate → (p : Phase S W) → mate.phase ≡ p → FollowsIn p callers callers'
  follows_after seat mate found (phase.Help drives help) is = helper_follows seat mate found drives help is
  follows_after seat mate found phase.Idle is = tt
  follows_after seat mate found phase.Begin is = tt
  follows_after seat mate found phase.Look is = tt
  follows_after seat mate found (phase.Generate s step) is = tt
  follows_after seat mate found (phase.Apply run stores step) is = tt
  follows_after seat mate found (phase.Wrap w) is = tt
  follows_after seat mate found (phase.Announce step) is = tt
  follows_after seat mate found (phase.Enter owner) is = tt
  follows_after seat mate found phase.Drive is = tt
  follows_after seat mate found phase.Collect is = tt
  follows_after seat mate found (phase.Value reference) is = tt
  follows_after seat mate found (phase.End reply) is = tt
