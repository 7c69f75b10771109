-- How the record of a seat goes on by a move: it stays, it is announced, or a helper that was to exchange it has won.
use Rattle.std.proofs.Common.{◌≡◌, ◌≢◌, ◌∙◌, refl, sym, subst, ap, ℕ, ◌<◌, ◌⊎◌, inl, inr, Bool, true, List, ◌∷◌, length, slice_index, Option, Some, None, arith}
use Rattle.std.proofs.lemmas.Bool.{cases_eq}
use Rattle.lin_report.specs.declared.calls.Op.{Op}
use Rattle.word_fields.specs.declared.records.RecordPhase.TheVariants as marks
use Rattle.word_fields.specs.Records.{packed_record, record_of, record_phase}
use Rattle.word_fields.proofs.RecordWords.{phase-word}
use Rattle.node_arena.specs.MemoryMap.{record_place}
use Rattle.help_queue_laws.specs.Runs.{record_in}
use Rattle.normal_traits.specs.World.{World}
use Rattle.normal_traits.specs.NormalForm.{NormalForm}
use Rattle.normal_traits.specs.Steps.{put_word}
use Rattle.normal_traits.proofs.Stays.{word_beside, word_put}
use Rattle.fast_slow_engine.specs.declared.phases.Phase.{Phase}
use Rattle.fast_slow_engine.specs.declared.phases.Phase.TheVariants as phase
use Rattle.fast_slow_engine.specs.declared.phases.Announcing.{Announcing}
use Rattle.fast_slow_engine.specs.declared.phases.Announcing.TheVariants as announcing
use Rattle.fast_slow_engine.specs.declared.help.Helping.{Helping}
use Rattle.fast_slow_engine.specs.declared.help.Helping.TheVariants.{Record, Known, Remove}
use Rattle.fast_slow_engine.specs.declared.help.Work.{Work}
use Rattle.fast_slow_engine.specs.declared.help.Work.TheVariants as work
use Rattle.fast_slow_engine.specs.declared.setup.Setup.{Setup}
use Rattle.fast_slow_engine.specs.HelpTable.{work_request}
use Rattle.fast_slow_engine.specs.PhaseTable.{mech_request, request_in}
use Rattle.fast_slow_engine.specs.Mechs.{Mech}
use Rattle.fast_slow_engine.specs.Runs.{Move, RunState, begun, run_of}
use Rattle.helper_knowledge.specs.Carried.{Carried}
use Rattle.run_laws.proofs.Steps.{move_steps}
use Rattle.run_queue.specs.Fits.{PhaseFits}
use Rattle.run_queue.specs.Premises.{LeavesQueue, is_for_client, works_for_client}
use Rattle.run_queue.proofs.Moves.FastMoves.{apply_leaves, generate_leaves}
use Rattle.run_queue.proofs.Moves.WorkMoves.{IsQuietWork, work_leaves}
use Rattle.run_queue.proofs.Runs.RunMoves.{runs_queued}
use Rattle.run_invariant.specs.Ghosts.{SeatGhost}
use Rattle.run_invariant.specs.RunGhosts.{ghost_of}
use Rattle.run_invariant.specs.Moves.{Advances, Announces, HelpSteps, Puts, StepsIn, WorkSteps}
use Rattle.run_invariant.specs.Moves.Advances.{lost, won}
use Rattle.run_invariant.proofs.InRuns.MovesInRuns.{Moved, after, does, known, mech, mover, offers, own, queued, seated, seen, world}

-- a record goes on to this word where a helper in this phase has won its exchange
pub record IsAdvanced {S W : Type 0} (at : Phase S W) (seat before now : ℕ) : Type 0 where
  pub drives : Bool
  pub seats : ℕ
  pub word : ℕ
  pub advances : at ≡ phase.Help drives (record { head = seat; seats = seats; at = Known word (work.Advance now) })
  pub stood : before ≡ packed_record (record_of word)

-- how it goes on
pub data Goes {S W : Type 0} (at : Phase S W) (seat before now : ℕ) : Type 0 where
  stays : now ≡ before → Goes at seat before now
  announced : record_phase now ≡ marks.Generate → Goes at seat before now
  advanced : IsAdvanced at seat before now → Goes at seat before now

module _ {S W : Type 0} (form : NormalForm S W) {setup : Setup} {older : List Move} {move : Move} (m : Moved form setup older move) (seat : ℕ) (few : seat < 8) where
  abbrev place : ℕ
  place = record_place seat

  abbrev Stays : Phase S W → Type 0
  Stays at = Goes at seat ((world form m).words place) ((after form m).words place)

  same : (at : Phase S W) → after form m ≡ world form m → Stays at
  same at is = stays (ap (λ (w : World). w.words place) is)

  put : (at : Phase S W) (other word : ℕ) → place ≢ other → after form m ≡ put_word other word (world form m) → Stays at
  put at other word apart is = stays (ap (λ (w : World). w.words place) is ∙ word_beside other word (world form m).words place apart)

  leaves : (at : Phase S W) → mover form m ≡ mover form m → LeavesQueue (mech_request form (mover form m)) (run_of form setup older).words → Stays at
  leaves at is leaving =
      let words = ap (λ (s : RunState S W). slice_index s.words place) (move_steps form (run_of form setup older) move (mech form m) (seated form m)) in
      stays (words ∙ leaving place (inr (inl (omega arith, omega (arith, few)))))

  at_queue : (at : Phase S W) (offers' : ℕ → Option _) → (after form m ≡ world form m) ⊎ Puts form (world form m) (after form m) (offers form m) offers' 1 → Stays at
  at_queue at offers' (inl is) = same at is
  at_queue at offers' (inr is) = put at 1 is.0 (λ e. omega (arith, e)) is.1

  announces : (stage : Announcing) (offers' : ℕ → Option _) → Announces form (world form m) (after form m) (offers form m) offers' stage (mover form m) → (mover form m).seat < 8 → Stays (phase.Announce stage)
  announces announcing.Value offers' is small = put _ _ _ (λ e. omega (arith, e, few, small)) is
  announces announcing.Op offers' is small = put _ _ _ (λ e. omega (arith, e, few, small)) is
  announces announcing.Record offers' is small =
      elim (cases_eq place (record_place (mover form m).seat)) [
        | inl here ↦ announced (ap (λ (w : World). record_phase (w.words place)) is ∙ ap record_phase (word_put (record_place (mover form m).seat) _ (world form m).words place here)
            ∙ phase-word marks.Generate (mover form m).number 0 0)
        | inr apart ↦ put _ _ _ apart is
      ]

  advances : (drives : Bool) (head seats word to : ℕ) (offers' : ℕ → Option _) → Advances form (world form m) (after form m) (offers form m) offers' head word to (own form m).carried.filled (seen form m)
      → Stays (phase.Help drives (record { head = head; seats = seats; at = Known word (work.Advance to) }))
  advances drives head seats word to offers' (lost off is kept) = same _ is
  advances drives head seats word to offers' (won on stood is kept) =
      elim (cases_eq seat head) [
        | inl here ↦
            let now : (after form m).words place ≡ to = ap (λ (w : World). w.words place) is ∙ word_put (record_place head) to (world form m).words place (ap record_place here) in
            advanced (record {
              drives = drives;
              seats = seats;
              word = word;
              advances = λ i. phase.Help drives (record { head = sym here i; seats = seats; at = Known word (work.Advance (sym now i)) });
              stood = ap (λ s. (world form m).words (record_place s)) here ∙ stood;
            })
        | inr apart ↦ put _ (record_place head) to (λ e. apart (omega (arith, e))) is
      ]

  -- ---- by the phase of the machine that moves

  abbrev Leaving : Phase S W → Type 0
  Leaving at = is_for_client at ≡ true → LeavesQueue (request_in form at (mover form m)) (run_of form setup older).words

  quiet_work : (drives : Bool) (head seats word : ℕ) (does : Work S W) → (mover form m).phase ≡ phase.Help drives (record { head = head; seats = seats; at = Known word does }) → IsQuietWork form does
      → (works_for_client does ≡ true → LeavesQueue (work_request form does head word) (run_of form setup older).words) → Stays (phase.Help drives (record { head = head; seats = seats; at = Known word does }))
  quiet_work drives head seats word does is quiet client =
      leaves _ refl (subst (λ (p : Phase S W). LeavesQueue (request_in form p (mover form m)) (run_of form setup older).words) (sym is) (work_leaves form does head word (run_of form setup older).words quiet client))

  work_goes : (drives : Bool) (head seats word : ℕ) (does : Work S W) (offers' : ℕ → Option _) (own' : Carried S) (identity : ℕ) → (mover form m).phase ≡ phase.Help drives (record { head = head; seats = seats; at = Known word does })
      → (works_for_client does ≡ true → LeavesQueue (work_request form does head word) (run_of form setup older).words)
      → WorkSteps form (world form m) (after form m) (offers form m) offers' does head word (mover form m) (own form m).carried own' identity (seen form m)
      → Stays (phase.Help drives (record { head = head; seats = seats; at = Known word does }))
  work_goes drives head seats word (work.Advance to) offers' own' identity is client steps = advances drives head seats word to offers' steps
  work_goes drives head seats word work.Head offers' own' identity is client steps = quiet_work drives head seats word work.Head is tt client
  work_goes drives head seats word work.Op offers' own' identity is client steps = quiet_work drives head seats word work.Op is tt client
  work_goes drives head seats word (work.Value op) offers' own' identity is client steps = quiet_work drives head seats word (work.Value op) is tt client
  work_goes drives head seats word (work.Generate op s step) offers' own' identity is client steps = quiet_work drives head seats word (work.Generate op s step) is tt client
  work_goes drives head seats word (work.Fill stores made) offers' own' identity is client steps = quiet_work drives head seats word (work.Fill stores made) is tt client
  work_goes drives head seats word (work.Read read) offers' own' identity is client steps = quiet_work drives head seats word (work.Read read) is tt client
  work_goes drives head seats word (work.Execute run) offers' own' identity is client steps = quiet_work drives head seats word (work.Execute run) is tt client
  work_goes drives head seats word (work.Wrap wrap) offers' own' identity is client steps = quiet_work drives head seats word (work.Wrap wrap) is tt client

  help_goes : (drives : Bool) (head seats : ℕ) (at : Helping S W) (offers' : ℕ → Option _) (own' : Carried S) (identity : ℕ) → (mover form m).phase ≡ phase.Help drives (record { head = head; seats = seats; at = at })
      → Leaving (phase.Help drives (record { head = head; seats = seats; at = at }))
      → HelpSteps form (world form m) (after form m) (offers form m) offers' at head (mover form m) (own form m).carried own' identity (seen form m) → Stays (phase.Help drives (record { head = head; seats = seats; at = at }))
  help_goes drives head seats (Record loaded) offers' own' identity is client steps = same _ steps.0
  help_goes drives head seats (Known word does) offers' own' identity is client steps = work_goes drives head seats word does offers' own' identity is client steps
  help_goes drives head seats (Remove removal) offers' own' identity is client steps = at_queue _ offers' steps.0

  by_phase : (at : Phase S W) (offers' : ℕ → Option _) (own' : SeatGhost S) → (mover form m).phase ≡ at → (mover form m).seat < 8 → PhaseFits setup.seats at → Leaving at
      → StepsIn form (world form m) (after form m) (offers form m) offers' at (mover form m) (own form m) own' (length older) (seen form m) → Stays at
  by_phase phase.Idle offers' own' is small fits client steps = same _ steps.1
  by_phase phase.Begin offers' own' is small fits client steps = put _ 0 steps.1.0 (λ e. omega (arith, e)) steps.1.1
  by_phase phase.Look offers' own' is small fits client steps = same _ steps.1
  by_phase (phase.Generate s step) offers' own' is small fits client steps =
      leaves _ refl (subst (λ (p : Phase S W). LeavesQueue (request_in form p (mover form m)) (run_of form setup older).words) (sym is) (generate_leaves form (mover form m) (run_of form setup older).words s step client))
  by_phase (phase.Apply run stores step) offers' own' is small fits client steps =
      leaves _ refl (subst (λ (p : Phase S W). LeavesQueue (request_in form p (mover form m)) (run_of form setup older).words) (sym is) (apply_leaves form (mover form m) (run_of form setup older).words setup.seats run stores step fits client))
  by_phase (phase.Wrap wrap) offers' own' is small fits client steps =
      leaves _ refl (subst (λ (p : Phase S W). LeavesQueue (request_in form p (mover form m)) (run_of form setup older).words) (sym is) (client refl))
  by_phase (phase.Announce stage) offers' own' is small fits client steps = announces stage offers' steps.1 small
  by_phase (phase.Enter owner) offers' own' is small fits client steps = at_queue _ offers' steps.1
  by_phase phase.Drive offers' own' is small fits client steps = same _ steps.1
  by_phase (phase.Help drives help) offers' own' is small fits client steps = help_goes drives help.head help.seats help.at offers' own'.carried (length older) is client steps
  by_phase phase.Collect offers' own' is small fits client steps = same _ steps.1
  by_phase (phase.Value reference) offers' own' is small fits client steps = same _ steps.1
  by_phase (phase.End reply) offers' own' is small fits client steps = put _ 0 steps.1.0 (λ e. omega (arith, e)) steps.1.1

  begun_fits : (begins : Option Op) (one : Mech S W) → PhaseFits setup.seats one.phase → PhaseFits setup.seats (begun begins one).phase
  begun_fits None one fits = fits
  begun_fits (Some op) one fits = tt

  pub record_goes : Goes (mover form m).phase seat (record_in (run_of form setup older).words seat) (record_in (run_of form setup (move ∷ older)).words seat)
  record_goes =
      let q = (runs_queued form setup older m.are.0 (queued form m)).seats move.seat (mech form m) (seated form m) in
      by_phase (mover form m).phase (ghost_of form setup (move ∷ older)).offers ((ghost_of form setup (move ∷ older)).seats move.seat) refl (known form m).few (begun_fits move.begins (mech form m) q.fits)
      (m.later.queue.1 (mech form m) (seated form m)) (does form m)
