-- The laws of the help queue, from what holds of the scene of every run and of each machine.
use Rattle.std.proofs.Common.{◌≡◌, refl, ap, sym, subst, ◌∙◌, ℕ, ◌<◌, Bool, true, List, [], ◌∷◌, ◌++◌, slice_get, Some, arith, inl, inr, ◌⊎◌}
use Rattle.std.proofs.lemmas.Option.{slice_get_within}
use Rattle.word_fields.specs.Queues.{queue_version}
use Rattle.word_fields.specs.Records.{record_phase, record_number, record_of, packed_record}
use Rattle.word_fields.specs.declared.records.RecordWord.{RecordWord}
use Rattle.word_fields.specs.Seats.{queue_seats}
use Rattle.op_record.specs.Progress.{IsEarlier}
use Rattle.op_record.proofs.RecordOrder.{earlier_irreflexive}
use Rattle.normal_traits.specs.NormalForm.{NormalForm}
use Rattle.help_queue.specs.Gathers.{is_open}
use Rattle.help_queue_laws.specs.declared.phases.QueuePhase.TheVariants as in_queue
use Rattle.help_queue_laws.specs.Ghosts.{Ghosts}
use Rattle.help_queue_laws.specs.Runs.{record_in}
use Rattle.help_queue_laws.proofs.Known.Scenes.{Scene, scene_of, IsSince}
use Rattle.help_queue_laws.proofs.Known.Knowledge.{IsHelped, PhaseFacts}
use Rattle.help_queue_laws.proofs.Acts.LearntStays.{since_later}
use Rattle.help_queue_laws.proofs.Known.SceneLaws.{record_is, members_in, belongs, helped, gather_known, gathered, removes, entry_known, by_second, loses_two}
use Rattle.help_queue_laws.proofs.Known.QueueWords.{not_both}
use Rattle.help_queue_laws.proofs.Steps.Results.{seat_word}
use Rattle.fast_slow_engine.specs.declared.phases.Phase.{Phase}
use Rattle.fast_slow_engine.specs.declared.phases.Phase.TheVariants as phase
use Rattle.fast_slow_engine.specs.declared.phases.Announcing.TheVariants as announcing
use Rattle.fast_slow_engine.specs.declared.help.Helping.{Helping}
use Rattle.fast_slow_engine.specs.declared.help.Helping.TheVariants.{Record, Known, Remove}
use Rattle.fast_slow_engine.specs.declared.help.Work.TheVariants as work
use Rattle.fast_slow_engine.specs.declared.setup.Setup.{Setup}
use Rattle.fast_slow_engine.specs.Mechs.{Mech}
use Rattle.fast_slow_engine.specs.Runs.{Move, RunState, AreMoves, run_of}
use Rattle.run_queue.specs.QueueViews.{phase_view, helping_view, next_number}
use Rattle.run_queue.specs.QueueGhosts.{queue_ghosts}
use Rattle.run_queue.specs.QueueRuns.{queue_after}
use Rattle.run_queue.specs.QueueLaws.{HasMembers, HasEntries, Publishes, OwnsRecord, Collects, Wins, HelpingAdvances, Advances, MembersHold, HelpedHold, GathersHold, RemovalsHold, EntriesHold, OwnersHold, AdvancesHold, VersionsRise, OneWordEach, RecordsGoOn}
use Rattle.run_queue.specs.Fits.{IsEngagedWord}
use Rattle.run_queue.specs.Premises.{KeepsQueue}
use Rattle.run_queue.proofs.Moves.WonRecords.{one_first, same_fields, is_head, same_phase, same_number}
use Rattle.run_queue.proofs.Moves.Owners.{back_number}
use Rattle.run_queue.proofs.Runs.RunMoves.{IsQueued, runs_queued, runs_later}

module _ {S W : Type 0} (setup : Setup) (state : RunState S W) (ghosts : Ghosts) (q : IsQueued setup state ghosts) where
  inside : (i : ℕ) (mech : Mech S W) → slice_get state.mechs i ≡ Some mech → i < setup.seats
  inside i mech found = subst (λ n. i < n) q.count (slice_get_within state.mechs i mech found)

  below : (i : ℕ) (mech : Mech S W) → slice_get state.mechs i ≡ Some mech → i < 8
  below i mech found = let less = inside i mech found in let few = setup.few_seats in omega (arith, less, few)

  pub members : HasMembers state
  members = record {
    queue = members_in setup.seats state.words ghosts setup.few_seats q.sound;
    seats = λ i mech found. belongs setup.seats state.words ghosts setup.few_seats q.sound i (next_number mech.phase mech.number) (phase_view mech.phase) (below i mech found) (q.knows i mech found);
  }

  pub entries : HasEntries state ghosts
  entries = record {
    exchanges = λ i mech found g is over. by_second setup.seats state.words ghosts setup.few_seats q.sound i g (inside i mech found) (entry_known setup.seats state.words ghosts setup.few_seats q.sound i (next_number mech.phase mech.number) (phase_view mech.phase) g (q.knows i mech found) is) over;
    losses = λ i mech found. loses_two setup.seats state.words ghosts setup.few_seats q.sound i (next_number mech.phase mech.number) (phase_view mech.phase) (q.knows i mech found);
  }

  -- ---- owners

  abbrev here : Scene
  here = scene_of state.words ghosts

  owned : (i n : ℕ) (p : Phase S W) → PhaseFacts here setup.seats i (next_number p n) (phase_view p) → is_open (record_phase (here.records i)) ≡ true → (record_number (here.records i) ≡ n) × Publishes p
  owned i n phase.Idle h opened = absurd (not_both opened h.closed)
  owned i n phase.Begin h opened = absurd (not_both opened h.closed)
  owned i n phase.Look h opened = absurd (not_both opened h.closed)
  owned i n (phase.Generate s step) h opened = absurd (not_both opened h.0.closed)
  owned i n (phase.Apply run stores step) h opened = absurd (not_both opened h.0.closed)
  owned i n (phase.Wrap wrap) h opened = absurd (not_both opened h.0.closed)
  owned i n (phase.Announce announcing.Value) h opened = absurd (not_both opened h.0.closed)
  owned i n (phase.Announce announcing.Op) h opened = absurd (not_both opened h.0.closed)
  owned i n (phase.Announce announcing.Record) h opened = absurd (not_both opened h.0.closed)
  owned i n (phase.Enter owner) h opened = (h.mine.number, tt)
  owned i n phase.Drive h opened = (h.0.number, tt)
  owned i n (phase.Help drives help) h opened = back_number here i n help.head _ drives h.2 opened
  owned i n phase.Collect h opened = absurd (not_both opened (ap is_open h.1))
  owned i n (phase.Value reference) h opened = absurd (not_both opened h.closed)
  owned i n (phase.End reply) h opened = absurd (not_both opened h.closed)

  collects : (i n : ℕ) (mech : Mech S W) (p : Phase S W) → mech.number ≡ n → i < 8 → PhaseFacts here setup.seats i (next_number p n) (phase_view p) → Collects state.words i mech p
  collects i n mech phase.Idle same few h = tt
  collects i n mech phase.Begin same few h = tt
  collects i n mech phase.Look same few h = tt
  collects i n mech (phase.Generate s step) same few h = tt
  collects i n mech (phase.Apply run stores step) same few h = tt
  collects i n mech (phase.Wrap wrap) same few h = tt
  collects i n mech (phase.Announce step) same few h = tt
  collects i n mech (phase.Enter owner) same few h = tt
  collects i n mech phase.Drive same few h = tt
  collects i n mech (phase.Help drives help) same few h = tt
  collects i n mech phase.Collect same few h =
      let is = record_is setup.seats state.words ghosts setup.few_seats q.sound i few in
      (sym (ap record_phase is) ∙ h.1, sym (ap record_number is) ∙ h.0.number ∙ sym same, h.2)
  collects i n mech (phase.Value reference) same few h = tt
  collects i n mech (phase.End reply) same few h = tt

  pub owners : (i : ℕ) (mech : Mech S W) → slice_get state.mechs i ≡ Some mech → OwnsRecord state.words i mech × Collects state.words i mech mech.phase
  owners i mech found =
      let few = below i mech found in
      let is = record_is setup.seats state.words ghosts setup.few_seats q.sound i few in (
        λ opened. let own = owned i mech.number mech.phase (q.knows i mech found) (ap (λ w. is_open (record_phase w)) is ∙ opened) in (sym (ap record_number is) ∙ own.0, own.1),
        collects i mech.number mech mech.phase refl few (q.knows i mech found),
      )

  -- ---- advances

  module _ (head word : ℕ) (few : head < setup.seats) (opened : is_open (record_phase word) ≡ true) (held : IsHelped here head word) where
    wins : record_in state.words head ≡ packed_record (record_of word) → Wins state head word
    wins same =
        let small : head < 8 = let most = setup.few_seats in omega (arith, few, most) in
        let is = record_is setup.seats state.words ghosts setup.few_seats q.sound head small in
        let won = is ∙ same in
        let fields = same_fields here q.sound head word held won in
        let open' : is_open (record_phase (here.records head)) ≡ true = ap is_open (same_phase here q.sound head word held won) ∙ opened in
        record {
          stands = elim held [
            | inl now ↦ sym (now.0 ∙ is)
            | inr earlier ↦ absurd (earlier_irreflexive (record_of word) (subst (λ (r : RecordWord). IsEarlier (record_of word) r) fields earlier))
          ];
          leads' = is_head here q.sound head word held won;
          owned = λ mech found. let own = owned head mech.number mech.phase (q.knows head mech found) open' in (sym own.0 ∙ same_number here q.sound head word held won, own.1);
          alone = λ t small' engaged. one_first t head (queue_seats here.queue) (q.sound.engaged t (subst IsEngagedWord (sym (record_is setup.seats state.words ghosts setup.few_seats q.sound t small')) engaged)) (is_head here q.sound head word held won);
        }

  helping_advances : (i n head : ℕ) (drives : Bool) (at' : Helping S W) → PhaseFacts here setup.seats i n (in_queue.Helps head drives (helping_view at')) → HelpingAdvances state head at'
  helping_advances i n head drives (Record known) h = tt
  helping_advances i n head drives (Known word work.Head) h = tt
  helping_advances i n head drives (Known word work.Op) h = tt
  helping_advances i n head drives (Known word (work.Value op)) h = tt
  helping_advances i n head drives (Known word (work.Generate op s step)) h = tt
  helping_advances i n head drives (Known word (work.Fill stores made)) h = tt
  helping_advances i n head drives (Known word (work.Advance to)) h = wins head word h.0 h.1.0 h.1.1
  helping_advances i n head drives (Known word (work.Read read)) h = tt
  helping_advances i n head drives (Known word (work.Execute run)) h = tt
  helping_advances i n head drives (Known word (work.Wrap wrap)) h = tt
  helping_advances i n head drives (Remove removal) h = tt

  pub advances : (i n : ℕ) (p : Phase S W) → PhaseFacts here setup.seats i (next_number p n) (phase_view p) → Advances state p
  advances i n (phase.Help drives help) h = helping_advances i n help.head drives help.at h
  advances i n phase.Idle h = tt
  advances i n phase.Begin h = tt
  advances i n phase.Look h = tt
  advances i n (phase.Generate s step) h = tt
  advances i n (phase.Apply run stores step) h = tt
  advances i n (phase.Wrap wrap) h = tt
  advances i n (phase.Announce step) h = tt
  advances i n (phase.Enter owner) h = tt
  advances i n phase.Drive h = tt
  advances i n phase.Collect h = tt
  advances i n (phase.Value reference) h = tt
  advances i n (phase.End reply) h = tt

-- ---- the laws

module _ {S W : Type 0} (form : NormalForm S W) where
  pub members_hold : MembersHold form
  members_hold setup moves are keeps = members setup (run_of form setup moves) (queue_ghosts form setup moves) (runs_queued form setup moves are keeps)

  pub helped_hold : HelpedHold form
  helped_hold setup moves are keeps i mech found =
      let q = runs_queued form setup moves are keeps in
      helped setup.seats (run_of form setup moves).words (queue_ghosts form setup moves) setup.few_seats q.sound i (next_number mech.phase mech.number) (phase_view mech.phase) (q.knows i mech found)

  pub gathers_hold : GathersHold form
  gathers_hold setup moves are keeps i mech found g is now =
      let q = runs_queued form setup moves are keeps in
      let words = (run_of form setup moves).words in
      let ghosts = queue_ghosts form setup moves in
      gathered setup.seats words ghosts setup.few_seats q.sound i g (gather_known setup.seats words ghosts setup.few_seats q.sound i (next_number mech.phase mech.number) (phase_view mech.phase) g (q.knows i mech found) is) now

  pub removals_hold : RemovalsHold form
  removals_hold setup moves are keeps i mech found =
      let q = runs_queued form setup moves are keeps in
      removes setup.seats (run_of form setup moves).words (queue_ghosts form setup moves) setup.few_seats q.sound i (next_number mech.phase mech.number) (phase_view mech.phase) (q.knows i mech found)

  pub entries_hold : EntriesHold form
  entries_hold setup moves are keeps = entries setup (run_of form setup moves) (queue_ghosts form setup moves) (runs_queued form setup moves are keeps)

  pub owners_hold : OwnersHold form
  owners_hold setup moves are keeps = owners setup (run_of form setup moves) (queue_ghosts form setup moves) (runs_queued form setup moves are keeps)

  pub advances_hold : AdvancesHold form
  advances_hold setup moves are keeps i mech found =
      let q = runs_queued form setup moves are keeps in
      advances setup (run_of form setup moves) (queue_ghosts form setup moves) q i mech.number mech.phase (q.knows i mech found)

  -- ---- versions

  pub versions_rise : VersionsRise form
  versions_rise setup move older are keeps = elim (runs_later form setup move older are keeps).queue [ inl same ↦ inl same | inr changed ↦ inr changed.version ]

  -- versions don't fall over moves, so where they agree nothing changed
  never_falls : (setup : Setup) (newer older : List Move) → AreMoves form setup (newer ++ older) → KeepsQueue form setup (newer ++ older)
      → (queue_version (queue_after form setup older) < queue_version (queue_after form setup (newer ++ older))) ⊎ (queue_after form setup (newer ++ older) ≡ queue_after form setup older)
  never_falls setup [] older are keeps = inr refl
  never_falls setup (move ∷ newer) older are keeps =
      elim (versions_rise setup move (newer ++ older) are keeps) [
        | inl same ↦ elim (never_falls setup newer older are.0 keeps.0) [
          | inl rose ↦ inl (subst (λ w. queue_version (queue_after form setup older) < queue_version w) (sym same) rose)
          | inr still' ↦ inr (same ∙ still')
        ]
        | inr up ↦ elim (never_falls setup newer older are.0 keeps.0) [
          | inl rose ↦ inl (omega (arith, up, rose))
          | inr still' ↦ (let level = ap queue_version still' in inl (omega (arith, up, level)))
        ]
      ]

  pub one_word_each : OneWordEach form
  one_word_each setup newer older are keeps level = elim (never_falls setup newer older are keeps) [ inl rose ↦ absurd (omega (arith, level, rose)) | inr same ↦ same ]

  -- ---- records

  since_all : (setup : Setup) (newer older : List Move) (t : ℕ) → AreMoves form setup (newer ++ older) → KeepsQueue form setup (newer ++ older)
      → IsSince ((scene_of (run_of form setup older).words (queue_ghosts form setup older)).records t) ((scene_of (run_of form setup (newer ++ older)).words (queue_ghosts form setup (newer ++ older))).records t)
  since_all setup [] older t are keeps = inl refl
  since_all setup (move ∷ newer) older t are keeps = since_later setup.seats move.seat _ _ (runs_later form setup move (newer ++ older) are keeps) _ t (since_all setup newer older t are.0 keeps.0)

  pub records_go_on : RecordsGoOn form
  records_go_on setup newer older seat few are keeps =
      let was = seat_word seat (record_in (run_of form setup older).words seat) few in
      let now = seat_word seat (record_in (run_of form setup (newer ++ older)).words seat) few in
      elim (since_all setup newer older seat are keeps) [
        | inl same ↦ inl (sym was ∙ same ∙ now)
        | inr later ↦ inr (subst (λ w. IsEarlier (record_of w) (record_of (record_in (run_of form setup (newer ++ older)).words seat))) was (subst (λ w. IsEarlier (record_of ((scene_of (run_of form setup older).words (queue_ghosts form setup older)).records seat)) (record_of w)) now later))
      ]
