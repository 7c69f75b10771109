-- The accounts of all calls and seats, kept by every move of every run.
use Rattle.std.proofs.Common.{◌+◌, ◌*◌, ◌-◌, ◌≡◌, ◌≢◌, ◌∙◌, refl, sym, ap, subst, ℕ, ◌<◌, ◌≤◌, Bool, true, false, if◌then◌else◌, List, [], ◌∷◌, slice_get, slice_set, Option, Some, None, inl, inr, ◌⊎◌, arith}
use Rattle.std.specs.Prelude.{◌==◌, ◌&&◌, not, nat_lt, slice_index}
use Rattle.std.proofs.lemmas.Bool.{cases_Bool, cases_eq, cases_lt, cond-false, le-ltb, eq-eqb, ne_eqb, eqb-true, and_parts, true≢false}
use Rattle.std.proofs.lemmas.Option.{slice_get_within}
use Rattle.lin_report.specs.declared.calls.Op.{Op}
use Rattle.step_memory.specs.declared.steps.Seen.{Seen}
use Rattle.step_memory.specs.Step.{seen_of, words_after}
use Rattle.word_fields.specs.Records.{record_phase}
use Rattle.word_fields.specs.Seats.{queue_seats}
use Rattle.word_fields.specs.ProvedSeats.{queue_seats_are}
use Rattle.node_arena.specs.MemoryMap.{record_place}
use Rattle.normal_traits.specs.NormalForm.{NormalForm}
use Rattle.help_queue.specs.Gathers.{holds, is_open}
use Rattle.help_queue_laws.specs.Ghosts.{Ghosts, no_ghosts}
use Rattle.help_queue_laws.specs.Runs.{queue_in, record_in}
use Rattle.help_queue_laws.proofs.Known.Scenes.{Scene, scene_of, IsOpen, IsClosed, IsIn, IsOut, IsSound, Later}
use Rattle.help_queue_laws.proofs.Known.Knowledge.{PhaseFacts}
use Rattle.help_queue_laws.proofs.Known.QueueWords.{not_both}
use Rattle.help_queue_laws.proofs.Steps.Results.{seat_word}
use Rattle.help_queue_laws.proofs.Runs.EveryRunHolds.{at_set, beside_set, same_some, zero_phase}
use Rattle.fast_slow_engine.specs.declared.setup.Setup.{Setup}
use Rattle.fast_slow_engine.specs.declared.phases.Phase.{Phase}
use Rattle.fast_slow_engine.specs.declared.phases.Phase.TheVariants as phase
use Rattle.fast_slow_engine.specs.Mechs.{Mech}
use Rattle.help_queue.specs.Heads.{head_of}
use Rattle.fast_slow_engine.specs.PhaseTable.{mech_fed, mech_request, ends, stepped}
use Rattle.fast_slow_engine.specs.Runs.{Move, RunState, IsMove, AreMoves, CanMove, begun, moved_by, opening_run, run_of, stepped_by}
use Rattle.run_queue.specs.QueueViews.{phase_view, next_number}
use Rattle.run_queue.specs.QueueGhosts.{ghosts_moved, ghosts_stepped, queue_ghosts}
use Rattle.run_queue.specs.Premises.{HasRounds, LeavesQueue, KeepsQueue, MoveLeavesQueue, is_for_client}
use Rattle.run_queue.proofs.Runs.RunMoves.{IsQueued, Mover, mover, mover_goes, new_mech, runs_queued}
use Rattle.run_queue.proofs.Runs.Openings.{opens_sound, opens_zero}
use Rattle.run_overtaking.specs.Accounts.{KeepsAccount, overtakers}
use Rattle.run_overtaking.specs.Counts.{Counts, no_counts, allowance, counts_moved, counts_of, counts_stepped}
use Rattle.run_overtaking.specs.Waiting.{looks, number_at, enters, position, held_back}
use Rattle.run_overtaking.proofs.Accounts.Places.{position_below, few_seats}
use Rattle.run_overtaking.proofs.Accounts.Allowances.{allowed_few}
use Rattle.run_overtaking.proofs.Accounts.Pairs.{account_goes, ahead_in, queue_place}
use Rattle.run_overtaking.proofs.Accounts.Scenes.{Dropped, opened_before, beyond_later}
use Rattle.run_overtaking.proofs.Accounts.Heads.{LookFacts, look_later}
use Rattle.run_overtaking.proofs.Accounts.Steps.{step_facts, step_held, other_held}

-- the seats of a queue word are those of the run
pub inside_of : (a : Scene) (seats : ℕ) → ((t : ℕ) → seats ≤ t → IsClosed a t × IsOut a t) → (t : ℕ) → IsIn a t → t < seats
inside_of a seats beyond t in' = elim (cases_lt t seats) [ inl inside ↦ inside | inr past ↦ absurd (not_both in' (beyond t past).1) ]

place_low : (a : Scene) (seats x : ℕ) → ((t : ℕ) → seats ≤ t → IsClosed a t × IsOut a t) → IsIn a x → position x (queue_seats a.queue) < seats
place_low a seats x beyond in' =
    let less = position_below x (queue_seats a.queue) in' in
    let few = few_seats seats (queue_seats a.queue) (queue_seats_are a.queue) (inside_of a seats beyond) in
    omega (arith, less, few)

-- ---- a seat that returns

and_none : (x : Bool) → (x && false) ≡ false
and_none true = refl
and_none false = refl

module _ {S W : Type 0} where
  -- a seat that draws its end tick isn't held back before, and is after: its next call looks again
  end_held : (form : NormalForm S W) (q n q' n' : ℕ) (r r' : ℕ → ℕ) (seen : Seen) (mech : Mech S W) (p : Phase S W) → ends p ≡ true → (held_back q r n p ≡ false) × (held_back q' r' n' (stepped form p seen mech).phase ≡ true)
  end_held form q n q' n' r r' seen mech phase.Idle is = absurd (true≢false (sym is))
  end_held form q n q' n' r r' seen mech phase.Begin is = absurd (true≢false (sym is))
  end_held form q n q' n' r r' seen mech phase.Look is = absurd (true≢false (sym is))
  end_held form q n q' n' r r' seen mech (phase.Generate s step) is = absurd (true≢false (sym is))
  end_held form q n q' n' r r' seen mech (phase.Apply run stores step) is = absurd (true≢false (sym is))
  end_held form q n q' n' r r' seen mech (phase.Wrap wrap) is = absurd (true≢false (sym is))
  end_held form q n q' n' r r' seen mech (phase.Announce step) is = absurd (true≢false (sym is))
  end_held form q n q' n' r r' seen mech (phase.Enter owner) is = absurd (true≢false (sym is))
  end_held form q n q' n' r r' seen mech phase.Drive is = absurd (true≢false (sym is))
  end_held form q n q' n' r r' seen mech (phase.Help drives help) is = absurd (true≢false (sym is))
  end_held form q n q' n' r r' seen mech phase.Collect is = absurd (true≢false (sym is))
  end_held form q n q' n' r r' seen mech (phase.Value reference) is = absurd (true≢false (sym is))
  end_held form q n q' n' r r' seen mech (phase.End reply) is = (refl, refl)

  -- its call has left the queue, so its record is closed
  ended_closed : (a : Scene) (seats i number : ℕ) (p : Phase S W) → ends p ≡ true → PhaseFacts a seats i (next_number p number) (phase_view p) → IsClosed a i
  ended_closed a seats i number phase.Idle is h = absurd (true≢false (sym is))
  ended_closed a seats i number phase.Begin is h = absurd (true≢false (sym is))
  ended_closed a seats i number phase.Look is h = absurd (true≢false (sym is))
  ended_closed a seats i number (phase.Generate s step) is h = absurd (true≢false (sym is))
  ended_closed a seats i number (phase.Apply run stores step) is h = absurd (true≢false (sym is))
  ended_closed a seats i number (phase.Wrap wrap) is h = absurd (true≢false (sym is))
  ended_closed a seats i number (phase.Announce step) is h = absurd (true≢false (sym is))
  ended_closed a seats i number (phase.Enter owner) is h = absurd (true≢false (sym is))
  ended_closed a seats i number phase.Drive is h = absurd (true≢false (sym is))
  ended_closed a seats i number (phase.Help drives help) is h = absurd (true≢false (sym is))
  ended_closed a seats i number phase.Collect is h = absurd (true≢false (sym is))
  ended_closed a seats i number (phase.Value reference) is h = absurd (true≢false (sym is))
  ended_closed a seats i number (phase.End reply) is h = h.closed

  -- what holds of the counts of every state: the invariant of the induction. Seats that the run has not are never in the word
  pub record IsCounted (seats : ℕ) (state : RunState S W) (a : Scene) (counts : Counts) : Type 0 where
    pub looked : (u : ℕ) (mech : Mech S W) → slice_get state.mechs u ≡ Some mech → LookFacts a (counts.looked u) (phase_view mech.phase)
    pub beyond : (t : ℕ) → seats ≤ t → IsClosed a t × IsOut a t
    pub accounts : (x u : ℕ) (mech : Mech S W) → slice_get state.mechs u ≡ Some mech → IsIn a x → IsOpen a x
        → KeepsAccount (counts.allowed x u) (counts.returned x u) (queue_place a x) (queue_place a u) (ahead_in a u x) (held_back a.queue a.records (counts.looked u) mech.phase)
    pub allowances : (x : ℕ) → IsIn a x → IsOpen a x → 2 * overtakers seats x (counts.allowed x) ≤ (seats - 1) * (seats + 2)

  module _ (form : NormalForm S W) where
    began_account : (a : Scene) (n allowed r place own : ℕ) (ahead : Bool) (begins : Option Op) (old : Mech S W) → KeepsAccount allowed r place own ahead (held_back a.queue a.records n old.phase)
        → KeepsAccount allowed r place own ahead (held_back a.queue a.records n (begun begins old).phase)
    began_account a n allowed r place own ahead None old account = account
    began_account a n allowed r place own ahead (Some op) old account = record { before = account.before; since = λ none. record { loose = (account.since none).loose; strict = λ e. absurd (true≢false e) } }

    began_looked : (a : Scene) (n : ℕ) (begins : Option Op) (old : Mech S W) → LookFacts a n (phase_view old.phase) → LookFacts a n (phase_view (begun begins old).phase)
    began_looked a n None old h = h
    began_looked a n (Some op) old h = tt

    module _ (setup : Setup) (i : ℕ) (state : RunState S W) (ghosts : Ghosts) (counts : Counts) (q : IsQueued setup state ghosts) (c : IsCounted setup.seats state (scene_of state.words ghosts) counts) (old : Mech S W) (begins : Option Op)
        (found : slice_get state.mechs i ≡ Some old) (m : Mover setup i (scene_of state.words ghosts) (begun begins old)) (rounds : HasRounds state.words)
        (client : is_for_client (begun begins old).phase ≡ true → LeavesQueue (mech_request form (begun begins old)) state.words) where
      abbrev mech : Mech S W
      mech = begun begins old

      abbrev words : List ℕ
      words = state.words

      abbrev seen : Seen
      seen = seen_of (mech_request form (begun begins old)) state.words

      abbrev new : Mech S W
      new = mech_fed form (begun begins old) (seen_of (mech_request form (begun begins old)) state.words)

      abbrev a : Scene
      a = scene_of state.words ghosts

      abbrev b : Scene
      b = scene_of (words_after (mech_request form (begun begins old)) state.words) (ghosts_stepped form i (begun begins old) state.words ghosts)

      abbrev counts' : Counts
      counts' = counts_stepped form i (begun begins old) state.words counts

      abbrev Keeps : Scene → Counts → ℕ → ℕ → Mech S W → Type 0
      Keeps s k x u mate = KeepsAccount (k.allowed x u) (k.returned x u) (queue_place s x) (queue_place s u) (ahead_in s u x) (held_back s.queue s.records (k.looked u) mate.phase)

      later : Later setup.seats i a b
      later = (mover_goes form setup i state ghosts q old mech found m rounds client).later

      now_sound : IsSound b
      now_sound = (mover_goes form setup i state ghosts q old mech found m rounds client).sound

      inside : i < setup.seats
      inside = subst (λ n. i < n) q.count (slice_get_within state.mechs i old found)

      beyond' : (t : ℕ) → setup.seats ≤ t → IsClosed b t × IsOut b t
      beyond' t past = beyond_later setup.seats i a b later inside t past (c.beyond t past)

      keeps : (u : ℕ) → looks mech.phase ≡ false → counts'.looked u ≡ counts.looked u
      keeps u none = ap (λ x. if x && (u == i) then number_at (head_of (queue_in words)) (record_in words) else counts.looked u) none

      looks_now : looks mech.phase ≡ true → counts'.looked i ≡ number_at (head_of (queue_in words)) (record_in words)
      looks_now is =
          ap (λ x. if x && (i == i) then number_at (head_of (queue_in words)) (record_in words) else counts.looked i) is
          ∙ ap (λ x. if x then number_at (head_of (queue_in words)) (record_in words) else counts.looked i) (eq-eqb i i refl)

      others : (u : ℕ) → u ≢ i → counts'.looked u ≡ counts.looked u
      others u other =
          ap (λ x. if looks mech.phase && x then number_at (head_of (queue_in words)) (record_in words) else counts.looked u) (ne_eqb u i other)
          ∙ ap (λ x. if x then number_at (head_of (queue_in words)) (record_in words) else counts.looked u) (and_none (looks mech.phase))

      same_seats : mech.setup.seats ≡ setup.seats
      same_seats = ap (λ (s : Setup). s.seats) m.is.setup'

      knows : LookFacts a (counts.looked i) (phase_view mech.phase)
      knows = began_looked a (counts.looked i) begins old (c.looked i old found)

      new_looked : LookFacts b (counts'.looked i) (phase_view new.phase)
      new_looked =
          step_facts form mech setup.seats i setup.few_seats words ghosts q.long q.sound b later (counts.looked i) (counts'.looked i) same_seats mech.phase m.runs (keeps i) looks_now m.knows m.is.fits knows

      new_held : (x : ℕ) → IsIn a x → held_back a.queue a.records (counts.looked i) mech.phase ≡ true → (held_back b.queue b.records (counts'.looked i) new.phase ≡ true) ⊎ Dropped a b
      new_held x in' held =
          step_held form mech setup.seats i setup.few_seats words ghosts q.long q.sound b later (counts.looked i) (counts'.looked i) same_seats mech.phase x m.runs in' (inside_of a setup.seats c.beyond) (keeps i) looks_now refl
          (λ t low. seat_word t _ low) m.knows knows held

      -- who draws its end tick has no open record
      end_closed : ends mech.phase ≡ true → IsClosed a i
      end_closed is = ended_closed a setup.seats i mech.number mech.phase is m.knows

      own_account : (x : ℕ) → IsIn b x → IsOpen b x → Keeps b counts' x i new
      own_account x in' opened =
          account_goes setup.seats i a b later now_sound x i in' opened (counts.allowed x i) (counts.returned x i) (held_back a.queue a.records (counts.looked i) mech.phase) (held_back b.queue b.records (counts'.looked i) new.phase) (ends mech.phase && (i == i))
          (λ was opens. began_account a (counts.looked i) (counts.allowed x i) (counts.returned x i) (queue_place a x) (queue_place a i) (ahead_in a i x) begins old (c.accounts x i old found was opens)) (λ was held. new_held x was held)
          (λ ret.
          let is = (and_parts (ends mech.phase) (i == i) ret).0 in
          let held = end_held form a.queue (counts.looked i) b.queue (counts'.looked i) a.records b.records seen mech mech.phase is in
          (held.0, held.1, end_closed is))

      other_account : (x u : ℕ) (mate : Mech S W) → u ≢ i → slice_get state.mechs u ≡ Some mate → IsIn b x → IsOpen b x → Keeps b counts' x u mate
      other_account x u mate other at in' opened =
          subst (λ n. KeepsAccount (counts'.allowed x u) (counts'.returned x u) (queue_place b x) (queue_place b u) (ahead_in b u x) (held_back b.queue b.records n mate.phase)) (sym (others u other))
          (account_goes setup.seats i a b later now_sound x u in' opened (counts.allowed x u) (counts.returned x u) (held_back a.queue a.records (counts.looked u) mate.phase) (held_back b.queue b.records (counts.looked u) mate.phase) (ends mech.phase && (u == i))
          (λ was opens. c.accounts x u mate at was opens) (λ _ held. other_held setup.seats i a b later (counts.looked u) mate.phase held)
          (λ ret. absurd (other (eqb-true u i (and_parts (ends mech.phase) (u == i) ret).1))))

      -- what is allowed is fixed where the call enters
      new_allowances : (x : ℕ) → IsIn b x → IsOpen b x → 2 * overtakers setup.seats x (counts'.allowed x) ≤ (setup.seats - 1) * (setup.seats + 2)
      new_allowances x in' opened =
          let fresh : ℕ → ℕ = λ u. allowance x u (queue_seats b.queue) in
          let total : Bool → ℕ = λ e. 2 * overtakers setup.seats x (λ u. if e then fresh u else counts.allowed x u) in
          let most = (setup.seats - 1) * (setup.seats + 2) in
          elim (cases_Bool (holds a.queue x)) [
            | inl was ↦ (
                let none : enters a.queue b.queue x ≡ false = ap (λ e. not e && holds b.queue x) was in
                subst (λ e. total e ≤ most) (sym none) (c.allowances x was (opened_before setup.seats i a b later x was opened)))
            | inr out ↦ (
                let entered : enters a.queue b.queue x ≡ true = ap (λ e. not e && holds b.queue x) out ∙ in' in
                subst (λ e. total e ≤ most) (sym entered) (allowed_few setup.seats x (queue_seats b.queue) (queue_seats_are b.queue).differ (inside_of b setup.seats beyond') in' (place_low b setup.seats x beyond' in')))
          ]

      is_new : (u : ℕ) (mate : Mech S W) → u ≡ i → slice_get (slice_set state.mechs i new) u ≡ Some mate → new ≡ mate
      is_new u mate same at = same_some new mate (sym (at_set state.mechs i new (slice_get_within state.mechs i old found)) ∙ subst (λ t. slice_get (slice_set state.mechs i new) t ≡ Some mate) same at)

      pub step_counted : IsCounted setup.seats (stepped_by form i mech state) b counts'
      step_counted = record {
        looked = λ u mate at. elim (cases_eq u i) [
          | inl same ↦ subst (λ t. LookFacts b (counts'.looked t) (phase_view mate.phase)) (sym same) (subst (λ (k : Mech S W). LookFacts b (counts'.looked i) (phase_view k.phase)) (is_new u mate same at) new_looked)
          | inr other ↦ subst (λ n. LookFacts b n (phase_view mate.phase)) (sym (others u other))
              (look_later setup.seats i a b later (counts.looked u) (phase_view mate.phase) (c.looked u mate (sym (beside_set state.mechs i u new other) ∙ at)))
        ];
        beyond = beyond';
        accounts = λ x u mate at in' opened. elim (cases_eq u i) [
          | inl same ↦ subst (λ t. Keeps b counts' x t mate) (sym same) (subst (Keeps b counts' x i) (is_new u mate same at) (own_account x in' opened))
          | inr other ↦ other_account x u mate other (sym (beside_set state.mechs i u new other) ∙ at) in' opened
        ];
        allowances = new_allowances;
      }

    -- ---- a run

    moved : (setup : Setup) (move : Move) (state : RunState S W) (ghosts : Ghosts) (counts : Counts) (o : Option (Mech S W)) → slice_get state.mechs move.seat ≡ o → IsMove form state move → MoveLeavesQueue form state move → HasRounds state.words → IsQueued setup state ghosts
        → IsCounted setup.seats state (scene_of state.words ghosts) counts
        → IsCounted setup.seats (moved_by form o move state) (scene_of (moved_by form o move state).words (ghosts_moved form o move state ghosts)) (counts_moved form o move state counts)
    moved setup move state ghosts counts None at is leaves rounds q c = c
    moved setup move state ghosts counts (Some old) at is leaves rounds q c =
        let same : is.mech ≡ old = same_some is.mech old (sym is.seated ∙ at) in
        let can = subst (λ (m : Mech S W). CanMove form move.begins m) same is.can in
        step_counted setup move.seat state ghosts counts q c old move.begins at
        (mover form setup move.seat (scene_of state.words ghosts) move.begins old can (q.seats move.seat old at) (q.knows move.seat old at)) rounds (leaves old at)

    opening_counted : (setup : Setup) → IsCounted setup.seats (opening_run form setup) (scene_of (opening_run form setup).words no_ghosts) no_counts
    opening_counted setup = record {
      looked = λ u mech found. subst (λ (k : Mech S W). LookFacts a 0 (phase_view k.phase)) (new_mech form setup u mech found).0 tt;
      beyond = λ t past. (closed t, out t);
      accounts = λ x u mech found in' opened. absurd (not_both in' (out x));
      allowances = λ x in' opened. absurd (not_both in' (out x));
    }
      where
        a : Scene
        a = scene_of (opening_run form setup).words no_ghosts

        zero' : (t : ℕ) → a.records t ≡ 0
        zero' t =
            let word = slice_index (opening_run form setup).words (record_place t) in
            elim (cases_lt t 8) [ inl few ↦ seat_word t word few ∙ opens_zero form.opening form.opens setup.cap t few | inr past ↦ cond-false (nat_lt t 8) word 0 (le-ltb t 8 past) ]

        closed : (t : ℕ) → IsClosed a t
        closed t = ap (λ w. is_open (record_phase w)) (zero' t) ∙ ap is_open zero_phase

        out : (t : ℕ) → IsOut a t
        out t =
            elim (cases_Bool (holds a.queue t)) [
              | inr none ↦ none
              | inl in' ↦ elim ((opens_sound form.opening form.opens setup.cap setup.seats).published t in') [
                | inl opened ↦ absurd (not_both opened (closed t))
                | inr done ↦ (let both = sym done ∙ ap record_phase (zero' t) ∙ zero_phase in absurd cc)
              ]
            ]

    pub runs_counted : (setup : Setup) (moves : List Move) → AreMoves form setup moves → KeepsQueue form setup moves
        → IsCounted setup.seats (run_of form setup moves) (scene_of (run_of form setup moves).words (queue_ghosts form setup moves)) (counts_of form setup moves)
    runs_counted setup [] are keeps = opening_counted setup
    runs_counted setup (move ∷ older) are keeps =
        let state = run_of form setup older in
        moved setup move state (queue_ghosts form setup older) (counts_of form setup older) (slice_get state.mechs move.seat) refl are.1 keeps.1 keeps.2 (runs_queued form setup older are.0 keeps.0) (runs_counted setup older are.0 keeps.0)
