-- The laws of the accounts, from scenes to words; and that the returns of all other seats are within the bound.
use Rattle.std.proofs.Common.{◌≡◌, ◌∙◌, refl, sym, ap, subst, ℕ, ◌<◌, ◌≤◌, true, false, Some, None, arith}
use Rattle.std.specs.Prelude.{◌==◌, ◌&&◌}
use Rattle.word_fields.specs.Records.{record_phase, record_number}
use Rattle.word_fields.specs.Seats.{queue_seats}
use Rattle.normal_traits.specs.NormalForm.{NormalForm}
use Rattle.help_queue.specs.Gathers.{is_open, leads}
use Rattle.help_queue_laws.specs.Ghosts.{Ghosts}
use Rattle.help_queue_laws.specs.Runs.{queue_in, record_in}
use Rattle.help_queue_laws.proofs.Known.Scenes.{scene_of}
use Rattle.help_queue_laws.proofs.Steps.Results.{seat_word}
use Rattle.fast_slow_engine.specs.declared.phases.Phase.{Phase}
use Rattle.fast_slow_engine.specs.declared.phases.Phase.TheVariants as phase
use Rattle.fast_slow_engine.specs.declared.help.Helping.{Helping}
use Rattle.fast_slow_engine.specs.declared.help.Helping.TheVariants.{Record, Known, Remove}
use Rattle.fast_slow_engine.specs.Runs.{run_of}
use Rattle.help_queue_laws.proofs.Known.Knowledge.{PhaseFacts}
use Rattle.run_queue.specs.QueueViews.{phase_view, helping_view, next_number}
use Rattle.run_queue.specs.QueueGhosts.{queue_ghosts}
use Rattle.run_queue.proofs.Runs.RunMoves.{runs_queued}
use Rattle.run_overtaking.specs.Accounts.{KeepsAccount, overtakers}
use Rattle.run_overtaking.specs.Counts.{counts_of}
use Rattle.run_overtaking.specs.Waiting.{Waits, held_back, position, waits_ahead}
use Rattle.run_overtaking.specs.Laws.{AccountsHold, FewReturns, KnownHold, KnowsHelping, KnowsSinceLook}
use Rattle.std.specs.Prelude.{if◌then◌else◌}
use Rattle.std.proofs.Common.{get_or, inl, inr}
use Rattle.std.proofs.lemmas.Bool.{cases_Bool}
use Rattle.std.proofs.lemmas.Option.{slice_get-get_or}
use Rattle.fast_slow_engine.specs.PhaseTable.{mech_new}
use Rattle.run_overtaking.proofs.Accounts.SeatSums.{sum_le}
use Rattle.run_overtaking.proofs.Accounts.Allowances.{half}
use Rattle.std.proofs.Common.{◌+◌, ◌*◌, ◌-◌, Bool}
use Rattle.std.specs.Prelude.{nat_lt, List}
use Rattle.std.proofs.lemmas.Option.{slice_get_within}
use Rattle.fast_slow_engine.specs.declared.setup.Setup.{Setup}
use Rattle.fast_slow_engine.specs.Runs.{Move, AreMoves}
use Rattle.run_queue.specs.Premises.{KeepsQueue}
use Rattle.run_overtaking.proofs.Accounts.Heads.{HeadFacts, LookFacts, known_facts}
use Rattle.run_overtaking.proofs.Accounts.Runs.{runs_counted, inside_of}

pub record_is : (seats : ℕ) → seats ≤ 8 → (words : List ℕ) (ghosts : Ghosts) (s : ℕ) → s < seats → (scene_of words ghosts).records s ≡ record_in words s
record_is seats few words ghosts s real = seat_word s (record_in words s) (omega (arith, real, few))

module _ {S W : Type 0} (seats : ℕ) (few : seats ≤ 8) (words : List ℕ) (ghosts : Ghosts) (i number n : ℕ) where
  -- who is held back, by the records of the scene as by those of the words
  held_same : (p : Phase S W) → PhaseFacts (scene_of words ghosts) seats i number (phase_view p) → held_back (scene_of words ghosts).queue (scene_of words ghosts).records n p ≡ held_back (queue_in words) (record_in words) n p
  held_same phase.Idle h = refl
  held_same phase.Begin h = refl
  held_same phase.Look h = refl
  held_same (phase.Generate s step) h = refl
  held_same (phase.Apply run stores step) h = refl
  held_same (phase.Wrap wrap) h = refl
  held_same (phase.Announce step) h = refl
  held_same (phase.Enter owner) h = refl
  held_same phase.Drive h = refl
  held_same (phase.Help true help) h = refl
  held_same (phase.Help false help) h = ap (λ w. leads (queue_in words) help.head && (record_number w == n)) (record_is seats few words ghosts help.head h.0)
  held_same phase.Collect h = refl
  held_same (phase.Value reference) h = refl
  held_same (phase.End reply) h = refl

  known_at : (s : ℕ) (at' : Helping S W) → HeadFacts (scene_of words ghosts) n s (helping_view at') → KnowsHelping n (record_number ((scene_of words ghosts).records s)) at'
  known_at s (Record None) h = h
  known_at s (Record (Some k)) h = h
  known_at s (Known word does) h = known_facts (scene_of words ghosts) n s word does h
  known_at s (Remove removal) h = (h.0, h.1)

  known_in : (p : Phase S W) → PhaseFacts (scene_of words ghosts) seats i number (phase_view p) → LookFacts (scene_of words ghosts) n (phase_view p) → KnowsSinceLook words n p
  known_in phase.Idle f h = tt
  known_in phase.Begin f h = tt
  known_in phase.Look f h = tt
  known_in (phase.Generate s step) f h = tt
  known_in (phase.Apply run stores step) f h = tt
  known_in (phase.Wrap wrap) f h = tt
  known_in (phase.Announce step) f h = tt
  known_in (phase.Enter owner) f h = tt
  known_in phase.Drive f h = tt
  known_in (phase.Help true help) f h = tt
  known_in (phase.Help false help) f h = subst (λ w. KnowsHelping n (record_number w) help.at) (record_is seats few words ghosts help.head f.0) (known_at help.head help.at h)
  known_in phase.Collect f h = tt
  known_in (phase.Value reference) f h = tt
  known_in (phase.End reply) f h = tt

at_most : (b : Bool) (m n : ℕ) → m ≤ n → (if b then 0 else m) ≤ (if b then 0 else n)
at_most true m n le = omega arith
at_most false m n le = le

module _ {S W : Type 0} (form : NormalForm S W) where
  pub known_hold : KnownHold form
  known_hold setup moves are keeps u mech found =
      let q = runs_queued form setup moves are keeps in
      let c = runs_counted form setup moves are keeps in
      known_in setup.seats setup.few_seats (run_of form setup moves).words (queue_ghosts form setup moves) u (next_number mech.phase mech.number) ((counts_of form setup moves).looked u) mech.phase (q.knows u mech found) (c.looked u mech found)

  pub accounts_hold : AccountsHold form
  accounts_hold setup moves are keeps x u mech found waits =
      let q = runs_queued form setup moves are keeps in
      let c = runs_counted form setup moves are keeps in
      let words = (run_of form setup moves).words in
      let ghosts = queue_ghosts form setup moves in
      let counts = counts_of form setup moves in
      let seats = queue_seats (queue_in words) in
      let inside = inside_of (scene_of words ghosts) setup.seats c.beyond x waits.published in
      let same = record_is setup.seats setup.few_seats words ghosts x inside in
      let seated : u < setup.seats = subst (λ n. u < n) q.count (slice_get_within (run_of form setup moves).mechs u mech found) in
      let held = held_same setup.seats setup.few_seats words ghosts u (next_number mech.phase mech.number) (counts.looked u) mech.phase (q.knows u mech found) in
      let ahead : waits_ahead (queue_in words) (scene_of words ghosts).records u x ≡ waits_ahead (queue_in words) (record_in words) u x = ap (λ w. nat_lt (position u seats) (position x seats) && is_open (record_phase w)) (record_is setup.seats setup.few_seats words ghosts u seated) in
      subst (λ b. KeepsAccount (counts.allowed x u) (counts.returned x u) (position x seats) (position u seats) b (held_back (queue_in words) (record_in words) (counts.looked u) mech.phase)) ahead
      (subst (KeepsAccount (counts.allowed x u) (counts.returned x u) (position x seats) (position u seats) (waits_ahead (queue_in words) (scene_of words ghosts).records u x)) held
      (c.accounts x u mech found waits.published (ap (λ w. is_open (record_phase w)) same ∙ waits.incomplete)))

  -- no seat returns more often than it is allowed
  within : (setup : Setup) (moves : List Move) → AreMoves form setup moves → KeepsQueue form setup moves → (x u : ℕ) → u < setup.seats → Waits (run_of form setup moves).words x → (counts_of form setup moves).returned x u ≤ (counts_of form setup moves).allowed x u
  within setup moves are keeps x u less waits =
      let state = run_of form setup moves in
      let q = runs_queued form setup moves are keeps in
      let mech = mech_new u setup in
      let at = slice_get-get_or state.mechs u mech (subst (λ n. u < n) (sym q.count) less) in
      let k = accounts_hold setup moves are keeps x u (get_or state.mechs u mech) at waits in
      elim (cases_Bool (waits_ahead (queue_in state.words) (record_in state.words) u x)) [ inl ahead ↦ (let none = (k.before ahead).0 in omega (arith, none)) | inr since ↦ (let l = (k.since since).loose in omega (arith, l)) ]

  pub few_returns : FewReturns form
  few_returns setup moves are keeps x waits =
      let c = runs_counted form setup moves are keeps in
      let state = run_of form setup moves in
      let counts = counts_of form setup moves in
      let inside = inside_of (scene_of state.words (queue_ghosts form setup moves)) setup.seats c.beyond x waits.published in
      let same = record_is setup.seats setup.few_seats state.words (queue_ghosts form setup moves) x inside in
      let allowed = c.allowances x waits.published (ap (λ w. is_open (record_phase w)) same ∙ waits.incomplete) in
      let each = sum_le setup.seats (λ u. if u == x then 0 else counts.returned x u) (λ u. if u == x then 0 else counts.allowed x u) (λ u less. at_most (u == x) (counts.returned x u) (counts.allowed x u) (within setup moves are keeps x u less waits)) in
      half (overtakers setup.seats x (counts.returned x)) ((setup.seats - 1) * (setup.seats + 2)) (omega (arith, allowed, each))
