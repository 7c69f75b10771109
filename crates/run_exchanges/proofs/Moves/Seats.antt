-- A seat that the run hasn't holds no list, and its record is closed.
use Rattle.std.proofs.Common.{◌≡◌, ◌≢◌, ◌∙◌, refl, sym, ap, ℕ, ◌<◌, ◌⊎◌, true, false, Bool, List, [], ◌∷◌, slice_get, Some, None, inl, inr, arith}
use Rattle.std.proofs.lemmas.Option.{slice_get_cases}
use Rattle.word_fields.specs.Records.{record_phase}
use Rattle.help_queue.specs.Gathers.{is_open}
use Rattle.help_queue_laws.specs.Runs.{record_in}
use Rattle.help_queue_laws.proofs.Known.Scenes.{scene_of}
use Rattle.help_queue_laws.proofs.Steps.Results.{seat_word}
use Rattle.normal_traits.specs.NormalForm.{NormalForm}
use Rattle.fast_slow_engine.specs.declared.setup.Setup.{Setup}
use Rattle.fast_slow_engine.specs.Mechs.{Mech}
use Rattle.fast_slow_engine.specs.Runs.{Move, AreMoves, run_of}
use Rattle.run_laws.proofs.MachinesKept.{seats_stay}
use Rattle.run_queue.specs.Premises.{KeepsQueue}
use Rattle.run_queue.specs.QueueGhosts.{queue_ghosts}
use Rattle.run_queue.specs.QueueLaws.{OwnsRecord}
use Rattle.run_queue.proofs.QueueLaws.{owners_hold}
use Rattle.run_queue.proofs.Runs.Openings.{opens_free}
use Rattle.run_queue.proofs.Runs.RunMoves.{runs_later}
use Rattle.run_invariant.specs.Ghosts.{Held}
use Rattle.run_invariant.specs.RunGhosts.{ghost_of}
use Rattle.run_invariant.proofs.Words.Grow.{others_stay}

not_some : {X A : Type 0} (x : X) → None ≡ Some x → A
not_some x e = absurd cc

not_both : {A : Type 0} (b : Bool) → b ≡ true → b ≡ false → A
not_both true on off = absurd cc
not_both false on off = absurd cc

module _ {S W : Type 0} (form : NormalForm S W) where
  -- no machine has this seat
  abbrev Absent : Setup → List Move → ℕ → Type 0
  Absent setup moves seat = slice_get (run_of form setup moves).mechs seat ≡ None

  -- a seat has a machine, or none in the whole run
  pub seat_or_none : (setup : Setup) (moves : List Move) (seat : ℕ) → ((mech : Mech S W) × (slice_get (run_of form setup moves).mechs seat ≡ Some mech)) ⊎ Absent setup moves seat
  seat_or_none setup moves seat =
      elim (slice_get_cases (run_of form setup moves).mechs seat).1 [ inl there ↦ inl (there.0, there.2) | inr past ↦ inr past.1 ]

  absent_before : (setup : Setup) (older : List Move) (move : Move) (seat : ℕ) → AreMoves form setup (move ∷ older) → Absent setup (move ∷ older) seat → Absent setup older seat
  absent_before setup older move seat are none =
      elim (slice_get_cases (run_of form setup older).mechs seat).1 [
        | inl there ↦ elim (slice_get_cases (run_of form setup (move ∷ older)).mechs seat).1 [
          | inl still ↦ not_some still.0 (sym none ∙ still.2)
          | inr past ↦
              let before = (seats_stay form setup older are.0).count in
              let count = (seats_stay form setup (move ∷ older) are).count in
              absurd (omega (arith, there.1, past.0, before, count))
        ]
        | inr past ↦ past.1
      ]

  absent_apart : (setup : Setup) (older : List Move) (move : Move) (seat : ℕ) → AreMoves form setup (move ∷ older) → Absent setup older seat → seat ≢ move.seat
  absent_apart setup older move seat are none same = not_some are.1.mech (sym none ∙ ap (λ k. slice_get (run_of form setup older).mechs k) same ∙ are.1.seated)

  -- ---- lists

  absent_holds : (setup : Setup) (moves : List Move) (seat : ℕ) → AreMoves form setup moves → Absent setup moves seat → ((ghost_of form setup moves).seats seat).held ≡ None
  absent_holds setup [] seat are none = refl
  absent_holds setup (move ∷ older) seat are none =
      let before = absent_before setup older move seat are none in
      ap (λ g. g.held) (others_stay form setup older move seat (absent_apart setup older move seat are before)) ∙ absent_holds setup older seat are.0 before

  -- who holds a list has a machine
  pub holder_seated : (setup : Setup) (moves : List Move) (seat : ℕ) (held : Held S) → AreMoves form setup moves → ((ghost_of form setup moves).seats seat).held ≡ Some held
      → (mech : Mech S W) × (slice_get (run_of form setup moves).mechs seat ≡ Some mech)
  holder_seated setup moves seat held are is =
      elim (seat_or_none setup moves seat) [ inl there ↦ there | inr none ↦ not_some held (sym (absent_holds setup moves seat are none) ∙ is) ]

  -- ---- records

  absent_closed : (setup : Setup) (moves : List Move) (seat : ℕ) → seat < 8 → AreMoves form setup moves → KeepsQueue form setup moves → Absent setup moves seat
      → is_open (record_phase ((scene_of (run_of form setup moves).words (queue_ghosts form setup moves)).records seat)) ≡ false
  absent_closed setup [] seat few are keeps none = (opens_free form.opening form.opens setup.cap seat few).closed
  absent_closed setup (move ∷ older) seat few are keeps none =
      let before = absent_before setup older move seat are none in
      let closed = absent_closed setup older seat few are.0 keeps.0 before in
      elim ((runs_later form setup move older are keeps).moves seat) [
        | inl stays ↦ ap (λ w. is_open (record_phase w)) stays.same ∙ closed
        | inr (inl announces) ↦ absurd (absent_apart setup older move seat are before announces.by)
        | inr (inr advances) ↦ not_both _ advances.opened closed
      ]

  -- whose record is open has a machine, which makes its call and has announced it
  pub record OwnsOpen (setup : Setup) (moves : List Move) (seat : ℕ) : Type 0 where
    pub mech : Mech S W
    pub seated : slice_get (run_of form setup moves).mechs seat ≡ Some mech
    pub owns : OwnsRecord (run_of form setup moves).words seat mech

  pub opened_seated : (setup : Setup) (moves : List Move) (seat : ℕ) → seat < 8 → AreMoves form setup moves → KeepsQueue form setup moves
      → is_open (record_phase (record_in (run_of form setup moves).words seat)) ≡ true → OwnsOpen setup moves seat
  opened_seated setup moves seat few are keeps opened =
      elim (seat_or_none setup moves seat) [
        | inl there ↦ record { mech = there.0; seated = there.1; owns = (owners_hold form setup moves are keeps seat there.0 there.1).0 }
        | inr none ↦ not_both _ opened (ap (λ w. is_open (record_phase w)) (sym (seat_word seat _ few)) ∙ absent_closed setup moves seat few are keeps none)
      ]
