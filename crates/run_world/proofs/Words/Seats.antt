-- What holds of each machine with what is known of its seat, after a move of one.
use Rattle.std.proofs.Common.{◌≡◌, ◌≢◌, sym, subst, ap, ℕ, List, ◌∷◌, slice_get, Some}
use Rattle.normal_traits.specs.NormalForm.{NormalForm}
use Rattle.fast_slow_engine.specs.declared.setup.Setup.{Setup}
use Rattle.fast_slow_engine.specs.Mechs.{Mech}
use Rattle.fast_slow_engine.specs.PhaseTable.{mech_fed}
use Rattle.fast_slow_engine.specs.Runs.{Move, RunState, IsMove, begun, run_of}
use Rattle.run_laws.specs.Seats.{EachMech}
use Rattle.run_laws.proofs.Steps.{move_steps}
use Rattle.run_laws.proofs.Summaries.{each_moved}
use Rattle.run_world.specs.Ghosts.{SeatGhost}
use Rattle.run_world.specs.RunGhosts.{ghost_of}
use Rattle.run_world.proofs.Words.Grow.{others_stay}
use Rattle.run_world.proofs.Words.Moved.{made_seat, seat_after, seen_by}

module _ {S W : Type 0} (form : NormalForm S W) where
  -- this holds of each machine with what is known of its seat
  abbrev pub EachSeat : (ℕ → Mech S W → SeatGhost S → Type 0) → Setup → List Move → Type 0
  EachSeat P setup moves = EachMech (λ seat mech. P seat mech ((ghost_of form setup moves).seats seat)) (run_of form setup moves).mechs

  -- the machine that moves, and what it becomes
  abbrev pub machine_after : Setup → List Move → Move → Mech S W → Mech S W
  machine_after setup older move mech = mech_fed form (begun move.begins mech) (seen_by form setup older move mech)

  -- it is kept for the other seats, and holds of the machine that moved
  pub seats_moved : (P Q : ℕ → Mech S W → SeatGhost S → Type 0) (setup : Setup) (older : List Move) (move : Move) (is : IsMove form (run_of form setup older) move) → EachSeat P setup older
      → ((seat : ℕ) (mech : Mech S W) → seat ≢ move.seat → slice_get (run_of form setup older).mechs seat ≡ Some mech → P seat mech ((ghost_of form setup older).seats seat) → Q seat mech ((ghost_of form setup older).seats seat))
      → Q move.seat (machine_after setup older move is.mech) (seat_after form setup older move is.mech) → EachSeat Q setup (move ∷ older)
  seats_moved P Q setup older move is each keeps own =
      let state = run_of form setup older in
      let before = (ghost_of form setup older).seats in
      let after = (ghost_of form setup (move ∷ older)).seats in
      let new = machine_after setup older move is.mech in
      each_moved (λ seat mech. (slice_get state.mechs seat ≡ Some mech) × P seat mech (before seat)) (λ seat mech. Q seat mech (after seat)) state.mechs (run_of form setup (move ∷ older)).mechs move.seat is.mech new is.seated
      (ap (λ (s : RunState S W). s.mechs) (move_steps form state move is.mech is.seated)) (λ seat mech at. (at, each seat mech at))
      (λ seat mech apart h. subst (Q seat mech) (sym (others_stay form setup older move seat apart)) (keeps seat mech apart h.0 h.1))
      (subst (Q move.seat new) (sym (made_seat form setup older move is.mech is.seated)) own)

  -- the same for what asks of the machine and its seat alone
  pub seats_keep : (P : ℕ → Mech S W → SeatGhost S → Type 0) (setup : Setup) (older : List Move) (move : Move) (is : IsMove form (run_of form setup older) move) → EachSeat P setup older
      → P move.seat (machine_after setup older move is.mech) (seat_after form setup older move is.mech) → EachSeat P setup (move ∷ older)
  seats_keep P setup older move is each own = seats_moved P P setup older move is each (λ seat mech apart at h. h) own
