-- Until a call is announced, the record of its seat is closed, and of an earlier call.
use Rattle.std.specs.Prelude.{◌≡◌, ℕ, ◌<◌, true, false, List, ◌∷◌, slice_get, Some}
use Rattle.word_fields.specs.Records.{record_number, record_phase}
use Rattle.help_queue.specs.Gathers.{is_open}
use Rattle.help_queue_laws.specs.Runs.{record_in}
use Rattle.normal_traits.specs.NormalForm.{NormalForm}
use Rattle.fast_slow_engine.specs.declared.setup.Setup.{Setup}
use Rattle.fast_slow_engine.specs.Mechs.{Mech}
use Rattle.fast_slow_engine.specs.Runs.{Move, AreMoves, begun, run_of}
use Rattle.run_queue.specs.Premises.{KeepsQueue}
use Rattle.step_knowledge.specs.Moves.{is_unannounced}

-- of the record of a seat, against the call of this number
pub record IsBefore (words : List ℕ) (seat number : ℕ) : Type 0 where
  pub earlier : record_number (record_in words seat) < number
  pub closed : is_open (record_phase (record_in words seat)) ≡ false

module _ {S W : Type 0} (form : NormalForm S W) where
  -- so it is for each machine that moves, with the call that it begins
  abbrev pub MoversBefore : Type 0
  MoversBefore =
      (setup : Setup) (older : List Move) (move : Move) (mech : Mech S W) → AreMoves form setup (move ∷ older) → KeepsQueue form setup older → slice_get (run_of form setup older).mechs move.seat ≡ Some mech
      → is_unannounced (begun move.begins mech).phase ≡ true → IsBefore (run_of form setup older).words move.seat (begun move.begins mech).number
