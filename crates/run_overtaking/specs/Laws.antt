-- The laws of overtaking, of every run of any client under the premises of the help queue.
use Rattle.std.specs.Prelude.{◌≡◌, ℕ, ◌≤◌, ◌*◌, ◌-◌, false, List, slice_get, Some, None}
use Rattle.word_fields.specs.Records.{record_number}
use Rattle.word_fields.specs.Seats.{queue_seats}
use Rattle.normal_traits.specs.NormalForm.{NormalForm}
use Rattle.help_queue_laws.specs.Runs.{queue_in, record_in}
use Rattle.fast_slow_engine.specs.declared.phases.Phase.{Phase}
use Rattle.fast_slow_engine.specs.declared.phases.Phase.TheVariants.{Help}
use Rattle.fast_slow_engine.specs.declared.help.Helping.{Helping}
use Rattle.fast_slow_engine.specs.declared.help.Helping.TheVariants.{Record, Known, Remove}
use Rattle.fast_slow_engine.specs.declared.setup.Setup.{Setup}
use Rattle.fast_slow_engine.specs.Mechs.{Mech}
use Rattle.fast_slow_engine.specs.Runs.{Move, AreMoves, run_of}
use Rattle.run_queue.specs.Premises.{KeepsQueue}
use Rattle.run_overtaking.specs.Waiting.{Waits, held_back, position, waits_ahead}
use Rattle.run_overtaking.specs.Counts.{counts_of}
use Rattle.run_overtaking.specs.Accounts.{KeepsAccount, most_overtaken, overtakers}

-- the number that a helper knows of its head is at least that of the call at the look, and at most that of the record now
abbrev pub KnowsHelping : {S W : Type 0} → ℕ → ℕ → Helping S W → Type 0
KnowsHelping looked now (Record None) = looked ≤ now
KnowsHelping looked now (Record (Some known)) = (looked ≤ known) × (known ≤ now)
KnowsHelping looked now (Known word does) = (looked ≤ record_number word) × (record_number word ≤ now)
KnowsHelping looked now (Remove removal) = (looked ≤ removal.number) × (removal.number ≤ now)

-- so is it of a call that helps since its look
abbrev pub KnowsSinceLook : {S W : Type 0} → List ℕ → ℕ → Phase S W → Type 0
KnowsSinceLook words looked (Help false help) = KnowsHelping looked (record_number (record_in words help.head)) help.at
KnowsSinceLook words looked _ = Unit {0}

module _ {S W : Type 0} (form : NormalForm S W) where
  -- what each helper knows of its head since its look
  abbrev pub KnownHold : Type 0
  KnownHold =
      (setup : Setup) (moves : List Move) → AreMoves form setup moves → KeepsQueue form setup moves → (u : ℕ) (mech : Mech S W) → slice_get (run_of form setup moves).mechs u ≡ Some mech
      → KnowsSinceLook (run_of form setup moves).words ((counts_of form setup moves).looked u) mech.phase

  -- the account of each call that waits with each seat
  abbrev pub AccountsHold : Type 0
  AccountsHold =
      (setup : Setup) (moves : List Move) → AreMoves form setup moves → KeepsQueue form setup moves → (x u : ℕ) (mech : Mech S W) → slice_get (run_of form setup moves).mechs u ≡ Some mech → Waits (run_of form setup moves).words x
      → (let words = (run_of form setup moves).words in
      let counts = counts_of form setup moves in
      let seats = queue_seats (queue_in words) in
      KeepsAccount (counts.allowed x u) (counts.returned x u) (position x seats) (position u seats) (waits_ahead (queue_in words) (record_in words) u x) (held_back (queue_in words) (record_in words) (counts.looked u) mech.phase))

  -- while a call waits, the other seats have returned at most so often as the bound says
  abbrev pub FewReturns : Type 0
  FewReturns =
      (setup : Setup) (moves : List Move) → AreMoves form setup moves → KeepsQueue form setup moves → (x : ℕ) → Waits (run_of form setup moves).words x
      → overtakers setup.seats x ((counts_of form setup moves).returned x) ≤ most_overtaken setup.seats

-- the bound is at most P (P - 1), where P is the number of seats
abbrev pub BoundIsSharper : Type 0
BoundIsSharper = (seats : ℕ) → 1 ≤ seats → most_overtaken seats ≤ seats * (seats - 1)
