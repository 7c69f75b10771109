-- The line of a call: whose it is, and when it is written. No phase is named, so what stands on this stays as it
-- is where the engine gets more of them.
use Rattle.std.specs.Prelude.{◌≡◌, Bool, true, false, None}
use Rattle.lin_report.specs.declared.calls.Receipt.{Receipt}
use Rattle.step_memory.specs.declared.steps.Seen.{Seen}
use Rattle.normal_traits.specs.NormalForm.{NormalForm}
use Rattle.fast_slow_engine.specs.declared.setup.Turn.{Turn}
use Rattle.fast_slow_engine.specs.declared.setup.Turn.TheVariants.{Going, Returned}
use Rattle.fast_slow_engine.specs.Mechs.{Mech}
use Rattle.fast_slow_engine.specs.PhaseTable.{mech_fed, mech_pending, mech_turn, rests}

-- the line is of the call that the machine makes
pub record IsLineOf {S W : Type 0} (mech : Mech S W) (line : Receipt) : Type 0 where
  pub seat : line.seat ≡ mech.seat
  pub number : line.number ≡ mech.number
  pub op : line.op ≡ mech.op

-- whether a step returned
abbrev pub returns : Turn → Bool
returns Going = false
returns (Returned line) = true

-- what a step returns is a line of its machine's call
abbrev pub LinesAreOwn : (S W : Type 0) → Type 0
LinesAreOwn S W = (mech : Mech S W) (seen : Seen) (line : Receipt) → mech_turn mech seen ≡ Returned line → IsLineOf mech line

-- a call runs up to the step that returns its line
abbrev pub CallsEnd : {S W : Type 0} → NormalForm S W → Type 0
CallsEnd {S} {W} form = (mech : Mech S W) (seen : Seen) → rests mech.phase ≡ false → rests (mech_fed form mech seen).phase ≡ returns (mech_turn mech seen)

-- a machine at rest has no pending call
abbrev pub RestPendsNothing : (S W : Type 0) → Type 0
RestPendsNothing S W = (mech : Mech S W) → rests mech.phase ≡ true → mech_pending mech ≡ None
