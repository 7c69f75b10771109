-- Where the machine of a port stands, between the parts of a try.
use Rattle.std.specs.Prelude.{◌≡◌, ℕ, ◌<◌, List, length}
use Rattle.arrayvec.specs.ArrayVec.{ArrayVec}
use Rattle.normal_traits.specs.declared.lists.Entry.{Entry}
use Rattle.normal_traits.specs.NormalForm.{NormalForm}
use Rattle.fast_slow_engine.specs.declared.call.Call.{Call}
use Rattle.fast_slow_engine.specs.declared.phases.Phase.{Phase}
use Rattle.fast_slow_engine.specs.declared.phases.Phase.TheVariants.{Apply}
use Rattle.fast_slow_engine.specs.declared.phases.Applying.TheVariants.{Fill, Execute}
use Rattle.fast_slow_engine.specs.Mechs.{Mech, mech_of}
use Rattle.fast_slow_engine.specs.PhaseTable.{stopped}

module _ {S W : Type 0} where
  -- the machine is what this makes of that of the call; what is made looks at no phase
  abbrev pub IsAfter : (Mech S W → Mech S W) → Call → Mech S W → Type 0
  IsAfter makes call mech = (before : Phase S W) × (mech ≡ makes (mech_of call before))

  -- the next step is the store of this number, of a list that made no exchange yet
  abbrev pub IsAtStore : List Entry → List (ℕ × ℕ) → ℕ → Call → Mech S W → Type 0
  IsAtStore entries stores made call mech = mech ≡ mech_of call (Apply (record { entries = entries; next = 0 }) (record { items = stores }) (Fill made))

  -- the next step is the exchange of the entry of this number
  abbrev pub IsAtEntry : List Entry → ℕ → Call → Mech S W → Type 0
  IsAtEntry entries next call mech = (stores : ArrayVec (ℕ × ℕ)) × (mech ≡ mech_of call (Apply (record { entries = entries; next = next }) stores Execute))

  -- of the stores so many were made: the next one comes, or the first exchange
  pub record HasStored (entries : List Entry) (stores : List (ℕ × ℕ)) (made : ℕ) (call : Call) (mech : Mech S W) : Type 0 where
    pub more : made < length stores → IsAtStore entries stores made call mech
    pub all : made ≡ length stores → IsAtEntry entries 0 call mech

  -- of the exchanges so many were won: the next one comes, or the list has stopped at its length
  pub record HasWon (form : NormalForm S W) (entries : List Entry) (won : ℕ) (call : Call) (mech : Mech S W) : Type 0 where
    pub more : won < length entries → IsAtEntry entries won call mech
    pub all : won ≡ length entries → IsAfter (stopped form entries won) call mech
