-- A seat that makes a call after a step has made it before, or the call is a new one, which no record has yet.
use Rattle.std.proofs.Common.{◌≡◌, ℕ, ◌≤◌, Some, arith}
use Rattle.lin_report.specs.declared.calls.Op.{Op}
use Rattle.step_memory.specs.declared.steps.Seen.{Seen}
use Rattle.normal_traits.specs.NormalForm.{NormalForm}
use Rattle.fast_slow_engine.specs.Mechs.{Mech}
use Rattle.fast_slow_engine.specs.PhaseTable.{mech_fed}
use Rattle.fast_slow_engine.specs.Runs.{begun}
use Rattle.fast_slow_engine.proofs.SameCalls.{same_fed}
use Rattle.helper_knowledge.specs.Callers.{Caller, KeepsCall, called, caller_of}

caller_same : (a b : Caller) → a.number ≡ b.number → a.op ≡ b.op → a.begun ≡ b.begun → a ≡ b
caller_same a b n o c = λ i. record { number = n i; op = o i; begun = c i }

module _ {S W : Type 0} (form : NormalForm S W) where
  -- a step of a call that goes on
  pub goes_on : (mech : Mech S W) (seen : Seen) (begun begun' number : ℕ) → begun' ≡ begun → KeepsCall (caller_of (called mech) begun) (caller_of (called (mech_fed form mech seen)) begun') number
  goes_on mech seen begun begun' number same makes =
      let stays = same_fed form mech seen in
      caller_same (caller_of (called (mech_fed form mech seen)) begun') (caller_of (called mech) begun) stays.number stays.op same

  -- the first step of a call: records are of earlier calls
  pub begins : (op : Op) (mech : Mech S W) (seen : Seen) (count count' number : ℕ) → number ≤ mech.number
      → KeepsCall (caller_of (called mech) count) (caller_of (called (mech_fed form (begun (Some op) mech) seen)) count') number
  begins op mech seen count count' number below makes =
      let stays = same_fed form (begun (Some op) mech) seen in
      absurd (omega (arith, stays.number, makes, below))
