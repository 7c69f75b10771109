-- The operation of each call is a command of the client, also once it is over.
use Rattle.std.proofs.Common.{sym, subst, ◌≤◌, List, Option, Some, None}
use Rattle.lin_report.specs.declared.calls.Op.{Op}
use Rattle.lin_report.specs.Object.{IsCommandOf}
use Rattle.normal_traits.specs.NormalForm.{NormalForm}
use Rattle.fast_slow_engine.specs.declared.setup.Setup.{Setup}
use Rattle.fast_slow_engine.specs.Mechs.{Mech}
use Rattle.fast_slow_engine.specs.Runs.{CanMove, Move, begun}
use Rattle.fast_slow_engine.proofs.SameCalls.{same_fed}
use Rattle.run_knowledge.proofs.Words.Moved.{seen_by}
use Rattle.run_knowledge.proofs.Words.Seats.{machine_after}

-- of a machine that has begun a call
abbrev pub MadeCommand : {S W : Type 0} → NormalForm S W → Mech S W → Type 0
MadeCommand form mech = 1 ≤ mech.number → IsCommandOf form.object mech.op

module _ {S W : Type 0} (form : NormalForm S W) where
  command_begun : (mech : Mech S W) (begins : Option Op) → CanMove form begins mech → MadeCommand form mech → MadeCommand form (begun begins mech)
  command_begun mech None can command = command
  command_begun mech (Some op) can command = λ some. can.2

  -- of the machine that moved
  pub command_moved : (setup : Setup) (older : List Move) (move : Move) (mech : Mech S W) → CanMove form move.begins mech → MadeCommand form mech → MadeCommand form (machine_after form setup older move mech)
  command_moved setup older move mech can command some =
      let one = begun move.begins mech in
      let stays = same_fed form one (seen_by form setup older move mech) in
      subst (IsCommandOf form.object) (sym stays.op) (command_begun mech move.begins can command (subst (λ n. 1 ≤ n) stays.number some))
