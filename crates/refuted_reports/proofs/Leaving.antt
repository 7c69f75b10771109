-- A report leaves no call out, and each line has the command of its file.
use Rattle.std.proofs.Common.{◌<◌, List, All, Contains, subst}
use Rattle.lin_report.specs.Calls.{Call, calls_of}
use Rattle.lin_report.specs.Report.{IsCommand, FollowsAnswer}
use Rattle.refuted_reports.specs.Refuted.{IsBefore, SkippedCall, AnotherCommand}

-- what is so of each element is so of one of them
pub all_at : {X : Type 0} (P : X → Type 0) (xs : List X) (x : X) → All P xs → Contains xs x → P x
all_at P xs x each (k, within, at) = subst P at (each k x within)

pub skipped : SkippedCall
skipped files report c among later none is =
    let follows = all_at (λ (d : Call). 1 < d.number → FollowsAnswer report d) (calls_of report) c is.in_turn among later in
    all_at (λ before. ¬ IsBefore c before) report.receipts follows.before none follows.answered (follows.seat, follows.number)

pub another : AnotherCommand
another files report c among other is = other (all_at (IsCommand files) (calls_of report) c is.commands among).command
