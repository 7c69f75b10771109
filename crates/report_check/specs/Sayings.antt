-- The line that tells a verdict.
use Rattle.std.specs.Prelude.{ℕ, List, ◌++◌, codes, decimal}
use Rattle.report_check.specs.declared.verdicts.Verdict.{Verdict}
use Rattle.report_check.specs.declared.verdicts.Verdict.TheVariants.{Legal, NotLegal}
use Rattle.report_check.specs.Verdicts.{reason_number}

abbrev pub verdict_text : Verdict → List ℕ
verdict_text Legal = codes "legal\n"
verdict_text (NotLegal objection) = codes "not legal place " ++ decimal objection.place ++ codes " reason " ++ decimal (reason_number objection.reason) ++ codes "\n"
