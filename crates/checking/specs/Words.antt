-- The words of the command line that ask for a check.
use Rattle.std.specs.Prelude.{ℕ, if◌then◌else◌, List, [], ◌∷◌, Option, Some, None, codes}
use Rattle.std.specs.Str.{bytes_eq}
use Rattle.lin_report.specs.declared.calls.Client.{Client}
use Rattle.command_line.specs.Words.{client_named}
use Rattle.checking.specs.declared.words.CheckWords.{CheckWords}

-- what is asked for: of which client the report is, and the names of its file and of the order's
pub record Check : Type 0 where
  pub client : Client
  pub report : List ℕ
  pub order : List ℕ

-- a check of a client
abbrev pub check_of : Option Client → List ℕ → List ℕ → Option Check
check_of (Some structure) report order = Some (record { client = structure; report = report; order = order })
check_of None report order = None

-- `check CLIENT REPORT ORDER`; other words are no check
abbrev pub check_words : List (List ℕ) → Option Check
check_words (command ∷ client ∷ report ∷ order ∷ []) = if bytes_eq command (codes "check") then check_of (client_named client) report order else None
check_words _ = None

-- what is asked for, as its code keeps it
abbrev pub said : CheckWords → Check
said words = record { client = words.client; report = words.report.now; order = words.order.now }
