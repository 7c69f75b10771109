-- The call on the first line of bytes, where it may stand there.
use Rattle.std.proofs.Common.{◌≡◌, ℕ, true, false, Option, Some, None, List, [], ◌∷◌, ◌++◌, sym, ap, subst, ◌∙◌, append_assoc}
use Rattle.std.specs.Option.{option_map}
use Rattle.std.proofs.lemmas.Option.{same_Some, some_pair_parts}
use Rattle.lin_report.specs.declared.calls.Client.{Client}
use Rattle.lin_report.specs.Calls.{Call}
use Rattle.lin_report.specs.Text.{NEWLINE}
use Rattle.report_check.specs.CallLines.{line_at, call_at, IsLineOf}
use Rattle.report_check.specs.Beginnings.{may_follow, IsNext, TellsNext}
use Rattle.report_check.proofs.LineTexts.LineFields.{line_takes}
use Rattle.report_check.proofs.LineTexts.CallsOnLines.{fields, line_is, call_again}
use Rattle.report_check.proofs.LineTexts.CleanLines.{first_line_is}

-- where a call is next, its line is the first
line_of_next : (client : Client) (before : List Call) (bytes : List ℕ) (c : Call) (rest : List ℕ) → IsNext client before bytes c rest → line_at bytes ≡ Some (fields c, rest)
line_of_next client before bytes c rest next = ap line_at next.text ∙ first_line_is client c rest next.printable next.command

-- and the bytes of that line are its own
pub is_line_of_next : (client : Client) (before : List Call) (bytes : List ℕ) (c : Call) (rest : List ℕ) → IsNext client before bytes c rest → IsLineOf client (fields c) c
is_line_of_next client before bytes c rest next = record { printable = next.printable; command = next.command; text = sym (line_is c) }

-- bytes without a line have no next call
pub no_line : (client : Client) (before : List Call) (bytes : List ℕ) → line_at bytes ≡ None → (c : Call) (rest : List ℕ) → ¬ IsNext client before bytes c rest
no_line client before bytes none c rest next = let some = sym none ∙ line_of_next client before bytes c rest next in absurd cc

-- nor have those whose first line is of no call
pub no_call : (client : Client) (before : List Call) (bytes first behind : List ℕ) → line_at bytes ≡ Some (first, behind) → ((c : Call) → ¬ IsLineOf client first c)
    → (c : Call) (rest : List ℕ) → ¬ IsNext client before bytes c rest
no_call client before bytes first behind at none c rest next =
    let parts = some_pair_parts first (fields c) behind rest (sym at ∙ line_of_next client before bytes c rest next) in
    none c (subst (λ (b : List ℕ). IsLineOf client b c) (sym parts.0) (is_line_of_next client before bytes c rest next))

-- nor those whose first line is of a call that may not follow
pub no_follower : (client : Client) (before : List Call) (bytes first behind : List ℕ) (l : Call) → line_at bytes ≡ Some (first, behind) → IsLineOf client first l → may_follow before l ≡ false
    → (c : Call) (rest : List ℕ) → ¬ IsNext client before bytes c rest
no_follower client before bytes first behind l at is not_so c rest next =
    let parts = some_pair_parts first (fields c) behind rest (sym at ∙ line_of_next client before bytes c rest next) in
    let read = sym (call_again client first l is) ∙ ap (call_at client) parts.0 ∙ call_again client (fields c) c (is_line_of_next client before bytes c rest next) in
    let same : l ≡ c = same_Some l c read in
    let follows = next.follows in
    let test : may_follow before c ≡ false = ap (may_follow before) (sym same) ∙ not_so in absurd cc

-- and a first line of a call that may follow is next
pub is_next : (client : Client) (before : List Call) (bytes first behind : List ℕ) (l : Call) → line_at bytes ≡ Some (first, behind) → IsLineOf client first l → may_follow before l ≡ true
    → IsNext client before bytes l behind
is_next client before bytes first behind l at is so = record {
  printable = is.printable;
  command = is.command;
  follows = so;
  text = line_takes bytes first behind at ∙ sym (append_assoc first (NEWLINE ∷ []) behind) ∙ ap (λ (b : List ℕ). b ++ behind) is.text;
}

-- where nothing was found
pub tells_none : {X : Type 0} (client : Client) (before : List Call) (bytes : List ℕ) (found : Option X) (seen : X → Call × List ℕ) → found ≡ None
    → ((c : Call) (rest : List ℕ) → ¬ IsNext client before bytes c rest) → TellsNext client before bytes (option_map seen found)
tells_none client before bytes found seen e none = subst (λ o. TellsNext client before bytes (option_map seen o)) (sym e) none
