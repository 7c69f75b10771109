-- The lines of calls with which bytes begin, one after the other.
use Rattle.std.proofs.Common.{◌≡◌, ℕ, ◌<◌, Bool, false, Option, Some, None, List, [], ◌∷◌, ◌++◌, length, map, All, refl, sym, ap, subst, ◌∙◌, arith, append_assoc, length-append}
use Rattle.std.specs.Prelude.{IsTrue}
use Rattle.std.specs.Option.{option_map}
use Rattle.std.proofs.lemmas.List.{map-append, append-nil}
use Rattle.std.proofs.lemmas.Grind.{flat_map-append}
use Rattle.lin_report.specs.declared.calls.Client.{Client}
use Rattle.lin_report.specs.Calls.{Call}
use Rattle.lin_report.specs.Object.{is_command}
use Rattle.lin_report.specs.Text.{NEWLINE, call_line, lines}
use Rattle.lin_report.specs.Writing.{IsPrintable}
use Rattle.report_check.specs.declared.call_lines.CallLine.{CallLine}
use Rattle.report_check.specs.CallLines.{call_of}
use Rattle.report_check.specs.Beginnings.{SEATS, TICKS, Knows, last_line, may_follow, IsNext, AreInOrder, BeginsWith}
use Rattle.report_check.proofs.LineTexts.CallsOnLines.{fields, line_is}
use Rattle.report_check.proofs.CallsRead.OneCallMore.{last_line_more}

pub nothing_known : (last : List (Option CallLine)) (ticks : List Bool) → length last ≡ SEATS → length ticks ≡ TICKS
    → All (λ call. call ≡ None) last → All (λ tick. tick ≡ false) ticks → Knows [] last ticks
nothing_known last ticks seats long none undrawn = record {
  seats = seats;
  long = long;
  last_is = λ seat lt. ap (option_map call_of) (none seat None (omega (arith, seats, lt)));
  drawn = λ tick lt. undrawn tick false (omega (arith, long, lt));
}

-- one more at the end
in_order_more : (client : Client) (before calls : List Call) (c : Call) → AreInOrder client before calls
    → IsPrintable c → IsTrue (is_command client c.op) → IsTrue (may_follow (before ++ calls) c) → AreInOrder client before (calls ++ c ∷ [])
in_order_more client before [] c order printable command follows =
    ((printable, command, subst (λ (ds : List Call). IsTrue (may_follow ds c)) (append-nil before) follows), tt)
in_order_more client before (d ∷ calls) c order printable command follows = (
  order.0,
  in_order_more client (before ++ d ∷ []) calls c order.1 printable command
      (subst (λ (ds : List Call). IsTrue (may_follow ds c)) (sym (append_assoc before (d ∷ []) calls)) follows),
)

lines_more : (calls : List Call) (c : Call) → lines (calls ++ c ∷ []) ≡ lines calls ++ call_line c
unfolding lines
lines_more calls c = flat_map-append call_line calls (c ∷ []) ∙ ap (λ (b : List ℕ). lines calls ++ b) (append-nil (call_line c))

-- what a reader of lines keeps: the calls so far are those with which the bytes begin
pub record Stands (client : Client) (bytes : List ℕ) (calls : List CallLine) (line : Option CallLine) (last : List (Option CallLine)) (ticks : List Bool) (rest : List ℕ) : Type 0 where
  pub text : bytes ≡ lines (map call_of calls) ++ rest
  pub in_order : AreInOrder client [] (map call_of calls)
  pub line_is : option_map call_of line ≡ last_line None (map call_of calls)
  pub knows : Knows (map call_of calls) last ticks

pub stands_first : (client : Client) (bytes : List ℕ) (last : List (Option CallLine)) (ticks : List Bool) → Knows [] last ticks → Stands client bytes [] None last ticks bytes
unfolding lines
stands_first client bytes last ticks knows = record { text = refl; in_order = tt; line_is = refl; knows = knows }

pub stands_more : (client : Client) (bytes : List ℕ) (calls : List CallLine) (line : Option CallLine) (last last2 : List (Option CallLine)) (ticks ticks2 : List Bool) (rest behind : List ℕ) (l : CallLine)
    → Stands client bytes calls line last ticks rest → IsNext client (map call_of calls) rest (call_of l) behind
    → Knows (map call_of calls ++ call_of l ∷ []) last2 ticks2
    → Stands client bytes (calls ++ l ∷ []) (Some l) last2 ticks2 behind
stands_more client bytes calls line last last2 ticks ticks2 rest behind l stands next knows = record {
  text =
      stands.text ∙ ap (λ (b : List ℕ). lines (map call_of calls) ++ b) next.text
      ∙ sym (append_assoc (lines (map call_of calls)) (call_line (call_of l)) behind)
      ∙ ap (λ (b : List ℕ). b ++ behind) (sym (lines_more (map call_of calls) (call_of l)))
      ∙ ap (λ (cs : List Call). lines cs ++ behind) (sym joined);
  in_order = subst (AreInOrder client []) (sym joined) (in_order_more client [] (map call_of calls) (call_of l) stands.in_order next.printable next.command next.follows);
  line_is = sym (ap (last_line None) joined ∙ last_line_more None (map call_of calls) (call_of l));
  knows = subst (λ (cs : List Call). Knows cs last2 ticks2) (sym joined) knows;
}
  where
    joined : map call_of (calls ++ l ∷ []) ≡ map call_of calls ++ call_of l ∷ []
    joined = map-append call_of calls (l ∷ [])

pub begins_with : (client : Client) (bytes : List ℕ) (calls : List CallLine) (line : Option CallLine) (last : List (Option CallLine)) (ticks : List Bool) (rest : List ℕ)
    → Stands client bytes calls line last ticks rest → ((c : Call) (after : List ℕ) → ¬ IsNext client (map call_of calls) rest c after)
    → BeginsWith client bytes (map call_of calls) rest
begins_with client bytes calls line last ticks rest stands none = record { text = stands.text; in_order = stands.in_order; no_more = none }

-- a line takes bytes
pub shorter : (client : Client) (before : List Call) (bytes : List ℕ) (c : Call) (rest : List ℕ) → IsNext client before bytes c rest → length rest < length bytes
shorter client before bytes c rest next =
    let long = ap length next.text ∙ length-append (call_line c) rest in
    let own = ap length (line_is c) ∙ length-append (fields c) (NEWLINE ∷ []) in
    omega (arith, long, own)

-- what is known of lists is known of their borrows
pub known_seen : (before : List Call) (last last2 : List (Option CallLine)) (ticks ticks2 : List Bool) → last2 ≡ last → ticks2 ≡ ticks → Knows before last ticks → Knows before last2 ticks2
known_seen before last last2 ticks ticks2 same same_ticks knows =
    subst (λ (ls : List (Option CallLine)). Knows before ls ticks2) (sym same) (subst (λ (ts : List Bool). Knows before last ts) (sym same_ticks) knows)
