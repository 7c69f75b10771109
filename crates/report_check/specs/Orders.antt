-- Orders: which names of calls there are, and what a file of them is.
use Rattle.std.specs.Prelude.{ℕ, ◌<◌, ◌≤◌, not, ◌&&◌, nat_lt, nat_le, if◌then◌else◌, List, [], ◌∷◌, Result, Ok, Err}
use Rattle.std.specs.Str.Parse.{digits_value}
use Rattle.script_reader.specs.declared.causes.Cause.{Cause}
use Rattle.script_reader.specs.declared.causes.Cause.TheVariants.{BadCommand, BadNumber, BadSeat}
use Rattle.script_reader.specs.declared.causes.Refusal.{Refusal}
use Rattle.script_reader.specs.Words.{is_number}
use Rattle.script_reader.specs.Outcomes.{outcome_within}
use Rattle.report_check.specs.declared.orders.Named.{Named}

-- bytes of an order
abbrev pub ORDER_LIMIT : ℕ
ORDER_LIMIT = 4194304

-- lines with words of an order: eight seats make so many calls at most
abbrev pub NAME_LIMIT : ℕ
NAME_LIMIT = 524280

-- a name that some call may have
pub record IsName (name : Named) : Type 0 where
  pub seat : name.seat < 8
  pub counted : 0 < name.number
  pub number : name.number ≤ 65535

-- the number of a call: digits alone, from 1 to the most calls of a seat
abbrev pub number_of : List ℕ → Result ℕ Cause
number_of word =
    if is_number word && nat_lt 0 (digits_value 10 word) && nat_le (digits_value 10 word) 65535
    then Ok (digits_value 10 word)
    else Err BadNumber

-- a number at fault is told before a seat that no report has
abbrev pub with_number : List ℕ → Result ℕ Cause → Result Named Cause
with_number seat (Err cause) = Err cause
with_number seat (Ok number) =
    if not (is_number seat) then Err BadNumber
    else (if nat_lt (digits_value 10 seat) 8 then Ok (record { seat = digits_value 10 seat; number = number })
    else Err BadSeat)

-- the rules for a seat word and a number word
abbrev pub name_from : List ℕ → List ℕ → Result Named Cause
name_from seat number = with_number seat (number_of number)

-- the words of a line as the name of a call
abbrev pub named_by : List (List ℕ) → Result Named Cause
named_by (seat ∷ number ∷ []) = name_from seat number
named_by _ = Err BadCommand

-- what an order is: the names of its lines, or the line and cause for which it is refused
unfoldable pub order_outcome : List ℕ → Result (List Named) Refusal
order_outcome bytes = outcome_within ORDER_LIMIT named_by NAME_LIMIT bytes
