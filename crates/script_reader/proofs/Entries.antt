-- What holds of each command of a command file, and of each entry of a schedule.
use Rattle.std.proofs.Common.{◌≡◌, ℕ, ◌<◌, ◌≤◌, ◌==◌, Bool, true, false, not, cond, ltb, leb, ◌&&◌, List, [], ◌∷◌, Option, Some, None, Ok, Err, refl, subst, arith}
use Rattle.std.specs.Prelude.{IsTrue, codes}
use Rattle.std.specs.Str.{bytes_eq}
use Rattle.std.specs.Str.Parse.{digits_value}
use Rattle.std.proofs.lemmas.Bool.{leb-true, ltb-true, or_left}
use Rattle.std.proofs.lemmas.Bool.Decides.{nat_tests}
use Rattle.lin_report.specs.declared.calls.Client.{Client}
use Rattle.lin_report.specs.declared.calls.Client.TheVariants as client
use Rattle.lin_report.specs.declared.calls.Op.{Op}
use Rattle.lin_report.specs.declared.calls.TheConstants.{PUT, TAKE, ADD, DEL, HAS, SET, REM, GET, PEEK, MIN}
use Rattle.lin_report.specs.Commands.{is_set_command, takes_nothing}
use Rattle.lin_report.specs.Object.{is_command}
use Rattle.script_reader.specs.declared.causes.Cause.TheVariants.{BadCommand, BadNumber, BadSeat}
use Rattle.script_reader.specs.declared.scripts.Numbers.{Numbers}
use Rattle.script_reader.specs.declared.scripts.Numbers.TheVariants.{NoNumber, OneValue, OneKey, KeyAndValue}
use Rattle.script_reader.specs.Words.{is_number, number_up_to}
use Rattle.script_reader.specs.declared.schedules.Span.{Span}
use Rattle.script_reader.specs.declared.schedules.Span.TheVariants.{Steps, ToEnd, ToExchange}
use Rattle.script_reader.specs.declared.schedules.ScheduleEntry.{ScheduleEntry}
use Rattle.script_reader.specs.Schedules.{STEP_LIMIT, is_span, steps_of, span_named, entry_with, entry_of, IsSpanInRange}
use Rattle.script_reader.specs.Scripts.{GREATEST_KEY, GREATEST_VALUE, queue_command, set_command, list_command, map_command, command_named, op_of, op_from_words, command_from, command_of}

-- the numbers of an operation are those that its command takes
abbrev pub TakesNumbers : Numbers → Op → Type 0
TakesNumbers NoNumber op = (op.key ≡ 0) × (op.value ≡ 0)
TakesNumbers OneValue op = op.key ≡ 0
TakesNumbers OneKey op = (op.key < 1048576) × (op.value ≡ 0)
TakesNumbers KeyAndValue op = op.key < 1048576

number_within : (a : Bool) (n most : ℕ) (m : ℕ) → cond (a && leb n most) (Some n) None ≡ Some m → m ≤ most
number_within true n most m e = by_test (leb n most) refl e
  where
    by_test : (b : Bool) → leb n most ≡ b → cond b (Some n) None ≡ Some m → m ≤ most
    by_test true le e = let same : n ≡ m = cc in omega (arith, leb-true n most le)
    by_test false le e = absurd cc
number_within false n most m e = absurd cc

-- a number that was read is not above its limit
read_within : (most : ℕ) (word : List ℕ) (m : ℕ) → number_up_to most word ≡ Some m → m ≤ most
read_within most word m e = number_within (is_number word) (digits_value 10 word) most m e

-- an operation that was made has these numbers
record IsMade (code : ℕ) (key value : Option ℕ) (op : Op) : Type 0 where
  code_is : op.code ≡ code
  key_is : key ≡ Some op.key
  value_is : value ≡ Some op.value

made : (code : ℕ) (key value : Option ℕ) (op : Op) → op_of code key value ≡ Ok op → IsMade code key value op
made code (Some key) (Some value) op e =
    let built : Op = record { code = code; key = key; value = value } in
    let same : built ≡ op = cc in
    subst (IsMade code (Some key) (Some value)) same (record { code_is = refl; key_is = refl; value_is = refl })
made code (Some key) None op e = absurd cc
made code None value op e = absurd cc

takes_numbers : (code : ℕ) (numbers : Numbers) (words : List (List ℕ)) (op : Op) → op_from_words code numbers words ≡ Ok op → (op.code ≡ code) × TakesNumbers numbers op
takes_numbers code NoNumber [] op e = let m = made code (Some 0) (Some 0) op e in (m.code_is, (cc, cc))
takes_numbers code NoNumber (word ∷ words) op e = absurd cc
takes_numbers code OneValue [] op e = absurd cc
takes_numbers code OneValue (value ∷ []) op e = let m = made code (Some 0) (number_up_to GREATEST_VALUE value) op e in (m.code_is, cc)
takes_numbers code OneValue (value ∷ word ∷ words) op e = absurd cc
takes_numbers code OneKey [] op e = absurd cc
takes_numbers code OneKey (key ∷ []) op e =
    let m = made code (number_up_to GREATEST_KEY key) (Some 0) op e in
    (m.code_is, (omega (arith, read_within GREATEST_KEY key op.key m.key_is), cc))
takes_numbers code OneKey (key ∷ word ∷ words) op e = absurd cc
takes_numbers code KeyAndValue [] op e = absurd cc
takes_numbers code KeyAndValue (key ∷ []) op e = absurd cc
takes_numbers code KeyAndValue (key ∷ value ∷ []) op e =
    let m = made code (number_up_to GREATEST_KEY key) (number_up_to GREATEST_VALUE value) op e in
    (m.code_is, omega (arith, read_within GREATEST_KEY key op.key m.key_is))
takes_numbers code KeyAndValue (key ∷ value ∷ word ∷ words) op e = absurd cc

-- the command that a word names takes the numbers of a command of the client
abbrev pub Names : Client → Option (ℕ × Numbers) → Type 0
Names client None = Unit {0}
Names client (Some command) = (op : Op) → op.code ≡ command.0 → TakesNumbers command.1 op → is_command client op ≡ true

queue_names : (word : List ℕ) → Names client.Queue (queue_command word)
queue_names word = by_tests (bytes_eq word (codes "put")) (bytes_eq word (codes "take")) (bytes_eq word (codes "peek"))
  where
    by_tests : (a b c : Bool) → Names client.Queue (cond a (Some (PUT, OneValue)) (cond b (Some (TAKE, NoNumber)) (cond c (Some (PEEK, NoNumber)) None)))
    by_tests true b c = λ op code numbers. grind (arith, nat_tests)
    by_tests false true c = λ op code numbers. grind (arith, nat_tests)
    by_tests false false true = λ op code numbers. grind (arith, nat_tests)
    by_tests false false false = tt

set_names : (word : List ℕ) → Names client.Buckets (set_command word)
set_names word = by_tests (bytes_eq word (codes "add")) (bytes_eq word (codes "del")) (bytes_eq word (codes "has"))
  where
    by_tests : (a b c : Bool) → Names client.Buckets (cond a (Some (ADD, OneKey)) (cond b (Some (DEL, OneKey)) (cond c (Some (HAS, OneKey)) None)))
    by_tests true b c = λ op code numbers. grind (arith, nat_tests)
    by_tests false true c = λ op code numbers. grind (arith, nat_tests)
    by_tests false false true = λ op code numbers. grind (arith, nat_tests)
    by_tests false false false = tt

-- a command of a set is one of a list too
set_in_list : (found : Option (ℕ × Numbers)) → Names client.Buckets found → Names client.List found
set_in_list None named = tt
set_in_list (Some command) named = λ op code numbers. or_left (is_set_command op) (op.code == MIN && takes_nothing op) (named op code numbers)

list_names : (word : List ℕ) → Names client.List (list_command word)
list_names word = by_test (bytes_eq word (codes "min"))
  where
    by_test : (a : Bool) → Names client.List (cond a (Some (MIN, NoNumber)) (set_command word))
    by_test true = λ op code numbers. grind (arith, nat_tests)
    by_test false = set_in_list (set_command word) (set_names word)

map_names : (word : List ℕ) → Names client.Tree (map_command word)
map_names word = by_tests (bytes_eq word (codes "set")) (bytes_eq word (codes "rem")) (bytes_eq word (codes "get"))
  where
    by_tests : (a b c : Bool) → Names client.Tree (cond a (Some (SET, KeyAndValue)) (cond b (Some (REM, OneKey)) (cond c (Some (GET, OneKey)) None)))
    by_tests true b c = λ op code numbers. grind (arith, nat_tests)
    by_tests false true c = λ op code numbers. grind (arith, nat_tests)
    by_tests false false true = λ op code numbers. grind (arith, nat_tests)
    by_tests false false false = tt

pub names : (client : Client) (word : List ℕ) → Names client (command_named client word)
names client.Queue word = queue_names word
names client.List word = list_names word
names client.Buckets word = set_names word
names client.Tree word = map_names word

-- a line that is accepted is a command of the client
pub command_is : (client : Client) (words : List (List ℕ)) (op : Op) → command_of client words ≡ Ok op → IsTrue (is_command client op)
command_is client [] op e = absurd cc
command_is client (word ∷ words) op e = by_name (command_named client word) (names client word) e
  where
    by_name : (found : Option (ℕ × Numbers)) → Names client found → command_from found words ≡ Ok op → IsTrue (is_command client op)
    by_name None named e = absurd cc
    by_name (Some command) named e = let taken = takes_numbers command.0 command.1 words op e in named op taken.0 taken.1

-- the steps of digits are in range
steps_in_range : (n : ℕ) (span : Span) → steps_of n ≡ Some span → IsSpanInRange span
steps_in_range n span e = by_tests (ltb 0 n) (leb n STEP_LIMIT) refl refl e
  where
    by_tests : (a b : Bool) → ltb 0 n ≡ a → leb n STEP_LIMIT ≡ b → cond (a && b) (Some (Steps n)) None ≡ Some span → IsSpanInRange span
    by_tests true true low high e =
        let some : 1 ≤ n = ltb-true 0 n low in
        let same : Steps n ≡ span = cc in
        subst IsSpanInRange same (some, leb-true n STEP_LIMIT high)
    by_tests true false low high e = absurd cc
    by_tests false b low high e = absurd cc

span_in_range : (word : List ℕ) (span : Span) → span_named word ≡ Some span → IsSpanInRange span
span_in_range word span e = by_tests (bytes_eq word (codes "end")) (bytes_eq word (codes "exchange")) e
  where
    by_tests : (a b : Bool) → cond a (Some ToEnd) (cond b (Some ToExchange) (steps_of (digits_value 10 word))) ≡ Some span → IsSpanInRange span
    by_tests true b e = let same : ToEnd ≡ span = cc in subst IsSpanInRange same tt
    by_tests false true e = let same : ToExchange ≡ span = cc in subst IsSpanInRange same tt
    by_tests false false e = steps_in_range (digits_value 10 word) span e

-- an entry is of a seat that has a file, and goes so far as an entry may
entry_with_is : (seats seat : ℕ) (span : Option Span) (entry : ScheduleEntry) → ((s : Span) → span ≡ Some s → IsSpanInRange s) → entry_with seats seat span ≡ Ok entry → (entry.seat < seats) × IsSpanInRange entry.span
entry_with_is seats seat None entry in_range e = absurd cc
entry_with_is seats seat (Some span) entry in_range e = by_test (ltb seat seats) refl e
  where
    by_test : (b : Bool) → ltb seat seats ≡ b → cond b (Ok (record { seat = seat; span = span })) (Err BadSeat) ≡ Ok entry → (entry.seat < seats) × IsSpanInRange entry.span
    by_test true lt e =
        let built : ScheduleEntry = record { seat = seat; span = span } in
        let same : built ≡ entry = cc in
        subst (λ (x : ScheduleEntry). (x.seat < seats) × IsSpanInRange x.span) same (ltb-true seat seats lt, in_range span refl)
    by_test false lt e = absurd cc

pub entry_is : (seats : ℕ) (words : List (List ℕ)) (entry : ScheduleEntry) → entry_of seats words ≡ Ok entry → (entry.seat < seats) × IsSpanInRange entry.span
entry_is seats [] entry e = absurd cc
entry_is seats (seat ∷ []) entry e = absurd cc
entry_is seats (seat ∷ span ∷ []) entry e = by_tests (is_span span) (is_number seat) e
  where
    by_tests : (a b : Bool) → cond (not a) (Err BadCommand) (cond (not b) (Err BadNumber) (entry_with seats (digits_value 10 seat) (span_named span))) ≡ Ok entry → (entry.seat < seats) × IsSpanInRange entry.span
    by_tests true true e = entry_with_is seats (digits_value 10 seat) (span_named span) entry (span_in_range span) e
    by_tests true false e = absurd cc
    by_tests false b e = absurd cc
entry_is seats (seat ∷ span ∷ word ∷ words) entry e = absurd cc

value_within : (code : ℕ) (numbers : Numbers) (words : List (List ℕ)) (op : Op) → op_from_words code numbers words ≡ Ok op → op.value ≤ GREATEST_VALUE
value_within code NoNumber [] op e = let m = made code (Some 0) (Some 0) op e in let same : 0 ≡ op.value = cc in omega arith
value_within code NoNumber (word ∷ words) op e = absurd cc
value_within code OneValue [] op e = absurd cc
value_within code OneValue (value ∷ []) op e = let m = made code (Some 0) (number_up_to GREATEST_VALUE value) op e in read_within GREATEST_VALUE value op.value m.value_is
value_within code OneValue (value ∷ word ∷ words) op e = absurd cc
value_within code OneKey [] op e = absurd cc
value_within code OneKey (key ∷ []) op e = let m = made code (number_up_to GREATEST_KEY key) (Some 0) op e in let same : 0 ≡ op.value = cc in omega arith
value_within code OneKey (key ∷ word ∷ words) op e = absurd cc
value_within code KeyAndValue [] op e = absurd cc
value_within code KeyAndValue (key ∷ []) op e = absurd cc
value_within code KeyAndValue (key ∷ value ∷ []) op e = let m = made code (number_up_to GREATEST_KEY key) (number_up_to GREATEST_VALUE value) op e in read_within GREATEST_VALUE value op.value m.value_is
value_within code KeyAndValue (key ∷ value ∷ word ∷ words) op e = absurd cc

-- the value of a command is in range
pub command_value : (client : Client) (words : List (List ℕ)) (op : Op) → command_of client words ≡ Ok op → op.value ≤ GREATEST_VALUE
command_value client [] op e = absurd cc
command_value client (word ∷ words) op e = by_name (command_named client word) e
  where
    by_name : (found : Option (ℕ × Numbers)) → command_from found words ≡ Ok op → op.value ≤ GREATEST_VALUE
    by_name None e = absurd cc
    by_name (Some command) e = value_within command.0 command.1 words op e
