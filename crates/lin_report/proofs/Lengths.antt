-- The line of a call that can be printed has at most 64 bytes.
use Rattle.std.proofs.Common.{◌≡◌, ℕ, ◌+◌, ◌<◌, ◌≤◌, [], ◌∷◌, ◌++◌, length, ◌==◌, ◌||◌, IsTrue, length-append, refl, arith}
use Rattle.std.proofs.lemmas.Bool.Decides.{nat_tests}
use Rattle.std.specs.Fmt.{decimal}
use Rattle.std.proofs.lemmas.Fmt.{length-decimal-le}
use Rattle.lin_report.specs.declared.calls.Op.{Op}
use Rattle.lin_report.specs.declared.calls.Reply.{Reply}
use Rattle.lin_report.specs.declared.calls.Reply.TheVariants.{Yes, No, Done, Value, Empty, Absent, Exhausted}
use Rattle.lin_report.specs.declared.calls.Path.{Path}
use Rattle.lin_report.specs.declared.calls.Path.TheVariants.{Fast, Slow}
use Rattle.lin_report.specs.declared.calls.Receipt.{Receipt}
use Rattle.lin_report.specs.declared.calls.PendingCall.{PendingCall}
use Rattle.lin_report.specs.declared.calls.TheConstants.{TAKE, GET, PEEK, MIN}
use Rattle.lin_report.specs.Commands.{is_some_command, may_answer, told_value, KEY_LIMIT, VALUE_LIMIT}
use Rattle.lin_report.specs.Calls.{answered_call, pending_call}
use Rattle.lin_report.specs.Writing.{IsPrintable, TICK_LIMIT}
use Rattle.lin_report.specs.Text.{SPACE, NEWLINE, spaced, command_words, reply_words, path_word, call_line}
use Rattle.lin_report.proofs.LinePieces.{length_answered, length_pending}

key_in_range : (op : Op) → IsTrue (is_some_command op) → op.key < KEY_LIMIT
key_in_range op h = grind (arith, nat_tests)

-- a command takes at most a key of seven digits and a value of ten
command_length : (op : Op) → IsTrue (is_some_command op) → op.value < VALUE_LIMIT → length (spaced (command_words op)) ≤ 23
unfolding command_words spaced
command_length op command value =
    let key_digits : length (decimal op.key) ≤ 7 = length-decimal-le 7 op.key (omega arith) (omega (arith, key_in_range op command)) (omega (arith, key_in_range op command)) in
    let value_digits : length (decimal op.value) ≤ 10 = length-decimal-le 10 op.value (omega arith) (omega arith) (omega arith) in
    grind (arith, nat_tests, length-append {A = ℕ})

-- a command that is told a value takes a key at most
asking_length : (op : Op) → IsTrue (is_some_command op) → IsTrue (op.code == TAKE || op.code == GET || op.code == PEEK || op.code == MIN) → length (spaced (command_words op)) ≤ 12
unfolding command_words spaced
asking_length op command asks =
    let key_digits : length (decimal op.key) ≤ 7 = length-decimal-le 7 op.key (omega arith) (omega (arith, key_in_range op command)) (omega (arith, key_in_range op command)) in
    grind (arith, nat_tests, length-append {A = ℕ})

-- a command and its reply
exchange_length : (op : Op) (reply : Reply) → IsTrue (is_some_command op) → op.value < VALUE_LIMIT → IsTrue (may_answer op reply) → told_value reply < VALUE_LIMIT →
    length (spaced (command_words op)) + length (spaced (reply_words reply)) ≤ 33
unfolding reply_words spaced
exchange_length op Yes command value may told = omega (arith, command_length op command value)
exchange_length op No command value may told = omega (arith, command_length op command value)
exchange_length op Done command value may told = omega (arith, command_length op command value)
exchange_length op (Value v) command value may told =
    let digits : length (decimal v) ≤ 10 = length-decimal-le 10 v (omega arith) (omega arith) (omega arith) in
    omega (arith, asking_length op command may, length-append (decimal v) [])
exchange_length op Empty command value may told = omega (arith, command_length op command value)
exchange_length op Absent command value may told = omega (arith, command_length op command value)
exchange_length op Exhausted command value may told = omega (arith, command_length op command value)

-- who asks for what
request_length : (seat number : ℕ) (op : Op) → seat < 8 → number ≤ 65535 → length (decimal seat ++ spaced (decimal number ∷ command_words op)) ≤ 7 + length (spaced (command_words op))
unfolding spaced
request_length seat number op is_seat is_number =
    let seat_digits : length (decimal seat) ≤ 1 = length-decimal-le 1 seat (omega arith) (omega arith) (omega arith) in
    let number_digits : length (decimal number) ≤ 5 = length-decimal-le 5 number (omega arith) (omega arith) (omega arith) in
    omega (arith, length-append (decimal seat) (spaced (decimal number ∷ command_words op)), length-append (SPACE ∷ decimal number) (spaced (command_words op)))

tick_length : (tick : ℕ) → tick < TICK_LIMIT → length (decimal tick) ≤ 7
tick_length tick below = length-decimal-le 7 tick (omega arith) (omega arith) (omega arith)

path_length : (path : Path) → length (path_word path) ≡ 4
unfolding path_word
path_length Fast = refl
path_length Slow = refl

ending_length : (path : Path) → length (SPACE ∷ path_word path ++ NEWLINE ∷ []) ≡ 6
ending_length path = omega (arith, length-append (SPACE ∷ path_word path) (NEWLINE ∷ []), path_length path)

pub answered_length : (r : Receipt) → IsPrintable (answered_call r) → length (call_line (answered_call r)) ≤ 64
answered_length r can =
    omega (
      arith,
      length_answered r,
      request_length r.seat r.number r.op can.seat can.number,
      exchange_length r.op r.reply can.command can.value can.answer.reply.named can.answer.reply.value,
      tick_length r.begin can.begin,
      tick_length r.end can.answer.end,
      ending_length r.path,
    )

pub pending_length : (p : PendingCall) → IsPrintable (pending_call p) → length (call_line (pending_call p)) ≤ 64
pending_length p can =
    omega (
      arith,
      length_pending p,
      request_length p.seat p.number p.op can.seat can.number,
      command_length p.op can.command can.value,
      tick_length p.begin can.begin,
      ending_length p.path,
    )
