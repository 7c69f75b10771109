-- A report can tell the stack's calls, and words that are all 0 open it.
use Rattle.std.proofs.Common.{◌≢◌, ℕ, ◌<◌, IsTrue, List, [], ◌∷◌, All, refl, arith}
use Rattle.std.proofs.lemmas.Bool.Decides.{nat_tests}
use Rattle.std.proofs.lemmas.Grind.{common_steps}
use Rattle.std.proofs.lemmas.List.Elements.{All-nil, All-head, All-tail}
use Rattle.lin_report.specs.declared.calls.Op.{Op}
use Rattle.lin_report.specs.declared.calls.Reply.TheVariants.{Exhausted}
use Rattle.lin_report.specs.Commands.{IsReplyTo, VALUE_LIMIT}
use Rattle.lin_report.specs.Object.{IsCommandOf, held_after}
use Rattle.lin_report.specs.Tellable.{IsTellable}
use Rattle.node_arena.specs.Opening.{IsOpening}
use Rattle.treiber_stack_form.specs.Object.{is_stack_command, stack_apply, stack_object}

pub zeros_open : IsOpening (λ place. 0)
zeros_open = record { zero_first = λ place low none. refl; zero_behind = λ place behind. refl; small = λ place. omega arith }

-- values in range
abbrev InRange : List ℕ → Type 0
InRange values = All (λ v. v < VALUE_LIMIT) values

-- a command leaves values in range
range_kept : (op : Op) (values : List ℕ) → op.value < VALUE_LIMIT → InRange values → InRange (stack_apply op values).0
range_kept op [] low small = grind (arith, nat_tests, common_steps)
range_kept op (v ∷ values) low small = grind (arith, nat_tests, common_steps, All-tail (λ v. v < VALUE_LIMIT) v values small)

-- and is given a reply that it may be given
reply_fits : (op : Op) (values : List ℕ) → IsTrue (is_stack_command op) → InRange values → IsReplyTo op (stack_apply op values).1
reply_fits op [] command small = record { named = grind (arith, nat_tests); value = grind (arith, nat_tests) }
reply_fits op (v ∷ values) command small = record { named = grind (arith, nat_tests); value = grind (arith, nat_tests, All-head (λ v. v < VALUE_LIMIT) v values small) }

-- also after commands
fits_from : (values : List ℕ) (ops : List Op) (op : Op) → InRange values → All (IsCommandOf stack_object) ops → IsCommandOf stack_object op → IsReplyTo op (stack_apply op (held_after stack_object values ops)).1
fits_from values [] op small before command = reply_fits op values command.command small
fits_from values (first ∷ ops) op small before command =
    fits_from (stack_apply first values).0 ops op (range_kept first values (All-head (IsCommandOf stack_object) first ops before).value small) (All-tail (IsCommandOf stack_object) first ops before) command

answers : (op : Op) (values : List ℕ) → (stack_apply op values).1 ≢ Exhausted
answers op [] = grind (arith, nat_tests)
answers op (v ∷ values) = grind (arith, nat_tests)

pub stack_is_tellable : IsTellable stack_object
stack_is_tellable = record {
  named = λ op command. grind (arith, nat_tests);
  fits = λ ops op before command. fits_from [] ops op (All-nil (λ v. v < VALUE_LIMIT)) before command;
  answers = answers;
}
