-- Names that are the same, and their places.
use Rattle.std.proofs.Common.{◌≡◌, ◌≢◌, ℕ, true, false, eqb, ap, ◌∙◌, arith}
use Rattle.std.proofs.lemmas.Bool.{and_parts, and_from, eqb-true, eq-eqb}
use Rattle.lin_report.specs.Calls.{Call, IsSameCall}
use Rattle.report_check.specs.declared.orders.Named.{Named}
use Rattle.report_check.specs.Orders.{IsName}
use Rattle.report_check.specs.Verdicts.{name_of, same_name}
use Rattle.report_check.specs.Tables.{table_place}

-- a name by its two parts
pub by_parts : (a b : Named) → a.seat ≡ b.seat → a.number ≡ b.number → a ≡ b
by_parts a b seats numbers =
    let made : ℕ → ℕ → Named = λ seat number. record { seat = seat; number = number } in
    ap (λ seat. made seat a.number) seats ∙ ap (made b.seat) numbers

pub same_from_test : (a b : Named) → same_name a b ≡ true → a ≡ b
same_from_test a b e =
    let parts = and_parts (eqb a.seat b.seat) (eqb a.number b.number) e in
    by_parts a b (eqb-true a.seat b.seat parts.0) (eqb-true a.number b.number parts.1)

pub test_from_same : (a b : Named) → a ≡ b → same_name a b ≡ true
test_from_same a b e =
    and_from (eqb a.seat b.seat) (eqb a.number b.number) (eq-eqb a.seat b.seat (ap (λ (n : Named). n.seat) e)) (eq-eqb a.number b.number (ap (λ (n : Named). n.number) e))

-- no two names have one place
pub same_from_place : (a b : Named) → IsName a → IsName b → table_place a ≡ table_place b → a ≡ b
same_from_place a b p q e = by_parts a b (omega (arith, p.number, q.number)) (omega (arith, p.number, q.number))

pub place_differs : (a b : Named) → IsName a → IsName b → same_name a b ≡ false → table_place a ≢ table_place b
place_differs a b p q differ e = let same = test_from_same a b (same_from_place a b p q e) in absurd cc

-- calls of one name are the same call
pub same_call : (c d : Call) → name_of c ≡ name_of d → IsSameCall c d
same_call c d e = record { seat = ap (λ (n : Named). n.seat) e; number = ap (λ (n : Named). n.number) e }
