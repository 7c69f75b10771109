-- What holds of each name of an order.
use Rattle.std.proofs.Common.{◌≡◌, ℕ, ◌<◌, ◌≤◌, Bool, true, false, not, cond, ltb, leb, ◌&&◌, List, [], ◌∷◌, length, All, Ok, Err, refl, subst}
use Rattle.std.specs.Str.Parse.{digits_value}
use Rattle.std.proofs.lemmas.Bool.{leb-true, ltb-true}
use Rattle.std.proofs.lemmas.List.Elements.{All-from_recursion}
use Rattle.script_reader.specs.declared.causes.Cause.TheVariants.{BadNumber, BadSeat}
use Rattle.script_reader.specs.Words.{is_number}
use Rattle.script_reader.specs.Faults.{IsOutcomeOf}
use Rattle.script_reader.proofs.Faults.{accepted, refused}
use Rattle.script_reader.proofs.Kept.{file_keeps}
use Rattle.report_check.specs.declared.orders.Named.{Named}
use Rattle.report_check.specs.Orders.{ORDER_LIMIT, NAME_LIMIT, IsName, with_number, named_by, order_outcome}

name_is : (words : List (List ℕ)) (name : Named) → named_by words ≡ Ok name → IsName name
name_is [] name e = absurd cc
name_is (seat ∷ []) name e = absurd cc
name_is (seat ∷ word ∷ []) name e = by_number (is_number word) (ltb 0 number) (leb number 65535) refl refl e
  where
    number : ℕ
    number = digits_value 10 word

    by_seat : (a b : Bool) → ltb (digits_value 10 seat) 8 ≡ b → 0 < digits_value 10 word → digits_value 10 word ≤ 65535
        → cond (not a) (Err BadNumber) (cond b (Ok (record { seat = digits_value 10 seat; number = digits_value 10 word })) (Err BadSeat)) ≡ Ok name → IsName name
    by_seat true true small some few e =
        let built : Named = record { seat = digits_value 10 seat; number = digits_value 10 word } in
        let same : built ≡ name = cc in
        subst IsName same (record { seat = ltb-true (digits_value 10 seat) 8 small; counted = some; number = few })
    by_seat true false small some few e = absurd cc
    by_seat false b small some few e = absurd cc

    by_number : (a b c : Bool) → ltb 0 (digits_value 10 word) ≡ b → leb (digits_value 10 word) 65535 ≡ c
        → with_number seat (cond (a && b && c) (Ok (digits_value 10 word)) (Err BadNumber)) ≡ Ok name → IsName name
    by_number true true true some few e =
        by_seat (is_number seat) (ltb (digits_value 10 seat) 8) refl (ltb-true 0 (digits_value 10 word) some) (leb-true (digits_value 10 word) 65535 few) e
    by_number true true false some few e = absurd cc
    by_number true false c some few e = absurd cc
    by_number false b c some few e = absurd cc
name_is (seat ∷ number ∷ word ∷ words) name e = absurd cc

pub order_lines : (bytes : List ℕ) → IsOutcomeOf ORDER_LIMIT named_by NAME_LIMIT bytes (order_outcome bytes)
unfolding order_outcome
order_lines bytes = record { accepted = accepted named_by NAME_LIMIT ORDER_LIMIT bytes; refused = refused named_by NAME_LIMIT ORDER_LIMIT bytes }

pub order_names : (bytes : List ℕ) (names : List Named) → order_outcome bytes ≡ Ok names → All IsName names × (length names ≤ NAME_LIMIT)
unfolding order_outcome
order_names bytes names e =
    let kept = file_keeps named_by NAME_LIMIT IsName name_is ORDER_LIMIT bytes names e in
    (All-from_recursion IsName names kept.0, kept.1)
