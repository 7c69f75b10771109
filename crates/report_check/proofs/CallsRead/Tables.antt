-- A call more at its place.
use Rattle.std.proofs.Common.{◌≡◌, ℕ, ◌+◌, ◌<◌, Bool, true, false, cond, Option, Some, None, List, [], ◌∷◌, ◌++◌, map, length, take, drop, get_or, All, AllPairs, refl, sym, ap, subst, ◌∙◌, arith, append_assoc}
use Rattle.std.specs.Option.{option_map}
use Rattle.std.proofs.Math.ListN.{set, length-set}
use Rattle.std.proofs.lemmas.List.{get_or-set_same, get_or-set_other, take-append-drop, drop_more, take_more, map-append}
use Rattle.std.proofs.lemmas.List.Elements.{All-head, All-tail}
use Rattle.lin_report.specs.Calls.{Call, IsSameCall}
use Rattle.report_check.specs.declared.orders.Named.{Named}
use Rattle.report_check.specs.declared.table.Told.{Told}
use Rattle.report_check.specs.Orders.{IsName}
use Rattle.report_check.specs.Verdicts.{name_of, same_name, call_named}
use Rattle.report_check.specs.Tables.{PLACES, table_place, told, IsTableOf, Marks}
use Rattle.report_check.proofs.JudgedOrders.Names.{same_from_test, place_differs, same_call}
use Rattle.report_check.proofs.Pairs.{pairs_before}

push_other : (calls : List Call) (c : Call) (name : Named) → same_name name (name_of c) ≡ false → call_named (calls ++ c ∷ []) name ≡ call_named calls name
push_other [] c name e = ap (λ b. cond b (Some c) None) e
push_other (d ∷ calls) c name e = ap (cond (same_name name (name_of d)) (Some d)) (push_other calls c name e)

push_new : (calls : List Call) (c : Call) (name : Named) → All (λ d. ¬ IsSameCall d c) calls → same_name name (name_of c) ≡ true → call_named (calls ++ c ∷ []) name ≡ Some c
push_new [] c name apart e = ap (λ b. cond b (Some c) None) e
push_new (d ∷ calls) c name apart e =
    by_test (push_new calls c name (All-tail (λ (d : Call). ¬ IsSameCall d c) d calls apart) e) (same_name name (name_of d)) refl
  where
    by_test : call_named (calls ++ c ∷ []) name ≡ Some c → (b : Bool) → same_name name (name_of d) ≡ b → cond b (Some d) (call_named (calls ++ c ∷ []) name) ≡ Some c
    by_test rest true same =
        absurd (All-head (λ (d : Call). ¬ IsSameCall d c) d calls apart (same_call d c (sym (same_from_test name (name_of d) same) ∙ same_from_test name (name_of c) e)))
    by_test rest false same = rest

put : (calls : List Call) (c : Call) (table : List (Option Told)) → IsName (name_of c) → All (λ d. ¬ IsSameCall d c) calls → IsTableOf calls table
    → IsTableOf (calls ++ c ∷ []) (set table (table_place (name_of c)) (Some (told c)))
put calls c table is apart stands = record { long = length-set table (table_place (name_of c)) (Some (told c)) ∙ stands.long; tells = tells }
  where
    by_test : (name : Named) → IsName name → (b : Bool) → same_name name (name_of c) ≡ b
        → get_or (set table (table_place (name_of c)) (Some (told c))) (table_place name) None ≡ option_map told (call_named (calls ++ c ∷ []) name)
    by_test name named true e =
        let place : table_place name ≡ table_place (name_of c) = ap table_place (same_from_test name (name_of c) e) in
        ap (λ k. get_or (set table (table_place (name_of c)) (Some (told c))) k None) place
        ∙ get_or-set_same table (table_place (name_of c)) (Some (told c)) None (omega (arith, is.seat, is.number, stands.long))
        ∙ sym (ap (option_map told) (push_new calls c name apart e))
    by_test name named false e =
        get_or-set_other table (table_place (name_of c)) (table_place name) (Some (told c)) None (place_differs name (name_of c) named is e)
        ∙ stands.tells name named ∙ sym (ap (option_map told) (push_other calls c name e))

    tells : (name : Named) → IsName name → get_or (set table (table_place (name_of c)) (Some (told c))) (table_place name) None ≡ option_map told (call_named (calls ++ c ∷ []) name)
    tells name named = by_test name named (same_name name (name_of c)) refl

-- the next of the calls that stand in a row
pub put_next : {X : Type 0} (f : X → Call) (calls : List Call) (xs : List X) (i : ℕ) (d : X) (table : List (Option Told)) → i < length xs → IsName (name_of (f (get_or xs i d)))
    → AllPairs (λ c d. ¬ IsSameCall c d) (calls ++ map f xs) → IsTableOf (calls ++ map f (take i xs)) table
    → IsTableOf (calls ++ map f (take (i + 1) xs)) (set table (table_place (name_of (f (get_or xs i d)))) (Some (told (f (get_or xs i d)))))
put_next {X} f calls xs i d table lt is apart stands = subst (λ ds. IsTableOf ds (set table (table_place (name_of c)) (Some (told c)))) (sym joined) (put before c table is alone stands)
  where
    c : Call
    c = f (get_or xs i d)

    before : List Call
    before = calls ++ map f (take i xs)

    parts : xs ≡ take i xs ++ get_or xs i d ∷ drop (i + 1) xs
    parts = sym (take-append-drop i xs) ∙ ap (λ (ys : List X). take i xs ++ ys) (drop_more xs i d lt)

    all : calls ++ map f xs ≡ before ++ c ∷ map f (drop (i + 1) xs)
    all =
        ap (λ (ys : List X). calls ++ map f ys) parts
        ∙ ap (λ (ys : List Call). calls ++ ys) (map-append f (take i xs) (get_or xs i d ∷ drop (i + 1) xs))
        ∙ sym (append_assoc calls (map f (take i xs)) (c ∷ map f (drop (i + 1) xs)))

    joined : calls ++ map f (take (i + 1) xs) ≡ before ++ c ∷ []
    joined =
        ap (λ (ys : List X). calls ++ map f ys) (take_more xs i d lt)
        ∙ ap (λ (ys : List Call). calls ++ ys) (map-append f (take i xs) (get_or xs i d ∷ []))
        ∙ sym (append_assoc calls (map f (take i xs)) (c ∷ []))

    alone : All (λ (e : Call). ¬ IsSameCall e c) before
    alone =
        pairs_before (λ (c d : Call). ¬ IsSameCall c d) before c (map f (drop (i + 1) xs))
        (subst (AllPairs (λ (c d : Call). ¬ IsSameCall c d)) all apart)

-- the same where the place is known as a number
pub put_at : {X : Type 0} (f : X → Call) (calls : List Call) (xs : List X) (i : ℕ) (d : X) (table : List (Option Told)) (place : ℕ) → i < length xs → IsName (name_of (f (get_or xs i d)))
    → place ≡ table_place (name_of (f (get_or xs i d))) → AllPairs (λ c d. ¬ IsSameCall c d) (calls ++ map f xs) → IsTableOf (calls ++ map f (take i xs)) table
    → IsTableOf (calls ++ map f (take (i + 1) xs)) (set table place (Some (told (f (get_or xs i d)))))
put_at {X} f calls xs i d table place lt is at apart stands =
    subst (λ k. IsTableOf (calls ++ map f (take (i + 1) xs)) (set table k (Some (told (f (get_or xs i d)))))) (sym at) (put_next f calls xs i d table lt is apart stands)

-- no call stands at an empty place
pub none_stand : (table : List (Option Told)) → length table ≡ PLACES → All (λ entry. entry ≡ None) table → IsTableOf [] table
none_stand table long empty = record { long = long; tells = λ name is. empty (table_place name) None (omega (arith, is.seat, is.number, long)) }

pub none_marked : (marks : List Bool) → length marks ≡ PLACES → All (λ mark. mark ≡ false) marks → Marks [] marks
none_marked marks long empty = record { long = long; tells = λ name is. empty (table_place name) false (omega (arith, is.seat, is.number, long)) }
