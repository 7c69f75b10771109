-- What an object replies that commands alone were made on: a reply of the table, with its value in range.
use Rattle.std.proofs.Common.{◌≡◌, ℕ, ◌<◌, ◌≢◌, ◌==◌, ◌||◌, not, Bool, true, false, cond, IsTrue, IfSome, Option, Some, None, List, [], ◌∷◌, slice_get, All, refl, sym, ap, ◌∙◌, inl, inr, ◌⊎◌, subst, arith}
use Rattle.std.proofs.lemmas.Bool.{true≢false, and_parts, cases_eq, ne_eqb}
use Rattle.std.proofs.lemmas.Bool.Decides.{nat_tests}
use Rattle.std.proofs.lemmas.List.Elements.{All-nil, All-push, All-head, All-tail}
use Rattle.std.specs.Ordering.{nat_cmp, eq_by_cmp}
use Rattle.std.specs.Cmp.{nat_cmp_total, unsigned_tied}
use Rattle.std.specs.FinSet as set
use Rattle.std.specs.FinMap as map
use Rattle.lin_report.specs.declared.calls.Client.{Client}
use Rattle.lin_report.specs.declared.calls.Client.TheVariants as client
use Rattle.lin_report.specs.declared.calls.Op.{Op}
use Rattle.lin_report.specs.declared.calls.Reply.{Reply}
use Rattle.lin_report.specs.declared.calls.TheConstants.{PUT, TAKE, ADD, DEL, HAS, SET, REM, GET, PEEK, MIN}
use Rattle.lin_report.specs.Commands.{is_queue_command, is_set_command, is_list_command, is_map_command, IsReplyTo, tells_presence, VALUE_LIMIT}
use Rattle.lin_report.specs.Object.{object_of, IsCommandOf, yes_if, take_first, value_or_empty, least, set_apply, map_apply, value_or_absent}
use Rattle.lin_report.proofs.Least.{Keys, least_member}

-- each value that is held, and each key that min may tell, is in range
abbrev pub HoldsInRange : (c : Client) → (object_of c).Held → Type 0
HoldsInRange client.Queue values = All (λ v. v < VALUE_LIMIT) values
HoldsInRange client.List keys = (key : ℕ) → set.contains keys key ≡ true → key < VALUE_LIMIT
HoldsInRange client.Tree pairs = (k : ℕ) → IfSome (map.get pairs k) (λ v. v < VALUE_LIMIT)
HoldsInRange client.Buckets keys = Unit {0}

-- a fact of each branch is one of the choice
by_test : {X : Type 0} (P : X → Type 0) (b : Bool) (x y : X) → (b ≡ true → P x) → (b ≡ false → P y) → P (cond b x y)
by_test P true x y hx hy = hx refl
by_test P false x y hx hy = hy refl

yes_if_fits : (op : Op) (b : Bool) → IsTrue (tells_presence op) → IsReplyTo op (yes_if b)
yes_if_fits op true tells = record { named = tells; value = omega arith }
yes_if_fits op false tells = record { named = tells; value = omega arith }

told_fits : (op : Op) (value : Option ℕ) → IsTrue (op.code == TAKE || op.code == PEEK || op.code == MIN) → IfSome value (λ v. v < VALUE_LIMIT) → IsReplyTo op (value_or_empty value)
told_fits op None tells small = record { named = grind (arith, nat_tests); value = omega arith }
told_fits op (Some v) tells small = record { named = grind (arith, nat_tests); value = small }

take_first_fits : (op : Op) (values : List ℕ) → IsTrue (op.code == TAKE) → All (λ v. v < VALUE_LIMIT) values → IsReplyTo op (take_first values).1
take_first_fits op [] takes small = record { named = grind (arith, nat_tests); value = omega arith }
take_first_fits op (v ∷ values) takes small = record { named = grind (arith, nat_tests); value = All-head (λ w. w < VALUE_LIMIT) v values small }

value_fits : (op : Op) (value : Option ℕ) → IsTrue (op.code == GET) → IfSome value (λ v. v < VALUE_LIMIT) → IsReplyTo op (value_or_absent value)
value_fits op None gets small = record { named = gets; value = omega arith }
value_fits op (Some v) gets small = record { named = grind (arith, nat_tests); value = small }

adds_tell : (op : Op) → (op.code == ADD) ≡ true → IsTrue (tells_presence op)
adds_tell op adds = grind (arith, nat_tests)

dels_tell : (op : Op) → (op.code == DEL) ≡ true → IsTrue (tells_presence op)
dels_tell op dels = grind (arith, nat_tests)

looks_tell : (op : Op) → (op.code == HAS) ≡ true → IsTrue (tells_presence op)
looks_tell op has = grind (arith, nat_tests)

least_in_range : (keys : Keys) → HoldsInRange client.List keys → IfSome (least (set.items keys)) (λ v. v < VALUE_LIMIT)
least_in_range keys small = by_least (least (set.items keys)) (λ k is. small k (least_member keys k is))
  where
    by_least : (told : Option ℕ) → ((k : ℕ) → told ≡ Some k → k < VALUE_LIMIT) → IfSome told (λ v. v < VALUE_LIMIT)
    by_least None each = tt
    by_least (Some k) each = each k refl

min_fits : (op : Op) (keys : Keys) → IsTrue (is_list_command op) → (op.code == ADD) ≡ false → (op.code == DEL) ≡ false → (op.code == HAS) ≡ false → HoldsInRange client.List keys
    → IsReplyTo op (value_or_empty (least (set.items keys)))
min_fits op keys command not_add not_del not_has small = told_fits op (least (set.items keys)) (grind (arith, nat_tests)) (least_in_range keys small)

-- the reply of the set, min's too where a set is told it
set_fits : (op : Op) (keys : Keys) → ((op.code == ADD) ≡ false → (op.code == DEL) ≡ false → (op.code == HAS) ≡ false → IsReplyTo op (value_or_empty (least (set.items keys)))) → IsReplyTo op (set_apply op keys).1
set_fits op keys else_fits =
    let Fits : Keys × Reply → Type 0 = λ r. IsReplyTo op r.1 in
    by_test Fits (op.code == ADD) _ _ (λ add. yes_if_fits op _ (adds_tell op add))
    (λ not_add. by_test Fits (op.code == DEL) _ _ (λ del. yes_if_fits op _ (dels_tell op del))
    (λ not_del. by_test Fits (op.code == HAS) _ _ (λ has. yes_if_fits op _ (looks_tell op has)) (λ not_has. else_fits not_add not_del not_has)))

-- a set of buckets is told no min
no_min : (op : Op) → IsTrue (is_set_command op) → (op.code == ADD) ≡ false → (op.code == DEL) ≡ false → (op.code == HAS) ≡ false → ⊥
no_min op command not_add not_del not_has = grind (arith, nat_tests)

peeks_else : (op : Op) → IsTrue (is_queue_command op) → (op.code == PUT) ≡ false → (op.code == TAKE) ≡ false → IsTrue (op.code == TAKE || op.code == PEEK || op.code == MIN)
peeks_else op command not_put not_take = grind (arith, nat_tests)

first_in_range : (values : List ℕ) → All (λ v. v < VALUE_LIMIT) values → IfSome (slice_get values 0) (λ v. v < VALUE_LIMIT)
first_in_range [] small = tt
first_in_range (v ∷ values) small = All-head (λ w. w < VALUE_LIMIT) v values small

sets_tell : (op : Op) → (op.code == SET) ≡ true → IsTrue (tells_presence op)
sets_tell op sets = grind (arith, nat_tests)

removals_tell : (op : Op) → (op.code == REM) ≡ true → IsTrue (tells_presence op)
removals_tell op removes = grind (arith, nat_tests)

gets_else : (op : Op) → IsTrue (is_map_command op) → (op.code == SET) ≡ false → (op.code == REM) ≡ false → IsTrue (op.code == GET)
gets_else op command not_set not_rem = grind (arith, nat_tests)

abbrev Pairs : Type 0
Pairs = map.FinMap nat_cmp ℕ

map_fits : (op : Op) (pairs : Pairs) → IsTrue (is_map_command op) → HoldsInRange client.Tree pairs → IsReplyTo op (map_apply op pairs).1
map_fits op pairs command small =
    let Fits : Pairs × Reply → Type 0 = λ r. IsReplyTo op r.1 in
    by_test Fits (op.code == SET) _ _
    (λ sets. by_test Fits (map.contains_key pairs op.key) _ _ (λ _. yes_if_fits op false (sets_tell op sets)) (λ _. yes_if_fits op true (sets_tell op sets)))
    (λ not_set. by_test Fits (op.code == REM) _ _ (λ removes. yes_if_fits op _ (removals_tell op removes))
    (λ not_rem. value_fits op (map.get pairs op.key) (gets_else op command not_set not_rem) (small op.key)))

-- the reply to a command
pub reply_fits : (c : Client) (op : Op) (held : (object_of c).Held) → IsCommandOf (object_of c) op → HoldsInRange c held → IsReplyTo op ((object_of c).apply op held).1
reply_fits client.Queue op values can small =
    by_test (λ (r : List ℕ × Reply). IsReplyTo op r.1) (op.code == PUT) _ _
    (λ puts. record { named = puts; value = omega arith })
    (λ not_put. by_test (λ (r : List ℕ × Reply). IsReplyTo op r.1) (op.code == TAKE) _ _ (λ takes. take_first_fits op values takes small)
    (λ not_take. told_fits op (slice_get values 0) (peeks_else op can.command not_put not_take) (first_in_range values small)))
reply_fits client.List op keys can small = set_fits op keys (λ not_add not_del not_has. min_fits op keys can.command not_add not_del not_has small)
reply_fits client.Buckets op keys can small = set_fits op keys (λ not_add not_del not_has. absurd (no_min op can.command not_add not_del not_has))
reply_fits client.Tree op pairs can small = map_fits op pairs can.command small

rest_in_range : (values : List ℕ) → All (λ v. v < VALUE_LIMIT) values → All (λ v. v < VALUE_LIMIT) (take_first values).0
rest_in_range [] small = small
rest_in_range (v ∷ values) small = All-tail (λ w. w < VALUE_LIMIT) v values small

insert_in_range : (pairs : Pairs) (key value : ℕ) → value < VALUE_LIMIT → HoldsInRange client.Tree pairs → HoldsInRange client.Tree (map.insert pairs key value)
insert_in_range pairs key value fits small k =
    let Small : Option ℕ → Type 0 = λ o. IfSome o (λ v. v < VALUE_LIMIT) in
    subst Small (sym (map.get-insert nat_cmp_total pairs key value k)) (by_test Small (eq_by_cmp nat_cmp k key) _ _ (λ _. fits) (λ _. small k))

remove_in_range : (pairs : Pairs) (key : ℕ) → HoldsInRange client.Tree pairs → HoldsInRange client.Tree (map.remove pairs key)
remove_in_range pairs key small k =
    let Small : Option ℕ → Type 0 = λ o. IfSome o (λ v. v < VALUE_LIMIT) in
    subst Small (sym (map.get-remove nat_cmp_total pairs key k)) (by_test Small (eq_by_cmp nat_cmp k key) _ _ (λ _. tt) (λ _. small k))

key_of_add : (op : Op) → IsTrue (is_list_command op) → (op.code == ADD) ≡ true → op.key < VALUE_LIMIT
key_of_add op command adds = grind (arith, nat_tests)

add_in_range : (keys : Keys) (added : ℕ) → added < VALUE_LIMIT → HoldsInRange client.List keys → HoldsInRange client.List (set.insert keys added)
add_in_range keys added fits small key there = by_key (set.contains keys key) (cases_eq key added) (small key) (sym (set.contains-insert nat_cmp_total keys added key) ∙ there)
  where
    by_key : (was : Bool) → (key ≡ added) ⊎ (key ≢ added) → (was ≡ true → key < VALUE_LIMIT) → (eq_by_cmp nat_cmp key added || was) ≡ true → key < VALUE_LIMIT
    by_key was (inl same) earlier there = omega (arith, same, fits)
    by_key was (inr other) earlier there = earlier (sym (ap (λ b. b || was) (unsigned_tied key added ∙ ne_eqb key added other)) ∙ there)

less_in_range : (keys : Keys) (gone : ℕ) → HoldsInRange client.List keys → HoldsInRange client.List (set.remove keys gone)
less_in_range keys gone small key there = small key (and_parts (not (eq_by_cmp nat_cmp key gone)) (set.contains keys key) (sym (set.contains-remove nat_cmp_total keys gone key) ∙ there)).1

-- what a command leaves
pub range_kept : (c : Client) (op : Op) (held : (object_of c).Held) → IsCommandOf (object_of c) op → HoldsInRange c held → HoldsInRange c ((object_of c).apply op held).0
range_kept client.Queue op values can small =
    let Small : List ℕ × Reply → Type 0 = λ r. All (λ v. v < VALUE_LIMIT) r.0 in
    by_test Small (op.code == PUT) _ _ (λ _. All-push (λ v. v < VALUE_LIMIT) values op.value small can.value)
    (λ _. by_test Small (op.code == TAKE) _ _ (λ _. rest_in_range values small) (λ _. small))
range_kept client.List op keys can small =
    let Small : Keys × Reply → Type 0 = λ r. HoldsInRange client.List r.0 in
    by_test Small (op.code == ADD) _ _ (λ adds. add_in_range keys op.key (key_of_add op can.command adds) small)
    (λ _. by_test Small (op.code == DEL) _ _ (λ _. less_in_range keys op.key small)
    (λ _. by_test Small (op.code == HAS) _ _ (λ _. small) (λ _. small)))
range_kept client.Buckets op keys can small = tt
range_kept client.Tree op pairs can small =
    let Small : Pairs × Reply → Type 0 = λ r. HoldsInRange client.Tree r.0 in
    by_test Small (op.code == SET) _ _
    (λ _. by_test Small (map.contains_key pairs op.key) _ _ (λ _. small) (λ _. insert_in_range pairs op.key op.value can.value small))
    (λ _. by_test Small (op.code == REM) _ _ (λ _. remove_in_range pairs op.key small) (λ _. small))

pub range_empty : (c : Client) → HoldsInRange c (object_of c).empty
range_empty client.Queue = All-nil (λ v. v < VALUE_LIMIT)
range_empty client.List = λ key there. absurd (true≢false (sym there ∙ set.contains-empty nat_cmp key))
range_empty client.Buckets = tt
range_empty client.Tree = λ k. subst (λ (o : Option ℕ). IfSome o (λ v. v < VALUE_LIMIT)) (sym (map.get-empty nat_cmp k)) tt
