-- The command on a line: what is read is written so, and what is written so is read.
use Rattle.std.proofs.Common.{◌≡◌, ℕ, ◌<◌, Bool, true, false, cond, eqb, ltb, ◌&&◌, ◌||◌, Option, Some, None, IfSome, inl, inr, List, [], ◌∷◌, ◌++◌, refl, sym, ap, subst, ◌∙◌, arith, lit<}
use Rattle.std.specs.Prelude.{IsTrue, codes}
use Rattle.std.specs.Str.{bytes_eq}
use Rattle.std.specs.Fmt.{decimal}
use Rattle.std.proofs.lemmas.Bool.{and_parts, or_cases, eqb-true, ltb-true}
use Rattle.std.proofs.lemmas.Option.{same_Some}
use Rattle.std.proofs.lemmas.Slice.Eq.{bytes_eq-Decides}
use Rattle.lin_report.specs.declared.calls.Client.{Client}
use Rattle.lin_report.specs.declared.calls.Client.TheVariants as client
use Rattle.lin_report.specs.declared.calls.Op.{Op}
use Rattle.lin_report.specs.declared.calls.TheConstants.{PUT, TAKE, ADD, DEL, HAS, SET, REM, GET, PEEK, MIN}
use Rattle.lin_report.specs.Commands.{VALUE_LIMIT, is_set_command, takes_nothing, takes_key}
use Rattle.lin_report.specs.Object.{is_command}
use Rattle.lin_report.specs.Text.{SPACE, command_words}
use Rattle.script_reader.specs.declared.scripts.Numbers.{Numbers}
use Rattle.script_reader.specs.declared.scripts.Numbers.TheVariants.{NoNumber, OneValue, OneKey, KeyAndValue}
use Rattle.script_reader.specs.Scripts.{GREATEST_KEY, GREATEST_VALUE, queue_command, set_command, list_command, map_command, command_named}
use Rattle.script_reader.proofs.Entries.{TakesNumbers, Names, names}
use Rattle.report_check.specs.CallLines.{◌>>=◌, word_at, number_at, op_at, command_at}
use Rattle.report_check.proofs.LineTexts.LineFields.{bind_at, some_pair, NoSpace, word_takes, word_again, number_takes, number_again, no_space_in}

-- words with a space behind each, in front of the rest of a line
abbrev pub front : List (List ℕ) → List ℕ → List ℕ
front [] rest = rest
front (word ∷ words) rest = word ++ SPACE ∷ front words rest

abbrev made : ℕ → ℕ → ℕ → Op
made code key value = record { code = code; key = key; value = value }

-- the words of the commands of a code are this word and their numbers
abbrev Spelled : Numbers → ℕ → List ℕ → Type 0
Spelled NoNumber code word = command_words (made code 0 0) ≡ word ∷ []
Spelled OneValue code word = (v : ℕ) → command_words (made code 0 v) ≡ word ∷ decimal v ∷ []
Spelled OneKey code word = (k : ℕ) → command_words (made code k 0) ≡ word ∷ decimal k ∷ []
Spelled KeyAndValue code word = (k v : ℕ) → command_words (made code k v) ≡ word ∷ decimal k ∷ decimal v ∷ []

same_text : (word text : List ℕ) → bytes_eq word text ≡ true → word ≡ text
same_text word text e = (bytes_eq-Decides word text).0 e

abbrev IsSpelled : List ℕ → Option (ℕ × Numbers) → Type 0
IsSpelled word found = IfSome found (λ (command : ℕ × Numbers). Spelled command.1 command.0 word)

queue_spelled : (word : List ℕ) → IsSpelled word (queue_command word)
unfolding command_words
queue_spelled word = by_tests (bytes_eq word (codes "put")) (bytes_eq word (codes "take")) (bytes_eq word (codes "peek")) refl refl refl
  where
    by_tests : (a b c : Bool) → bytes_eq word (codes "put") ≡ a → bytes_eq word (codes "take") ≡ b → bytes_eq word (codes "peek") ≡ c
        → IsSpelled word (cond a (Some (PUT, OneValue)) (cond b (Some (TAKE, NoNumber)) (cond c (Some (PEEK, NoNumber)) None)))
    by_tests true b c p q r = λ v. ap (λ (w : List ℕ). w ∷ decimal v ∷ []) (sym (same_text word (codes "put") p))
    by_tests false true c p q r = ap (λ (w : List ℕ). w ∷ []) (sym (same_text word (codes "take") q))
    by_tests false false true p q r = ap (λ (w : List ℕ). w ∷ []) (sym (same_text word (codes "peek") r))
    by_tests false false false p q r = tt

set_spelled : (word : List ℕ) → IsSpelled word (set_command word)
unfolding command_words
set_spelled word = by_tests (bytes_eq word (codes "add")) (bytes_eq word (codes "del")) (bytes_eq word (codes "has")) refl refl refl
  where
    by_tests : (a b c : Bool) → bytes_eq word (codes "add") ≡ a → bytes_eq word (codes "del") ≡ b → bytes_eq word (codes "has") ≡ c
        → IsSpelled word (cond a (Some (ADD, OneKey)) (cond b (Some (DEL, OneKey)) (cond c (Some (HAS, OneKey)) None)))
    by_tests true b c p q r = λ k. ap (λ (w : List ℕ). w ∷ decimal k ∷ []) (sym (same_text word (codes "add") p))
    by_tests false true c p q r = λ k. ap (λ (w : List ℕ). w ∷ decimal k ∷ []) (sym (same_text word (codes "del") q))
    by_tests false false true p q r = λ k. ap (λ (w : List ℕ). w ∷ decimal k ∷ []) (sym (same_text word (codes "has") r))
    by_tests false false false p q r = tt

list_spelled : (word : List ℕ) → IsSpelled word (list_command word)
unfolding command_words
list_spelled word = by_test (bytes_eq word (codes "min")) refl
  where
    by_test : (a : Bool) → bytes_eq word (codes "min") ≡ a → IsSpelled word (cond a (Some (MIN, NoNumber)) (set_command word))
    by_test true p = ap (λ (w : List ℕ). w ∷ []) (sym (same_text word (codes "min") p))
    by_test false p = set_spelled word

map_spelled : (word : List ℕ) → IsSpelled word (map_command word)
unfolding command_words
map_spelled word = by_tests (bytes_eq word (codes "set")) (bytes_eq word (codes "rem")) (bytes_eq word (codes "get")) refl refl refl
  where
    by_tests : (a b c : Bool) → bytes_eq word (codes "set") ≡ a → bytes_eq word (codes "rem") ≡ b → bytes_eq word (codes "get") ≡ c
        → IsSpelled word (cond a (Some (SET, KeyAndValue)) (cond b (Some (REM, OneKey)) (cond c (Some (GET, OneKey)) None)))
    by_tests true b c p q r = λ k v. ap (λ (w : List ℕ). w ∷ decimal k ∷ decimal v ∷ []) (sym (same_text word (codes "set") p))
    by_tests false true c p q r = λ k. ap (λ (w : List ℕ). w ∷ decimal k ∷ []) (sym (same_text word (codes "rem") q))
    by_tests false false true p q r = λ k. ap (λ (w : List ℕ). w ∷ decimal k ∷ []) (sym (same_text word (codes "get") r))
    by_tests false false false p q r = tt

spelled : (c : Client) (word : List ℕ) → IsSpelled word (command_named c word)
spelled client.Queue word = queue_spelled word
spelled client.List word = list_spelled word
spelled client.Buckets word = set_spelled word
spelled client.Tree word = map_spelled word

-- an operation as it was read, with what was behind it
record Wrote (numbers : Numbers) (code : ℕ) (word bytes : List ℕ) (x : Op × List ℕ) : Type 0 where
  text : word ++ SPACE ∷ bytes ≡ front (command_words x.0) x.1
  value : x.0.value < VALUE_LIMIT
  code_is : x.0.code ≡ code
  takes : TakesNumbers numbers x.0

op_takes : (numbers : Numbers) (code : ℕ) (word bytes : List ℕ) (x : Op × List ℕ) → Spelled numbers code word → op_at code numbers bytes ≡ Some x → Wrote numbers code word bytes x
op_takes NoNumber code word bytes x s e =
    subst (Wrote NoNumber code word bytes) (same_Some (made code 0 0, bytes) x e)
    (record { text = ap (λ (ws : List (List ℕ)). front ws bytes) (sym s); value = lit< tt; code_is = refl; takes = (refl, refl) })
op_takes OneValue code word bytes x s e = by_number (number_at GREATEST_VALUE bytes) refl e
  where
    by_number : (o : Option (ℕ × List ℕ)) → number_at GREATEST_VALUE bytes ≡ o → (o >>= (λ v. some_pair (made code 0 v.0) v.1)) ≡ Some x → Wrote OneValue code word bytes x
    by_number None is e = absurd cc
    by_number (Some v) is e =
        let n = number_takes GREATEST_VALUE bytes v.0 v.1 (lit< tt) is in
        subst (Wrote OneValue code word bytes) (same_Some (made code 0 v.0, v.1) x e)
        (record { text = ap (λ (b : List ℕ). word ++ SPACE ∷ b) n.1 ∙ ap (λ (ws : List (List ℕ)). front ws v.1) (sym (s v.0)); value = omega (arith, n.0); code_is = refl; takes = refl })
op_takes OneKey code word bytes x s e = by_number (number_at GREATEST_KEY bytes) refl e
  where
    by_number : (o : Option (ℕ × List ℕ)) → number_at GREATEST_KEY bytes ≡ o → (o >>= (λ k. some_pair (made code k.0 0) k.1)) ≡ Some x → Wrote OneKey code word bytes x
    by_number None is e = absurd cc
    by_number (Some k) is e =
        let n = number_takes GREATEST_KEY bytes k.0 k.1 (lit< tt) is in
        subst (Wrote OneKey code word bytes) (same_Some (made code k.0 0, k.1) x e)
        (record { text = ap (λ (b : List ℕ). word ++ SPACE ∷ b) n.1 ∙ ap (λ (ws : List (List ℕ)). front ws k.1) (sym (s k.0)); value = lit< tt; code_is = refl; takes = (omega (arith, n.0), refl) })
op_takes KeyAndValue code word bytes x s e = by_key (number_at GREATEST_KEY bytes) refl e
  where
    by_value : (k : ℕ × List ℕ) → number_at GREATEST_KEY bytes ≡ Some k → (o : Option (ℕ × List ℕ)) → number_at GREATEST_VALUE k.1 ≡ o → (o >>= (λ v. some_pair (made code k.0 v.0) v.1)) ≡ Some x → Wrote KeyAndValue code word bytes x
    by_value k at None is e = absurd cc
    by_value k at (Some v) is e =
        let m = number_takes GREATEST_KEY bytes k.0 k.1 (lit< tt) at in
        let n = number_takes GREATEST_VALUE k.1 v.0 v.1 (lit< tt) is in
        subst (Wrote KeyAndValue code word bytes) (same_Some (made code k.0 v.0, v.1) x e)
        (record {
          text = ap (λ (b : List ℕ). word ++ SPACE ∷ b) (m.1 ∙ ap (λ (b : List ℕ). decimal k.0 ++ SPACE ∷ b) n.1) ∙ ap (λ (ws : List (List ℕ)). front ws v.1) (sym (s k.0 v.0));
          value = omega (arith, n.0);
          code_is = refl;
          takes = omega (arith, m.0);
        })

    by_key : (o : Option (ℕ × List ℕ)) → number_at GREATEST_KEY bytes ≡ o → (o >>= (λ k. number_at GREATEST_VALUE k.1 >>= (λ v. some_pair (made code k.0 v.0) v.1))) ≡ Some x → Wrote KeyAndValue code word bytes x
    by_key None is e = absurd cc
    by_key (Some k) is e = by_value k is (number_at GREATEST_VALUE k.1) refl e

-- a command of the client, as it was read
pub record WroteCommand (c : Client) (bytes : List ℕ) (x : Op × List ℕ) : Type 0 where
  pub text : bytes ≡ front (command_words x.0) x.1
  pub value : x.0.value < VALUE_LIMIT
  pub command : IsTrue (is_command c x.0)

pub command_takes : (c : Client) (bytes : List ℕ) (x : Op × List ℕ) → command_at c bytes ≡ Some x → WroteCommand c bytes x
command_takes c bytes x e = by_word (word_at bytes) refl e
  where
    by_name : (w : List ℕ × List ℕ) → word_at bytes ≡ Some w → (o : Option (ℕ × Numbers)) → IsSpelled w.0 o → Names c o → (o >>= (λ command. op_at command.0 command.1 w.1)) ≡ Some x → WroteCommand c bytes x
    by_name w at None s n e = absurd cc
    by_name w at (Some command) s n e =
        let wrote = op_takes command.1 command.0 w.0 w.1 x s e in
        record { text = word_takes bytes w.0 w.1 at ∙ wrote.text; value = wrote.value; command = n x.0 wrote.code_is wrote.takes }

    by_word : (o : Option (List ℕ × List ℕ)) → word_at bytes ≡ o → (o >>= (λ w. command_named c w.0 >>= (λ command. op_at command.0 command.1 w.1))) ≡ Some x → WroteCommand c bytes x
    by_word None is e = absurd cc
    by_word (Some w) is e = by_name w is (command_named c w.0) (spelled c w.0) (names c w.0) e

by_parts : (op : Op) (code key value : ℕ) → op.code ≡ code → op.key ≡ key → op.value ≡ value → made code key value ≡ op
by_parts op code key value p q r = ap (λ n. made n key value) (sym p) ∙ ap (λ n. made op.code n value) (sym q) ∙ ap (made op.code op.key) (sym r)

-- the operation of these numbers, read again behind its word
op_again : (numbers : Numbers) (code : ℕ) (word : List ℕ) (op : Op) (rest : List ℕ) → Spelled numbers code word → op.code ≡ code → TakesNumbers numbers op → op.value < VALUE_LIMIT
    → (bytes : List ℕ) × (front (command_words op) rest ≡ word ++ SPACE ∷ bytes) × (op_at code numbers bytes ≡ Some (op, rest))
op_again NoNumber code word op rest s is takes value =
    let same = by_parts op code 0 0 is takes.0 takes.1 in
    (rest, ap (λ (o : Op). front (command_words o) rest) (sym same) ∙ ap (λ (ws : List (List ℕ)). front ws rest) s, ap (λ (o : Op). some_pair o rest) same)
op_again OneValue code word op rest s is takes value =
    let same = by_parts op code 0 op.value is takes refl in (
      decimal op.value ++ SPACE ∷ rest,
      ap (λ (o : Op). front (command_words o) rest) (sym same) ∙ ap (λ (ws : List (List ℕ)). front ws rest) (s op.value),
      bind_at (number_at GREATEST_VALUE (decimal op.value ++ SPACE ∷ rest)) (λ v. some_pair (made code 0 v.0) v.1) (op.value, rest) (number_again GREATEST_VALUE op.value rest (lit< tt) (omega arith))
          ∙ ap (λ (o : Op). some_pair o rest) same,
    )
op_again OneKey code word op rest s is takes value =
    let same = by_parts op code op.key 0 is refl takes.1 in (
      decimal op.key ++ SPACE ∷ rest,
      ap (λ (o : Op). front (command_words o) rest) (sym same) ∙ ap (λ (ws : List (List ℕ)). front ws rest) (s op.key),
      bind_at (number_at GREATEST_KEY (decimal op.key ++ SPACE ∷ rest)) (λ k. some_pair (made code k.0 0) k.1) (op.key, rest) (number_again GREATEST_KEY op.key rest (lit< tt) (omega (arith, takes.0)))
          ∙ ap (λ (o : Op). some_pair o rest) same,
    )
op_again KeyAndValue code word op rest s is takes value =
    let same = by_parts op code op.key op.value is refl refl in
    let behind : List ℕ = decimal op.value ++ SPACE ∷ rest in (
      decimal op.key ++ SPACE ∷ behind,
      ap (λ (o : Op). front (command_words o) rest) (sym same) ∙ ap (λ (ws : List (List ℕ)). front ws rest) (s op.key op.value),
      bind_at (number_at GREATEST_KEY (decimal op.key ++ SPACE ∷ behind)) (λ k. number_at GREATEST_VALUE k.1 >>= (λ v. some_pair (made code k.0 v.0) v.1)) (op.key, behind) (number_again GREATEST_KEY op.key behind (lit< tt) (omega (arith, takes)))
          ∙ bind_at (number_at GREATEST_VALUE behind) (λ v. some_pair (made code op.key v.0) v.1) (op.value, rest) (number_again GREATEST_VALUE op.value rest (lit< tt) (omega arith))
          ∙ ap (λ (o : Op). some_pair o rest) same,
    )

-- the command is read again
abbrev Again : Client → Op → List ℕ → Type 0
Again c op rest = command_at c (front (command_words op) rest) ≡ Some (op, rest)

module _ (c : Client) (op : Op) (rest : List ℕ) (value : op.value < VALUE_LIMIT) where
  -- by its word
  again : (numbers : Numbers) (code : ℕ) (word : List ℕ) → NoSpace word → command_named c word ≡ Some (code, numbers) → op.code ≡ code → TakesNumbers numbers op → Again c op rest
  again numbers code word none found is takes =
      let s : Spelled numbers code word = subst (IsSpelled word) found (spelled c word) in
      let a = op_again numbers code word op rest s is takes value in
      let next : List ℕ × List ℕ → Option (Op × List ℕ) = λ w. command_named c w.0 >>= (λ command. op_at command.0 command.1 w.1) in
      ap (command_at c) a.1
      ∙ bind_at (word_at (word ++ SPACE ∷ a.0)) next (word, a.0) (word_again word a.0 none)
      ∙ bind_at (command_named c word) (λ command. op_at command.0 command.1 a.0) (code, numbers) found
      ∙ a.2

nothing_taken : (op : Op) → takes_nothing op ≡ true → TakesNumbers NoNumber op
nothing_taken op e = let parts = and_parts (eqb op.key 0) (eqb op.value 0) e in (eqb-true op.key 0 parts.0, eqb-true op.value 0 parts.1)

key_taken : (op : Op) → takes_key op ≡ true → TakesNumbers OneKey op
key_taken op e = let parts = and_parts (ltb op.key 1048576) (eqb op.value 0) e in (ltb-true op.key 1048576 parts.0, eqb-true op.value 0 parts.1)

queue_again : (op : Op) (rest : List ℕ) → op.value < VALUE_LIMIT → is_command client.Queue op ≡ true → Again client.Queue op rest
queue_again op rest value e =
    elim (or_cases (eqb op.code PUT && eqb op.key 0) ((eqb op.code TAKE || eqb op.code PEEK) && takes_nothing op) e) [
      | inl h ↦
          let parts = and_parts (eqb op.code PUT) (eqb op.key 0) h in
          again client.Queue op rest value OneValue PUT (codes "put") (no_space_in (codes "put") refl) refl (eqb-true op.code PUT parts.0) (eqb-true op.key 0 parts.1)
      | inr h ↦
          let parts = and_parts (eqb op.code TAKE || eqb op.code PEEK) (takes_nothing op) h in
          elim (or_cases (eqb op.code TAKE) (eqb op.code PEEK) parts.0) [
            | inl i ↦ again client.Queue op rest value NoNumber TAKE (codes "take") (no_space_in (codes "take") refl) refl (eqb-true op.code TAKE i) (nothing_taken op parts.1)
            | inr i ↦ again client.Queue op rest value NoNumber PEEK (codes "peek") (no_space_in (codes "peek") refl) refl (eqb-true op.code PEEK i) (nothing_taken op parts.1)
          ]
    ]

set_again : (c : Client) (op : Op) (rest : List ℕ) → op.value < VALUE_LIMIT → command_named c (codes "add") ≡ Some (ADD, OneKey) → command_named c (codes "del") ≡ Some (DEL, OneKey) → command_named c (codes "has") ≡ Some (HAS, OneKey)
    → is_set_command op ≡ true → Again c op rest
set_again c op rest value add del has e =
    let parts = and_parts (eqb op.code ADD || eqb op.code DEL || eqb op.code HAS) (takes_key op) e in
    let key = key_taken op parts.1 in
    elim (or_cases (eqb op.code ADD || eqb op.code DEL) (eqb op.code HAS) parts.0) [
      | inl h ↦ elim (or_cases (eqb op.code ADD) (eqb op.code DEL) h) [
        | inl i ↦ again c op rest value OneKey ADD (codes "add") (no_space_in (codes "add") refl) add (eqb-true op.code ADD i) key
        | inr i ↦ again c op rest value OneKey DEL (codes "del") (no_space_in (codes "del") refl) del (eqb-true op.code DEL i) key
      ]
      | inr h ↦ again c op rest value OneKey HAS (codes "has") (no_space_in (codes "has") refl) has (eqb-true op.code HAS h) key
    ]

list_again : (op : Op) (rest : List ℕ) → op.value < VALUE_LIMIT → is_command client.List op ≡ true → Again client.List op rest
list_again op rest value e =
    elim (or_cases (is_set_command op) (eqb op.code MIN && takes_nothing op) e) [
      | inl h ↦ set_again client.List op rest value refl refl refl h
      | inr h ↦
          let parts = and_parts (eqb op.code MIN) (takes_nothing op) h in
          again client.List op rest value NoNumber MIN (codes "min") (no_space_in (codes "min") refl) refl (eqb-true op.code MIN parts.0) (nothing_taken op parts.1)
    ]

map_again : (op : Op) (rest : List ℕ) → op.value < VALUE_LIMIT → is_command client.Tree op ≡ true → Again client.Tree op rest
map_again op rest value e =
    elim (or_cases (eqb op.code SET && ltb op.key 1048576) ((eqb op.code REM || eqb op.code GET) && takes_key op) e) [
      | inl h ↦
          let parts = and_parts (eqb op.code SET) (ltb op.key 1048576) h in
          again client.Tree op rest value KeyAndValue SET (codes "set") (no_space_in (codes "set") refl) refl (eqb-true op.code SET parts.0) (ltb-true op.key 1048576 parts.1)
      | inr h ↦
          let parts = and_parts (eqb op.code REM || eqb op.code GET) (takes_key op) h in
          let key = key_taken op parts.1 in
          elim (or_cases (eqb op.code REM) (eqb op.code GET) parts.0) [
            | inl i ↦ again client.Tree op rest value OneKey REM (codes "rem") (no_space_in (codes "rem") refl) refl (eqb-true op.code REM i) key
            | inr i ↦ again client.Tree op rest value OneKey GET (codes "get") (no_space_in (codes "get") refl) refl (eqb-true op.code GET i) key
          ]
    ]

-- a command of the client that is written is read again
pub command_again : (c : Client) (op : Op) (rest : List ℕ) → op.value < VALUE_LIMIT → IsTrue (is_command c op) → command_at c (front (command_words op) rest) ≡ Some (op, rest)
command_again client.Queue op rest value e = queue_again op rest value e
command_again client.List op rest value e = list_again op rest value e
command_again client.Buckets op rest value e = set_again client.Buckets op rest value refl refl refl e
command_again client.Tree op rest value e = map_again op rest value e
