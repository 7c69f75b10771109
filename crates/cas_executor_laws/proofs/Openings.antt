-- Worlds of words that are 0, with block 1 and entries at places 46 and 78, can open.
use Rattle.std.proofs.Common.{◌≡◌, ◌≢◌, ◌∙◌, refl, sym, ap, subst, ℕ, zero, suc, ◌+◌, ◌*◌, ◌<◌, ◌≤◌, inl, List, [], ◌∷◌, length, replicate, lit<, lit≤, arith}
use Rattle.std.proofs.lemmas.List.{get_or-replicate}
use Rattle.word_fields.specs.Versioned.{changed_word, versioned_bit, versioned_version, versioned_word}
use Rattle.node_arena.specs.MemoryMap.{block_place}
use Rattle.normal_traits.specs.declared.lists.Entry.{Entry}
use Rattle.cas_executor.specs.SlowRuns.{state_place}
use Rattle.cas_executor_laws.specs.ExecRuns.{CanList, CanOpen, HasOwnTargets, IsEntry}
use Rattle.cas_executor_laws.proofs.Sets.{some_same}

-- an entry that changes a word of 0 to the value 5
abbrev pub changes_zero : ℕ → Entry
changes_zero target = record { target = target; from = 0; to = 33554437 }

no_words : List ℕ
no_words = replicate 96 0

clear : versioned_bit 0 ≡ 0
unfolding versioned_bit
clear = refl

oldest : versioned_version 0 ≡ 0
unfolding versioned_version
oldest = refl

raised : 33554437 ≡ changed_word 0 5
unfolding changed_word versioned_word versioned_version
raised = refl

outside : (target field : ℕ) → target < 64 → target ≢ block_place 1 field
unfolding block_place
outside target field below e = absurd (omega arith)

behind : (target field : ℕ) → 76 ≤ target → field < 12 → target ≢ block_place 1 field
unfolding block_place
behind target field above few e = absurd (omega arith)

state_few : (j : ℕ) → j < 2 → state_place 1 j < 96
unfolding block_place
state_few j few = omega arith

-- such an entry can be listed at a place that isn't one of the block's first twelve fields
can_list : (target : ℕ) → target < 96 → ((field : ℕ) → field < 12 → target ≢ block_place 1 field) → CanList 1 (replicate 96 0) (changes_zero target)
can_list target inside apart =
    record {
      value = 5;
      small = lit< tt;
      clear = clear;
      below = omega (arith, oldest);
      to = raised;
      inside = inside;
      outside = apart;
      holds = inl (get_or-replicate 96 target 0 0 inside);
    }

can_first : CanList 1 (replicate 96 0) (changes_zero 46)
can_first = can_list 46 (lit< tt) (λ field few. outside 46 field (lit< tt))

can_second : CanList 1 (replicate 96 0) (changes_zero 78)
can_second = can_list 78 (lit< tt) (λ field few. behind 78 field (lit≤ tt) few)

-- what holds of the entries of a list of one or two
of_one : (P : Entry → Type 0) (first : Entry) → P first → (j : ℕ) (entry : Entry) → IsEntry (first ∷ []) j entry → P entry
of_one P first p zero entry e = subst P (some_same first entry e) p
of_one P first p (suc j) entry e = absurd cc

of_two : (P : Entry → Type 0) (first second : Entry) → P first → P second → (j : ℕ) (entry : Entry) → IsEntry (first ∷ second ∷ []) j entry → P entry
of_two P first second p q zero entry e = subst P (some_same first entry e) p
of_two P first second p q (suc j) entry e = of_one P second q j entry e

only_place : (first : Entry) (j : ℕ) (entry : Entry) → IsEntry (first ∷ []) j entry → j ≡ 0
only_place first zero entry e = refl
only_place first (suc j) entry e = absurd cc

-- the target tells the place in a list of two
place_of_target : (j : ℕ) (entry : Entry) → IsEntry (changes_zero 46 ∷ changes_zero 78 ∷ []) j entry → 46 + 32 * j ≡ entry.target
place_of_target zero entry e = ap (λ (x : Entry). x.target) (some_same (changes_zero 46) entry e)
place_of_target (suc zero) entry e = ap (λ (x : Entry). x.target) (some_same (changes_zero 78) entry e)
place_of_target (suc (suc j)) entry e = absurd cc

opens : (entries : List Entry) → 0 < length entries → length entries ≤ 2 → ((j : ℕ) (entry : Entry) → IsEntry entries j entry → CanList 1 (replicate 96 0) entry) → HasOwnTargets entries
    → CanOpen (record { helpers = 2; block = 1; entries = entries; words = replicate 96 0 })
opens entries some few listed apart =
    record {
      some = lit< tt;
      few = lit≤ tt;
      small = lit< tt;
      room = lit≤ tt;
      short = (some, few);
      listed = listed;
      apart = apart;
      pending = λ j below. get_or-replicate 96 (state_place 1 j) 0 0 (state_few j below);
    }

pub one_opens : (entries : List Entry) (words : List ℕ) → entries ≡ changes_zero 46 ∷ [] → words ≡ replicate 96 0 → CanOpen (record { helpers = 2; block = 1; entries = entries; words = words })
one_opens entries words listed filled =
    subst (λ es. CanOpen (record { helpers = 2; block = 1; entries = es; words = words })) (sym listed)
    (subst (λ ws. CanOpen (record { helpers = 2; block = 1; entries = changes_zero 46 ∷ []; words = ws })) (sym filled)
    (opens (changes_zero 46 ∷ []) (omega arith) (omega arith) (of_one (CanList 1 (replicate 96 0)) (changes_zero 46) can_first)
    (λ i j first second at at' same. only_place (changes_zero 46) i first at ∙ sym (only_place (changes_zero 46) j second at'))))

pub two_open : (entries : List Entry) (words : List ℕ) → entries ≡ changes_zero 46 ∷ changes_zero 78 ∷ [] → words ≡ replicate 96 0 → CanOpen (record { helpers = 2; block = 1; entries = entries; words = words })
two_open entries words listed filled =
    subst (λ es. CanOpen (record { helpers = 2; block = 1; entries = es; words = words })) (sym listed)
    (subst (λ ws. CanOpen (record { helpers = 2; block = 1; entries = changes_zero 46 ∷ changes_zero 78 ∷ []; words = ws })) (sym filled)
    (opens (changes_zero 46 ∷ changes_zero 78 ∷ []) (omega arith) (omega arith) (of_two (CanList 1 (replicate 96 0)) (changes_zero 46) (changes_zero 78) can_first can_second)
    (λ i j first second at at' same. (let p = place_of_target i first at in let q = place_of_target j second at' in omega (arith, p, q, same)))))
