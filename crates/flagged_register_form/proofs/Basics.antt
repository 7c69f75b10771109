-- Places, words and the map of one key.
use Rattle.std.proofs.Common.{◌≡◌, ◌≢◌, ℕ, ◌^◌, ◌<◌, Bool, true, false, not, refl, sym, ap, ◌∙◌, arith, None, is_some, Some}
use Rattle.std.specs.Prelude.{◌==◌, if◌then◌else◌}
use Rattle.std.specs.FinMap as map
use Rattle.std.specs.Ordering.{nat_cmp}
use Rattle.std.specs.Cmp.{nat_cmp_total}
use Rattle.lin_report.specs.declared.calls.Op.{Op}
use Rattle.lin_report.specs.declared.calls.Reply.{Reply}
use Rattle.lin_report.specs.declared.calls.Reply.TheVariants.{Yes, No}
use Rattle.lin_report.specs.declared.calls.TheConstants.{SET, REM}
use Rattle.lin_report.specs.Object.{map_apply, set_absent, value_or_absent, yes_if}
use Rattle.node_arena.proofs.PlacesApart.{same_field, same_block}
use Rattle.word_fields.specs.Versioned.{versioned_value, versioned_bit}
use Rattle.word_fields.proofs.ChangedWords.{value-changed, bit-changed}
use Rattle.flagged_register_form.specs.Register.{FLAG, REGISTER, note_place, flag_value, flag_word, is_in, toggles, decided, decided_value, decision_place, toggled_value, value_at}
use Rattle.client_lemmas.proofs.Words.{value_small}
use Rattle.client_lemmas.proofs.Outcomes.{either}

-- ---- places

pub register_flag : REGISTER ≢ FLAG
register_flag e = absurd (omega (arith, same_field 0 14 0 16 (omega arith) (omega arith) e))

pub flag_register : FLAG ≢ REGISTER
flag_register e = register_flag (sym e)

pub note_flag : (block : ℕ) → note_place block ≢ FLAG
note_flag block e = absurd (omega (arith, same_field block 27 0 16 (omega arith) (omega arith) e))

pub note_register : (block : ℕ) → note_place block ≢ REGISTER
note_register block e = absurd (omega (arith, same_field block 27 0 14 (omega arith) (omega arith) e))

pub decision_flag : (block : ℕ) → decision_place block ≢ FLAG
decision_flag block e = absurd (omega (arith, same_field block 28 0 16 (omega arith) (omega arith) e))

pub decision_register : (block : ℕ) → decision_place block ≢ REGISTER
decision_register block e = absurd (omega (arith, same_field block 28 0 14 (omega arith) (omega arith) e))

pub note_decision : (block other : ℕ) → note_place block ≢ decision_place other
note_decision block other e = absurd (omega (arith, same_field block 27 other 28 (omega arith) (omega arith) e))

pub value_flag : (block : ℕ) → value_at block ≢ FLAG
value_flag block e = absurd (omega (arith, same_field block 13 0 16 (omega arith) (omega arith) e))

pub value_register : (block : ℕ) → value_at block ≢ REGISTER
value_register block e = absurd (omega (arith, same_field block 13 0 14 (omega arith) (omega arith) e))

pub value_decision : (block other : ℕ) → value_at block ≢ decision_place other
value_decision block other e = absurd (omega (arith, same_field block 13 other 28 (omega arith) (omega arith) e))

pub same_decision : (block other : ℕ) → decision_place block ≡ decision_place other → block ≡ other
same_decision block other e = same_block block 28 other 28 (omega arith) (omega arith) e

-- ---- decisions

pub decided_value_below : (made : Bool) → decided_value made < 2 ^ 24
decided_value_below true = omega arith
decided_value_below false = omega arith

pub decided_is : (made : Bool) → versioned_value (decided made) ≡ decided_value made
decided_is made = value-changed 0 (decided_value made) (decided_value_below made)

pub decided_some : (made : Bool) → decided made ≢ 0
decided_some true e = omega (arith, decided_is true, ap versioned_value e, value_small 0 (omega arith))
decided_some false e = omega (arith, decided_is false, ap versioned_value e, value_small 0 (omega arith))

pub decided_once : decided true ≢ decided false
decided_once e = absurd (omega (arith, decided_is true, decided_is false, ap versioned_value e))

pub flag_value_below : (block : ℕ) → block < 2 ^ 17 → flag_value block < 2 ^ 24
flag_value_below block small = omega arith

pub flagged_value : (from block : ℕ) → block < 2 ^ 17 → versioned_value (flag_word from block) ≡ flag_value block
flagged_value from block small = value-changed from (flag_value block) (flag_value_below block small)

pub flagged_bit : (from block : ℕ) → block < 2 ^ 17 → versioned_bit (flag_word from block) ≡ 0
flagged_bit from block small = bit-changed from (flag_value block) (flag_value_below block small)

pub toggled_below : (register block : ℕ) → block < 2 ^ 17 → toggled_value register block < 2 ^ 24
toggled_below register block small = either (λ value. value < 2 ^ 24) (is_in register) 0 (flag_value block) (omega arith) (flag_value_below block small)

-- ---- the map

-- what the operation leaves at key 0, and what it is told, by its two tests
toggled_by : (a d : Bool) (value : ℕ) (pairs : map.FinMap nat_cmp ℕ) → (if a then not (map.contains_key pairs 0) else (if d then map.contains_key pairs 0 else false)) ≡ true
    → let after : map.FinMap nat_cmp ℕ × Reply = if a then set_absent 0 value pairs else (if d then (map.remove pairs 0, yes_if (map.contains_key pairs 0)) else (pairs, value_or_absent (map.get pairs 0))) in
    (map.get after.0 0 ≡ (if map.contains_key pairs 0 then None else Some value)) × (after.1 ≡ Yes)
toggled_by true d value pairs e = by_test (map.contains_key pairs 0) e
  where
    by_test : (b : Bool) → not b ≡ true → let after : map.FinMap nat_cmp ℕ × Reply = if b then (pairs, No) else (map.insert pairs 0 value, Yes) in (map.get after.0 0 ≡ (if b then None else Some value)) × (after.1 ≡ Yes)
    by_test true e' = absurd cc
    by_test false e' = (map.get-insert nat_cmp_total pairs 0 value 0, refl)
toggled_by false true value pairs e =
    (map.get-remove nat_cmp_total pairs 0 0 ∙ sym (ap (λ (b : Bool). if b then None else Some value) e), ap yes_if e)
toggled_by false false value pairs e = absurd cc

module _ (op : Op) (register : ℕ) (pairs : map.FinMap nat_cmp ℕ) (key : op.key ≡ 0) (changes : toggles op register ≡ true) (tells : map.contains_key pairs 0 ≡ is_in register) where
  both : (map.get (map_apply op pairs).0 0 ≡ (if is_in register then None else Some op.value)) × ((map_apply op pairs).1 ≡ Yes)
  both = rw (key, ← tells) (toggled_by (op.code == SET) (op.code == REM) op.value pairs (rw (← tells) at changes))

  pub tells-apply : map.get (map_apply op pairs).0 0 ≡ (if is_in register then None else Some op.value)
  tells-apply = both.0

  pub yes-apply : (map_apply op pairs).1 ≡ Yes
  yes-apply = both.1

  -- it doesn't leave the map as it was
  pub changes-apply : (map_apply op pairs).0 ≢ pairs
  changes-apply e = by_test (is_in register) (ap is_some (sym both.0) ∙ ap (λ m. map.contains_key m 0) e ∙ tells)
    where
      by_test : (b : Bool) → is_some (if b then None else Some op.value) ≡ b → ⊥
      by_test true e' = absurd cc
      by_test false e' = absurd cc
