-- What a command of a set is: one of three operations, with a key below the limit, or that of the least key.
use Rattle.std.proofs.Common.{◌≡◌, ◌<◌, Bool, true, false, cond, eqb, ltb, ◌||◌, ◌&&◌, refl, sym, ◌∙◌, inl, inr, ◌⊎◌, arith}
use Rattle.std.proofs.lemmas.Bool.{true≢false, eqb-true, ltb-true, and_parts, or_cases}
use Rattle.lin_report.specs.declared.calls.Client.{Client}
use Rattle.lin_report.specs.declared.calls.Client.TheVariants as client
use Rattle.lin_report.specs.declared.calls.Op.{Op}
use Rattle.lin_report.specs.declared.calls.TheConstants.{ADD, DEL, HAS, MIN}
use Rattle.lin_report.specs.Commands.{KEY_LIMIT, is_set_command, takes_nothing}
use Rattle.lin_report.specs.Object.{IsCommandOf, is_command, object_of}
use Rattle.harris_list_form.specs.declared.states.Aim.TheVariants.{Add, Del, Has}
use Rattle.harris_list_form.specs.Lists.{IsOfSets}
use Rattle.harris_list_form.specs.Search.{aim_of}
use Rattle.harris_list_form.specs.Knowledge.{code_of}

set_command : (c : Client) → IsOfSets c → (op : Op) → is_command c op ≡ true → (is_set_command op ≡ true) ⊎ ((eqb op.code MIN && takes_nothing op) ≡ true)
set_command client.Queue sets op is = absurd sets
set_command client.List sets op is = or_cases (is_set_command op) (eqb op.code MIN && takes_nothing op) is
set_command client.Tree sets op is = absurd sets
set_command client.Buckets sets op is = inl is

module _ (c : Client) (sets : IsOfSets c) (op : Op) (command : IsCommandOf (object_of c) op) where
  parts : is_set_command op ≡ true → ((eqb op.code ADD || eqb op.code DEL || eqb op.code HAS) ≡ true) × ((ltb op.key KEY_LIMIT && eqb op.value 0) ≡ true)
  parts is = and_parts (eqb op.code ADD || eqb op.code DEL || eqb op.code HAS) (ltb op.key KEY_LIMIT && eqb op.value 0) is

  pub key_limit : op.key < KEY_LIMIT
  key_limit = by_kind (set_command c sets op command.command)
    where
      by_kind : (is_set_command op ≡ true) ⊎ ((eqb op.code MIN && takes_nothing op) ≡ true) → op.key < KEY_LIMIT
      by_kind (inl keyed) = ltb-true op.key KEY_LIMIT (and_parts (ltb op.key KEY_LIMIT) (eqb op.value 0) (parts keyed).1).0
      by_kind (inr min) =
          let none : op.key ≡ 0 = eqb-true op.key 0 (and_parts (eqb op.key 0) (eqb op.value 0) (and_parts (eqb op.code MIN) (takes_nothing op) min).1).0 in
          omega (arith, none)

  -- what is looked for, where it is a key
  pub aim_is : eqb op.code MIN ≡ false → op.code ≡ code_of (aim_of op)
  aim_is other = by_kind (set_command c sets op command.command)
    where
      by_code : (add del : Bool) → eqb op.code ADD ≡ add → eqb op.code DEL ≡ del → (add || del || eqb op.code HAS) ≡ true → op.code ≡ code_of (cond add Add (cond del Del Has))
      by_code true del e e' is = eqb-true op.code ADD e
      by_code false true e e' is = eqb-true op.code DEL e'
      by_code false false e e' is = eqb-true op.code HAS is

      by_kind : (is_set_command op ≡ true) ⊎ ((eqb op.code MIN && takes_nothing op) ≡ true) → op.code ≡ code_of (aim_of op)
      by_kind (inl keyed) = by_code (eqb op.code ADD) (eqb op.code DEL) refl refl (parts keyed).0
      by_kind (inr min) = absurd (true≢false (sym (and_parts (eqb op.code MIN) (takes_nothing op) min).0 ∙ other))
