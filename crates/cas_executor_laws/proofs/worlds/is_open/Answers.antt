use Rattle.std.proofs.Common.{◌≡◌, ◌∙◌, sym, ap, subst, ℕ, ◌-◌, ◌^◌, ◌<◌, ◌↔◌, true, not, nat_lt, inl, inr, arith}
use Rattle.std.proofs.lemmas.Bool.{cases_eq, eq-eqb, lt-ltb, ltb-true}
use Rattle.word_fields.specs.Versioned.{is_modified, versioned_bit, versioned_version}
use Rattle.word_fields.specs.declared.versioned.VersionedWord.{VersionedWord}
use Rattle.word_fields.proofs.ChangedWords.{bit_below}
use Rattle.cas_executor_laws.proofs.worlds.is_open.Goals as goal

-- a word that isn't modified has its bit clear
clear_of : (word : ℕ) → not (is_modified word) ≡ true → versioned_bit word ≡ 0
clear_of word isnt =
    elim (cases_eq (versioned_bit word) 1) [
      | inl set ↦ absurd (let both : not true ≡ true = sym (ap not (eq-eqb (versioned_bit word) 1 set)) ∙ isnt in cc)
      | inr unset ↦ omega (arith, unset, bit_below word)
    ]

open_is : (word version : ℕ) → not (is_modified word) ≡ true → version ≡ versioned_version word
    → (nat_lt version (2 ^ 39 - 2) ≡ true) ↔ ((versioned_bit word ≡ 0) × (versioned_version word < 2 ^ 39 - 2))
open_is word version isnt is = (
  λ less. (clear_of word isnt, subst (λ v. v < 2 ^ 39 - 2) is (ltb-true version (2 ^ 39 - 2) less)),
  λ both. lt-ltb version (2 ^ 39 - 2) (subst (λ v. v < 2 ^ 39 - 2) (sym is) both.1),
)

pub returns-then-not-fields : goal.returns-then-not-fields
returns-then-not-fields c =
    open_is c.args.word c.unpack-fields.result.version (sym (ap (λ (v : VersionedWord). not v.modified) c.unpack-fields.ensures.fields) ∙ c.if-not-fields.true) c.unpack-fields.ensures.version
