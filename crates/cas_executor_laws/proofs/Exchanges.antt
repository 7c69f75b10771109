-- What an atomic step does to a memory, by its kind.
use Rattle.std.proofs.Common.{◌≡◌, ◌≢◌, ◌∙◌, sym, ap, ℕ, true, false, if◌then◌else◌, inl, inr}
use Rattle.std.proofs.lemmas.Bool.{cases_eq, eq-eqb, ne_eqb}
use Rattle.step_memory.specs.declared.steps.Request.TheVariants.{Load, Exchange}
use Rattle.step_memory.specs.declared.steps.Seen.{Seen}
use Rattle.cas_executor_laws.specs.Parts.{RequestMade}

-- a load changes nothing
pub load_leaves : (at : ℕ) (words after : ℕ → ℕ) (seen : Seen) → RequestMade (Load at) words after seen → (place : ℕ) → after place ≡ words place
load_leaves at words after seen made place =
    elim (cases_eq place at) [
      | inl same ↦ ap after same ∙ made.here ∙ sym (ap words same)
      | inr apart ↦ made.beside place apart
    ]

pub load_saw : (at : ℕ) (words after : ℕ → ℕ) (seen : Seen) → RequestMade (Load at) words after seen → seen.before ≡ words at
load_saw at words after seen made = ap (λ (s : Seen). s.before) made.tells

-- an exchange wins or is lost
pub data Exchanged (at from to : ℕ) (words after : ℕ → ℕ) (seen : Seen) : Type 0 where
  won : words at ≡ from → after at ≡ to → ((place : ℕ) → place ≢ at → after place ≡ words place) → seen.won ≡ true → Exchanged at from to words after seen
  lost : words at ≢ from → ((place : ℕ) → after place ≡ words place) → seen.won ≡ false → Exchanged at from to words after seen

pub exchange_did : (at from to : ℕ) (words after : ℕ → ℕ) (seen : Seen) → RequestMade (Exchange at from to) words after seen → Exchanged at from to words after seen
exchange_did at from to words after seen made =
    elim (cases_eq (words at) from) [
      | inl same ↦ won same (made.here ∙ ap (λ b. if b then to else words at) (eq-eqb (words at) from same)) made.beside (ap (λ (s : Seen). s.won) made.tells ∙ eq-eqb (words at) from same)
      | inr differs ↦ lost differs (leaves differs) (ap (λ (s : Seen). s.won) made.tells ∙ ne_eqb (words at) from differs)
    ]
  where
    leaves : words at ≢ from → (place : ℕ) → after place ≡ words place
    leaves differs place =
        elim (cases_eq place at) [
          | inl same ↦ ap after same ∙ made.here ∙ ap (λ b. if b then to else words at) (ne_eqb (words at) from differs) ∙ sym (ap words same)
          | inr apart ↦ made.beside place apart
        ]
