-- No exchange was made for a list that a helper carries.
use Rattle.std.proofs.Common.{◌≡◌, refl, ap, ℕ, ◌==◌, ◌||◌, Bool, true, false, List, [], ◌∷◌, inl, inr, arith, rules}
use Rattle.std.proofs.lemmas.Bool.{and_parts, cases_Bool}
use Rattle.std.proofs.lemmas.Bool.Decides.{nat_tests}
use Rattle.normal_traits.specs.World.{Among, Listed, Maker, Won}
use Rattle.normal_traits.specs.World.Maker.{By, Beside}
use Rattle.normal_traits.specs.NormalForm.{NormalForm}
use Rattle.offered_blocks.specs.Blocks.{has_taken, is_of}
use Rattle.run_world.specs.Identities.{CarriedFresh, list_offered}
use Rattle.run_world.specs.RunGhosts.{ghost_of}
use Rattle.run_world.proofs.Names.Journal.{carried_none}

-- an exchange that is of an entry of a list was made for one with its identity
of_identity : (list : Listed) (j : ℕ) (maker : Maker) → is_of list j maker ≡ true → (other : Listed) × (k : ℕ) × (maker ≡ By other k) × (other.identity ≡ list.identity)
of_identity list j (By other k) is =
    let parts = and_parts (other.identity == list.identity) (k == j) is in
    let test = parts.0 in
    (other, k, refl, grind (arith, nat_tests, test))
of_identity list j Beside is = absurd (search rules)

either_false : (b c : Bool) → b ≡ false → c ≡ false → (b || c) ≡ false
either_false true c h k = absurd (search rules)
either_false false c h k = k

pub taken_none : (list : Listed) (j : ℕ) (journal : List Won) → ((won : Won) (other : Listed) (k : ℕ) → Among won journal → won.maker ≡ By other k → other.identity ≡ list.identity → ⊥) → has_taken journal list j ≡ false
taken_none list j [] none = refl
taken_none list j (won ∷ journal) none =
    either_false (is_of list j won.maker) (has_taken journal list j)
    (elim (cases_Bool (is_of list j won.maker)) [
      | inl is ↦ (let of = of_identity list j won.maker is in absurd (none won of.0 of.1 (inl refl) of.2 of.3))
      | inr isnt ↦ isnt
    ])
    (taken_none list j journal (λ other mate k among maker same. none other mate k (inr among) maker same))

module _ {S W : Type 0} (form : NormalForm S W) where
  pub carried_fresh : CarriedFresh form
  carried_fresh setup moves seat offer j is = taken_none offer.list j (ghost_of form setup moves).journal (λ won other k among maker same. carried_none form setup moves seat offer.list (ap list_offered is) won other k among maker same)
