-- The entries of a list: one at a place, one that is alone, and that a structure without changes beside its lists adds none.
use Rattle.std.proofs.Common.{◌≡◌, ◌≢◌, ℕ, List, [], ◌∷◌, Option, Some, None, refl, sym, ap, ◌∙◌}
use Rattle.std.specs.Prelude.{slice_get}
use Rattle.normal_traits.specs.declared.lists.Entry.{Entry}
use Rattle.normal_traits.specs.World.{Listed}

abbrev entry_or : Entry → Option Entry → Entry
entry_or entry None = entry
entry_or entry (Some other) = other

-- one place of a list has one entry
pub same_entry : (entries : List Entry) (j : ℕ) (entry other : Entry) → slice_get entries j ≡ Some entry → slice_get entries j ≡ Some other → entry ≡ other
same_entry entries j entry other first second = ap (entry_or entry) (sym first ∙ second)

-- the first entry of a list that has one alone
pub the_entry : (entries : List Entry) (entry only : Entry) → slice_get entries 0 ≡ Some entry → entries ≡ only ∷ [] → only ≡ entry
the_entry entries entry only listed one = same_entry (only ∷ []) 0 only entry refl (ap (λ (es : List Entry). slice_get es 0) (sym one) ∙ listed)

-- such a list has no second entry
pub no_second : (entries : List Entry) (only entry : Entry) → entries ≡ only ∷ [] → slice_get entries 1 ≡ Some entry → ⊥
no_second entries only entry one listed = let none : None ≡ Some entry = ap (λ (es : List Entry). slice_get es 1) (sym one) ∙ listed in absurd cc

-- nothing is no list: a structure that adds no change beside its lists
pub none_beside : (list : Listed) → None ≢ Some list
none_beside list e = absurd cc
