-- Lists whose first entry is lost for ever.
use Rattle.std.specs.Prelude.{◌≡◌, ℕ, Bool, true, slice_get, Some}
use Rattle.normal_traits.specs.declared.lists.Entry.{Entry}
use Rattle.normal_traits.specs.World.{Listed, World, IsPassed, Took, is_word}

-- the list's first entry stands at a versioned word of the client that is past it, and didn't take effect: a ready
-- meaning of a dead list, for a structure whose lists make their changes at once
pub record IsLost (is_root is_versioned : ℕ → Bool) (list : Listed) (world : World) : Type 0 where
  pub entry : Entry
  pub listed : slice_get list.entries 0 ≡ Some entry
  pub word : is_word is_root world entry.target ≡ true
  pub versioned : is_versioned entry.target ≡ true
  pub passed : IsPassed world entry
  pub lost : ¬ Took world list 0
