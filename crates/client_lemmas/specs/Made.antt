-- Changes that are made by the first entries of their lists.
use Rattle.std.specs.Prelude.{◌≡◌, ◌≢◌, ◌<◌, true, AllPairs}
use Rattle.normal_traits.specs.World.{Change, World, Among, Took}

-- each change was made by its list's first entry, and no two by one list or with one block; a part of the shape of a
-- structure whose lists make their changes at once
pub record AreMade (world : World) : Type 0 where
  pub took : (change : Change) → Among change world.changes → Took world change.list 0
  pub blocks : (change : Change) → Among change world.changes → world.used change.list.block ≡ true
  pub lists_differ : AllPairs (λ (a b : Change). a.list.identity ≢ b.list.identity) world.changes
  pub blocks_differ : AllPairs (λ (a b : Change). 0 < a.list.block → a.list.block ≢ b.list.block) world.changes
