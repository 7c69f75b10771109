-- What the words of the tree stand for, read off the words alone: where a key's way from the root ends.
use Rattle.std.specs.Prelude.{◌≡◌, ℕ, ◌<◌, false}
use Rattle.std.specs.FinMap as map
use Rattle.lin_report.specs.Commands.{KEY_LIMIT}
use Rattle.lin_report.specs.Object.{map_object}
use Rattle.normal_traits.specs.World.{World, held_after}
use Rattle.ellen_tree_form.specs.Words.{is_internal}
use Rattle.ellen_tree_form.specs.Shape.{OnWay, way, told_by}

-- from the root on, with the left child of each node of a greater key and else the right one, one comes to this leaf
pub record IsEnd (words : ℕ → ℕ) (key leaf : ℕ) : Type 0 where
  pub above : ℕ
  pub reached : OnWay words key above
  pub next : way words key above ≡ leaf
  pub out : is_internal leaf ≡ false

-- each key's way ends, at one leaf, and the map holds at the key what this leaf tells: its value where the key is
-- its own, else nothing
pub record TreeShape (world : World) : Type 0 where
  pub ends : (key : ℕ) → key < KEY_LIMIT → (leaf : ℕ) × IsEnd world.words key leaf
  pub one : (key a b : ℕ) → key < KEY_LIMIT → IsEnd world.words key a → IsEnd world.words key b → a ≡ b
  pub tells : (key leaf : ℕ) → key < KEY_LIMIT → IsEnd world.words key leaf → map.get (held_after map_object world.changes) key ≡ told_by world.words key leaf
