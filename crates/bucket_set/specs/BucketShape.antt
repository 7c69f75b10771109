-- What the words of the buckets stand for, read off the words alone: each list from its beginning on.
use Rattle.std.specs.Prelude.{◌≡◌, ◌≢◌, ℕ, ◌+◌, ◌%◌, ◌<◌, ◌↔◌, true, false}
use Rattle.std.specs.FinSet as set
use Rattle.lin_report.specs.Object.{set_object}
use Rattle.normal_traits.specs.World.{World, held_after}
use Rattle.normal_traits.specs.Steps.{with_word}
use Rattle.harris_list_form.specs.Lists.{is_versioned}
use Rattle.harris_list_form.specs.Search.{led, is_marked, next_place, key_place}
use Rattle.bucket_set.specs.Buckets.{bucket_count, buckets}

-- the places through which the words lead from a beginning: after it, those of the next words of nodes
pub data Reached (words : ℕ → ℕ) (start : ℕ) : ℕ → Type 0 where
  begins : {place : ℕ} → place ≡ start → Reached words start place
  leads : {place : ℕ} (before : ℕ) → Reached words start before → led (words before) ≢ 0 → place ≡ next_place (led (words before)) → Reached words start place

-- the key is that of an unmarked node to which a reached place leads
pub record IsMember (words : ℕ → ℕ) (start key : ℕ) : Type 0 where
  pub before : ℕ
  pub reached : Reached words start before
  pub some : led (words before) ≢ 0
  pub unmarked : is_marked (words (next_place (led (words before)))) ≡ false
  pub keyed : words (key_place (led (words before))) ≡ key

-- each member of a list has its remainder; no node is reached from two beginnings; the set is the union of the
-- lists; and an exchange elsewhere than on a list leaves its members
pub record BucketShape (asked : ℕ) (world : World) : Type 0 where
  pub own : (bucket key : ℕ) → bucket < bucket_count asked → IsMember world.words (32 + bucket) key → key % bucket_count asked ≡ bucket
  pub apart : (bucket other place : ℕ) → bucket < bucket_count asked → other < bucket_count asked → Reached world.words (32 + bucket) place → Reached world.words (32 + other) place → bucket ≡ other
  pub union : (key : ℕ) → (set.contains (held_after set_object world.changes) key ≡ true) ↔ ((bucket : ℕ) × (bucket < bucket_count asked) × IsMember world.words (32 + bucket) key)
  pub others : (bucket place word key : ℕ) → bucket < bucket_count asked → is_versioned (buckets asked) place ≡ true → (Reached world.words (32 + bucket) place → ⊥)
      → (IsMember world.words (32 + bucket) key ↔ IsMember (with_word place word world.words) (32 + bucket) key)
