-- The words of the buckets stand for the union of their lists.
use Rattle.std.proofs.Common.{◌≡◌, ℕ, ◌+◌, ◌%◌, ◌<◌, true, sym, ap, ◌∙◌, arith}
use Rattle.std.specs.Prelude.{nat_le, nat_lt}
use Rattle.std.specs.FinSet as set
use Rattle.std.proofs.lemmas.Bool.{le-leb, lt-ltb, and_from, ne_eqb}
use Rattle.std.proofs.lemmas.Nat.{mod_below}
use Rattle.lin_report.specs.Object.{set_object}
use Rattle.word_fields.specs.Versioned.{versioned_value}
use Rattle.normal_traits.specs.World.{World, held_after}
use Rattle.harris_list_form.specs.Search.{is_marked, next_place, key_place}
use Rattle.harris_list_form.specs.Nodes.{holds, next_at}
use Rattle.harris_list_form.specs.Shape.{AreSorted}
use Rattle.harris_list_form.proofs.Held.Sets.{set_held}
use Rattle.bucket_set.specs.Buckets.{bucket_count, start_of, buckets}
use Rattle.bucket_set.specs.BucketShape.{BucketShape, IsMember}
use Rattle.bucket_set.specs.ProvedLaws.{counted, are_buckets}
use Rattle.bucket_set.proofs.Reaching.{even, reached_link, one_start, member_node, reached_node, member_forth, member_back}

begins_there : (asked bucket : ℕ) → bucket < bucket_count asked → (buckets asked).is_start (32 + bucket) ≡ true
begins_there asked bucket below = and_from (nat_le 32 (32 + bucket)) (nat_lt (32 + bucket) (32 + bucket_count asked)) (le-leb 32 (32 + bucket) (omega arith)) (lt-ltb (32 + bucket) (32 + bucket_count asked) (omega (arith, below)))

module _ (asked : ℕ) (world : World) (shape : AreSorted (buckets asked) world) where
  contained : (key : ℕ) → set.contains (held_after set_object world.changes) key ≡ holds world.changes key
  contained key = set_held world.changes shape.effective key

  member_own : (bucket key : ℕ) → bucket < bucket_count asked → IsMember world.words (32 + bucket) key → key % bucket_count asked ≡ bucket
  member_own bucket key below member =
      let node = member_node (buckets asked) (are_buckets asked) world shape (32 + bucket) key (begins_there asked bucket below) member in
      let start : start_of asked key ≡ 32 + bucket = ap (start_of asked) (sym node.3) ∙ node.1.list in
      omega (arith, start)

  held_member : (bucket key : ℕ) → bucket < bucket_count asked → IsMember world.words (32 + bucket) key → holds world.changes key ≡ true
  held_member bucket key below member =
      let node = member_node (buckets asked) (are_buckets asked) world shape (32 + bucket) key (begins_there asked bucket below) member in
      let unmarked : versioned_value (world.words (next_at node.0)) % 2 ≡ 0 = even (world.words (next_at node.0)) (ap (λ reference. is_marked (world.words (next_place reference))) (sym node.2) ∙ member.unmarked) in
      ap (holds world.changes) (sym node.3) ∙ shape.has_path.living.held node.0 node.1.node unmarked

  member_held : (key : ℕ) → holds world.changes key ≡ true → (bucket : ℕ) × (bucket < bucket_count asked) × IsMember world.words (32 + bucket) key
  member_held key held =
      let kept = shape.has_path.living.kept key held in
      let below : key % bucket_count asked < bucket_count asked = mod_below key (bucket_count asked) (counted asked).0 in
      let is = begins_there asked (key % bucket_count asked) below in
      let on = shape.has_path.living.live kept.0 kept.1 kept.3 in
      let before = reached_node (buckets asked) (are_buckets asked) world shape (start_of asked key) kept.0 is kept.1 on (ap (start_of asked) kept.2) in (
        key % bucket_count asked,
        below,
        record {
          before = before.0;
          reached = before.1;
          some = λ null. omega (arith, sym before.2 ∙ null);
          unmarked = ap (λ reference. is_marked (world.words (next_place reference))) before.2 ∙ ne_eqb (versioned_value (world.words (next_at kept.0)) % 2) 1 (λ odd. omega (arith, odd, kept.3));
          keyed = ap (λ reference. world.words (key_place reference)) before.2 ∙ (shape.stored kept.0 kept.1).keyed ∙ kept.2;
        },
      )

  pub bucket_shape : BucketShape asked world
  bucket_shape = record {
    own = member_own;
    apart = λ bucket other place below below' reached reached'.
        let is = begins_there asked bucket below in
        let is' = begins_there asked other below' in
        let same : 32 + bucket ≡ 32 + other = one_start (buckets asked) (are_buckets asked) world shape (32 + bucket) (32 + other) place is is'
        (reached_link (buckets asked) (are_buckets asked) world shape (32 + bucket) place is reached) (reached_link (buckets asked) (are_buckets asked) world shape (32 + other) place is' reached') in
        omega (arith, same);
    union = λ key. (λ contains. member_held key (sym (contained key) ∙ contains), λ member. contained key ∙ held_member member.0 key member.1 member.2);
    others = λ bucket place word key below versioned off.
        let is = begins_there asked bucket below in
        (member_forth (buckets asked) (are_buckets asked) world shape (32 + bucket) place word is versioned off key, member_back (buckets asked) (are_buckets asked) world shape (32 + bucket) place word is versioned off key);
  }
