-- What one change more does to the chain that the changes give: nothing to its nodes, at most one more.
use Rattle.std.proofs.Common.{◌≡◌, ℕ, ◌+◌, ◌*◌, ◌≤◌, Bool, true, false, cond, eqb, ◌&&◌, List, ◌∷◌, length, refl, ap, inl, inr, ◌⊎◌, arith}
use Rattle.std.proofs.lemmas.Bool.{true≢false, false≢true, ne_eqb, eq-eqb, cond-true, cond-false}
use Rattle.node_arena.specs.MemoryMap.{node_place}
use Rattle.normal_traits.specs.World.{Change, Among, first_changes}
use Rattle.ms_queue_form.specs.Chain.{puts_one, puts, takes, node_block, put_value, node_at, next_of, value_of}
use Rattle.client_lemmas.proofs.Growing.{first_older}

-- the second has the changes of the first and maybe newer ones, so its chain goes on that of the first
pub record Extends (old new : List Change) : Type 0 where
  pub puts_grow : puts old ≤ puts new
  pub takes_grow : takes old ≤ takes new
  pub longer : length old ≤ length new
  pub blocks : (k : ℕ) → k ≤ puts old → node_block new k ≡ node_block old k
  pub values : (k : ℕ) → k ≤ puts old → put_value new k ≡ put_value old k
  pub among : (change : Change) → Among change old → Among change new
  pub first : (count : ℕ) → count ≤ length old → first_changes count new ≡ first_changes count old
  -- at most one is newer, so not both a put and a take
  pub one : (takes new ≡ takes old) ⊎ (puts new ≡ puts old)

pub extends_same : (changes : List Change) → Extends changes changes
extends_same changes = record { puts_grow = omega arith; takes_grow = omega arith; longer = omega arith; blocks = λ k h. refl; values = λ k h. refl; among = λ change a. a; first = λ count low. refl; one = inl refl }

one_more : (b : Bool) (n : ℕ) → n ≤ cond b (n + 1) n
one_more true n = omega arith
one_more false n = omega arith

or_one_more : (b : Bool) (n : ℕ) → n ≤ cond b n (n + 1)
or_one_more true n = omega arith
or_one_more false n = omega arith

put_or_take : (b : Bool) (n m : ℕ) → (cond b m (m + 1) ≡ m) ⊎ (cond b (n + 1) n ≡ n)
put_or_take true n m = inl refl
put_or_take false n m = inr refl

-- a place of the chain that is no new one
not_new : (b : Bool) (k n x y : ℕ) → k ≤ n → cond (b && eqb k (n + 1)) x y ≡ y
not_new false k n x y low = refl
not_new true k n x y low = cond-false (eqb k (n + 1)) x y (ne_eqb k (n + 1) (λ e. omega arith))

pub extends_more : (change : Change) (changes : List Change) → Extends changes (change ∷ changes)
extends_more change changes =
    record {
      puts_grow = one_more (puts_one change) (puts changes);
      takes_grow = or_one_more (puts_one change) (takes changes);
      longer = omega arith;
      blocks = λ k low. not_new (puts_one change) k (puts changes) change.list.block (node_block changes k) low;
      values = λ k low. not_new (puts_one change) k (puts changes) change.list.call.op.value (put_value changes k) low;
      among = λ other a. inr a;
      first = λ count low. first_older change changes count low;
      one = put_or_take (puts_one change) (puts changes) (takes changes);
    }

-- ---- the nodes of the longer chain

module _ (old new : List Change) (extends : Extends old new) where
  pub same_node_at : (k : ℕ) → k ≤ puts old → node_at new k ≡ node_at old k
  same_node_at k low = ap (λ block. 4 * block + 1) (extends.blocks k low)

  pub same_next_of : (k : ℕ) → k ≤ puts old → next_of new k ≡ next_of old k
  same_next_of k low = ap (λ reference. node_place reference 2) (same_node_at k low)

  pub same_value_of : (k : ℕ) → k ≤ puts old → value_of new k ≡ value_of old k
  same_value_of k low = ap (λ reference. node_place reference 1) (same_node_at k low)

-- ---- a put, and a take

module _ (change : Change) (changes : List Change) where
  pub puts-put : puts_one change ≡ true → puts (change ∷ changes) ≡ puts changes + 1
  puts-put put = cond-true (puts_one change) (puts changes + 1) (puts changes) put

  pub takes-put : puts_one change ≡ true → takes (change ∷ changes) ≡ takes changes
  takes-put put = cond-true (puts_one change) (takes changes) (takes changes + 1) put

  pub puts-take : puts_one change ≡ false → puts (change ∷ changes) ≡ puts changes
  puts-take take = cond-false (puts_one change) (puts changes + 1) (puts changes) take

  pub takes-take : puts_one change ≡ false → takes (change ∷ changes) ≡ takes changes + 1
  takes-take take = cond-false (puts_one change) (takes changes) (takes changes + 1) take

  new_one : (b : Bool) (n x y : ℕ) → b ≡ true → cond (b && eqb (n + 1) (n + 1)) x y ≡ x
  new_one true n x y e = cond-true (eqb (n + 1) (n + 1)) x y (eq-eqb (n + 1) (n + 1) refl)
  new_one false n x y e = absurd (false≢true e)

  pub block-put : puts_one change ≡ true → node_block (change ∷ changes) (puts changes + 1) ≡ change.list.block
  block-put put = new_one (puts_one change) (puts changes) change.list.block (node_block changes (puts changes + 1)) put

  pub value-put : puts_one change ≡ true → put_value (change ∷ changes) (puts changes + 1) ≡ change.list.call.op.value
  value-put put = new_one (puts_one change) (puts changes) change.list.call.op.value (put_value changes (puts changes + 1)) put

  no_new : (b : Bool) (k n x y : ℕ) → b ≡ false → cond (b && eqb k n) x y ≡ y
  no_new false k n x y e = refl
  no_new true k n x y e = absurd (true≢false e)

  -- a take leaves the chain as it is at every place
  pub block-take : puts_one change ≡ false → (k : ℕ) → node_block (change ∷ changes) k ≡ node_block changes k
  block-take take k = no_new (puts_one change) k (puts changes + 1) change.list.block (node_block changes k) take

  pub value-take : puts_one change ≡ false → (k : ℕ) → put_value (change ∷ changes) k ≡ put_value changes k
  value-take take k = no_new (puts_one change) k (puts changes + 1) change.list.call.op.value (put_value changes k) take
