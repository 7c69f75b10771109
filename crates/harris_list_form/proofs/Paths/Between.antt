-- The nodes of one list between two ranks, and the path without them.
use Rattle.std.proofs.Common.{◌≡◌, ℕ, ◌<◌, Bool, true, false, not, eqb, ltb, ◌&&◌, List, refl, ap}
use Rattle.std.proofs.lemmas.Bool.{eqb-true, eq-eqb, ltb-true, lt-ltb, and_parts, and_from}
use Rattle.normal_traits.specs.World.{Change}
use Rattle.harris_list_form.specs.Lists.{Lists}
use Rattle.harris_list_form.specs.Nodes.{node_key, node_rank, place_rank, rank_of}

-- the node is one of this list between two ranks, those of the left place and of the later reference
abbrev pub is_between : Lists → List Change → ℕ → ℕ → ℕ → ℕ → Bool
is_between lists changes start left cur block =
    eqb (lists.start_of (node_key changes block)) start && (ltb (place_rank changes left) (node_rank changes block) && ltb (node_rank changes block) (rank_of changes cur))

-- the path without them
abbrev pub without_between : Lists → List Change → ℕ → ℕ → ℕ → (ℕ → Bool) → ℕ → Bool
without_between lists changes start left cur path block = path block && not (is_between lists changes start left cur block)

module _ (lists : Lists) (changes : List Change) (start left cur block : ℕ) where
  pub between : lists.start_of (node_key changes block) ≡ start → place_rank changes left < node_rank changes block → node_rank changes block < rank_of changes cur → is_between lists changes start left cur block ≡ true
  between list low high =
      and_from (eqb (lists.start_of (node_key changes block)) start) _ (eq-eqb (lists.start_of (node_key changes block)) start list)
      (and_from (ltb (place_rank changes left) (node_rank changes block)) (ltb (node_rank changes block) (rank_of changes cur)) (lt-ltb _ _ low) (lt-ltb _ _ high))

  -- what its being between tells
  pub is_inside : is_between lists changes start left cur block ≡ true → (lists.start_of (node_key changes block) ≡ start) × (place_rank changes left < node_rank changes block) × (node_rank changes block < rank_of changes cur)
  is_inside e =
      let parts = and_parts (eqb (lists.start_of (node_key changes block)) start) (ltb (place_rank changes left) (node_rank changes block) && ltb (node_rank changes block) (rank_of changes cur)) e in
      let ends = and_parts (ltb (place_rank changes left) (node_rank changes block)) (ltb (node_rank changes block) (rank_of changes cur)) parts.1 in
      (eqb-true (lists.start_of (node_key changes block)) start parts.0, ltb-true (place_rank changes left) (node_rank changes block) ends.0, ltb-true (node_rank changes block) (rank_of changes cur) ends.1)

  pub not_between : (lists.start_of (node_key changes block) ≡ start → place_rank changes left < node_rank changes block → node_rank changes block < rank_of changes cur → ⊥) → not (is_between lists changes start left cur block) ≡ true
  not_between far = by_test (is_between lists changes start left cur block) refl
    where
      by_test : (b : Bool) → is_between lists changes start left cur block ≡ b → not (is_between lists changes start left cur block) ≡ true
      by_test true e = let inside = is_inside e in absurd (far inside.0 inside.1 inside.2)
      by_test false e = ap not e
