-- The words at links: a client's, and versioned.
use Rattle.std.proofs.Common.{◌≡◌, ◌≢◌, ℕ, ◌/◌, ◌<◌, true, ap, ◌∙◌, inl, inr, arith}
use Rattle.node_arena.specs.MemoryMap.{reference_to}
use Rattle.node_arena.proofs.PlacesApart.{block-reference_to}
use Rattle.normal_traits.specs.World.{World, is_word, no_root}
use Rattle.harris_list_form.specs.Lists.{Lists, AreLists, is_versioned}
use Rattle.harris_list_form.specs.Search.{next_place}
use Rattle.harris_list_form.specs.Nodes.{is_node, next_at, IsOf, IsLink, IsNamed}
use Rattle.harris_list_form.specs.Shape.{AreSorted}
use Rattle.harris_list_form.proofs.Held.Places.{next_word, next_versioned, start_word, start_versioned}

module _ (lists : Lists) (are : AreLists lists) (world : World) (sorted : AreSorted lists world) where
  pub positive : (block : ℕ) → is_node world.changes block ≡ true → 0 < block
  positive block node = (sorted.stored block node).some

  pub node_word : (block : ℕ) → is_node world.changes block ≡ true → is_word no_root world (next_at block) ≡ true
  node_word block node = next_word world block (sorted.stored block node).used

  pub link_word : (start place : ℕ) → IsLink lists world.changes start place → is_word no_root world place ≡ true
  link_word start place (inl at) = ap (is_word no_root world) at.1 ∙ start_word lists are world start sorted.first at.0
  link_word start place (inr link) = ap (is_word no_root world) link.2 ∙ node_word link.0 link.1.node

  pub link_versioned : (start place : ℕ) → IsLink lists world.changes start place → is_versioned lists place ≡ true
  link_versioned start place (inl at) = ap (is_versioned lists) at.1 ∙ start_versioned lists are start at.0
  link_versioned start place (inr link) = ap (is_versioned lists) link.2 ∙ next_versioned lists are link.0

  -- a reference that is named and not null is to a node, whose next word is a link
  pub node_of : (start reference : ℕ) → IsNamed lists world.changes start reference → reference ≢ 0 → (block : ℕ) × IsOf lists world.changes start block × (reference ≡ reference_to block 1)
  node_of start reference (inl null) some = absurd (some null)
  node_of start reference (inr named) some = named

  pub named_link : (start reference : ℕ) → IsNamed lists world.changes start reference → reference ≢ 0 → IsLink lists world.changes start (next_place reference)
  named_link start reference named some =
      let node = node_of start reference named some in
      inr (node.0, node.1, ap next_place node.2)

pub block_named : (reference block : ℕ) → reference ≡ reference_to block 1 → reference / 4 ≡ block
block_named reference block e = ap (λ r. r / 4) e ∙ block-reference_to block 1 (omega arith)
