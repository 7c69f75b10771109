-- The unmarked nodes after a step: where no node is added or marked, where one is added, and where one is
-- marked.
use Rattle.std.proofs.Common.{◌≡◌, ◌≢◌, ℕ, ◌+◌, ◌<◌, Bool, true, false, eqb, List, ◌∷◌, refl, sym, ap, ◌∙◌, inl, inr, ◌⊎◌, arith}
use Rattle.std.proofs.lemmas.Bool.{true≢false, cases_eq, eq-eqb, or_left, or_right}
use Rattle.normal_traits.specs.World.{Change}
use Rattle.normal_traits.specs.Steps.{using_block}
use Rattle.harris_list_form.specs.Lists.{Lists, AreLists}
use Rattle.harris_list_form.specs.Search.{is_add}
use Rattle.harris_list_form.specs.Nodes.{holds, is_node, node_key, next_at, node_rank, place_rank, rank_of, IsLink}
use Rattle.harris_list_form.specs.Path.{stands, IsPath, AreLive, parity}
use Rattle.harris_list_form.proofs.Held.Places.{stands_start, stands_next}
use Rattle.harris_list_form.proofs.Steps.Changes.{Extends, node_cases, node_own, key_own, holds_own, holds_other, node_del, key_del}

module _ (lists : Lists) (changes : List Change) (words : ℕ → ℕ) (path : ℕ → Bool) (live : AreLive lists changes words path) where
  -- ---- what it tells of a link

  -- a link that is not marked is on the path
  pub stands_now : AreLists lists → ((block : ℕ) → is_node changes block ≡ true → 0 < block) → (start place : ℕ) → IsLink lists changes start place → parity words place ≡ 0 → stands path place ≡ true
  stands_now are some start place (inl at) even = ap (stands path) at.1 ∙ stands_start path start (are.within start at.0)
  stands_now are some start place (inr link) even =
      ap (stands path) link.2 ∙ stands_next path link.0 (some link.0 link.1.node) ∙ live.live link.0 link.1.node (sym (ap (parity words) link.2) ∙ even)

  -- no key is held between a link on the path and the node that it leads to
  pub none_held : (next : ℕ → ℕ) → IsPath lists changes next path → (start place key : ℕ) → IsLink lists changes start place → stands path place ≡ true → lists.start_of key ≡ start
      → place_rank changes place < key + 1 → key + 1 < rank_of changes (next place) → holds changes key ≡ false
  none_held next is start place key link standing list low high = by_held (holds changes key) refl
    where
      by_held : (held : Bool) → holds changes key ≡ held → holds changes key ≡ false
      by_held false e = e
      by_held true e =
          let node = live.kept key e in
          let far : place_rank changes place < node_rank changes node.0 = omega (arith, low, node.2) in
          absurd (omega (arith, high, node.2, is.nearest start place node.0 link standing (live.live node.0 node.1 node.3) (ap lists.start_of node.2 ∙ list) far))

  -- ---- after a step

  pub live_moved : (words' : ℕ → ℕ) (path' : ℕ → Bool) → ((place : ℕ) → lists.is_start place ≡ true → parity words' place ≡ parity words place)
      → ((block : ℕ) → is_node changes block ≡ true → parity words' (next_at block) ≡ parity words (next_at block))
      → ((block : ℕ) → is_node changes block ≡ true → parity words (next_at block) ≡ 0 → path block ≡ true → path' block ≡ true) → AreLive lists changes words' path'
  live_moved words' path' on_starts on_nodes stay =
      record {
        starts = λ place is. on_starts place is ∙ live.starts place is;
        live = λ block node even.
            let was = sym (on_nodes block node) ∙ even in
            stay block node was (live.live block node was);
        held = λ block node even. live.held block node (sym (on_nodes block node) ∙ even);
        kept = λ key e.
            let node = live.kept key e in
            (node.0, node.1, node.2, on_nodes node.0 node.1 ∙ node.3);
      }

  module _ (change : Change) (extends : Extends changes (change ∷ changes)) (words' : ℕ → ℕ) (on_starts : (place : ℕ) → lists.is_start place ≡ true → parity words' place ≡ parity words place) where
    -- a node is added, with all others as they were
    module _ (add : is_add change.list.call.op ≡ true) (even : parity words' (next_at change.list.block) ≡ 0)
        (on_nodes : (block : ℕ) → is_node changes block ≡ true → parity words' (next_at block) ≡ parity words (next_at block)) where
      live_then : (block : ℕ) → (change.list.block ≡ block) ⊎ (is_node changes block ≡ true) → parity words' (next_at block) ≡ 0 → using_block change.list.block path block ≡ true
      live_then block (inl own) is = or_left (eqb block change.list.block) (path block) (eq-eqb block change.list.block (sym own))
      live_then block (inr node) is = or_right (eqb block change.list.block) (path block) (live.live block node (sym (on_nodes block node) ∙ is))

      held_then : (block : ℕ) → (change.list.block ≡ block) ⊎ (is_node changes block ≡ true) → parity words' (next_at block) ≡ 0 → holds (change ∷ changes) (node_key (change ∷ changes) block) ≡ true
      held_then block (inl own) is = holds_own change changes (node_key (change ∷ changes) block) (sym (key_own change changes add) ∙ ap (node_key (change ∷ changes)) own) ∙ add
      held_then block (inr node) is = by_key (cases_eq change.list.call.op.key (node_key (change ∷ changes) block))
        where
          by_key : (change.list.call.op.key ≡ node_key (change ∷ changes) block) ⊎ (change.list.call.op.key ≡ node_key (change ∷ changes) block → ⊥) → holds (change ∷ changes) (node_key (change ∷ changes) block) ≡ true
          by_key (inl same) = holds_own change changes (node_key (change ∷ changes) block) same ∙ add
          by_key (inr other) =
              holds_other change changes (node_key (change ∷ changes) block) other ∙ ap (holds changes) (extends.keys block node) ∙ live.held block node (sym (on_nodes block node) ∙ is)

      kept_then : (key : ℕ) → holds (change ∷ changes) key ≡ true → (change.list.call.op.key ≡ key) ⊎ (change.list.call.op.key ≡ key → ⊥)
          → (block : ℕ) × (is_node (change ∷ changes) block ≡ true) × (node_key (change ∷ changes) block ≡ key) × (parity words' (next_at block) ≡ 0)
      kept_then key e (inl same) = (change.list.block, node_own change changes add, key_own change changes add ∙ same, even)
      kept_then key e (inr other) =
          let node = live.kept key (sym (holds_other change changes key other) ∙ e) in
          (node.0, extends.nodes node.0 node.1, extends.keys node.0 node.1 ∙ node.2, on_nodes node.0 node.1 ∙ node.3)

      pub live_added : AreLive lists (change ∷ changes) words' (using_block change.list.block path)
      live_added =
          record {
            starts = λ place is. on_starts place is ∙ live.starts place is;
            live = λ block node is. live_then block (node_cases change changes block node) is;
            held = λ block node is. held_then block (node_cases change changes block node) is;
            kept = λ key e. kept_then key e (cases_eq change.list.call.op.key key);
          }

    -- a node is marked, with all others as they were
    module _ (del : is_add change.list.call.op ≡ false) (next : ℕ → ℕ) (is : IsPath lists changes next path) (block : ℕ) (path_on : path block ≡ true)
        (key : node_key changes block ≡ change.list.call.op.key) (odd : parity words' (next_at block) ≡ 1)
        (on_nodes : (other : ℕ) → is_node changes other ≡ true → other ≢ block → parity words' (next_at other) ≡ parity words (next_at other)) where
      was_node : (other : ℕ) → is_node (change ∷ changes) other ≡ true → is_node changes other ≡ true
      was_node other node = sym (node_del change changes del other) ∙ node

      not_marked : (other : ℕ) → parity words' (next_at other) ≡ 0 → other ≢ block
      not_marked other even same = omega (arith, even, odd, ap (λ b. parity words' (next_at b)) same)

      was_even : (other : ℕ) → is_node changes other ≡ true → parity words' (next_at other) ≡ 0 → parity words (next_at other) ≡ 0
      was_even other node even = sym (on_nodes other node (not_marked other even)) ∙ even

      -- another unmarked node has another key
      key_apart : (other : ℕ) → is_node changes other ≡ true → parity words' (next_at other) ≡ 0 → change.list.call.op.key ≢ node_key (change ∷ changes) other
      key_apart other node even same =
          not_marked other even (is.one_a_key other block (live.live other node (was_even other node even)) path_on (sym (key_del change changes del other) ∙ sym same ∙ sym key))

      kept_marked : (k : ℕ) → holds (change ∷ changes) k ≡ true → (change.list.call.op.key ≡ k) ⊎ (change.list.call.op.key ≡ k → ⊥)
          → (other : ℕ) × (is_node (change ∷ changes) other ≡ true) × (node_key (change ∷ changes) other ≡ k) × (parity words' (next_at other) ≡ 0)
      kept_marked k e (inl same) = absurd (true≢false (sym e ∙ holds_own change changes k same ∙ del))
      kept_marked k e (inr other) =
          let node = live.kept k (sym (holds_other change changes k other) ∙ e) in
          let apart : node.0 ≢ block = λ same. other (sym key ∙ ap (node_key changes) (sym same) ∙ node.2) in
          (node.0, node_del change changes del node.0 ∙ node.1, key_del change changes del node.0 ∙ node.2, on_nodes node.0 node.1 apart ∙ node.3)

      pub live_marked : AreLive lists (change ∷ changes) words' path
      live_marked =
          record {
            starts = λ place e. on_starts place e ∙ live.starts place e;
            live = λ other node even. live.live other (was_node other node) (was_even other (was_node other node) even);
            held = λ other node even.
                holds_other change changes (node_key (change ∷ changes) other) (key_apart other (was_node other node) even)
                ∙ ap (holds changes) (key_del change changes del other) ∙ live.held other (was_node other node) (was_even other (was_node other node) even);
            kept = λ k e. kept_marked k e (cases_eq change.list.call.op.key k);
          }
