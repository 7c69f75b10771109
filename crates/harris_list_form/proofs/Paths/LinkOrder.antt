-- The links of a path, in the order of their ranks.
use Rattle.std.proofs.Common.{◌≡◌, ℕ, ◌<◌, ◌≤◌, Bool, true, List, sym, ap, ◌∙◌, subst, inl, inr, arith}
use Rattle.normal_traits.specs.World.{Change}
use Rattle.harris_list_form.specs.Lists.{Lists, AreLists}
use Rattle.harris_list_form.specs.Nodes.{is_node, node_key, next_at, node_rank, place_rank, rank_of, IsOf, IsLink}
use Rattle.harris_list_form.specs.Path.{stands, IsPath}
use Rattle.harris_list_form.proofs.Held.Places.{rank_start, rank_next, stands_next, same_next, start_not_next}

module _ (lists : Lists) (are : AreLists lists) (changes : List Change) (some : (block : ℕ) → is_node changes block ≡ true → 0 < block) where
  -- a link is one of one list
  pub one_list : (start other place : ℕ) → IsLink lists changes start place → IsLink lists changes other place → start ≡ other
  one_list start other place (inl at) (inl at') = sym at.1 ∙ at'.1
  one_list start other place (inl at) (inr link) =
      absurd (start_not_next lists are place link.0 (subst (λ s. lists.is_start s ≡ true) (sym at.1) at.0) (some link.0 link.1.node) link.2)
  one_list start other place (inr link) (inl at) =
      absurd (start_not_next lists are place link.0 (subst (λ s. lists.is_start s ≡ true) (sym at.1) at.0) (some link.0 link.1.node) link.2)
  one_list start other place (inr link) (inr link') =
      sym link.1.list ∙ ap (λ b. lists.start_of (node_key changes b)) (same_next link.0 link'.0 (sym link.2 ∙ link'.2)) ∙ link'.1.list

  pub rank_at_start : (start place : ℕ) → (lists.is_start start ≡ true) × (place ≡ start) → place_rank changes place ≡ 0
  rank_at_start start place at = ap (place_rank changes) at.1 ∙ rank_start changes start (are.within start at.0)

  pub rank_at_node : (start place : ℕ) → (link : (block : ℕ) × IsOf lists changes start block × (place ≡ next_at block)) → place_rank changes place ≡ node_rank changes link.0
  rank_at_node start place link = ap (place_rank changes) link.2 ∙ rank_next changes link.0 (some link.0 link.1.node)

  pub stands_at_node : (path : ℕ → Bool) (start place : ℕ) → (link : (block : ℕ) × IsOf lists changes start block × (place ≡ next_at block)) → stands path place ≡ path link.0
  stands_at_node path start place link = ap (stands path) link.2 ∙ stands_next path link.0 (some link.0 link.1.node)

  module _ (next : ℕ → ℕ) (path : ℕ → Bool) (is : IsPath lists changes next path) where
    -- of two links on one path the earlier leads no further than to the later
    pub ordered : (start place other : ℕ) → IsLink lists changes start place → IsLink lists changes start other → stands path place ≡ true → stands path other ≡ true
        → place_rank changes place < place_rank changes other → rank_of changes (next place) ≤ place_rank changes other
    ordered start place other link (inl at) on on' below = absurd (omega (arith, below, rank_at_start start other at))
    ordered start place other link (inr link') on on' below =
        let rank = rank_at_node start other link' in
        let low : place_rank changes place < node_rank changes link'.0 = omega (arith, below, rank) in
        omega (arith, rank, is.nearest start place link'.0 link on (sym (stands_at_node path start other link') ∙ on') link'.1.list low)

    -- no two have one rank
    pub one_a_rank : (start place other : ℕ) → IsLink lists changes start place → IsLink lists changes start other → stands path place ≡ true → stands path other ≡ true
        → place_rank changes place ≡ place_rank changes other → place ≡ other
    one_a_rank start place other (inl at) (inl at') on on' e = at.1 ∙ sym at'.1
    one_a_rank start place other (inl at) (inr link) on on' e = absurd (omega (arith, e, rank_at_start start place at, rank_at_node start other link))
    one_a_rank start place other (inr link) (inl at) on on' e = absurd (omega (arith, e, rank_at_start start other at, rank_at_node start place link))
    one_a_rank start place other (inr link) (inr link') on on' e =
        let key : node_key changes link.0 ≡ node_key changes link'.0 = omega (arith, e, rank_at_node start place link, rank_at_node start other link') in
        link.2 ∙ ap next_at (is.one_a_key link.0 link'.0 (sym (stands_at_node path start place link) ∙ on) (sym (stands_at_node path start other link') ∙ on') key) ∙ sym link'.2
