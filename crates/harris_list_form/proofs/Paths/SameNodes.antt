-- Changes with the same nodes: where no reference of them is changed, a path stays one.
use Rattle.std.proofs.Common.{◌≡◌, ℕ, ◌+◌, ◌/◌, ◌<◌, Bool, cond, eqb, ltb, List, sym, ap, ◌∙◌, subst, inl, inr, arith}
use Rattle.node_arena.specs.MemoryMap.{block_place, block_at}
use Rattle.normal_traits.specs.World.{Change}
use Rattle.harris_list_form.specs.Lists.{Lists}
use Rattle.harris_list_form.specs.Nodes.{is_node, node_key, node_rank, place_rank, rank_of, LAST_RANK, IsOf, IsLink, IsNamed}
use Rattle.harris_list_form.specs.Path.{IsPath}

-- the changes have the same nodes
pub record SameNodes (old new : List Change) : Type 0 where
  pub nodes : (block : ℕ) → is_node new block ≡ is_node old block
  pub keys : (block : ℕ) → node_key new block ≡ node_key old block

module _ (old new : List Change) (same : SameNodes old new) where
  pub place_same : (place : ℕ) → place_rank new place ≡ place_rank old place
  place_same place = ap (λ key. cond (ltb place (block_place 1 0)) 0 (key + 1)) (same.keys (block_at place))

  pub rank_same : (reference : ℕ) → rank_of new reference ≡ rank_of old reference
  rank_same reference = ap (λ key. cond (eqb reference 0) LAST_RANK (key + 1)) (same.keys (reference / 4))

  module _ (lists : Lists) where
    of_forth : (start block : ℕ) → IsOf lists old start block → IsOf lists new start block
    of_forth start block of = record { node = same.nodes block ∙ of.node; list = ap lists.start_of (same.keys block) ∙ of.list }

    of_back : (start block : ℕ) → IsOf lists new start block → IsOf lists old start block
    of_back start block of = record { node = sym (same.nodes block) ∙ of.node; list = ap lists.start_of (sym (same.keys block)) ∙ of.list }

    link_back : (start place : ℕ) → IsLink lists new start place → IsLink lists old start place
    link_back start place (inl at) = inl at
    link_back start place (inr link) = inr (link.0, of_back start link.0 link.1, link.2)

    named_forth : (start reference : ℕ) → IsNamed lists old start reference → IsNamed lists new start reference
    named_forth start reference (inl null) = inl null
    named_forth start reference (inr named) = inr (named.0, of_forth start named.0 named.1, named.2)

    pub path_same : (next after : ℕ → ℕ) (path : ℕ → Bool) → IsPath lists old next path → ((start place : ℕ) → IsLink lists old start place → after place ≡ next place) → IsPath lists new after path
    path_same next after path is stay =
        record {
          nodes = λ block on. same.nodes block ∙ is.nodes block on;
          leads = λ start place link.
              let was = link_back start place link in
              subst (IsNamed lists new start) (sym (stay start place was)) (named_forth start (next place) (is.leads start place was));
          rises = λ start place link.
              let was = link_back start place link in
              omega (arith, is.rises start place was, place_same place, rank_same (next place), ap (rank_of new) (stay start place was));
          along = λ start place link on some.
              let was = link_back start place link in
              ap (λ r. path (r / 4)) (stay start place was) ∙ is.along start place was on (λ null. some (stay start place was ∙ null));
          nearest = λ start place block link on path_on list below.
              let was = link_back start place link in
              let low : place_rank old place < node_rank old block = omega (arith, below, place_same place, same.keys block) in
              omega (arith, is.nearest start place block was on path_on (ap lists.start_of (sym (same.keys block)) ∙ list) low, rank_same (next place), ap (rank_of new) (stay start place was), same.keys block);
          one_a_key = λ block other on on' e. is.one_a_key block other on on' (sym (same.keys block) ∙ e ∙ same.keys other);
        }
