-- What is between a link on the path and a later node, or the end, is unlinked.
use Rattle.std.proofs.Common.{◌≡◌, ◌≢◌, ℕ, ◌/◌, ◌<◌, ◌≤◌, Bool, true, not, List, sym, ap, ◌∙◌, subst, inl, inr, ◌⊎◌, arith}
use Rattle.std.proofs.lemmas.Bool.{both_ways, not-true, cases_eq, cases_lt, cases_order, and_parts, and_from}
use Rattle.node_arena.proofs.PlacesApart.{block-reference_to}
use Rattle.normal_traits.specs.World.{Change}
use Rattle.harris_list_form.specs.Lists.{Lists, AreLists}
use Rattle.harris_list_form.specs.Nodes.{is_node, node_key, node_rank, place_rank, rank_of, IsLink, IsNamed}
use Rattle.harris_list_form.specs.Path.{stands, IsPath}
use Rattle.harris_list_form.proofs.Held.Places.{rank_some, stands_start}
use Rattle.harris_list_form.proofs.Paths.Between.{is_between, without_between, between, not_between}
use Rattle.harris_list_form.proofs.Paths.LinkOrder.{one_list, rank_at_start, rank_at_node, stands_at_node, ordered, one_a_rank}

module _ (lists : Lists) (are : AreLists lists) (changes : List Change) (some : (block : ℕ) → is_node changes block ≡ true → 0 < block)
    (next : ℕ → ℕ) (path : ℕ → Bool) (is : IsPath lists changes next path) where
  module _ (start left cur : ℕ) (link : IsLink lists changes start left) (on : stands path left ≡ true)
      (named : IsNamed lists changes start cur) (behind : place_rank changes left < rank_of changes cur) (reached : cur ≢ 0 → path (cur / 4) ≡ true)
      (after : ℕ → ℕ) (at_left : after left ≡ cur) (elsewhere : (place : ℕ) → place ≢ left → after place ≡ next place) where
    stays_on : (block : ℕ) → path block ≡ true → (lists.start_of (node_key changes block) ≡ start → place_rank changes left < node_rank changes block → rank_of changes cur ≤ node_rank changes block)
        → without_between lists changes start left cur path block ≡ true
    stays_on block path_on far =
        and_from (path block) (not (is_between lists changes start left cur block)) path_on
        (not_between lists changes start left cur block (λ list low high. omega (arith, high, far list low)))

    was_on : (block : ℕ) → without_between lists changes start left cur path block ≡ true → path block ≡ true
    was_on block e = (and_parts (path block) (not (is_between lists changes start left cur block)) e).0

    far_on : (block : ℕ) → without_between lists changes start left cur path block ≡ true → lists.start_of (node_key changes block) ≡ start → place_rank changes left < node_rank changes block → rank_of changes cur ≤ node_rank changes block
    far_on block e list low = by_order (cases_lt (node_rank changes block) (rank_of changes cur))
      where
        by_order : (node_rank changes block < rank_of changes cur) ⊎ (rank_of changes cur ≤ node_rank changes block) → rank_of changes cur ≤ node_rank changes block
        by_order (inl before) =
            absurd (both_ways (is_between lists changes start left cur block) (not-true (is_between lists changes start left cur block) (and_parts (path block) (not (is_between lists changes start left cur block)) e).1)
            (between lists changes start left cur block list low before))
        by_order (inr later) = later

    stood : (other place : ℕ) → IsLink lists changes other place → stands (without_between lists changes start left cur path) place ≡ true → stands path place ≡ true
    stood other place (inl at) standing = ap (stands path) at.1 ∙ stands_start path other (are.within other at.0)
    stood other place (inr node) standing =
        stands_at_node lists are changes some path other place node ∙ was_on node.0 (sym (stands_at_node lists are changes some (without_between lists changes start left cur path) other place node) ∙ standing)

    Which' : ℕ → ℕ → Type 0
    Which' other place = ((place ≡ left) × (other ≡ start)) ⊎ (place ≢ left)

    which' : (other place : ℕ) → IsLink lists changes other place → Which' other place
    unfolding Which'
    which' other place old = by_place (cases_eq place left)
      where
        by_place : (place ≡ left) ⊎ (place ≡ left → ⊥) → ((place ≡ left) × (other ≡ start)) ⊎ (place ≢ left)
        by_place (inl here) = inl (here, one_list lists are changes some other start left (subst (IsLink lists changes other) here old) link)
        by_place (inr apart) = inr apart

    to_cur : (place : ℕ) → place ≡ left → after place ≡ cur
    to_cur place e = ap after e ∙ at_left

    leads_cut : (other place : ℕ) → IsLink lists changes other place → Which' other place → IsNamed lists changes other (after place)
    unfolding Which'
    leads_cut other place old (inl at) = subst (λ s. IsNamed lists changes s (after place)) (sym at.1) (subst (IsNamed lists changes start) (sym (to_cur place at.0)) named)
    leads_cut other place old (inr apart) = subst (IsNamed lists changes other) (sym (elsewhere place apart)) (is.leads other place old)

    rises_cut : (other place : ℕ) → IsLink lists changes other place → Which' other place → place_rank changes place < rank_of changes (after place)
    unfolding Which'
    rises_cut other place old (inl at) = omega (arith, ap (place_rank changes) at.0, ap (rank_of changes) (to_cur place at.0), behind)
    rises_cut other place old (inr apart) = omega (arith, ap (rank_of changes) (elsewhere place apart), is.rises other place old)

    -- a node that another link of the path leads to is not between
    not_between_led : (other place : ℕ) → IsLink lists changes other place → place ≢ left → stands (without_between lists changes start left cur path) place ≡ true → next place ≢ 0
        → lists.start_of (node_key changes (next place / 4)) ≡ start → place_rank changes left < node_rank changes (next place / 4) → rank_of changes cur ≤ node_rank changes (next place / 4)
    not_between_led other place old apart standing more list low = by_order old (cases_order (place_rank changes place) (place_rank changes left))
      where
        rank : rank_of changes (next place) ≡ node_rank changes (next place / 4)
        rank = rank_some changes (next place) more

        same_list : IsNamed lists changes other (next place) → other ≡ start
        same_list (inl null) = absurd (more null)
        same_list (inr node) =
            sym node.1.list ∙ ap (λ b. lists.start_of (node_key changes b)) (sym (ap (λ r. r / 4) node.2 ∙ block-reference_to node.0 1 (omega arith))) ∙ list

        here : IsLink lists changes start place
        here = subst (λ s. IsLink lists changes s place) (same_list (is.leads other place old)) old

        by_order : IsLink lists changes other place → (place_rank changes place ≡ place_rank changes left) ⊎ ((place_rank changes place < place_rank changes left) ⊎ (place_rank changes left < place_rank changes place))
            → rank_of changes cur ≤ node_rank changes (next place / 4)
        by_order l (inl e) = absurd (apart (one_a_rank lists are changes some next path is start place left here link (stood other place old standing) on e))
        by_order l (inr (inl before)) = absurd (omega (arith, ordered lists are changes some next path is start place left here link (stood other place old standing) on before, rank, low))
        by_order (inl at) (inr (inr later)) = absurd (omega (arith, later, rank_at_start lists are changes some other place at))
        by_order (inr node) (inr (inr later)) =
            let at = rank_at_node lists are changes some other place node in
            let own : lists.start_of (node_key changes node.0) ≡ start = node.1.list ∙ same_list (is.leads other place old) in
            let past : place_rank changes left < node_rank changes node.0 = omega (arith, later, at) in
            let far = far_on node.0 (sym (stands_at_node lists are changes some (without_between lists changes start left cur path) other place node) ∙ standing) own past in
            omega (arith, far, at, is.rises other place old, rank)

    along_cut : (other place : ℕ) → IsLink lists changes other place → Which' other place → stands (without_between lists changes start left cur path) place ≡ true → after place ≢ 0
        → without_between lists changes start left cur path (after place / 4) ≡ true
    unfolding Which'
    along_cut other place old (inl at) standing more =
        let some_cur : cur ≢ 0 = λ null. more (to_cur place at.0 ∙ null) in
        ap (λ r. without_between lists changes start left cur path (r / 4)) (to_cur place at.0)
        ∙ stays_on (cur / 4) (reached some_cur) (λ list low. omega (arith, rank_some changes cur some_cur))
    along_cut other place old (inr apart) standing more =
        let some_next : next place ≢ 0 = λ null. more (elsewhere place apart ∙ null) in
        ap (λ r. without_between lists changes start left cur path (r / 4)) (elsewhere place apart)
        ∙ stays_on (next place / 4) (is.along other place old (stood other place old standing) some_next) (not_between_led other place old apart standing some_next)

    nearest_cut : (other place block : ℕ) → IsLink lists changes other place → Which' other place → stands (without_between lists changes start left cur path) place ≡ true
        → without_between lists changes start left cur path block ≡ true → lists.start_of (node_key changes block) ≡ other → place_rank changes place < node_rank changes block
        → rank_of changes (after place) ≤ node_rank changes block
    unfolding Which'
    nearest_cut other place block old (inl at) standing path_on list below =
        let low : place_rank changes left < node_rank changes block = omega (arith, below, ap (place_rank changes) at.0) in
        omega (arith, ap (rank_of changes) (to_cur place at.0), far_on block path_on (list ∙ at.1) low)
    nearest_cut other place block old (inr apart) standing path_on list below =
        omega (arith, ap (rank_of changes) (elsewhere place apart), is.nearest other place block old (stood other place old standing) (was_on block path_on) list below)

    pub path_cut : IsPath lists changes after (without_between lists changes start left cur path)
    path_cut =
        record {
          nodes = λ block path_on. is.nodes block (was_on block path_on);
          leads = λ other place l. leads_cut other place l (which' other place l);
          rises = λ other place l. rises_cut other place l (which' other place l);
          along = λ other place l. along_cut other place l (which' other place l);
          nearest = λ other place block l standing path_on. nearest_cut other place block l (which' other place l) standing path_on;
          one_a_key = λ block other path_on path_on'. is.one_a_key block other (was_on block path_on) (was_on other path_on');
        }
