-- A node is linked behind a link on the path.
use Rattle.std.proofs.Common.{◌≡◌, ◌≢◌, ℕ, ◌+◌, ◌/◌, ◌<◌, ◌≤◌, Bool, true, false, eqb, List, ◌∷◌, refl, sym, ap, ◌∙◌, subst, inl, inr, ◌⊎◌, arith}
use Rattle.std.proofs.lemmas.Bool.{true≢false, eqb-true, eq-eqb, or_left, or_right, or_cases, cases_eq, cases_order}
use Rattle.node_arena.specs.MemoryMap.{reference_to}
use Rattle.node_arena.proofs.PlacesApart.{block-reference_to}
use Rattle.normal_traits.specs.World.{Change}
use Rattle.normal_traits.specs.Steps.{using_block}
use Rattle.harris_list_form.specs.Lists.{Lists, AreLists}
use Rattle.harris_list_form.specs.Search.{is_add}
use Rattle.harris_list_form.specs.Nodes.{is_node, node_key, next_at, node_rank, place_rank, rank_of, IsOf, IsLink, IsNamed}
use Rattle.harris_list_form.specs.Path.{stands, IsPath}
use Rattle.harris_list_form.proofs.Held.Places.{rank_next, rank_named, stands_start, same_next, start_not_next}
use Rattle.harris_list_form.proofs.Steps.Changes.{Extends, named_grows, rank_kept, place_kept, node_cases, node_own, key_own}
use Rattle.harris_list_form.proofs.Paths.LinkOrder.{one_list, stands_at_node, ordered, one_a_rank}

module _ (lists : Lists) (are : AreLists lists) (changes : List Change) (some : (block : ℕ) → is_node changes block ≡ true → 0 < block)
    (next : ℕ → ℕ) (path : ℕ → Bool) (is : IsPath lists changes next path) where
  module _ (change : Change) (add : is_add change.list.call.op ≡ true) (extends : Extends changes (change ∷ changes)) (unknown : is_node changes change.list.block ≡ false) (positive : 0 < change.list.block)
      (left : ℕ) (link : IsLink lists changes (lists.start_of change.list.call.op.key) left) (on : stands path left ≡ true)
      (low : place_rank changes left < change.list.call.op.key + 1) (high : change.list.call.op.key + 1 < rank_of changes (next left))
      (after : ℕ → ℕ) (at_left : after left ≡ reference_to change.list.block 1) (at_new : after (next_at change.list.block) ≡ next left)
      (elsewhere : (place : ℕ) → place ≢ left → place ≢ next_at change.list.block → after place ≡ next place) where
    own_list : lists.start_of (node_key (change ∷ changes) change.list.block) ≡ lists.start_of change.list.call.op.key
    own_list = ap lists.start_of (key_own change changes add)

    own_of : IsOf lists (change ∷ changes) (lists.start_of change.list.call.op.key) change.list.block
    own_of = record { node = node_own change changes add; list = own_list }

    not_new : (block : ℕ) → is_node changes block ≡ true → block ≢ change.list.block
    not_new block node e = true≢false (sym node ∙ ap (is_node changes) e ∙ unknown)

    old_not_new : (start place : ℕ) → IsLink lists changes start place → place ≢ next_at change.list.block
    old_not_new start place (inl at) e = start_not_next lists are place change.list.block (subst (λ s. lists.is_start s ≡ true) (sym at.1) at.0) positive e
    old_not_new start place (inr old) e = not_new old.0 old.1.node (same_next old.0 change.list.block (sym old.2 ∙ e))

    of_cases : (start block : ℕ) → IsOf lists (change ∷ changes) start block → (change.list.block ≡ block) ⊎ IsOf lists changes start block
    of_cases start block of = by_case (node_cases change changes block of.node)
      where
        by_case : (change.list.block ≡ block) ⊎ (is_node changes block ≡ true) → (change.list.block ≡ block) ⊎ IsOf lists changes start block
        by_case (inl own) = inl own
        by_case (inr old) = inr (record { node = old; list = ap lists.start_of (sym (extends.keys block old)) ∙ of.list })

    -- the new link, the left one, or another
    Which : ℕ → ℕ → Type 0
    Which start place =
        ((place ≡ next_at change.list.block) × (start ≡ lists.start_of change.list.call.op.key)) ⊎ ((place ≡ left) × (start ≡ lists.start_of change.list.call.op.key))
        ⊎ (IsLink lists changes start place × (place ≢ left))

    old_which : (start place : ℕ) → IsLink lists changes start place → Which start place
    unfolding Which
    old_which start place old = by_place (cases_eq place left)
      where
        by_place : (place ≡ left) ⊎ (place ≡ left → ⊥) → ((place ≡ next_at change.list.block) × (start ≡ lists.start_of change.list.call.op.key)) ⊎ ((place ≡ left) × (start ≡ lists.start_of change.list.call.op.key)) ⊎ (IsLink lists changes start place × (place ≢ left))
        by_place (inl here) = inr (inl (here, one_list lists are changes some start (lists.start_of change.list.call.op.key) left (subst (IsLink lists changes start) here old) link))
        by_place (inr other) = inr (inr (old, other))

    which : (start place : ℕ) → IsLink lists (change ∷ changes) start place → Which start place
    unfolding Which
    which start place (inl at) = old_which start place (inl at)
    which start place (inr new) = by_case (of_cases start new.0 new.1)
      where
        by_case : (change.list.block ≡ new.0) ⊎ IsOf lists changes start new.0 → Which start place
        by_case (inl own) = inl (new.2 ∙ ap next_at (sym own), sym new.1.list ∙ ap (λ b. lists.start_of (node_key (change ∷ changes) b)) (sym own) ∙ own_list)
        by_case (inr old) = old_which start place (inr (new.0, old, new.2))

    path_cases : (block : ℕ) → (using_block change.list.block path) block ≡ true → (block ≡ change.list.block) ⊎ (path block ≡ true)
    path_cases block e = by_case (or_cases (eqb block change.list.block) (path block) e)
      where
        by_case : (eqb block change.list.block ≡ true) ⊎ (path block ≡ true) → (block ≡ change.list.block) ⊎ (path block ≡ true)
        by_case (inl own) = inl (eqb-true block change.list.block own)
        by_case (inr old) = inr old

    stands_old : (start place : ℕ) → IsLink lists changes start place → stands (using_block change.list.block path) place ≡ true → stands path place ≡ true
    stands_old start place (inl at) standing = ap (stands path) at.1 ∙ stands_start path start (are.within start at.0)
    stands_old start place (inr old) standing = by_case (path_cases old.0 (sym (stands_at_node lists are changes some (using_block change.list.block path) start place old) ∙ standing))
      where
        by_case : (old.0 ≡ change.list.block) ⊎ (path old.0 ≡ true) → stands path place ≡ true
        by_case (inl own) = absurd (not_new old.0 old.1.node own)
        by_case (inr path_on) = stands_at_node lists are changes some path start place old ∙ path_on

    new_rank : place_rank (change ∷ changes) (next_at change.list.block) ≡ change.list.call.op.key + 1
    new_rank = rank_next (change ∷ changes) change.list.block positive ∙ ap (λ k. k + 1) (key_own change changes add)

    new_named : rank_of (change ∷ changes) (reference_to change.list.block 1) ≡ change.list.call.op.key + 1
    new_named = rank_named (change ∷ changes) change.list.block ∙ ap (λ k. k + 1) (key_own change changes add)

    cur_rank : rank_of (change ∷ changes) (next left) ≡ rank_of changes (next left)
    cur_rank = rank_kept lists changes (change ∷ changes) extends (lists.start_of change.list.call.op.key) (next left) (is.leads (lists.start_of change.list.call.op.key) left link)

    left_rank : place_rank (change ∷ changes) left ≡ place_rank changes left
    left_rank = place_kept lists changes (change ∷ changes) extends are some (lists.start_of change.list.call.op.key) left link

    to_new : (place : ℕ) → place ≡ next_at change.list.block → after place ≡ next left
    to_new place e = ap after e ∙ at_new

    to_left : (place : ℕ) → place ≡ left → after place ≡ reference_to change.list.block 1
    to_left place e = ap after e ∙ at_left

    to_other : (start place : ℕ) → IsLink lists changes start place → place ≢ left → after place ≡ next place
    to_other start place old other = elsewhere place other (old_not_new start place old)

    leads_linked : (start place : ℕ) → Which start place → IsNamed lists (change ∷ changes) start (after place)
    unfolding Which
    leads_linked start place (inl new) =
        subst (λ s. IsNamed lists (change ∷ changes) s (after place)) (sym new.1)
        (subst (IsNamed lists (change ∷ changes) (lists.start_of change.list.call.op.key)) (sym (to_new place new.0))
        (named_grows lists changes (change ∷ changes) extends (lists.start_of change.list.call.op.key) (next left) (is.leads (lists.start_of change.list.call.op.key) left link)))
    leads_linked start place (inr (inl at)) =
        inr (change.list.block, subst (λ s. IsOf lists (change ∷ changes) s change.list.block) (sym at.1) own_of, to_left place at.0)
    leads_linked start place (inr (inr old)) =
        subst (IsNamed lists (change ∷ changes) start) (sym (to_other start place old.0 old.1)) (named_grows lists changes (change ∷ changes) extends start (next place) (is.leads start place old.0))

    rises_linked : (start place : ℕ) → Which start place → place_rank (change ∷ changes) place < rank_of (change ∷ changes) (after place)
    unfolding Which
    rises_linked start place (inl new) = omega (arith, ap (place_rank (change ∷ changes)) new.0, new_rank, ap (rank_of (change ∷ changes)) (to_new place new.0), cur_rank, high)
    rises_linked start place (inr (inl at)) = omega (arith, ap (place_rank (change ∷ changes)) at.0, left_rank, ap (rank_of (change ∷ changes)) (to_left place at.0), new_named, low)
    rises_linked start place (inr (inr old)) =
        omega (
          arith,
          place_kept lists changes (change ∷ changes) extends are some start place old.0,
          ap (rank_of (change ∷ changes)) (to_other start place old.0 old.1),
          rank_kept lists changes (change ∷ changes) extends start (next place) (is.leads start place old.0),
          is.rises start place old.0,
        )

    onto : (block : ℕ) → path block ≡ true → (using_block change.list.block path) block ≡ true
    onto block path_on = or_right (eqb block change.list.block) (path block) path_on

    along_linked : (start place : ℕ) → Which start place → stands (using_block change.list.block path) place ≡ true → after place ≢ 0 → (using_block change.list.block path) (after place / 4) ≡ true
    unfolding Which
    along_linked start place (inl new) standing more =
        ap (λ r. (using_block change.list.block path) (r / 4)) (to_new place new.0)
        ∙ onto (next left / 4) (is.along (lists.start_of change.list.call.op.key) left link on (λ null. more (to_new place new.0 ∙ null)))
    along_linked start place (inr (inl at)) standing more =
        ap (λ r. (using_block change.list.block path) (r / 4)) (to_left place at.0) ∙ ap (using_block change.list.block path) (block-reference_to change.list.block 1 (omega arith))
        ∙ or_left (eqb change.list.block change.list.block) (path change.list.block) (eq-eqb change.list.block change.list.block refl)
    along_linked start place (inr (inr old)) standing more =
        ap (λ r. (using_block change.list.block path) (r / 4)) (to_other start place old.0 old.1)
        ∙ onto (next place / 4) (is.along start place old.0 (stands_old start place old.0 standing) (λ null. more (to_other start place old.0 old.1 ∙ null)))

    -- the left link is the nearest to the new node
    nearest_new : (start place : ℕ) → start ≡ lists.start_of change.list.call.op.key → IsLink lists changes start place → place ≢ left → stands path place ≡ true
        → place_rank changes place < change.list.call.op.key + 1 → rank_of changes (next place) ≤ change.list.call.op.key + 1
    nearest_new start place same old other standing below = by_order (cases_order (place_rank changes place) (place_rank changes left))
      where
        here : IsLink lists changes (lists.start_of change.list.call.op.key) place
        here = subst (λ s. IsLink lists changes s place) same old

        by_order : (place_rank changes place ≡ place_rank changes left) ⊎ ((place_rank changes place < place_rank changes left) ⊎ (place_rank changes left < place_rank changes place))
            → rank_of changes (next place) ≤ change.list.call.op.key + 1
        by_order (inl e) = absurd (other (one_a_rank lists are changes some next path is (lists.start_of change.list.call.op.key) place left here link standing on e))
        by_order (inr (inl before)) = omega (arith, ordered lists are changes some next path is (lists.start_of change.list.call.op.key) place left here link standing on before, low)
        by_order (inr (inr behind)) = absurd (omega (arith, ordered lists are changes some next path is (lists.start_of change.list.call.op.key) left place link here on standing behind, below, high))

    nearest_linked : (start place block : ℕ) → Which start place → stands (using_block change.list.block path) place ≡ true → (block ≡ change.list.block) ⊎ (path block ≡ true) → lists.start_of (node_key (change ∷ changes) block) ≡ start
        → place_rank (change ∷ changes) place < node_rank (change ∷ changes) block → rank_of (change ∷ changes) (after place) ≤ node_rank (change ∷ changes) block
    unfolding Which
    nearest_linked start place block (inl new) standing (inl own) list below =
        absurd (omega (arith, below, ap (place_rank (change ∷ changes)) new.0, new_rank, ap (node_key (change ∷ changes)) own, key_own change changes add))
    nearest_linked start place block (inl new) standing (inr path_on) list below =
        let key = extends.keys block (is.nodes block path_on) in
        let far : place_rank changes left < node_rank changes block = omega (arith, below, ap (place_rank (change ∷ changes)) new.0, new_rank, key, low) in
        omega (
          arith,
          ap (rank_of (change ∷ changes)) (to_new place new.0),
          cur_rank,
          key,
          is.nearest (lists.start_of change.list.call.op.key) left block link on path_on (ap lists.start_of (sym key) ∙ list ∙ new.1) far,
        )
    nearest_linked start place block (inr (inl at)) standing (inl own) list below =
        omega (arith, ap (rank_of (change ∷ changes)) (to_left place at.0), new_named, ap (node_key (change ∷ changes)) own, key_own change changes add)
    nearest_linked start place block (inr (inl at)) standing (inr path_on) list below =
        let key = extends.keys block (is.nodes block path_on) in
        let far : place_rank changes left < node_rank changes block = omega (arith, below, ap (place_rank (change ∷ changes)) at.0, left_rank, key) in
        omega (
          arith,
          ap (rank_of (change ∷ changes)) (to_left place at.0),
          new_named,
          key,
          high,
          is.nearest (lists.start_of change.list.call.op.key) left block link on path_on (ap lists.start_of (sym key) ∙ list ∙ at.1) far,
        )
    nearest_linked start place block (inr (inr old)) standing (inl own) list below =
        let key : node_key (change ∷ changes) block ≡ change.list.call.op.key = ap (node_key (change ∷ changes)) own ∙ key_own change changes add in
        let far : place_rank changes place < change.list.call.op.key + 1 = omega (arith, below, place_kept lists changes (change ∷ changes) extends are some start place old.0, key) in
        omega (
          arith,
          key,
          ap (rank_of (change ∷ changes)) (to_other start place old.0 old.1),
          rank_kept lists changes (change ∷ changes) extends start (next place) (is.leads start place old.0),
          nearest_new start place (sym list ∙ ap lists.start_of key) old.0 old.1 (stands_old start place old.0 standing) far,
        )
    nearest_linked start place block (inr (inr old)) standing (inr path_on) list below =
        let key = extends.keys block (is.nodes block path_on) in
        let far : place_rank changes place < node_rank changes block = omega (arith, below, place_kept lists changes (change ∷ changes) extends are some start place old.0, key) in
        omega (
          arith,
          key,
          ap (rank_of (change ∷ changes)) (to_other start place old.0 old.1),
          rank_kept lists changes (change ∷ changes) extends start (next place) (is.leads start place old.0),
          is.nearest start place block old.0 (stands_old start place old.0 standing) path_on (ap lists.start_of (sym key) ∙ list) far,
        )

    -- no node on the path had the key
    none_has : (block : ℕ) → path block ≡ true → node_key changes block ≢ change.list.call.op.key
    none_has block path_on e =
        let far : place_rank changes left < node_rank changes block = omega (arith, e, low) in
        omega (arith, e, high, is.nearest (lists.start_of change.list.call.op.key) left block link on path_on (ap lists.start_of e) far)

    one_linked : (block other : ℕ) → (block ≡ change.list.block) ⊎ (path block ≡ true) → (other ≡ change.list.block) ⊎ (path other ≡ true) → node_key (change ∷ changes) block ≡ node_key (change ∷ changes) other → block ≡ other
    one_linked block other (inl own) (inl own') e = own ∙ sym own'
    one_linked block other (inl own) (inr path_on) e =
        absurd (none_has other path_on (sym (extends.keys other (is.nodes other path_on)) ∙ sym e ∙ ap (node_key (change ∷ changes)) own ∙ key_own change changes add))
    one_linked block other (inr path_on) (inl own) e =
        absurd (none_has block path_on (sym (extends.keys block (is.nodes block path_on)) ∙ e ∙ ap (node_key (change ∷ changes)) own ∙ key_own change changes add))
    one_linked block other (inr path_on) (inr path_on') e =
        is.one_a_key block other path_on path_on' (sym (extends.keys block (is.nodes block path_on)) ∙ e ∙ extends.keys other (is.nodes other path_on'))

    nodes_linked : (block : ℕ) → (block ≡ change.list.block) ⊎ (path block ≡ true) → is_node (change ∷ changes) block ≡ true
    nodes_linked block (inl own) = ap (is_node (change ∷ changes)) own ∙ node_own change changes add
    nodes_linked block (inr path_on) = extends.nodes block (is.nodes block path_on)

    pub path_linked : IsPath lists (change ∷ changes) after (using_block change.list.block path)
    path_linked =
        record {
          nodes = λ block path_on. nodes_linked block (path_cases block path_on);
          leads = λ start place l. leads_linked start place (which start place l);
          rises = λ start place l. rises_linked start place (which start place l);
          along = λ start place l. along_linked start place (which start place l);
          nearest = λ start place block l standing path_on. nearest_linked start place block (which start place l) standing (path_cases block path_on);
          one_a_key = λ block other path_on path_on'. one_linked block other (path_cases block path_on) (path_cases other path_on');
        }
