-- When the key of a node is the least that the set holds of a list now.
use Rattle.std.proofs.Common.{◌≡◌, ◌≢◌, ℕ, ◌+◌, ◌/◌, ◌<◌, ◌≤◌, Bool, true, false, length, refl, sym, ap, ◌∙◌, subst, inl, inr, ◌⊎◌, arith}
use Rattle.std.proofs.lemmas.Bool.{cases_eq}
use Rattle.normal_traits.specs.World.{World}
use Rattle.client_lemmas.proofs.Growing.{first_all}
use Rattle.harris_list_form.specs.Lists.{Lists, AreLists}
use Rattle.harris_list_form.specs.Search.{led, next_place}
use Rattle.harris_list_form.specs.Nodes.{holds, node_key, next_at, node_rank, place_rank, rank_of, LAST_RANK, IsLink, IsNamed}
use Rattle.harris_list_form.specs.Path.{stands, IsPath, parity}
use Rattle.harris_list_form.specs.Shape.{AreSorted}
use Rattle.harris_list_form.specs.Knowledge.{WasLeast, IsRun}
use Rattle.harris_list_form.proofs.Held.Places.{rank_some, rank_start, stands_start}
use Rattle.harris_list_form.proofs.Held.Links.{positive, node_of, block_named}
use Rattle.harris_list_form.proofs.Held.Runs.{HasRun, has_run, run_some}

module _ (lists : Lists) (are : AreLists lists) (world : World) (sorted : AreSorted lists world) (since start : ℕ) (began : since ≤ length world.changes) (is_start : lists.is_start start ≡ true) where
  is : IsPath lists world.changes (λ place. led (world.words place)) sorted.path
  is = sorted.has_path.leading

  link : IsLink lists world.changes start start
  link = inl (is_start, refl)

  standing : stands sorted.path start ≡ true
  standing = stands_start sorted.path start (are.within start is_start)

  zeroth : place_rank world.changes start ≡ 0
  zeroth = rank_start world.changes start (are.within start is_start)

  -- the first node of the list, or its end, comes before each node of the path
  foremost : (block : ℕ) → sorted.path block ≡ true → lists.start_of (node_key world.changes block) ≡ start → rank_of world.changes (led (world.words start)) ≤ node_rank world.changes block
  foremost block on list =
      let low : place_rank world.changes start < node_rank world.changes block = omega (arith, zeroth) in
      is.nearest start start block link standing on list low

  -- an unmarked node, or the end, before which each node of the path is marked
  module _ (cur : ℕ) (named : IsNamed lists world.changes start cur) (unmarked : cur ≢ 0 → parity world.words (next_place cur) ≡ 0)
      (marked : (block : ℕ) → sorted.path block ≡ true → lists.start_of (node_key world.changes block) ≡ start → node_rank world.changes block < rank_of world.changes cur → parity world.words (next_at block) ≡ 1) where
    held_now : cur ≢ 0 → holds world.changes (node_key world.changes (cur / 4)) ≡ true
    held_now some =
        let node = node_of lists are world sorted start cur named some in
        ap (λ b. holds world.changes (node_key world.changes b)) (block_named cur node.0 node.2)
        ∙ sorted.has_path.living.held node.0 node.1.node (sym (ap (λ r. parity world.words (next_place r)) node.2) ∙ unmarked some)

    none_now : (key : ℕ) → lists.start_of key ≡ start → (cur ≡ 0) ⊎ (key < node_key world.changes (cur / 4)) → holds world.changes key ≡ false
    none_now key list lower = by_held (holds world.changes key) refl
      where
        -- it would be the key of an unmarked node before the one that was come to
        before : (rank : ℕ) → rank < LAST_RANK → rank ≡ key + 1 → (cur ≡ 0) ⊎ (cur ≡ 0 → ⊥) → (cur ≡ 0) ⊎ (key < node_key world.changes (cur / 4)) → rank < rank_of world.changes cur
        before rank limit e (inl null) low = omega (arith, limit, ap (rank_of world.changes) null)
        before rank limit e (inr some) (inl null) = absurd (some null)
        before rank limit e (inr some) (inr low) = omega (arith, e, low, rank_some world.changes cur some)

        by_held : (held : Bool) → holds world.changes key ≡ held → holds world.changes key ≡ false
        by_held false e = e
        by_held true e =
            let node = sorted.has_path.living.kept key e in
            let on = sorted.has_path.living.live node.0 node.1 node.3 in
            let rank : node_rank world.changes node.0 ≡ key + 1 = omega (arith, node.2) in
            let limit : node_rank world.changes node.0 < LAST_RANK = omega (arith, (sorted.stored node.0 node.1).limit) in
            absurd (omega (arith, node.3, marked node.0 on (ap lists.start_of node.2 ∙ list) (before (node_rank world.changes node.0) limit rank (cases_eq cur 0) lower)))

    least_now : WasLeast lists world.changes since start cur
    least_now =
        record {
          count = length world.changes;
          not_before = began;
          made = omega arith;
          held = λ some. ap (λ changes. holds changes (node_key world.changes (cur / 4))) (first_all world.changes) ∙ held_now some;
          none = λ key list lower. ap (λ changes. holds changes key) (first_all world.changes) ∙ none_now key list lower;
        }

  -- where the beginning leads, if that is unmarked or the end
  pub first_least : (led (world.words start) ≢ 0 → parity world.words (next_place (led (world.words start))) ≡ 0) → WasLeast lists world.changes since start (led (world.words start))
  first_least unmarked =
      least_now (led (world.words start)) (is.leads start start link) unmarked (λ block on list low. absurd (omega (arith, low, foremost block on list)))

  -- where a run leads that begins there, if that is unmarked or the end
  pub run_least : (cur word : ℕ) → world.words start ≡ word → IsNamed lists world.changes start cur → (cur ≢ 0 → parity world.words (next_place cur) ≡ 0) → IsRun world cur (led word) → WasLeast lists world.changes since start cur
  run_least cur word same named unmarked run =
      least_now cur named unmarked (λ block on list low. runs.marked block on list (foremost block on list) low)
    where
      now : IsRun world cur (led (world.words start))
      now = subst (λ w. IsRun world cur (led w)) (sym same) run

      first_on : sorted.path (led (world.words start) / 4) ≡ true
      first_on = is.along start start link standing (run_some lists are world (positive lists are world sorted) sorted.path is cur (led (world.words start)) now)

      runs : HasRun lists are world (positive lists are world sorted) sorted.path is start cur (led (world.words start))
      runs = has_run lists are world (positive lists are world sorted) sorted.path is start cur (led (world.words start)) (is.leads start start link) first_on now
