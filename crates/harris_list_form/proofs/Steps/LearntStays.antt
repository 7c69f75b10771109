-- What was learnt stays true, whatever anyone does.
use Rattle.std.proofs.Common.{◌≡◌, ◌≢◌, ℕ, ◌+◌, ◌/◌, ◌%◌, ◌<◌, Bool, true, false, sym, ap, ◌∙◌, subst, inl, inr, ◌⊎◌, arith}
use Rattle.std.proofs.lemmas.Bool.{cases_eq}
use Rattle.lin_report.specs.declared.calls.Op.{Op}
use Rattle.word_fields.specs.Versioned.{versioned_value, versioned_bit, versioned_version}
use Rattle.normal_traits.specs.World.{World, StandsOrPassed, first_changes}
use Rattle.harris_list_form.specs.declared.states.Left.{Left}
use Rattle.harris_list_form.specs.declared.states.ListSearch.{ListSearch}
use Rattle.harris_list_form.specs.declared.states.ListSearch.TheVariants.{Start, Next, Key, Unlink, AddReady, DelReady, LeastStart, LeastNext, LeastUnlink, LeastKey}
use Rattle.harris_list_form.specs.Lists.{Lists, AreLists}
use Rattle.harris_list_form.specs.Search.{led, next_place}
use Rattle.harris_list_form.specs.Nodes.{holds, is_node, node_key, next_at, place_rank, rank_of, IsNamed, IsLink}
use Rattle.harris_list_form.specs.Path.{parity}
use Rattle.harris_list_form.specs.Shape.{AreSorted}
use Rattle.harris_list_form.specs.Knowledge.{WasHeld, WasGap, WasLeast, AtLeft, AtCur, AtNext, AtFirst, FromFirst, IsRun, Between, Compared, Learnt, Knows}
use Rattle.harris_list_form.specs.Knowledge.IsRun.{ends, goes}
use Rattle.harris_list_form.proofs.Held.Places.{next_versioned}
use Rattle.harris_list_form.proofs.Steps.Changes.{link_grows, named_grows, rank_kept, place_kept}
use Rattle.harris_list_form.proofs.Held.Links.{positive, node_word, link_word, link_versioned, node_of, named_link, block_named}
use Rattle.harris_list_form.proofs.Steps.Later.{Later}
use Rattle.client_lemmas.proofs.Words.{rises_seen, rises_version}

module _ (lists : Lists) (are : AreLists lists) where
  -- ---- what was learnt

  module _ (world after : World) (sorted : AreSorted lists world) (kept : Later lists are world after) where
    seen_kept : (start place word : ℕ) → IsLink lists world.changes start place → StandsOrPassed world place word → StandsOrPassed after place word
    seen_kept start place word link seen = λ clear.
        rises_seen (world.words place) (after.words place) word
        (kept.rises place (link_word lists are world sorted start place link) (link_versioned lists are world sorted start place link)) clear (seen clear)

    place_stays : (start place : ℕ) → IsLink lists world.changes start place → place_rank after.changes place ≡ place_rank world.changes place
    place_stays = place_kept lists world.changes after.changes kept.extends are (positive lists are world sorted)

    rank_stays : (start reference : ℕ) → IsNamed lists world.changes start reference → rank_of after.changes reference ≡ rank_of world.changes reference
    rank_stays = rank_kept lists world.changes after.changes kept.extends

    left_kept : (key : ℕ) (left : Left) → AtLeft lists world key left → AtLeft lists after key left
    left_kept key left at =
        record {
          link = link_grows lists world.changes after.changes kept.extends (lists.start_of key) left.place at.link;
          below = omega (arith, at.below, place_stays (lists.start_of key) left.place at.link);
          even = at.even;
          seen = seen_kept (lists.start_of key) left.place left.word at.link at.seen;
        }

    cur_kept : (key : ℕ) (left : Left) (cur : ℕ) → AtLeft lists world key left → AtCur lists world key left cur → AtCur lists after key left cur
    cur_kept key left cur at was =
        record {
          named = named_grows lists world.changes after.changes kept.extends (lists.start_of key) cur was.named;
          behind = omega (arith, was.behind, place_stays (lists.start_of key) left.place at.link, rank_stays (lists.start_of key) cur was.named);
        }

    value_frozen : (block : ℕ) → is_node world.changes block ≡ true → parity world.words (next_at block) ≡ 1 → versioned_value (after.words (next_at block)) ≡ versioned_value (world.words (next_at block))
    value_frozen block node marked = kept.moves (next_at block) (node_word lists are world sorted block node) (next_versioned lists are block) marked

    run_kept : (cur reference : ℕ) → IsRun world cur reference → IsRun after cur reference
    run_kept cur reference (ends block at node marked leads) =
        let same = value_frozen block node marked in
        ends block at (kept.extends.nodes block node) (ap (λ v. v % 2) same ∙ marked) (ap (λ v. v / 2) same ∙ leads)
    run_kept cur reference (goes block at node marked run) =
        let same = value_frozen block node marked in
        goes block at (kept.extends.nodes block node) (ap (λ v. v % 2) same ∙ marked) (subst (IsRun after cur) (sym (ap (λ v. v / 2) same)) (run_kept cur (led (world.words (next_at block))) run))

    held_kept : (since key : ℕ) (is : Bool) → WasHeld world.changes since key is → WasHeld after.changes since key is
    held_kept since key is was =
        record {
          count = was.count;
          not_before = was.not_before;
          made = omega (arith, was.made, kept.extends.longer);
          held = ap (λ changes. holds changes key) (kept.extends.first was.count was.made) ∙ was.held;
        }

    gap_kept : (since start low high low' high' : ℕ) → low' ≡ low → high' ≡ high → WasGap lists world.changes since start low high → WasGap lists after.changes since start low' high'
    gap_kept since start low high low' high' e e' was =
        record {
          count = was.count;
          not_before = was.not_before;
          made = omega (arith, was.made, kept.extends.longer);
          none = λ key list below above.
              let below' : low < key + 1 = omega (arith, below, e) in
              let above' : key + 1 < high = omega (arith, above, e') in
              ap (λ changes. holds changes key) (kept.extends.first was.count was.made) ∙ was.none key list below' above';
        }

    between_kept : (key since : ℕ) (left : Left) (cur : ℕ) (run : Bool) → AtLeft lists world key left → AtCur lists world key left cur → Between lists world key since left cur run → Between lists after key since left cur run
    between_kept key since left cur true at was between = run_kept cur (led left.word) between
    between_kept key since left cur false at was between = (
      between.0,
      gap_kept since (lists.start_of key) (place_rank world.changes left.place) (rank_of world.changes cur) (place_rank after.changes left.place) (rank_of after.changes cur)
          (place_stays (lists.start_of key) left.place at.link) (rank_stays (lists.start_of key) cur was.named) between.1,
    )

    next_kept : (key since cur next : ℕ) → IsNamed lists world.changes (lists.start_of key) cur → AtNext lists world key since cur next → AtNext lists after key since cur next
    next_kept key since cur next named was =
        let node = node_of lists are world sorted (lists.start_of key) cur named was.some in
        let ranks = rank_stays (lists.start_of key) cur named in
        let ranks' = rank_stays (lists.start_of key) (led next) was.named in
        let keys : node_key after.changes (cur / 4) ≡ node_key world.changes (cur / 4) =
        kept.extends.keys (cur / 4) (ap (is_node world.changes) (block_named cur node.0 node.2) ∙ node.1.node) in
        record {
          some = was.some;
          even = was.even;
          seen = seen_kept (lists.start_of key) (next_place cur) next (named_link lists are world sorted (lists.start_of key) cur named was.some) was.seen;
          named = named_grows lists world.changes after.changes kept.extends (lists.start_of key) (led next) was.named;
          behind = omega (arith, was.behind, ranks, ranks');
          gap = gap_kept since (lists.start_of key) (rank_of world.changes cur) (rank_of world.changes (led next)) (rank_of after.changes cur) (rank_of after.changes (led next)) ranks ranks' was.gap;
          held = subst (λ k. WasHeld after.changes since k true) (sym keys) (held_kept since (node_key world.changes (cur / 4)) true was.held);
        }

    compared_kept : (key since cur next : ℕ) (found : Bool) → IsNamed lists world.changes (lists.start_of key) cur → Compared lists world key since cur next found → Compared lists after key since cur next found
    compared_kept key since cur next true named was = (rank_stays (lists.start_of key) cur named ∙ was.0, next_kept key since cur next named was.1)
    compared_kept key since cur next false named was = omega (arith, was, rank_stays (lists.start_of key) cur named)

    -- ---- on the way to the least key

    -- the key of a node stays
    key_stays : (start reference : ℕ) → IsNamed lists world.changes start reference → reference ≢ 0 → node_key after.changes (reference / 4) ≡ node_key world.changes (reference / 4)
    key_stays start reference named some =
        let node = node_of lists are world sorted start reference named some in
        kept.extends.keys (reference / 4) (ap (is_node world.changes) (block_named reference node.0 node.2) ∙ node.1.node)

    least_kept : (since start reference : ℕ) → IsNamed lists world.changes start reference → WasLeast lists world.changes since start reference → WasLeast lists after.changes since start reference
    least_kept since start reference named was =
        record {
          count = was.count;
          not_before = was.not_before;
          made = omega (arith, was.made, kept.extends.longer);
          held = λ some.
              ap (λ key. holds (first_changes was.count after.changes) key) (key_stays start reference named some)
              ∙ ap (λ changes. holds changes (node_key world.changes (reference / 4))) (kept.extends.first was.count was.made) ∙ was.held some;
          none = λ key list lower. ap (λ changes. holds changes key) (kept.extends.first was.count was.made) ∙ was.none key list (was_lower key lower (cases_eq reference 0));
        }
      where
        was_lower : (key : ℕ) → (reference ≡ 0) ⊎ (key < node_key after.changes (reference / 4)) → (reference ≡ 0) ⊎ (reference ≡ 0 → ⊥) → (reference ≡ 0) ⊎ (key < node_key world.changes (reference / 4))
        was_lower key (inl null) which = inl null
        was_lower key (inr low) (inl null) = inl null
        was_lower key (inr low) (inr some) = inr (omega (arith, low, key_stays start reference named some))

    -- a node that is unmarked now was so before
    was_unmarked : (start reference : ℕ) → IsNamed lists world.changes start reference → reference ≢ 0 → parity after.words (next_place reference) ≡ 0 → parity world.words (next_place reference) ≡ 0
    was_unmarked start reference named some even = by_mark (cases_eq (parity world.words (next_place reference)) 1)
      where
        by_mark : (parity world.words (next_place reference) ≡ 1) ⊎ (parity world.words (next_place reference) ≡ 1 → ⊥) → parity world.words (next_place reference) ≡ 0
        by_mark (inl odd) =
            let node = node_of lists are world sorted start reference named some in
            let at : next_place reference ≡ next_at node.0 = ap next_place node.2 in
            let frozen = value_frozen node.0 node.1.node (sym (ap (parity world.words) at) ∙ odd) in
            absurd (omega (arith, odd, even, ap (parity world.words) at, ap (parity after.words) at, frozen))
        by_mark (inr other) = omega (arith, other)

    first_kept : (key : ℕ) (left : Left) (cur : ℕ) → AtFirst lists world key left cur → AtFirst lists after key left cur
    first_kept key left cur first = record { place = first.place; at = left_kept key left first.at; was = cur_kept key left cur first.at first.was }

    from_first_kept : (key since : ℕ) (left : Left) (cur : ℕ) (run : Bool) → AtFirst lists world key left cur → cur ≢ 0 → FromFirst lists world key since left cur run → FromFirst lists after key since left cur run
    from_first_kept key since left cur true first some run = run_kept cur (led left.word) run
    from_first_kept key since left cur false first some direct =
        (direct.0, λ even. least_kept since (lists.start_of key) cur first.was.named (direct.1 (was_unmarked (lists.start_of key) cur first.was.named some even)))

    -- a word that stands there again stood there all the time
    stood : (key : ℕ) (left : Left) → AtLeft lists world key left → versioned_bit left.word ≡ 0 → after.words left.place ≡ left.word → world.words left.place ≡ left.word
    stood key left at clear stands = by_seen (at.seen clear)
      where
        by_seen : (world.words left.place ≡ left.word) ⊎ (versioned_version left.word < versioned_version (world.words left.place)) → world.words left.place ≡ left.word
        by_seen (inl same) = same
        by_seen (inr past) =
            let risen = rises_version (world.words left.place) (after.words left.place)
            (kept.rises left.place (link_word lists are world sorted (lists.start_of key) left.place at.link) (link_versioned lists are world sorted (lists.start_of key) left.place at.link)) in
            absurd (omega (arith, past, risen, ap versioned_version stands))

    -- ---- each search

    learnt_kept : (key since : ℕ) (searched : ListSearch) → Learnt lists world key since searched → Learnt lists after key since searched
    learnt_kept key since (Start sought start) l = l
    learnt_kept key since (Next sought left run cur) l = (left_kept key left l.0, cur_kept key left cur l.0 l.1, l.2, between_kept key since left cur run l.0 l.1 l.3)
    learnt_kept key since (Key sought left run cur next) l = (left_kept key left l.0, cur_kept key left cur l.0 l.1, between_kept key since left cur run l.0 l.1 l.2, next_kept key since cur next l.1.named l.3)
    learnt_kept key since (Unlink sought left cur next found) l =
        (left_kept key left l.0, cur_kept key left cur l.0 l.1, l.2, run_kept cur (led left.word) l.3, compared_kept key since cur next found l.1.named l.4)
    learnt_kept key since (AddReady left cur) l =
        (left_kept key left l.0, cur_kept key left cur l.0 l.1, l.2, l.3, omega (arith, l.4, rank_stays (lists.start_of key) cur l.1.named))
    learnt_kept key since (DelReady left cur next) l =
        (left_kept key left l.0, cur_kept key left cur l.0 l.1, l.2, l.3, rank_stays (lists.start_of key) cur l.1.named ∙ l.4, next_kept key since cur next l.1.named l.5, l.6)
    learnt_kept key since (LeastStart start) l = l
    learnt_kept key since (LeastNext left run cur) l = (first_kept key left cur l.0, l.1, from_first_kept key since left cur run l.0 l.1 l.2)
    learnt_kept key since (LeastUnlink left cur) l = (
      first_kept key left cur l.0,
      l.1,
      run_kept cur (led left.word) l.2,
      λ stands. least_kept since (lists.start_of key) cur l.0.was.named (l.3 (stood key left l.0.at l.1 stands)),
    )
    learnt_kept key since (LeastKey cur) l =
        (named_grows lists world.changes after.changes kept.extends (lists.start_of key) cur l.0, l.1, least_kept since (lists.start_of key) cur l.0 l.2)

    pub knows_later : (searched : ListSearch) (op : Op) (since : ℕ) → Knows lists searched op world since → Knows lists searched op after since
    knows_later searched op since knows =
        record { serves = knows.serves; began = omega (arith, knows.began, kept.extends.longer); learnt = learnt_kept op.key since searched knows.learnt }
