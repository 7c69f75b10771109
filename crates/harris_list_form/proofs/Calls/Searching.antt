-- The laws of the search: what it asks for, and what it learns from a step.
use Rattle.std.proofs.Common.{◌≡◌, ◌≢◌, ℕ, ◌+◌, ◌*◌, ◌/◌, ◌^◌, ◌<◌, ◌≤◌, Bool, true, false, cond, eqb, leb, ◌||◌, length, refl, sym, ap, ◌∙◌, subst, inl, inr, arith}
use Rattle.std.proofs.lemmas.Bool.{true≢false, eqb-true, eqb-false, leb-true, leb-false, cond-false, ne_eqb, or_parts}
use Rattle.lin_report.specs.declared.calls.Op.{Op}
use Rattle.lin_report.specs.declared.calls.TheConstants.{MIN}
use Rattle.lin_report.specs.Commands.{KEY_LIMIT}
use Rattle.lin_report.specs.Object.{IsCommandOf, object_of}
use Rattle.step_memory.specs.declared.steps.Seen.{Seen}
use Rattle.word_fields.specs.Versioned.{versioned_value, is_modified, value_below}
use Rattle.word_fields.proofs.ChangedWords.{value-changed}
use Rattle.node_arena.specs.MemoryMap.{reference_to}
use Rattle.normal_traits.specs.declared.form.Found.TheVariants.{Going, Ready, Contended}
use Rattle.normal_traits.specs.World.{World, is_word, no_root}
use Rattle.normal_traits.specs.Laws.{AsksWell}
use Rattle.harris_list_form.specs.declared.states.Aim.{Aim}
use Rattle.harris_list_form.specs.declared.states.Aim.TheVariants.{Add, Del, Has}
use Rattle.harris_list_form.specs.declared.states.Sought.{Sought}
use Rattle.harris_list_form.specs.declared.states.Left.{Left}
use Rattle.harris_list_form.specs.declared.states.ListSearch.{ListSearch}
use Rattle.harris_list_form.specs.declared.states.ListSearch.TheVariants.{Start, Next, Key, Unlink, AddReady, DelReady, LeastStart, LeastNext, LeastUnlink, LeastKey}
use Rattle.harris_list_form.specs.Lists.{Lists, AreLists}
use Rattle.harris_list_form.specs.Search.{led, is_marked, leading, next_place, key_place, sought_of, begun, asked, decided_absent, decided_found, decided, finished, moved_on, met_next, met_key, fed, Asks}
use Rattle.harris_list_form.specs.Nodes.{holds, is_node, node_key, next_at, node_rank, place_rank, rank_of, LAST_RANK, IsLink, IsNamed}
use Rattle.harris_list_form.specs.Path.{IsPath, parity}
use Rattle.harris_list_form.specs.Shape.{AreSorted}
use Rattle.harris_list_form.specs.Knowledge.{WasHeld, WasGap, WasLeast, AtLeft, AtCur, AtNext, IsRun, Between, Compared, Learnt, code_of, IsFor, Knows}
use Rattle.harris_list_form.specs.Knowledge.IsRun.{ends}
use Rattle.harris_list_form.specs.Form.{list_form}
use Rattle.harris_list_form.proofs.Held.Places.{start_word, key_word, rank_start, rank_next, rank_named}
use Rattle.harris_list_form.proofs.Held.Links.{positive, link_word, link_versioned, node_of, named_link, block_named}
use Rattle.harris_list_form.proofs.Calls.Commands.{aim_is, key_limit}
use Rattle.harris_list_form.proofs.Held.Sets.{object_is, has_right, del_right, add_right}
use Rattle.harris_list_form.proofs.Steps.Marks.{stands_now, none_held}
use Rattle.harris_list_form.proofs.Held.Runs.{run_more}
use Rattle.harris_list_form.proofs.Calls.LeastSearching.{reached_well, least_started, least_nexted, least_keyed}
use Rattle.client_lemmas.proofs.Words.{clear_from, same_place}
use Rattle.client_lemmas.proofs.Growing.{first_all}
use Rattle.client_lemmas.proofs.Requests.{Went, from_load}
use Rattle.client_lemmas.proofs.Outcomes.{FedWell, either}

pub led_below : (word : ℕ) → led word < 2 ^ 23
led_below word = omega (arith, value_below word)

module _ (lists : Lists) (are : AreLists lists) where
  -- ---- the beginning

  pub begins_asking : (op : Op) → Asks (begun lists op)
  begins_asking op = either Asks (eqb op.code MIN) (LeastStart (lists.start_of op.key)) (Start (sought_of op) (lists.start_of op.key)) tt tt

  pub begins_knowing : (world : World) (op : Op) → IsCommandOf (object_of lists.client) op → Knows lists (begun lists op) op world (length world.changes)
  begins_knowing world op command = by_code (eqb op.code MIN) refl
    where
      by_code : (min : Bool) → eqb op.code MIN ≡ min → Knows lists (cond min (LeastStart (lists.start_of op.key)) (Start (sought_of op) (lists.start_of op.key))) op world (length world.changes)
      by_code true e = record { serves = eqb-true op.code MIN e; began = omega arith; learnt = refl }
      by_code false e = record { serves = (aim_is lists.client are.sets op command e, refl); began = omega arith; learnt = refl }

  -- ---- what it asks for

  pub asks_well : (world : World) (searched : ListSearch) (key since : ℕ) → AreSorted lists world → Asks searched → Learnt lists world key since searched → AsksWell (list_form lists) world (asked searched)
  asks_well world (Start sought start) key since sorted asks l = ap (is_word no_root world) l ∙ start_word lists are world (lists.start_of key) sorted.first (are.starts key)
  asks_well world (Next sought left run cur) key since sorted asks l =
      link_word lists are world sorted (lists.start_of key) (next_place cur) (named_link lists are world sorted (lists.start_of key) cur l.1.named l.2)
  asks_well world (Key sought left run cur next) key since sorted asks l =
      let node = node_of lists are world sorted (lists.start_of key) cur l.1.named l.3.some in
      ap (λ r. is_word no_root world (key_place r)) node.2 ∙ key_word world node.0 (sorted.stored node.0 node.1.node).used
  asks_well world (Unlink sought left cur next found) key since sorted asks l = (
    link_word lists are world sorted (lists.start_of key) left.place l.0.link,
    link_versioned lists are world sorted (lists.start_of key) left.place l.0.link,
    λ listable. l.2,
    (2 * cur, omega (arith, asks), refl),
  )
  asks_well world (LeastStart start) key since sorted asks l = ap (is_word no_root world) l ∙ start_word lists are world (lists.start_of key) sorted.first (are.starts key)
  asks_well world (LeastNext left run cur) key since sorted asks l =
      link_word lists are world sorted (lists.start_of key) (next_place cur) (named_link lists are world sorted (lists.start_of key) cur l.0.was.named l.1)
  asks_well world (LeastUnlink left cur) key since sorted asks l = (
    link_word lists are world sorted (lists.start_of key) left.place l.0.at.link,
    link_versioned lists are world sorted (lists.start_of key) left.place l.0.at.link,
    λ listable. l.1,
    (2 * cur, omega (arith, asks), refl),
  )
  asks_well world (LeastKey cur) key since sorted asks l =
      let node = node_of lists are world sorted (lists.start_of key) cur l.0 l.1 in
      ap (λ r. is_word no_root world (key_place r)) node.2 ∙ key_word world node.0 (sorted.stored node.0 node.1.node).used
  asks_well world (AddReady left cur) key since sorted asks l = absurd asks
  asks_well world (DelReady left cur next) key since sorted asks l = absurd asks

  -- ---- what it finds

  -- the state in which a search stays where it is over
  module _ (world : World) (sorted : AreSorted lists world) (op : Op) (since : ℕ) (limit : op.key < KEY_LIMIT) (stay : ListSearch) (stays : Knows lists stay op world since) (left : Left) (cur : ℕ)
      (small : cur < 2 ^ 23) (at : AtLeft lists world op.key left) (was : AtCur lists world op.key left cur) where
    absent_well : (aim : Aim) → op.code ≡ code_of aim → led left.word ≡ cur → op.key + 1 < rank_of world.changes cur → WasHeld world.changes since op.key false → FedWell (list_form lists) world op since (decided_absent stay aim left cur)
    absent_well Add code leads above absent = by_bit (is_modified left.word) refl
      where
        by_bit : (set : Bool) → is_modified left.word ≡ set → FedWell (list_form lists) world op since (cond set (stay, Contended) (AddReady left cur, Ready))
        by_bit true e = (stays, tt)
        by_bit false e = (record { serves = code; began = stays.began; learnt = (at, was, clear_from left.word e, leads, above) }, small)
    absent_well Del code leads above absent = (stays, (del_right (object_of lists.client) (object_is lists.client are.sets) world sorted.effective op since code absent, tt))
    absent_well Has code leads above absent = (stays, (has_right (object_of lists.client) (object_is lists.client are.sets) world sorted.effective op since false code absent, tt))

    found_well : (next : ℕ) (aim : Aim) → op.code ≡ code_of aim → led left.word ≡ cur → rank_of world.changes cur ≡ op.key + 1 → AtNext lists world op.key since cur next → WasHeld world.changes since op.key true
        → FedWell (list_form lists) world op since (decided_found stay aim left cur next)
    found_well next Add code leads equal at_next present = (stays, (add_right (object_of lists.client) (object_is lists.client are.sets) world sorted.effective op since code present, tt))
    found_well next Del code leads equal at_next present = by_bit (is_modified left.word || is_modified next) refl
      where
        by_bit : (set : Bool) → (is_modified left.word || is_modified next) ≡ set → FedWell (list_form lists) world op since (cond set (stay, Contended) (DelReady left cur next, Ready))
        by_bit true e = (stays, tt)
        by_bit false e =
            let clear = or_parts (is_modified left.word) (is_modified next) e in
            (record { serves = code; began = stays.began; learnt = (at, was, clear_from left.word clear.0, leads, equal, at_next, clear_from next clear.1) }, small)
    found_well next Has code leads equal at_next present = (stays, (has_right (object_of lists.client) (object_is lists.client are.sets) world sorted.effective op since true code present, tt))

    -- the node's key is the one that is looked for
    key_of_cur : cur ≢ 0 → rank_of world.changes cur ≡ op.key + 1 → node_key world.changes (cur / 4) ≡ op.key
    key_of_cur some equal =
        omega (arith, equal, cond-false (eqb cur 0) LAST_RANK (node_rank world.changes (cur / 4)) (ne_eqb cur 0 some))

    decided_well : (sought : Sought) (next : ℕ) (found : Bool) → IsFor sought op → led left.word ≡ cur → (found ≡ false → WasHeld world.changes since op.key false) → Compared lists world op.key since cur next found
        → FedWell (list_form lists) world op since (decided stay sought left cur next found)
    decided_well sought next true for leads absent compared =
        found_well next sought.aim for.0 leads compared.0 compared.1 (subst (λ k. WasHeld world.changes since k true) (key_of_cur compared.1.some compared.0) compared.1.held)
    decided_well sought next false for leads absent compared = absent_well sought.aim for.0 leads compared (absent refl)

    finished_well : (sought : Sought) (run : Bool) (next : ℕ) (found : Bool) → IsFor sought op → Between lists world op.key since left cur run → Compared lists world op.key since cur next found
        → FedWell (list_form lists) world op since (finished stay sought left run cur next found)
    finished_well sought true next found for between compared = by_bit (is_modified left.word) refl
      where
        by_bit : (set : Bool) → is_modified left.word ≡ set → FedWell (list_form lists) world op since (cond set (stay, Contended) (Unlink sought left cur next found, Going))
        by_bit true e = (stays, tt)
        by_bit false e = (record { serves = for; began = stays.began; learnt = (at, was, clear_from left.word e, between, compared) }, small)
    finished_well sought false next true for between compared = decided_well sought next true for between.0 (λ e. absurd (true≢false e)) compared
    finished_well sought false next false for between compared =
        decided_well sought next false for between.0
        (λ e. record { count = between.1.count; not_before = between.1.not_before; made = between.1.made; held = between.1.none op.key refl at.below compared }) compared

    moved_well : (sought : Sought) (run : Bool) → IsFor sought op → Between lists world op.key since left cur run → FedWell (list_form lists) world op since (moved_on stay sought left run cur)
    moved_well sought run for between = by_null (eqb cur 0) refl
      where
        by_null : (null : Bool) → eqb cur 0 ≡ null → FedWell (list_form lists) world op since (cond null (finished stay sought left run cur 0 false) (Next sought left run cur, Going))
        by_null true e =
            let last : rank_of world.changes cur ≡ LAST_RANK = ap (rank_of world.changes) (eqb-true cur 0 e) in
            finished_well sought run 0 false for between (omega (arith, last, limit))
        by_null false e = (record { serves = for; began = stays.began; learnt = (at, was, eqb-false cur 0 e, between) }, small)

  -- ---- what it learns from a load

  module _ (world : World) (sorted : AreSorted lists world) where
    is : IsPath lists world.changes (λ place. led (world.words place)) sorted.path
    is = sorted.has_path.leading

    -- between a link that is unmarked and what it leads to the set holds no key now
    gap_now : (since start place : ℕ) → since ≤ length world.changes → IsLink lists world.changes start place → parity world.words place ≡ 0
        → WasGap lists world.changes since start (place_rank world.changes place) (rank_of world.changes (led (world.words place)))
    gap_now since start place began link even =
        record {
          count = length world.changes;
          not_before = began;
          made = omega arith;
          none = λ key list low high.
              ap (λ changes. holds changes key) (first_all world.changes)
              ∙ none_held lists world.changes world.words sorted.path sorted.has_path.living (λ place. led (world.words place)) is start place key link
              (stands_now lists world.changes world.words sorted.path sorted.has_path.living are (positive lists are world sorted) start place link even) list low high;
        }

    start_met : (op : Op) (since start : ℕ) (sought : Sought) → op.key < KEY_LIMIT → Knows lists (Start sought start) op world since
        → FedWell (list_form lists) world op since (moved_on (Start sought start) sought (record { place = start; word = world.words start }) false (led (world.words start)))
    start_met op since start sought limit knows =
        let link : IsLink lists world.changes (lists.start_of op.key) start = inl (are.starts op.key, knows.learnt) in
        let even = ap (parity world.words) knows.learnt ∙ sorted.has_path.living.starts (lists.start_of op.key) (are.starts op.key) in
        let rank = ap (place_rank world.changes) knows.learnt ∙ rank_start world.changes (lists.start_of op.key) (are.within (lists.start_of op.key) (are.starts op.key)) in
        moved_well world sorted op since limit (Start sought start) knows (record { place = start; word = world.words start }) (led (world.words start)) (led_below (world.words start))
        (record { link = link; below = omega (arith, rank); even = even; seen = λ clear. inl refl })
        (record { named = is.leads (lists.start_of op.key) start link; behind = is.rises (lists.start_of op.key) start link }) sought false knows.serves
        (refl, gap_now since (lists.start_of op.key) start knows.began link even)

    -- the rank of a node's link is that of the node
    link_rank : (start cur : ℕ) → IsNamed lists world.changes start cur → cur ≢ 0 → place_rank world.changes (next_place cur) ≡ rank_of world.changes cur
    link_rank start cur named some =
        let node = node_of lists are world sorted start cur named some in
        ap (λ r. place_rank world.changes (next_place r)) node.2 ∙ rank_next world.changes node.0 (positive lists are world sorted node.0 node.1.node)
        ∙ sym (ap (rank_of world.changes) node.2 ∙ rank_named world.changes node.0)

    -- the run goes on over a marked node
    run_met : (key since cur : ℕ) (left : Left) (run : Bool) → AtCur lists world key left cur → cur ≢ 0 → Between lists world key since left cur run → parity world.words (next_place cur) ≡ 1
        → IsRun world (led (world.words (next_place cur))) (led left.word)
    run_met key since cur left run was some between odd =
        let node = node_of lists are world sorted (lists.start_of key) cur was.named some in
        let at : next_place cur ≡ next_at node.0 = ap next_place node.2 in
        subst (λ p. IsRun world (led (world.words p)) (led left.word)) (sym at) (by_run run between node.0 node.2 node.1.node (sym (ap (parity world.words) at) ∙ odd))
      where
        by_run : (run : Bool) → Between lists world key since left cur run → (block : ℕ) → cur ≡ reference_to block 1 → is_node world.changes block ≡ true → parity world.words (next_at block) ≡ 1
            → IsRun world (led (world.words (next_at block))) (led left.word)
        by_run true is_run block named node odd' = run_more world cur (led left.word) block named node odd' is_run
        by_run false direct block named node odd' = ends block (direct.0 ∙ named) node odd' refl

    next_met : (op : Op) (since cur : ℕ) (sought : Sought) (left : Left) (run : Bool) → op.key < KEY_LIMIT → cur < 2 ^ 23 → Knows lists (Next sought left run cur) op world since
        → FedWell (list_form lists) world op since (met_next (Next sought left run cur) sought left run cur (world.words (next_place cur)))
    next_met op since cur sought left run limit small knows = by_mark (is_marked (world.words (next_place cur))) refl
      where
        l : Learnt lists world op.key since (Next sought left run cur)
        l = knows.learnt

        link : IsLink lists world.changes (lists.start_of op.key) (next_place cur)
        link = named_link lists are world sorted (lists.start_of op.key) cur l.1.named l.2

        rank : place_rank world.changes (next_place cur) ≡ rank_of world.changes cur
        rank = link_rank (lists.start_of op.key) cur l.1.named l.2

        held_now : parity world.words (next_place cur) ≡ 0 → WasHeld world.changes since (node_key world.changes (cur / 4)) true
        held_now even =
            let node = node_of lists are world sorted (lists.start_of op.key) cur l.1.named l.2 in
            record {
              count = length world.changes;
              not_before = knows.began;
              made = omega arith;
              held = ap (λ changes. holds changes (node_key world.changes (cur / 4))) (first_all world.changes)
                  ∙ ap (λ b. holds world.changes (node_key world.changes b)) (block_named cur node.0 node.2)
                  ∙ sorted.has_path.living.held node.0 node.1.node (sym (ap (λ r. parity world.words (next_place r)) node.2) ∙ even);
            }

        by_mark : (marked : Bool) → is_marked (world.words (next_place cur)) ≡ marked
            → FedWell (list_form lists) world op since (cond marked (moved_on (Next sought left run cur) sought left true (led (world.words (next_place cur)))) (Key sought left run cur (world.words (next_place cur)), Going))
        by_mark true e =
            moved_well world sorted op since limit (Next sought left run cur) knows left (led (world.words (next_place cur))) (led_below (world.words (next_place cur))) l.0
            (record { named = is.leads (lists.start_of op.key) (next_place cur) link; behind = omega (arith, l.1.behind, rank, is.rises (lists.start_of op.key) (next_place cur) link) })
            sought true knows.serves (run_met op.key since cur left run l.1 l.2 l.3 (eqb-true (parity world.words (next_place cur)) 1 e))
        by_mark false e =
            let even : parity world.words (next_place cur) ≡ 0 = omega (arith, eqb-false (parity world.words (next_place cur)) 1 e) in (
              record {
                serves = knows.serves;
                began = knows.began;
                learnt = (
                  l.0,
                  l.1,
                  l.3,
                  record {
                    some = l.2;
                    even = even;
                    seen = λ clear. inl refl;
                    named = is.leads (lists.start_of op.key) (next_place cur) link;
                    behind = omega (arith, rank, is.rises (lists.start_of op.key) (next_place cur) link);
                    gap = subst (λ low. WasGap lists world.changes since (lists.start_of op.key) low (rank_of world.changes (led (world.words (next_place cur))))) rank
                        (gap_now since (lists.start_of op.key) (next_place cur) knows.began link even);
                    held = held_now even;
                  },
                );
              },
              small,
            )

    key_met : (op : Op) (since cur next : ℕ) (sought : Sought) (left : Left) (run : Bool) → op.key < KEY_LIMIT → cur < 2 ^ 23 → Knows lists (Key sought left run cur next) op world since
        → FedWell (list_form lists) world op since (met_key (Key sought left run cur next) sought left run cur next (world.words (key_place cur)))
    key_met op since cur next sought left run limit small knows = by_order (leb sought.key (world.words (key_place cur))) refl
      where
        l : Learnt lists world op.key since (Key sought left run cur next)
        l = knows.learnt

        -- the loaded word is the node's key
        rank : rank_of world.changes cur ≡ world.words (key_place cur) + 1
        rank =
            let node = node_of lists are world sorted (lists.start_of op.key) cur l.1.named l.3.some in
            let loaded : world.words (key_place cur) ≡ node_key world.changes node.0 = ap (λ r. world.words (key_place r)) node.2 ∙ (sorted.stored node.0 node.1.node).keyed in
            omega (arith, ap (rank_of world.changes) node.2, rank_named world.changes node.0, loaded)

        by_key : leb sought.key (world.words (key_place cur)) ≡ true → (found : Bool) → eqb (world.words (key_place cur)) sought.key ≡ found
            → FedWell (list_form lists) world op since (finished (Key sought left run cur next) sought left run cur next found)
        by_key high true e =
            finished_well world sorted op since limit (Key sought left run cur next) knows left cur small l.0 l.1 sought run next true knows.serves l.2
            (omega (arith, rank, eqb-true (world.words (key_place cur)) sought.key e, knows.serves.1), l.3)
        by_key high false e =
            finished_well world sorted op since limit (Key sought left run cur next) knows left cur small l.0 l.1 sought run next false knows.serves l.2
            (omega (arith, rank, eqb-false (world.words (key_place cur)) sought.key e, leb-true sought.key (world.words (key_place cur)) high, knows.serves.1))

        by_order : (high : Bool) → leb sought.key (world.words (key_place cur)) ≡ high
            → FedWell (list_form lists) world op since (cond high (finished (Key sought left run cur next) sought left run cur next (eqb (world.words (key_place cur)) sought.key))
            (moved_on (Key sought left run cur next) sought (record { place = next_place cur; word = next }) false (led next)))
        by_order true e = by_key e (eqb (world.words (key_place cur)) sought.key) refl
        by_order false e =
            let link = named_link lists are world sorted (lists.start_of op.key) cur l.1.named l.3.some in
            let place = link_rank (lists.start_of op.key) cur l.1.named l.3.some in
            moved_well world sorted op since limit (Key sought left run cur next) knows (record { place = next_place cur; word = next }) (led next) (led_below next)
            (record { link = link; below = omega (arith, place, rank, leb-false sought.key (world.words (key_place cur)) e, knows.serves.1); even = l.3.even; seen = l.3.seen })
            (record { named = l.3.named; behind = omega (arith, place, l.3.behind) }) sought false knows.serves
            (refl, subst (λ low. WasGap lists world.changes since (lists.start_of op.key) low (rank_of world.changes (led next))) (sym place) l.3.gap)

  -- ---- what it learns from its exchange

  unlink_met : (after : World) (sorted : AreSorted lists after) (op : Op) (since cur next : ℕ) (sought : Sought) (left : Left) (found : Bool) → op.key < KEY_LIMIT → cur < 2 ^ 23
      → Knows lists (Unlink sought left cur next found) op after since → after.words left.place ≡ leading left.word cur
      → FedWell (list_form lists) after op since (decided (Unlink sought left cur next found) sought (record { place = left.place; word = leading left.word cur }) cur next found)
  unlink_met after sorted op since cur next sought left found limit small knows written =
      decided_well after sorted op since limit (Unlink sought left cur next found) knows (record { place = left.place; word = leading left.word cur }) cur small
      (record { link = l.0.link; below = l.0.below; even = omega (arith, value); seen = λ clear. inl written })
      (record { named = l.1.named; behind = l.1.behind }) sought next found knows.serves (omega (arith, value)) absent l.4
    where
      l : Learnt lists after op.key since (Unlink sought left cur next found)
      l = knows.learnt

      value : versioned_value (leading left.word cur) ≡ 2 * cur
      value = value-changed left.word (2 * cur) (omega (arith, small))

      leads : led (after.words left.place) ≡ cur
      leads = omega (arith, ap versioned_value written, value)

      even : parity after.words left.place ≡ 0
      even = omega (arith, ap versioned_value written, value)

      absent : found ≡ false → WasHeld after.changes since op.key false
      absent e =
          let gap = gap_now after sorted since (lists.start_of op.key) left.place knows.began l.0.link even in
          let above : op.key + 1 < rank_of after.changes cur = subst (λ f. Compared lists after op.key since cur next f) e l.4 in
          record {
            count = gap.count;
            not_before = gap.not_before;
            made = gap.made;
            held = gap.none op.key refl l.0.below (omega (arith, above, ap (rank_of after.changes) leads));
          }

  -- ---- a step

  pub fed_well : (world after : World) (seen : Seen) (searched : ListSearch) (op : Op) (since : ℕ) → IsCommandOf (object_of lists.client) op → AreSorted lists world → AreSorted lists after → Asks searched
      → Knows lists searched op world since → Knows lists searched op after since → Went (list_form lists) (asked searched) world after seen → FedWell (list_form lists) after op since (fed searched seen)
  fed_well world after seen (Start sought start) op since command sorted later asks knows still w =
      from_load world after seen start (λ a s. FedWell (list_form lists) a op since (fed (Start sought start) s)) w (start_met world sorted op since start sought (key_limit lists.client are.sets op command) knows)
  fed_well world after seen (Next sought left run cur) op since command sorted later asks knows still w =
      from_load world after seen (next_place cur) (λ a s. FedWell (list_form lists) a op since (fed (Next sought left run cur) s)) w (next_met world sorted op since cur sought left run (key_limit lists.client are.sets op command) asks knows)
  fed_well world after seen (Key sought left run cur next) op since command sorted later asks knows still w =
      from_load world after seen (key_place cur) (λ a s. FedWell (list_form lists) a op since (fed (Key sought left run cur next) s)) w (key_met world sorted op since cur next sought left run (key_limit lists.client are.sets op command) asks knows)
  fed_well world after seen (Unlink sought left cur next found) op since command sorted later asks knows still (inl w) =
      subst (λ (s : Seen). FedWell (list_form lists) after op since (fed (Unlink sought left cur next found) s)) (sym w.2) (still, tt)
  fed_well world after seen (Unlink sought left cur next found) op since command sorted later asks knows still (inr w) =
      subst (λ (s : Seen). FedWell (list_form lists) after op since (fed (Unlink sought left cur next found) s)) (sym w.3)
      (unlink_met after later op since cur next sought left found (key_limit lists.client are.sets op command) asks still
      (ap (λ (a : World). a.words left.place) w.2 ∙ same_place left.place (leading left.word cur) world.words))
  fed_well world after seen (LeastStart start) op since command sorted later asks knows still w =
      from_load world after seen start (λ a s. FedWell (list_form lists) a op since (fed (LeastStart start) s)) w (least_started lists are world sorted op since knows.serves (are.least op command knows.serves) start knows)
  fed_well world after seen (LeastNext left run cur) op since command sorted later asks knows still w =
      from_load world after seen (next_place cur) (λ a s. FedWell (list_form lists) a op since (fed (LeastNext left run cur) s)) w
      (least_nexted lists are world sorted op since knows.serves (are.least op command knows.serves) left run cur asks knows)
  fed_well world after seen (LeastUnlink left cur) op since command sorted later asks knows still (inl w) =
      subst (λ (s : Seen). FedWell (list_form lists) after op since (fed (LeastUnlink left cur) s)) (sym w.2) (still, tt)
  fed_well world after seen (LeastUnlink left cur) op since command sorted later asks knows still (inr w) =
      subst (λ (s : Seen). FedWell (list_form lists) after op since (fed (LeastUnlink left cur) s)) (sym w.3)
      (reached_well lists are after later op since knows.serves (are.least op command knows.serves) (LeastUnlink left cur) still cur asks still.learnt.0.was.named
      (subst (λ changes. WasLeast lists changes since (lists.start_of op.key) cur) (sym (ap (λ (a : World). a.changes) w.2)) (knows.learnt.3 w.0)))
  fed_well world after seen (LeastKey cur) op since command sorted later asks knows still w =
      from_load world after seen (key_place cur) (λ a s. FedWell (list_form lists) a op since (fed (LeastKey cur) s)) w (least_keyed lists are world sorted op since knows.serves (are.least op command knows.serves) cur knows)
  fed_well world after seen _ op since command sorted later asks knows still w = absurd asks
