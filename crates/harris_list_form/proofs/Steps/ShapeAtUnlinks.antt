-- The shape of sorted lists is kept where no value is written anew, and where nodes are unlinked.
use Rattle.std.proofs.Common.{◌≡◌, ◌≢◌, ℕ, ◌*◌, ◌/◌, ◌%◌, ◌<◌, ◌≤◌, Bool, true, false, not, ◌∷◌, List, refl, sym, ap, ◌∙◌, subst, inl, inr, ◌⊎◌, arith}
use Rattle.std.proofs.lemmas.Bool.{cases_eq, and_from, and_left, and_right}
use Rattle.word_fields.specs.Versioned.{versioned_value}
use Rattle.normal_traits.specs.declared.lists.Entry.{Entry}
use Rattle.normal_traits.specs.World.{Maker, Change, World, is_word, no_root}
use Rattle.normal_traits.specs.Steps.{with_word}
use Rattle.harris_list_form.specs.Lists.{Lists, AreLists, is_versioned}
use Rattle.harris_list_form.specs.Search.{led}
use Rattle.harris_list_form.specs.Nodes.{is_node, node_key, next_at, key_at, node_rank, place_rank, rank_of, IsLink, IsNamed}
use Rattle.harris_list_form.specs.Path.{stands, IsPath, parity}
use Rattle.harris_list_form.specs.Shape.{UNLINKED, unlinks, IsStored, WasUnlinked, KnownBy, AreSorted}
use Rattle.harris_list_form.specs.Knowledge.{IsRun}
use Rattle.harris_list_form.proofs.Held.Places.{next_is, key_is, key_word, key_plain, start_word, start_versioned, next_versioned, second_block, rank_some}
use Rattle.harris_list_form.proofs.Paths.SameNodes.{SameNodes, path_same}
use Rattle.harris_list_form.proofs.Paths.Between.{without_between, is_between, between, not_between}
use Rattle.harris_list_form.proofs.Paths.NodesUnlinked.{path_cut}
use Rattle.harris_list_form.proofs.Held.Links.{positive, node_word, link_word, link_versioned, node_of, block_named}
use Rattle.harris_list_form.proofs.Held.Runs.{HasRun, has_run, run_some}
use Rattle.harris_list_form.proofs.Steps.Marks.{stands_now, live_moved}
use Rattle.harris_list_form.proofs.Steps.Journal.{new_cause, journal_stays, journal_grows}
use Rattle.harris_list_form.proofs.Steps.Later.{Later}
use Rattle.normal_traits.proofs.Stays.{word_beside}
use Rattle.client_lemmas.proofs.Words.{same_place}
use Rattle.client_lemmas.proofs.Later.{item_of}
use Rattle.client_lemmas.proofs.Made.{made_stay}

pub same_nodes : (changes : List Change) → SameNodes changes changes
same_nodes changes = record { nodes = λ block. refl; keys = λ block. refl }

-- other words, of the same changes, used blocks and won exchanges
abbrev pub with_words : (ℕ → ℕ) → World → World
with_words words world = record { words = words; changes = world.changes; used = world.used; journal = world.journal }

module _ (lists : Lists) (are : AreLists lists) where
  -- a link is no place of a key
  pub key_not_link : (changes : List Change) (start place block : ℕ) → 0 < block → IsLink lists changes start place → key_at block ≢ place
  key_not_link changes start place block some (inl at) e = omega (arith, are.within start at.0, at.1, e, key_is block, second_block, some)
  key_not_link changes start place block some (inr link) e = omega (arith, link.2, e, key_is block, next_is link.0)

  -- a stored node stays so where the word of its key stays
  pub stored_stays : (world after : World) → Later lists are world after → (block : ℕ) → is_node world.changes block ≡ true → IsStored world block → after.words (key_at block) ≡ world.words (key_at block) → IsStored after block
  stored_stays world after kept block node was same =
      let key = kept.extends.keys block node in
      record { some = was.some; small = was.small; used = kept.used block was.used; limit = omega (arith, was.limit, key); keyed = same ∙ was.keyed ∙ sym key }

  -- ---- nothing is won

  module _ (world : World) (words : ℕ → ℕ) (sorted : AreSorted lists world) (kept : Later lists are world (with_words words world))
      (versioned : (place : ℕ) → is_word no_root world place ≡ true → is_versioned lists place ≡ true → versioned_value (words place) ≡ versioned_value (world.words place))
      (plain : (place : ℕ) → is_word no_root world place ≡ true → is_versioned lists place ≡ false → words place ≡ world.words place) where
    pub still : AreSorted lists (with_words words world)
    still =
        let some = positive lists are world sorted in
        record {
          first = sorted.first;
          stored = λ block node.
              stored_stays world (with_words words world) kept block node (sorted.stored block node)
              (plain (key_at block) (key_word world block (sorted.stored block node).used) (key_plain lists are block (some block node)));
          effective = sorted.effective;
          made = made_stay world (with_words words world) kept.used kept.journal refl sorted.made;
          path = sorted.path;
          has_path = record {
            leading = path_same world.changes world.changes (same_nodes world.changes) lists (λ place. led (world.words place)) (λ place. led (words place)) sorted.path sorted.has_path.leading
                (λ start place link. ap (λ v. v / 2) (versioned place (link_word lists are world sorted start place link) (link_versioned lists are world sorted start place link)));
            living = live_moved lists world.changes world.words sorted.path sorted.has_path.living words sorted.path
                (λ place is. ap (λ v. v % 2) (versioned place (start_word lists are world place sorted.first is) (start_versioned lists are place is)))
                (λ block node. ap (λ v. v % 2) (versioned (next_at block) (node_word lists are world sorted block node) (next_versioned lists are block)))
                (λ block node even on. on);
            journal = journal_stays lists are world (with_words words world) sorted kept sorted.path sorted.path (λ block node off. off) sorted.has_path.journal refl;
          };
        }

  -- ---- nodes are unlinked

  -- after an exchange of an unmarked link, beside the lists or by a second entry
  abbrev pub cut_world : World → Maker → Entry → ℕ → World
  cut_world world maker entry word =
      record { words = with_word entry.target word world.words; changes = world.changes; used = world.used; journal = item_of maker entry (unlinks entry) ∷ world.journal }

  module _ (world : World) (sorted : AreSorted lists world) (maker : Maker) (entry : Entry) (start cur word : ℕ) (kept : Later lists are world (cut_world world maker entry word))
      (link : IsLink lists world.changes start entry.target) (same : world.words entry.target ≡ entry.from) (even : versioned_value entry.from % 2 ≡ 0)
      (run : IsRun world cur (led entry.from)) (value : versioned_value word ≡ 2 * cur)
      (known : (path : ℕ → Bool) → WasUnlinked (cut_world world maker entry word) path (item_of maker entry (unlinks entry)) → KnownBy (cut_world world maker entry word) path (item_of maker entry (unlinks entry)) maker) where
    is : IsPath lists world.changes (λ place. led (world.words place)) sorted.path
    is = sorted.has_path.leading

    some : (block : ℕ) → is_node world.changes block ≡ true → 0 < block
    some = positive lists are world sorted

    on : stands sorted.path entry.target ≡ true
    on = stands_now lists world.changes world.words sorted.path sorted.has_path.living are some start entry.target link (ap (λ w. versioned_value w % 2) same ∙ even)

    first_named : IsNamed lists world.changes start (led entry.from)
    first_named = subst (IsNamed lists world.changes start) (ap led same) (is.leads start entry.target link)

    first_some : led entry.from ≢ 0
    first_some = run_some lists are world some sorted.path is cur (led entry.from) run

    first_on : sorted.path (led entry.from / 4) ≡ true
    first_on = ap (λ w. sorted.path (led w / 4)) (sym same) ∙ is.along start entry.target link on (λ null. first_some (sym (ap led same) ∙ null))

    first_behind : place_rank world.changes entry.target < rank_of world.changes (led entry.from)
    first_behind = omega (arith, is.rises start entry.target link, ap (λ w. rank_of world.changes (led w)) same)

    runs : HasRun lists are world some sorted.path is start cur (led entry.from)
    runs = has_run lists are world some sorted.path is start cur (led entry.from) first_named first_on run

    cur_behind : place_rank world.changes entry.target < rank_of world.changes cur
    cur_behind = omega (arith, first_behind, runs.rises)

    cut_leads : led (with_word entry.target word world.words entry.target) ≡ cur
    cut_leads = omega (arith, ap versioned_value (same_place entry.target word world.words), value)

    parity_at : (place : ℕ) → (place ≡ entry.target) ⊎ (place ≡ entry.target → ⊥) → parity (with_word entry.target word world.words) place ≡ parity world.words place
    parity_at place (inl here) =
        let before : parity world.words place ≡ 0 = ap (parity world.words) here ∙ ap (λ w. versioned_value w % 2) same ∙ even in
        let after : versioned_value (with_word entry.target word world.words place) ≡ 2 * cur = ap (λ p. versioned_value (with_word entry.target word world.words p)) here ∙ ap versioned_value (same_place entry.target word world.words) ∙ value in
        omega (arith, before, after)
    parity_at place (inr other) = ap (λ w. versioned_value w % 2) (word_beside entry.target word world.words place other)

    -- an unmarked node is not among those that are unlinked
    live_stays : (block : ℕ) → is_node world.changes block ≡ true → parity world.words (next_at block) ≡ 0 → sorted.path block ≡ true → without_between lists world.changes start entry.target cur sorted.path block ≡ true
    live_stays block node clear path_on =
        and_from (sorted.path block) (not (is_between lists world.changes start entry.target cur block)) path_on
        (not_between lists world.changes start entry.target cur block
        (λ list low high.
        let near = is.nearest start entry.target block link on path_on list low in
        let behind : rank_of world.changes (led entry.from) ≤ node_rank world.changes block = omega (arith, near, ap (λ w. rank_of world.changes (led w)) same) in
        omega (arith, clear, runs.marked block path_on list behind high)))

    first_list : lists.start_of (node_key world.changes (led entry.from / 4)) ≡ start
    first_list =
        let node = node_of lists are world sorted start (led entry.from) first_named first_some in
        ap (λ b. lists.start_of (node_key world.changes b)) (block_named (led entry.from) node.0 node.2) ∙ node.1.list

    first_off : without_between lists world.changes start entry.target cur sorted.path (led entry.from / 4) ≡ false
    first_off =
        let rank = rank_some world.changes (led entry.from) first_some in
        let low : place_rank world.changes entry.target < node_rank world.changes (led entry.from / 4) = omega (arith, rank, first_behind) in
        let high : node_rank world.changes (led entry.from / 4) < rank_of world.changes cur = omega (arith, rank, runs.rises) in
        and_right (sorted.path (led entry.from / 4)) (not (is_between lists world.changes start entry.target cur (led entry.from / 4)))
        (ap not (between lists world.changes start entry.target cur (led entry.from / 4) first_list low high))

    pub cut_keeps : AreSorted lists (cut_world world maker entry word)
    cut_keeps =
        let after = cut_world world maker entry word in
        let off : (block : ℕ) → is_node world.changes block ≡ true → sorted.path block ≡ false → without_between lists world.changes start entry.target cur sorted.path block ≡ false =
        λ block node e. and_left (sorted.path block) (not (is_between lists world.changes start entry.target cur block)) e in
        record {
          first = sorted.first;
          stored = λ block node.
              stored_stays world after kept block node (sorted.stored block node)
              (word_beside entry.target word world.words (key_at block) (key_not_link world.changes start entry.target block (some block node) link));
          effective = sorted.effective;
          made = made_stay world after kept.used kept.journal refl sorted.made;
          path = without_between lists world.changes start entry.target cur sorted.path;
          has_path = record {
            leading = path_cut lists are world.changes some (λ place. led (world.words place)) sorted.path is start entry.target cur link on runs.named cur_behind runs.on
                (λ place. led (with_word entry.target word world.words place)) cut_leads (λ place other. ap led (word_beside entry.target word world.words place other));
            living = live_moved lists world.changes world.words sorted.path sorted.has_path.living (with_word entry.target word world.words) (without_between lists world.changes start entry.target cur sorted.path)
                (λ place start'. parity_at place (cases_eq place entry.target)) (λ block node. parity_at (next_at block) (cases_eq (next_at block) entry.target)) live_stays;
            journal = journal_grows lists are world after sorted kept sorted.path (without_between lists world.changes start entry.target cur sorted.path) off sorted.has_path.journal
                (item_of maker entry (unlinks entry)) refl
                (known (without_between lists world.changes start entry.target cur sorted.path) (record { block = led entry.from / 4; node = is.nodes (led entry.from / 4) first_on; off = first_off; cause = refl }))
                (λ cause c. new_cause world sorted.path (led entry.from / 4) UNLINKED cause (λ e. absurd (omega (arith, e))) (λ e. absurd (omega (arith, e))) (λ e. first_on) c);
          };
        }
