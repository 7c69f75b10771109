-- What is reached from a beginning: places of one list, each node on its path, and nothing of the others.
use Rattle.std.proofs.Common.{◌≡◌, ◌≢◌, ℕ, zero, suc, ◌+◌, ◌-◌, ◌/◌, ◌%◌, ◌<◌, ◌≤◌, true, false, refl, sym, ap, subst, ◌∙◌, inl, inr, ◌⊎◌, arith}
use Rattle.std.proofs.lemmas.Bool.{eq-eqb, cases_eq, true≢false}
use Rattle.word_fields.specs.Versioned.{versioned_value}
use Rattle.normal_traits.specs.World.{World}
use Rattle.normal_traits.specs.Steps.{with_word}
use Rattle.harris_list_form.specs.Lists.{Lists, AreLists, is_versioned}
use Rattle.harris_list_form.specs.Search.{led, is_marked, next_place, key_place}
use Rattle.harris_list_form.specs.Nodes.{is_node, node_key, next_at, key_at, node_rank, place_rank, rank_of, LAST_RANK, IsOf, IsLink, IsNamed}
use Rattle.harris_list_form.specs.Path.{stands}
use Rattle.harris_list_form.specs.Shape.{AreSorted}
use Rattle.harris_list_form.proofs.Held.Places.{same_next, start_not_next, rank_start, rank_next, rank_named, stands_start, stands_next, key_plain}
use Rattle.node_arena.specs.MemoryMap.{reference_to}
use Rattle.node_arena.proofs.PlacesApart.{block-reference_to}
use Rattle.bucket_set.specs.BucketShape.{Reached, IsMember}
use Rattle.bucket_set.specs.BucketShape.Reached.{begins, leads}
use Rattle.normal_traits.proofs.Stays.{word_beside}

-- a node that is no marked one
pub even : (word : ℕ) → is_marked word ≡ false → versioned_value word % 2 ≡ 0
even word unmarked = by_rest (cases_eq (versioned_value word % 2) 1)
  where
    by_rest : (versioned_value word % 2 ≡ 1) ⊎ (versioned_value word % 2 ≡ 1 → ⊥) → versioned_value word % 2 ≡ 0
    by_rest (inl odd) = absurd (true≢false (sym (eq-eqb (versioned_value word % 2) 1 odd) ∙ unmarked))
    by_rest (inr other) = omega (arith, other)

module _ (lists : Lists) (are : AreLists lists) (world : World) (shape : AreSorted lists world) where
  abbrev node_after : ℕ → ℕ
  node_after place = led (world.words place)

  -- ---- of one list

  pub reached_link : (start place : ℕ) → lists.is_start start ≡ true → Reached world.words start place → IsLink lists world.changes start place
  reached_link start place is (begins same) = inl (is, same)
  reached_link start place is (leads before reached some same) = by_name (shape.has_path.leading.leads start before (reached_link start before is reached))
    where
      by_name : IsNamed lists world.changes start (node_after before) → IsLink lists world.changes start place
      by_name (inl null) = absurd (some null)
      by_name (inr named) = inr (named.0, named.1, same ∙ ap next_place named.2)

  pub one_start : (a b place : ℕ) → lists.is_start a ≡ true → lists.is_start b ≡ true → IsLink lists world.changes a place → IsLink lists world.changes b place → a ≡ b
  one_start a b place is_a is_b (inl at_a) (inl at_b) = sym at_a.1 ∙ at_b.1
  one_start a b place is_a is_b (inl at_a) (inr on_b) = absurd (start_not_next lists are a on_b.0 is_a (shape.stored on_b.0 on_b.1.node).some (sym at_a.1 ∙ on_b.2))
  one_start a b place is_a is_b (inr on_a) (inl at_b) = absurd (start_not_next lists are b on_a.0 is_b (shape.stored on_a.0 on_a.1.node).some (sym at_b.1 ∙ on_a.2))
  one_start a b place is_a is_b (inr on_a) (inr on_b) =
      sym on_a.1.list ∙ ap (λ block. lists.start_of (node_key world.changes block)) (same_next on_a.0 on_b.0 (sym on_a.2 ∙ on_b.2)) ∙ on_b.1.list

  -- ---- members

  -- the node of a member
  pub member_node : (start key : ℕ) → lists.is_start start ≡ true → (member : IsMember world.words start key)
      → (block : ℕ) × IsOf lists world.changes start block × (node_after member.before ≡ reference_to block 1) × (node_key world.changes block ≡ key)
  member_node start key is member = by_name (shape.has_path.leading.leads start member.before (reached_link start member.before is member.reached))
    where
      by_name : IsNamed lists world.changes start (node_after member.before) → (block : ℕ) × IsOf lists world.changes start block × (node_after member.before ≡ reference_to block 1) × (node_key world.changes block ≡ key)
      by_name (inl null) = absurd (member.some null)
      by_name (inr named) = (named.0, named.1, named.2, sym (shape.stored named.0 named.1.node).keyed ∙ ap (λ reference. world.words (key_place reference)) (sym named.2) ∙ member.keyed)

  -- ---- each node of the path is reached

  module _ (start block : ℕ) (is : lists.is_start start ≡ true) (node : is_node world.changes block ≡ true) (on : shape.path block ≡ true) (own : lists.start_of (node_key world.changes block) ≡ start) where
    abbrev IsBefore : Type 0
    IsBefore = (before : ℕ) × Reached world.words start before × (node_after before ≡ reference_to block 1)

    limited : node_rank world.changes block < LAST_RANK
    limited = omega (arith, (shape.stored block node).limit)

    not_end : (reference : ℕ) → rank_of world.changes reference ≤ node_rank world.changes block → reference ≢ 0
    not_end reference low null = omega (arith, low, limited, ap (rank_of world.changes) null)

    -- a walk from any place of the list that is near enough
    abbrev Walks : ℕ → Type 0
    Walks fuel = (next : ℕ) → IsLink lists world.changes start next → stands shape.path next ≡ true → Reached world.words start next
        → place_rank world.changes next < node_rank world.changes block → node_rank world.changes block - place_rank world.changes next < fuel → IsBefore

    walked : (fuel place : ℕ) → IsLink lists world.changes start place → stands shape.path place ≡ true → Reached world.words start place
        → place_rank world.changes place < node_rank world.changes block → node_rank world.changes block - place_rank world.changes place < fuel → IsBefore
    walked zero place link stand reached low few = absurd (omega (arith, few))
    walked (suc fuel) place link stand reached low few =
        by_name (λ next link' stand' reached' low' nearer. walked fuel next link' stand' reached' low' nearer) (shape.has_path.leading.leads start place link)
      where
        near : rank_of world.changes (node_after place) ≤ node_rank world.changes block
        near = shape.has_path.leading.nearest start place block link stand on own low

        some : node_after place ≢ 0
        some = not_end (node_after place) near

        by_name : Walks fuel → IsNamed lists world.changes start (node_after place) → IsBefore
        by_name go (inl null) = absurd (some null)
        by_name go (inr named) = by_rank (cases_eq (node_rank world.changes named.0) (node_rank world.changes block))
          where
            rank : rank_of world.changes (node_after place) ≡ node_rank world.changes named.0
            rank = ap (rank_of world.changes) named.2 ∙ rank_named world.changes named.0

            here : shape.path named.0 ≡ true
            here = ap shape.path (sym (ap (λ reference. reference / 4) named.2 ∙ block-reference_to named.0 1 (omega arith))) ∙ shape.has_path.leading.along start place link stand some

            exists : 0 < named.0
            exists = (shape.stored named.0 named.1.node).some

            by_rank : (node_rank world.changes named.0 ≡ node_rank world.changes block) ⊎ (node_rank world.changes named.0 ≡ node_rank world.changes block → ⊥) → IsBefore
            by_rank (inl equal) = (place, reached, named.2 ∙ ap (λ b. reference_to b 1) (shape.has_path.leading.one_a_key named.0 block here on (omega (arith, equal))))
            by_rank (inr differ) =
                let at : place_rank world.changes (next_at named.0) ≡ node_rank world.changes named.0 = rank_next world.changes named.0 exists in
                let rises : place_rank world.changes place < rank_of world.changes (node_after place) = shape.has_path.leading.rises start place link in
                go (next_at named.0) (inr (named.0, named.1, refl)) (stands_next shape.path named.0 exists ∙ here)
                (leads place reached some (ap next_place (sym named.2))) (omega (arith, at, rank, near, differ)) (omega (arith, at, rank, rises, low, few))

    pub reached_node : IsBefore
    reached_node =
        let first : place_rank world.changes start ≡ 0 = rank_start world.changes start (are.within start is) in
        walked (node_rank world.changes block + 1) start (inl (is, refl)) (stands_start shape.path start (are.within start is)) (begins refl) (omega (arith, first)) (omega (arith, first))

  -- ---- an exchange elsewhere

  module _ (start place word : ℕ) (is : lists.is_start start ≡ true) (versioned : is_versioned lists place ≡ true) (off : Reached world.words start place → ⊥) where
    abbrev after : ℕ → ℕ
    after = with_word place word world.words

    stays : (at : ℕ) → Reached world.words start at → after at ≡ world.words at
    stays at reached = word_beside place word world.words at (λ same. off (subst (Reached world.words start) same reached))

    forth : (at : ℕ) → Reached world.words start at → Reached after start at
    forth at (begins same) = begins same
    forth at (leads before reached some same) =
        let stay = stays before reached in
        leads before (forth before reached) (λ null. some (ap led (sym stay) ∙ null)) (same ∙ ap (λ w. next_place (led w)) (sym stay))

    back : (at : ℕ) → Reached after start at → Reached world.words start at
    back at (begins same) = begins same
    back at (leads before reached some same) =
        let earlier = back before reached in
        let stay = stays before earlier in
        leads before earlier (λ null. some (ap led stay ∙ null)) (same ∙ ap (λ w. next_place (led w)) stay)

    -- a key is no versioned word
    key_stays : (before : ℕ) → Reached world.words start before → node_after before ≢ 0 → after (key_place (node_after before)) ≡ world.words (key_place (node_after before))
    key_stays before reached some = by_name (shape.has_path.leading.leads start before (reached_link start before is reached))
      where
        by_name : IsNamed lists world.changes start (node_after before) → after (key_place (node_after before)) ≡ world.words (key_place (node_after before))
        by_name (inl null) = absurd (some null)
        by_name (inr named) = word_beside place word world.words (key_place (node_after before)) (λ same.
            let plain : is_versioned lists (key_at named.0) ≡ false = key_plain lists are named.0 (shape.stored named.0 named.1.node).some in
            true≢false (sym versioned ∙ ap (is_versioned lists) (sym same ∙ ap key_place named.2) ∙ plain))

    next_stays : (before : ℕ) → Reached world.words start before → node_after before ≢ 0 → after (next_place (node_after before)) ≡ world.words (next_place (node_after before))
    next_stays before reached some = stays (next_place (node_after before)) (leads before reached some refl)

    pub member_forth : (key : ℕ) → IsMember world.words start key → IsMember after start key
    member_forth key member =
        let same : led (after member.before) ≡ node_after member.before = ap led (stays member.before member.reached) in
        record {
          before = member.before;
          reached = forth member.before member.reached;
          some = λ null. member.some (sym same ∙ null);
          unmarked = ap (λ reference. is_marked (after (next_place reference))) same ∙ ap is_marked (next_stays member.before member.reached member.some) ∙ member.unmarked;
          keyed = ap (λ reference. after (key_place reference)) same ∙ key_stays member.before member.reached member.some ∙ member.keyed;
        }

    pub member_back : (key : ℕ) → IsMember after start key → IsMember world.words start key
    member_back key member =
        let earlier = back member.before member.reached in
        let same : led (after member.before) ≡ node_after member.before = ap led (stays member.before earlier) in
        let some : node_after member.before ≢ 0 = λ null. member.some (same ∙ null) in
        record {
          before = member.before;
          reached = earlier;
          some = some;
          unmarked = sym (ap (λ reference. is_marked (after (next_place reference))) same ∙ ap is_marked (next_stays member.before earlier some)) ∙ member.unmarked;
          keyed = sym (ap (λ reference. after (key_place reference)) same ∙ key_stays member.before earlier some) ∙ member.keyed;
        }
