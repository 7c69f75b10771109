-- What a run of marked nodes that begins on a path shows: it goes along the path, and all nodes of the path
-- up to its end are marked.
use Rattle.std.proofs.Common.{◌≡◌, ◌≢◌, ℕ, ◌/◌, ◌<◌, ◌≤◌, Bool, true, refl, sym, ap, ◌∙◌, subst, inl, inr, ◌⊎◌, arith}
use Rattle.std.proofs.lemmas.Bool.{cases_lt}
use Rattle.node_arena.specs.MemoryMap.{reference_to}
use Rattle.normal_traits.specs.World.{World}
use Rattle.harris_list_form.specs.Lists.{Lists, AreLists}
use Rattle.harris_list_form.specs.Search.{led}
use Rattle.harris_list_form.specs.Nodes.{is_node, node_key, next_at, node_rank, place_rank, rank_of, IsOf, IsLink, IsNamed}
use Rattle.harris_list_form.specs.Path.{stands, IsPath, parity}
use Rattle.harris_list_form.specs.Knowledge.{IsRun}
use Rattle.harris_list_form.specs.Knowledge.IsRun.{ends, goes}
use Rattle.harris_list_form.proofs.Held.Places.{rank_next, rank_named, stands_next}
use Rattle.harris_list_form.proofs.Held.Links.{block_named}

-- a run that goes on by one marked node more
pub run_more : (world : World) (cur reference block : ℕ) → cur ≡ reference_to block 1 → is_node world.changes block ≡ true → parity world.words (next_at block) ≡ 1 → IsRun world cur reference
    → IsRun world (led (world.words (next_at block))) reference
run_more world cur reference block named node marked (ends b at n m leads) =
    goes b at n m (subst (IsRun world (led (world.words (next_at block)))) (sym (leads ∙ named)) (ends block refl node marked refl))
run_more world cur reference block named node marked (goes b at n m run) = goes b at n m (run_more world cur (led (world.words (next_at b))) block named node marked run)

module _ (lists : Lists) (are : AreLists lists) (world : World) (some : (block : ℕ) → is_node world.changes block ≡ true → 0 < block) (path : ℕ → Bool)
    (is : IsPath lists world.changes (λ place. led (world.words place)) path) where
  -- the run from a reference has come to another along the path
  pub record HasRun (start cur reference : ℕ) : Type 0 where
    pub on : cur ≢ 0 → path (cur / 4) ≡ true
    pub named : IsNamed lists world.changes start cur
    pub rises : rank_of world.changes reference < rank_of world.changes cur
    pub marked : (block : ℕ) → path block ≡ true → lists.start_of (node_key world.changes block) ≡ start → rank_of world.changes reference ≤ node_rank world.changes block → node_rank world.changes block < rank_of world.changes cur
        → parity world.words (next_at block) ≡ 1

  of_named : (start reference block : ℕ) → IsNamed lists world.changes start reference → reference ≡ reference_to block 1 → IsOf lists world.changes start block
  of_named start reference block (inl null) at = absurd (omega (arith, null, at))
  of_named start reference block (inr named) at = subst (IsOf lists world.changes start) (sym (block_named reference named.0 named.2) ∙ block_named reference block at) named.1

  -- one node of it
  step : (start reference block : ℕ) → IsOf lists world.changes start block → path block ≡ true → reference ≡ reference_to block 1 → parity world.words (next_at block) ≡ 1
      → HasRun start (led (world.words (next_at block))) reference
  step start reference block of path_on at odd =
      let link : IsLink lists world.changes start (next_at block) = inr (block, of, refl) in
      let standing = stands_next path block (some block of.node) ∙ path_on in
      let rank = rank_next world.changes block (some block of.node) in
      let named = ap (rank_of world.changes) at ∙ rank_named world.changes block in
      record {
        on = is.along start (next_at block) link standing;
        named = is.leads start (next_at block) link;
        rises = omega (arith, is.rises start (next_at block) link, rank, named);
        marked = λ other path_on' list low high. by_order link standing rank named other path_on' list low high (cases_lt (node_rank world.changes block) (node_rank world.changes other));
      }
    where
      by_order : IsLink lists world.changes start (next_at block) → stands path (next_at block) ≡ true → place_rank world.changes (next_at block) ≡ node_rank world.changes block → rank_of world.changes reference ≡ node_rank world.changes block
          → (other : ℕ) → path other ≡ true → lists.start_of (node_key world.changes other) ≡ start → rank_of world.changes reference ≤ node_rank world.changes other
          → node_rank world.changes other < rank_of world.changes (led (world.words (next_at block)))
          → (node_rank world.changes block < node_rank world.changes other) ⊎ (node_rank world.changes other ≤ node_rank world.changes block) → parity world.words (next_at other) ≡ 1
      by_order link standing rank named other path_on' list low high (inl later) =
          let far : place_rank world.changes (next_at block) < node_rank world.changes other = omega (arith, later, rank) in
          absurd (omega (arith, high, is.nearest start (next_at block) other link standing path_on' list far))
      by_order link standing rank named other path_on' list low high (inr here) =
          let key : node_key world.changes other ≡ node_key world.changes block = omega (arith, here, low, named) in
          ap (λ b. parity world.words (next_at b)) (is.one_a_key other block path_on' path_on key) ∙ odd

  -- a run has at least one node
  first_of : (cur reference : ℕ) → IsRun world cur reference → (block : ℕ) × (reference ≡ reference_to block 1)
  first_of cur reference (ends block at node marked leads) = (block, at)
  first_of cur reference (goes block at node marked run) = (block, at)

  pub run_some : (cur reference : ℕ) → IsRun world cur reference → reference ≢ 0
  run_some cur reference run null = let first = first_of cur reference run in omega (arith, null, first.1)

  pub has_run : (start cur reference : ℕ) → IsNamed lists world.changes start reference → path (reference / 4) ≡ true → IsRun world cur reference → HasRun start cur reference
  has_run start cur reference named path_on (ends block at node marked leads) =
      subst (λ c. HasRun start c reference) leads (step start reference block (of_named start reference block named at) (ap path (sym (block_named reference block at)) ∙ path_on) at marked)
  has_run start cur reference named path_on (goes block at node marked run) =
      let one = step start reference block (of_named start reference block named at) (ap path (sym (block_named reference block at)) ∙ path_on) at marked in
      let rest = has_run start cur (led (world.words (next_at block))) one.named (one.on (run_some cur (led (world.words (next_at block))) run)) run in
      record {
        on = rest.on;
        named = rest.named;
        rises = omega (arith, one.rises, rest.rises);
        marked = λ other path_on' list low high. by_order one rest other path_on' list low high (cases_lt (node_rank world.changes other) (rank_of world.changes (led (world.words (next_at block)))));
      }
    where
      by_order : HasRun start (led (world.words (next_at block))) reference → HasRun start cur (led (world.words (next_at block)))
          → (other : ℕ) → path other ≡ true → lists.start_of (node_key world.changes other) ≡ start → rank_of world.changes reference ≤ node_rank world.changes other → node_rank world.changes other < rank_of world.changes cur
          → (node_rank world.changes other < rank_of world.changes (led (world.words (next_at block)))) ⊎ (rank_of world.changes (led (world.words (next_at block))) ≤ node_rank world.changes other) → parity world.words (next_at other) ≡ 1
      by_order one rest other path_on' list low high (inl before) = one.marked other path_on' list low before
      by_order one rest other path_on' list low high (inr later) = rest.marked other path_on' list later high
