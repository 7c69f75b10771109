-- What the search of the least key learns from a step, and why its answer is right.
use Rattle.std.proofs.Common.{◌≡◌, ◌≢◌, ℕ, ◌/◌, ◌^◌, ◌<◌, Bool, true, false, cond, eqb, refl, sym, ap, ◌∙◌, subst, inl, arith}
use Rattle.std.proofs.lemmas.Bool.{eqb-true, eqb-false}
use Rattle.lin_report.specs.declared.calls.Op.{Op}
use Rattle.lin_report.specs.declared.calls.Reply.TheVariants.{Value, Empty}
use Rattle.lin_report.specs.declared.calls.Outcome.TheVariants.{Plain}
use Rattle.lin_report.specs.declared.calls.TheConstants.{MIN}
use Rattle.lin_report.specs.Object.{object_of}
use Rattle.word_fields.specs.Versioned.{is_modified, value_below}
use Rattle.normal_traits.specs.declared.form.Found.TheVariants.{Going, Answer, Contended}
use Rattle.normal_traits.specs.World.{World, RightSince}
use Rattle.harris_list_form.specs.declared.states.Left.{Left}
use Rattle.harris_list_form.specs.declared.states.ListSearch.{ListSearch}
use Rattle.harris_list_form.specs.declared.states.ListSearch.TheVariants.{LeastStart, LeastNext, LeastUnlink, LeastKey}
use Rattle.harris_list_form.specs.Lists.{Lists, AreLists}
use Rattle.harris_list_form.specs.Least.{key_in, least_reached, least_met, least_moved, least_told}
use Rattle.harris_list_form.specs.Search.{led, is_marked, next_place, key_place, met_least}
use Rattle.harris_list_form.specs.Nodes.{node_key, next_at, rank_of, place_rank, IsLink, IsNamed}
use Rattle.harris_list_form.specs.Path.{IsPath, parity}
use Rattle.harris_list_form.specs.Shape.{AreSorted}
use Rattle.harris_list_form.specs.Knowledge.{WasLeast, AtFirst, FromFirst, IsRun, Learnt, Knows}
use Rattle.harris_list_form.specs.Knowledge.IsRun.{ends}
use Rattle.harris_list_form.specs.Form.{list_form}
use Rattle.harris_list_form.proofs.Held.Places.{rank_start, rank_next, rank_named}
use Rattle.harris_list_form.proofs.Held.Links.{positive, node_of, named_link, block_named}
use Rattle.harris_list_form.proofs.Held.Sets.{object_is, min_right, none_right}
use Rattle.harris_list_form.proofs.Held.Runs.{run_more}
use Rattle.harris_list_form.proofs.Held.Least.{first_least, run_least}
use Rattle.client_lemmas.proofs.Words.{clear_from}
use Rattle.client_lemmas.proofs.Outcomes.{FedWell}

module _ (lists : Lists) (are : AreLists lists) (world : World) (sorted : AreSorted lists world) (op : Op) (since : ℕ) (code : op.code ≡ MIN) (one : (key : ℕ) → lists.start_of key ≡ lists.start_of op.key) where
  abbrev pub start : ℕ
  start = lists.start_of op.key

  is : IsPath lists world.changes (λ place. led (world.words place)) sorted.path
  is = sorted.has_path.leading

  right : (cur : ℕ) → WasLeast lists world.changes since start cur → cur ≢ 0 → RightSince (object_of lists.client) world op since (Plain (Value (node_key world.changes (cur / 4))))
  right cur was some = min_right (object_of lists.client) (object_is lists.client are.sets) world sorted.effective op since lists start cur code one was some

  -- ---- what it finds

  -- the state in which a search stays where it is over
  module _ (stay : ListSearch) (stays : Knows lists stay op world since) (cur : ℕ) (small : cur < 2 ^ 23) where
    pub reached_well : IsNamed lists world.changes start cur → WasLeast lists world.changes since start cur → FedWell (list_form lists) world op since (least_reached stay cur)
    reached_well named was = by_null (eqb cur 0) refl
      where
        by_null : (null : Bool) → eqb cur 0 ≡ null → FedWell (list_form lists) world op since (cond null (stay, Answer (Plain Empty)) (LeastKey cur, Going))
        by_null true e = (stays, (none_right (object_of lists.client) (object_is lists.client are.sets) world sorted.effective op since lists start cur code one was (eqb-true cur 0 e), tt))
        by_null false e = (record { serves = code; began = stays.began; learnt = (named, eqb-false cur 0 e, was) }, small)

    module _ (left : Left) (first : AtFirst lists world op.key left cur) where
      -- behind a run, at an unmarked node or the end
      run_well : IsRun world cur (led left.word) → (cur ≢ 0 → parity world.words (next_place cur) ≡ 0) → FedWell (list_form lists) world op since (least_met stay left true cur)
      run_well run unmarked = by_bit (is_modified left.word) refl
        where
          least : world.words left.place ≡ left.word → WasLeast lists world.changes since start cur
          least same = run_least lists are world sorted since start stays.began (are.starts op.key) cur left.word (ap world.words (sym first.place) ∙ same) first.was.named unmarked run

          by_bit : (set : Bool) → is_modified left.word ≡ set → FedWell (list_form lists) world op since (cond set (stay, Contended) (LeastUnlink left cur, Going))
          by_bit true e = (stays, tt)
          by_bit false e = (record { serves = code; began = stays.began; learnt = (first, clear_from left.word e, run, least) }, small)

      run_moved : IsRun world cur (led left.word) → FedWell (list_form lists) world op since (least_moved stay left true cur)
      run_moved run = by_null (eqb cur 0) refl
        where
          by_null : (null : Bool) → eqb cur 0 ≡ null → FedWell (list_form lists) world op since (cond null (least_met stay left true cur) (LeastNext left true cur, Going))
          by_null true e = run_well run (λ some. absurd (some (eqb-true cur 0 e)))
          by_null false e = (record { serves = code; began = stays.began; learnt = (first, eqb-false cur 0 e, run) }, small)

      first_moved : led left.word ≡ cur → ((cur ≢ 0 → parity world.words (next_place cur) ≡ 0) → WasLeast lists world.changes since start cur) → FedWell (list_form lists) world op since (least_moved stay left false cur)
      first_moved leads least = by_null (eqb cur 0) refl
        where
          by_null : (null : Bool) → eqb cur 0 ≡ null → FedWell (list_form lists) world op since (cond null (least_reached stay cur) (LeastNext left false cur, Going))
          by_null true e = reached_well first.was.named (least (λ some. absurd (some (eqb-true cur 0 e))))
          by_null false e = (record { serves = code; began = stays.began; learnt = (first, eqb-false cur 0 e, (leads, λ even. least (λ some. even))) }, small)

  -- ---- what it learns from a load

  pub least_started : (begin : ℕ) → Knows lists (LeastStart begin) op world since
      → FedWell (list_form lists) world op since (least_moved (LeastStart begin) (record { place = begin; word = world.words begin }) false (led (world.words begin)))
  least_started begin knows = subst Starts (sym knows.learnt) at_start knows
    where
      Starts : ℕ → Type 0
      Starts place =
          Knows lists (LeastStart place) op world since
          → FedWell (list_form lists) world op since (least_moved (LeastStart place) (record { place = place; word = world.words place }) false (led (world.words place)))

      at_start : Starts start
      at_start stays =
          let link : IsLink lists world.changes start start = inl (are.starts op.key, refl) in
          let rank = rank_start world.changes start (are.within start (are.starts op.key)) in
          first_moved (LeastStart start) stays (led (world.words start)) (omega (arith, value_below (world.words start))) (record { place = start; word = world.words start })
          (record {
            place = refl;
            at = record { link = link; below = omega (arith, rank); even = sorted.has_path.living.starts start (are.starts op.key); seen = λ clear. inl refl };
            was = record { named = is.leads start start link; behind = is.rises start start link };
          })
          refl (first_least lists are world sorted since start stays.began (are.starts op.key))

  pub least_nexted : (left : Left) (run : Bool) (cur : ℕ) → cur < 2 ^ 23 → Knows lists (LeastNext left run cur) op world since
      → FedWell (list_form lists) world op since (met_least (LeastNext left run cur) left run cur (world.words (next_place cur)))
  least_nexted left run cur small knows = by_mark (is_marked (world.words (next_place cur))) refl
    where
      l : Learnt lists world op.key since (LeastNext left run cur)
      l = knows.learnt

      link : IsLink lists world.changes start (next_place cur)
      link = named_link lists are world sorted start cur l.0.was.named l.1

      rank : place_rank world.changes (next_place cur) ≡ rank_of world.changes cur
      rank =
          let node = node_of lists are world sorted start cur l.0.was.named l.1 in
          ap (λ r. place_rank world.changes (next_place r)) node.2 ∙ rank_next world.changes node.0 (positive lists are world sorted node.0 node.1.node)
          ∙ sym (ap (rank_of world.changes) node.2 ∙ rank_named world.changes node.0)

      -- the run begins at a marked node, or goes on over it
      longer : parity world.words (next_place cur) ≡ 1 → IsRun world (led (world.words (next_place cur))) (led left.word)
      longer odd =
          let node = node_of lists are world sorted start cur l.0.was.named l.1 in
          let at : next_place cur ≡ next_at node.0 = ap next_place node.2 in
          subst (λ p. IsRun world (led (world.words p)) (led left.word)) (sym at) (by_run run l.2 (sym (ap (parity world.words) at) ∙ odd))
        where
          by_run : (run : Bool) → FromFirst lists world op.key since left cur run
              → parity world.words (next_at (node_of lists are world sorted start cur l.0.was.named l.1).0) ≡ 1
              → IsRun world (led (world.words (next_at (node_of lists are world sorted start cur l.0.was.named l.1).0))) (led left.word)
          by_run true is_run odd' = let node = node_of lists are world sorted start cur l.0.was.named l.1 in run_more world cur (led left.word) node.0 node.2 node.1.node odd' is_run
          by_run false direct odd' = let node = node_of lists are world sorted start cur l.0.was.named l.1 in ends node.0 (direct.0 ∙ node.2) node.1.node odd' refl

      met : parity world.words (next_place cur) ≡ 0 → (run : Bool) → FromFirst lists world op.key since left cur run → FedWell (list_form lists) world op since (least_met (LeastNext left run cur) left run cur)
      met even true is_run = run_well (LeastNext left true cur) (record { serves = code; began = knows.began; learnt = (l.0, l.1, is_run) }) cur small left l.0 is_run (λ some. even)
      met even false direct = reached_well (LeastNext left false cur) (record { serves = code; began = knows.began; learnt = (l.0, l.1, direct) }) cur small l.0.was.named (direct.1 even)

      by_mark : (marked : Bool) → is_marked (world.words (next_place cur)) ≡ marked
          → FedWell (list_form lists) world op since (cond marked (least_moved (LeastNext left run cur) left true (led (world.words (next_place cur)))) (least_met (LeastNext left run cur) left run cur))
      by_mark true e =
          run_moved (LeastNext left run cur) knows (led (world.words (next_place cur))) (omega (arith, value_below (world.words (next_place cur)))) left
          (record { place = l.0.place; at = l.0.at; was = record { named = is.leads start (next_place cur) link; behind = omega (arith, l.0.was.behind, rank, is.rises start (next_place cur) link) } })
          (longer (eqb-true (parity world.words (next_place cur)) 1 e))
      by_mark false e = met (omega (arith, eqb-false (parity world.words (next_place cur)) 1 e)) run l.2

  pub least_keyed : (cur : ℕ) → Knows lists (LeastKey cur) op world since → FedWell (list_form lists) world op since (least_told (LeastKey cur) (world.words (key_place cur)))
  least_keyed cur knows =
      let l : Learnt lists world op.key since (LeastKey cur) = knows.learnt in
      let node = node_of lists are world sorted start cur l.0 l.1 in
      let stored = sorted.stored node.0 node.1.node in
      let loaded : world.words (key_place cur) ≡ node_key world.changes node.0 = ap (λ r. world.words (key_place r)) node.2 ∙ stored.keyed in
      let key : node_key world.changes (cur / 4) ≡ key_in (world.words (key_place cur)) = omega (arith, loaded, stored.limit, ap (node_key world.changes) (block_named cur node.0 node.2)) in
      (knows, (subst (λ k. RightSince (object_of lists.client) world op since (Plain (Value k))) key (right cur l.2 l.1), tt))
