-- Why a search in a list gives up, and what is true of the list that it names.
use Rattle.std.proofs.Common.{◌≡◌, ◌≢◌, ℕ, ◌+◌, ◌*◌, ◌^◌, ◌<◌, Bool, true, false, cond, eqb, leb, ◌||◌, [], ◌∷◌, refl, sym, ap, ◌∙◌, subst, inl, inr, ◌⊎◌, arith}
use Rattle.std.specs.Prelude.{IsTrue}
use Rattle.std.proofs.lemmas.Bool.{false≢true, eqb-true, cond-true, cond-false, or_left, or_right, or_cases, eq-eqb}
use Rattle.std.proofs.lemmas.List.Elements.{All-nil, All-cons}
use Rattle.std.proofs.lemmas.List.Kept.{AllPairs-cons}
use Rattle.lin_report.specs.declared.calls.Op.{Op}
use Rattle.lin_report.specs.declared.calls.Reply.TheVariants.{Empty}
use Rattle.lin_report.specs.declared.calls.Outcome.TheVariants.{Plain}
use Rattle.lin_report.specs.declared.calls.TheConstants.{ADD, DEL}
use Rattle.lin_report.specs.Commands.{KEY_LIMIT, may_exhaust}
use Rattle.step_memory.specs.declared.steps.Seen.{Seen}
use Rattle.word_fields.specs.Versioned.{versioned_bit, is_modified, value_below}
use Rattle.node_arena.specs.declared.places.TheConstants.{NODE_KEY, NODE_NEXT}
use Rattle.node_arena.specs.MemoryMap.{reference_to}
use Rattle.node_arena.proofs.PlacesApart.{node_place-reference_to}
use Rattle.normal_traits.specs.declared.form.Found.{Found}
use Rattle.normal_traits.specs.declared.form.Found.TheVariants.{Going, Ready, Answer, Contended}
use Rattle.normal_traits.specs.declared.lists.Entry.{Entry}
use Rattle.normal_traits.specs.World.{World}
use Rattle.normal_traits.specs.Laws.{MayContend, IsGoodEntry, IsGoodStore, IsGoodOffer}
use Rattle.harris_list_form.specs.declared.states.Aim.{Aim}
use Rattle.harris_list_form.specs.declared.states.Aim.TheVariants.{Add, Del, Has}
use Rattle.harris_list_form.specs.declared.states.Sought.{Sought}
use Rattle.harris_list_form.specs.declared.states.Left.{Left}
use Rattle.harris_list_form.specs.declared.states.ListSearch.{ListSearch}
use Rattle.harris_list_form.specs.declared.states.ListSearch.TheVariants.{Start, Next, Key, Unlink, AddReady, DelReady, LeastStart, LeastNext, LeastUnlink, LeastKey}
use Rattle.harris_list_form.specs.Lists.{Lists, AreLists}
use Rattle.harris_list_form.specs.Least.{least_reached, least_met, least_moved}
use Rattle.harris_list_form.specs.Search.{is_add, may_list, led, is_marked, leading, marking, next_place, decided_absent, decided_found, decided, finished, moved_on, fed, IsReady, offered, add_offer, del_offer}
use Rattle.harris_list_form.specs.Nodes.{next_at, key_at, place_rank, rank_of}
use Rattle.harris_list_form.specs.Shape.{AreSorted}
use Rattle.harris_list_form.specs.Knowledge.{Learnt, Serves}
use Rattle.harris_list_form.specs.Form.{list_form}
use Rattle.harris_list_form.proofs.Held.Places.{key_is, next_is, rank_next, rank_named}
use Rattle.harris_list_form.proofs.Held.Links.{positive, link_word, link_versioned, node_of, named_link}
use Rattle.harris_list_form.proofs.Held.Entries.{adds_is}
use Rattle.client_lemmas.proofs.Offers.{may_exhaust_at, one_entry, two_apart}
use Rattle.client_lemmas.proofs.Outcomes.{gives_up, either}

-- ---- giving up

abbrev gives : ListSearch × Found → Bool
gives result = gives_up result.1

module _ (stay : ListSearch) (left : Left) (cur next : ℕ) where
  absent_gives : (aim : Aim) → gives (decided_absent stay aim left cur) ≡ true → versioned_bit left.word ≡ 1
  absent_gives Add up = by_bit (is_modified left.word) refl up
    where
      by_bit : (set : Bool) → is_modified left.word ≡ set → gives (cond set (stay, Contended) (AddReady left cur, Ready)) ≡ true → versioned_bit left.word ≡ 1
      by_bit true e is = eqb-true (versioned_bit left.word) 1 e
      by_bit false e is = absurd (false≢true is)
  absent_gives Del up = absurd (false≢true up)
  absent_gives Has up = absurd (false≢true up)

  found_gives : (aim : Aim) → gives (decided_found stay aim left cur next) ≡ true → (versioned_bit left.word ≡ 1) ⊎ (versioned_bit next ≡ 1)
  found_gives Add up = absurd (false≢true up)
  found_gives Del up = by_bit (is_modified left.word || is_modified next) refl up
    where
      which : (is_modified left.word ≡ true) ⊎ (is_modified next ≡ true) → (versioned_bit left.word ≡ 1) ⊎ (versioned_bit next ≡ 1)
      which (inl e) = inl (eqb-true (versioned_bit left.word) 1 e)
      which (inr e) = inr (eqb-true (versioned_bit next) 1 e)

      by_bit : (set : Bool) → (is_modified left.word || is_modified next) ≡ set → gives (cond set (stay, Contended) (DelReady left cur next, Ready)) ≡ true → (versioned_bit left.word ≡ 1) ⊎ (versioned_bit next ≡ 1)
      by_bit true e is = which (or_cases (is_modified left.word) (is_modified next) e)
      by_bit false e is = absurd (false≢true is)
  found_gives Has up = absurd (false≢true up)

  decided_gives : (sought : Sought) (found : Bool) → gives (decided stay sought left cur next found) ≡ true → (versioned_bit left.word ≡ 1) ⊎ ((found ≡ true) × (versioned_bit next ≡ 1))
  decided_gives sought true up = by_which (found_gives sought.aim up)
    where
      by_which : (versioned_bit left.word ≡ 1) ⊎ (versioned_bit next ≡ 1) → (versioned_bit left.word ≡ 1) ⊎ ((true ≡ true) × (versioned_bit next ≡ 1))
      by_which (inl e) = inl e
      by_which (inr e) = inr (refl, e)
  decided_gives sought false up = inl (absent_gives sought.aim up)

  finished_gives : (sought : Sought) (run found : Bool) → gives (finished stay sought left run cur next found) ≡ true → (versioned_bit left.word ≡ 1) ⊎ ((found ≡ true) × (versioned_bit next ≡ 1))
  finished_gives sought true found up = by_bit (is_modified left.word) refl up
    where
      by_bit : (set : Bool) → is_modified left.word ≡ set → gives (cond set (stay, Contended) (Unlink sought left cur next found, Going)) ≡ true → (versioned_bit left.word ≡ 1) ⊎ ((found ≡ true) × (versioned_bit next ≡ 1))
      by_bit true e is = inl (eqb-true (versioned_bit left.word) 1 e)
      by_bit false e is = absurd (false≢true is)
  finished_gives sought false found up = decided_gives sought found up

moved_gives : (stay : ListSearch) (sought : Sought) (left : Left) (run : Bool) (cur : ℕ) → gives (moved_on stay sought left run cur) ≡ true → versioned_bit left.word ≡ 1
moved_gives stay sought left run cur up = by_null (eqb cur 0) up
  where
    by_which : (versioned_bit left.word ≡ 1) ⊎ ((false ≡ true) × (versioned_bit 0 ≡ 1)) → versioned_bit left.word ≡ 1
    by_which (inl e) = e
    by_which (inr e) = absurd (false≢true e.0)

    by_null : (null : Bool) → gives (cond null (finished stay sought left run cur 0 false) (Next sought left run cur, Going)) ≡ true → versioned_bit left.word ≡ 1
    by_null true is = by_which (finished_gives stay left cur 0 sought run false is)
    by_null false is = absurd (false≢true is)

-- on the way to the least key
reached_goes : (stay : ListSearch) (cur : ℕ) → gives (least_reached stay cur) ≡ false
reached_goes stay cur = either (λ result. gives result ≡ false) (eqb cur 0) (stay, Answer (Plain Empty)) (LeastKey cur, Going) refl refl

least_gives : (stay : ListSearch) (left : Left) (run : Bool) (cur : ℕ) → gives (least_met stay left run cur) ≡ true → (run ≡ true) × (versioned_bit left.word ≡ 1)
least_gives stay left true cur up = (refl, by_bit (is_modified left.word) refl up)
  where
    by_bit : (set : Bool) → is_modified left.word ≡ set → gives (cond set (stay, Contended) (LeastUnlink left cur, Going)) ≡ true → versioned_bit left.word ≡ 1
    by_bit true e is = eqb-true (versioned_bit left.word) 1 e
    by_bit false e is = absurd (false≢true is)
least_gives stay left false cur up = absurd (false≢true (sym (reached_goes stay cur) ∙ up))

least_moved_gives : (stay : ListSearch) (left : Left) (run : Bool) (cur : ℕ) → gives (least_moved stay left run cur) ≡ true → (run ≡ true) × (versioned_bit left.word ≡ 1)
least_moved_gives stay left run cur up = by_null (eqb cur 0) up
  where
    by_null : (null : Bool) → gives (cond null (least_met stay left run cur) (LeastNext left run cur, Going)) ≡ true → (run ≡ true) × (versioned_bit left.word ≡ 1)
    by_null true is = least_gives stay left run cur is
    by_null false is = absurd (false≢true is)

module _ (lists : Lists) where
  pub contends : (searched : ListSearch) (seen : Seen) → (fed searched seen).1 ≡ Contended → MayContend (list_form lists) searched seen
  contends (Start sought start) seen e =
      inl (seen.before, refl, moved_gives (Start sought start) sought (record { place = start; word = seen.before }) false (led seen.before) (ap gives_up e))
  contends (Next sought left run cur) seen e = by_mark (is_marked seen.before) (ap gives_up e)
    where
      by_mark : (marked : Bool) → gives (cond marked (moved_on (Next sought left run cur) sought left true (led seen.before)) (Key sought left run cur seen.before, Going)) ≡ true
          → MayContend (list_form lists) (Next sought left run cur) seen
      by_mark true up = inl (left.word, refl, moved_gives (Next sought left run cur) sought left true (led seen.before) up)
      by_mark false up = absurd (false≢true up)
  contends (Key sought left run cur next) seen e = by_order (leb sought.key seen.before) (ap gives_up e)
    where
      by_which : (found : Bool) → (versioned_bit left.word ≡ 1) ⊎ ((found ≡ true) × (versioned_bit next ≡ 1)) → MayContend (list_form lists) (Key sought left run cur next) seen
      by_which found (inl set) = inl (left.word, inl refl, set)
      by_which found (inr set) = inl (next, inr refl, set.1)

      by_order : (high : Bool)
          → gives (cond high (finished (Key sought left run cur next) sought left run cur next (eqb seen.before sought.key)) (moved_on (Key sought left run cur next) sought (record { place = next_place cur; word = next }) false (led next))) ≡ true
          → MayContend (list_form lists) (Key sought left run cur next) seen
      by_order true up = by_which (eqb seen.before sought.key) (finished_gives (Key sought left run cur next) left cur next sought run (eqb seen.before sought.key) up)
      by_order false up = inl (next, inr refl, moved_gives (Key sought left run cur next) sought (record { place = next_place cur; word = next }) false (led next) up)
  contends (Unlink sought left cur next found) seen e = by_won seen.won refl (ap gives_up e)
    where
      by_which : (versioned_bit (leading left.word cur) ≡ 1) ⊎ ((found ≡ true) × (versioned_bit next ≡ 1)) → MayContend (list_form lists) (Unlink sought left cur next found) seen
      by_which (inl set) = inl (leading left.word cur, inl refl, set)
      by_which (inr set) = inl (next, inr refl, set.1)

      by_won : (won : Bool) → seen.won ≡ won
          → gives (cond won (decided (Unlink sought left cur next found) sought (record { place = left.place; word = leading left.word cur }) cur next found) (Unlink sought left cur next found, Contended)) ≡ true
          → MayContend (list_form lists) (Unlink sought left cur next found) seen
      by_won true is up = by_which (decided_gives (Unlink sought left cur next found) (record { place = left.place; word = leading left.word cur }) cur next sought found up)
      by_won false is up = inr (inl (left.place, left.word, leading left.word cur, refl, is))
  contends (LeastStart start) seen e =
      absurd (false≢true (least_moved_gives (LeastStart start) (record { place = start; word = seen.before }) false (led seen.before) (ap gives_up e)).0)
  contends (LeastNext left run cur) seen e = inl (left.word, refl, by_mark (is_marked seen.before) (ap gives_up e))
    where
      by_mark : (marked : Bool) → gives (cond marked (least_moved (LeastNext left run cur) left true (led seen.before)) (least_met (LeastNext left run cur) left run cur)) ≡ true → versioned_bit left.word ≡ 1
      by_mark true up = (least_moved_gives (LeastNext left run cur) left true (led seen.before) up).1
      by_mark false up = (least_gives (LeastNext left run cur) left run cur up).1
  contends (LeastUnlink left cur) seen e = by_won seen.won refl (ap gives_up e)
    where
      by_won : (won : Bool) → seen.won ≡ won → gives (cond won (least_reached (LeastUnlink left cur) cur) (LeastUnlink left cur, Contended)) ≡ true → MayContend (list_form lists) (LeastUnlink left cur) seen
      by_won true is up = absurd (false≢true (sym (reached_goes (LeastUnlink left cur) cur) ∙ up))
      by_won false is up = inr (inl (left.place, left.word, leading left.word cur, refl, is))
  contends (LeastKey cur) seen e = absurd (false≢true (ap gives_up e))
  contends (AddReady left cur) seen e = absurd (false≢true (ap gives_up e))
  contends (DelReady left cur next) seen e = absurd (false≢true (ap gives_up e))

-- ---- the list

pub lists_well : (searched : ListSearch) (op : Op) → IsReady searched → Serves searched op → IsTrue (may_list op) × IsTrue (may_exhaust op)
lists_well (AddReady left cur) op ready serves = (or_left (eqb op.code ADD) (eqb op.code DEL) (eq-eqb op.code ADD serves), may_exhaust_at op ADD serves refl)
lists_well (DelReady left cur next) op ready serves = (or_right (eqb op.code ADD) (eqb op.code DEL) (eq-eqb op.code DEL serves), may_exhaust_at op DEL serves refl)
lists_well _ op ready serves = absurd ready

-- only an add's list uses the block
pub same_entries : (searched : ListSearch) (op : Op) (block other : ℕ) → is_add op ≡ false → (offered searched op block).entries ≡ (offered searched op other).entries
same_entries (AddReady left cur) op block other del =
    ap (λ b. (add_offer left cur op.key b).entries) (cond-false (is_add op) block 0 del ∙ sym (cond-false (is_add op) other 0 del))
same_entries _ op block other del = refl

module _ (lists : Lists) (are : AreLists lists) (world : World) (sorted : AreSorted lists world) where
  pub add_offers : (key since : ℕ) (left : Left) (cur block : ℕ) → Learnt lists world key since (AddReady left cur) → cur < 2 ^ 23 → key < KEY_LIMIT → block < 2 ^ 17 → IsGoodOffer (list_form lists) world block (add_offer left cur key block)
  add_offers key since left cur block l fits limit small =
      one_entry (list_form lists) world block (record { target = left.place; from = left.word; to = leading left.word (reference_to block 1) }) ((key_at block, key) ∷ (next_at block, 2 * cur) ∷ [])
      (record {
        word = link_word lists are world sorted (lists.start_of key) left.place l.0.link;
        versioned = link_versioned lists are world sorted (lists.start_of key) left.place l.0.link;
        listable = link_versioned lists are world sorted (lists.start_of key) left.place l.0.link;
        clear = l.2;
        seen = l.0.seen;
        changed = (2 * reference_to block 1, omega (arith, small), refl);
      })
      (All-cons (IsGoodStore (list_form lists) block) (key_at block, key) ((next_at block, 2 * cur) ∷ [])
      (record {
        field = 12;
        behind = omega arith;
        within = omega arith;
        place = node_place-reference_to block 1 NODE_KEY (omega arith) (omega arith);
        word = omega (arith, limit);
        versioned = λ is. omega (arith, limit);
      })
      (All-cons (IsGoodStore (list_form lists) block) (next_at block, 2 * cur) []
      (record {
        field = 14;
        behind = omega arith;
        within = omega arith;
        place = node_place-reference_to block 1 NODE_NEXT (omega arith) (omega arith);
        word = omega (arith, fits);
        versioned = λ is. omega (arith, fits);
      })
      (All-nil (IsGoodStore (list_form lists) block))))
      (two_apart (key_at block, key) (next_at block, 2 * cur) (λ e. omega (arith, e, key_is block, next_is block))) (omega arith)

  -- the two places of a del differ: the left one's rank is lower
  del_apart : (key since : ℕ) (left : Left) (cur next : ℕ) → Learnt lists world key since (DelReady left cur next) → next_place cur ≢ left.place
  del_apart key since left cur next l e =
      let node = node_of lists are world sorted (lists.start_of key) cur l.1.named l.5.some in
      omega (
        arith,
        ap (place_rank world.changes) (sym e ∙ ap next_place node.2),
        rank_next world.changes node.0 (positive lists are world sorted node.0 node.1.node),
        ap (rank_of world.changes) node.2,
        rank_named world.changes node.0,
        l.1.behind,
      )

  pub del_offers : (key since : ℕ) (left : Left) (cur next block : ℕ) → Learnt lists world key since (DelReady left cur next) → IsGoodOffer (list_form lists) world block (del_offer left cur next)
  del_offers key since left cur next block l =
      let link = named_link lists are world sorted (lists.start_of key) cur l.1.named l.5.some in
      record {
        some = omega arith;
        few = omega arith;
        entries = All-cons (IsGoodEntry (list_form lists) world) (record { target = next_place cur; from = next; to = marking next })
            (record { target = left.place; from = left.word; to = leading left.word (led next) } ∷ [])
            (record {
              word = link_word lists are world sorted (lists.start_of key) (next_place cur) link;
              versioned = link_versioned lists are world sorted (lists.start_of key) (next_place cur) link;
              listable = link_versioned lists are world sorted (lists.start_of key) (next_place cur) link;
              clear = l.6;
              seen = l.5.seen;
              changed = (2 * led next + 1, omega (arith, value_below next), refl);
            })
            (All-cons (IsGoodEntry (list_form lists) world) (record { target = left.place; from = left.word; to = leading left.word (led next) }) []
            (record {
              word = link_word lists are world sorted (lists.start_of key) left.place l.0.link;
              versioned = link_versioned lists are world sorted (lists.start_of key) left.place l.0.link;
              listable = link_versioned lists are world sorted (lists.start_of key) left.place l.0.link;
              clear = l.2;
              seen = l.0.seen;
              changed = (2 * led next, omega (arith, value_below next), refl);
            })
            (All-nil (IsGoodEntry (list_form lists) world)));
        apart = AllPairs-cons (λ (a b : Entry). a.target ≢ b.target) (record { target = next_place cur; from = next; to = marking next })
            (record { target = left.place; from = left.word; to = leading left.word (led next) } ∷ [])
            (All-cons (λ (b : Entry). next_place cur ≢ b.target) (record { target = left.place; from = left.word; to = leading left.word (led next) }) [] (del_apart key since left cur next l)
            (All-nil (λ (b : Entry). next_place cur ≢ b.target)))
            (λ i j d order low. absurd (omega (arith, order, low)));
        stores = All-nil (IsGoodStore (list_form lists) block);
        distinct = λ i j d order low. absurd (omega (arith, order, low));
        count = omega arith;
      }

  pub offers : (searched : ListSearch) (op : Op) (since block : ℕ) → op.key < KEY_LIMIT → Serves searched op → Learnt lists world op.key since searched → IsReady searched → block < 2 ^ 17
      → IsGoodOffer (list_form lists) world block (offered searched op block)
  offers (AddReady left cur) op since block limit serves l ready small =
      subst (IsGoodOffer (list_form lists) world block) (sym (ap (add_offer left cur op.key) (cond-true (is_add op) block 0 (adds_is op serves))))
      (add_offers op.key since left cur block l ready limit small)
  offers (DelReady left cur next) op since block limit serves l ready small = del_offers op.key since left cur next block l
  offers _ op since block limit serves l ready small = absurd ready
