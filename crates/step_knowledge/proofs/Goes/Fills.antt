-- The stores that fill the block of an own list all stand, each at another place, and then the block is filled for the list.
use Rattle.std.proofs.Common.{◌≡◌, ◌≢◌, ◌∙◌, refl, sym, subst, ap, ℕ, suc, ◌+◌, ◌<◌, ◌==◌, if◌then◌else◌, Bool, true, false, List, [], ◌∷◌, length, slice_get, Option, Some, All, inl, inr, arith}
use Rattle.std.proofs.lemmas.Bool.{cases_eq}
use Rattle.std.proofs.lemmas.Bool.Decides.{nat_tests}
use Rattle.std.proofs.lemmas.List.Elements.{All-nil, All-cons}
use Rattle.std.proofs.lemmas.Option.{slice_get_within}
use Rattle.arrayvec.specs.ArrayVec.{ArrayVec}
use Rattle.normal_traits.specs.World.{Called, Listed, World}
use Rattle.normal_traits.specs.NormalForm.{NormalForm}
use Rattle.normal_traits.specs.Steps.{IsFilled, put_word}
use Rattle.normal_traits.specs.Laws.{Laws}
use Rattle.normal_traits.proofs.Stays.{word_beside, word_put}
use Rattle.cas_executor.specs.FastRuns.{FastWalk}
use Rattle.fast_slow_engine.specs.declared.phases.Phase.TheVariants.{Apply}
use Rattle.fast_slow_engine.specs.declared.phases.Applying.TheVariants.{Fill, Execute}
use Rattle.fast_slow_engine.specs.Mechs.{Mech}
use Rattle.fast_slow_engine.specs.OfferStores.{own_stores}
use Rattle.fast_slow_engine.specs.PhaseTable.{in_phase}
use Rattle.offered_blocks.specs.Blocks.{Offer}
use Rattle.cas_executor_laws.proofs.Sets.{some_same}
use Rattle.helper_knowledge.specs.Callers.{Caller}
use Rattle.run_world.specs.Ghosts.{Held}
use Rattle.run_world.specs.Lists.{IsOffering}
use Rattle.step_knowledge.specs.Known.{IsStillOffered, KnowsFill, KnowsRun, NoneFrom, Stands}
use Rattle.step_knowledge.proofs.Goes.Searches.{Knows}
use Rattle.step_knowledge.proofs.OfKinds.OwnStores.{filling, held_offer}
use Rattle.step_knowledge.proofs.Goes.OwnPlaces.{own_places}

-- the first stores of a list stand
abbrev pub FirstStand : List (ℕ × ℕ) → ℕ → World → Type 0
FirstStand items made world = (k : ℕ) (store : ℕ × ℕ) → k < made → slice_get items k ≡ Some store → Stands world store

-- a further store stands beside the earlier ones
pub more_stand : (items : List (ℕ × ℕ)) (made : ℕ) (store : ℕ × ℕ) (world : World) → ((i j : ℕ) (s t : ℕ × ℕ) → slice_get items i ≡ Some s → slice_get items j ≡ Some t → s.0 ≡ t.0 → i ≡ j)
    → slice_get items made ≡ Some store → FirstStand items made world → FirstStand items (made + 1) (put_word store.0 store.1 world)
more_stand items made store world own at stood k other less found =
    elim (cases_eq k made) [
      | inl same ↦
          let one : store ≡ other = some_same store other (sym at ∙ ap (slice_get items) (sym same) ∙ found) in
          subst (Stands (put_word store.0 store.1 world)) one (word_put store.0 store.1 world.words store.0 refl)
      | inr differ ↦
          let beside : other.0 ≢ store.0 = λ same. differ (own k made other store found at same) in
          word_beside store.0 store.1 world.words other.0 beside ∙ stood k other (omega (arith, less, differ)) found
    ]

-- what holds at each place of a list holds of each
each_from : (P : ℕ × ℕ → Type 0) (xs : List (ℕ × ℕ)) → ((k : ℕ) (x : ℕ × ℕ) → slice_get xs k ≡ Some x → P x) → All P xs
each_from P [] f = All-nil P
each_from P (x ∷ xs) f = All-cons P x xs (f 0 x refl) (each_from P xs (λ k y at. f (suc k) y at))

-- once all stores stand, the block is filled
filled_from : (world : World) (list : Listed) (stores : List (ℕ × ℕ))
    → ((k : ℕ) (store : ℕ × ℕ) → slice_get (own_stores list.block list.call.seat list.call.number list.call.op stores) k ≡ Some store → Stands world store) → IsFilled world list stores
filled_from world list stores stood = record {
  owner = stood 0 _ refl;
  op = stood 1 _ refl;
  value = stood 2 _ refl;
  stored = each_from (Stands world) stores (λ k store at. stood (suc (suc (suc k))) store at);
}

module _ {S W : Type 0} (form : NormalForm S W) (laws : Laws form) (world after : World) (offers' : ℕ → Option (Offer S)) (callers : ℕ → Caller) (begun : ℕ) (filled : Option (Offer S)) (shape : form.shape world) where
  -- the list is filled further, or executed
  goes : (b : Bool) (run : FastWalk) (stores : ArrayVec (ℕ × ℕ)) (made since : ℕ) (held : Held S) (mech : Mech S W) → (b ≡ false → KnowsFill form after run stores (made + 1) held) → (b ≡ true → KnowsRun form after run held)
      → Knows form after offers' callers begun filled since (Some held) (in_phase (Apply run stores (if b then Execute else Fill (made + 1))) mech)
  goes true run stores made since held mech fills runs = runs refl
  goes false run stores made since held mech fills runs = fills refl

  -- what is known after a store into a block
  pub fill_knows : (run : FastWalk) (stores : ArrayVec (ℕ × ℕ)) (made since : ℕ) (held : Held S) (mech : Mech S W) (store : ℕ × ℕ) → run.next ≡ 0
      → form.needs_block mech.op ≡ true → mech.hand ≡ Some held.list.block → IsOffering form run stores mech held → KnowsFill form world run stores made held → IsStillOffered form after held
      → slice_get stores.items made ≡ Some store → after ≡ put_word store.0 store.1 world
      → Knows form after offers' callers begun filled since (Some held) (in_phase (Apply run stores (if made + 1 == length stores.items then Execute else Fill (made + 1))) mech)
  fill_knows run stores made since held mech store first_th needs hand offering known still at is =
      let list = held.list in
      let items = (form.offer_of held.offering list.call.op list.block).stores in
      let offer = held_offer form laws world shape held known.offered in
      let fills = filling form laws world shape run stores mech held needs hand offering in
      let own : (i j : ℕ) (s t : ℕ × ℕ) → slice_get stores.items i ≡ Some s → slice_get stores.items j ≡ Some t → s.0 ≡ t.0 → i ≡ j =
      subst (λ (l : List (ℕ × ℕ)). (i j : ℕ) (s t : ℕ × ℕ) → slice_get l i ≡ Some s → slice_get l j ≡ Some t → s.0 ≡ t.0 → i ≡ j) (sym fills)
      (own_places form list.block mech.seat mech.number mech.op items offer.stores offer.distinct) in
      let stood : FirstStand stores.items (made + 1) after = subst (FirstStand stores.items (made + 1)) (sym is) (more_stand stores.items made store world own at known.stored) in
      let fresh : NoneFrom after list.identity 0 = subst (λ (w : World). NoneFrom w list.identity 0) (sym is) (λ other j same least took. known.fresh other j same (record { entry = took.entry; cause = took.cause; listed = took.listed; won = took.won })) in
      goes (made + 1 == length stores.items) run stores made since held mech
      (λ more. record { offered = still; running = known.running; within = (let least = known.within in grind (arith, nat_tests, more, least)); stored = stood; fresh = λ other j same took. fresh other j same (omega arith) took })
      (λ last. record {
        offered = still;
        running = known.running;
        filled = λ first some.
            (let ends : made + 1 ≡ length stores.items = grind (arith, nat_tests, last) in
            let all : stores.items ≡ own_stores list.block list.call.seat list.call.number list.call.op items = fills ∙ ap (λ (c : Called). own_stores list.block c.seat c.number c.op items) (sym offering.held_by.call) in
            filled_from after list items (λ k s found.
            (let here : slice_get stores.items k ≡ Some s = ap (λ (l : List (ℕ × ℕ)). slice_get l k) all ∙ found in
            let inside = slice_get_within stores.items k s here in
            stood k s (omega (arith, inside, ends)) here)));
        took = λ j below within. absurd (omega (arith, below, first_th));
        none = λ other j same least took. fresh other j same (omega arith) took;
      })
