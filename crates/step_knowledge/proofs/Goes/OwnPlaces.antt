-- The stores of an own list are at different places, so a later one overwrites none of the earlier.
use Rattle.std.proofs.Common.{◌≡◌, ◌≢◌, ◌∙◌, sym, subst, ℕ, ◌<◌, List, ◌∷◌, slice_get, Some, All, AllPairs, inl, inr, arith}
use Rattle.std.specs.Prelude.{get_or}
use Rattle.std.proofs.lemmas.Bool.{cases_eq, cases_lt}
use Rattle.std.proofs.lemmas.Option.{get_or_from_slice_get, slice_get_within}
use Rattle.lin_report.specs.declared.calls.Op.{Op}
use Rattle.word_fields.specs.Announced.{op_word, value_word}
use Rattle.word_fields.specs.Owners.{owner_word}
use Rattle.node_arena.specs.declared.places.TheConstants.{OWNER_FIELD, OP_FIELD, VALUE_FIELD}
use Rattle.node_arena.specs.MemoryMap.{block_place}
use Rattle.node_arena.proofs.PlacesApart.{same_field}
use Rattle.normal_traits.specs.NormalForm.{NormalForm}
use Rattle.normal_traits.specs.Laws.{IsGoodStore}
use Rattle.normal_traits.proofs.Stays.{all_at}
use Rattle.fast_slow_engine.specs.OfferStores.{own_stores}
use Rattle.move_kinds.proofs.Stores.Into.{Each, each_more}
use Rattle.move_kinds.proofs.Stores.Places.{OwnPlaces, own_more}

-- the client's stores are
pairs_own : (stores : List (ℕ × ℕ)) → AllPairs (λ (a b : ℕ × ℕ). a.0 ≢ b.0) stores → OwnPlaces stores
pairs_own stores distinct i j first second at at' same =
    elim (cases_lt i j) [
      | inl before ↦ absurd (apart_at i j first second before at at' same)
      | inr rest ↦ elim (cases_eq i j) [ inl equal ↦ equal | inr other ↦ absurd (apart_at j i second first (omega (arith, rest, other)) at' at (sym same)) ]
    ]
  where
    apart_at : (i j : ℕ) (first second : ℕ × ℕ) → i < j → slice_get stores i ≡ Some first → slice_get stores j ≡ Some second → first.0 ≢ second.0
    apart_at i j first second before at at' =
        let pair = distinct i j first before (slice_get_within stores j second at') in
        subst (λ (e : ℕ × ℕ). e.0 ≢ second.0) (get_or_from_slice_get stores i first first at)
        (subst (λ (e : ℕ × ℕ). (get_or stores i first).0 ≢ e.0) (get_or_from_slice_get stores j second first at') pair)

module _ {S W : Type 0} (form : NormalForm S W) (block seat number : ℕ) (op : Op) (stores : List (ℕ × ℕ)) (good : All (IsGoodStore form block) stores) where
  abbrev owner : ℕ × ℕ
  owner = (block_place block OWNER_FIELD, owner_word seat number)

  abbrev announced : ℕ × ℕ
  announced = (block_place block OP_FIELD, op_word op.code number op.key)

  abbrev value : ℕ × ℕ
  value = (block_place block VALUE_FIELD, value_word number op.value)

  fields_apart : (field other : ℕ) → field < 32 → other < 32 → field ≢ other → block_place block field ≢ block_place block other
  fields_apart field other small small' apart same = apart (same_field block field block other small small' same)

  -- those of the client are behind the notes
  behind : (field : ℕ) → field < 12 → Each (λ (y : ℕ × ℕ). y.0 ≢ block_place block field) stores
  behind field small k store at same =
      let is = all_at (IsGoodStore form block) stores k store good at in
      let far = is.behind in
      let one : is.field ≡ field = same_field block is.field block field is.within (omega (arith, small)) (sym is.place ∙ same) in
      absurd (omega (arith, one, small, far))

  pub own_places : AllPairs (λ (a b : ℕ × ℕ). a.0 ≢ b.0) stores → OwnPlaces (own_stores block seat number op stores)
  own_places distinct =
      own_more owner (announced ∷ value ∷ stores)
      (each_more (λ (y : ℕ × ℕ). y.0 ≢ owner.0) announced (value ∷ stores) (fields_apart OP_FIELD OWNER_FIELD (omega arith) (omega arith) (λ e. absurd (omega (arith, e))))
      (each_more (λ (y : ℕ × ℕ). y.0 ≢ owner.0) value stores (fields_apart VALUE_FIELD OWNER_FIELD (omega arith) (omega arith) (λ e. absurd (omega (arith, e)))) (behind OWNER_FIELD (omega arith))))
      (own_more announced (value ∷ stores)
      (each_more (λ (y : ℕ × ℕ). y.0 ≢ announced.0) value stores (fields_apart VALUE_FIELD OP_FIELD (omega arith) (omega arith) (λ e. absurd (omega (arith, e)))) (behind OP_FIELD (omega arith)))
      (own_more value stores (behind VALUE_FIELD (omega arith)) (pairs_own stores distinct)))
