-- So it is with all stores of a good offer, its notes and its entries.
use Rattle.std.proofs.Common.{◌≡◌, ◌≢◌, ◌∙◌, refl, sym, subst, ℕ, ◌+◌, ◌<◌, ◌≤◌, ◌⊎◌, List, [], ◌∷◌, ◌++◌, length, slice_get, Option, Some, None, AllPairs, inl, inr, arith}
use Rattle.std.specs.Prelude.{get_or}
use Rattle.std.proofs.lemmas.Bool.{cases_eq, cases_lt}
use Rattle.std.proofs.lemmas.Option.{slice_get_within, get_or_from_slice_get}
use Rattle.lin_report.specs.declared.calls.Op.{Op}
use Rattle.word_fields.specs.Announced.{op_word, value_word}
use Rattle.word_fields.specs.Owners.{owner_word}
use Rattle.node_arena.specs.MemoryMap.{block_place}
use Rattle.node_arena.proofs.PlacesApart.{same_field}
use Rattle.normal_traits.specs.declared.lists.Entry.{Entry}
use Rattle.normal_traits.specs.World.{World}
use Rattle.normal_traits.specs.NormalForm.{NormalForm, Offered}
use Rattle.normal_traits.specs.Laws.{IsGoodOffer, IsGoodStore}
use Rattle.normal_traits.proofs.Stays.{all_at}
use Rattle.fast_slow_engine.specs.OfferStores.{entry_stores, note_stores, offer_stores}
use Rattle.offered_blocks.specs.OtherSteps.{IsStored}
use Rattle.move_kinds.proofs.Stores.Into.{Each, each_none, each_more, each_both}
use Rattle.move_kinds.proofs.Stores.Places.{IsBetween, OwnPlaces, other_field, own_both, own_more, own_none, row_between, row_own}

-- the store is into a field of the block that is of this kind
pub record HasField (block : ℕ) (F : ℕ → Type 0) (store : ℕ × ℕ) : Type 0 where
  pub field : ℕ
  pub within : field < 32
  pub is : F field
  pub place : store.0 ≡ block_place block field

fields_differ : (block : ℕ) (F G : ℕ → Type 0) → ((f g : ℕ) → F f → G g → f ≢ g) → (x y : ℕ × ℕ) → HasField block F x → HasField block G y → x.0 ≢ y.0
fields_differ block F G apart x y first second same =
    apart first.field second.field first.is second.is (same_field block first.field block second.field first.within second.within (sym first.place ∙ same ∙ second.place))

more : (block : ℕ) (F G : ℕ → Type 0) → ((f : ℕ) → F f → G f) → (xs : List (ℕ × ℕ)) → Each (HasField block F) xs → Each (HasField block G) xs
more block F G weaken xs each k x at = let is = each k x at in record { field = is.field; within = is.within; is = weaken is.field is.is; place = is.place }

abbrev Note : ℕ → Type 0
Note f = (f < 3) ⊎ (f ≡ 11)

abbrev First : ℕ → Type 0
First f = (3 ≤ f) × (f < 6)

abbrev NoteOrFirst : ℕ → Type 0
NoteOrFirst f = (f < 6) ⊎ (f ≡ 11)

abbrev Second : ℕ → Type 0
Second f = (6 ≤ f) × (f < 9)

module _ (block seat number : ℕ) (op : Op) (count : ℕ) where
  abbrev owner : ℕ × ℕ
  owner = (block_place block 0, owner_word seat number)

  abbrev op_note : ℕ × ℕ
  op_note = (block_place block 1, op_word op.code number op.key)

  abbrev value_note : ℕ × ℕ
  value_note = (block_place block 11, value_word number op.value)

  abbrev count_note : ℕ × ℕ
  count_note = (block_place block 2, count)

  note : (field word : ℕ) → field < 32 → Note field → HasField block Note (block_place block field, word)
  note field word small is = record { field = field; within = small; is = is; place = refl }

  notes_field : Each (HasField block Note) (note_stores block seat number op count)
  notes_field =
      each_more (HasField block Note) owner (op_note ∷ value_note ∷ count_note ∷ []) (note 0 (owner_word seat number) (omega arith) (inl (omega arith)))
      (each_more (HasField block Note) op_note (value_note ∷ count_note ∷ []) (note 1 (op_word op.code number op.key) (omega arith) (inl (omega arith)))
      (each_more (HasField block Note) value_note (count_note ∷ []) (note 11 (value_word number op.value) (omega arith) (inr refl))
      (each_more (HasField block Note) count_note [] (note 2 count (omega arith) (inl (omega arith))) (each_none (HasField block Note)))))

  differ : (field other word word' : ℕ) → field < 32 → other < 32 → field ≢ other → block_place block field ≢ block_place block other
  differ = other_field block

  notes_own : OwnPlaces (note_stores block seat number op count)
  notes_own =
      own_more owner (op_note ∷ value_note ∷ count_note ∷ [])
      (each_more (λ (y : ℕ × ℕ). y.0 ≢ owner.0) op_note (value_note ∷ count_note ∷ []) (differ 1 0 0 0 (omega arith) (omega arith) (λ e. absurd (omega (arith, e))))
      (each_more (λ (y : ℕ × ℕ). y.0 ≢ owner.0) value_note (count_note ∷ []) (differ 11 0 0 0 (omega arith) (omega arith) (λ e. absurd (omega (arith, e))))
      (each_more (λ (y : ℕ × ℕ). y.0 ≢ owner.0) count_note [] (differ 2 0 0 0 (omega arith) (omega arith) (λ e. absurd (omega (arith, e)))) (each_none (λ (y : ℕ × ℕ). y.0 ≢ owner.0)))))
      (own_more op_note (value_note ∷ count_note ∷ [])
      (each_more (λ (y : ℕ × ℕ). y.0 ≢ op_note.0) value_note (count_note ∷ []) (differ 11 1 0 0 (omega arith) (omega arith) (λ e. absurd (omega (arith, e))))
      (each_more (λ (y : ℕ × ℕ). y.0 ≢ op_note.0) count_note [] (differ 2 1 0 0 (omega arith) (omega arith) (λ e. absurd (omega (arith, e)))) (each_none (λ (y : ℕ × ℕ). y.0 ≢ op_note.0))))
      (own_more value_note (count_note ∷ [])
      (each_more (λ (y : ℕ × ℕ). y.0 ≢ value_note.0) count_note [] (differ 2 11 0 0 (omega arith) (omega arith) (λ e. absurd (omega (arith, e)))) (each_none (λ (y : ℕ × ℕ). y.0 ≢ value_note.0)))
      (own_more count_note [] (each_none (λ (y : ℕ × ℕ). y.0 ≢ count_note.0)) own_none)))

row_fields : (block low : ℕ) (F : ℕ → Type 0) → ((f : ℕ) → low ≤ f → f < low + 3 → F f) → low + 3 ≤ 32 → (xs : List (ℕ × ℕ)) → Each (IsBetween block low (low + 3)) xs → Each (HasField block F) xs
row_fields block low F gives few xs each k x at =
    let is = each k x at in
    record { field = is.field; within = (let b = is.below in omega (arith, b, few)); is = gives is.field is.from is.below; place = is.place }

first_own : (block : ℕ) (entry : Option Entry) → OwnPlaces (entry_stores block 0 entry) × Each (HasField block First) (entry_stores block 0 entry)
first_own block None = (own_none, each_none (HasField block First))
first_own block (Some e) = (row_own block 3 (omega arith) e.target e.from e.to, row_fields block 3 First (λ f a b. (a, b)) (omega arith) (entry_stores block 0 (Some e)) (row_between block 3 (omega arith) e.target e.from e.to))

second_own : (block : ℕ) (entry : Option Entry) → OwnPlaces (entry_stores block 1 entry) × Each (HasField block Second) (entry_stores block 1 entry)
second_own block None = (own_none, each_none (HasField block Second))
second_own block (Some e) = (row_own block 6 (omega arith) e.target e.from e.to, row_fields block 6 Second (λ f a b. (a, b)) (omega arith) (entry_stores block 1 (Some e)) (row_between block 6 (omega arith) e.target e.from e.to))

-- the client's stores are at different places
pairs_own : (stores : List (ℕ × ℕ)) → AllPairs (λ (a b : ℕ × ℕ). a.0 ≢ b.0) stores → OwnPlaces stores
pairs_own stores distinct i j first second at at' same =
    elim (cases_lt i j) [
      | inl before ↦ absurd (apart_at i j first second before at at' same)
      | inr rest ↦ elim (cases_eq i j) [ inl equal ↦ equal | inr other ↦ absurd (apart_at j i second first (omega (arith, rest, other)) at' at (sym same)) ]
    ]
  where
    apart_at : (i j : ℕ) (first second : ℕ × ℕ) → i < j → slice_get stores i ≡ Some first → slice_get stores j ≡ Some second → first.0 ≢ second.0
    apart_at i j first second before at at' =
        let pair = distinct i j first before (slice_get_within stores j second at') in
        subst (λ (e : ℕ × ℕ). e.0 ≢ second.0) (get_or_from_slice_get stores i first first at)
        (subst (λ (e : ℕ × ℕ). (get_or stores i first).0 ≢ e.0) (get_or_from_slice_get stores j second first at') pair)

abbrev pub low_stores : ℕ → ℕ → ℕ → Op → List Entry → List (ℕ × ℕ)
low_stores block seat number op entries = (note_stores block seat number op (length entries) ++ entry_stores block 0 (slice_get entries 0)) ++ entry_stores block 1 (slice_get entries 1)

-- the notes and the entries are below the client's stores
pub low_fields : (block seat number : ℕ) (op : Op) (entries : List Entry) → Each (HasField block (λ f. f < 12)) (low_stores block seat number op entries)
low_fields block seat number op entries =
    let notes = note_stores block seat number op (length entries) in
    let first = entry_stores block 0 (slice_get entries 0) in
    let second = entry_stores block 1 (slice_get entries 1) in
    each_both (HasField block (λ f. f < 12)) (notes ++ first) second
    (each_both (HasField block (λ f. f < 12)) notes first
    (more block Note (λ f. f < 12) (λ f is. elim is [ inl low ↦ omega (arith, low) | inr last ↦ omega (arith, last) ]) notes (notes_field block seat number op (length entries)))
    (more block First (λ f. f < 12) (λ f is. (let b = is.1 in omega (arith, b))) first (first_own block (slice_get entries 0)).1))
    (more block Second (λ f. f < 12) (λ f is. (let b = is.1 in omega (arith, b))) second (second_own block (slice_get entries 1)).1)

-- and none of all is a state of an entry
pub stored_fields : {S W : Type 0} (form : NormalForm S W) (world : World) (block seat number : ℕ) (op : Op) (entries : List Entry) (offer : Offered) → IsGoodOffer form world block offer
    → Each (HasField block IsStored) (offer_stores block seat number op entries offer.stores)
stored_fields form world block seat number op entries offer good =
    let notes = note_stores block seat number op (length entries) in
    let first = entry_stores block 0 (slice_get entries 0) in
    let second = entry_stores block 1 (slice_get entries 1) in
    each_both (HasField block IsStored) ((notes ++ first) ++ second) offer.stores
    (each_both (HasField block IsStored) (notes ++ first) second
    (each_both (HasField block IsStored) notes first
    (more block Note IsStored (λ f is. elim is [ inl low ↦ inl (omega (arith, low)) | inr last ↦ inr (omega (arith, last)) ]) notes (notes_field block seat number op (length entries)))
    (more block First IsStored (λ f is. inl (let b = is.1 in omega (arith, b))) first (first_own block (slice_get entries 0)).1))
    (more block Second IsStored (λ f is. inl is.1) second (second_own block (slice_get entries 1)).1))
    (λ k store at. let is = all_at (IsGoodStore form block) offer.stores k store good.stores at in
    record { field = is.field; within = is.within; is = inr (let b = is.behind in omega (arith, b)); place = is.place })

pub offer_own : {S W : Type 0} (form : NormalForm S W) (world : World) (block seat number : ℕ) (op : Op) (entries : List Entry) (offer : Offered) → IsGoodOffer form world block offer
    → OwnPlaces (offer_stores block seat number op entries offer.stores)
offer_own form world block seat number op entries offer good =
    let notes = note_stores block seat number op (length entries) in
    let first = entry_stores block 0 (slice_get entries 0) in
    let second = entry_stores block 1 (slice_get entries 1) in
    let note_fields = notes_field block seat number op (length entries) in
    let one = first_own block (slice_get entries 0) in
    let two = second_own block (slice_get entries 1) in
    let both : Each (HasField block NoteOrFirst) (notes ++ first) =
    each_both (HasField block NoteOrFirst) notes first (more block Note NoteOrFirst (λ f is. elim is [ inl low ↦ inl (omega (arith, low)) | inr last ↦ inr last ]) notes note_fields)
    (more block First NoteOrFirst (λ f is. inl is.1) first one.1) in
    let low = low_fields block seat number op entries in
    own_both (HasField block (λ f. f < 12)) (HasField block (λ f. 12 ≤ f)) ((notes ++ first) ++ second) offer.stores
    (fields_differ block (λ f. f < 12) (λ f. 12 ≤ f) (λ f g a b e. absurd (omega (arith, a, b, e)))) low
    (λ k store at. let is = all_at (IsGoodStore form block) offer.stores k store good.stores at in record { field = is.field; within = is.within; is = is.behind; place = is.place })
    (own_both (HasField block NoteOrFirst) (HasField block Second) (notes ++ first) second
    (fields_differ block NoteOrFirst Second (λ f g a b e. (let from = b.0 in let below = b.1 in elim a [ inl low ↦ absurd (omega (arith, low, from, e)) | inr last ↦ absurd (omega (arith, last, below, e)) ]))) both two.1
    (own_both (HasField block Note) (HasField block First) notes first
    (fields_differ block Note First (λ f g a b e. (let from = b.0 in let below = b.1 in elim a [ inl low ↦ absurd (omega (arith, low, from, e)) | inr last ↦ absurd (omega (arith, last, below, e)) ]))) note_fields one.1
    (notes_own block seat number op (length entries)) one.0) two.0)
    (pairs_own offer.stores good.distinct)
