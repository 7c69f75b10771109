-- The first stores of an offer are the engine's, and behind the first words.
use Rattle.std.proofs.Common.{arith, ◌≡◌, ◌≢◌, subst, sym, ap, ℕ, zero, suc, ◌+◌, ◌*◌, ◌<◌, ◌≤◌, List, [], ◌∷◌, length, get_or, slice_get}
use Rattle.std.specs.Prelude.{min}
use Rattle.lin_report.specs.declared.calls.Op.{Op}
use Rattle.step_memory.specs.declared.steps.Request.{Request}
use Rattle.step_memory.specs.declared.steps.Request.TheVariants.{Load, Store}
use Rattle.step_memory.specs.Step.{requested_place}
use Rattle.step_memory.proofs.Words.{load_keeps, word_elsewhere}
use Rattle.node_arena.specs.declared.places.TheConstants.{OWNER_FIELD, OP_FIELD, VALUE_FIELD, LENGTH_FIELD}
use Rattle.node_arena.proofs.PlacesApart.{block_place_behind}
use Rattle.normal_traits.specs.declared.lists.Entry.{Entry}
use Rattle.cas_executor.specs.BlockReads.{entry_field}
use Rattle.fast_slow_engine.specs.OfferStores.{offer_stores, own_stores, stored_by}
use Rattle.run_laws.specs.Ticks.{LeavesWord}
use Rattle.run_laws.specs.Premises.{entries_noted}

-- a request at another place leaves the word, and so does a load
pub leaves_elsewhere : (place : ℕ) (request : Request) (words : List ℕ) → place ≢ requested_place request → LeavesWord place request words
leaves_elsewhere place request words apart = word_elsewhere request words place apart

pub leaves_load : (place at : ℕ) (words : List ℕ) → LeavesWord place (Load at) words
leaves_load place at words = ap (λ l. get_or l place 0) (load_keeps at words)

-- there are so many stores, and the places of the first of them are behind the first words
abbrev pub AreBehind : ℕ → List (ℕ × ℕ) → Type 0
AreBehind zero stores = Unit {0}
AreBehind (suc count) [] = ⊥
AreBehind (suc count) (store ∷ stores) = (32 ≤ store.0) × AreBehind count stores

-- the stores of the engine in a list that its own seat executes: the call's
pub own_behind : (block seat number : ℕ) (op : Op) (stores : List (ℕ × ℕ)) → AreBehind 3 (own_stores block seat number op stores)
own_behind block seat number op stores = (block_place_behind block OWNER_FIELD, (block_place_behind block OP_FIELD, (block_place_behind block VALUE_FIELD, tt)))

-- the stores of the engine in a list that others execute
abbrev pub NotesBehind : List (ℕ × ℕ) → Type 0
NotesBehind stores = AreBehind (4 + 3 * entries_noted (slice_get stores 3)) stores

pub notes_behind : (block seat number : ℕ) (op : Op) (entries : List Entry) (stores : List (ℕ × ℕ)) → NotesBehind (offer_stores block seat number op entries stores)
notes_behind block seat number op [] stores = (block_place_behind block OWNER_FIELD, (block_place_behind block OP_FIELD, (block_place_behind block VALUE_FIELD, (block_place_behind block LENGTH_FIELD, tt))))
notes_behind block seat number op (first ∷ []) stores =
    let field = λ (word : ℕ). block_place_behind block (entry_field 0 word) in
    (block_place_behind block OWNER_FIELD, (block_place_behind block OP_FIELD, (block_place_behind block VALUE_FIELD, (block_place_behind block LENGTH_FIELD, (field 0, (field 1, (field 2, tt)))))))
notes_behind block seat number op (first ∷ (second ∷ more)) stores =
    let two : min (length (first ∷ (second ∷ more))) 2 ≡ 2 = omega arith in
    let field = λ (entry word : ℕ). block_place_behind block (entry_field entry word) in
    subst (λ n. AreBehind (4 + 3 * n) (offer_stores block seat number op (first ∷ (second ∷ more)) stores)) (sym two) (
      block_place_behind block OWNER_FIELD,
      (
        block_place_behind block OP_FIELD,
        (
          block_place_behind block VALUE_FIELD,
          (
            block_place_behind block LENGTH_FIELD,
            (field 0 0, (field 0 1, (field 0 2, (field 1 0, (field 1 1, (field 1 2, tt)))))),
          ),
        ),
      ),
    )

-- one of these stores leaves the first words
pub behind_leaves : (count : ℕ) (stores : List (ℕ × ℕ)) (made place : ℕ) (words : List ℕ) → AreBehind count stores → made < count → place < 32 → LeavesWord place (stored_by (slice_get stores made)) words
behind_leaves zero stores made place words behind less first = absurd (omega arith)
behind_leaves (suc count) [] made place words behind less first = absurd behind
behind_leaves (suc count) (store ∷ stores) zero place words behind less first = leaves_elsewhere place (Store store.0 store.1) words (λ e. omega (arith, e, first, behind.0))
behind_leaves (suc count) (store ∷ stores) (suc made) place words behind less first = behind_leaves count stores made place words behind.1 (omega arith) first
