-- The steps of a helper's work are of the kinds: a request of a search or a wrap-up, and a store into the block in hand.
use Rattle.std.proofs.Common.{◌≡◌, ◌∙◌, refl, sym, ap, subst, ℕ, ◌<◌, ◌^◌, true, false, inl, inr, List, slice_get, Option, Some, arith}
use Rattle.lin_report.specs.declared.calls.Op.{Op}
use Rattle.lin_report.specs.Object.{IsCommandOf}
use Rattle.step_memory.specs.declared.steps.Request.{Request}
use Rattle.step_memory.specs.declared.steps.Request.TheVariants.{Load, Store, Exchange, Add}
use Rattle.step_memory.specs.declared.steps.Seen.{Seen}
use Rattle.word_fields.specs.Records.{record_number}
use Rattle.word_fields.specs.Versioned.{versioned_bit}
use Rattle.word_fields.proofs.ChangedWords.{word-split}
use Rattle.normal_traits.specs.World.{Listed, World}
use Rattle.normal_traits.specs.NormalForm.{NormalForm}
use Rattle.normal_traits.specs.Steps.{IsStep, Requested, put_word}
use Rattle.normal_traits.specs.Steps.Requested.{loaded, lost, won}
use Rattle.normal_traits.specs.Steps.IsStep.{searches, wraps}
use Rattle.normal_traits.specs.Laws.{AsksWell, IsGoodOffer, IsGoodStore, Laws}
use Rattle.normal_traits.proofs.Stays.{all_at}
use Rattle.offered_blocks.specs.Blocks.{Offer}
use Rattle.helper_knowledge.specs.Callers.{Caller}
use Rattle.helper_knowledge.specs.Knowing.{KnowsOffer}
use Rattle.offered_blocks.proofs.Others.Beside.{request_beside}
use Rattle.offered_blocks.specs.OtherSteps.{IsSpare, IsStored}
use Rattle.move_kinds.specs.Kinds.{Kind, UsesHand}
use Rattle.move_kinds.specs.Kinds.Kind.{quiet, fills, beside}
use Rattle.move_kinds.proofs.Stores.Apart.{HasField, low_fields, low_stores, stored_fields}
use Rattle.move_kinds.proofs.Stores.Into.{Each, each_both}

module _ {S W : Type 0} (form : NormalForm S W) (laws : Laws form) (world : World) (shape : form.shape world) (offers : ℕ → Option (Offer S)) (mover : ℕ) (hand : Option ℕ) where
  -- a request that asks well, and is an allowed step
  asked : (request : Request) (after : World) (seen : Seen) → AsksWell form world request → IsStep form world after → Requested form request world after seen → Kind form world after offers offers mover hand
  asked request after seen asks step made =
      elim (request_beside form world offers request after seen asks made step) [ inl same ↦ quiet same refl | inr is ↦ beside is.0 is.1 (uses_none request after seen asks made) refl ]
    where
      uses_none : (request : Request) (after : World) (seen : Seen) → AsksWell form world request → Requested form request world after seen → UsesHand world after hand
      uses_none (Load at) after seen asks (loaded at') = λ block used. inl used
      uses_none (Exchange at from to) after seen asks (lost at' from' to' differs) = λ block used. inl used
      uses_none (Exchange at from to) after seen asks (won at' from' to' same raised) = λ block used. inl used
      uses_none (Store at value) after seen asks made = absurd asks
      uses_none (Add at by) after seen asks made = absurd asks

  pub search_kind : (s : S) (after : World) (seen : Seen) (op : Op) (since : ℕ) → IsCommandOf form.object op → form.asks s → form.knows s op world since → Requested form (form.request_of s) world after seen → Kind form world after offers offers mover hand
  search_kind s after seen op since command asks knows made =
      asked (form.request_of s) after seen (laws.of_world.search_asks_well world s op since command shape asks knows) (searches s op since command asks knows made) made

  pub wrap_kind : (wrap : W) (after : World) (seen : Seen) (list : Listed) (stop : ℕ) → IsCommandOf form.object list.call.op → form.wraps wrap → form.follows wrap list stop world → Requested form (form.wrap_request_of wrap) world after seen → Kind form world after offers offers mover hand
  wrap_kind wrap after seen list stop command goes follows made =
      asked (form.wrap_request_of wrap) after seen (laws.of_world.wrap_asks_well world wrap list stop shape goes follows) (wraps wrap list stop command goes follows made) made

  -- ---- a store

  small_clear : (word : ℕ) → word < 2 ^ 24 → versioned_bit word ≡ 0
  small_clear word small = (let split = word-split word in omega (arith, split, small))

  module _ (caller : Caller) (head word block : ℕ) (stores : List (ℕ × ℕ)) (made : ℕ) (held : Offer S) (knows : KnowsOffer form world caller head word block stores made held) (some : 0 < block) where
    good : IsGoodOffer form world block (form.offer_of held.offering held.list.call.op block)
    good =
        subst (λ b. IsGoodOffer form world b (form.offer_of held.offering held.list.call.op b)) knows.block_is
        (laws.of_world.offers world held.offering held.list.call.op held.since held.list.block knows.offered.command shape knows.offered.knows knows.offered.ready knows.offered.small)

    abbrev Clear : ℕ × ℕ → Type 0
    Clear store = form.is_versioned store.0 ≡ true → versioned_bit store.1 ≡ 0

    -- notes and entries are no versioned words; a versioned word of the client's stores has its bit clear
    all_clear : Each Clear stores
    all_clear =
        subst (Each Clear) (sym knows.stores_are)
        (each_both Clear (low_stores block head (record_number word) held.list.call.op held.list.entries) (form.offer_of held.offering held.list.call.op block).stores
        (λ k store at versioned.
        let low = low_fields block head (record_number word) held.list.call.op held.list.entries k store at in
        let none : form.is_versioned store.0 ≡ false = ap form.is_versioned low.place ∙ laws.of_world.notes_plain block low.field some low.is in
        absurd cc)
        (λ k store at versioned. small_clear store.1 ((all_at (IsGoodStore form block) _ k store good.stores at).versioned versioned)))

    pub fill_kind : (store : ℕ × ℕ) → slice_get stores made ≡ Some store → hand ≡ Some block → IsSpare world offers block → Kind form world (put_word store.0 store.1 world) offers offers mover hand
    fill_kind store at in_hand spare =
        let into : HasField block IsStored store =
        subst (Each (HasField block IsStored)) (sym knows.stores_are)
        (stored_fields form world block head (record_number word) held.list.call.op held.list.entries (form.offer_of held.offering held.list.call.op block) good) made store at in
        fills block into.field store.1 in_hand spare into.within into.is (λ versioned. all_clear made store at (ap form.is_versioned into.place ∙ versioned)) (ap (λ p. put_word p store.1 world) into.place) refl
