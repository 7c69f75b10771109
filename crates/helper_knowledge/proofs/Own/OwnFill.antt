-- A helper that fills its block: what it knows when the list is named, and after each of its stores.
use Rattle.std.proofs.Common.{◌≡◌, ◌∙◌, refl, sym, ap, ℕ, ◌+◌, ◌<◌, ◌^◌, List, slice_get, Option, Some, inl, inr, arith}
use Rattle.std.proofs.lemmas.Bool.{cases_eq}
use Rattle.lin_report.specs.declared.calls.Op.{Op}
use Rattle.word_fields.specs.Records.{record_number}
use Rattle.normal_traits.specs.World.{World}
use Rattle.normal_traits.specs.NormalForm.{NormalForm}
use Rattle.normal_traits.specs.Steps.{IsStep, put_word}
use Rattle.normal_traits.specs.Laws.{Laws}
use Rattle.normal_traits.proofs.Stays.{word_beside, word_put}
use Rattle.cas_executor_laws.proofs.Sets.{some_same}
use Rattle.fast_slow_engine.specs.OfferStores.{offer_stores}
use Rattle.offered_blocks.specs.Blocks.{Offer}
use Rattle.helper_knowledge.specs.Carried.{list_named}
use Rattle.helper_knowledge.specs.Callers.{Caller}
use Rattle.helper_knowledge.specs.Knowing.{KnowsOffer, KnowsSearch}
use Rattle.move_kinds.proofs.Stores.Places.{OwnPlaces}

module _ {S W : Type 0} (form : NormalForm S W) (laws : Laws form) (world : World) (shape : form.shape world) (offers : ℕ → Option (Offer S)) (caller : Caller) (head word block : ℕ) where
  -- the list is named where the search is ready: no store is made yet
  pub begins_fill : (identity : ℕ) (op : Op) (s : S) (since : ℕ) → block < 2 ^ 17 → form.is_ready s → KnowsSearch form world caller word op s since
      → KnowsOffer form world caller head word block
      (offer_stores block head (record_number word) op (form.offer_of s op block).entries (form.offer_of s op block).stores) 0
      (list_named form identity s since (record { seat = head; number = record_number word; op = op }) block)
  begins_fill identity op s since small ready knows = record {
    offered = record { command = knows.command; knows = knows.knows; ready = ready; small = small; entries = refl };
    block_is = refl;
    seat_is = refl;
    number_is = refl;
    op_is = knows.op_is;
    stores_are = refl;
    stored = λ k store before at. absurd (omega (arith, before));
  }

  -- one more store stands, and the earlier ones stand still
  pub fills_on : (stores : List (ℕ × ℕ)) (made : ℕ) (held : Offer S) (store : ℕ × ℕ) → OwnPlaces stores → slice_get stores made ≡ Some store → IsStep form world (put_word store.0 store.1 world)
      → KnowsOffer form world caller head word block stores made held → KnowsOffer form (put_word store.0 store.1 world) caller head word block stores (made + 1) held
  fills_on stores made held store own at step knows = record {
    offered = record {
      command = knows.offered.command;
      knows = laws.knows_kept world (put_word store.0 store.1 world) held.offering held.list.call.op held.since knows.offered.command shape knows.offered.knows step;
      ready = knows.offered.ready;
      small = knows.offered.small;
      entries = knows.offered.entries;
    };
    block_is = knows.block_is;
    seat_is = knows.seat_is;
    number_is = knows.number_is;
    op_is = knows.op_is;
    stores_are = knows.stores_are;
    stored = λ k other before at'. elim (cases_eq k made) [
      | inl same ↦
          let one : other ≡ store = some_same other store (sym at' ∙ ap (slice_get stores) same ∙ at) in
          word_put store.0 store.1 world.words other.0 (ap (λ (s : ℕ × ℕ). s.0) one) ∙ ap (λ (s : ℕ × ℕ). s.1) (sym one)
      | inr apart ↦
          word_beside store.0 store.1 world.words other.0 (λ e. apart (own k made other store at' at e)) ∙ knows.stored k other (omega (arith, before, apart)) at'
    ];
  }
