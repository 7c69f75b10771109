-- A block that is filled for a list holds the operation and the list of its call.
use Rattle.std.proofs.Common.{◌≡◌, ◌∙◌, sym, ap, subst, ℕ, ◌<◌, ◌≤◌, ◌^◌, true, List, length, slice_get, Option, Some, arith}
use Rattle.std.proofs.lemmas.Option.{slice_get_within}
use Rattle.lin_report.specs.declared.calls.Op.{Op}
use Rattle.word_fields.specs.Records.{record_number, number_below}
use Rattle.word_fields.proofs.AnnouncedWords.{code-op_word, key-op_word, value-value_word}
use Rattle.node_arena.specs.declared.places.TheConstants.{OP_FIELD, VALUE_FIELD}
use Rattle.node_arena.specs.MemoryMap.{block_place}
use Rattle.normal_traits.specs.declared.lists.Entry.{Entry}
use Rattle.normal_traits.specs.World.{World, is_word}
use Rattle.normal_traits.specs.NormalForm.{NormalForm}
use Rattle.normal_traits.specs.Laws.{IsGoodEntry, Laws}
use Rattle.normal_traits.proofs.Stays.{all_at}
use Rattle.cas_executor_laws.specs.Reads.{stored_count, stored_entries}
use Rattle.fast_slow_engine.specs.HelpWords.{announced_op}
use Rattle.fast_slow_engine.specs.OfferStores.{offer_stores}
use Rattle.fast_slow_engine.proofs.Commands.{code_fits, key_fits}
use Rattle.offered_blocks.specs.Blocks.{Offer}
use Rattle.move_kinds.proofs.BlockContents.{AllStand, reads_list, reads_op, reads_value}
use Rattle.helper_knowledge.specs.Callers.{Caller}
use Rattle.helper_knowledge.specs.Knowing.{KnowsOffer}
use Rattle.move_kinds.specs.Contents.{HasContents}

op_same : (a b : Op) → a.code ≡ b.code → a.key ≡ b.key → a.value ≡ b.value → a ≡ b
op_same a b c k v = λ i. record { code = c i; key = k i; value = v i }

module _ {S W : Type 0} (form : NormalForm S W) (laws : Laws form) (world : World) (shape : form.shape world) (offers : ℕ → Option (Offer S)) (caller : Caller) (head word block : ℕ)
    (bounded : (place : ℕ) → is_word form.is_root world place ≡ true → place < 2 ^ 32) where
  -- a block that is filled for a list holds them
  pub contents_filled : (stores : List (ℕ × ℕ)) (held : Offer S) → KnowsOffer form world caller head word block stores (length stores) held → HasContents world held
  contents_filled stores held knows =
      let op = held.list.call.op in
      let number = record_number word in
      let made = (form.offer_of held.offering op block).stores in
      let command = knows.offered.command.command in
      let code = code_fits form.object form.tellable op command in
      let key = key_fits form.object form.tellable op command in
      let few = number_below word in
      let good = laws.of_world.offers world held.offering op held.since held.list.block knows.offered.command shape knows.offered.knows knows.offered.ready knows.offered.small in
      let small : (j : ℕ) (e : Entry) → slice_get held.list.entries j ≡ Some e → e.target < 2 ^ 32 =
      λ j e at. bounded e.target (all_at (IsGoodEntry form world) _ j e good.entries (ap (λ (es : List Entry). slice_get es j) (sym knows.offered.entries) ∙ at)).word in
      let stand : AllStand world.words (offer_stores block head number op held.list.entries made) =
      subst (AllStand world.words) knows.stores_are (λ k store at. knows.stored k store (slice_get_within stores k store at) at) in
      let at_op = ap (λ b. world.words (block_place b OP_FIELD)) knows.block_is ∙ reads_op world.words block head number op made held.list.entries stand in
      let at_value = ap (λ b. world.words (block_place b VALUE_FIELD)) knows.block_is ∙ reads_value world.words block head number op made held.list.entries stand in
      record {
        op = op_same (announced_op (world.words (block_place held.list.block OP_FIELD)) (world.words (block_place held.list.block VALUE_FIELD))) op
            (ap (λ w. (announced_op w 0).code) at_op ∙ code-op_word op.code number op.key code) (ap (λ w. (announced_op w 0).key) at_op ∙ key-op_word op.code number op.key code few key)
            (ap (λ w. (announced_op 0 w).value) at_value ∙ value-value_word number op.value few (let v = knows.offered.command.value in omega (arith, v)));
        entries = ap (λ b. stored_entries world.words b (stored_count world.words b)) knows.block_is
            ∙ reads_list world.words block head number op made held.list.entries (subst (λ (es : List Entry). 0 < length es) (sym knows.offered.entries) good.some)
            (subst (λ (es : List Entry). length es ≤ 2) (sym knows.offered.entries) good.few) small stand;
      }
