-- At the opening no record has named a block, and all holds that is to hold of blocks.
use Rattle.std.proofs.Common.{◌≡◌, ◌∙◌, refl, sym, ap, ℕ, ◌+◌, ◌≤◌, ◌<◌, inl, Some, arith}
use Rattle.word_fields.specs.declared.records.RecordPhase.TheVariants.{Executing, Idle}
use Rattle.word_fields.specs.Records.{record_phase}
use Rattle.node_arena.specs.MemoryMap.{block_place, record_place}
use Rattle.node_arena.proofs.Openings.{opens_zero_at, opens_zero_behind, opens_clear}
use Rattle.normal_traits.specs.World.{Listed}
use Rattle.normal_traits.specs.NormalForm.{NormalForm}
use Rattle.normal_traits.specs.Laws.{Laws, opening_world}
use Rattle.offered_blocks.specs.Blocks.{Offer, HasBlocks, IsExecuting}
use Rattle.offered_blocks.specs.Holds.{HasOffers, no_offers}

past_block_0 : (block field : ℕ) → 0 < block → 64 ≤ block_place block field
unfolding block_place
past_block_0 block field some = omega (arith, some)

phase_0 : record_phase 0 ≡ Idle
unfolding record_phase Rattle.word_fields.specs.Fields.field_of
phase_0 = refl

module _ {S W : Type 0} (form : NormalForm S W) (laws : Laws form) where
  none_executes : {A : Type 0} (list : Listed) → IsExecuting (opening_world form) list → A
  none_executes list is =
      let idle : record_phase (form.opening (record_place list.call.seat)) ≡ Idle = ap record_phase (opens_zero_at form.opening form.opens (record_place list.call.seat) (inl (omega (arith, is.seated)))) ∙ phase_0 in
      let both : Idle ≡ Executing = sym idle ∙ is.phase in
      absurd cc

  none_offered : {A : Type 0} (block : ℕ) (offer : Offer S) → no_offers block ≡ Some offer → A
  none_offered block offer stands = absurd cc

  blocks_open : HasBlocks form (opening_world form) no_offers
  blocks_open = record {
    offered = λ block offer stands. none_offered block offer stands;
    apart = λ block other offer mate stands stands' same. none_offered block offer stands;
    one = λ list other is is'. none_executes list is;
    bits = λ place may bit. (let none = opens_clear form.opening form.opens place in absurd (omega (arith, none, bit)));
    journal = record {
      past = λ won among. absurd among;
      raised = λ won among. absurd among;
      one = λ a b among among' place version. absurd among;
    };
  }

  pub offers_open : HasOffers form (opening_world form) no_offers
  offers_open = record {
    shape = laws.opens;
    blocks = blocks_open;
    waits = λ block offer stands. none_offered block offer stands;
    pending = λ block j some few unnamed. opens_zero_behind form.opening form.opens _ (past_block_0 block (9 + j) some);
    journal = λ won among. absurd among;
  }
