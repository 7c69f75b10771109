-- What a helper knows is kept by every kind of move of another seat.
use Rattle.std.proofs.Common.{◌≡◌, ◌≢◌, ℕ, Option, Some}
use Rattle.word_fields.specs.Records.{record_number}
use Rattle.word_fields.specs.declared.records.RecordPhase.{RecordPhase}
use Rattle.normal_traits.specs.World.{World}
use Rattle.normal_traits.specs.NormalForm.{NormalForm}
use Rattle.normal_traits.specs.Laws.{Laws}
use Rattle.fast_slow_engine.specs.declared.help.Work.{Work}
use Rattle.fast_slow_engine.specs.HelpTable.{CanWork}
use Rattle.offered_blocks.specs.Blocks.{Offer}
use Rattle.offered_blocks.specs.Holds.{HasOffers}
use Rattle.offered_blocks.specs.OtherSteps.{IsSpare}
use Rattle.move_kinds.specs.Kinds.{Kind}
use Rattle.move_kinds.specs.Moves.{Leaves}
use Rattle.move_kinds.proofs.KindsLeave.{kind_leaves}
use Rattle.helper_knowledge.specs.Callers.{Caller, KeepsCall}
use Rattle.helper_knowledge.specs.Carried.{Carried}
use Rattle.helper_knowledge.specs.WorkKnown.{KnowsWork, NamedBy}
use Rattle.helper_knowledge.proofs.Kept.WorkKept.{named_by, work_kept}

module _ {S W : Type 0} (form : NormalForm S W) (laws : Laws form) (world after : World) (offers offers' : ℕ → Option (Offer S)) (holds : HasOffers form world offers)
    (mover : ℕ) (hand : Option ℕ) (kind : Kind form world after offers offers' mover hand)
    (other : Option ℕ) (spare : (block : ℕ) → other ≡ Some block → IsSpare world offers block) (alone : (block : ℕ) → other ≡ Some block → hand ≢ Some block) where
  leaves : Leaves form world after offers offers' other
  leaves = kind_leaves form laws world after offers offers' holds mover hand kind other spare alone

  pub named_by_kept : (phase : RecordPhase) (head word : ℕ) → NamedBy form world offers phase head word → NamedBy form after offers' phase head word
  named_by_kept = named_by form laws world after offers offers' holds other leaves

  pub knows_work_kept : (caller caller' : Caller) (head word : ℕ) → KeepsCall caller caller' (record_number word)
      → (own : Carried S) (does : Work S W) → CanWork form does → KnowsWork form world offers caller head word other own does → KnowsWork form after offers' caller' head word other own does
  knows_work_kept = work_kept form laws world after offers offers' holds other leaves
