-- A spare block in another hand stays spare, whatever the mover does.
use Rattle.std.proofs.Common.{◌≡◌, ◌≢◌, ◌∙◌, refl, sym, ap, ℕ, Bool, true, false, ◌⊎◌, inl, inr, Option, Some}
use Rattle.normal_traits.specs.World.{World}
use Rattle.normal_traits.specs.NormalForm.{NormalForm}
use Rattle.normal_traits.specs.Laws.{Laws}
use Rattle.offered_blocks.specs.Blocks.{Offer}
use Rattle.offered_blocks.specs.Holds.{HasOffers, IsUnnamed}
use Rattle.offered_blocks.specs.OtherSteps.{IsSpare}
use Rattle.offered_blocks.proofs.Records.Naming.{with_beside}
use Rattle.move_kinds.specs.Kinds.{Kind}
use Rattle.move_kinds.specs.Kinds.Kind.{quiet, counts, fills, announces, publishes, queues, names, settles, completes, restarts, executes, beside, enters}
use Rattle.move_kinds.proofs.Does.{Does, does_of}
use Rattle.move_kinds.proofs.Does.Does.{leaves_all, puts, helps, exchanges}

module _ {S W : Type 0} (form : NormalForm S W) (laws : Laws form) (world after : World) (offers offers' : ℕ → Option (Offer S)) (holds : HasOffers form world offers) (mover : ℕ) (hand : Option ℕ)
    (kind : Kind form world after offers offers' mover hand) (block : ℕ) (spare : IsSpare world offers block) (apart : hand ≢ Some block) where
  -- what is used was used, or is a block that isn't this one
  unused_of : (used : Bool) → after.used block ≡ used → (after.used block ≡ true → (world.used block ≡ true) ⊎ ⊥) → after.used block ≡ false
  unused_of false e uses = e
  unused_of true e uses = elim (uses e) [ inl was ↦ absurd (let none = spare.unused in cc) | inr never ↦ absurd never ]

  unused_after : Does form world after offers hand → after.used block ≡ false
  unused_after (leaves_all same) = ap (λ (w : World). w.used block) same ∙ spare.unused
  unused_after (puts place word plain put) = ap (λ (w : World). w.used block) put ∙ spare.unused
  unused_after (helps other offer walk seen is) =
      unused_of (after.used block) refl (λ used. elim (is.uses block used) [ inl was ↦ inl was | inr same ↦ absurd (spare.unnamed offer (ap offers same.0 ∙ is.stands)) ])
  unused_after (exchanges maker list entry is uses) =
      unused_of (after.used block) refl (λ used. elim (uses block used) [ inl was ↦ inl was | inr in_hand ↦ absurd (apart in_hand) ])

  unnamed_same : offers' ≡ offers → IsUnnamed offers' block
  unnamed_same same offer stands = spare.unnamed offer (ap (λ (f : ℕ → Option (Offer S)). f block) (sym same) ∙ stands)

  unnamed_after : Kind form world after offers offers' mover hand → IsUnnamed offers' block
  unnamed_after (quiet same offers_same) = unnamed_same offers_same
  unnamed_after (counts place word is put offers_same) = unnamed_same offers_same
  unnamed_after (fills b field word in_hand' mine small stored clear put offers_same) = unnamed_same offers_same
  unnamed_after (announces place word small own put offers_same) = unnamed_same offers_same
  unnamed_after (publishes word small closed opens put offers_same) = unnamed_same offers_same
  unnamed_after (queues word put offers_same) = unnamed_same offers_same
  unnamed_after (names head word b new phase in_hand' seat can won is) =
      λ offer stands. spare.unnamed offer (sym (ap (λ (f : ℕ → Option (Offer S)). f block) is ∙ with_beside b block new offers (λ e. apart (in_hand' ∙ ap Some (sym e)))) ∙ stands)
  unnamed_after (settles head word stop o phase of known won offers_same) = unnamed_same offers_same
  unnamed_after (completes head word outcome phase won offers_same) = unnamed_same offers_same
  unnamed_after (restarts head word o phase of dead won offers_same) = unnamed_same offers_same
  unnamed_after (executes b o stands is offers_same) = unnamed_same offers_same
  unnamed_after (beside entry is uses offers_same) = unnamed_same offers_same
  unnamed_after (enters list j entry fast is uses offers_same) = unnamed_same offers_same

  pub spare_kept : IsSpare after offers' block
  spare_kept = record { some = spare.some; unused = unused_after (does_of form world after offers hand laws holds offers' mover kind); unnamed = unnamed_after kind }
