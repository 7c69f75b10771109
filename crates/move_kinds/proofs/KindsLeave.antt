-- What every kind of move leaves to the other helpers.
use Rattle.std.proofs.Common.{◌≡◌, ◌≢◌, ℕ, Option, Some}
use Rattle.normal_traits.specs.World.{World}
use Rattle.normal_traits.specs.NormalForm.{NormalForm}
use Rattle.normal_traits.specs.Laws.{Laws}
use Rattle.offered_blocks.specs.Blocks.{Offer}
use Rattle.offered_blocks.specs.Holds.{HasOffers}
use Rattle.offered_blocks.specs.OtherSteps.{IsSpare}
use Rattle.move_kinds.specs.Moves.{Leaves}
use Rattle.move_kinds.specs.Kinds.{Kind}
use Rattle.move_kinds.proofs.Does.{Does, does_of, does_step, does_grow, offers_stay}
use Rattle.move_kinds.proofs.Touches.{hand_kept, notes_kept}
use Rattle.move_kinds.proofs.KindDeeds.{does_deed}

module _ {S W : Type 0} (form : NormalForm S W) (laws : Laws form) (world after : World) (offers offers' : ℕ → Option (Offer S)) (holds : HasOffers form world offers)
    (mover : ℕ) (hand : Option ℕ) (kind : Kind form world after offers offers' mover hand) where
  does : Does form world after offers hand
  does = does_of form world after offers hand laws holds offers' mover kind

  -- another seat's block in hand is spare, and isn't the mover's
  pub kind_leaves : (other : Option ℕ) → ((block : ℕ) → other ≡ Some block → IsSpare world offers block) → ((block : ℕ) → other ≡ Some block → hand ≢ Some block) → Leaves form world after offers offers' other
  kind_leaves other spare alone = record {
    step = does_step form world after offers hand does;
    grows = does_grow form world after offers hand does;
    offered = offers_stay form world after offers hand laws holds offers' mover kind;
    deeds = does_deed form laws world after offers holds hand does;
    notes = notes_kept form laws world after offers holds hand does;
    hand_stays = λ block in_hand. hand_kept form laws world after offers holds hand does block (spare block in_hand) (alone block in_hand);
  }
