-- The laws, from the lemmas on kinds.
use Rattle.std.proofs.Common.{◌≡◌, sym, subst, ℕ, inl, inr, Option, Some, None}
use Rattle.normal_traits.specs.World.{Among, World}
use Rattle.normal_traits.specs.NormalForm.{NormalForm}
use Rattle.normal_traits.specs.Laws.{Laws}
use Rattle.offered_blocks.specs.Blocks.{Offer}
use Rattle.offered_blocks.specs.Holds.{HasOffers}
use Rattle.offered_blocks.proofs.Helpers.Helping.{helps_did}
use Rattle.move_kinds.specs.KindLaws as law
use Rattle.move_kinds.specs.Kinds.{Kind}
use Rattle.move_kinds.specs.Moves.{Leaves, NotesStay}
use Rattle.move_kinds.proofs.Contents.{contents_kept}
use Rattle.move_kinds.proofs.Does.{does_of, does_step}
use Rattle.move_kinds.proofs.HelperChanges.{none_new, new_named}
use Rattle.move_kinds.proofs.KindsKeep.{kind_kept}
use Rattle.move_kinds.proofs.KindsLeave.{kind_leaves}
use Rattle.move_kinds.proofs.MayMake.{may_make, record_kept}
use Rattle.move_kinds.proofs.OwnedKinds.{kind_owned}
use Rattle.move_kinds.proofs.SpareKept as spare
use Rattle.move_kinds.proofs.TellsKept.{tells_still}

none_in : {A : Type 0} (block : ℕ) → None ≡ Some block → A
none_in block e = absurd cc

module _ {S W : Type 0} (form : NormalForm S W) (laws : Laws form) where
  pub kinds_keep_blocks : law.KindsKeepBlocks form
  kinds_keep_blocks world after offers offers' mover hand holds kind =
      (does_step form world after offers hand (does_of form world after offers hand laws holds offers' mover kind), kind_kept form laws world offers holds after offers' mover hand kind)

  pub kinds_keep_spare : law.KindsKeepSpare form
  kinds_keep_spare world after offers offers' mover hand block holds kind spare' apart = spare.spare_kept form laws world after offers offers' holds mover hand kind block spare' apart

  pub kinds_leave : law.KindsLeave form
  kinds_leave world after offers offers' mover hand other holds kind spare' alone = kind_leaves form laws world after offers offers' holds mover hand kind other spare' alone

  -- what a move leaves to a seat with no block in hand
  leaves_none : (world after : World) (offers offers' : ℕ → Option (Offer S)) (mover : ℕ) (hand : Option ℕ) → HasOffers form world offers → Kind form world after offers offers' mover hand → Leaves form world after offers offers' None
  leaves_none world after offers offers' mover hand holds kind = kind_leaves form laws world after offers offers' holds mover hand kind None (λ block e. none_in block e) (λ block e. none_in block e)

  pub kinds_keep_contents : law.KindsKeepContents form
  kinds_keep_contents world after offers offers' mover hand block offer holds kind stands has =
      let leaves = leaves_none world after offers offers' mover hand holds kind in
      let same = (holds.blocks.offered block offer stands).block_is in
      (leaves.offered block offer stands, contents_kept world after offer (subst (λ b. NotesStay b world after) (sym same) (leaves.notes block offer stands)) has)

  pub helpers_change_named : law.HelpersChangeNamed form
  helpers_change_named world after offers block offer call begun holds stands helps =
      elim (helps_did form laws world offers holds block offer stands after helps) [
        | inl same ↦ (
          λ other change among of. subst (λ (w : World). Among change w.changes) same among,
          λ names change among of. inl (subst (λ (w : World). Among change w.changes) same among),
        )
        | inr did ↦ (
          none_new form world after offers holds.blocks block offer _ did.2.0 did.2.1 call,
          new_named form world after offers holds.blocks block offer _ did.2.0 did.2.1 call begun,
        )
      ]

  pub kinds_keep_telling : law.KindsKeepTelling form
  kinds_keep_telling world after offers offers' mover hand call begun at payload told holds kind new tells =
      tells_still form laws world after offers offers' holds (leaves_none world after offers offers' mover hand holds kind) call begun at payload told new tells

  pub records_kept : law.RecordsKept form
  records_kept world after offers offers' mover hand call begun holds owned kind number = (
    may_make form laws world after offers offers' holds owned mover hand call begun number kind,
    record_kept form laws world after offers offers' holds owned mover hand call begun number kind,
  )

  pub owners_kept : law.OwnersKept form
  owners_kept world after offers offers' mover hand holds kind none owned = kind_owned form laws world after offers offers' holds mover hand kind none owned
