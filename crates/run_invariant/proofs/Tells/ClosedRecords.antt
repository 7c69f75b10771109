-- While the record of a seat is closed, a move makes no change of a call of the seat but by the list that the seat holds.
use Rattle.std.proofs.Common.{◌≡◌, ◌∙◌, sym, subst, ap, ℕ, ◌<◌, false, ◌⊎◌, inl, inr, List, ◌∷◌, slice_get, Option, Some, None, AllPairs}
use Rattle.std.proofs.lemmas.Bool.{cases_eq}
use Rattle.word_fields.specs.declared.records.RecordPhase.{RecordPhase as Mark}
use Rattle.word_fields.specs.declared.records.RecordPhase.TheVariants.{Executing, Wrapping}
use Rattle.word_fields.specs.Records.{record_number, record_phase}
use Rattle.node_arena.specs.MemoryMap.{record_place}
use Rattle.help_queue.specs.Gathers.{is_open}
use Rattle.normal_traits.specs.World.{Among, Called, Change, Listed, Took, World}
use Rattle.normal_traits.specs.NormalForm.{NormalForm}
use Rattle.normal_traits.specs.Laws.{Laws}
use Rattle.fast_slow_engine.specs.declared.setup.Setup.{Setup}
use Rattle.fast_slow_engine.specs.Mechs.{Mech}
use Rattle.fast_slow_engine.specs.Runs.{AreMoves, Move, begun, run_of}
use Rattle.offered_blocks.specs.Blocks.{record_for}
use Rattle.move_kinds.specs.Owned.{IsOwned}
use Rattle.move_kinds.specs.Owned.IsOwned.{unannounced, named, dead, changed}
use Rattle.kept_knowledge.specs.Ghosts.{Held}
use Rattle.kept_knowledge.specs.Lists.{HoldsIn}
use Rattle.kept_knowledge.specs.RunGhosts.{ghost_of, world_of}
use Rattle.kept_knowledge.specs.Kept.{IsKept, held_in_seats}
use Rattle.kept_knowledge.specs.Tells.{IsFollowed}
use Rattle.kept_knowledge.specs.Tells.IsFollowed.{with_seat, dead as is_dead, changed as has_changed}
use Rattle.kept_knowledge.proofs.InRuns.Leaves.{allowed}
use Rattle.kept_knowledge.proofs.InRuns.Rests.{known}
use Rattle.kept_knowledge.proofs.Counted.ChangesBelow.{DifferentLists, first_differs, held_call}
use Rattle.run_invariant.proofs.Tells.NewChanges.{NewOf, new_changes}
use Rattle.run_invariant.proofs.Tells.NewChanges.NewOf.{of_mover, executed, took}

pub none_some : {A X : Type 0} (list : Option X) (x : X) → list ≡ None → list ≡ Some x → A
none_some list x empty some = absurd cc

pub open_not : {A : Type 0} (mark : Mark) → is_open mark ≡ false → (mark ≡ Executing) ⊎ (mark ≡ Wrapping) → A
open_not mark closed (inl executing) = absurd (let e = ap is_open (sym executing) ∙ closed in cc)
open_not mark closed (inr wrapping) = absurd (let e = ap is_open (sym wrapping) ∙ closed in cc)

module _ {S W : Type 0} (form : NormalForm S W) (laws : Laws form) (setup : Setup) (older : List Move) (move : Move) (mech : Mech S W) (are : AreMoves form setup (move ∷ older))
    (at : slice_get (run_of form setup older).mechs move.seat ≡ Some mech) (kept : IsKept form setup older) where
  abbrev world : World
  world = world_of form setup older

  abbrev after : World
  after = world_of form setup (move ∷ older)

  abbrev held_by : ℕ → Option (Held S)
  held_by = held_in_seats (ghost_of form setup older)

  shape : form.shape after
  shape = laws.shape_kept world after kept.holds.shape (allowed form laws setup older move mech are at kept)

  -- a dead list makes no change
  dead_not : {A : Type 0} (change : Change) → Among change after.changes → form.dead change.list world → A
  dead_not change among gone =
      absurd (laws.of_world.dead_unchanged after change.list change shape (laws.dead_kept world after change.list kept.holds.shape gone (allowed form laws setup older move mech are at kept)) among (λ i. change.list))

  -- and a list that made its change makes no other
  once : {A : Type 0} (change old : Change) → after.changes ≡ change ∷ world.changes → Among old world.changes → old.list ≡ change.list → A
  once change old made among of =
      absurd (first_differs change world.changes old (subst (AllPairs DifferentLists) made (laws.of_world.one_change_a_list after shape)) among (ap (λ (l : Listed). l.identity) (sym of)))

  -- what the seat of a list holds, if it is that list
  abbrev With : Listed → Type 0
  With list = (h : Held S) × (held_by list.call.seat ≡ Some h) × (h.list ≡ list)

  followed_new : (change : Change) → Among change after.changes → after.changes ≡ change ∷ world.changes → IsFollowed form world held_by change.list → With change.list
  followed_new change among made (with_seat own holds same) = (own, holds, same)
  followed_new change among made (is_dead gone) = dead_not change among gone
  followed_new change among made (has_changed old before of) = once change old made before of

  owned_not : {A : Type 0} (change : Change) → Among change after.changes → after.changes ≡ change ∷ world.changes → is_open (record_phase (record_for world change.list)) ≡ false
      → record_number (record_for world change.list) ≡ change.list.call.number → IsOwned form world (ghost_of form setup older).offers change.list → A
  owned_not change among made closed same (unannounced fast) = absurd (fast.1 same)
  owned_not change among made closed same (named now) = open_not _ closed now.phase
  owned_not change among made closed same (dead gone) = dead_not change among gone
  owned_not change among made closed same (changed old before of) = once change old made before of

  took_new : (change : Change) → Among change after.changes → change.list.call.seat < 8 → is_open (record_phase (record_for world change.list)) ≡ false → Took world change.list 0
      → after.changes ≡ change ∷ world.changes → With change.list
  took_new change among few closed before made =
      elim (cases_eq (record_number (record_for world change.list)) change.list.call.number) [
        | inl same ↦ owned_not change among made closed same (kept.owned change.list before)
        | inr differs ↦ followed_new change among made (kept.followed change.list before (few, differs))
      ]

  list_new : (change : Change) → Among change after.changes → change.list.call.seat < 8 → is_open (record_phase (record_for world change.list)) ≡ false
      → NewOf world after ((ghost_of form setup older).seats move.seat).held change → With change.list
  list_new change among few closed (of_mover own holds same) =
      let k = known form laws setup older move mech are at kept in
      let call = held_call form (begun move.begins mech).phase (begun move.begins mech) own (subst (HoldsIn form (begun move.begins mech).phase (begun move.begins mech)) holds k.lists) in
      let seat : change.list.call.seat ≡ move.seat = ap (λ (l : Listed). l.call.seat) (sym same) ∙ ap (λ (c : Called). c.seat) call ∙ k.seat_is in
      (own, subst (λ s. held_by s ≡ Some own) (sym seat) holds, same)
  list_new change among few closed (executed is) = open_not _ closed (inl is.phase)
  list_new change among few closed (took before made) = took_new change among few closed before made

  pub closed_new : (seat : ℕ) → seat < 8 → is_open (record_phase (world.words (record_place seat))) ≡ false → (change : Change) → Among change after.changes → change.list.call.seat ≡ seat
      → Among change world.changes ⊎ ((h : Held S) × (held_by seat ≡ Some h) × (h.list ≡ change.list))
  closed_new seat few closed change among of =
      elim (new_changes form laws setup older move mech are at kept change among) [
        | inl old ↦ inl old
        | inr new ↦
            inr (subst (λ s. (h : Held S) × (held_by s ≡ Some h) × (h.list ≡ change.list)) of
            (list_new change among (subst (λ s. s < 8) (sym of) few) (subst (λ s. is_open (record_phase (world.words (record_place s))) ≡ false) (sym of) closed) new))
      ]
