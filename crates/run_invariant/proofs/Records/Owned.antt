-- Each list that took effect is owned after a move: where a seat announces a call, its lists of that call are dead or have made
-- their change.
use Rattle.std.proofs.Common.{◌≡◌, ◌∙◌, refl, sym, subst, ap, ℕ, ◌<◌, ◌⊎◌, false, inl, inr, List, ◌∷◌, slice_get, Option, Some, None, arith}
use Rattle.word_fields.specs.declared.records.RecordPhase.TheVariants as marks
use Rattle.word_fields.specs.Records.{record_number, record_phase}
use Rattle.word_fields.proofs.RecordWords.{number-word}
use Rattle.node_arena.specs.MemoryMap.{record_place}
use Rattle.help_queue.specs.Gathers.{is_open}
use Rattle.normal_traits.specs.World.{Among, Change, Listed, World}
use Rattle.normal_traits.specs.NormalForm.{NormalForm}
use Rattle.normal_traits.specs.Laws.{Laws}
use Rattle.normal_traits.proofs.Stays.{word_put}
use Rattle.fast_slow_engine.specs.declared.phases.Announcing.TheVariants as announcing
use Rattle.fast_slow_engine.specs.declared.phases.Phase.{Phase}
use Rattle.fast_slow_engine.specs.declared.phases.Phase.TheVariants as phase
use Rattle.fast_slow_engine.specs.declared.setup.Setup.{Setup}
use Rattle.fast_slow_engine.specs.Mechs.{Mech}
use Rattle.fast_slow_engine.specs.Runs.{AreMoves, Move, begun, run_of}
use Rattle.offered_blocks.specs.Blocks.{Offer}
use Rattle.move_kinds.specs.Kinds.{Kind}
use Rattle.move_kinds.specs.Kinds.Kind.{quiet, counts, fills, announces, publishes, queues, names, settles, completes, restarts, executes, beside, enters}
use Rattle.move_kinds.specs.Owned.{AllOwned, AnnouncesNone, LeavesNone}
use Rattle.move_kinds.proofs.LawsOfKinds.{owners_kept}
use Rattle.run_queue.specs.Premises.{KeepsQueue}
use Rattle.kept_knowledge.specs.Ghosts.{SeatGhost}
use Rattle.kept_knowledge.specs.Lists.{HoldsIn}
use Rattle.kept_knowledge.specs.RunGhosts.{ghost_of, world_of}
use Rattle.kept_knowledge.specs.Moves.{is_unannounced}
use Rattle.kept_knowledge.specs.Kept.{IsKept, held_in_seats}
use Rattle.kept_knowledge.specs.Tells.{IsFollowed}
use Rattle.kept_knowledge.specs.Tells.IsFollowed.{with_seat, dead as is_dead, changed as has_changed}
use Rattle.kept_knowledge.proofs.InRuns.Leaves.{kind}
use Rattle.kept_knowledge.proofs.InRuns.Rests.{known, rests_move}
use Rattle.run_invariant.proofs.Tells.ClosedRecords.{none_some}
use Rattle.run_invariant.proofs.Tells.NewChanges.{not_both}
use Rattle.run_invariant.proofs.Records.RecordMoves.{RecordMoves, record_moves}
use Rattle.run_invariant.proofs.Records.RecordMoves.RecordMoves.{stays, won, announced}

module _ {S W : Type 0} (form : NormalForm S W) (world after : World) (offers offers' : ℕ → Option (Offer S)) (mover : ℕ) (hand : Option ℕ) where
  -- whatever the kind of a move, it announces none but by the record word that stands after it
  announces_none : (kind : Kind form world after offers offers' mover hand)
      → (is_open (record_phase (world.words (record_place mover))) ≡ false → record_phase (after.words (record_place mover)) ≡ marks.Generate → LeavesNone form world mover (record_number (after.words (record_place mover))))
      → AnnouncesNone form kind
  announces_none (publishes word small closed opens put o) none =
      let now : after.words (record_place mover) ≡ word = ap (λ (w : World). w.words (record_place mover)) put ∙ word_put (record_place mover) word world.words (record_place mover) refl in
      subst (λ w. LeavesNone form world mover (record_number w)) now (none closed (ap record_phase now ∙ opens))
  announces_none (quiet same o) none = tt
  announces_none (counts place put is w o) none = tt
  announces_none (fills block field put in_hand spare small stored clear w o) none = tt
  announces_none (announces place put small is w o) none = tt
  announces_none (queues put w o) none = tt
  announces_none (names head word block offer generates in_hand seat can won' is) none = tt
  announces_none (settles head word stop offer executing of stopped won' o) none = tt
  announces_none (completes head word outcome from won' o) none = tt
  announces_none (restarts head word offer wrapping of gone won' o) none = tt
  announces_none (executes block offer stands is o) none = tt
  announces_none (beside entry is uses o) none = tt
  announces_none (enters list j entry fast is uses o) none = tt

module _ {S W : Type 0} (form : NormalForm S W) (laws : Laws form) (setup : Setup) (older : List Move) (move : Move) (mech : Mech S W) (are : AreMoves form setup (move ∷ older))
    (at : slice_get (run_of form setup older).mechs move.seat ≡ Some mech) (kept : IsKept form setup older) (keeps : KeepsQueue form setup (move ∷ older)) where
  abbrev world : World
  world = world_of form setup older

  abbrev after : World
  after = world_of form setup (move ∷ older)

  abbrev one : Mech S W
  one = begun move.begins mech

  abbrev own : SeatGhost S
  own = (ghost_of form setup older).seats move.seat

  followed_left : (list : Listed) → list.call.seat ≡ move.seat → own.held ≡ None → IsFollowed form world (held_in_seats (ghost_of form setup older)) list → form.dead list world ⊎ ((change : Change) × Among change world.changes × (change.list ≡ list))
  followed_left list seat empty (with_seat h holds same) = none_some own.held h empty (subst (λ s. held_in_seats (ghost_of form setup older) s ≡ Some h) seat holds)
  followed_left list seat empty (is_dead gone) = inl gone
  followed_left list seat empty (has_changed change among of) = inr (change, among, of)

  -- the lists of a call that its seat announces now
  announced_left : one.phase ≡ phase.Announce announcing.Record → LeavesNone form world move.seat one.number
  announced_left is list took seat number =
      let k = known form laws setup older move mech are at kept in
      let rests = rests_move form laws setup older move mech are at kept in
      let before = subst (λ s. record_number (world.words (record_place s)) < one.number) (k.seat_is ∙ sym seat) (rests.earlier (ap is_unannounced is)) in
      let few = subst (λ s. s < 8) (k.seat_is ∙ sym seat) k.few in
      followed_left list seat (subst (λ (p : Phase S W). HoldsIn form p one own.held) is k.lists) (kept.followed list took (few, λ e. omega (arith, before, e, number)))

  leaves_none : RecordMoves form laws setup older move mech are at kept move.seat → is_open (record_phase (world.words (record_place move.seat))) ≡ false → record_phase (after.words (record_place move.seat)) ≡ marks.Generate
      → LeavesNone form world move.seat (record_number (after.words (record_place move.seat)))
  leaves_none (stays same) closed generates = not_both (is_open (record_phase (world.words (record_place move.seat)))) (ap (λ w. is_open (record_phase w)) (sym same) ∙ ap is_open generates) closed
  leaves_none (won drives help call since is makes there opened tells) closed generates = not_both (is_open (record_phase (world.words (record_place move.seat)))) opened closed
  leaves_none (announced is here made same) closed generates =
      let rests = rests_move form laws setup older move mech are at kept in
      let now : record_number (after.words (record_place move.seat)) ≡ one.number =
      ap (λ s. record_number (after.words (record_place s))) here ∙ ap (λ (w : World). record_number (w.words (record_place one.seat))) made
      ∙ ap record_number (word_put (record_place one.seat) _ world.words (record_place one.seat) refl) ∙ number-word marks.Generate one.number 0 0 rests.number in
      subst (LeavesNone form world move.seat) (sym now) (announced_left is)

  pub owned_after : AllOwned form after (ghost_of form setup (move ∷ older)).offers
  owned_after =
      let k = known form laws setup older move mech are at kept in
      let made = kind form laws setup older move mech are at kept in
      owners_kept form laws world after (ghost_of form setup older).offers (ghost_of form setup (move ∷ older)).offers move.seat mech.hand kept.holds made
      (announces_none form world after (ghost_of form setup older).offers (ghost_of form setup (move ∷ older)).offers move.seat mech.hand made
      (leaves_none (record_moves form laws setup older move mech are at kept keeps move.seat (subst (λ s. s < 8) k.seat_is k.few)))) kept.owned
