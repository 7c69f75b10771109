-- A list whose first entry takes effect by a move is one that the mover holds, or one that a record in Executing names.
use Rattle.std.proofs.Common.{◌≡◌, refl, sym, subst, ap, ℕ, ◌⊎◌, inl, inr, List, ◌∷◌, slice_get, Option, Some}
use Rattle.step_memory.specs.declared.steps.Seen.{Seen}
use Rattle.normal_traits.specs.World.{Among, Listed, Took, Won, World}
use Rattle.normal_traits.specs.World.Maker.{By}
use Rattle.normal_traits.specs.NormalForm.{NormalForm}
use Rattle.normal_traits.specs.Laws.{Laws}
use Rattle.normal_traits.specs.Steps.{put_word}
use Rattle.cas_executor.specs.SlowRuns.{SlowWalk}
use Rattle.cas_executor_laws.proofs.RunTurns.{same_entry}
use Rattle.cas_executor_laws.proofs.OfferedPartsKept.{entry_at}
use Rattle.fast_slow_engine.specs.declared.setup.Setup.{Setup}
use Rattle.fast_slow_engine.specs.Mechs.{Mech}
use Rattle.fast_slow_engine.specs.Runs.{AreMoves, Move, run_of}
use Rattle.offered_blocks.specs.Blocks.{IsExecuting, Offer, has_taken}
use Rattle.offered_blocks.specs.HelperSteps.{Helps}
use Rattle.offered_blocks.proofs.Helpers.Executes.{Executes, Tells, taken_by}
use Rattle.offered_blocks.proofs.Helpers.Executes.Tells.{no_win, wins}
use Rattle.offered_blocks.proofs.Helpers.Helping.{helps_did}
use Rattle.offered_blocks.proofs.Helpers.OwnDeeds.{installs_named}
use Rattle.move_kinds.specs.Kinds.{Kind}
use Rattle.move_kinds.specs.Kinds.Kind.{quiet, counts, fills, announces, publishes, queues, names, settles, completes, restarts, executes, beside, enters}
use Rattle.kept_knowledge.specs.Ghosts.{Held, SeatGhost}
use Rattle.kept_knowledge.specs.RunGhosts.{ghost_of, world_of}
use Rattle.kept_knowledge.specs.Kept.{IsKept}
use Rattle.kept_knowledge.proofs.Words.Wins.{move_wins}
use Rattle.kept_knowledge.proofs.InRuns.Leaves.{kind}
use Rattle.run_invariant.proofs.Tells.NewChanges.{won_held}
use Rattle.run_invariant.proofs.Tells.Values.{beside_by, same_list}

-- what a list is that takes effect with a move, of a seat that holds this
pub data NewList {S : Type 0} (world : World) (held : Option (Held S)) (list : Listed) : Type 0 where
  of_mover : (own : Held S) → held ≡ Some own → own.list ≡ list → NewList world held list
  executed_now : IsExecuting world list → NewList world held list

module _ {S W : Type 0} (form : NormalForm S W) (laws : Laws form) (setup : Setup) (older : List Move) (move : Move) (mech : Mech S W) (are : AreMoves form setup (move ∷ older))
    (at : slice_get (run_of form setup older).mechs move.seat ≡ Some mech) (kept : IsKept form setup older) where
  abbrev world : World
  world = world_of form setup older

  abbrev after : World
  after = world_of form setup (move ∷ older)

  abbrev offers : ℕ → Option (Offer S)
  offers = (ghost_of form setup older).offers

  abbrev own : SeatGhost S
  own = (ghost_of form setup older).seats move.seat

  abbrev OldOrNew : Type 0
  OldOrNew = (list : Listed) → Took after list 0 → Took world list 0 ⊎ NewList world own.held list

  same_items : after.journal ≡ world.journal → OldOrNew
  same_items same list took = inl (record { entry = took.entry; cause = took.cause; listed = took.listed; won = subst (Among _) same took.won })

  put_items : (place put : ℕ) → after ≡ put_word place put world → OldOrNew
  put_items place put is = same_items (ap (λ (w : World). w.journal) is)

  new_item : (won : Won) → after.journal ≡ won ∷ world.journal → ((list : Listed) (j : ℕ) → By list j ≡ won.maker → NewList world own.held list) → OldOrNew
  new_item won grown gives list took =
      elim (subst (Among _) grown took.won) [
        | inl new ↦ inr (gives list 0 (ap (λ (w : Won). w.maker) new))
        | inr old ↦ inl (record { entry = took.entry; cause = took.cause; listed = took.listed; won = old })
      ]

  executes_item : (block : ℕ) (offer : Offer S) (walk : SlowWalk) (seen : Seen) → Executes form world after offers block offer walk seen → OldOrNew
  executes_item block offer walk seen is = by_tells is.tells
    where
      by_tells : Tells form world after offer.list walk seen → OldOrNew
      by_tells (no_win why same kept') = same_items same
      by_tells (wins installing won entry cause listed stood grown made) =
          let here = entry_at offer.list.entries walk.next is.knows.within in
          let one : entry ≡ here.0 = same_entry offer.list.entries walk.next entry here.0 listed here.1 in
          let executing : IsExecuting world offer.list =
          installs_named form world offers kept.holds.blocks block offer is.stands walk seen after.words (has_taken after.journal offer.list) is.knows is.made (taken_by form world after offer.list walk seen is.tells)
          (subst (λ e. world.words e.target ≡ e.from) one stood) in
          new_item (record { place = entry.target; before = entry.from; after = entry.to; maker = By offer.list walk.next; cause = cause }) grown
          (λ list j e. executed_now (subst (IsExecuting world) (sym (same_list list offer.list j walk.next e)) executing))

  helps_item : (block : ℕ) (offer : Offer S) → offers block ≡ Some offer → Helps form world offer after → OldOrNew
  helps_item block offer stands helps =
      elim (helps_did form laws world offers kept.holds block offer stands after helps) [
        | inl same ↦ same_items (ap (λ (w : World). w.journal) same)
        | inr did ↦ executes_item block offer _ did.2.0 did.2.1
      ]

  held_item : (list other : Listed) → list ≡ other → (h : Held S) × (own.held ≡ Some h) × (h.list ≡ other) → NewList world own.held list
  held_item list other same mine = subst (NewList world own.held) (sym same) (of_mover mine.0 mine.1 mine.2)

  kind_items : Kind form world after offers (ghost_of form setup (move ∷ older)).offers move.seat mech.hand → OldOrNew
  kind_items (quiet same o) = same_items (ap (λ (w : World). w.journal) same)
  kind_items (counts place put is w o) = put_items place put w
  kind_items (fills block field put in_hand spare small stored clear w o) = put_items _ put w
  kind_items (announces place put small is w o) = put_items place put w
  kind_items (publishes put small closed opens w o) = put_items _ put w
  kind_items (queues put w o) = put_items _ put w
  kind_items (names head word block offer generates in_hand seat can won is) = put_items _ _ won.after_is
  kind_items (settles head word stop offer executing of stopped won o) = put_items _ _ won.after_is
  kind_items (completes head word outcome from won o) = put_items _ _ won.after_is
  kind_items (restarts head word offer wrapping of gone won o) = put_items _ _ won.after_is
  kind_items (executes block offer stands is o) = helps_item block offer stands is
  kind_items (beside entry is uses o) = new_item _ is.journal (λ list j e. beside_by list j (sym e))
  kind_items (enters other j entry fast is uses o) =
      let mine = won_held form laws setup older move mech are at kept other j _ refl is.journal (λ block offer stands. is.beside block offer stands j) (move_wins form setup older move mech at) in
      new_item _ is.journal (λ list k e. held_item list other (same_list list other k j e) mine)

  pub new_lists : (list : Listed) → Took after list 0 → Took world list 0 ⊎ NewList world own.held list
  new_lists = kind_items (kind form laws setup older move mech are at kept)
