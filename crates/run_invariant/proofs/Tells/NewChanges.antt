-- A change that a move makes is of a list which the mover holds, or which a record in Executing names, or whose first entry took
-- effect before.
use Rattle.std.proofs.Common.{◌≡◌, ◌∙◌, refl, sym, subst, ap, ℕ, ◌==◌, ◌&&◌, Bool, true, false, ◌⊎◌, inl, inr, List, ◌∷◌, length, slice_get, Option, Some, None, arith}
use Rattle.std.proofs.lemmas.Bool.{eq-eqb}
use Rattle.normal_traits.specs.declared.lists.Entry.{Entry}
use Rattle.normal_traits.specs.World.{Among, Change, Listed, Took, Won, World}
use Rattle.normal_traits.specs.World.Maker.{By}
use Rattle.normal_traits.specs.NormalForm.{NormalForm}
use Rattle.normal_traits.specs.Laws.{Laws}
use Rattle.normal_traits.specs.Steps.{listed_if, with_change}
use Rattle.fast_slow_engine.specs.declared.setup.Setup.{Setup}
use Rattle.fast_slow_engine.specs.HelpWords.{named_block}
use Rattle.fast_slow_engine.specs.Mechs.{Mech}
use Rattle.fast_slow_engine.specs.Runs.{AreMoves, Move, begun, run_of}
use Rattle.offered_blocks.specs.Blocks.{IsExecuting, Offer, is_of}
use Rattle.offered_blocks.specs.HelperSteps.{Helps}
use Rattle.offered_blocks.proofs.Helpers.Helping.{helps_did}
use Rattle.move_kinds.specs.Kinds.{Kind}
use Rattle.move_kinds.specs.Kinds.Kind.{quiet, counts, fills, announces, publishes, queues, names, settles, completes, restarts, executes, beside, enters}
use Rattle.move_kinds.proofs.HelperChanges.{new_change}
use Rattle.kept_knowledge.specs.Ghosts.{Held, SeatGhost}
use Rattle.kept_knowledge.specs.RunGhosts.{ghost_of, world_of}
use Rattle.kept_knowledge.specs.Kept.{IsKept}
use Rattle.kept_knowledge.proofs.Names.Journal.{same_maker}
use Rattle.kept_knowledge.proofs.Words.Moved.{seen_by}
use Rattle.kept_knowledge.proofs.Words.Wins.{Wins, move_wins}
use Rattle.kept_knowledge.proofs.Words.Wins.Wins.{nothing, beside as besides, takes, installed}
use Rattle.kept_knowledge.proofs.InRuns.Leaves.{kind}
use Rattle.run_invariant.proofs.Tells.Values.{beside_by}

no_longer : {A X : Type 0} (x : X) (xs : List X) → xs ≡ x ∷ xs → A
no_longer x xs same = (let long = ap length same in absurd (omega (arith, long)))

first_same : {X : Type 0} (x y : X) (xs ys : List X) → x ∷ xs ≡ y ∷ ys → x ≡ y
first_same x y xs ys same = cc

pub not_both : {A : Type 0} (b : Bool) → b ≡ true → b ≡ false → A
not_both b on off = absurd cc

of_itself : (list : Listed) (j : ℕ) → is_of list j (By list j) ≡ true
of_itself list j = ap (λ b. b && (j == j)) (eq-eqb list.identity list.identity refl) ∙ eq-eqb j j refl

-- what a list is that makes a change with a move, of a seat that holds this
pub data NewOf {S : Type 0} (world after : World) (held : Option (Held S)) (change : Change) : Type 0 where
  of_mover : (own : Held S) → held ≡ Some own → own.list ≡ change.list → NewOf world after held change
  executed : IsExecuting world change.list → NewOf world after held change
  took : Took world change.list 0 → after.changes ≡ change ∷ world.changes → NewOf world after held change

module _ {S W : Type 0} (form : NormalForm S W) (laws : Laws form) (setup : Setup) (older : List Move) (move : Move) (mech : Mech S W) (are : AreMoves form setup (move ∷ older))
    (at : slice_get (run_of form setup older).mechs move.seat ≡ Some mech) (kept : IsKept form setup older) where
  abbrev world : World
  world = world_of form setup older

  abbrev after : World
  after = world_of form setup (move ∷ older)

  abbrev offers : ℕ → Option (Offer S)
  offers = (ghost_of form setup older).offers

  abbrev own : SeatGhost S
  own = (ghost_of form setup older).seats move.seat

  abbrev Old : Type 0
  Old = (change : Change) → Among change after.changes → Among change world.changes ⊎ NewOf world after own.held change

  same_changes : after.changes ≡ world.changes → Old
  same_changes same change among = inl (subst (Among change) same among)

  -- ---- a helper

  helps_new : (block : ℕ) (offer : Offer S) → offers block ≡ Some offer → Helps form world offer after → Old
  helps_new block offer stands helps change among =
      elim (helps_did form laws world offers kept.holds block offer stands after helps) [
        | inl same ↦ inl (subst (λ (w : World). Among change w.changes) same among)
        | inr did ↦ elim (new_change form world after offers kept.holds.blocks block offer _ did.2.0 did.2.1 change among) [
          | inl old ↦ inl old
          | inr made ↦ inr (executed (subst (IsExecuting world) (sym made.0) made.1))
        ]
      ]

  -- ---- a search or a wrap-up

  beside_new : (list : Option Listed) (entry : Entry) → form.adds_beside world entry ≡ list → after.changes ≡ with_change form.object list world.changes → Old
  beside_new None entry adds made change among = same_changes made change among
  beside_new (Some list) entry adds made change among =
      elim (subst (Among change) made among) [
        | inl new ↦ inr (took (subst (λ (c : Change). Took world c.list 0) (sym new) (laws.of_world.beside world list entry kept.holds.shape adds).1) (made ∙ ap (λ (c : Change). c ∷ world.changes) (sym new)))
        | inr old ↦ inl old
      ]

  -- ---- the own list

  -- an exchange of a list that no record has named is of that which the mover holds
  pub won_held : (list : Listed) (j : ℕ) (won : Won) → won.maker ≡ By list j → after.journal ≡ won ∷ world.journal → ((block : ℕ) (offer : Offer S) → offers block ≡ Some offer → is_of offer.list j (By list j) ≡ false)
      → Wins (begun move.begins mech).phase own.held offers (seen_by form setup older move mech) world after → (h : Held S) × (own.held ≡ Some h) × (h.list ≡ list)
  won_held list j won maker came apart (nothing missed journal used) = no_longer won world.journal (sym journal ∙ came)
  won_held list j won maker came apart (besides other away by journal used) =
      beside_by list j (sym by ∙ ap (λ (w : Won). w.maker) (first_same other won world.journal world.journal (sym journal ∙ came)) ∙ maker)
  won_held list j won maker came apart (takes run stores h entry cause is holds next on journal used) =
      (h, holds, (same_maker h.list list run.next j (ap (λ (w : Won). w.maker) (first_same _ won world.journal world.journal (sym journal ∙ came)) ∙ maker)).0)
  won_held list j won maker came apart (installed drives head seats word run offer entry cause is stands next on journal used) =
      let same : offer.list ≡ list = (same_maker offer.list list run.next j (ap (λ (w : Won). w.maker) (first_same _ won world.journal world.journal (sym journal ∙ came)) ∙ maker)).0 in
      not_both (is_of offer.list j (By list j)) (subst (λ (l : Listed). is_of l j (By list j) ≡ true) (sym same) (of_itself list j)) (apart (named_block word) offer stands)

  enters_new : (adds : Bool) (list : Listed) → (h : Held S) × (own.held ≡ Some h) × (h.list ≡ list) → after.changes ≡ with_change form.object (listed_if adds list) world.changes → Old
  enters_new false list mine made change among = same_changes made change among
  enters_new true list mine made change among =
      elim (subst (Among change) made among) [ inl new ↦ inr (of_mover mine.0 mine.1 (mine.2 ∙ sym (ap (λ (c : Change). c.list) new))) | inr old ↦ inl old ]

  -- ---- every kind

  kind_new : Kind form world after offers (ghost_of form setup (move ∷ older)).offers move.seat mech.hand → Old
  kind_new (quiet same o) = same_changes (ap (λ (w : World). w.changes) same)
  kind_new (counts place put is w o) = same_changes (ap (λ (w : World). w.changes) w)
  kind_new (fills block field put in_hand spare small stored clear w o) = same_changes (ap (λ (w : World). w.changes) w)
  kind_new (announces place put few is w o) = same_changes (ap (λ (w : World). w.changes) w)
  kind_new (publishes put few closed opens w o) = same_changes (ap (λ (w : World). w.changes) w)
  kind_new (queues put w o) = same_changes (ap (λ (w : World). w.changes) w)
  kind_new (names head loaded block offer generates in_hand seat can won is) = same_changes (ap (λ (w : World). w.changes) won.after_is)
  kind_new (settles head loaded stop offer executing of stopped won o) = same_changes (ap (λ (w : World). w.changes) won.after_is)
  kind_new (completes head loaded outcome from won o) = same_changes (ap (λ (w : World). w.changes) won.after_is)
  kind_new (restarts head loaded offer wrapping of is_dead won o) = same_changes (ap (λ (w : World). w.changes) won.after_is)
  kind_new (executes block offer stands is o) = helps_new block offer stands is
  kind_new (beside entry is uses o) = beside_new (form.adds_beside world entry) entry refl is.changes
  kind_new (enters list j entry fast is uses o) =
      enters_new (form.adds list j) list (won_held list j _ refl is.journal (λ block offer stands. is.beside block offer stands j) (move_wins form setup older move mech at)) is.changes

  pub new_changes : (change : Change) → Among change after.changes → Among change world.changes ⊎ NewOf world after own.held change
  new_changes = kind_new (kind form laws setup older move mech are at kept)
