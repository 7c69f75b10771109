-- Each named block holds the operation and the list of its call, after a move: a block that is named by it was filled.
use Rattle.std.proofs.Common.{◌≡◌, ◌∙◌, refl, sym, subst, ap, ℕ, ◌^◌, ◌<◌, ◌⊎◌, ◌==◌, inl, inr, if◌then◌else◌, Bool, true, false, List, ◌∷◌, length, slice_get, Option, Some, None, arith}
use Rattle.std.proofs.lemmas.Bool.{cases_eq}
use Rattle.std.proofs.lemmas.Bool.Decides.{nat_tests}
use Rattle.step_memory.specs.declared.steps.Seen.{Seen}
use Rattle.step_memory.specs.Step.{seen_of}
use Rattle.word_fields.specs.declared.records.RecordPhase.TheVariants.{Completed, Generate, Wrapping}
use Rattle.word_fields.specs.Records.{record_phase}
use Rattle.word_fields.proofs.RecordWords.{phase-word}
use Rattle.node_arena.specs.MemoryMap.{block_place, record_place}
use Rattle.node_arena.proofs.PlacesApart.{block_place_behind}
use Rattle.normal_traits.specs.World.{World, is_word}
use Rattle.normal_traits.specs.NormalForm.{NormalForm}
use Rattle.normal_traits.specs.Laws.{Laws}
use Rattle.normal_traits.proofs.Stays.{word_beside}
use Rattle.fast_slow_engine.specs.declared.phases.Phase.{Phase}
use Rattle.fast_slow_engine.specs.declared.phases.Phase.TheVariants as phase
use Rattle.fast_slow_engine.specs.declared.setup.Setup.{Setup}
use Rattle.fast_slow_engine.specs.declared.help.Helping.{Helping}
use Rattle.fast_slow_engine.specs.declared.help.Helping.TheVariants.{Record, Known, Remove}
use Rattle.fast_slow_engine.specs.declared.help.Work.{Work}
use Rattle.fast_slow_engine.specs.declared.help.Work.TheVariants as work
use Rattle.fast_slow_engine.specs.HelpWords.{is_executing, named_block}
use Rattle.fast_slow_engine.specs.Mechs.{Mech}
use Rattle.fast_slow_engine.specs.PhaseTable.{mech_request}
use Rattle.fast_slow_engine.specs.Runs.{AreMoves, Move, begun, run_of}
use Rattle.offered_blocks.specs.Blocks.{Offer}
use Rattle.offered_blocks.specs.Holds.{HasOffers}
use Rattle.move_kinds.specs.Contents.{HasContents}
use Rattle.move_kinds.specs.Moves.{NotesStay}
use Rattle.move_kinds.proofs.Contents.{contents_kept}
use Rattle.move_kinds.proofs.LawsOfKinds.{kinds_keep_contents}
use Rattle.helper_knowledge.specs.Callers.{Caller}
use Rattle.helper_knowledge.specs.Carried.{Carried, OfSome}
use Rattle.helper_knowledge.specs.Knowing.{KnowsOffer}
use Rattle.helper_knowledge.specs.Meetings.{offers_if, won_world}
use Rattle.helper_knowledge.specs.WorkKnown.{KnowsWork, MayAdvance}
use Rattle.helper_knowledge.specs.WorkKnown.MayAdvance.{offers_it, answers, exhausts, settles, completes, restarts}
use Rattle.helper_knowledge.proofs.LawsOfHelpers.{filled_holds}
use Rattle.run_knowledge.specs.Ghosts.{SeatGhost}
use Rattle.run_knowledge.specs.RunGhosts.{ghost_of, world_of}
use Rattle.run_knowledge.specs.Known.{KnowsHelp, KnowsIn}
use Rattle.run_knowledge.specs.Moves.{Advances, HelpSteps, StepsIn, WorkSteps}
use Rattle.run_knowledge.specs.Moves.Advances.{lost, won}
use Rattle.run_knowledge.specs.InMemory.{PhaseInside}
use Rattle.run_knowledge.specs.Kept.{AllContents, IsKept, callers_in}
use Rattle.run_knowledge.proofs.Bounds.InKept.{words_small}
use Rattle.run_knowledge.proofs.InRuns.Leaves.{kind}
use Rattle.run_knowledge.proofs.InRuns.MoveSteps.{moves_step}
use Rattle.run_knowledge.proofs.InRuns.MovesKinds.{is_inside}
use Rattle.run_knowledge.proofs.InRuns.Rests.{known}

same_some : {A : Type 0} (x y : A) → Some x ≡ Some y → x ≡ y
same_some x y e = cc

-- a list that is named now was named before, or is the one that is given
named_before : {S : Type 0} (executing : Bool) (block : ℕ) (filled : Option (Offer S)) (offers : ℕ → Option (Offer S)) (at : ℕ) (offer : Offer S) → offers_if executing block filled offers at ≡ Some offer
    → (offers at ≡ Some offer) ⊎ ((executing ≡ true) × (filled ≡ Some offer))
named_before false block filled offers at offer is = inl is
named_before true block None offers at offer is = inl is
named_before true block (Some own) offers at offer is =
    elim (cases_eq at block) [
      | inl same ↦ (let test : (at == block) ≡ true = grind (arith, nat_tests) in inr (refl, sym (ap (λ b. if b then Some own else offers at) test) ∙ is))
      | inr apart ↦ (let test : (at == block) ≡ false = grind (arith, nat_tests) in inl (sym (ap (λ b. if b then Some own else offers at) test) ∙ is))
    ]

module _ {S W : Type 0} (form : NormalForm S W) (laws : Laws form) (world : World) (offers : ℕ → Option (Offer S)) (holds : HasOffers form world offers) (bounded : (place : ℕ) → is_word form.is_root world place ≡ true → place < 2 ^ 32) where
  -- the block of a list that a record is about to name is filled for it
  filled_block : (caller : Caller) (head word : ℕ) (hand : Option ℕ) (filled : Option (Offer S)) (to : ℕ) (offer : Offer S) → MayAdvance form world offers caller head word hand filled to → is_executing (record_phase to) ≡ true → filled ≡ Some offer
      → HasContents world offer
  filled_block caller head word hand filled to offer (offers_it block stores generates in_hand is knows) executing has =
      filled_holds form laws world offers caller head word block stores offer holds bounded (subst (OfSome (KnowsOffer form world caller head word block stores (length stores))) has knows)
  filled_block caller head word hand filled to offer (answers since op outcome generates is fits knows) executing has =
      absurd (let both : true ≡ false = sym executing ∙ ap (λ w. is_executing (record_phase w)) is ∙ ap is_executing (phase-word Completed _ _ _) in cc)
  filled_block caller head word hand filled to offer (exhausts generates is) executing has =
      absurd (let both : true ≡ false = sym executing ∙ ap (λ w. is_executing (record_phase w)) is ∙ ap is_executing (phase-word Completed _ _ _) in cc)
  filled_block caller head word hand filled to offer (settles stop mate executes of is stopped) executing has =
      absurd (let both : true ≡ false = sym executing ∙ ap (λ w. is_executing (record_phase w)) is ∙ ap is_executing (phase-word Wrapping _ _ _) in cc)
  filled_block caller head word hand filled to offer (completes outcome mate wraps of is fits by fixed) executing has =
      absurd (let both : true ≡ false = sym executing ∙ ap (λ w. is_executing (record_phase w)) is ∙ ap is_executing (phase-word Completed _ _ _) in cc)
  filled_block caller head word hand filled to offer (restarts mate wraps of is gone) executing has =
      absurd (let both : true ≡ false = sym executing ∙ ap (λ w. is_executing (record_phase w)) is ∙ ap is_executing (phase-word Generate _ _ _) in cc)

  module _ (after : World) (offers' : ℕ → Option (Offer S)) (callers : ℕ → Caller) where
    -- a named block was named before, or holds what its list asks for
    abbrev Comes : Type 0
    Comes = (block : ℕ) (offer : Offer S) → offers' block ≡ Some offer → (offers block ≡ Some offer) ⊎ HasContents after offer

    same_offers : offers' ≡ offers → Comes
    same_offers same block offer stands = inl (ap (λ (o : ℕ → Option (Offer S)). o block) (sym same) ∙ stands)

    -- an exchange of a record leaves the words of all blocks
    record_stays : (head to : ℕ) → head < 8 → after ≡ won_world world head to → (block : ℕ) → NotesStay block world after
    record_stays head to small is block field low nine ten =
        ap (λ (w : World). w.words (block_place block field)) is
        ∙ word_beside (record_place head) to world.words (block_place block field) (λ e. let behind = block_place_behind block field in absurd (omega (arith, small, behind, e)))

    advance_comes : (head word to : ℕ) (hand : Option ℕ) (filled : Option (Offer S)) (seen : Seen) → head < 8 → MayAdvance form world offers (callers head) head word hand filled to
        → Advances form world after offers offers' head word to filled seen → Comes
    advance_comes head word to hand filled seen small may (lost failed same kept) block offer stands = same_offers kept block offer stands
    advance_comes head word to hand filled seen small may (won succeeded stood same kept) block offer stands =
        elim (named_before (is_executing (record_phase to)) (named_block to) filled offers block offer (ap (λ (o : ℕ → Option (Offer S)). o block) (sym kept) ∙ stands)) [
          | inl old ↦ inl old
          | inr new ↦ inr (contents_kept world after offer (record_stays head to small same offer.list.block) (filled_block (callers head) head word hand filled to offer may new.0 new.1))
        ]

    work_comes : (does : Work S W) (head word : ℕ) (mech : Mech S W) (own own' : Carried S) (identity : ℕ) (seen : Seen) → head < 8 → KnowsWork form world offers (callers head) head word mech.hand own does
        → WorkSteps form world after offers offers' does head word mech own own' identity seen → Comes
    work_comes work.Head head word mech own own' identity seen small knows is = same_offers is.0
    work_comes work.Op head word mech own own' identity seen small knows is = same_offers is.0
    work_comes (work.Value op) head word mech own own' identity seen small knows is = same_offers is.0
    work_comes (work.Generate op s step) head word mech own own' identity seen small knows is = same_offers is.0
    work_comes (work.Fill stores made) head word mech own own' identity seen small knows is = same_offers is.0
    work_comes (work.Advance to) head word mech own own' identity seen small knows is = advance_comes head word to mech.hand own.filled seen small knows is
    work_comes (work.Read read) head word mech own own' identity seen small knows is = same_offers is.0
    work_comes (work.Execute run) head word mech own own' identity seen small knows is = same_offers is.0
    work_comes (work.Wrap wrap) head word mech own own' identity seen small knows is = same_offers is.0

    help_comes : (at : Helping S W) (head : ℕ) (mech : Mech S W) (own own' : Carried S) (identity : ℕ) (seen : Seen) → head < 8 → KnowsHelp form world offers (callers head) head mech.hand own at
        → HelpSteps form world after offers offers' at head mech own own' identity seen → Comes
    help_comes (Record loaded) head mech own own' identity seen small knows is = same_offers is.1
    help_comes (Known word does) head mech own own' identity seen small knows is = work_comes does head word mech own own' identity seen small knows.1 is
    help_comes (Remove removal) head mech own own' identity seen small knows is = same_offers is.1

    phase_comes : (at : Phase S W) (words : List ℕ) (mech : Mech S W) (own own' : SeatGhost S) (identity : ℕ) (seen : Seen) → PhaseInside form at words → KnowsIn form at mech own world offers callers
        → StepsIn form world after offers offers' at mech own own' identity seen → Comes
    phase_comes phase.Idle words mech own own' identity seen inside knows is = same_offers is.0
    phase_comes phase.Begin words mech own own' identity seen inside knows is = same_offers is.0
    phase_comes phase.Look words mech own own' identity seen inside knows is = same_offers is.0
    phase_comes (phase.Generate s step) words mech own own' identity seen inside knows is = same_offers is.0
    phase_comes (phase.Apply run stores step) words mech own own' identity seen inside knows is = same_offers is.0
    phase_comes (phase.Wrap w) words mech own own' identity seen inside knows is = same_offers is.0
    phase_comes (phase.Announce step) words mech own own' identity seen inside knows is = same_offers is.0
    phase_comes (phase.Enter owner) words mech own own' identity seen inside knows is = same_offers is.0
    phase_comes phase.Drive words mech own own' identity seen inside knows is = same_offers is.0
    phase_comes (phase.Help drives help) words mech own own' identity seen inside knows is = help_comes help.at help.head mech own.carried own'.carried identity seen inside.0 knows is
    phase_comes phase.Collect words mech own own' identity seen inside knows is = same_offers is.0
    phase_comes (phase.Value reference) words mech own own' identity seen inside knows is = same_offers is.0
    phase_comes (phase.End reply) words mech own own' identity seen inside knows is = same_offers is.0

module _ {S W : Type 0} (form : NormalForm S W) (laws : Laws form) (setup : Setup) (older : List Move) (move : Move) (mech : Mech S W) (are : AreMoves form setup (move ∷ older))
    (at : slice_get (run_of form setup older).mechs move.seat ≡ Some mech) (kept : IsKept form setup older) where
  abbrev world : World
  world = world_of form setup older

  abbrev after : World
  after = world_of form setup (move ∷ older)

  abbrev offers : ℕ → Option (Offer S)
  offers = (ghost_of form setup older).offers

  abbrev offers' : ℕ → Option (Offer S)
  offers' = (ghost_of form setup (move ∷ older)).offers

  -- so each named block holds them after the move
  pub contents_after : AllContents form after offers'
  contents_after block offer stands =
      let one = begun move.begins mech in
      let own = (ghost_of form setup older).seats move.seat in
      let inside = is_inside form laws setup older move mech are at kept in
      elim (phase_comes form laws world offers kept.holds (words_small form setup older are.0 kept) after offers' (callers_in (run_of form setup older) (ghost_of form setup older)) one.phase (run_of form setup older).words one own
      ((ghost_of form setup (move ∷ older)).seats move.seat) (length older) (seen_of (mech_request form one) (run_of form setup older).words) inside.asks (known form laws setup older move mech are at kept).knows
      (moves_step form setup older move mech at inside) block offer stands) [
        | inl old ↦ (kinds_keep_contents form laws world after offers offers' move.seat mech.hand block offer kept.holds (kind form laws setup older move mech are at kept) old (kept.contents block offer old)).1
        | inr new ↦ new
      ]
