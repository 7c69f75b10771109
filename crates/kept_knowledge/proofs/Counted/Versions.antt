-- No version is above the number of won exchanges after a move.
use Rattle.std.proofs.Common.{◌≡◌, ◌∙◌, refl, sym, subst, ap, ℕ, ◌+◌, ◌<◌, ◌≤◌, inl, inr, true, false, List, ◌∷◌, length, slice_get, Option, Some, arith}
use Rattle.std.proofs.lemmas.Bool.{cases_eq}
use Rattle.std.proofs.lemmas.Option.{slice_get_within}
use Rattle.word_fields.specs.Versioned.{marked_word, versioned_version}
use Rattle.word_fields.proofs.ChangedWords.{version-marked}
use Rattle.node_arena.specs.MemoryMap.{block_place, op_place, value_place, MayBeClients}
use Rattle.node_arena.proofs.PlacesApart.{engines_out}
use Rattle.normal_traits.specs.declared.lists.Entry.{Entry}
use Rattle.normal_traits.specs.World.{World}
use Rattle.normal_traits.specs.NormalForm.{NormalForm}
use Rattle.normal_traits.specs.Laws.{Laws}
use Rattle.normal_traits.specs.Steps.{put_word, with_word}
use Rattle.normal_traits.proofs.Stays.{word_beside, word_put}
use Rattle.cas_executor_laws.specs.ExecRuns.{IsEntry}
use Rattle.fast_slow_engine.specs.declared.setup.Setup.{Setup}
use Rattle.fast_slow_engine.specs.Mechs.{Mech}
use Rattle.fast_slow_engine.specs.Runs.{AreMoves, Move, begun, run_of}
use Rattle.offered_blocks.specs.Blocks.{Offer}
use Rattle.offered_blocks.specs.Holds.{HasOffers}
use Rattle.offered_blocks.specs.HelperSteps.{Helps}
use Rattle.offered_blocks.specs.HelperSteps.Helps.{looks, installs_first, installs_second, succeeds, fails, clears_bit}
use Rattle.run_knowledge.specs.RunGhosts.{ghost_of, world_of}
use Rattle.run_knowledge.specs.Kept.{IsKept, VersionsCount}
use Rattle.run_knowledge.proofs.InRuns.Rests.{known}
use Rattle.kept_knowledge.proofs.Counted.MoveTouches.{move_touches}
use Rattle.kept_knowledge.proofs.Counted.Touches.{IsEngines, Touches}
use Rattle.kept_knowledge.proofs.Counted.Touches.Touches.{leaves, puts, tells_value, tells_op, stores, wins, helps}

engine_not : {A : Type 0} (place : ℕ) → IsEngines place → MayBeClients place → A
engine_not place (inl low) may = absurd (engines_out place (inl (omega (arith, low))) may)
engine_not place (inr between) may = (let low = between.1 in absurd (engines_out place (inl (omega (arith, low))) may))

module _ {S W : Type 0} (form : NormalForm S W) (laws : Laws form) (world after : World) (offers : ℕ → Option (Offer S)) (holds : HasOffers form world offers) (count : VersionsCount form world) where
  abbrev Counts : Type 0
  Counts = VersionsCount form after

  -- another word at a place, whose version is not above, and maybe more won exchanges
  word_counts : (place word : ℕ) → after.words ≡ with_word place word world.words → length world.journal ≤ length after.journal
      → (form.is_versioned place ≡ true → MayBeClients place → versioned_version word ≤ length after.journal) → Counts
  word_counts place word is grows below at versioned may =
      let here = ap (λ (f : ℕ → ℕ). versioned_version (f at)) is in
      elim (cases_eq at place) [
        | inl same ↦
            let least = below (subst (λ p. form.is_versioned p ≡ true) same versioned) (subst MayBeClients same may) in
            let there = ap versioned_version (word_put place word world.words at same) in
            omega (arith, here, there, least)
        | inr apart ↦
            let there = ap versioned_version (word_beside place word world.words at apart) in
            let least = count at versioned may in
            omega (arith, here, there, least, grows)
      ]

  put_counts : (place word : ℕ) → after ≡ put_word place word world → (form.is_versioned place ≡ true → MayBeClients place → versioned_version word ≡ 0) → Counts
  put_counts place word is none =
      let same = ap (λ (w : World). length w.journal) is in
      word_counts place word (ap (λ (w : World). w.words) is) (omega (arith, same)) (λ versioned may. let least = none versioned may in omega (arith, least))

  -- a won exchange: the version is raised by one, and so is the number of won exchanges
  raised_counts : (place word : ℕ) → after.words ≡ with_word place word world.words → length after.journal ≡ length world.journal + 1 → versioned_version word ≤ versioned_version (world.words place) + 1 → Counts
  raised_counts place word is longer raised =
      word_counts place word is (omega (arith, longer)) (λ versioned may. let least = count place versioned may in omega (arith, least, raised, longer))

  -- ---- a helper

  module _ (block : ℕ) (offer : Offer S) (stands : offers block ≡ Some offer) where
    -- an entry is installed with its bit set
    install_counts : (j : ℕ) (entry : Entry) → IsEntry offer.list.entries j entry → world.words entry.target ≡ entry.from → after.words ≡ with_word entry.target (marked_word entry.to) world.words
        → length after.journal ≡ length world.journal + 1 → Counts
    install_counts j entry listed stood is longer =
        let raised = ((holds.blocks.offered block offer stands).site.raised j entry listed).version in
        let marked = version-marked entry.to in
        let was = ap versioned_version stood in
        raised_counts entry.target (marked_word entry.to) is longer (omega (arith, raised, marked, was))

    -- the state of an entry is no versioned word
    state_counts : (j word : ℕ) (entry : Entry) → IsEntry offer.list.entries j entry → after ≡ put_word (block_place offer.list.block (9 + j)) word world → Counts
    state_counts j word entry listed is =
        put_counts (block_place offer.list.block (9 + j)) word is
        (λ versioned may.
        let mine = holds.blocks.offered block offer stands in
        let within = slice_get_within offer.list.entries j entry listed in
        let short = mine.site.short in
        let some : 0 < offer.list.block = subst (λ b. 0 < b) (sym mine.block_is) mine.some in
        let none : form.is_versioned (block_place offer.list.block (9 + j)) ≡ false = laws.of_world.notes_plain offer.list.block (9 + j) some (omega (arith, within, short)) in
        absurd (let both : true ≡ false = sym versioned ∙ none in cc))

    helps_counts : (w : World) → Helps form world offer w → after ≡ w → Counts
    helps_counts w looks same = subst (VersionsCount form) (sym same) count
    helps_counts w (installs_first entry listed stood) same =
        let longer = ap (λ (x : World). length x.journal) same in install_counts 0 entry listed stood (ap (λ (x : World). x.words) same) (omega (arith, longer))
    helps_counts w (installs_second entry listed behind stood) same =
        let longer = ap (λ (x : World). length x.journal) same in install_counts 1 entry listed stood (ap (λ (x : World). x.words) same) (omega (arith, longer))
    helps_counts w (succeeds j entry listed behind pending shows) same = state_counts j _ entry listed same
    helps_counts w (fails j entry listed behind pending past not) same = state_counts j _ entry listed same
    helps_counts w (clears_bit j entry listed behind succeeded shows) same =
        let kept = ap (λ (x : World). length x.journal) same in
        word_counts entry.target entry.to (ap (λ (x : World). x.words) same) (omega (arith, kept))
        (λ versioned may.
        let least = count entry.target versioned may in
        let was = ap versioned_version shows in
        let marked = version-marked entry.to in
        omega (arith, least, was, marked, kept))

  -- ---- whatever a step does

  touches_count : (mech : Mech S W) → mech.seat < 8 → Touches form world after offers mech → Counts
  touches_count mech few (leaves same) = subst (VersionsCount form) (sym same) count
  touches_count mech few (puts place word is put) = put_counts place word put (λ versioned may. engine_not place is may)
  touches_count mech few (tells_value put) =
      put_counts (value_place mech.seat) _ put (λ versioned may. absurd (engines_out (value_place mech.seat) (inr (omega arith, omega (arith, few))) may))
  touches_count mech few (tells_op small put) =
      put_counts (op_place mech.seat) _ put (λ versioned may. absurd (engines_out (op_place mech.seat) (inl (omega (arith, few))) may))
  touches_count mech few (stores block field word zero put) = put_counts (block_place block field) word put (λ versioned may. zero versioned)
  touches_count mech few (wins place word is) = raised_counts place word is.words is.longer is.raised
  touches_count mech few (helps block offer stands is) = helps_counts block offer stands after is refl

module _ {S W : Type 0} (form : NormalForm S W) (laws : Laws form) (setup : Setup) (older : List Move) (move : Move) (mech : Mech S W) (are : AreMoves form setup (move ∷ older))
    (at : slice_get (run_of form setup older).mechs move.seat ≡ Some mech) (kept : IsKept form setup older) where
  pub versions_after : VersionsCount form (world_of form setup (move ∷ older))
  versions_after =
      touches_count form laws (world_of form setup older) (world_of form setup (move ∷ older)) (ghost_of form setup older).offers kept.holds kept.versions (begun move.begins mech)
      (known form laws setup older move mech are at kept).few (move_touches form laws setup older move mech are at kept)
