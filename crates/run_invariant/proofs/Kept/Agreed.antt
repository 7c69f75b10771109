-- What all agree on: of an offered block by what holds of all blocks, since where its list has stopped it stays so; and of a
-- completed record since it stays until its seat announces the next call.
use Rattle.std.proofs.Common.{◌≡◌, refl, ap, sym, subst, ◌∙◌, ℕ, ◌<◌, List, [], ◌∷◌, ◌++◌, arith, inl, inr, ◌⊎◌, Some}
use Rattle.word_fields.specs.declared.records.RecordPhase.TheVariants.{Completed}
use Rattle.word_fields.specs.Records.{record_number, record_phase}
use Rattle.normal_traits.specs.NormalForm.{NormalForm}
use Rattle.normal_traits.specs.Laws.{Laws}
use Rattle.cas_executor_laws.proofs.OfferedPartsKept.{stop_kept}
use Rattle.help_queue_laws.proofs.Acts.LearntStays.{done_closed}
use Rattle.help_queue_laws.proofs.Known.QueueWords.{not_both}
use Rattle.help_queue_laws.proofs.Known.Scenes.{Later, Scene, scene_of}
use Rattle.help_queue_laws.proofs.Steps.Results.{seat_word}
use Rattle.fast_slow_engine.specs.declared.setup.Setup.{Setup}
use Rattle.fast_slow_engine.specs.Runs.{AreMoves, Move, run_of}
use Rattle.offered_blocks.specs.Blocks.{Offer, has_taken, site_of}
use Rattle.offered_blocks.specs.HelperSteps.{HasStopped}
use Rattle.offered_blocks.proofs.Blocks.Settled.{known_stop, stop_known}
use Rattle.offered_blocks.proofs.LawsOfBlocks.{stops_agree}
use Rattle.run_queue.specs.Premises.{KeepsQueue}
use Rattle.run_queue.specs.QueueGhosts.{queue_ghosts}
use Rattle.run_queue.proofs.Runs.RunMoves.{runs_later}
use Rattle.kept_knowledge.specs.RunGhosts.{ghost_of, world_of}
use Rattle.kept_knowledge.specs.Kept.{RunsAreKept}
use Rattle.kept_knowledge.proofs.InRuns.Leaves.{leaves}
use Rattle.kept_knowledge.proofs.InRuns.MovesInRuns.{moves_before}
use Rattle.run_invariant.specs.Agreed.{BlocksAgreed, OutcomesFixed, record_after}
use Rattle.run_invariant.proofs.Kept.EveryRun.{queues_kept}

-- the record of the seat is still this word, or of a later call
abbrev IsOrWas : ℕ → ℕ → Scene → Type 0
IsOrWas word t a = (a.records t ≡ word) ⊎ (record_number word < record_number (a.records t))

-- a completed one stays so through each step
module _ (seats who t word : ℕ) (completed : record_phase word ≡ Completed) (a b : Scene) (later : Later seats who a b) where
  fixed_later : IsOrWas word t a → IsOrWas word t b
  fixed_later known =
      elim (later.moves t) [
        | inl stays ↦ subst (λ now. (now ≡ word) ⊎ (record_number word < record_number now)) (sym stays.same) known
        | inr (inl announces) ↦ (
            let up = announces.number in
            elim known [ inl same ↦ inr (subst (λ now. record_number now < record_number (b.records t)) same up) | inr more ↦ inr (omega (arith, more, up)) ])
        | inr (inr advances) ↦ elim known [
          | inl same ↦ absurd (not_both advances.opened (done_closed _ (ap record_phase same ∙ completed)))
          | inr more ↦ inr (subst (λ number. record_number word < number) (sym advances.number) more)
        ]
      ]

module _ {S W : Type 0} (form : NormalForm S W) (laws : Laws form) (runs : RunsAreKept form) where
  -- ---- blocks

  -- a block that stands offered does so after more moves
  stands_later : (setup : Setup) (newer older : List Move) (block : ℕ) (offer : Offer S) → AreMoves form setup (newer ++ older) → (ghost_of form setup older).offers block ≡ Some offer
      → (ghost_of form setup (newer ++ older)).offers block ≡ Some offer
  stands_later setup [] older block offer are stands = stands
  stands_later setup (move ∷ newer) older block offer are stands =
      (leaves form laws setup (newer ++ older) move are.1.mech are are.1.seated (runs setup (newer ++ older) are.0)).offered block offer (stands_later setup newer older block offer are.0 stands)

  -- and where its list has stopped, it has stopped there after a move
  stop_after : (setup : Setup) (older : List Move) (move : Move) (block : ℕ) (offer : Offer S) (stop : ℕ) → AreMoves form setup (move ∷ older) → (ghost_of form setup older).offers block ≡ Some offer
      → HasStopped (world_of form setup older) offer stop → HasStopped (world_of form setup (move ∷ older)) offer stop
  stop_after setup older move block offer stop are stands stopped =
      let world = world_of form setup older in
      let after = world_of form setup (move ∷ older) in
      let kept = runs setup older are.0 in
      let left = leaves form laws setup older move are.1.mech are are.1.seated kept in
      let mine = kept.holds.blocks.offered block offer stands in
      known_stop form after (ghost_of form setup (move ∷ older)).offers (runs setup (move ∷ older) are).holds block offer (left.offered block offer stands) stop
      (stop_kept (site_of offer) mine.site world.words (has_taken world.journal offer.list) after.words (has_taken after.journal offer.list) (left.deeds block offer stands) mine.parts.lives stop
      (stop_known form world (ghost_of form setup older).offers kept.holds block offer stands stop stopped))

  stop_later : (setup : Setup) (newer older : List Move) (block : ℕ) (offer : Offer S) (stop : ℕ) → AreMoves form setup (newer ++ older) → (ghost_of form setup older).offers block ≡ Some offer
      → HasStopped (world_of form setup older) offer stop → HasStopped (world_of form setup (newer ++ older)) offer stop
  stop_later setup [] older block offer stop are stands stopped = stopped
  stop_later setup (move ∷ newer) older block offer stop are stands stopped =
      stop_after setup (newer ++ older) move block offer stop are (stands_later setup newer older block offer are.0 stands) (stop_later setup newer older block offer stop are.0 stands stopped)

  pub blocks_agreed : BlocksAgreed form
  blocks_agreed setup newer older block offer are stands =
      let early = runs setup older (moves_before form setup newer older are) in
      let late = runs setup (newer ++ older) are in
      let there = stands_later setup newer older block offer are stands in
      record {
        contents = (early.contents block offer stands, late.contents block offer there);
        stops = λ stop other here now.
            stops_agree form laws (world_of form setup (newer ++ older)) (ghost_of form setup (newer ++ older)).offers block offer stop other late.holds there
            (stop_later setup newer older block offer stop are stands here) now;
      }

  -- ---- records

  abbrev scene : Setup → List Move → Scene
  scene setup moves = scene_of (run_of form setup moves).words (queue_ghosts form setup moves)

  fixed_all : (setup : Setup) (newer older : List Move) (seat : ℕ) → AreMoves form setup (newer ++ older) → KeepsQueue form setup (newer ++ older) → record_phase ((scene setup older).records seat) ≡ Completed
      → IsOrWas ((scene setup older).records seat) seat (scene setup (newer ++ older))
  fixed_all setup [] older seat are keeps completed = inl refl
  fixed_all setup (move ∷ newer) older seat are keeps completed =
      fixed_later setup.seats move.seat seat ((scene setup older).records seat) completed _ _ (runs_later form setup move (newer ++ older) are keeps)
      (fixed_all setup newer older seat are.0 keeps.0 completed)

  pub outcomes_fixed : OutcomesFixed form
  outcomes_fixed setup newer older seat few are completed same =
      let was : (scene setup older).records seat ≡ record_after form setup older seat = seat_word seat _ few in
      let is : (scene setup (newer ++ older)).records seat ≡ record_after form setup (newer ++ older) seat = seat_word seat _ few in
      let keeps = queues_kept form laws runs setup (newer ++ older) are in
      elim (fixed_all setup newer older seat are keeps (ap record_phase was ∙ completed)) [
        | inl stays ↦ sym is ∙ stays ∙ was
        | inr more ↦ (let before = ap record_number was in let now = ap record_number is in absurd (omega (arith, more, before, now, same)))
      ]
