-- A helper that reads, executes and wraps up the list of an offered block: what each step has learnt.
use Rattle.std.proofs.Common.{◌≡◌, refl, subst, ℕ, ◌<◌, length, Option, arith}
use Rattle.lin_report.specs.declared.calls.Outcome.{Outcome}
use Rattle.step_memory.specs.declared.steps.Seen.{Seen}
use Rattle.word_fields.specs.Records.{record_of, record_phase, record_number}
use Rattle.normal_traits.specs.declared.form.Wrapped.{Wrapped}
use Rattle.normal_traits.specs.World.{Failed, Stopped, Took, World}
use Rattle.normal_traits.specs.NormalForm.{NormalForm}
use Rattle.normal_traits.specs.Steps.{Requested}
use Rattle.normal_traits.specs.Laws.{Laws, WrappedWell}
use Rattle.op_record.specs.Outcomes.{FitsPayload, completed_word}
use Rattle.cas_executor.specs.declared.fast_run.Execution.TheVariants.{Running, Stopped as StoppedAt}
use Rattle.cas_executor.specs.declared.slow_run.SlowStep.TheVariants.{LoadState}
use Rattle.cas_executor.specs.SlowRuns.{SlowWalk, slow_execution, slow_fed}
use Rattle.cas_executor_laws.specs.Parts.{Helps, Knows}
use Rattle.cas_executor_laws.proofs.OfferedPartsKept.{entry_at}
use Rattle.fast_slow_engine.specs.HelpWords.{again_word, named_block, wrapping_word}
use Rattle.offered_blocks.specs.Blocks.{Offer, HasBlocks, has_taken, site_of}
use Rattle.offered_blocks.proofs.Helpers.Allowed.{not_taken}
use Rattle.helper_knowledge.specs.Callers.{Caller}
use Rattle.move_kinds.specs.Offering.{ListStopsAt, IsOfferFor}
use Rattle.helper_knowledge.specs.WorkKnown.{MayAdvance}
use Rattle.helper_knowledge.specs.WorkKnown.MayAdvance.{settles, completes, restarts}
use Rattle.word_fields.specs.declared.records.RecordPhase.TheVariants as marks
use Rattle.normal_traits.specs.declared.form.Wrapped.TheVariants as wrapped

module _ {S W : Type 0} (form : NormalForm S W) (laws : Laws form) (world : World) (shape : form.shape world) (offers : ℕ → Option (Offer S)) (blocks : HasBlocks form world offers)
    (caller : Caller) (head word : ℕ) (offer : Offer S) (of : IsOfferFor offers (named_block word) head (record_number word) offer) where
  -- ---- execution

  -- a list that was read begins at its first entry
  pub begins_run : 0 < length offer.list.entries → Knows (site_of offer) world.words (has_taken world.journal offer.list) (record { block = offer.list.block; entries = offer.list.entries; next = 0; step = LoadState })
  begins_run some = record { block = refl; entries = refl; within = some; done = λ j entry listed before. absurd (omega (arith, before)); at_entry = λ entry listed. tt }

  module _ (after : World) (walk : SlowWalk) (seen : Seen) (helps : Helps (site_of offer) after.words (has_taken after.journal offer.list) (slow_fed walk seen) (slow_execution walk seen)) where
    pub run_goes : slow_execution walk seen ≡ Running → Knows (site_of offer) after.words (has_taken after.journal offer.list) (slow_fed walk seen)
    run_goes running = subst (Helps (site_of offer) after.words (has_taken after.journal offer.list) (slow_fed walk seen)) running helps

    pub run_settles : (hand : Option ℕ) (held : Option (Offer S)) (stop : ℕ) → record_phase word ≡ marks.Executing → slow_execution walk seen ≡ StoppedAt stop
        → MayAdvance form after offers caller head word hand held (wrapping_word word stop)
    run_settles hand held stop executes stopped =
        settles stop offer executes of refl (subst (Helps (site_of offer) after.words (has_taken after.journal offer.list) (slow_fed walk seen)) stopped helps)

  -- ---- the wrap-up

  -- what has come of it
  pub wrap_advances : (hand : Option ℕ) (held : Option (Offer S)) (stop : ℕ) (wrap : W) (what : Wrapped) (outcome : Outcome) → record_phase word ≡ marks.Wrapping → what ≡ wrapped.Done outcome → FitsPayload outcome
      → WrappedWell form world offer.list stop wrap what → MayAdvance form world offers caller head word hand held (completed_word (record_of word) outcome)
  wrap_advances hand held stop wrap what outcome wraps is fits well = (let right = subst (WrappedWell form world offer.list stop wrap) is well in completes outcome offer wraps of refl fits right.0 right.1)

  pub wrap_restarts : (hand : Option ℕ) (held : Option (Offer S)) (stop : ℕ) (wrap : W) (what : Wrapped) → record_phase word ≡ marks.Wrapping → what ≡ wrapped.Restart
      → WrappedWell form world offer.list stop wrap what → MayAdvance form world offers caller head word hand held (again_word word)
  wrap_restarts hand held stop wrap what wraps is well = restarts offer wraps of refl (subst (WrappedWell form world offer.list stop wrap) is well)

  -- a list that the helper knows to have stopped has stopped for the client
  took_before : (stop : ℕ) → ListStopsAt world offer stop → (j : ℕ) → j < stop → Took world offer.list j
  took_before stop stopped j before =
      let mine = blocks.offered (named_block word) offer of.stands in
      let at = entry_at offer.list.entries j (let within = stopped.within in omega (arith, before, within)) in
      mine.taken j ((mine.parts.lives j at.0 at.1).succeeded (stopped.done j at.0 at.1 before).succeeded)

  failed_at : (stop : ℕ) → ListStopsAt world offer stop → stop < length offer.list.entries → Failed world offer.list stop
  failed_at stop stopped short =
      let mine = blocks.offered (named_block word) offer of.stands in
      let at = entry_at offer.list.entries stop short in
      let life = mine.parts.lives stop at.0 at.1 in
      let failed = stopped.failed short in
      record { entry = at.0; listed = at.1; passed = life.failed_past failed; lost = not_taken world offer.list offer.list stop (life.failed failed) refl }

  pub stopped_now : (stop : ℕ) → ListStopsAt world offer stop → Stopped world offer.list stop
  stopped_now stop stopped = record { within = (let within = stopped.within in omega (arith, within)); took = took_before stop stopped; failed = failed_at stop stopped }

  -- so a wrap-up that begins, however late, begins well
  pub wrap_begins : (stop : ℕ) → ListStopsAt world offer stop
      → WrappedWell form world offer.list stop (form.begin_wrap_of offer.list.call.op offer.list.entries stop) (form.wrap_begun_of offer.list.call.op offer.list.entries stop)
  wrap_begins stop stopped =
      let mine = blocks.offered (named_block word) offer of.stands in
      laws.of_world.wrap_begun world offer.list offer.offering offer.since stop shape mine.offered (stopped_now stop stopped)

  -- and each of its steps leaves it well
  pub wrap_goes : (after : World) (seen : Seen) (stop : ℕ) (wrap : W) → form.wraps wrap → form.follows wrap offer.list stop world → Requested form (form.wrap_request_of wrap) world after seen
      → WrappedWell form after offer.list stop (form.feed_wrap_of wrap seen) (form.wrap_found_of wrap seen)
  wrap_goes after seen stop wrap wraps follows made =
      let mine = blocks.offered (named_block word) offer of.stands in
      laws.wrap_fed world after seen wrap offer.list stop mine.offered.command shape wraps follows made
