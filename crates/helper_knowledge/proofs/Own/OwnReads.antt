-- What a helper knows after a step of its read of an offered block.
use Rattle.std.proofs.Common.{◌≡◌, ◌∙◌, refl, sym, ap, subst, ℕ, ◌<◌, ◌≤◌, Bool, true, false, if◌then◌else◌, ◌⊎◌, inl, inr, List, length, Option, Some, None, arith}
use Rattle.std.specs.Prelude.{nat_lt}
use Rattle.std.proofs.lemmas.Bool.Decides.{nat_tests}
use Rattle.arrayvec.specs.ArrayVec.{ArrayVec}
use Rattle.lin_report.specs.declared.calls.Op.{Op}
use Rattle.lin_report.specs.declared.calls.Outcome.{Outcome}
use Rattle.step_memory.specs.declared.steps.Seen.{Seen}
use Rattle.step_memory.specs.Step.{requested_place}
use Rattle.word_fields.specs.declared.records.RecordPhase.{RecordPhase as Mark}
use Rattle.word_fields.specs.Payloads.{payload_stop}
use Rattle.word_fields.specs.Records.{record_phase, record_number, record_payload}
use Rattle.normal_traits.specs.declared.lists.Entry.{Entry}
use Rattle.normal_traits.specs.World.{World}
use Rattle.normal_traits.specs.NormalForm.{NormalForm}
use Rattle.normal_traits.specs.Laws.{Laws}
use Rattle.cas_executor.specs.declared.block_read.ReadStep.{ReadStep}
use Rattle.cas_executor.specs.declared.slow_run.SlowStep.TheVariants.{LoadState}
use Rattle.cas_executor.specs.BlockReads.{ReadWalk, IsReading, read_at, read_fed, read_request, read_result}
use Rattle.cas_executor_laws.specs.Reads.{stored_count, stored_entries, stored_in}
use Rattle.cas_executor_laws.proofs.ReadsAreExact.{reads_are_exact, reads_go_on}
use Rattle.fast_slow_engine.specs.declared.help.Work.{Work}
use Rattle.fast_slow_engine.specs.HelpTable.{given_work, read_work, wrapped_work, wrapping_up}
use Rattle.fast_slow_engine.specs.HelpWords.{announced_op, is_executing, named_block}
use Rattle.offered_blocks.specs.Blocks.{Offer, HasBlocks}
use Rattle.offered_blocks.proofs.Blocks.Named.{some_offer}
use Rattle.helper_knowledge.specs.Carried.{Carried}
use Rattle.helper_knowledge.specs.Callers.{Caller}
use Rattle.move_kinds.specs.Offering.{ListStopsAt, IsOfferFor}
use Rattle.helper_knowledge.specs.WorkKnown.{IsNamed, IsSettled, KnowsWork, NamedBy}
use Rattle.move_kinds.specs.Contents.{HasContents}
use Rattle.helper_knowledge.proofs.Own.OwnList.{begins_run, wrap_begins}
use Rattle.helper_knowledge.specs.Knowing.{ToldWhole}
use Rattle.helper_knowledge.proofs.Own.OwnSteps.{own_wrapped}
use Rattle.word_fields.specs.declared.records.RecordPhase.TheVariants as marks
use Rattle.normal_traits.specs.declared.form.Wrapped.TheVariants as wrapped
use Rattle.cas_executor.specs.declared.block_read.ReadStep.TheVariants as reads
use Rattle.fast_slow_engine.specs.declared.help.Work.TheVariants as work

read_block : (step : ReadStep) (read : ReadWalk) (word : ℕ) → (read_at step read word).block ≡ read.block
read_block reads.Op read word = refl
read_block reads.Value read word = refl
read_block reads.Length read word = refl
read_block reads.Target read word = refl
read_block reads.From read word = refl
read_block reads.To read word = refl

stop_if : (b : Bool) (stop count : ℕ) → nat_lt count stop ≡ b → stop ≤ count → (if b then count else stop) ≡ stop
stop_if true stop count e within = absurd (let less : count < stop = grind (arith, nat_tests, e) in omega (arith, less, within))
stop_if false stop count e within = refl

module _ {S W : Type 0} (form : NormalForm S W) (laws : Laws form) (world : World) (shape : form.shape world) (offers : ℕ → Option (Offer S)) (blocks : HasBlocks form world offers)
    (caller : Caller) (head word : ℕ) (hand : Option ℕ) (own : Carried S) (contents : (block : ℕ) (offer : Offer S) → offers block ≡ Some offer → HasContents world offer)
    (fits : (offer : Offer S) → IsOfferFor offers (named_block word) head (record_number word) offer → ListStopsAt world offer (payload_stop (record_payload word))
    → (outcome : Outcome) → form.wrap_begun_of offer.list.call.op offer.list.entries (payload_stop (record_payload word)) ≡ wrapped.Done outcome → ToldWhole outcome) where
  abbrev Known : Work S W → Type 0
  Known does = KnowsWork form world offers caller head word hand own does

  abbrev stop : ℕ
  stop = payload_stop (record_payload word)

  -- the block was read whole, and holds what was offered
  module _ (offer : Offer S) (of : IsOfferFor offers (named_block word) head (record_number word) offer) where
    entries_some : 0 < length offer.list.entries
    entries_some =
        let mine = blocks.offered (named_block word) offer of.stands in
        subst (λ (es : List Entry). 0 < length es) (sym mine.offered.entries)
        (laws.of_world.offers world offer.offering offer.list.call.op offer.since offer.list.block mine.offered.command shape mine.offered.knows mine.offered.ready mine.offered.small).some

    gives_execution : record_phase word ≡ marks.Executing → Known (given_work form offer.list.call.op offer.list.entries word)
    gives_execution executes =
        let mine = blocks.offered (named_block word) offer of.stands in
        subst (λ (b : Bool). Known (if b then work.Execute (record { block = named_block word; entries = offer.list.entries; next = 0; step = LoadState }) else wrapping_up form offer.list.call.op offer.list.entries word)) (sym (ap is_executing executes)) (
          executes,
          (
            offer,
            of,
            (let begins = begins_run form laws world shape offers blocks caller head word offer of entries_some in
                record { block = sym mine.block_is; entries = refl; within = begins.within; done = begins.done; at_entry = begins.at_entry }),
          ),
        )

    gives_wrap : record_phase word ≡ marks.Wrapping → ListStopsAt world offer stop → Known (given_work form offer.list.call.op offer.list.entries word)
    gives_wrap wraps stopped =
        subst (λ (b : Bool). Known (if b then work.Execute (record { block = named_block word; entries = offer.list.entries; next = 0; step = LoadState }) else wrapping_up form offer.list.call.op offer.list.entries word)) (sym (ap is_executing wraps))
        (subst (λ n. Known (wrapped_work (form.wrap_begun_of offer.list.call.op offer.list.entries n) (form.begin_wrap_of offer.list.call.op offer.list.entries n) word))
        (sym (stop_if (nat_lt (length offer.list.entries) stop) stop (length offer.list.entries) refl stopped.within))
        (own_wrapped form laws offers caller head word hand world own offer of (form.wrap_begun_of offer.list.call.op offer.list.entries stop) (form.begin_wrap_of offer.list.call.op offer.list.entries stop) wraps stopped (fits offer of stopped)
        (wrap_begins form laws world shape offers blocks caller head word offer of stop stopped)))

  gives : (record_phase word ≡ marks.Executing) ⊎ (record_phase word ≡ marks.Wrapping) → (named : IsNamed form world offers head word) → NamedBy form world offers (record_phase word) head word
      → Known (given_work form named.0.list.call.op named.0.list.entries word)
  gives (inl executes) named by = gives_execution named.0 named.1 executes
  gives (inr wraps) named by =
      let settled : IsSettled form world offers head word = subst (λ (p : Mark). NamedBy form world offers p head word) wraps by in
      let same : settled.0 ≡ named.0 = some_offer settled.0 named.0 (offers (named_block word)) settled.1.stands named.1.stands in
      gives_wrap named.0 named.1 wraps (subst (λ (o : Offer S). ListStopsAt world o stop) same settled.2)

  pub own_read : (read : ReadWalk) (seen : Seen) → IsReading read → seen.before ≡ world.words (requested_place (read_request read)) → Known (work.Read read) → Known (read_work form (read_fed read seen) (read_result read seen) word)
  own_read read seen can saw is = by_result (read_result read seen) refl
    where
      by_result : (given : Option (ℕ × ℕ × ArrayVec Entry)) → read_result read seen ≡ given → Known (read_work form (read_fed read seen) given word)
      by_result None at = (is.0, is.1, is.2, read_block read.step read seen.before ∙ is.3, reads_go_on world.words read seen can is.4 saw at)
      by_result (Some given) at =
          let offer = is.1.0 in
          let mine = blocks.offered (named_block word) offer is.1.1.stands in
          let has = contents (named_block word) offer is.1.1.stands in
          let block : read.block ≡ offer.list.block = is.3 ∙ sym mine.block_is in
          let exact : given ≡ stored_in world.words offer.list.block = reads_are_exact world.words read seen given can is.4 saw at ∙ ap (stored_in world.words) block in
          subst (λ (g : ℕ × ℕ × ArrayVec Entry). Known (given_work form (announced_op g.0 g.1) g.2.items word)) (sym exact)
          (subst (λ (o : Op). Known (given_work form o (stored_entries world.words offer.list.block (stored_count world.words offer.list.block)) word)) (sym has.op)
          (subst (λ (es : List Entry). Known (given_work form offer.list.call.op es word)) (sym has.entries) (gives is.0 is.1 is.2)))
