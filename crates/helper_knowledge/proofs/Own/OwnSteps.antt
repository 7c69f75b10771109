-- What a helper knows after a step of its search, of its read, of its execution and of its wrap-up.
use Rattle.std.proofs.Common.{◌≡◌, refl, sym, ap, subst, ℕ, ◌<◌, ◌^◌, Bool, true, false, if◌then◌else◌, Option, Some, None}
use Rattle.lin_report.specs.declared.calls.Op.{Op}
use Rattle.lin_report.specs.declared.calls.Outcome.{Outcome}
use Rattle.lin_report.specs.declared.calls.Outcome.TheVariants.{Plain}
use Rattle.lin_report.specs.declared.calls.Reply.TheVariants.{Exhausted}
use Rattle.step_memory.specs.declared.steps.Seen.{Seen}
use Rattle.word_fields.specs.Payloads.{payload_stop}
use Rattle.word_fields.specs.Records.{record_of, record_phase, record_number, record_payload}
use Rattle.normal_traits.specs.declared.form.Found.{Found}
use Rattle.normal_traits.specs.declared.form.Wrapped.{Wrapped}
use Rattle.normal_traits.specs.World.{World}
use Rattle.normal_traits.specs.NormalForm.{NormalForm}
use Rattle.normal_traits.specs.Steps.{Requested}
use Rattle.normal_traits.specs.Laws.{Laws, WrappedWell}
use Rattle.op_record.specs.Outcomes.{completed_word}
use Rattle.cas_executor.specs.declared.fast_run.Execution.{Execution}
use Rattle.cas_executor.specs.declared.fast_run.Execution.TheVariants.{Running, Stopped}
use Rattle.cas_executor.specs.SlowRuns.{SlowWalk, slow_execution, slow_fed}
use Rattle.fast_slow_engine.specs.declared.phases.Generating.TheVariants.{Search, LookForBlock, Claim}
use Rattle.fast_slow_engine.specs.declared.help.Work.{Work}
use Rattle.fast_slow_engine.specs.declared.help.WorkTurn.TheVariants.{Going}
use Rattle.fast_slow_engine.specs.HelpTable.{contended, executed_work, found_work, wrapped_work}
use Rattle.fast_slow_engine.specs.HelpWords.{named_block, told_word}
use Rattle.cas_executor_laws.specs.Parts.{Helps}
use Rattle.offered_blocks.specs.Blocks.{Offer, HasBlocks, has_taken, site_of}
use Rattle.helper_knowledge.specs.Carried.{Carried, list_named}
use Rattle.helper_knowledge.specs.Callers.{Caller}
use Rattle.move_kinds.specs.Offering.{ListStopsAt, IsOfferFor}
use Rattle.helper_knowledge.specs.Knowing.{KnowsSearch, ToldWhole}
use Rattle.helper_knowledge.specs.WorkKnown.{KnowsWork}
use Rattle.helper_knowledge.specs.WorkKnown.MayAdvance.{completes, restarts}
use Rattle.helper_knowledge.proofs.Own.OwnList.{run_goes, run_settles, wrap_goes}
use Rattle.helper_knowledge.proofs.Own.OwnSearch.{answer_known, asks_on, ready_now, search_goes}
use Rattle.helper_knowledge.proofs.Own.OwnWork.{own_answers, own_exhausts, own_names}
use Rattle.word_fields.specs.declared.records.RecordPhase.TheVariants as marks
use Rattle.normal_traits.specs.declared.form.Found.TheVariants as found
use Rattle.normal_traits.specs.declared.form.Wrapped.TheVariants as wrapped
use Rattle.fast_slow_engine.specs.declared.help.Work.TheVariants as work

module _ {S W : Type 0} (form : NormalForm S W) (laws : Laws form) (offers : ℕ → Option (Offer S)) (caller : Caller) (head word : ℕ) (hand : Option ℕ) where
  abbrev Known : World → Carried S → Work S W → Type 0
  Known world own does = KnowsWork form world offers caller head word hand own does

  -- ---- the search

  module _ (world after : World) (shape : form.shape world) (shape' : form.shape after) (own own' : Carried S) (op : Op) (s : S) (seen : Seen) (made : Requested form (form.request_of s) world after seen) (since : own'.since ≡ own.since)
      (identity : ℕ) (small : (block : ℕ) → hand ≡ Some block → form.found_of s seen ≡ found.Ready → block < 2 ^ 17)
      (names : (block : ℕ) → hand ≡ Some block → form.found_of s seen ≡ found.Ready
      → own'.filled ≡ Some (list_named form identity (form.feed_of s seen) own.since (record { seat = head; number = record_number word; op = op }) block))
      (fits : (outcome : Outcome) → form.found_of s seen ≡ found.Answer outcome → ToldWhole outcome) where
    abbrev fed : S
    fed = form.feed_of s seen

    pub own_search : Known world own (work.Generate op s Search) → contended form (form.found_of s seen) ≡ Going → Known after own' (found_work form (form.found_of s seen) op fed head word hand)
    own_search knows going = by_found (form.found_of s seen) refl going
      where
        goes : KnowsSearch form after caller word op fed own.since
        goes = search_goes form laws world shape offers caller head word after seen op s own.since knows.2 knows.1 made

        goes' : KnowsSearch form after caller word op fed own'.since
        goes' = subst (KnowsSearch form after caller word op fed) (sym since) goes

        ready : form.found_of s seen ≡ found.Ready → form.is_ready fed
        ready is = ready_now form laws world shape offers caller head word after seen op s own.since knows.2 knows.1 made is

        by_hand : (h : Option ℕ) → hand ≡ h → form.found_of s seen ≡ found.Ready → KnowsWork form after offers caller head word h own' (found_work form found.Ready op fed head word h)
        by_hand None is at = (knows.0, goes', ready at)
        by_hand (Some block) is at = own_names form laws after shape' offers caller head word op fed block identity own own' knows.0 (small block is at) (ready at) goes (names block is at)

        by_found : (f : Found) → form.found_of s seen ≡ f → contended form f ≡ Going → Known after own' (found_work form f op fed head word hand)
        by_found found.Going is g = (knows.0, goes', asks_on form laws world shape offers caller head word after seen op s own.since knows.2 knows.1 made is)
        by_found found.Ready is g = by_hand hand refl is
        by_found (found.Answer outcome) is g =
            own_answers form laws after shape' offers caller head word op own.since outcome hand own' knows.0 (fits outcome is).0 (fits outcome is).1
            (answer_known form laws world shape offers caller head word after seen op s own.since knows.2 knows.1 made outcome is)
        by_found found.Contended is g = absurd cc

  -- ---- the list of the named block

  module _ (world : World) (own : Carried S) (offer : Offer S) (of : IsOfferFor offers (named_block word) head (record_number word) offer) where
    abbrev stop : ℕ
    stop = payload_stop (record_payload word)

    -- what has come of a wrap-up
    pub own_wrapped : (what : Wrapped) (wrap : W) → record_phase word ≡ marks.Wrapping → ListStopsAt world offer stop → ((outcome : Outcome) → what ≡ wrapped.Done outcome → ToldWhole outcome)
        → WrappedWell form world offer.list stop wrap what → Known world own (wrapped_work what wrap word)
    own_wrapped wrapped.Going wrap wraps stopped fits well = (wraps, (offer, of, stopped, well.0, well.1))
    own_wrapped (wrapped.Done outcome) wrap wraps stopped fits well =
        completes outcome offer wraps of (ap (λ o. completed_word (record_of word) o) (fits outcome refl).1) (fits outcome refl).0 well.0 well.1
    own_wrapped wrapped.Restart wrap wraps stopped fits well = restarts offer wraps of refl well

  -- an execution that goes on, or has stopped
  pub own_execute : (world after : World) (shape : form.shape world) (blocks : HasBlocks form world offers) (own : Carried S) (walk : SlowWalk) (seen : Seen) (offer : Offer S) → IsOfferFor offers (named_block word) head (record_number word) offer
      → record_phase word ≡ marks.Executing → Helps (site_of offer) after.words (has_taken after.journal offer.list) (slow_fed walk seen) (slow_execution walk seen) → Known after own (executed_work (slow_execution walk seen) (slow_fed walk seen) word)
  own_execute world after shape blocks own walk seen offer of executes is = by_execution (slow_execution walk seen) refl
    where
      by_execution : (e : Execution) → slow_execution walk seen ≡ e → Known after own (executed_work e (slow_fed walk seen) word)
      by_execution Running at = (executes, (offer, of, run_goes form laws world shape offers blocks caller head word offer of after walk seen is at))
      by_execution (Stopped stop') at = run_settles form laws world shape offers blocks caller head word offer of after walk seen is hand own.filled stop' executes at

  -- a block is left to claim, or none; one was claimed
  pub own_look : (world : World) (shape : form.shape world) (own own' : Carried S) (op : Op) (s : S) → own'.since ≡ own.since → (b : Bool) → Known world own (work.Generate op s LookForBlock)
      → Known world own' (if b then work.Generate op s Claim else work.Advance (told_word word (Plain Exhausted)))
  own_look world shape own own' op s since true knows = (knows.0, subst (KnowsSearch form world caller word op s) (sym since) knows.1, knows.2)
  own_look world shape own own' op s since false knows = own_exhausts form laws world shape offers caller head word hand own' knows.0

  -- a step of a wrap-up
  pub own_wrap : (world after : World) (shape : form.shape world) (blocks : HasBlocks form world offers) (own own' : Carried S) (wrap : W) (seen : Seen) (made : Requested form (form.wrap_request_of wrap) world after seen)
      → (knows : Known world own (work.Wrap wrap)) → ListStopsAt after knows.1.0 (payload_stop (record_payload word))
      → ((outcome : Outcome) → form.wrap_found_of wrap seen ≡ wrapped.Done outcome → ToldWhole outcome)
      → Known after own' (wrapped_work (form.wrap_found_of wrap seen) (form.feed_wrap_of wrap seen) word)
  own_wrap world after shape blocks own own' wrap seen made knows stopped fits =
      let mine = knows.1 in
      own_wrapped after own' mine.0 mine.1 (form.wrap_found_of wrap seen) (form.feed_wrap_of wrap seen) knows.0 stopped fits
      (wrap_goes form laws world shape offers blocks caller head word mine.0 mine.1 after seen (payload_stop (record_payload word)) wrap mine.3 mine.4 made)
