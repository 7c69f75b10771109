-- After a step of its own a helper knows what it must for the next one, whatever its work is.
use Rattle.std.proofs.Common.{◌≡◌, ◌∙◌, refl, sym, subst, ap, ℕ, ◌+◌, ◌==◌, ◌<◌, ◌^◌, not, Bool, true, false, if◌then◌else◌, length, Option, Some, None, arith}
use Rattle.std.specs.Prelude.{get_or, nat_lt}
use Rattle.std.proofs.lemmas.Bool.{and_parts, eqb-true}
use Rattle.std.proofs.lemmas.Bool.Decides.{nat_tests}
use Rattle.std.proofs.lemmas.Option.{slice_get-get_or}
use Rattle.arrayvec.specs.ArrayVec.{ArrayVec}
use Rattle.lin_report.specs.declared.calls.Op.{Op}
use Rattle.lin_report.specs.declared.calls.Outcome.{Outcome}
use Rattle.lin_report.specs.declared.calls.Outcome.TheVariants.{Plain}
use Rattle.lin_report.specs.declared.calls.Reply.TheVariants.{Exhausted}
use Rattle.lin_report.specs.Object.{IsCommandOf}
use Rattle.step_memory.specs.declared.steps.Seen.{Seen}
use Rattle.word_fields.specs.Announced.{announced_value, op_number, value_number}
use Rattle.word_fields.specs.Fields.{field_of}
use Rattle.word_fields.specs.Payloads.{payload_stop}
use Rattle.word_fields.specs.Records.{record_number, record_payload}
use Rattle.normal_traits.specs.declared.form.Found.TheVariants as found
use Rattle.normal_traits.specs.declared.form.Wrapped.TheVariants as wrapped
use Rattle.normal_traits.specs.World.{World}
use Rattle.normal_traits.specs.NormalForm.{NormalForm}
use Rattle.normal_traits.specs.Steps.{IsStep, put_word}
use Rattle.normal_traits.specs.Steps.IsStep.{searches}
use Rattle.normal_traits.specs.Laws.{FoundFits, FoundWell, Laws, WrappedFits, WrappedWell}
use Rattle.cas_executor.specs.BlockReads.{IsReading, ReadWalk}
use Rattle.cas_executor.specs.SlowRuns.{SlowWalk, slow_execution, slow_fed}
use Rattle.cas_executor_laws.specs.Parts.{Helps}
use Rattle.fast_slow_engine.specs.declared.phases.Generating.TheVariants.{Search, LookForBlock, Claim}
use Rattle.fast_slow_engine.specs.declared.help.Work.{Work}
use Rattle.fast_slow_engine.specs.declared.help.Work.TheVariants as work
use Rattle.fast_slow_engine.specs.declared.help.WorkTurn.TheVariants.{Going}
use Rattle.fast_slow_engine.specs.HelpTable.{CanWork, again_if, filling, work_fed, work_hand, work_turn}
use Rattle.fast_slow_engine.specs.HelpWords.{announced_op, named_block, told_word}
use Rattle.offered_blocks.specs.Blocks.{Offer, has_taken, site_of}
use Rattle.offered_blocks.proofs.Helpers.Running.{run_knows}
use Rattle.move_kinds.specs.Kinds.{Kind}
use Rattle.move_kinds.specs.Offering.{IsOfferFor, ListStopsAt}
use Rattle.move_kinds.proofs.Does.{does_of, does_step}
use Rattle.move_kinds.proofs.KindsLeave.{kind_leaves}
use Rattle.cas_executor_laws.proofs.OfferedPartsKept.{stop_kept}
use Rattle.helper_knowledge.specs.Callers.{Caller}
use Rattle.helper_knowledge.specs.Carried.{Carried}
use Rattle.helper_knowledge.specs.HelperStep.{HandIsSpare, RestsOn, Steps, UsedSmall}
use Rattle.helper_knowledge.specs.Knowing.{KnowsSearch, ToldWhole}
use Rattle.helper_knowledge.specs.WorkKnown.{KnowsWork}
use Rattle.helper_knowledge.proofs.Own.OwnKinds.{wrap_kind}
use Rattle.helper_knowledge.proofs.Own.WorkKinds.{claim_kind, fills_kind}
use Rattle.helper_knowledge.proofs.Own.OwnList.{stopped_now, wrap_goes}
use Rattle.helper_knowledge.proofs.Own.OwnReads.{own_read}
use Rattle.helper_knowledge.proofs.Own.OwnSteps.{own_execute, own_look, own_search, own_wrap}
use Rattle.helper_knowledge.proofs.Own.OwnWork.{own_exhausts, own_fill, own_head, own_names, own_op, own_value}
use Rattle.helper_knowledge.proofs.Own.ToldWhole.{told_whole}

-- a turn goes on only where the test held
goes_if : {S W : Type 0} (form : NormalForm S W) (b : Bool) → again_if form (not b) ≡ Going → b ≡ true
goes_if form true e = refl
goes_if form false e = absurd cc

value_below : (word : ℕ) → announced_value word < 2 ^ 32
unfolding announced_value field_of
value_below word = omega arith

none_in : {A : Type 0} (block : ℕ) → None ≡ Some block → A
none_in block e = absurd cc

module _ {S W : Type 0} (form : NormalForm S W) (laws : Laws form) (world after : World) (offers : ℕ → Option (Offer S)) (caller : Caller) (head word : ℕ) (hand : Option ℕ) (own own' : Carried S) (identity cap : ℕ) (seen : Seen)
    (rests : RestsOn form world offers head caller) (spare : HandIsSpare world offers hand) (small : UsedSmall after) where
  abbrev Known : World → Option ℕ → Carried S → Work S W → Type 0
  Known w h o does = KnowsWork form w offers caller head word h o does

  abbrev Stepped : Work S W → Type 0
  Stepped does = Steps form world after offers head word hand own own' identity cap seen does

  in_after : (does : Work S W) (h : Option ℕ) → after ≡ world → Known world h own' does → Known after h own' does
  in_after does h same knows = subst (λ w. Known w h own' does) (sym same) knows

  -- a kind is an allowed step
  kind_step : Kind form world after offers offers 0 hand → IsStep form world after
  kind_step kind = does_step form world after offers hand (does_of form world after offers hand laws rests.holds offers 0 kind)

  -- ---- before the search

  head_goes : after ≡ world → Stepped work.Head → Known world hand own work.Head → Known after hand own' (work_fed form work.Head head word hand cap seen)
  head_goes same is knows = in_after (work_fed form work.Head head word hand cap seen) hand same (own_head form laws world rests.holds.shape offers caller head word hand own' is.1 knows)

  op_goes : Stepped work.Op → work_turn form work.Op head word seen ≡ Going → Known world hand own work.Op → Known after hand own' (work.Value seen.before)
  op_goes is going knows =
      let number : op_number seen.before ≡ record_number word = eqb-true (op_number seen.before) (record_number word) (goes_if form (op_number seen.before == record_number word) going) in
      in_after (work.Value seen.before) hand is.0
      (subst (λ w. Known world hand own' (work.Value w)) (sym is.1)
      (own_op form laws world rests.holds.shape offers caller head word hand own' rests.announced knows (ap op_number (sym is.1) ∙ number)))

  value_goes : (op : ℕ) → Stepped (work.Value op) → work_turn form (work.Value op) head word seen ≡ Going → Known world hand own (work.Value op) → Known after hand own' (work_fed form (work.Value op) head word hand cap seen)
  value_goes op is going knows =
      let parts = and_parts (value_number seen.before == record_number word) (form.object.serves (announced_op op seen.before)) (goes_if form _ going) in
      let number : value_number seen.before ≡ record_number word = eqb-true (value_number seen.before) (record_number word) parts.0 in
      let command : IsCommandOf form.object (announced_op op seen.before) = record { command = parts.1; value = value_below seen.before } in
      in_after (work_fed form (work.Value op) head word hand cap seen) hand is.0
      (subst (λ w. IsCommandOf form.object (announced_op op w) → value_number w ≡ record_number word → Known world hand own' (work.Generate (announced_op op w) (form.begin_of (announced_op op w)) Search)) (sym is.1)
      (λ is_command' number'. own_value form laws world rests.holds.shape offers caller head word op hand own own' rests.announced rests.command rests.few rests.early is.2 is_command' number' knows) command number)

  -- ---- the search

  found_fits : (op : Op) (s : S) → Known world hand own (work.Generate op s Search) → Stepped (work.Generate op s Search) → (outcome : Outcome) → form.found_of s seen ≡ found.Answer outcome → ToldWhole outcome
  found_fits op s knows is outcome at =
      let search' = knows.1 in
      let fits = laws.answers_fit world after seen s op own.since search'.command rests.holds.shape knows.2 search'.knows is.0 in
      let well = (laws.search_fed world after seen s op own.since search'.command rests.holds.shape knows.2 search'.knows is.0).1 in
      let right = (subst (FoundWell form after op own.since (form.feed_of s seen)) at well).0 in
      told_whole after outcome _ small (subst FoundFits at fits) right.told

  step_shape : IsStep form world after → form.shape after
  step_shape step = laws.shape_kept world after rests.holds.shape step

  search_goes : (op : Op) (s : S) → Stepped (work.Generate op s Search) → work_turn form (work.Generate op s Search) head word seen ≡ Going → Known world hand own (work.Generate op s Search)
      → Known after hand own' (work_fed form (work.Generate op s Search) head word hand cap seen)
  search_goes op s is going knows =
      let search' = knows.1 in
      own_search form laws offers caller head word hand world after rests.holds.shape (step_shape (searches s op own.since search'.command knows.2 search'.knows is.0)) own own' op s seen is.0 is.1 identity
      (λ block in_hand ready. (is.2 block in_hand ready).0) (λ block in_hand ready. (is.2 block in_hand ready).1) (found_fits op s knows is) knows going

  look_goes : (op : Op) (s : S) → Stepped (work.Generate op s LookForBlock) → Known world hand own (work.Generate op s LookForBlock) → Known after hand own' (work_fed form (work.Generate op s LookForBlock) head word hand cap seen)
  look_goes op s is knows =
      in_after (work_fed form (work.Generate op s LookForBlock) head word hand cap seen) hand is.0
      (own_look form laws offers caller head word hand world rests.holds.shape own own' op s is.1 (nat_lt seen.before cap) knows)

  claim_step : (op : Op) (s : S) → Stepped (work.Generate op s Claim) → IsStep form world after
  claim_step op s is = kind_step (claim_kind form laws world after offers caller head word hand own own' identity cap seen rests spare 0 op s is)

  -- a block was claimed, or none was left
  claim_goes : (op : Op) (s : S) → Stepped (work.Generate op s Claim) → Known world hand own (work.Generate op s Claim)
      → Known after (work_hand {S = S} {W = W} (work.Generate op s Claim) hand cap seen) own' (work_fed form (work.Generate op s Claim) head word hand cap seen)
  claim_goes op s is knows = by_cap (nat_lt seen.before cap) refl
    where
      step : IsStep form world after
      step = claim_step op s is

      knows_after : KnowsSearch form after caller word op s own.since
      knows_after = record {
        command = knows.1.command;
        knows = laws.knows_kept world after s op own.since knows.1.command rests.holds.shape knows.1.knows step;
        op_is = knows.1.op_is;
        early = knows.1.early;
      }

      by_cap : (b : Bool) → nat_lt seen.before cap ≡ b
          → Known after (if b then Some (seen.before + 1) else hand) own' (if b then filling form op s head word (Some (seen.before + 1)) else work.Advance (told_word word (Plain Exhausted)))
      by_cap true at =
          let below : seen.before < cap = grind (arith, nat_tests, at) in
          let list = is.2 below in
          own_names form laws after (step_shape step) offers caller head word op s (seen.before + 1) identity own own' knows.0 list.0 knows.2 knows_after list.1
      by_cap false at = own_exhausts form laws after (step_shape step) offers caller head word hand own' knows.0

  -- ---- a store

  fill_goes : (stores : ArrayVec (ℕ × ℕ)) (made : ℕ) → made < length stores.items → Stepped (work.Fill stores made) → Known world hand own (work.Fill stores made)
      → Known after hand own' (work_fed form (work.Fill stores made) head word hand cap seen)
  fill_goes stores made can is knows =
      let store = get_or stores.items made (0, 0) in
      let at = slice_get-get_or stores.items made (0, 0) can in
      let put = is.1 store at in
      let next = work_fed form (work.Fill stores made) head word hand cap seen in
      let filled = own_fill form laws world rests.holds.shape offers caller head word stores made store hand (record { since = own'.since; filled = own.filled }) at (subst (λ w. IsStep form world w) put (kind_step (fills_kind form laws world after offers caller head word hand own own' identity cap seen rests spare 0 stores made can is knows))) knows in
      subst (λ w. Known w hand own' next) (sym put)
      (subst (λ (f : Option (Offer S)). Known (put_word store.0 store.1 world) hand (record { since = own'.since; filled = f }) next) (sym is.0) filled)

  -- ---- the list of the block that the record names

  -- a wrap-up that is over where it begins has an outcome that the record tells whole
  begun_fits : UsedSmall world → (offer : Offer S) (of : IsOfferFor offers (named_block word) head (record_number word) offer) → ListStopsAt world offer (payload_stop (record_payload word))
      → (outcome : Outcome) → form.wrap_begun_of offer.list.call.op offer.list.entries (payload_stop (record_payload word)) ≡ wrapped.Done outcome → ToldWhole outcome
  begun_fits small' offer of stopped outcome at =
      let mine = rests.holds.blocks.offered (named_block word) offer of.stands in
      let stop = payload_stop (record_payload word) in
      let done = stopped_now form laws world rests.holds.shape offers rests.holds.blocks caller head word offer of stop stopped in
      let fits = laws.of_world.begun_fits world offer.list offer.offering offer.since stop rests.holds.shape mine.offered done in
      let well = laws.of_world.wrap_begun world offer.list offer.offering offer.since stop rests.holds.shape mine.offered done in
      let by = (subst (WrappedWell form world offer.list stop (form.begin_wrap_of offer.list.call.op offer.list.entries stop)) at well).0 in
      told_whole world outcome by.reply small' (subst WrappedFits at fits) by.told

  read_goes : (read : ReadWalk) → IsReading read → Stepped (work.Read read) → Known world hand own (work.Read read) → Known after hand own' (work_fed form (work.Read read) head word hand cap seen)
  read_goes read can is knows =
      in_after (work_fed form (work.Read read) head word hand cap seen) hand is.0
      (own_read form laws world rests.holds.shape offers rests.holds.blocks caller head word hand own' rests.contents (begun_fits (subst UsedSmall is.0 small)) read seen can is.1 knows)

  execute_goes : (run : SlowWalk) → Stepped (work.Execute run) → Known world hand own (work.Execute run) → Known after hand own' (work_fed form (work.Execute run) head word hand cap seen)
  execute_goes run is knows =
      let known = knows.1 in
      let offer = known.0 in
      let of = known.1 in
      let same = is.1 offer of.stands in
      let runs = run_knows form world offers rests.holds (named_block word) offer of.stands run seen after.words known.2 is.0 in
      own_execute form laws offers caller head word hand world after rests.holds.shape rests.holds.blocks own' run seen offer of knows.0
      (subst (λ (w : World). Helps (site_of offer) after.words (has_taken w.journal offer.list) (slow_fed run seen) (slow_execution run seen)) (sym same) runs)

  -- its wrap-up makes a step: the list has stopped where it had
  wrap_stops : (wrap : W) → Stepped (work.Wrap wrap) → (knows : Known world hand own (work.Wrap wrap)) → ListStopsAt after knows.1.0 (payload_stop (record_payload word))
  wrap_stops wrap is knows =
      let known = knows.1 in
      let offer = known.0 in
      let of = known.1 in
      let mine = rests.holds.blocks.offered (named_block word) offer of.stands in
      let kind : Kind form world after offers offers 0 None = wrap_kind form laws world rests.holds.shape offers 0 None wrap after seen offer.list (payload_stop (record_payload word)) mine.offered.command known.3 known.4 is in
      let leaves = kind_leaves form laws world after offers offers rests.holds 0 None kind None (λ block e. none_in block e) (λ block e. none_in block e) in
      stop_kept (site_of offer) mine.site world.words (has_taken world.journal offer.list) after.words (has_taken after.journal offer.list)
      (leaves.deeds (named_block word) offer of.stands) mine.parts.lives (payload_stop (record_payload word)) known.2

  wrap_fits : (wrap : W) → Stepped (work.Wrap wrap) → (knows : Known world hand own (work.Wrap wrap)) → (outcome : Outcome) → form.wrap_found_of wrap seen ≡ wrapped.Done outcome → ToldWhole outcome
  wrap_fits wrap is knows outcome at =
      let known = knows.1 in
      let offer = known.0 in
      let of = known.1 in
      let mine = rests.holds.blocks.offered (named_block word) offer of.stands in
      let stop = payload_stop (record_payload word) in
      let fits = laws.wraps_fit world after seen wrap offer.list stop mine.offered.command rests.holds.shape known.3 known.4 is in
      let well = wrap_goes form laws world rests.holds.shape offers rests.holds.blocks caller head word offer of after seen stop wrap known.3 known.4 is in
      let by = (subst (WrappedWell form after offer.list stop (form.feed_wrap_of wrap seen)) at well).0 in
      told_whole after outcome by.reply small (subst WrappedFits at fits) by.told

  wrap_goes_on : (wrap : W) → Stepped (work.Wrap wrap) → Known world hand own (work.Wrap wrap) → Known after hand own' (work_fed form (work.Wrap wrap) head word hand cap seen)
  wrap_goes_on wrap is knows = own_wrap form laws offers caller head word hand world after rests.holds.shape rests.holds.blocks own own' wrap seen is knows (wrap_stops wrap is knows) (wrap_fits wrap is knows)

  -- ---- all

  pub work_goes : (does : Work S W) → CanWork form does → Stepped does → work_turn form does head word seen ≡ Going → Known world hand own does
      → Known after (work_hand does hand cap seen) own' (work_fed form does head word hand cap seen)
  work_goes work.Head can is going knows = head_goes is.0 is knows
  work_goes work.Op can is going knows = op_goes is going knows
  work_goes (work.Value op) can is going knows = value_goes op is going knows
  work_goes (work.Generate op s Search) can is going knows = search_goes op s is going knows
  work_goes (work.Generate op s LookForBlock) can is going knows = look_goes op s is knows
  work_goes (work.Generate op s Claim) can is going knows = claim_goes op s is knows
  work_goes (work.Fill stores made) can is going knows = fill_goes stores made can is knows
  work_goes (work.Advance to) can is going knows = absurd cc
  work_goes (work.Read read) can is going knows = read_goes read can is knows
  work_goes (work.Execute run) can is going knows = execute_goes run is knows
  work_goes (work.Wrap wrap) can is going knows = wrap_goes_on wrap is knows
