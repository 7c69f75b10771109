-- A step of a helper's own is one of the kinds of moves.
use Rattle.std.proofs.Common.{refl, sym, subst, ℕ, ◌<◌, inr, length, Option, Some, None}
use Rattle.std.specs.Prelude.{get_or}
use Rattle.std.proofs.lemmas.Option.{slice_get-get_or}
use Rattle.arrayvec.specs.ArrayVec.{ArrayVec}
use Rattle.lin_report.specs.declared.calls.Op.{Op}
use Rattle.step_memory.specs.declared.steps.Seen.{Seen}
use Rattle.word_fields.specs.Payloads.{payload_stop}
use Rattle.word_fields.specs.Records.{record_payload}
use Rattle.node_arena.specs.declared.places.TheConstants.{CLAIMS}
use Rattle.normal_traits.specs.World.{World}
use Rattle.normal_traits.specs.NormalForm.{NormalForm}
use Rattle.normal_traits.specs.Laws.{Laws}
use Rattle.cas_executor.specs.SlowRuns.{SlowWalk}
use Rattle.fast_slow_engine.specs.declared.phases.Generating.TheVariants.{Search, LookForBlock, Claim}
use Rattle.fast_slow_engine.specs.declared.help.Work.{Work}
use Rattle.fast_slow_engine.specs.declared.help.Work.TheVariants as work
use Rattle.fast_slow_engine.specs.HelpTable.{CanWork}
use Rattle.fast_slow_engine.specs.HelpWords.{named_block}
use Rattle.offered_blocks.specs.Blocks.{Offer}
use Rattle.offered_blocks.specs.HelperSteps.{Helps}
use Rattle.offered_blocks.proofs.Helpers.Running.{run_helps}
use Rattle.move_kinds.specs.Kinds.{Kind}
use Rattle.move_kinds.specs.Kinds.Kind.{quiet, counts, executes}
use Rattle.helper_knowledge.specs.Callers.{Caller}
use Rattle.helper_knowledge.specs.Carried.{Carried, OfSome}
use Rattle.helper_knowledge.specs.HelperStep.{HandIsSpare, RestsOn, Steps}
use Rattle.helper_knowledge.specs.Knowing.{KnowsOffer}
use Rattle.helper_knowledge.specs.WorkKnown.{KnowsWork}
use Rattle.helper_knowledge.proofs.Own.OwnKinds.{fill_kind, search_kind, wrap_kind}

module _ {S W : Type 0} (form : NormalForm S W) (laws : Laws form) (world after : World) (offers : ℕ → Option (Offer S)) (caller : Caller) (head word : ℕ) (hand : Option ℕ) (own own' : Carried S) (identity cap : ℕ) (seen : Seen)
    (rests : RestsOn form world offers head caller) (spare : HandIsSpare world offers hand) (mover : ℕ) where
  abbrev Knows : Work S W → Type 0
  Knows does = KnowsWork form world offers caller head word hand own does

  abbrev Stepped : Work S W → Type 0
  Stepped does = Steps form world after offers head word hand own own' identity cap seen does

  abbrev IsKind : World → Type 0
  IsKind w = Kind form world w offers offers mover hand

  pub claim_kind : (op : Op) (s : S) → Stepped (work.Generate op s Claim) → IsKind after
  claim_kind op s is = counts CLAIMS is.0.0 (inr refl) is.0.1 refl

  pub fills_kind : (stores : ArrayVec (ℕ × ℕ)) (made : ℕ) → made < length stores.items → Stepped (work.Fill stores made) → Knows (work.Fill stores made) → IsKind after
  fills_kind stores made can is knows = by_filled own.filled knows.1.2
    where
      by_filled : (filled : Option (Offer S)) → OfSome (KnowsOffer form world caller head word knows.1.0 stores.items made) filled → IsKind after
      by_filled None known = absurd known
      by_filled (Some offer) known =
          let store = get_or stores.items made (0, 0) in
          let at = slice_get-get_or stores.items made (0, 0) can in
          let free = spare knows.1.0 knows.1.1 in
          subst IsKind (sym (is.1 store at)) (fill_kind form laws world rests.holds.shape offers mover hand caller head word knows.1.0 stores.items made offer known free.some store at knows.1.1 free)

  execute_kind : (run : SlowWalk) → Stepped (work.Execute run) → Knows (work.Execute run) → IsKind after
  execute_kind run is knows =
      let known = knows.1 in
      let offer = known.0 in
      let of = known.1 in
      executes (named_block word) offer of.stands
      (subst (Helps form world offer) (sym (is.1 offer of.stands)) (run_helps form world offers rests.holds (named_block word) offer of.stands run seen after.words known.2 is.0)) refl

  wraps_kind : (wrap : W) → Stepped (work.Wrap wrap) → Knows (work.Wrap wrap) → IsKind after
  wraps_kind wrap is knows =
      let known = knows.1 in
      let mine = rests.holds.blocks.offered (named_block word) known.0 known.1.stands in
      wrap_kind form laws world rests.holds.shape offers mover hand wrap after seen known.0.list (payload_stop (record_payload word)) mine.offered.command known.3 known.4 is

  pub work_kind : (does : Work S W) → CanWork form does → Stepped does → Knows does → IsKind after
  work_kind work.Head can is knows = quiet is.0 refl
  work_kind work.Op can is knows = quiet is.0 refl
  work_kind (work.Value op) can is knows = quiet is.0 refl
  work_kind (work.Generate op s Search) can is knows = search_kind form laws world rests.holds.shape offers mover hand s after seen op own.since knows.1.command knows.2 knows.1.knows is.0
  work_kind (work.Generate op s LookForBlock) can is knows = quiet is.0 refl
  work_kind (work.Generate op s Claim) can is knows = claim_kind op s is
  work_kind (work.Fill stores made) can is knows = fills_kind stores made can is knows
  work_kind (work.Advance to) can is knows = quiet is refl
  work_kind (work.Read read) can is knows = quiet is.0 refl
  work_kind (work.Execute run) can is knows = execute_kind run is knows
  work_kind (work.Wrap wrap) can is knows = wraps_kind wrap is knows
