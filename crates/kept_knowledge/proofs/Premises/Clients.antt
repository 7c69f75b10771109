-- In a run of which the invariant holds each request of the client leaves the words that can't be the client's.
use Rattle.std.proofs.Common.{◌≡◌, ◌∙◌, sym, subst, ap, ℕ, ◌<◌, true, List, slice_get, Option, Some, None, All}
use Rattle.arrayvec.specs.ArrayVec.{ArrayVec}
use Rattle.word_fields.specs.Records.{record_number}
use Rattle.normal_traits.specs.declared.lists.Entry.{Entry}
use Rattle.normal_traits.specs.World.{World}
use Rattle.normal_traits.specs.NormalForm.{NormalForm}
use Rattle.normal_traits.specs.Laws.{IsGoodEntry, IsGoodStore, Laws}
use Rattle.normal_traits.proofs.Stays.{all_at, entry_good}
use Rattle.cas_executor.specs.FastRuns.{FastWalk, fast_request}
use Rattle.fast_slow_engine.specs.declared.phases.Phase.{Phase}
use Rattle.fast_slow_engine.specs.declared.phases.Phase.TheVariants as phase
use Rattle.fast_slow_engine.specs.declared.phases.Generating.TheVariants.{Search, LookForBlock, Claim}
use Rattle.fast_slow_engine.specs.declared.phases.Applying.TheVariants.{Fill, Execute}
use Rattle.fast_slow_engine.specs.declared.help.Helping.{Helping}
use Rattle.fast_slow_engine.specs.declared.help.Helping.TheVariants.{Record, Known, Remove}
use Rattle.fast_slow_engine.specs.declared.help.Work.{Work}
use Rattle.fast_slow_engine.specs.declared.help.Work.TheVariants as work
use Rattle.fast_slow_engine.specs.HelpTable.{helping_request, work_request}
use Rattle.fast_slow_engine.specs.HelpWords.{named_block}
use Rattle.fast_slow_engine.specs.Mechs.{Mech}
use Rattle.fast_slow_engine.specs.OfferStores.{stored_by}
use Rattle.fast_slow_engine.specs.PhaseTable.{request_in}
use Rattle.offered_blocks.specs.Blocks.{Offer}
use Rattle.offered_blocks.specs.Holds.{HasOffers}
use Rattle.move_kinds.proofs.Stores.Into.{IsInto, offer_into}
use Rattle.helper_knowledge.specs.Callers.{Caller}
use Rattle.helper_knowledge.specs.Carried.{Carried, OfSome}
use Rattle.helper_knowledge.specs.Knowing.{KnowsOffer}
use Rattle.helper_knowledge.specs.WorkKnown.{KnowsWork}
use Rattle.run_queue.specs.Premises.{helps_for_client, is_for_client, works_for_client}
use Rattle.run_knowledge.specs.Ghosts.{Held, SeatGhost}
use Rattle.run_knowledge.specs.InHand.{BlockIn}
use Rattle.run_knowledge.specs.Lists.{HoldsIn, IsOffering}
use Rattle.run_knowledge.specs.Known.{KnowsFill, KnowsHelp, KnowsIn, KnowsRun, KnowsWrap, MakesCommand}
use Rattle.run_knowledge.proofs.OfKinds.OwnStores.{IsOwnStore, filling, held_offer, own_stored}
use Rattle.kept_knowledge.proofs.Premises.Requests.{LeavesOthers, asks_leaves, run_leaves, slow_leaves, stores_leave}

module _ {S W : Type 0} (form : NormalForm S W) (laws : Laws form) (world : World) (offers : ℕ → Option (Offer S)) (holds : HasOffers form world offers) where
  -- ---- the own call

  fill_leaves : (run : FastWalk) (stores : ArrayVec (ℕ × ℕ)) (made : ℕ) (mech : Mech S W) (held : Option (Held S)) → ((block : ℕ) → mech.hand ≡ Some block → 0 < block) → form.needs_block mech.op ≡ true
      → OfSome (λ (h : Held S). mech.hand ≡ Some h.list.block) held → OfSome (IsOffering form run stores mech) held → OfSome (KnowsFill form world run stores made) held → LeavesOthers (stored_by (slice_get stores.items made))
  fill_leaves run stores made mech None some needs has offering knows = absurd knows
  fill_leaves run stores made mech (Some held) some needs has offering knows =
      stores_leave (slice_get stores.items made)
      (λ store at.
      let block = held.list.block in
      let offer = form.offer_of held.offering held.list.call.op block in
      let good = (held_offer form laws world holds.shape held knows.offered).stores in
      let is : IsOwnStore form block store =
      own_stored form laws block mech.seat mech.number mech.op (some block has) offer.stores (λ k s here. all_at (IsGoodStore form block) offer.stores k s good here) made store
      (ap (λ (l : List (ℕ × ℕ)). slice_get l made) (sym (filling form laws world holds.shape run stores mech held needs has offering)) ∙ at) in
      (block, is.field, is.place))

  execute_leaves : (run : FastWalk) (stores : ArrayVec (ℕ × ℕ)) (mech : Mech S W) (held : Option (Held S)) → OfSome (IsOffering form run stores mech) held → OfSome (KnowsRun form world run) held → LeavesOthers (fast_request run)
  execute_leaves run stores mech None offering knows = absurd knows
  execute_leaves run stores mech (Some held) offering knows =
      run_leaves form.is_root world run
      (λ entry at.
      let listed : slice_get held.list.entries run.next ≡ Some entry = ap (λ (l : List Entry). slice_get l run.next) offering.entries ∙ at in
      let good : IsGoodEntry form world entry = entry_good form laws world held.list held.offering held.since run.next entry holds.shape knows.offered listed in
      good.word)

  wrap_leaves : (wrap : W) (held : Option (Held S)) → OfSome (KnowsWrap form world wrap) held → LeavesOthers (form.wrap_request_of wrap)
  wrap_leaves wrap None knows = absurd knows
  wrap_leaves wrap (Some held) knows = asks_leaves form world (form.wrap_request_of wrap) (laws.of_world.wrap_asks_well world wrap held.list held.stop holds.shape knows.wraps knows.follows)

  -- ---- a head's

  offer_leaves : (caller : Caller) (head word block : ℕ) (stores : List (ℕ × ℕ)) (made : ℕ) (filled : Option (Offer S)) → OfSome (KnowsOffer form world caller head word block stores made) filled → LeavesOthers (stored_by (slice_get stores made))
  offer_leaves caller head word block stores made None knows = absurd knows
  offer_leaves caller head word block stores made (Some offer) knows =
      let offered = knows.offered in
      let good = laws.of_world.offers world offer.offering offer.list.call.op offer.since offer.list.block offered.command holds.shape offered.knows offered.ready offered.small in
      let all : All (IsGoodStore form block) (form.offer_of offer.offering offer.list.call.op block).stores =
      subst (λ b. All (IsGoodStore form b) (form.offer_of offer.offering offer.list.call.op b).stores) knows.block_is good.stores in
      stores_leave (slice_get stores made)
      (λ store at.
      let into : IsInto block store =
      offer_into form block head (record_number word) offer.list.call.op offer.list.entries (form.offer_of offer.offering offer.list.call.op block).stores all made store
      (ap (λ (l : List (ℕ × ℕ)). slice_get l made) (sym knows.stores_are) ∙ at) in
      (block, into.field, into.place))

  work_leaves : (caller : Caller) (head word : ℕ) (hand : Option ℕ) (own : Carried S) (does : Work S W) → works_for_client does ≡ true → KnowsWork form world offers caller head word hand own does
      → LeavesOthers (work_request form does head word)
  work_leaves caller head word hand own work.Head client knows = absurd cc
  work_leaves caller head word hand own work.Op client knows = absurd cc
  work_leaves caller head word hand own (work.Value op) client knows = absurd cc
  work_leaves caller head word hand own (work.Generate op s Search) client knows =
      asks_leaves form world (form.request_of s) (laws.of_world.search_asks_well world s op own.since knows.1.command holds.shape knows.2 knows.1.knows)
  work_leaves caller head word hand own (work.Generate op s LookForBlock) client knows = absurd cc
  work_leaves caller head word hand own (work.Generate op s Claim) client knows = absurd cc
  work_leaves caller head word hand own (work.Fill stores made) client knows = offer_leaves caller head word knows.1.0 stores.items made own.filled knows.1.2
  work_leaves caller head word hand own (work.Advance to) client knows = absurd cc
  work_leaves caller head word hand own (work.Read read) client knows = absurd cc
  work_leaves caller head word hand own (work.Execute run) client knows =
      let mine = holds.blocks.offered (named_block word) knows.1.0 knows.1.1.stands in
      let known = knows.1.2 in
      slow_leaves form.is_root world run (λ entry at. (mine.targets run.next entry (ap (λ (l : List Entry). slice_get l run.next) (sym known.entries) ∙ at)).0)
  work_leaves caller head word hand own (work.Wrap wrap) client knows =
      asks_leaves form world (form.wrap_request_of wrap) (laws.of_world.wrap_asks_well world wrap knows.1.0.list _ holds.shape knows.1.3 knows.1.4)

  help_leaves : (caller : Caller) (head : ℕ) (hand : Option ℕ) (own : Carried S) (help : Helping S W) → helps_for_client help ≡ true → KnowsHelp form world offers caller head hand own help → LeavesOthers (helping_request form help head)
  help_leaves caller head hand own (Record known) client knows = absurd cc
  help_leaves caller head hand own (Known word does) client knows = work_leaves caller head word hand own does client knows.1
  help_leaves caller head hand own (Remove removal) client knows = absurd cc

  -- so each request of the client, in whatever phase
  pub phase_leaves : (callers : ℕ → Caller) (mech : Mech S W) (own : SeatGhost S) (at : Phase S W) → ((block : ℕ) → mech.hand ≡ Some block → 0 < block) → is_for_client at ≡ true → MakesCommand form at mech
      → KnowsIn form at mech own world offers callers → HoldsIn form at mech own.held → BlockIn form at mech own.held → LeavesOthers (request_in form at mech)
  phase_leaves callers mech own (phase.Generate s Search) some client command knows lists block =
      asks_leaves form world (form.request_of s) (laws.of_world.search_asks_well world s mech.op own.carried.since command holds.shape knows.0 knows.1)
  phase_leaves callers mech own (phase.Generate s LookForBlock) some client command knows lists block = absurd cc
  phase_leaves callers mech own (phase.Generate s Claim) some client command knows lists block = absurd cc
  phase_leaves callers mech own (phase.Apply run stores (Fill made)) some client command knows lists block = fill_leaves run stores made mech own.held some block.0 block.2 lists knows
  phase_leaves callers mech own (phase.Apply run stores Execute) some client command knows lists block = execute_leaves run stores mech own.held lists knows
  phase_leaves callers mech own (phase.Wrap w) some client command knows lists block = wrap_leaves w own.held knows
  phase_leaves callers mech own (phase.Help drives help) some client command knows lists block = help_leaves (callers help.head) help.head mech.hand own.carried help.at client knows
  phase_leaves callers mech own phase.Idle some client command knows lists block = absurd cc
  phase_leaves callers mech own phase.Begin some client command knows lists block = absurd cc
  phase_leaves callers mech own phase.Look some client command knows lists block = absurd cc
  phase_leaves callers mech own (phase.Announce step) some client command knows lists block = absurd cc
  phase_leaves callers mech own (phase.Enter owner) some client command knows lists block = absurd cc
  phase_leaves callers mech own phase.Drive some client command knows lists block = absurd cc
  phase_leaves callers mech own phase.Collect some client command knows lists block = absurd cc
  phase_leaves callers mech own (phase.Value reference) some client command knows lists block = absurd cc
  phase_leaves callers mech own (phase.End reply) some client command knows lists block = absurd cc
