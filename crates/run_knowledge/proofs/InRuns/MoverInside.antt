-- The request of each machine that moves is inside the memory, by cases on its phase; so each move is one of the kinds.
use Rattle.std.proofs.Common.{◌≡◌, ◌∙◌, sym, subst, ap, ℕ, ◌<◌, ◌≤◌, List, length, slice_get, Option, Some, None, All, arith}
use Rattle.word_fields.specs.Records.{record_number}
use Rattle.normal_traits.specs.declared.lists.Entry.{Entry}
use Rattle.normal_traits.specs.World.{World}
use Rattle.normal_traits.specs.NormalForm.{NormalForm}
use Rattle.normal_traits.specs.Laws.{IsGoodStore, Laws}
use Rattle.fast_slow_engine.specs.declared.phases.Generating.TheVariants.{Search, LookForBlock, Claim}
use Rattle.fast_slow_engine.specs.declared.setup.Setup.{Setup}
use Rattle.fast_slow_engine.specs.declared.help.Work.{Work}
use Rattle.fast_slow_engine.specs.declared.help.Work.TheVariants as work
use Rattle.fast_slow_engine.specs.HelpWords.{named_block}
use Rattle.fast_slow_engine.specs.Runs.{AreMoves, Move, run_of}
use Rattle.offered_blocks.specs.Blocks.{Offer}
use Rattle.move_kinds.proofs.Stores.Into.{IsInto, offer_into}
use Rattle.helper_knowledge.specs.Callers.{Caller}
use Rattle.helper_knowledge.specs.Carried.{Carried, OfSome}
use Rattle.helper_knowledge.specs.Knowing.{KnowsOffer}
use Rattle.helper_knowledge.specs.WorkKnown.{KnowsWork}
use Rattle.run_queue.specs.Fits.{WorkFits}
use Rattle.run_world.specs.RunGhosts.{ghost_of, world_of}
use Rattle.run_hands.proofs.Blocks.Named.{offers_claimed}
use Rattle.run_knowledge.specs.InMemory.{StoresInside, WorkInside}
use Rattle.run_knowledge.specs.Kept.{IsKept}
use Rattle.run_knowledge.proofs.Bounds.InKept.{keeps_claims}
use Rattle.run_knowledge.proofs.InRuns.Inside.{asks_inside, field_inside, slow_inside}
use Rattle.run_knowledge.proofs.Bounds.InKept as bounds

module _ {S W : Type 0} (form : NormalForm S W) (laws : Laws form) (setup : Setup) (older : List Move) (are : AreMoves form setup older) (kept : IsKept form setup older) where
  abbrev world : World
  world = world_of form setup older

  abbrev words : List ℕ
  words = (run_of form setup older).words

  abbrev offers : ℕ → Option (Offer S)
  offers = (ghost_of form setup older).offers

  -- a store of a helper's list
  offer_inside : (caller : Caller) (head word block : ℕ) (stores : List (ℕ × ℕ)) (made : ℕ) (filled : Option (Offer S)) → block ≤ setup.cap → OfSome (KnowsOffer form world caller head word block stores made) filled
      → StoresInside (slice_get stores made) words
  offer_inside caller head word block stores made None within knows = absurd knows
  offer_inside caller head word block stores made (Some offer) within knows =
      let offered = knows.offered in
      let good = laws.of_world.offers world offer.offering offer.list.call.op offer.since offer.list.block offered.command kept.holds.shape offered.knows offered.ready offered.small in
      let all : All (IsGoodStore form block) (form.offer_of offer.offering offer.list.call.op block).stores =
      subst (λ b. All (IsGoodStore form b) (form.offer_of offer.offering offer.list.call.op b).stores) knows.block_is good.stores in
      λ store at. (
      let into : IsInto block store =
      offer_into form block head (record_number word) offer.list.call.op offer.list.entries (form.offer_of offer.offering offer.list.call.op block).stores all made store
      (ap (λ (l : List (ℕ × ℕ)). slice_get l made) (sym knows.stores_are) ∙ at) in
      subst (λ p. p < length words) (sym into.place) (field_inside form laws setup older are kept block into.field within into.within))

  -- a helper's work
  pub work_inside : (caller : Caller) (head word : ℕ) (hand : Option ℕ) (own : Carried S) (does : Work S W) → ((block : ℕ) → hand ≡ Some block → block ≤ setup.cap) → WorkFits word does
      → KnowsWork form world offers caller head word hand own does → WorkInside form does word words
  work_inside caller head word hand own work.Head small fits knows = fits
  work_inside caller head word hand own work.Op small fits knows = tt
  work_inside caller head word hand own (work.Value op) small fits knows = tt
  work_inside caller head word hand own (work.Generate op s Search) small fits knows =
      asks_inside form laws setup older are kept (form.request_of s) (laws.of_world.search_asks_well world s op own.since knows.1.command kept.holds.shape knows.2 knows.1.knows)
  work_inside caller head word hand own (work.Generate op s LookForBlock) small fits knows = tt
  work_inside caller head word hand own (work.Generate op s Claim) small fits knows = tt
  work_inside caller head word hand own (work.Fill stores made) small fits knows =
      offer_inside caller head word knows.1.0 stores.items made own.filled (small knows.1.0 knows.1.1) knows.1.2
  work_inside caller head word hand own (work.Advance to) small fits knows = tt
  work_inside caller head word hand own (work.Read read) small fits knows = tt
  work_inside caller head word hand own (work.Execute run) small fits knows =
      let offer = knows.1.0 in
      let stands = knows.1.1.stands in
      let known = knows.1.2 in
      let mine = kept.holds.blocks.offered (named_block word) offer stands in
      let claimed = offers_claimed form setup older are (keeps_claims form setup older are kept) (named_block word) offer stands in
      let here : run.block ≡ named_block word = known.block ∙ mine.block_is in
      slow_inside form laws setup older are kept run (subst (λ b. b ≤ setup.cap) (sym here) claimed.within) (let within = known.within in let short = mine.site.short in omega (arith, within, short))
      (λ entry at. bounds.inside form setup older are kept entry.target (mine.targets run.next entry (ap (λ (l : List Entry). slice_get l run.next) (sym known.entries) ∙ at)).0)
  work_inside caller head word hand own (work.Wrap wrap) small fits knows =
      asks_inside form laws setup older are kept (form.wrap_request_of wrap) (laws.of_world.wrap_asks_well world wrap knows.1.0.list _ kept.holds.shape knows.1.3 knows.1.4)
