-- What a helper knows is kept by whatever leaves its block, the offered blocks and the laws of the client.
use Rattle.std.proofs.Common.{◌≡◌, ◌∙◌, sym, subst, ap, ℕ, ◌≤◌, List, length, slice_get, Option, Some, None, All, arith}
use Rattle.lin_report.specs.declared.calls.Op.{Op}
use Rattle.word_fields.specs.Announced.{op_word}
use Rattle.word_fields.specs.Records.{record_number, record_payload, record_phase}
use Rattle.word_fields.specs.Payloads.{payload_stop}
use Rattle.word_fields.specs.declared.records.RecordPhase.{RecordPhase}
use Rattle.normal_traits.specs.World.{World}
use Rattle.normal_traits.specs.NormalForm.{NormalForm}
use Rattle.normal_traits.specs.Steps.{IsOffered}
use Rattle.normal_traits.specs.Laws.{Laws, IsGoodStore}
use Rattle.cas_executor_laws.proofs.OfferedPartsKept.{knows_kept, stop_kept}
use Rattle.fast_slow_engine.specs.declared.help.Work.{Work}
use Rattle.fast_slow_engine.specs.HelpTable.{CanWork}
use Rattle.fast_slow_engine.specs.HelpWords.{named_block}
use Rattle.offered_blocks.specs.Blocks.{Offer, site_of, has_taken}
use Rattle.offered_blocks.specs.Holds.{HasOffers}
use Rattle.helper_knowledge.specs.Carried.{Carried, OfSome}
use Rattle.move_kinds.proofs.BlockReads.{read_to}
use Rattle.move_kinds.specs.Moves.{Leaves}
use Rattle.helper_knowledge.specs.Callers.{Caller, IfStill, KeepsCall}
use Rattle.move_kinds.specs.Offering.{IsOfferFor, ListStopsAt}
use Rattle.helper_knowledge.specs.Knowing.{KnowsOffer, KnowsSearch}
use Rattle.helper_knowledge.specs.WorkKnown.{MayAdvance, IsNamed, IsSettled, NamedBy, KnowsWork}
use Rattle.helper_knowledge.specs.WorkKnown.MayAdvance.{offers_it, answers, exhausts, settles, completes, restarts}
use Rattle.move_kinds.proofs.OutcomesKept.{right_still, changed_still}
use Rattle.move_kinds.proofs.Stores.Into.{offer_into}
use Rattle.word_fields.specs.declared.records.RecordPhase.TheVariants as marks
use Rattle.fast_slow_engine.specs.declared.help.Work.TheVariants as work

-- what holds where the seat still makes a call is kept
pub if_still : (caller caller' : Caller) (number : ℕ) (P : Caller → Type 0) → KeepsCall caller caller' number → IfStill caller number (P caller) → IfStill caller' number (P caller')
if_still caller caller' number P follows still makes =
    let same = follows makes in
    subst P (sym same) (still (ap (λ (c : Caller). c.number) (sym same) ∙ makes))

-- a seat's number only rises, and no record has the number of a call to come
pub follows_of : (caller caller' : Caller) (number : ℕ) → caller.number ≤ caller'.number → (caller'.number ≡ caller.number → caller' ≡ caller) → number ≤ caller.number → KeepsCall caller caller' number
follows_of caller caller' number rises same below makes = same (omega (arith, rises, below, makes))

module _ {S W : Type 0} (form : NormalForm S W) (laws : Laws form) (world after : World)
    (offers offers' : ℕ → Option (Offer S)) (holds : HasOffers form world offers) (hand : Option ℕ) (leaves : Leaves form world after offers offers' hand) where
  -- ---- what a record names

  is_of : (block head number : ℕ) (offer : Offer S) → IsOfferFor offers block head number offer → IsOfferFor offers' block head number offer
  is_of block head number offer is = record { stands = leaves.offered block offer is.stands; seat_is = is.seat_is; number_is = is.number_is }

  stopped : (block : ℕ) (offer : Offer S) (stop : ℕ) → offers block ≡ Some offer → ListStopsAt world offer stop → ListStopsAt after offer stop
  stopped block offer stop stands is =
      let mine = holds.blocks.offered block offer stands in
      stop_kept (site_of offer) mine.site world.words (has_taken world.journal offer.list) after.words (has_taken after.journal offer.list) (leaves.deeds block offer stands) mine.parts.lives stop is

  pub is_named : (head word : ℕ) → IsNamed form world offers head word → IsNamed form after offers' head word
  is_named head word is = (is.0, is_of (named_block word) head (record_number word) is.0 is.1)

  pub is_settled : (head word : ℕ) → IsSettled form world offers head word → IsSettled form after offers' head word
  is_settled head word is =
      (is.0, is_of (named_block word) head (record_number word) is.0 is.1, stopped (named_block word) is.0 (payload_stop (record_payload word)) is.1.stands is.2)

  pub named_by : (phase : RecordPhase) (head word : ℕ) → NamedBy form world offers phase head word → NamedBy form after offers' phase head word
  named_by marks.Idle head word is = tt
  named_by marks.Generate head word is = tt
  named_by marks.Executing head word is = is_named head word is
  named_by marks.Wrapping head word is = is_settled head word is
  named_by marks.Completed head word is = tt

  -- ---- what a helper carries to the record

  module _ (caller caller' : Caller) (head word : ℕ) (follows : KeepsCall caller caller' (record_number word)) where
    offered_still : (held : Offer S) → IsOffered form world held.list held.offering held.since → IsOffered form after held.list held.offering held.since
    offered_still held is = record {
      command = is.command;
      knows = laws.knows_kept world after held.offering held.list.call.op held.since is.command holds.shape is.knows leaves.step;
      ready = is.ready;
      small = is.small;
      entries = is.entries;
    }

    -- the stores made so far stand: all are into the block in hand
    offer_kept : (block : ℕ) (stores : List (ℕ × ℕ)) (made : ℕ) (held : Offer S) → hand ≡ Some block
        → KnowsOffer form world caller head word block stores made held → KnowsOffer form after caller' head word block stores made held
    offer_kept block stores made held in_hand is =
        let stays = leaves.hand_stays block in_hand in
        let good = (laws.of_world.offers world held.offering held.list.call.op held.since held.list.block is.offered.command holds.shape is.offered.knows is.offered.ready is.offered.small).stores in
        let good' = subst (λ b. All (IsGoodStore form b) (form.offer_of held.offering held.list.call.op b).stores) is.block_is good in
        record {
          offered = offered_still held is.offered;
          block_is = is.block_is;
          seat_is = is.seat_is;
          number_is = is.number_is;
          op_is = if_still caller caller' (record_number word) (λ (c : Caller). held.list.call.op ≡ c.op) follows is.op_is;
          stores_are = is.stores_are;
          stored = λ k store before at.
              (let one = offer_into form block head (record_number word) held.list.call.op held.list.entries _ good' k store (ap (λ (l : List (ℕ × ℕ)). slice_get l k) (sym is.stores_are) ∙ at) in
              ap after.words one.place ∙ stays one.field one.within ∙ ap world.words (sym one.place) ∙ is.stored k store before at);
        }

    some_kept : (block : ℕ) (stores : List (ℕ × ℕ)) (made : ℕ) (held : Option (Offer S)) → hand ≡ Some block
        → OfSome (KnowsOffer form world caller head word block stores made) held → OfSome (KnowsOffer form after caller' head word block stores made) held
    some_kept block stores made None in_hand is = is
    some_kept block stores made (Some held) in_hand is = offer_kept block stores made held in_hand is

    search_kept : (op : Op) (search : S) (since : ℕ) → KnowsSearch form world caller word op search since → KnowsSearch form after caller' word op search since
    search_kept op search since is = record {
      command = is.command;
      knows = laws.knows_kept world after search op since is.command holds.shape is.knows leaves.step;
      op_is = if_still caller caller' (record_number word) (λ (c : Caller). op ≡ c.op) follows is.op_is;
      early = if_still caller caller' (record_number word) (λ (c : Caller). c.begun ≤ since) follows is.early;
    }

    pub advance_kept : (held : Option (Offer S)) (to : ℕ) → MayAdvance form world offers caller head word hand held to → MayAdvance form after offers' caller' head word hand held to
    advance_kept held to (offers_it block stores phase in_hand is known) = offers_it block stores phase in_hand is (some_kept block stores (length stores) held in_hand known)
    advance_kept held to (answers since op outcome phase is fits known) =
        answers since op outcome phase is fits (record {
          right = right_still form laws world after holds.shape leaves.step leaves.grows op since outcome known.fixed known.right;
          fixed = known.fixed;
          op_is = if_still caller caller' (record_number word) (λ (c : Caller). op ≡ c.op) follows known.op_is;
          early = if_still caller caller' (record_number word) (λ (c : Caller). c.begun ≤ since) follows known.early;
        })
    advance_kept held to (exhausts phase is) = exhausts phase is
    advance_kept held to (settles stop offer phase of is known) =
        settles stop offer phase (is_of (named_block word) head (record_number word) offer of) is (stopped (named_block word) offer stop of.stands known)
    advance_kept held to (completes outcome offer phase of is fits by fixed) =
        completes outcome offer phase (is_of (named_block word) head (record_number word) offer of) is fits
        (changed_still form laws world after holds.shape leaves.step leaves.grows offer.list outcome fixed by) fixed
    advance_kept held to (restarts offer phase of is dead) =
        restarts offer phase (is_of (named_block word) head (record_number word) offer of) is (laws.dead_kept world after offer.list holds.shape dead leaves.step)

    -- ---- what it knows while it works

    pub work_kept : (own : Carried S) (does : Work S W) → CanWork form does → KnowsWork form world offers caller head word hand own does → KnowsWork form after offers' caller' head word hand own does
    work_kept own work.Head can is = named_by (record_phase word) head word is
    work_kept own work.Op can is = is
    work_kept own (work.Value op) can is = (is.0, is.1, if_still caller caller' (record_number word) (λ (c : Caller). op ≡ op_word c.op.code c.number c.op.key) follows is.2)
    work_kept own (work.Generate op s at) can is = (is.0, search_kept op s own.since is.1, is.2)
    work_kept own (work.Fill stores made) can is =
        let mine = is.1 in
        (is.0, (mine.0, mine.1, some_kept mine.0 stores.items made own.filled mine.1 mine.2))
    work_kept own (work.Advance to) can is = advance_kept own.filled to is
    work_kept own (work.Read read) can is =
        let named = is.1 in (
          is.0,
          is_named head word named,
          named_by (record_phase word) head word is.2,
          is.3,
          read_to world after (named_block word) (leaves.notes (named_block word) named.0 named.1.stands) read.step read is.3 (omega (arith, can.left, can.short)) is.4,
        )
    work_kept own (work.Execute run) can is =
        let known = is.1 in
        let offer = known.0 in
        let mine = holds.blocks.offered (named_block word) offer known.1.stands in (
          is.0,
          (
            offer,
            is_of (named_block word) head (record_number word) offer known.1,
            knows_kept (site_of offer) mine.site world.words (has_taken world.journal offer.list) after.words (has_taken after.journal offer.list) (leaves.deeds (named_block word) offer known.1.stands) mine.parts.lives run known.2,
          ),
        )
    work_kept own (work.Wrap wrap) can is =
        let known = is.1 in
        let offer = known.0 in
        let stop = payload_stop (record_payload word) in (
          is.0,
          (
            offer,
            is_of (named_block word) head (record_number word) offer known.1,
            stopped (named_block word) offer stop known.1.stands known.2,
            known.3,
            laws.follows_kept world after wrap offer.list stop holds.shape known.4 leaves.step,
          ),
        )
