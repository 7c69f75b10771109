-- So they stay with every kind of move; where a seat announces a call, its lists of that call are dead or have made their
-- change.
use Rattle.std.proofs.Common.{◌≡◌, ◌≢◌, ◌∙◌, refl, sym, subst, ap, ℕ, ◌+◌, ◌<◌, ◌%◌, ◌^◌, ◌⊎◌, inl, inr, ◌∷◌, false, Option, Some, None, arith}
use Rattle.std.proofs.lemmas.Bool.{cases_eq}
use Rattle.step_memory.specs.declared.steps.Seen.{Seen}
use Rattle.word_fields.specs.declared.records.RecordPhase.{RecordPhase}
use Rattle.word_fields.specs.declared.records.RecordPhase.TheVariants.{Generate, Executing, Wrapping, Completed}
use Rattle.word_fields.specs.Payloads.{payload_block, wrapping_payload}
use Rattle.word_fields.specs.Records.{record_number, record_payload, record_phase, record_round, number_below, round_below}
use Rattle.word_fields.proofs.PayloadParts.{block-wrapping, wrapping_below}
use Rattle.word_fields.proofs.RecordWords.{number-word, payload-word, phase-word}
use Rattle.node_arena.specs.MemoryMap.{block_place, record_place}
use Rattle.node_arena.proofs.PlacesApart.{block_place_behind}
use Rattle.help_queue.specs.Gathers.{is_open}
use Rattle.normal_traits.specs.declared.lists.Entry.{Entry}
use Rattle.normal_traits.specs.World.{Among, Listed, Maker, Took, Won, World}
use Rattle.normal_traits.specs.World.Maker.{By, Beside}
use Rattle.normal_traits.specs.NormalForm.{NormalForm}
use Rattle.normal_traits.specs.Laws.{Laws}
use Rattle.normal_traits.specs.Steps.{listed_if, put_word}
use Rattle.normal_traits.proofs.Stays.{word_beside}
use Rattle.op_record.specs.Outcomes.{outcome_payload}
use Rattle.cas_executor.specs.SlowRuns.{SlowWalk}
use Rattle.cas_executor_laws.proofs.RunTurns.{same_entry}
use Rattle.cas_executor_laws.proofs.OfferedPartsKept.{entry_at}
use Rattle.fast_slow_engine.specs.HelpWords.{executing_word, named_block, wrapping_word}
use Rattle.offered_blocks.specs.Blocks.{Offer, IsExecuting, has_taken}
use Rattle.offered_blocks.specs.Holds.{HasOffers}
use Rattle.offered_blocks.specs.HelperSteps.{Helps}
use Rattle.offered_blocks.specs.OtherSteps.{IsExchange}
use Rattle.offered_blocks.proofs.Blocks.Places.{record_apart}
use Rattle.offered_blocks.proofs.Helpers.Executes.{Executes, Tells, taken_by}
use Rattle.offered_blocks.proofs.Helpers.Executes.Tells.{no_win, wins}
use Rattle.offered_blocks.proofs.Helpers.HelperBlocks.{helper_beside}
use Rattle.offered_blocks.proofs.Helpers.Helping.{helps_did}
use Rattle.offered_blocks.proofs.Helpers.OwnDeeds.{installs_named}
use Rattle.move_kinds.specs.Kinds.{IsCounter, IsOwnWord, IsWon, Kind}
use Rattle.move_kinds.specs.Kinds.Kind.{quiet, counts, fills, announces, publishes, queues, names, settles, completes, restarts, executes, beside, enters}
use Rattle.move_kinds.specs.Moves.{Leaves}
use Rattle.move_kinds.specs.Offering.{IsOfferFor, ListStopsAt}
use Rattle.move_kinds.specs.Owned.{AllOwned, AnnouncesNone, IsNamedNow, IsOwned, LeavesNone}
use Rattle.move_kinds.specs.Owned.IsOwned.{unannounced, named, dead, changed}
use Rattle.move_kinds.proofs.KindsLeave.{kind_leaves}
use Rattle.move_kinds.proofs.OwnedKept.{apart, at_head, block_of, generate_not, one_list, stays_owned, still_changed, still_dead, still_named, still_unannounced, won_owned}

closed_not : (p : RecordPhase) → is_open p ≡ false → (p ≡ Executing) ⊎ (p ≡ Wrapping) → ⊥
closed_not p closed (inl executing) = absurd (let e = ap is_open (sym executing) ∙ closed in cc)
closed_not p closed (inr wrapping) = absurd (let e = ap is_open (sym wrapping) ∙ closed in cc)

by_not_beside : (list : Listed) (j : ℕ) → By list j ≡ Beside → ⊥
by_not_beside list j e = cc

none_in : {A : Type 0} (block : ℕ) → None ≡ Some block → A
none_in block e = absurd cc

same_list : (list other : Listed) (j k : ℕ) → By list j ≡ By other k → list ≡ other
same_list list other j k e = cc

module _ {S W : Type 0} (form : NormalForm S W) (laws : Laws form) (world after : World) (offers offers' : ℕ → Option (Offer S)) (holds : HasOffers form world offers) (mover : ℕ) (hand : Option ℕ)
    (kind : Kind form world after offers offers' mover hand) where
  leaves : Leaves form world after offers offers' None
  leaves = kind_leaves form laws world after offers offers' holds mover hand kind None (λ block e. none_in block e) (λ block e. none_in block e)

  abbrev Keeps : Type 0
  Keeps = (list : Listed) → IsOwned form world offers list → IsOwned form after offers' list

  abbrev RecordsStay : Type 0
  RecordsStay = (seat : ℕ) → seat < 8 → after.words (record_place seat) ≡ world.words (record_place seat)

  put_stays : (place put : ℕ) → after ≡ put_word place put world → ((seat : ℕ) → seat < 8 → record_place seat ≢ place) → RecordsStay
  put_stays place put is apart seat few = ap (λ (w : World). w.words (record_place seat)) is ∙ word_beside place put world.words (record_place seat) (apart seat few)

  keeps : RecordsStay → Keeps
  keeps same = stays_owned form laws world after offers offers' holds leaves same

  counter_apart : (place : ℕ) → IsCounter place → (seat : ℕ) → seat < 8 → record_place seat ≢ place
  counter_apart place (inl is) seat few e = absurd (omega (arith, is, e))
  counter_apart place (inr is) seat few e = absurd (omega (arith, is, e))

  own_apart : (place : ℕ) → mover < 8 → IsOwnWord mover place → (seat : ℕ) → seat < 8 → record_place seat ≢ place
  own_apart place small (inl is) seat few e = absurd (omega (arith, is, few, e))
  own_apart place small (inr is) seat few e = absurd (omega (arith, is, small, e))

  executes_stay : (block : ℕ) (offer : Offer S) (walk : SlowWalk) (seen : Seen) → Executes form world after offers block offer walk seen → RecordsStay
  executes_stay block offer walk seen is seat few =
      let mine = holds.blocks.offered block offer is.stands in
      let at = entry_at offer.list.entries walk.next is.knows.within in
      helper_beside form laws world after offers holds block offer walk seen is (record_place seat) (λ e. let behind = block_place_behind offer.list.block (9 + walk.next) in absurd (omega (arith, few, behind, e)))
      (record_apart form.is_root world at.0.target seat few (mine.targets walk.next at.0 at.1).0)

  exchange_stays : (maker : Maker) (list : Option Listed) (entry : Entry) → IsExchange form world after offers maker list entry → RecordsStay
  exchange_stays maker list entry is seat few =
      ap (λ (f : ℕ → ℕ). f (record_place seat)) is.words ∙ word_beside entry.target entry.to world.words (record_place seat) (record_apart form.is_root world entry.target seat few is.word)

  helps_stay : (block : ℕ) (offer : Offer S) → offers block ≡ Some offer → Helps form world offer after → RecordsStay
  helps_stay block offer stands helps seat few =
      elim (helps_did form laws world offers holds block offer stands after helps) [
        | inl same ↦ ap (λ (w : World). w.words (record_place seat)) same
        | inr did ↦ executes_stay block offer _ did.2.0 did.2.1 seat few
      ]

  -- ---- the lists that took effect before

  -- a call is announced
  published : (word : ℕ) → after ≡ put_word (record_place mover) word world → is_open (record_phase (world.words (record_place mover))) ≡ false → LeavesNone form world mover (record_number word)
      → (list : Listed) → Took world list 0 → IsOwned form world offers list → IsOwned form after offers' list
  published word is closed none list took (unannounced fast) =
      elim (cases_eq list.call.seat mover) [
        | inr other ↦ unannounced (still_unannounced form laws world after offers offers' holds leaves list (ap record_number (apart form laws world after offers offers' holds leaves mover word is list other)) fast)
        | inl same ↦ elim (cases_eq list.call.number (record_number word)) [
          | inl equal ↦ elim (none list took same equal) [
            | inl gone ↦ still_dead form laws world after offers offers' holds leaves list gone
            | inr made ↦ still_changed form laws world after offers offers' holds leaves list made.0 made.1 made.2
          ]
          | inr differs ↦ unannounced (fast.0, λ e. differs (sym e ∙ ap record_number (at_head form laws world after offers offers' holds leaves mover word is list same)))
        ]
      ]
  published word is closed none list took (named now) =
      elim (cases_eq list.call.seat mover) [
        | inr other ↦ named (still_named form laws world after offers offers' holds leaves list (apart form laws world after offers offers' holds leaves mover word is list other) now)
        | inl same ↦ absurd (closed_not (record_phase (world.words (record_place mover))) closed
            (elim now.phase [ inl executing ↦ inl (ap (λ s. record_phase (world.words (record_place s))) (sym same) ∙ executing) | inr wrapping ↦ inr (ap (λ s. record_phase (world.words (record_place s))) (sym same) ∙ wrapping) ]))
      ]
  published word is closed none list took (dead gone) = still_dead form laws world after offers offers' holds leaves list gone
  published word is closed none list took (changed change among of) = still_changed form laws world after offers offers' holds leaves list change among of

  -- its list has stopped: it is named still
  settled : (head word stop : ℕ) (offer : Offer S) → IsOfferFor offers (named_block word) head (record_number word) offer → ListStopsAt world offer stop → (won : IsWon world after head word (wrapping_word word stop)) → Keeps
  settled head word stop offer of stopped won =
      let to = wrapping_word word stop in
      let mine = holds.blocks.offered (named_block word) offer of.stands in
      let small : named_block word < 2 ^ 17 = subst (λ b. b < 2 ^ 17) mine.block_is mine.offered.small in
      let few : stop < 4 = (let within = stopped.within in let short = mine.site.short in omega (arith, within, short)) in
      let below = wrapping_below (named_block word) stop small few in
      let payload : record_payload to ≡ wrapping_payload (named_block word) stop = payload-word Wrapping (record_number word) (record_round word) (wrapping_payload (named_block word) stop) (number_below word) (round_below word) (omega (arith, below)) in
      let number : record_number to ≡ record_number word = number-word Wrapping (record_number word) (record_round word) (wrapping_payload (named_block word) stop) (number_below word) in
      won_owned form laws world after offers offers' holds leaves head word to won number
      (λ list same now.
      let at = at_head form laws world after offers offers' holds leaves head to won.after_is list same in
      named (record {
        offer = now.offer;
        stands = leaves.offered list.block now.offer now.stands;
        list_is = now.list_is;
        seated = now.seated;
        phase = inr (ap record_phase at ∙ phase-word Wrapping (record_number word) (record_round word) (wrapping_payload (named_block word) stop));
        block = ap (λ w. payload_block (record_payload w)) at ∙ ap payload_block payload ∙ block-wrapping (named_block word) stop small ∙ block_of form laws world after offers offers' holds leaves head word to won number list same now;
      }))

  -- the record leaves a list that has made its change, or is dead; or it named none
  won_keeps : (head word to : ℕ) (won : IsWon world after head word to) (number : record_number to ≡ record_number word)
      → (record_phase word ≡ Generate) ⊎ ((list : Listed) → list.call.seat ≡ head → IsNamedNow world offers list → IsOwned form after offers' list) → Keeps
  won_keeps head word to won number why =
      won_owned form laws world after offers offers' holds leaves head word to won number
      (λ list same now. elim why [ inl generates ↦ generate_not form laws world after offers offers' holds leaves head word to won number list same generates now | inr gives ↦ gives list same now ])

  old_owned : (kind' : Kind form world after offers offers' mover hand) → AnnouncesNone form kind' → (list : Listed) → Took world list 0 → IsOwned form world offers list → IsOwned form after offers' list
  old_owned (quiet same o) none list took = keeps (λ seat few. ap (λ (w : World). w.words (record_place seat)) same) list
  old_owned (counts place put is w o) none list took = keeps (put_stays place put w (counter_apart place is)) list
  old_owned (fills block field put in_hand spare small stored clear w o) none list took =
      keeps (put_stays (block_place block field) put w (λ seat few e. let behind = block_place_behind block field in absurd (omega (arith, few, behind, e)))) list
  old_owned (announces place put small is w o) none list took = keeps (put_stays place put w (own_apart place small is)) list
  old_owned (publishes put small closed opens w o) none list took = published put w closed none list took
  old_owned (queues put w o) none list took = keeps (put_stays 1 put w (λ seat few e. absurd (omega (arith, e)))) list
  old_owned (names head word block offer generates in_hand seat can won is) none list took =
      won_keeps head word (executing_word word block) won (number-word Executing (record_number word) (record_round word) block (number_below word)) (inl generates) list
  old_owned (settles head word stop offer executing of stopped won o) none list took = settled head word stop offer of stopped won list
  old_owned (completes head word outcome from won o) none list took =
      let number = number-word Completed (record_number word) (record_round word) (outcome_payload outcome) (number_below word) in
      won_keeps head word _ won number
      (elim from [
        | inl generates ↦ inl generates
        | inr has ↦ inr (λ other same now.
            still_changed form laws world after offers offers' holds leaves other (record { list = has.offer.list; reply = has.by.reply }) has.by.change
            (one_list form laws world after offers offers' holds leaves head word _ won number other same now has.offer has.of.stands))
      ]) list
  old_owned (restarts head word offer wrapping of gone won o) none list took =
      let number = number-word Generate (record_number word) ((record_round word + 1) % 2 ^ 17) 0 (number_below word) in
      won_keeps head word _ won number
      (inr (λ other same now. still_dead form laws world after offers offers' holds leaves other
      (subst (λ (l : Listed). form.dead l world) (one_list form laws world after offers offers' holds leaves head word _ won number other same now offer of.stands) gone))) list
  old_owned (executes block offer stands is o) none list took = keeps (helps_stay block offer stands is) list
  old_owned (beside entry is uses o) none list took = keeps (exchange_stays Beside (form.adds_beside world entry) entry is) list
  old_owned (enters other j entry fast is uses o) none list took = keeps (exchange_stays (By other j) (listed_if (form.adds other j) other) entry is) list

  -- ---- a list that takes effect now

  -- it took effect before, or is owned
  abbrev OldOrOwned : Type 0
  OldOrOwned = (list : Listed) → Took after list 0 → Took world list 0 ⊎ IsOwned form after offers' list

  same_items : after.journal ≡ world.journal → OldOrOwned
  same_items same list took = inl (record { entry = took.entry; cause = took.cause; listed = took.listed; won = subst (Among _) same took.won })

  new_item : (won : Won) → after.journal ≡ won ∷ world.journal → ((list : Listed) (j : ℕ) → By list j ≡ won.maker → IsOwned form after offers' list) → OldOrOwned
  new_item won grown gives list took =
      elim (subst (Among _) grown took.won) [
        | inl new ↦ inr (gives list 0 (ap (λ (w : Won). w.maker) new))
        | inr old ↦ inl (record { entry = took.entry; cause = took.cause; listed = took.listed; won = old })
      ]

  executes_item : (block : ℕ) (offer : Offer S) (walk : SlowWalk) (seen : Seen) → Executes form world after offers block offer walk seen → OldOrOwned
  executes_item block offer walk seen is = by_tells is.tells
    where
      now_named : IsExecuting world offer.list → IsOwned form after offers' offer.list
      now_named executing =
          keeps (executes_stay block offer walk seen is) offer.list (named (record {
            offer = offer;
            stands = (let mine = holds.blocks.offered block offer is.stands in ap offers mine.block_is ∙ is.stands);
            list_is = refl;
            seated = executing.seated;
            phase = inl executing.phase;
            block = executing.block;
          }))

      by_tells : Tells form world after offer.list walk seen → OldOrOwned
      by_tells (no_win why same kept) = same_items same
      by_tells (wins installing won entry cause listed stood grown made) =
          let at = entry_at offer.list.entries walk.next is.knows.within in
          let one : entry ≡ at.0 = same_entry offer.list.entries walk.next entry at.0 listed at.1 in
          let executing = installs_named form world offers holds.blocks block offer is.stands walk seen after.words (has_taken after.journal offer.list) is.knows is.made (taken_by form world after offer.list walk seen is.tells)
          (subst (λ e. world.words e.target ≡ e.from) one stood) in
          new_item (record { place = entry.target; before = entry.from; after = entry.to; maker = By offer.list walk.next; cause = cause }) grown
          (λ list j e. subst (λ (l : Listed). IsOwned form after offers' l) (sym (same_list list offer.list j walk.next e)) (now_named executing))

  helps_item : (block : ℕ) (offer : Offer S) → offers block ≡ Some offer → Helps form world offer after → OldOrOwned
  helps_item block offer stands helps =
      elim (helps_did form laws world offers holds block offer stands after helps) [
        | inl same ↦ same_items (ap (λ (w : World). w.journal) same)
        | inr did ↦ executes_item block offer _ did.2.0 did.2.1
      ]

  put_items : (place put : ℕ) → after ≡ put_word place put world → OldOrOwned
  put_items place put is = same_items (ap (λ (w : World). w.journal) is)

  kind_items : Kind form world after offers offers' mover hand → OldOrOwned
  kind_items (quiet same o) = same_items (ap (λ (w : World). w.journal) same)
  kind_items (counts place put is w o) = put_items place put w
  kind_items (fills block field put in_hand spare small stored clear w o) = put_items _ put w
  kind_items (announces place put small is w o) = put_items place put w
  kind_items (publishes put small closed opens w o) = put_items _ put w
  kind_items (queues put w o) = put_items _ put w
  kind_items (names head word block offer generates in_hand seat can won is) = put_items _ _ won.after_is
  kind_items (settles head word stop offer executing of stopped won o) = put_items _ _ won.after_is
  kind_items (completes head word outcome from won o) = put_items _ _ won.after_is
  kind_items (restarts head word offer wrapping of gone won o) = put_items _ _ won.after_is
  kind_items (executes block offer stands is o) = helps_item block offer stands is
  kind_items (beside entry is uses o) = new_item _ is.journal (λ list j e. absurd (by_not_beside list j e))
  kind_items (enters other j entry fast is uses o) = new_item _ is.journal (λ list k e. subst (λ (l : Listed). IsOwned form after offers' l) (sym (same_list list other k j e)) (keeps (exchange_stays (By other j) (listed_if (form.adds other j) other) entry is) other (unannounced fast)))

  pub kind_owned : AnnouncesNone form kind → AllOwned form world offers → AllOwned form after offers'
  kind_owned none owned list took = elim (kind_items kind list took) [ inl old ↦ old_owned kind none list old (owned list old) | inr is ↦ is ]
