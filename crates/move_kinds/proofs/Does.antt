-- What the kinds of moves come to: nothing, a word put where the client has none, a step of a helper on an offered
-- list, or a won exchange of a word of the client beside those lists. Proofs go by these four.
use Rattle.std.proofs.Common.{◌≡◌, ◌∙◌, refl, sym, subst, ap, ℕ, ◌+◌, ◌<◌, Bool, false, inl, inr, List, [], ◌∷◌, ◌++◌, Option, Some, None, arith}
use Rattle.std.specs.Prelude.{if◌then◌else◌}
use Rattle.std.proofs.lemmas.Bool.{ne_eqb}
use Rattle.step_memory.specs.declared.steps.Seen.{Seen}
use Rattle.node_arena.specs.MemoryMap.{block_place, MayBeClients}
use Rattle.node_arena.proofs.PlacesApart.{engines_out}
use Rattle.normal_traits.specs.declared.lists.Entry.{Entry}
use Rattle.normal_traits.specs.World.{Listed, Maker, Change, Won, World, is_word}
use Rattle.normal_traits.specs.World.Maker.{By, Beside}
use Rattle.normal_traits.specs.NormalForm.{NormalForm}
use Rattle.normal_traits.specs.Laws.{Laws}
use Rattle.normal_traits.specs.Steps.{IsStep, listed_if, put_word, with_change}
use Rattle.normal_traits.specs.Steps.IsStep.{nothing, elsewhere}
use Rattle.cas_executor.specs.SlowRuns.{SlowWalk}
use Rattle.offered_blocks.specs.Blocks.{Offer}
use Rattle.offered_blocks.specs.Holds.{HasOffers}
use Rattle.offered_blocks.specs.HelperSteps.{Helps}
use Rattle.offered_blocks.specs.OtherSteps.{IsExchange, IsSpare}
use Rattle.offered_blocks.proofs.Blocks.Places.{engine_word, spare_word}
use Rattle.offered_blocks.proofs.Helpers.Executes.{Executes, Tells}
use Rattle.offered_blocks.proofs.Helpers.Executes.Tells.{no_win, wins}
use Rattle.offered_blocks.proofs.Helpers.Helping.{helps_did}
use Rattle.move_kinds.specs.Moves.{Grows}
use Rattle.move_kinds.specs.Kinds.{Kind, IsCounter, IsOwnWord, UsesHand}
use Rattle.move_kinds.specs.Kinds.Kind.{quiet, counts, fills, announces, publishes, queues, names, settles, completes, restarts, executes, beside, enters}

module _ {S W : Type 0} (form : NormalForm S W) (world after : World) (offers : ℕ → Option (Offer S)) (hand : Option ℕ) where
  -- where the engine puts words: at its own first words, and in the block in hand
  pub data IsPlain (place : ℕ) : Type 0 where
    engine : place < 32 → ¬ MayBeClients place → IsPlain place
    in_hand : (block field : ℕ) → hand ≡ Some block → IsSpare world offers block → field < 32 → place ≡ block_place block field → IsPlain place

  pub data Does : Type 0 where
    leaves_all : after ≡ world → Does
    puts : (place word : ℕ) → IsPlain place → after ≡ put_word place word world → Does
    helps : (block : ℕ) (offer : Offer S) (walk : SlowWalk) (seen : Seen) → Executes form world after offers block offer walk seen → Does
    exchanges : (maker : Maker) (list : Option Listed) (entry : Entry) → IsExchange form world after offers maker list entry → UsesHand world after hand → Does

  counter_plain : (place : ℕ) → IsCounter place → IsPlain place
  counter_plain place (inl ticks) = engine (omega (arith, ticks)) (engines_out place (inl (omega (arith, ticks))))
  counter_plain place (inr claims) = engine (omega (arith, claims)) (engines_out place (inl (omega (arith, claims))))

  own_plain : (seat place : ℕ) → seat < 8 → IsOwnWord seat place → IsPlain place
  own_plain seat place small (inl value) = engine (omega (arith, small, value)) (engines_out place (inr (omega (arith, value), omega (arith, small, value))))
  own_plain seat place small (inr op) = engine (omega (arith, small, op)) (engines_out place (inl (omega (arith, small, op))))

  record_plain : (head : ℕ) → head < 8 → IsPlain (12 + head)
  record_plain head small = engine (omega (arith, small)) (engines_out (12 + head) (inl (omega (arith, small))))

  pub plain_word : (place : ℕ) → IsPlain place → is_word form.is_root world place ≡ false
  plain_word place (engine low out) = engine_word form.is_root world place low out
  plain_word place (in_hand block field in_hand' spare small at) = subst (λ p. is_word form.is_root world p ≡ false) (sym at) (spare_word form.is_root world block field small spare.unused)

  -- ---- an allowed step, by which what is known grows

  pub does_step : Does → IsStep form world after
  does_step (leaves_all same) = subst (λ w. IsStep form world w) (sym same) nothing
  does_step (puts place word plain put) = subst (λ w. IsStep form world w) (sym put) (elsewhere place word (plain_word place plain))
  does_step (helps block offer walk seen is) = is.step
  does_step (exchanges maker list entry is uses) = is.step

  change_grows : (list : Option Listed) (changes : List Change) → (newer : List Change) × (with_change form.object list changes ≡ newer ++ changes)
  change_grows None changes = ([], refl)
  change_grows (Some list) changes = (_ ∷ [], refl)

  journal_grows : (list : Listed) (walk : SlowWalk) (seen : Seen) → Tells form world after list walk seen → (newer : List Won) × (after.journal ≡ newer ++ world.journal)
  journal_grows list walk seen (no_win why same kept) = ([], same)
  journal_grows list walk seen (wins installing won entry cause listed stood grown made) = (_ ∷ [], grown)

  changes_grow : (list : Listed) (walk : SlowWalk) (seen : Seen) → Tells form world after list walk seen → (newer : List Change) × (after.changes ≡ newer ++ world.changes)
  changes_grow list walk seen (no_win why same kept) = ([], kept)
  changes_grow list walk seen (wins installing won entry cause listed stood grown made) = (let more = change_grows (listed_if (form.adds list walk.next) list) world.changes in (more.0, made ∙ more.1))

  pub does_grow : Does → Grows world after
  does_grow (leaves_all same) = record { changes = ([], ap (λ (w : World). w.changes) same); journal = ([], ap (λ (w : World). w.journal) same); used = λ block is. ap (λ (w : World). w.used block) same ∙ is }
  does_grow (puts place word plain put) = record { changes = ([], ap (λ (w : World). w.changes) put); journal = ([], ap (λ (w : World). w.journal) put); used = λ block is. ap (λ (w : World). w.used block) put ∙ is }
  does_grow (helps block offer walk seen is) = record { changes = changes_grow offer.list walk seen is.tells; journal = journal_grows offer.list walk seen is.tells; used = is.used }
  does_grow (exchanges maker list entry is uses) = record {
    changes = (let more = change_grows list world.changes in (more.0, is.changes ∙ more.1));
    journal = (_ ∷ [], is.journal);
    used = is.used;
  }

  -- ---- each kind is one of these

  module _ (laws : Laws form) (holds : HasOffers form world offers) (offers' : ℕ → Option (Offer S)) (mover : ℕ) where
    helper_does : (block : ℕ) (offer : Offer S) → offers block ≡ Some offer → Helps form world offer after → Does
    helper_does block offer stands is =
        elim (helps_did form laws world offers holds block offer stands after is) [
          | inl same ↦ leaves_all same
          | inr did ↦ helps block offer _ did.2.0 did.2.1
        ]

    pub does_of : Kind form world after offers offers' mover hand → Does
    does_of (quiet same offers_same) = leaves_all same
    does_of (counts place word is put offers_same) = puts place word (counter_plain place is) put
    does_of (fills block field word in_hand' spare small stored clear put offers_same) = puts (block_place block field) word (in_hand block field in_hand' spare small refl) put
    does_of (announces place word small own put offers_same) = puts place word (own_plain mover place small own) put
    does_of (publishes word small closed opens put offers_same) = puts (12 + mover) word (record_plain mover small) put
    does_of (queues word put offers_same) = puts 1 word (engine (omega arith) (engines_out 1 (inl (omega arith)))) put
    does_of (names head word block offer phase in_hand' seat can won new) = puts (12 + head) _ (record_plain head won.small) won.after_is
    does_of (settles head word stop offer phase of known won offers_same) = puts (12 + head) _ (record_plain head won.small) won.after_is
    does_of (completes head word outcome phase won offers_same) = puts (12 + head) _ (record_plain head won.small) won.after_is
    does_of (restarts head word offer phase of dead won offers_same) = puts (12 + head) _ (record_plain head won.small) won.after_is
    does_of (executes block offer stands is offers_same) = helper_does block offer stands is
    does_of (beside entry is uses offers_same) = exchanges Beside (form.adds_beside world entry) entry is uses
    does_of (enters list j entry fast is uses offers_same) = exchanges (By list j) (listed_if (form.adds list j) list) entry is uses

    -- ---- the offers stay

    abbrev Stay : ℕ → Offer S → Type 0
    Stay block offer = offers block ≡ Some offer → offers' block ≡ Some offer

    same_offers : (block : ℕ) (offer : Offer S) → offers' ≡ offers → Stay block offer
    same_offers block offer same stands = ap (λ (f : ℕ → Option (Offer S)). f block) same ∙ stands

    pub offers_stay : Kind form world after offers offers' mover hand → (block : ℕ) (offer : Offer S) → Stay block offer
    offers_stay (quiet same offers_same) block offer = same_offers block offer offers_same
    offers_stay (counts place word is put offers_same) block offer = same_offers block offer offers_same
    offers_stay (fills b field word in_hand' spare small stored clear put offers_same) block offer = same_offers block offer offers_same
    offers_stay (announces place word small own put offers_same) block offer = same_offers block offer offers_same
    offers_stay (publishes word small closed opens put offers_same) block offer = same_offers block offer offers_same
    offers_stay (queues word put offers_same) block offer = same_offers block offer offers_same
    offers_stay (names head word b new phase in_hand' seat can won is) block offer =
        λ stands. ap (λ (f : ℕ → Option (Offer S)). f block) is
        ∙ ap (λ (c : Bool). (if c then Some new else offers block)) (ne_eqb block b (λ e. can.spare.unnamed offer (ap offers (sym e) ∙ stands))) ∙ stands
    offers_stay (settles head word stop o phase of known won offers_same) block offer = same_offers block offer offers_same
    offers_stay (completes head word outcome phase won offers_same) block offer = same_offers block offer offers_same
    offers_stay (restarts head word o phase of dead won offers_same) block offer = same_offers block offer offers_same
    offers_stay (executes b o stands is offers_same) block offer = same_offers block offer offers_same
    offers_stay (beside entry is uses offers_same) block offer = same_offers block offer offers_same
    offers_stay (enters list j entry fast is uses offers_same) block offer = same_offers block offer offers_same
