-- What every allowed step keeps, whoever makes it: the one summary of a step that what was learnt rests on.
use Rattle.std.proofs.Common.{◌≡◌, ℕ, ◌<◌, ◌∷◌, true, false, eqb, List, Some, refl, sym, ap, ◌∙◌, subst, inl, inr, ◌⊎◌, arith}
use Rattle.std.specs.Prelude.{slice_get}
use Rattle.std.proofs.lemmas.Bool.{or_right}
use Rattle.lin_report.specs.declared.calls.Op.{Op}
use Rattle.step_memory.specs.declared.steps.Request.{Request}
use Rattle.step_memory.specs.declared.steps.Request.TheVariants.{Load, Store, Exchange, Add}
use Rattle.step_memory.specs.declared.steps.Seen.{Seen}
use Rattle.word_fields.specs.Versioned.{cleared_word}
use Rattle.normal_traits.specs.declared.lists.Entry.{Entry}
use Rattle.normal_traits.specs.World.{Listed, Maker, Cause, Won, Change, World, Among, Took, is_word}
use Rattle.normal_traits.specs.World.Maker.{By, Beside}
use Rattle.normal_traits.specs.NormalForm.{NormalForm}
use Rattle.normal_traits.specs.Steps.{with_word, with_change, listed_if, IsExchanged, IsOffered, Requested, IsStep}
use Rattle.normal_traits.specs.Steps.Requested.{loaded, lost, won}
use Rattle.normal_traits.specs.Steps.IsStep.{nothing, elsewhere, clears, searches, wraps, first, first_of_block, second}
use Rattle.client_lemmas.proofs.Words.{Rises, rises_at, exchanged_rises, all_put, beside_word}

-- the item of the journal for an exchange
abbrev pub item_of : Maker → Entry → Cause → Won
item_of maker entry cause = record { place = entry.target; before = entry.from; after = entry.to; maker = maker; cause = cause }

-- the world holds the word from which an entry of the list is exchanged
abbrev pub FindsWord : World → Listed → ℕ → Type 0
FindsWord world list j = (entry : Entry) × (slice_get list.entries j ≡ Some entry) × (world.words entry.target ≡ entry.from)

-- with one won exchange more, a list took before, or by that exchange
pub took_before : (world after : World) (item : Won) → after.journal ≡ item ∷ world.journal → (list : Listed) (j : ℕ) → (t : Took after list j) → Took world list j ⊎ (item_of (By list j) t.entry t.cause ≡ item)
took_before world after item journal list j t = by_item (subst (Among (item_of (By list j) t.entry t.cause)) journal t.won)
  where
    by_item : (item_of (By list j) t.entry t.cause ≡ item) ⊎ Among (item_of (By list j) t.entry t.cause) world.journal → Took world list j ⊎ (item_of (By list j) t.entry t.cause ≡ item)
    by_item (inl new) = inr new
    by_item (inr old) = inl (record { entry = t.entry; cause = t.cause; listed = t.listed; won = old })

-- Extends is what a client says of changes and of the same or more of them, Moves what it says of a versioned word
-- beyond that it rises
module _ {S W : Type 0} (form : NormalForm S W) (Extends : List Change → List Change → Type 0) (Moves : ℕ → ℕ → Type 0) where
  -- the later world has the changes, used blocks and won exchanges of the earlier one, its versioned words have risen
  -- and moved so, and a list that took since then found its entry's word
  pub record Later (world after : World) : Type 0 where
    pub extends : Extends world.changes after.changes
    pub used : (block : ℕ) → world.used block ≡ true → after.used block ≡ true
    pub rises : (place : ℕ) → is_word form.is_root world place ≡ true → form.is_versioned place ≡ true → Rises (world.words place) (after.words place)
    pub moves : (place : ℕ) → is_word form.is_root world place ≡ true → form.is_versioned place ≡ true → Moves (world.words place) (after.words place)
    pub journal : (won : Won) → Among won world.journal → Among won after.journal
    pub took : (list : Listed) (j : ℕ) → Took after list j → Took world list j ⊎ FindsWord world list j

  -- an exchange is to a word with its bit clear, which is such a move
  abbrev pub IsMove : Request → Type 0
  IsMove (Load place) = Unit {0}
  IsMove (Store place word) = Unit {0}
  IsMove (Exchange place from to) = (cleared_word to ≡ to) × Moves from to
  IsMove (Add place by) = Unit {0}

  -- what a client shows of single changes and words, from which every step has its summary
  pub record StepFacts : Type 0 where
    -- the same changes, one more beside the lists, one that a list's first entry made, and one of its second
    pub same : (changes : List Change) → Extends changes changes
    pub beside : (world : World) (entry : Entry) → form.shape world → Extends world.changes (with_change form.object (form.adds_beside world entry) world.changes)
    pub first : (world : World) (list : Listed) → form.shape world → (form.needs_block list.call.op ≡ false) ⊎ (world.used list.block ≡ false) → Extends world.changes (with_change form.object (listed_if (form.adds list 0) list) world.changes)
    pub second : (world : World) (list : Listed) → form.shape world → Extends world.changes (with_change form.object (listed_if (form.adds list 1) list) world.changes)
    -- a word that stays, one that is cleared, and one that is exchanged
    pub stays : (word : ℕ) → Moves word word
    pub clears : (word : ℕ) → Moves word (cleared_word word)
    pub asks : (world : World) (search : S) (op : Op) (since : ℕ) → form.asks search → form.knows search op world since → IsMove (form.request_of search)
    pub wraps : (world : World) (wrap : W) (list : Listed) (stop : ℕ) → form.wraps wrap → form.follows wrap list stop world → IsMove (form.wrap_request_of wrap)
    pub lists : (world : World) (list : Listed) (search : S) (since j : ℕ) (entry : Entry) (word : ℕ) → j < 2 → IsOffered form world list search since → slice_get list.entries j ≡ Some entry → IsExchanged entry word → Moves entry.from word

  module _ (facts : StepFacts) where
    pub later_same : (world : World) → Later world world
    later_same world =
        record { extends = facts.same world.changes; used = λ block u. u; rises = λ place w v. inl refl; moves = λ place w v. facts.stays (world.words place); journal = λ won a. a; took = λ list j t. inl t }

    -- a step that wins nothing
    pub kept_later : (world : World) (words : ℕ → ℕ) → ((place : ℕ) → is_word form.is_root world place ≡ true → Rises (world.words place) (words place)) → ((place : ℕ) → is_word form.is_root world place ≡ true → Moves (world.words place) (words place))
        → Later world (record { words = words; changes = world.changes; used = world.used; journal = world.journal })
    kept_later world words rises moves =
        record {
          extends = facts.same world.changes;
          used = λ block u. u;
          rises = λ place w v. rises place w;
          moves = λ place w v. moves place w;
          journal = λ won a. a;
          took = λ list j t. inl (record { entry = t.entry; cause = t.cause; listed = t.listed; won = t.won });
        }

    -- an exchange is won, by a list's entry or beside the lists: whoever took by it found the word there
    pub won_later : (world after : World) (maker : Maker) (entry : Entry) (word : ℕ) (cause : Cause) → world.words entry.target ≡ entry.from → IsExchanged entry word → Moves entry.from word
        → after.words ≡ with_word entry.target word world.words → Extends world.changes after.changes → ((block : ℕ) → world.used block ≡ true → after.used block ≡ true)
        → after.journal ≡ item_of maker entry cause ∷ world.journal → Later world after
    won_later world after maker entry word cause same change moved words extends used journal =
        record {
          extends = extends;
          used = used;
          rises = λ place w v.
              subst (λ (f : ℕ → ℕ). Rises (world.words place) (f place)) (sym words) (rises_at world.words entry.target word (exchanged_rises world entry word same change) place);
          moves = λ place w v.
              subst (λ (f : ℕ → ℕ). Moves (world.words place) (f place)) (sym words)
              (all_put Moves facts.stays world.words entry.target word (subst (λ from. Moves from word) (sym same) moved) place);
          journal = λ won a. subst (Among won) (sym journal) (inr a);
          took = by_took;
        }
      where
        by_took : (other : Listed) (i : ℕ) → Took after other i → Took world other i ⊎ FindsWord world other i
        by_took other i t = by_case (took_before world after (item_of maker entry cause) journal other i t)
          where
            by_case : Took world other i ⊎ (item_of (By other i) t.entry t.cause ≡ item_of maker entry cause) → Took world other i ⊎ FindsWord world other i
            by_case (inl before) = inl before
            by_case (inr new) = inr (t.entry, t.listed, ap world.words (ap (λ (won : Won). won.place) new) ∙ same ∙ sym (ap (λ (won : Won). won.before) new))

    -- a request of a search or wrap-up
    pub requested_later : (request : Request) (world after : World) (seen : Seen) → form.shape world → IsMove request → Requested form request world after seen → Later world after
    requested_later _ world _ _ shape moves (loaded place) = later_same world
    requested_later _ world _ _ shape moves (lost place from to differs) = later_same world
    requested_later _ world _ _ shape moves (won place from to same raised) =
        let entry : Entry = record { target = place; from = from; to = to } in
        won_later world _ Beside entry to (form.cause_of world Beside entry) same (record { to = moves.0; raised = raised }) moves.1 refl (facts.beside world entry shape) (λ block u. u) refl

    pub later : (world after : World) → form.shape world → IsStep form world after → Later world after
    later world _ shape nothing = later_same world
    later world _ shape (elsewhere place word none) =
        kept_later world (with_word place word world.words) (λ at some. inl (beside_word form.is_root world place word none at some)) (λ at some. subst (Moves (world.words at)) (sym (beside_word form.is_root world place word none at some)) (facts.stays (world.words at)))
    later world _ shape (clears place some versioned listable) =
        kept_later world (with_word place (cleared_word (world.words place)) world.words) (λ at w. rises_at world.words place (cleared_word (world.words place)) (inr (inl refl)) at)
        (λ at w. all_put Moves facts.stays world.words place (cleared_word (world.words place)) (facts.clears (world.words place)) at)
    later world after shape (searches {seen = seen} search op since command asks knows requested) = requested_later (form.request_of search) world after seen shape (facts.asks world search op since asks knows) requested
    later world after shape (wraps {seen = seen} wrap list stop command going follows requested) = requested_later (form.wrap_request_of wrap) world after seen shape (facts.wraps world wrap list stop going follows) requested
    later world _ shape (first list search since entry word offered fresh none needs listed same change) =
        won_later world _ (By list 0) entry word (form.cause_of world (By list 0) entry) same change (facts.lists world list search since 0 entry word (omega arith) offered listed change) refl (facts.first world list shape (inl needs)) (λ block u. u) refl
    later world _ shape (first_of_block list search since entry word offered fresh some unused filled listed same change) =
        won_later world _ (By list 0) entry word (form.cause_of world (By list 0) entry) same change (facts.lists world list search since 0 entry word (omega arith) offered listed change) refl (facts.first world list shape (inr unused))
        (λ block u. or_right (eqb block list.block) (world.used block) u) refl
    later world _ shape (second list search since entry word offered took unmade listed same change) =
        won_later world _ (By list 1) entry word (form.cause_of world (By list 1) entry) same change (facts.lists world list search since 1 entry word (omega arith) offered listed change) refl (facts.second world list shape) (λ block u. u) refl
