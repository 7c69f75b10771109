-- Every allowed step keeps the shape of the queue.
use Rattle.std.proofs.Common.{◌≡◌, ℕ, ◌^◌, ◌<◌, Bool, true, false, eqb, refl, sym, ap, ◌∙◌, subst, inl, inr, Some, arith}
use Rattle.std.specs.Prelude.{slice_get, All}
use Rattle.std.proofs.lemmas.Bool.{true≢false, cond-true, eq-eqb, or_left}
use Rattle.lin_report.specs.declared.calls.TheConstants.{TAKE}
use Rattle.step_memory.specs.declared.steps.Request.{Request}
use Rattle.step_memory.specs.declared.steps.Request.TheVariants.{Load, Exchange}
use Rattle.step_memory.specs.declared.steps.Seen.{Seen}
use Rattle.word_fields.specs.Versioned.{versioned_value, versioned_version, cleared_word, value_below}
use Rattle.word_fields.proofs.ChangedWords.{value-changed, value-cleared, version-cleared}
use Rattle.node_arena.specs.declared.places.TheConstants.{HEAD, TAIL, NODE_VALUE, NODE_NEXT}
use Rattle.node_arena.specs.MemoryMap.{node_place, reference_to}
use Rattle.normal_traits.specs.declared.lists.Entry.{Entry}
use Rattle.normal_traits.specs.NormalForm.{Offered}
use Rattle.normal_traits.specs.World.{Listed, World, is_word}
use Rattle.normal_traits.specs.Steps.{IsStep, IsFresh, IsExchanged, IsOffered, IsFilled, with_word, put_word, using_block}
use Rattle.normal_traits.specs.Steps.IsStep.{nothing, elsewhere, clears, searches, wraps, first, first_of_block, second}
use Rattle.ms_queue_form.specs.declared.states.QueueSearch.{QueueSearch}
use Rattle.ms_queue_form.specs.declared.states.QueueSearch.TheVariants.{PutTail, PutNext, PutHelp, PutReady, TakeTail, TakeNext, TakeHelp, TakeReady, PeekNext}
use Rattle.ms_queue_form.specs.declared.states.QueueWrap.{QueueWrap}
use Rattle.ms_queue_form.specs.declared.states.QueueWrap.TheVariants.{Over, Tail, Swing}
use Rattle.ms_queue_form.specs.Search.{is_put, asked, IsReady, offered, put_offer, moved_word, next_place}
use Rattle.ms_queue_form.specs.Wrap.{wrap_asked}
use Rattle.ms_queue_form.specs.Chain.{is_versioned, is_root}
use Rattle.ms_queue_form.specs.Shape.{IsQueue}
use Rattle.ms_queue_form.specs.Knowledge.{WasTail, WasNext, Learnt, Knows, Follows}
use Rattle.ms_queue_form.specs.Form.{queue_form}
use Rattle.ms_queue_form.proofs.Later.{Later, later}
use Rattle.ms_queue_form.proofs.Shapes.{still, tail_swings}
use Rattle.ms_queue_form.proofs.History.{puts_is}
use Rattle.ms_queue_form.proofs.Takes.{take_entry, taken, take_keeps}
use Rattle.ms_queue_form.proofs.Puts.{put_entry, put_keeps}
use Rattle.normal_traits.proofs.Stays.{word_beside}
use Rattle.client_lemmas.proofs.Words.{beside_word, all_put}
use Rattle.client_lemmas.proofs.Entries.{the_entry, no_second}
use Rattle.client_lemmas.proofs.Requests.{Went, went}

-- ---- the request of a search or wrap-up

-- a request that is made beside the lists moves the tail to the node behind it
pub data IsHelp (world : World) : Request → Type 0 where
  loads : (place : ℕ) → IsHelp world (Load place)
  moves : (tail next : ℕ) → WasTail world tail → WasNext world tail next → IsHelp world (Exchange TAIL tail (moved_word tail next))

pub search_helps : (world : World) (searched : QueueSearch) (since : ℕ) → Learnt searched world since → IsHelp world (asked searched)
search_helps world PutTail since l = loads TAIL
search_helps world (PutNext tail) since l = loads (next_place tail)
search_helps world (PutHelp tail next) since l = moves tail next l.0 l.1
search_helps world (PutReady tail next) since l = loads TAIL
search_helps world (TakeTail head) since l = loads TAIL
search_helps world (TakeNext head tail) since l = loads (next_place head)
search_helps world (TakeHelp tail next) since l = moves tail next l.0 l.1
search_helps world (PeekNext head) since l = loads (next_place head)
search_helps world _ since l = loads HEAD

wrap_helps : (world : World) (wrap : QueueWrap) (list : Listed) (stop : ℕ) → Follows wrap list stop world → IsHelp world (wrap_asked wrap)
wrap_helps world Over list stop f = absurd f.learnt
wrap_helps world (Tail target to) list stop f = loads TAIL
wrap_helps world (Swing tail to) list stop f = moves tail to f.learnt.0 f.learnt.1

pub help_keeps : (world after : World) (seen : Seen) (request : Request) → IsQueue world → Later world after → IsHelp world request → Went queue_form request world after seen → IsQueue after
help_keeps world after seen _ queue kept (loads place) w = subst IsQueue (sym w.0) queue
help_keeps world after seen _ queue kept (moves tail next was behind) (inl w) = subst IsQueue (sym w.1) queue
help_keeps world after seen _ queue kept (moves tail next was behind) (inr w) =
    subst IsQueue (sym w.2)
    (tail_swings world queue tail (moved_word tail next) w.0 w.1 (value-changed tail (versioned_value next) (value_below next) ∙ behind.names) behind.within (subst (Later world) w.2 kept))

-- ---- the entry of a list

-- a list whose entry is tried, with the offer and with what its search has learnt
pub data IsTried (world : World) (list : Listed) (entry : Entry) (offer : Offered) : Type 0 where
  puts_it : (tail next : ℕ) → is_put list.call.op ≡ true → Learnt (PutReady tail next) world 0 → put_entry tail next list.block ≡ entry
      → offer ≡ put_offer tail next list.call.op.value list.block → IsTried world list entry offer
  takes_it : (head next : ℕ) → list.call.op.code ≡ TAKE → Learnt (TakeReady head next) world 0 → take_entry head next ≡ entry → IsTried world list entry offer

pub tried : (world : World) (list : Listed) (searched : QueueSearch) (since : ℕ) (entry : Entry) → IsOffered queue_form world list searched since → slice_get list.entries 0 ≡ Some entry
    → IsTried world list entry (offered searched list.call.op list.block)
tried world list searched since entry offer listed = by_search searched offer.ready offer.knows offer.entries
  where
    by_search : (searched : QueueSearch) → IsReady searched → Knows searched list.call.op world since → list.entries ≡ (offered searched list.call.op list.block).entries
        → IsTried world list entry (offered searched list.call.op list.block)
    by_search (PutReady tail next) ready knows entries =
        let put = puts_is list.call.op knows.serves in
        let is : offered (PutReady tail next) list.call.op list.block ≡ put_offer tail next list.call.op.value list.block =
        ap (put_offer tail next list.call.op.value) (cond-true (is_put list.call.op) list.block 0 put) in
        puts_it tail next put knows.learnt (the_entry list.entries entry (put_entry tail next list.block) listed (entries ∙ ap (λ (o : Offered). o.entries) is)) is
    by_search (TakeReady head next) ready knows entries =
        takes_it head next knows.serves knows.learnt (the_entry list.entries entry (take_entry head next) listed entries)
    by_search _ ready knows entries = absurd ready

-- the exchange of an entry keeps the shape
abbrev Keeps : World → Listed → ℕ → (ℕ → Bool) → Entry → Type 0
Keeps world list word used entry =
    slice_get list.entries 0 ≡ Some entry → world.words entry.target ≡ entry.from → IsExchanged entry word
    → Later world (taken world list entry word used) → IsQueue (taken world list entry word used)

take_step : (world : World) → IsQueue world → (list : Listed) (head next word : ℕ) (used : ℕ → Bool) → list.call.op.code ≡ TAKE → Learnt (TakeReady head next) world 0 → IsFresh world list
    → used list.block ≡ true → (0 < list.block → world.used list.block ≡ false) → (entry : Entry) → take_entry head next ≡ entry → Keeps world list word used entry
take_step world queue list head next word used take learnt fresh own unused entry is =
    let base : Keeps world list word used (take_entry head next) =
    λ listed same change kept. take_keeps world queue list head next word used take same change learnt.1 learnt.2 kept fresh listed own unused in
    subst (Keeps world list word used) is base

-- the stores of a put's offer
stored_value : (words : ℕ → ℕ) (tail next value block : ℕ) → All (λ (store : ℕ × ℕ). words store.0 ≡ store.1) (put_offer tail next value block).stores → words (node_place (reference_to block 1) NODE_VALUE) ≡ value
stored_value words tail next value block stored = stored 0 (0, 0) (omega arith)

stored_next : (words : ℕ → ℕ) (tail next value block : ℕ) → All (λ (store : ℕ × ℕ). words store.0 ≡ store.1) (put_offer tail next value block).stores → words (node_place (reference_to block 1) NODE_NEXT) ≡ 0
stored_next words tail next value block stored = stored 1 (0, 0) (omega arith)

put_step : (world : World) → IsQueue world → (list : Listed) (tail next word : ℕ) (used : ℕ → Bool) → is_put list.call.op ≡ true → Learnt (PutReady tail next) world 0 → IsFresh world list
    → list.block < 2 ^ 17 → used list.block ≡ true → world.used list.block ≡ false → All (λ (store : ℕ × ℕ). world.words store.0 ≡ store.1) (put_offer tail next list.call.op.value list.block).stores
    → (entry : Entry) → put_entry tail next list.block ≡ entry → Keeps world list word used entry
put_step world queue list tail next word used put learnt fresh small own unused stored entry is =
    let base : Keeps world list word used (put_entry tail next list.block) =
    λ listed same change kept. put_keeps world queue list tail next word used put same change learnt.0 learnt.2 small unused kept own
    (stored_value world.words tail next list.call.op.value list.block stored) (stored_next world.words tail next list.call.op.value list.block stored) fresh listed in
    subst (Keeps world list word used) is base

first_step : (world : World) → IsQueue world → (list : Listed) (entry : Entry) (offer : Offered) (word : ℕ) → IsTried world list entry offer → IsFresh world list → list.block ≡ 0 → is_put list.call.op ≡ false → Keeps world list word world.used entry
first_step world queue list entry offer word (puts_it tail next put learnt is offers) fresh none take = absurd (true≢false (sym put ∙ take))
first_step world queue list entry offer word (takes_it head next take learnt is) fresh none needs =
    take_step world queue list head next word world.used take learnt fresh (ap world.used none ∙ queue.chain.dummy) (λ some. absurd (omega arith)) entry is

block_step : (world : World) → IsQueue world → (list : Listed) (entry : Entry) (offer : Offered) (word : ℕ) → IsTried world list entry offer → IsFresh world list → list.block < 2 ^ 17 → world.used list.block ≡ false
    → IsFilled world list offer.stores → Keeps world list word (using_block list.block world.used) entry
block_step world queue list entry offer word (puts_it tail next put learnt is offers) fresh small unused filled =
    put_step world queue list tail next word (using_block list.block world.used) put learnt fresh small (or_left (eqb list.block list.block) (world.used list.block) (eq-eqb list.block list.block refl)) unused
    (subst (λ (o : Offered). All (λ (store : ℕ × ℕ). world.words store.0 ≡ store.1) o.stores) offers filled.stored) entry is
block_step world queue list entry offer word (takes_it head next take learnt is) fresh small unused filled =
    take_step world queue list head next word (using_block list.block world.used) take learnt fresh (or_left (eqb list.block list.block) (world.used list.block) (eq-eqb list.block list.block refl)) (λ some. unused) entry is

-- an offer has one entry
pub one_alone : (world : World) (list : Listed) (searched : QueueSearch) (since : ℕ) (entry : Entry) → IsOffered queue_form world list searched since → slice_get list.entries 1 ≡ Some entry → ⊥
one_alone world list searched since entry offer listed = by_search searched offer.ready offer.entries
  where
    by_search : (searched : QueueSearch) → IsReady searched → list.entries ≡ (offered searched list.call.op list.block).entries → ⊥
    by_search (PutReady tail next) ready entries = no_second list.entries _ entry entries listed
    by_search (TakeReady head next) ready entries = no_second list.entries _ entry entries listed
    by_search _ ready entries = absurd ready

-- ---- a step on a word

written_keeps : (world : World) (place word : ℕ) → IsQueue world → is_word is_root world place ≡ false → Later world (put_word place word world) → IsQueue (put_word place word world)
written_keeps world place word queue none kept =
    still world (with_word place word world.words) queue kept
    (λ at some versioned. let same = beside_word is_root world place word none at some in (ap versioned_value same, ap versioned_version same)) (λ at some plain. beside_word is_root world place word none at some)

cleared_keeps : (world : World) (place : ℕ) → IsQueue world → is_versioned place ≡ true → Later world (put_word place (cleared_word (world.words place)) world) → IsQueue (put_word place (cleared_word (world.words place)) world)
cleared_keeps world place queue versioned kept =
    still world (with_word place (cleared_word (world.words place)) world.words) queue kept
    (λ at some is. all_put (λ word after. (versioned_value after ≡ versioned_value word) × (versioned_version after ≡ versioned_version word)) (λ word. (refl, refl)) world.words place (cleared_word (world.words place))
    (value-cleared (world.words place), version-cleared (world.words place)) at)
    (λ at some plain. word_beside place (cleared_word (world.words place)) world.words at (λ here. true≢false (sym versioned ∙ ap is_versioned (sym here) ∙ plain)))

-- ---- each step

keeps : (world after : World) → IsQueue world → Later world after → IsStep queue_form world after → IsQueue after
keeps world _ queue kept nothing = queue
keeps world _ queue kept (elsewhere place word none) = written_keeps world place word queue none kept
keeps world _ queue kept (clears place some versioned listable) = cleared_keeps world place queue versioned kept
keeps world after queue kept (searches {seen = seen} searched op since command asks knows requested) =
    help_keeps world after seen (asked searched) queue kept (search_helps world searched since knows.learnt) (went queue_form (asked searched) world after seen requested)
keeps world after queue kept (wraps {seen = seen} wrap list stop command going follows requested) =
    help_keeps world after seen (wrap_asked wrap) queue kept (wrap_helps world wrap list stop follows) (went queue_form (wrap_asked wrap) world after seen requested)
keeps world _ queue kept (first list searched since entry word offer fresh none needs listed same change) =
    first_step world queue list entry (offered searched list.call.op list.block) word (tried world list searched since entry offer listed) fresh none needs listed same change kept
keeps world _ queue kept (first_of_block list searched since entry word offer fresh some unused filled listed same change) =
    block_step world queue list entry (offered searched list.call.op list.block) word (tried world list searched since entry offer listed) fresh offer.small unused filled listed same change kept
keeps world _ queue kept (second list searched since entry word offer took unmade listed same change) =
    absurd (one_alone world list searched since entry offer listed)

pub shape_keeps : (world after : World) → IsQueue world → IsStep queue_form world after → IsQueue after
shape_keeps world after queue step = keeps world after queue (later world after queue step) step
