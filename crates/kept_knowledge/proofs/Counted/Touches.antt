-- What a step does to words: nothing, a word of the engine, a word of the own announcement, a store into a block, a won exchange
-- of a word of the client, or a step of a helper on a named list.
use Rattle.std.proofs.Common.{◌≡◌, ap, ℕ, ◌+◌, ◌^◌, ◌<◌, ◌≤◌, ◌⊎◌, inl, inr, true, length, Option, Some, None, arith}
use Rattle.word_fields.specs.Announced.{op_word, value_word}
use Rattle.word_fields.specs.Versioned.{versioned_version}
use Rattle.node_arena.specs.MemoryMap.{block_place, op_place, record_place, value_place}
use Rattle.normal_traits.specs.declared.lists.Entry.{Entry}
use Rattle.normal_traits.specs.World.{Listed, Maker, World, is_word}
use Rattle.normal_traits.specs.NormalForm.{NormalForm}
use Rattle.normal_traits.specs.Steps.{put_word, with_word}
use Rattle.fast_slow_engine.specs.Mechs.{Mech}
use Rattle.offered_blocks.specs.Blocks.{Offer}
use Rattle.offered_blocks.specs.HelperSteps.{Helps}
use Rattle.offered_blocks.specs.OtherSteps.{IsExchange}
use Rattle.move_kinds.specs.Kinds.{Kind}
use Rattle.move_kinds.specs.Kinds.Kind.{quiet, counts, fills, announces, publishes, queues, names, settles, completes, restarts, executes, beside, enters}

none_in : {A : Type 0} (block : ℕ) → None ≡ Some block → A
none_in block e = absurd cc

-- the words of ticks, queue and claims, and the records
abbrev pub IsEngines : ℕ → Type 0
IsEngines place = (place < 3) ⊎ ((12 ≤ place) × (place < 20))

-- a store whose word has version 0 where it is versioned
abbrev pub StartsAtZero : {S W : Type 0} → NormalForm S W → ℕ × ℕ → Type 0
StartsAtZero form store = form.is_versioned store.0 ≡ true → versioned_version store.1 ≡ 0

module _ {S W : Type 0} (form : NormalForm S W) (world after : World) (offers : ℕ → Option (Offer S)) where
  -- a word of the client is exchanged, whose version is raised by one at most, and the exchange goes into the journal
  pub record IsWonAt (place word : ℕ) : Type 0 where
    pub client : is_word form.is_root world place ≡ true
    pub words : after.words ≡ with_word place word world.words
    pub raised : versioned_version word ≤ versioned_version (world.words place) + 1
    pub longer : length after.journal ≡ length world.journal + 1

  pub data Touches (mech : Mech S W) : Type 0 where
    leaves : after ≡ world → Touches mech
    puts : (place word : ℕ) → IsEngines place → after ≡ put_word place word world → Touches mech
    tells_value : after ≡ put_word (value_place mech.seat) (value_word mech.number mech.op.value) world → Touches mech
    tells_op : mech.op.code < 2 ^ 4 → after ≡ put_word (op_place mech.seat) (op_word mech.op.code mech.number mech.op.key) world → Touches mech
    stores : (block field word : ℕ) → StartsAtZero form (block_place block field, word) → after ≡ put_word (block_place block field) word world → Touches mech
    wins : (place word : ℕ) → IsWonAt place word → Touches mech
    helps : (block : ℕ) (offer : Offer S) → offers block ≡ Some offer → Helps form world offer after → Touches mech

  module _ (mech : Mech S W) where
    pub record_touches : (head word : ℕ) → head < 8 → after ≡ put_word (record_place head) word world → Touches mech
    record_touches head word small is = puts (record_place head) word (inr (omega arith, omega (arith, small))) is

    exchange_touches : (maker : Maker) (list : Option Listed) (entry : Entry) → IsExchange form world after offers maker list entry → Touches mech
    exchange_touches maker list entry is =
        let raised = is.raised in
        let stood = ap versioned_version is.stood in
        let longer = ap length is.journal in
        wins entry.target entry.to (record { client = is.word; words = is.words; raised = omega (arith, raised, stood); longer = omega (arith, longer) })

    -- every kind of move of no seat, with no block in hand
    pub kind_touches : (offers' : ℕ → Option (Offer S)) → Kind form world after offers offers' 8 None → Touches mech
    kind_touches offers' (quiet same o) = leaves same
    kind_touches offers' (counts place word (inl ticks) is o) = puts place word (inl (omega (arith, ticks))) is
    kind_touches offers' (counts place word (inr claims) is o) = puts place word (inl (omega (arith, claims))) is
    kind_touches offers' (fills block field word in_hand spare small stored clear is o) = none_in block in_hand
    kind_touches offers' (announces place word small own is o) = absurd (omega (arith, small))
    kind_touches offers' (publishes word small closed opens is o) = absurd (omega (arith, small))
    kind_touches offers' (queues word is o) = puts 1 word (inl (omega arith)) is
    kind_touches offers' (names head word block offer generates in_hand seat can won is) = none_in block in_hand
    kind_touches offers' (settles head word stop offer executing of stopped won o) = record_touches head _ won.small won.after_is
    kind_touches offers' (completes head word outcome from won o) = record_touches head _ won.small won.after_is
    kind_touches offers' (restarts head word offer wrapping of gone won o) = record_touches head _ won.small won.after_is
    kind_touches offers' (executes block offer stands is o) = helps block offer stands is
    kind_touches offers' (beside entry is uses o) = exchange_touches _ _ entry is
    kind_touches offers' (enters list j entry fast is uses o) = exchange_touches _ _ entry is
