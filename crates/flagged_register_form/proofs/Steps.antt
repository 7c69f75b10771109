-- Each allowed step has one of the four effects.
use Rattle.std.proofs.Common.{◌≡◌, ◌≢◌, ℕ, ◌/◌, ◌<◌, true, false, not, refl, sym, ap, subst, ◌∙◌, inl, inr, ◌⊎◌, arith, Bool}
use Rattle.std.specs.Prelude.{slice_get, Some, None}
use Rattle.std.proofs.lemmas.Bool.{eq-eqb, ne_eqb, eqb-true}
use Rattle.node_arena.specs.MemoryMap.{block_place}
use Rattle.node_arena.proofs.PlacesApart.{block_at-block_place}
use Rattle.word_fields.specs.Versioned.{versioned_value, versioned_version, changed_word, cleared_word}
use Rattle.word_fields.proofs.ChangedWords.{value-cleared}
use Rattle.lin_report.specs.declared.calls.Op.{Op}
use Rattle.step_memory.specs.declared.steps.Request.TheVariants.{Load, Exchange}
use Rattle.step_memory.specs.declared.steps.Seen.{Seen}
use Rattle.normal_traits.specs.declared.lists.Entry.{Entry}
use Rattle.normal_traits.specs.World.{Listed, World, is_state, is_word, no_root}
use Rattle.normal_traits.specs.World.Maker.{By}
use Rattle.normal_traits.specs.Steps.{with_word, put_word, IsExchanged, IsFresh, IsFilled, IsOffered, Requested, IsStep, exchanged, using_block}
use Rattle.normal_traits.specs.Steps.IsStep.{nothing, elsewhere, clears, searches, wraps, first, first_of_block, second}
use Rattle.flagged_register_form.specs.Register.{FLAG, REGISTER, note_place, toggled, toggles, flag_entry, flag_of, offer_of, Help, Search, request_of, request_of_help, decision_place, decided, value_at}
use Rattle.flagged_register_form.specs.Register.Help.{Deciding, Checking, Reading, Changing, Clearing}
use Rattle.flagged_register_form.specs.Register.Search.{AtFlag, AtRegister, Named, Helping}
use Rattle.flagged_register_form.specs.Meanings.{Flagged, Made, Stands, Shape, flagged_block, Helps, WasRead, Knows, flagged_form, asks, IsGone}
use Rattle.flagged_register_form.proofs.Basics.{register_flag, flag_register, note_flag, decision_flag, decided_once, decision_register, value_flag}
use Rattle.flagged_register_form.proofs.Effects.{Effect, Sets}
use Rattle.flagged_register_form.proofs.Effects.Effect.{quiet, sets, makes, decides}
use Rattle.flagged_register_form.proofs.Journal.{took_of, flagger_is}
use Rattle.flagged_register_form.proofs.Later.{flag_names}
use Rattle.normal_traits.proofs.Stays.{word_beside}
use Rattle.client_lemmas.proofs.Places.{field_word}
use Rattle.client_lemmas.proofs.Words.{same_place, not_word}
use Rattle.client_lemmas.proofs.Entries.{the_entry, no_second}
use Rattle.client_lemmas.proofs.Requests.{HasWon, Went, went}

-- ---- a request of a help

abbrev entry_here : ℕ → ℕ → ℕ → Entry
entry_here place from to = record { target = place; from = from; to = to }

unchanged : (world : World) → Effect world world
unchanged world = quiet world.words (record { flag = inl refl; register = refl; notes = λ block used. refl; values = λ block used. refl; decisions = λ block used. refl })

-- ---- the exchanges beside the lists

-- of a flag that is up, the block is that of its list
up_block : (world : World) (list : Listed) → Shape world → Flagged world list → cleared_word (world.words FLAG) ≡ flag_of list.entries → flagged_block (world.words FLAG) ≡ list.block
up_block world list shape flagged up = omega (arith, sym (value-cleared (world.words FLAG)) ∙ ap versioned_value up ∙ flag_names world list shape flagged)

-- the register
make_effect : (world after : World) (seen : Seen) (list : Listed) (noted : ℕ) → Shape world → Flagged world list → world.words (decision_place list.block) ≡ decided true → noted ≡ world.words (note_place list.block)
    → HasWon flagged_form world after seen REGISTER noted (toggled noted list.block) → Effect world after
make_effect world after seen list noted shape flagged agreed own w = by_fate (shape.flaggers list flagged).fate
  where
    by_fate : Stands world list ⊎ (Made world list ⊎ IsGone world list) → Effect world after
    by_fate (inr (inr gone)) = absurd (decided_once (sym agreed ∙ gone))
    by_fate (inr (inl made)) = absurd (omega (arith, made.passed, ap versioned_version (w.0 ∙ own)))
    by_fate (inl stands) =
        rw (w.2, eq-eqb REGISTER REGISTER refl, up_block world list shape flagged stands.flag, flagger_is world list shape flagged, ← w.0)
        (makes list (record { flagged = flagged; stands = stands; agreed = agreed; raised = rw w.0 w.1 }))

-- the flag
clear_effect : (world after : World) (seen : Seen) (list : Listed) (flag : ℕ) → Shape world → Flagged world list → flag ≡ flag_of list.entries → Made world list ⊎ IsGone world list
    → HasWon flagged_form world after seen FLAG flag (changed_word flag 0) → Effect world after
clear_effect world after seen list flag shape flagged own ends w =
    let block : flagged_block flag ≡ list.block = omega (arith, ap versioned_value own ∙ flag_names world list shape flagged) in
    rw (w.2, ne_eqb FLAG REGISTER flag_register, eq-eqb FLAG FLAG refl, block) (Effect.clears list flag (record { flagged = flagged; ends = ends; own = own; here = w.0; raised = w.1 }))

-- a decision
decide_effect : (world after : World) (seen : Seen) (list : Listed) (made : Bool) → Shape world → Flagged world list → HasWon flagged_form world after seen (decision_place list.block) 0 (decided made) → Effect world after
decide_effect world after seen list made shape flagged w =
    rw (w.2, ne_eqb (decision_place list.block) REGISTER (decision_register list.block), ne_eqb (decision_place list.block) FLAG (decision_flag list.block), block_at-block_place list.block 28 (omega arith))
    (decides list made (record { flagged = flagged; undecided = w.0 }))

-- ---- the requests of a help

-- the block that its flag names is the list's
pub named_block : (world : World) (list : Listed) (flag : ℕ) → Shape world → Flagged world list → flag ≡ flag_of list.entries → versioned_value flag / 4 ≡ list.block
named_block world list flag shape flagged own = omega (arith, ap versioned_value own, flag_names world list shape flagged)

-- an exchange that is lost leaves the world
tried : (world after : World) (seen : Seen) (place from to : ℕ) → Went flagged_form (Exchange place from to) world after seen → (HasWon flagged_form world after seen place from to → Effect world after) → Effect world after
tried world after seen place from to (inl lost) won = rw lost.1 (unchanged world)
tried world after seen place from to (inr w) won = won w

pub help_effect : (world after : World) (seen : Seen) (help : Help) (list : Listed) → Shape world → Helps help world list → Requested flagged_form (request_of_help help) world after seen → Effect world after
help_effect world after seen (Deciding flag make) list shape h r =
    tried world after seen _ _ _ (went flagged_form (request_of_help (Deciding flag make)) world after seen r) (λ w. decide_effect world after seen list make shape h.0 (rw (named_block world list flag shape h.0 h.1) at w))
help_effect world after seen (Checking flag) list shape h r = rw (went flagged_form (request_of_help (Checking flag)) world after seen r).0 (unchanged world)
help_effect world after seen (Reading flag) list shape h r = rw (went flagged_form (request_of_help (Reading flag)) world after seen r).0 (unchanged world)
help_effect world after seen (Changing flag noted) list shape h r =
    tried world after seen _ _ _ (went flagged_form (request_of_help (Changing flag noted)) world after seen r) (λ w. make_effect world after seen list noted shape h.0 h.2 h.3 (rw (named_block world list flag shape h.0 h.1) at w))
help_effect world after seen (Clearing flag true) list shape h r =
    tried world after seen _ _ _ (went flagged_form (request_of_help (Clearing flag true)) world after seen r) (clear_effect world after seen list flag shape h.0 h.1 (inl h.2))
help_effect world after seen (Clearing flag false) list shape h r =
    tried world after seen _ _ _ (went flagged_form (request_of_help (Clearing flag false)) world after seen r) (clear_effect world after seen list flag shape h.0 h.1 (inr h.2))

-- ---- the setting of a flag

-- the world after the first entry of a list with a block
abbrev pub with_flag : World → Listed → Entry → ℕ → World
with_flag world list entry word = record (exchanged flagged_form (By list 0) None entry word world) { used = using_block list.block world.used }

pub flag_effect : (world : World) (list : Listed) (search : Search) (since : ℕ) (entry : Entry) (word : ℕ) → IsOffered flagged_form world list search since → IsFresh world list → 0 < list.block → world.used list.block ≡ false
    → IsFilled world list (offer_of search list.call.op list.block).stores → slice_get list.entries 0 ≡ Some entry → world.words entry.target ≡ entry.from → IsExchanged entry word → Effect world (with_flag world list entry word)
flag_effect world list (Named op flag register) since entry word offered fresh some unused filled listed here exchanged =
    let read : WasRead world list.call.op flag register = offered.knows.1.1 in
    let is : entry ≡ flag_entry flag list.block = sym (the_entry list.entries entry (flag_entry flag list.block) listed offered.entries) in
    let here' : world.words FLAG ≡ flag = subst (λ (e : Entry). world.words e.target ≡ e.from) is here in
    let same : world.words REGISTER ≡ register = read.same here' in
    let noted : world.words (note_place list.block) ≡ register = filled.stored 1 (0, 0) (omega arith) in
    let value : world.words (value_at list.block) ≡ list.call.op.value = filled.stored 0 (0, 0) (omega arith) in
    let undecided : world.words (decision_place list.block) ≡ 0 = filled.stored 2 (0, 0) (omega arith) in
    let s : Sets world list flag word = record {
      entries = offered.entries;
      some = some;
      small = offered.small;
      unused = unused;
      key = read.key;
      toggles = subst (λ r. toggles list.call.op r ≡ true) (sym same) read.toggles;
      down = read.down.down;
      here = here';
      noted = same ∙ sym noted;
      undecided = undecided;
      value = value;
      exchanged = subst (λ (e : Entry). IsExchanged e word) is exchanged;
      fresh = λ other equal flagged. fresh other 0 equal (took_of world other flagged);
    } in
    subst (λ (e : Entry). Effect world (with_flag world list e word)) (sym is) (sets list flag word s)
flag_effect world list _ since entry word offered fresh some unused filled listed here exchanged = absurd offered.ready

-- a list has one entry
one_entry : (world : World) (list : Listed) (search : Search) (since : ℕ) (entry : Entry) → IsOffered flagged_form world list search since → slice_get list.entries 1 ≡ Some entry → ⊥
one_entry world list (Named op flag register) since entry offered listed = no_second list.entries (flag_entry flag list.block) entry offered.entries listed
one_entry world list _ since entry offered listed = absurd offered.ready

-- ---- any step

elsewhere_effect : (world : World) (place word : ℕ) → Shape world → is_word no_root world place ≡ false → Effect world (put_word place word world)
elsewhere_effect world place word shape is = quiet (with_word place word world.words) (record {
  flag = inl (word_beside place word world.words FLAG (differs 0 16 (omega arith) shape.opened refl));
  register = word_beside place word world.words REGISTER (differs 0 14 (omega arith) shape.opened refl);
  notes = λ block used. word_beside place word world.words (note_place block) (differs block 27 (omega arith) used refl);
  values = λ block used. word_beside place word world.words (value_at block) (differs block 13 (omega arith) used refl);
  decisions = λ block used. word_beside place word world.words (decision_place block) (differs block 28 (omega arith) used refl);
})
  where
    differs : (block field : ℕ) → field < 32 → world.used block ≡ true → not (is_state field) ≡ true → block_place block field ≢ place
    differs block field small used plain = not_word no_root world place (block_place block field) is (field_word no_root world block field small used plain)

clears_effect : (world : World) (place : ℕ) → place ≡ FLAG → Effect world (put_word place (cleared_word (world.words place)) world)
clears_effect world place e = subst (λ p. Effect world (put_word p (cleared_word (world.words p)) world)) (sym e) (quiet (with_word FLAG (cleared_word (world.words FLAG)) world.words) (record {
  flag = inr (same_place FLAG (cleared_word (world.words FLAG)) world.words);
  register = word_beside FLAG (cleared_word (world.words FLAG)) world.words REGISTER register_flag;
  notes = λ block used. word_beside FLAG (cleared_word (world.words FLAG)) world.words (note_place block) (note_flag block);
  values = λ block used. word_beside FLAG (cleared_word (world.words FLAG)) world.words (value_at block) (value_flag block);
  decisions = λ block used. word_beside FLAG (cleared_word (world.words FLAG)) world.words (decision_place block) (decision_flag block);
}))

search_effect : (world after : World) (seen : Seen) (search : Search) (op : Op) (since : ℕ) → Shape world → asks search → Knows search op world since → Requested flagged_form (request_of search) world after seen → Effect world after
search_effect world after seen (AtFlag o) op since shape asking knows r = rw (went flagged_form (Load FLAG) world after seen r).0 (unchanged world)
search_effect world after seen (AtRegister o flag) op since shape asking knows r = rw (went flagged_form (Load REGISTER) world after seen r).0 (unchanged world)
search_effect world after seen (Named o flag register) op since shape asking knows r = absurd asking
search_effect world after seen (Helping o help) op since shape asking knows r = help_effect world after seen help knows.1.1.0 shape knows.1.1.1 r

pub effect_of : (world after : World) → Shape world → IsStep flagged_form world after → Effect world after
effect_of world after shape nothing = unchanged world
effect_of world after shape (elsewhere place word is) = elsewhere_effect world place word shape is
effect_of world after shape (clears place is versioned listable) = clears_effect world place (eqb-true place FLAG listable)
effect_of world after shape (searches {seen = seen} search op since command asking knows r) = search_effect world after seen search op since shape asking knows r
effect_of world after shape (wraps {seen = seen} help list stop command asking follows r) = help_effect world after seen help list shape follows r
effect_of world after shape (first list search since entry word offered fresh block needs listed here exchanged) = absurd cc
effect_of world after shape (first_of_block list search since entry word offered fresh some unused filled listed here exchanged) =
    flag_effect world list search since entry word offered fresh some unused filled listed here exchanged
effect_of world after shape (second list search since entry word offered took fails listed here exchanged) = absurd (one_entry world list search since entry offered listed)
