-- All laws of the flagged register.
use Rattle.std.proofs.Common.{◌≡◌, ◌≢◌, ℕ, zero, suc, ◌^◌, ◌<◌, ◌≤◌, Bool, true, false, ◌||◌, List, [], ◌∷◌, ◌++◌, length, refl, sym, ap, subst, ◌∙◌, inl, inr, ◌⊎◌, arith}
use Rattle.std.specs.Prelude.{◌==◌, if◌then◌else◌, slice_get, Some, None, IsTrue}
use Rattle.std.specs.FinMap as map
use Rattle.std.specs.Ordering.{nat_cmp}
use Rattle.std.proofs.lemmas.Bool.{eqb-true, eqb-false, eq-eqb, or_left, false≢true, cond_both}
use Rattle.std.proofs.lemmas.Bool.Decides.{nat_tests}
use Rattle.std.proofs.lemmas.List.Elements.{All-nil, All-cons}
use Rattle.std.proofs.lemmas.List.Kept.{AllPairs-cons}
use Rattle.word_fields.specs.Versioned.{versioned_value, versioned_bit, versioned_version}
use Rattle.lin_report.specs.declared.calls.Op.{Op}
use Rattle.lin_report.specs.declared.calls.Client.TheVariants.{Tree}
use Rattle.lin_report.specs.Object.{map_object}
use Rattle.lin_report.specs.Commands.{may_exhaust}
use Rattle.node_arena.specs.Opening.{opening_word}
use Rattle.node_arena.specs.MemoryMap.{block_place, field_at}
use Rattle.node_arena.proofs.PlacesApart.{same_field}
use Rattle.step_memory.specs.declared.steps.Seen.{Seen}
use Rattle.normal_traits.specs.declared.form.Found.TheVariants as found
use Rattle.normal_traits.specs.declared.form.Wrapped.TheVariants as wrapped
use Rattle.normal_traits.specs.declared.lists.Entry.{Entry}
use Rattle.normal_traits.specs.World.{Listed, Won, Cause, Change, World, Among, Took, Failed, Stopped, Observes, held_after, no_root}
use Rattle.normal_traits.specs.Steps.{IsOffered, IsFresh}
use Rattle.normal_traits.specs.Laws.{Laws, opening_world, IsGoodEntry, IsGoodStore, IsGoodOffer, WrappedWell}
use Rattle.flagged_register_form.specs.Register.{FLAG, REGISTER, note_place, flag_value, flag_entry, flag_of, offer_of, found_of, begin_wrap_of, wrap_begun_of, Search, decision_place, value_at}
use Rattle.flagged_register_form.specs.Register.Help.{Deciding}
use Rattle.flagged_register_form.specs.Register.Search.{AtFlag, AtRegister, Named}
use Rattle.flagged_register_form.specs.Meanings.{Flagged, Shape, IsOver, IsSpent, EachChanges, flagged_block, flagger, adds_beside, WasRead, Knows, Dead, is_ready, flagged_form, IsGone}
use Rattle.flagged_register_form.proofs.Fitting.{begun_fits, found_fits, wrapped_fits}
use Rattle.flagged_register_form.proofs.Basics.{flag_value_below, note_decision, value_decision, decided_once}
use Rattle.flagged_register_form.proofs.Effects.{Effect, made_won, cleared_won, decided_won}
use Rattle.flagged_register_form.proofs.Effects.Effect.{quiet, sets, makes, decides, clears}
use Rattle.flagged_register_form.proofs.Journal.{took_of, flagged_of, flagger_flagged}
use Rattle.flagged_register_form.proofs.Later.{decided_later, later, helps_later, knows_later, flag_rises, flagged_later}
use Rattle.flagged_register_form.proofs.Steps.{effect_of}
use Rattle.flagged_register_form.proofs.Kept.EachEffect.{effect_keeps}
use Rattle.flagged_register_form.proofs.Kept.FlagLists.{flagged_from, unset, newly}
use Rattle.flagged_register_form.proofs.Observed.{none_content, listed, plain_field}
use Rattle.flagged_register_form.proofs.Fed.{search_asks, help_asks, search_fed_well, wrap_fed_well}
use Rattle.client_lemmas.proofs.Places.{field_word}
use Rattle.client_lemmas.proofs.Growing.{all_among}
use Rattle.client_lemmas.proofs.Words.{value_small, zero_bit}
use Rattle.client_lemmas.proofs.Entries.{the_entry}
use Rattle.client_lemmas.proofs.Offers.{one_entry, two_apart}

-- ---- the opening

opened_flag : opening_word Tree FLAG ≡ 0
unfolding opening_word block_place
opened_flag = refl

opened_register : opening_word Tree REGISTER ≡ 0
unfolding opening_word block_place
opened_register = refl

opens : Shape (opening_world flagged_form)
opens = record {
  opened = refl;
  items = λ item among. absurd among;
  flaggers = λ list flagged. absurd flagged.won;
  same_identity = λ a b fa fb e. absurd fa.won;
  same_block = λ a b fa fb e. absurd fa.won;
  flag = inl (ap versioned_value (opened_flag) ∙ value_small 0 (omega arith));
  tells = map.get-empty nat_cmp 0 ∙ sym (none_content (opening_world flagged_form) (opening_word Tree REGISTER) (ap versioned_value (opened_register) ∙ value_small 0 (omega arith)));
  names = inl (ap versioned_value (opened_register) ∙ value_small 0 (omega arith));
  clear = ap versioned_bit (opened_register) ∙ zero_bit;
  fits = omega (arith, opened_register);
  flagged = λ change among. absurd among;
  passed = λ change among. absurd among;
  agreed = λ change among. absurd among;
  effective = tt;
  one_list = λ i j d lt below. absurd (omega (arith, below));
  one_block = λ i j d lt below. absurd (omega (arith, below));
  spent = λ item among. absurd among;
  causes_differ = λ i j d lt below. absurd (omega (arith, below));
}

-- ---- what shape says of changes and causes

effective : (newer older' changes : List Change) (change : Change) → EachChanges changes → changes ≡ newer ++ change ∷ older' → ¬ Observes map_object change.list.call.op (held_after map_object older')
effective [] older' changes change each e = (subst EachChanges e each).0
effective (new ∷ newer) older' changes change each e = effective newer older' (newer ++ change ∷ older') change (subst EachChanges e each).1 refl

bounded : (world : World) (cause : Cause) → IsSpent world cause → (world.used cause.block ≡ true) × (cause.kind < 8)
bounded world cause spent = (spent.used, by_kind cause.kind spent.over)
  where
    by_kind : (kind : ℕ) → IsOver world cause.block kind → kind < 8
    by_kind zero over = omega arith
    by_kind (suc zero) over = omega arith
    by_kind (suc (suc zero)) over = omega arith
    by_kind (suc (suc (suc zero))) over = omega arith
    by_kind (suc (suc (suc (suc kind)))) over = absurd over

-- ---- offers

offered_entries : (world : World) (list : Listed) (search : Search) (since : ℕ) → IsOffered flagged_form world list search since → (from : ℕ) × (list.entries ≡ flag_entry from list.block ∷ [])
offered_entries world list (Named op flag register) since offered = (flag, offered.entries)
offered_entries world list _ since offered = absurd offered.ready

lists : (world : World) (search : Search) (op : Op) (since : ℕ) → Knows search op world since → is_ready search → IsTrue (flagged_form.may_list op) × IsTrue (may_exhaust op)
lists world (Named o flag register) op since knows ready = listed op register knows.1.1.toggles
lists world _ op since knows ready = absurd ready

good_entry : (world : World) (op : Op) (flag register block : ℕ) → Shape world → WasRead world op flag register → block < 2 ^ 17 → IsGoodEntry flagged_form world (flag_entry flag block)
good_entry world op flag register block shape read small = record {
  word = field_word no_root world 0 16 (omega arith) shape.opened refl;
  versioned = or_left (FLAG == FLAG || FLAG == REGISTER) (field_at FLAG == 28) (or_left (FLAG == FLAG) (FLAG == REGISTER) (eq-eqb FLAG FLAG refl));
  listable = eq-eqb FLAG FLAG refl;
  clear = read.down.clear;
  seen = λ clear. read.down.seen;
  changed = (flag_value block, flag_value_below block small, refl);
}

-- a value or a note is no versioned word
good_store : (block field word : ℕ) → 12 ≤ field → field < 28 → field ≢ 14 → field ≢ 16 → word < 2 ^ 64 → IsGoodStore flagged_form block (block_place block field, word)
good_store block field word high low other apart fits = record {
  field = field;
  behind = high;
  within = omega (arith, low);
  place = refl;
  word = fits;
  versioned = λ e. absurd (false≢true (sym (plain_field block field low other apart) ∙ e));
}

-- a decision is open at first
good_decision : (block : ℕ) → IsGoodStore flagged_form block (decision_place block, 0)
good_decision block = record {
  field = 28;
  behind = omega arith;
  within = omega arith;
  place = refl;
  word = omega arith;
  versioned = λ e. omega arith;
}

value_note : (block : ℕ) → value_at block ≢ note_place block
value_note block e = absurd (omega (arith, same_field block 13 block 27 (omega arith) (omega arith) e))

offers : (world : World) (search : Search) (op : Op) (since block : ℕ) → Shape world → Knows search op world since → is_ready search → block < 2 ^ 17 → IsGoodOffer flagged_form world block (offer_of search op block)
offers world (Named o flag register) op since block shape knows ready small =
    one_entry flagged_form world block (flag_entry flag block) ((value_at block, op.value) ∷ (note_place block, register) ∷ (decision_place block, 0) ∷ []) (good_entry world op flag register block shape knows.1.1 small)
    (All-cons (IsGoodStore flagged_form block) (value_at block, op.value) ((note_place block, register) ∷ (decision_place block, 0) ∷ []) (good_store block 13 op.value (omega arith) (omega arith) (λ e. omega (arith, e)) (λ e. omega (arith, e)) (omega (arith, knows.1.1.value)))
    (All-cons (IsGoodStore flagged_form block) (note_place block, register) ((decision_place block, 0) ∷ []) (good_store block 27 register (omega arith) (omega arith) (λ e. omega (arith, e)) (λ e. omega (arith, e)) knows.1.1.fits)
    (All-cons (IsGoodStore flagged_form block) (decision_place block, 0) [] (good_decision block) (All-nil (IsGoodStore flagged_form block)))))
    (AllPairs-cons (λ (a b : ℕ × ℕ). a.0 ≢ b.0) (value_at block, op.value) ((note_place block, register) ∷ (decision_place block, 0) ∷ [])
    (All-cons (λ (b : ℕ × ℕ). value_at block ≢ b.0) (note_place block, register) ((decision_place block, 0) ∷ []) (value_note block)
    (All-cons (λ (b : ℕ × ℕ). value_at block ≢ b.0) (decision_place block, 0) [] (value_decision block block) (All-nil (λ (b : ℕ × ℕ). value_at block ≢ b.0))))
    (two_apart (note_place block, register) (decision_place block, 0) (note_decision block block))) (omega arith)
offers world _ op since block shape knows ready small = absurd ready

contends : (search : Search) (seen : Seen) → found_of search seen ≡ found.Contended → ⊥
contends (AtRegister o flag) seen e = grind (arith, nat_tests)
contends (AtFlag o) seen e = absurd cc
contends _ seen e = absurd cc

-- ---- wrap-ups and dead lists

failed_dead : (world : World) (list : Listed) (from : ℕ) → list.entries ≡ flag_entry from list.block ∷ [] → Failed world list 0 → Dead list world
failed_dead world list from entries failed = record {
  from = from;
  entries = entries;
  fate = inl (subst (λ (e : Entry). versioned_version e.from < versioned_version (world.words e.target)) (sym (the_entry list.entries failed.entry (flag_entry from list.block) failed.listed entries)) failed.passed, λ flagged. failed.lost (took_of world list flagged));
}

wrap_begun : (world : World) (list : Listed) (search : Search) (since stop : ℕ) → Shape world → IsOffered flagged_form world list search since → Stopped world list stop
    → WrappedWell flagged_form world list stop (begin_wrap_of list.call.op list.entries stop) (wrap_begun_of list.call.op list.entries stop)
wrap_begun world list search since stop shape offered stopped =
    let first = offered_entries world list search since offered in
    cond_both (stop == 0) wrapped.Restart wrapped.Going (WrappedWell flagged_form world list stop (Deciding (flag_of list.entries) true))
    (λ none. failed_dead world list first.0 first.1 (rw (eqb-true stop 0 none) at stopped.failed (omega (arith, eqb-true stop 0 none, ap length first.1))))
    (λ some. (tt, (flagged_of world list 0 shape (stopped.took 0 (omega (arith, eqb-false stop 0 some))), refl)))

-- after no effect has a list newly set a flag whose first word was passed
lost_later : (world : World) (list : Listed) (from : ℕ) → list.entries ≡ flag_entry from list.block ∷ [] → versioned_version from < versioned_version (world.words FLAG) → ¬ Flagged world list → (next : World) → Effect world next → ¬ Flagged next list
lost_later world list from entries passed lost next (quiet words q) = λ flagged. lost (flagged_from next world list (λ item among. among) flagged)
lost_later world list from entries passed lost next (sets other from' word s) = λ flagged. by_list (newly world other from' word list flagged)
  where
    by_list : (list ≡ other) ⊎ Flagged world list → ⊥
    by_list (inr flagged) = lost flagged
    by_list (inl one) =
        let same : flag_entry from' other.block ≡ flag_entry from list.block =
        the_entry list.entries (flag_entry from list.block) (flag_entry from' other.block) (ap (λ (es : List Entry). slice_get es 0) entries) (ap (λ (x : Listed). x.entries) one ∙ s.entries) in
        omega (arith, passed, ap (λ (e : Entry). versioned_version e.from) same, ap versioned_version s.here)
lost_later world list from entries passed lost next (makes other m) = λ flagged. lost (unset world next (made_won other (world.words REGISTER)) refl refl list flagged)
lost_later world list from entries passed lost next (decides other made d) = λ flagged. lost (unset world next (decided_won other made) refl refl list flagged)
lost_later world list from entries passed lost next (clears other flag c) = λ flagged. lost (unset world next (cleared_won other flag) refl refl list flagged)

dead_later : (world after : World) (list : Listed) → Shape world → Dead list world → Effect world after → Dead list after
dead_later world after list shape dead e = record { from = dead.from; entries = dead.entries; fate = by_fate dead.fate }
  where
    by_fate : ((versioned_version dead.from < versioned_version (world.words FLAG)) × (¬ Flagged world list)) ⊎ (Flagged world list × IsGone world list)
        → ((versioned_version dead.from < versioned_version (after.words FLAG)) × (¬ Flagged after list)) ⊎ (Flagged after list × IsGone after list)
    by_fate (inl lost) = inl (omega (arith, lost.0, flag_rises world after shape (later world after shape e)), lost_later world list dead.from dead.entries lost.0 lost.1 after e)
    by_fate (inr gone) = let l = later world after shape e in inr (flagged_later world after shape l list gone.0, decided_later world after shape l list false gone.0 gone.1)

dead_first : (world : World) (list : Listed) (search : Search) (since : ℕ) (entry : Entry) → Dead list world → IsOffered flagged_form world list search since → IsFresh world list → slice_get list.entries 0 ≡ Some entry → world.words entry.target ≢ entry.from
dead_first world list search since entry dead offered fresh listed' = λ e. by_fate e dead.fate
  where
    by_fate : world.words entry.target ≡ entry.from → ((versioned_version dead.from < versioned_version (world.words FLAG)) × (¬ Flagged world list)) ⊎ (Flagged world list × IsGone world list) → ⊥
    by_fate e (inl lost) =
        let is : entry ≡ flag_entry dead.from list.block = sym (the_entry list.entries entry (flag_entry dead.from list.block) listed' dead.entries) in
        let here : world.words FLAG ≡ dead.from = subst (λ (x : Entry). world.words x.target ≡ x.from) is e in
        omega (arith, lost.0, ap versioned_version here)
    by_fate e (inr gone) = fresh list 0 refl (took_of world list gone.0)

dead_unchanged : (world : World) (list : Listed) (change : Change) → Shape world → Dead list world → Among change world.changes → change.list ≢ list
dead_unchanged world list change shape dead among e = by_fate dead.fate
  where
    by_fate : ((versioned_version dead.from < versioned_version (world.words FLAG)) × (¬ Flagged world list)) ⊎ (Flagged world list × IsGone world list) → ⊥
    by_fate (inl lost) = lost.1 (subst (Flagged world) e (shape.flagged change among))
    by_fate (inr gone) = decided_once (sym (shape.agreed change among) ∙ ap (λ (x : Listed). world.words (decision_place x.block)) e ∙ gone.1)

-- ---- changes beside the lists

beside : (world : World) (list : Listed) (entry : Entry) → Shape world → adds_beside world entry ≡ Some list → (0 < list.block) × Took world list 0
beside world list entry shape e = by_test (entry.target == REGISTER) e
  where
    by_test : (b : Bool) → (if b then flagger (flagged_block (world.words FLAG)) world.journal else None) ≡ Some list → (0 < list.block) × Took world list 0
    by_test true e' = let flagged = flagger_flagged world (flagged_block (world.words FLAG)) list shape e' in ((shape.flaggers list flagged).some, took_of world list flagged)
    by_test false e' = absurd cc

pub flagged_laws : Laws flagged_form
flagged_laws = record {
  of_world = record {
    effective = λ world newer older' change shape e. effective newer older' world.changes change shape.effective e;
    one_change_a_list = λ world shape. shape.one_list;
    one_change_a_block = λ world shape. shape.one_block;
    causes_differ = λ world shape. shape.causes_differ;
    causes_bounded = λ world shape. all_among (λ (won : Won). (world.used won.cause.block ≡ true) × (won.cause.kind < 8)) world.journal (λ item among. bounded world item.cause (shape.spent item among));
    begins_asking = λ op command. tt;
    begins_knowing = λ world op command shape. (omega arith, refl);
    notes_plain = λ block field some low. plain_field block field (omega (arith, low)) (λ e. omega (arith, low, e)) (λ e. omega (arith, low, e));
    search_asks_well = λ world search op since command shape asking knows. search_asks world shape search op since asking knows;
    contends = λ search seen asking e. absurd (contends search seen e);
    lists = λ world search op since command knows ready. lists world search op since knows ready;
    offers = λ world search op since block command shape knows ready small. offers world search op since block shape knows ready small;
    same_entries = λ search op block other e. absurd cc;
    wrap_asks_well = λ world help list stop shape asking follows. help_asks world shape help list follows;
    wrap_begun = λ world list search since stop shape offered stopped. wrap_begun world list search since stop shape offered stopped;
    dead_unchanged = λ world list change shape dead among. dead_unchanged world list change shape dead among;
    dead_first = λ world list search since entry shape dead offered fresh listed'. dead_first world list search since entry dead offered fresh listed';
    beside = λ world list entry shape e. beside world list entry shape e;
    begun_fits = λ world list search since stop shape offered stopped. begun_fits list.call.op list.entries stop;
  };
  opens = opens;
  shape_kept = λ world after shape step. effect_keeps world after shape (effect_of world after shape step);
  knows_kept = λ world after search op since command shape knows step. knows_later world after shape (later world after shape (effect_of world after shape step)) search op since knows;
  follows_kept = λ world after help list stop shape follows step. helps_later world after shape (later world after shape (effect_of world after shape step)) help list follows;
  dead_kept = λ world after list shape dead step. dead_later world after list shape dead (effect_of world after shape step);
  search_fed = λ world after seen search op since command shape asking knows r. search_fed_well world after seen search op since command shape asking knows r;
  wrap_fed = λ world after seen help list stop command shape asking follows r. wrap_fed_well world after seen list shape help stop follows r;
  answers_fit = λ world after seen search op since command shape asking knows r. found_fits search seen;
  wraps_fit = λ world after seen help list stop command shape asking follows r. wrapped_fits help seen;
}
