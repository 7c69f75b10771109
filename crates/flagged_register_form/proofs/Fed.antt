-- What searches and wrap-ups ask, and what they have learnt when they are fed.
use Rattle.std.proofs.Common.{◌||◌, ◌≡◌, ◌≢◌, ℕ, ◌+◌, ◌/◌, ◌<◌, Bool, true, false, List, length, refl, sym, ap, subst, ◌∙◌, inl, inr, ◌⊎◌, arith, not}
use Rattle.std.specs.Prelude.{◌==◌, if◌then◌else◌}
use Rattle.std.proofs.lemmas.Bool.{eqb-true, eqb-false, eq-eqb, or_left, or_right, cond_both}
use Rattle.node_arena.specs.MemoryMap.{field_at}
use Rattle.node_arena.proofs.PlacesApart.{field_at-block_place}
use Rattle.lin_report.specs.declared.calls.TheConstants.{GET}
use Rattle.word_fields.specs.Versioned.{versioned_value, versioned_bit, versioned_version, cleared_word, changed_word}
use Rattle.word_fields.proofs.ChangedWords.{cleared-clear}
use Rattle.lin_report.specs.declared.calls.Op.{Op}
use Rattle.lin_report.specs.declared.calls.Reply.TheVariants.{Yes}
use Rattle.lin_report.specs.Object.{map_object, map_apply, IsCommandOf}
use Rattle.step_memory.specs.declared.steps.Request.TheVariants.{Load, Exchange}
use Rattle.step_memory.specs.declared.steps.Seen.{Seen}
use Rattle.normal_traits.specs.declared.form.Found.TheVariants as found
use Rattle.normal_traits.specs.World.{Listed, Change, World, held_after, Observes, RightSince, is_word, no_root}
use Rattle.normal_traits.specs.Steps.{Requested}
use Rattle.normal_traits.specs.Laws.{AsksWell, FoundWell, WrappedWell}
use Rattle.flagged_register_form.specs.Register.{FLAG, REGISTER, note_place, toggled, toggles, told, flag_of, Help, Search, request_of, request_of_help, feed_of, feed_help, found_of, after_flag, after_register, after_help, wrap_found_of, decision_place, decided, decided_value, toggled_value}
use Rattle.flagged_register_form.specs.Register.Help.{Deciding, Checking, Reading, Changing, Clearing}
use Rattle.flagged_register_form.specs.Register.Search.{AtFlag, AtRegister, Named, Helping}
use Rattle.flagged_register_form.specs.Meanings.{Flagged, Made, Stands, Shape, IsUp, Helps, WasDown, Learnt, Knows, asks, flagged_form, IsGone}
use Rattle.flagged_register_form.proofs.Basics.{register_flag, toggled_below, decided_some, decision_flag, decided_is, decided_once, decided_value_below}
use Rattle.flagged_register_form.proofs.Effects.{Effect}
use Rattle.flagged_register_form.proofs.Later.{helps_later, decided_later, Later, later, flag_clear, flagged_later, note_later}
use Rattle.flagged_register_form.proofs.Steps.{named_block, help_effect}
use Rattle.flagged_register_form.proofs.Kept.EachEffect.{effect_keeps}
use Rattle.std.specs.FinMap as map
use Rattle.normal_traits.specs.World.{StandsFor}
use Rattle.normal_traits.specs.Laws.{IsFixed}
use Rattle.flagged_register_form.specs.Meanings.{IsName, content, IsGone}
use Rattle.flagged_register_form.proofs.Observed.{observed}
use Rattle.client_lemmas.proofs.Words.{same_place}
use Rattle.client_lemmas.proofs.Places.{field_word}
use Rattle.client_lemmas.proofs.Growing.{first_all}
use Rattle.client_lemmas.proofs.Requests.{Went, went}

-- ---- what is asked

module _ (world : World) (shape : Shape world) where
  flag_is_word : is_word no_root world FLAG ≡ true
  flag_is_word = field_word no_root world 0 16 (omega arith) shape.opened refl

  register_is_word : is_word no_root world REGISTER ≡ true
  register_is_word = field_word no_root world 0 14 (omega arith) shape.opened refl

  is_versioned_decision : (block : ℕ) → flagged_form.is_versioned (decision_place block) ≡ true
  is_versioned_decision block =
      or_right (decision_place block == FLAG || decision_place block == REGISTER) (field_at (decision_place block) == 28) (ap (λ field. field == 28) (field_at-block_place block 28 (omega arith)))

  clearing_asks : (flag : ℕ) (list : Listed) → Flagged world list → flag ≡ flag_of list.entries → AsksWell flagged_form world (Exchange FLAG flag (changed_word flag 0))
  clearing_asks flag list flagged own =
      (flag_is_word, or_left (FLAG == FLAG || FLAG == REGISTER) (field_at FLAG == 28) (or_left (FLAG == FLAG) (FLAG == REGISTER) (eq-eqb FLAG FLAG refl)), λ listable. ap versioned_bit own ∙ flag_clear world list shape flagged, (0, omega arith, refl))

  pub help_asks : (help : Help) (list : Listed) → Helps help world list → AsksWell flagged_form world (request_of_help help)
  help_asks (Deciding flag make) list h =
      rw (named_block world list flag shape h.0 h.1) (
        field_word no_root world list.block 28 (omega arith) (shape.flaggers list h.0).used refl,
        is_versioned_decision list.block,
        λ listable. absurd (decision_flag list.block (eqb-true (decision_place list.block) FLAG listable)),
        (decided_value make, decided_value_below make, refl),
      )
  help_asks (Checking flag) list h = rw (named_block world list flag shape h.0 h.1) (field_word no_root world list.block 28 (omega arith) (shape.flaggers list h.0).used refl)
  help_asks (Reading flag) list h = rw (named_block world list flag shape h.0 h.1) (field_word no_root world list.block 27 (omega arith) (shape.flaggers list h.0).used refl)
  help_asks (Changing flag noted) list h =
      (register_is_word, or_left (REGISTER == FLAG || REGISTER == REGISTER) (field_at REGISTER == 28) (or_right (REGISTER == FLAG) (REGISTER == REGISTER) (eq-eqb REGISTER REGISTER refl)), λ listable. absurd (register_flag (eqb-true REGISTER FLAG listable)), (toggled_value noted (versioned_value flag / 4), toggled_below noted (versioned_value flag / 4) (omega (arith, named_block world list flag shape h.0 h.1, (shape.flaggers list h.0).small)), refl))
  help_asks (Clearing flag true) list h = clearing_asks flag list h.0 h.1
  help_asks (Clearing flag false) list h = clearing_asks flag list h.0 h.1

  pub search_asks : (search : Search) (op : Op) (since : ℕ) → asks search → Knows search op world since → AsksWell flagged_form world (request_of search)
  search_asks (AtFlag o) op since asking knows = flag_is_word
  search_asks (AtRegister o flag) op since asking knows = register_is_word
  search_asks (Named o flag register) op since asking knows = absurd asking
  search_asks (Helping o help) op since asking knows = help_asks help knows.1.1.0 knows.1.1.1

-- ---- what a help has learnt

-- once the register isn't as it was noted, and the change isn't given up, it is made
made_since : (world : World) (list : Listed) → Shape world → Flagged world list → world.words (decision_place list.block) ≡ decided true → world.words REGISTER ≢ world.words (note_place list.block) → Made world list
made_since world list shape flagged agreed differs = by_fate (shape.flaggers list flagged).fate
  where
    by_fate : Stands world list ⊎ (Made world list ⊎ IsGone world list) → Made world list
    by_fate (inl stands) = absurd (differs stands.register)
    by_fate (inr (inl made)) = made
    by_fate (inr (inr gone)) = absurd (decided_once (sym agreed ∙ gone))

module _ (world after : World) (seen : Seen) (list : Listed) (shape : Shape world) where
  pub help_fed : (help : Help) → Helps help world list → Requested flagged_form (request_of_help help) world after seen → Helps (feed_help help seen) after list
  help_fed (Deciding flag make) h r =
      let a = went flagged_form (request_of_help (Deciding flag make)) world after seen r in
      by_cases (rw (named_block world list flag shape h.0 h.1) at a)
    where
      l : Later world after
      l = later world after shape (help_effect world after seen (Deciding flag make) list shape h r)

      by_cases : Went flagged_form (Exchange (decision_place list.block) 0 (decided make)) world after seen → Helps (Checking flag) after list
      by_cases (inl lost) = rw lost.1 (h.0, h.1, lost.0)
      by_cases (inr w) =
          let new : after.words (decision_place list.block) ≡ decided make = ap (λ (x : World). x.words (decision_place list.block)) w.2 ∙ same_place (decision_place list.block) (decided make) world.words in
          (flagged_later world after shape l list h.0, h.1, λ e. decided_some make (sym new ∙ e))
  -- what was decided is what its word says
  help_fed (Checking flag) h r =
      let a = went flagged_form (request_of_help (Checking flag)) world after seen r in
      let here : seen.before ≡ world.words (decision_place list.block) = ap (λ (s : Seen). s.before) a.1 ∙ ap (λ block. world.words (decision_place block)) (named_block world list flag shape h.0 h.1) in
      rw a.0 (by_test here (versioned_value seen.before == 1) refl (shape.flaggers list h.0).decision)
    where
      by_test : seen.before ≡ world.words (decision_place list.block) → (b : Bool) → (versioned_value seen.before == 1) ≡ b
          → (world.words (decision_place list.block) ≡ 0) ⊎ ((world.words (decision_place list.block) ≡ decided true) ⊎ IsGone world list) → Helps (if b then Reading flag else Clearing flag false) world list
      by_test here b e (inl none) = absurd (h.2 none)
      by_test here true e (inr (inl agreed)) = (h.0, h.1, agreed)
      by_test here true e (inr (inr gone)) = absurd (omega (arith, eqb-true (versioned_value seen.before) 1 e, ap versioned_value (here ∙ gone), decided_is false))
      by_test here false e (inr (inl agreed)) = absurd (eqb-false (versioned_value seen.before) 1 e (ap versioned_value (here ∙ agreed) ∙ decided_is true))
      by_test here false e (inr (inr gone)) = (h.0, h.1, gone)
  help_fed (Reading flag) h r =
      let a = went flagged_form (request_of_help (Reading flag)) world after seen r in
      rw a.0 (h.0, h.1, h.2, ap (λ (s : Seen). s.before) a.1 ∙ ap (λ block. world.words (note_place block)) (named_block world list flag shape h.0 h.1))
  help_fed (Changing flag noted) h r = by_cases (went flagged_form (request_of_help (Changing flag noted)) world after seen r)
    where
      e : Effect world after
      e = help_effect world after seen (Changing flag noted) list shape h r

      l : Later world after
      l = later world after shape e

      by_cases : Went flagged_form (request_of_help (Changing flag noted)) world after seen → Helps (Clearing flag true) after list
      by_cases (inl lost) = rw lost.1 (h.0, h.1, made_since world list shape h.0 h.2 (λ same. lost.0 (same ∙ sym h.3)))
      by_cases (inr w) =
          let new : after.words REGISTER ≡ toggled noted (versioned_value flag / 4) = ap (λ (x : World). x.words REGISTER) w.2 ∙ same_place REGISTER (toggled noted (versioned_value flag / 4)) world.words in
          let note : after.words (note_place list.block) ≡ noted = note_later world after shape l list h.0 ∙ sym h.3 in (
            flagged_later world after shape l list h.0,
            h.1,
            made_since after list (effect_keeps world after shape e) (flagged_later world after shape l list h.0) (decided_later world after shape l list true h.0 h.2)
                (λ same. absurd (omega (arith, w.1, ap versioned_version (sym new ∙ same ∙ note)))),
          )
  help_fed (Clearing flag made) h r = helps_later world after shape (later world after shape (help_effect world after seen (Clearing flag made) list shape h r)) (Clearing flag made) list h

  pub wrap_fed_well : (help : Help) (stop : ℕ) → Helps help world list → Requested flagged_form (request_of_help help) world after seen → WrappedWell flagged_form after list stop (feed_help help seen) (wrap_found_of help seen)
  wrap_fed_well (Clearing flag false) stop h r =
      let gone : Helps (Clearing flag false) after list = help_fed (Clearing flag false) h r in record { from = gone.0.from; entries = gone.0.entries; fate = inr (gone.0, gone.2) }
  wrap_fed_well (Clearing flag true) stop h r = let made : Made after list = (help_fed (Clearing flag true) h r).2 in (record { reply = Yes; change = made.change; told = refl }, tt)
  wrap_fed_well help stop h r = (tt, help_fed help h r)

-- ---- what a search has learnt

learnt_flag : (world : World) (o op : Op) (flag : ℕ) → Shape world → o ≡ op → flag ≡ world.words FLAG → Learnt (after_flag o flag) op world × asks (after_flag o flag)
learnt_flag world o op flag shape same here =
    cond_both (versioned_bit flag == 0) _ (AtFlag o) Right
    (λ bit. let clear = eqb-true (versioned_bit flag) 0 bit in
    cond_both (versioned_value flag == 0) (AtRegister o flag) _ Right
    (λ none. ((same, record { clear = clear; down = eqb-true (versioned_value flag) 0 none; seen = inl (sym here) }), tt)) (λ some. (up_at clear (eqb-false (versioned_value flag) 0 some) shape.flag, tt)))
    (λ set. (same, tt))
  where
    Right : Search → Type 0
    Right search = Learnt search op world × asks search

    up_at : versioned_bit flag ≡ 0 → versioned_value flag ≢ 0 → (versioned_value (world.words FLAG) ≡ 0) ⊎ IsUp world → Learnt (Helping o (Deciding flag (not (o.code == GET)))) op world
    up_at clear some (inl down) = absurd (some (ap versioned_value here ∙ down))
    up_at clear some (inr up) = (same, (up.list, (up.flagged, sym (cleared-clear flag clear) ∙ ap cleared_word here ∙ up.flag)))

right_now : (world : World) (op : Op) (since register : ℕ) → Shape world → IsCommandOf map_object op → since < length world.changes + 1 → register ≡ world.words REGISTER → op.key ≡ 0 → toggles op register ≡ false
    → RightSince map_object world op since (told op register) × IsFixed flagged_form (told op register)
right_now world op since register shape command before here key same =
    let held = held_after map_object world.changes in
    let names : IsName register world.used = subst (λ r. IsName r world.used) (sym here) shape.names in
    let tells : map.get held 0 ≡ content register world.words = shape.tells ∙ ap (λ r. content r world.words) (sym here) in
    let o : ((map_apply op held).0 ≡ held) × StandsFor world (told op register) (map_apply op held).1 × IsFixed flagged_form (told op register) = observed world op register held key same names tells command in
    let all = first_all world.changes in
    let right : RightSince map_object world op since (told op register) = record {
      count = length world.changes;
      not_before = omega (arith, before);
      made = omega arith;
      observes = subst (λ (changes : List Change). Observes map_object op (held_after map_object changes)) (sym all) o.0;
      told = subst (λ (changes : List Change). StandsFor world (told op register) (map_apply op (held_after map_object changes)).1) (sym all) o.1;
    } in (right, o.2)

learnt_register : (world : World) (o op : Op) (flag register since : ℕ) → Shape world → IsCommandOf map_object op → since < length world.changes + 1 → o ≡ op → WasDown world flag → register ≡ world.words REGISTER
    → Learnt (after_register o flag register) op world
    × FoundWell flagged_form world op since (after_register o flag register) (if o.key == 0 then (if toggles o register then found.Ready else found.Answer (told o register)) else found.Going)
learnt_register world o op flag register since shape command before same down here = by_key (o.key == 0) refl
  where
    key_of : (o.key == 0) ≡ true → op.key ≡ 0
    key_of e = ap (λ (x : Op). x.key) (sym same) ∙ eqb-true o.key 0 e

    by_toggles : op.key ≡ 0 → (b : Bool) → toggles o register ≡ b
        → Learnt (if b then Named o flag register else AtFlag o) op world
        × FoundWell flagged_form world op since (if b then Named o flag register else AtFlag o) (if b then found.Ready else found.Answer (told o register))
    by_toggles key true e =
        ((same, record { down = down; key = key; value = command.value; toggles = subst (λ (x : Op). toggles x register ≡ true) same e; fits = omega (arith, here, shape.fits); same = λ unmoved. sym here }), tt)
    by_toggles key false e = (
      same,
      subst (λ (x : Op). RightSince map_object world op since (told x register) × IsFixed flagged_form (told x register)) (sym same)
          (right_now world op since register shape command before here key (subst (λ (x : Op). toggles x register ≡ false) same e)),
    )

    by_key : (b : Bool) → (o.key == 0) ≡ b
        → Learnt (if b then (if toggles o register then Named o flag register else AtFlag o) else AtFlag o) op world
        × FoundWell flagged_form world op since (if b then (if toggles o register then Named o flag register else AtFlag o) else AtFlag o) (if b then (if toggles o register then found.Ready else found.Answer (told o register)) else found.Going)
    by_key true e = by_toggles (key_of e) (toggles o register) refl
    by_key false e = (same, tt)

pub search_fed_well : (world after : World) (seen : Seen) (search : Search) (op : Op) (since : ℕ) → IsCommandOf map_object op → Shape world → asks search → Knows search op world since → Requested flagged_form (request_of search) world after seen
    → Knows (feed_of search seen) op after since × FoundWell flagged_form after op since (feed_of search seen) (found_of search seen)
search_fed_well world after seen (AtFlag o) op since command shape asking knows r =
    let a = went flagged_form (Load FLAG) world after seen r in
    let learnt = learnt_flag world o op seen.before shape knows.1 (ap (λ (s : Seen). s.before) a.1) in
    rw a.0 ((knows.0, learnt.0), learnt.1)
search_fed_well world after seen (AtRegister o flag) op since command shape asking knows r =
    let a = went flagged_form (Load REGISTER) world after seen r in
    let learnt = learnt_register world o op flag seen.before since shape command knows.0 knows.1.0 knows.1.1 (ap (λ (s : Seen). s.before) a.1) in
    rw a.0 ((knows.0, learnt.0), learnt.1)
search_fed_well world after seen (Named o flag register) op since command shape asking knows r = absurd asking
search_fed_well world after seen (Helping o help) op since command shape asking knows r = by_help help (knows.1.1.1) r
  where
    list : Listed
    list = knows.1.1.0

    counted : (h : Help) → Helps h world list → Requested flagged_form (request_of_help h) world after seen → since < length after.changes + 1
    counted h helps r' = omega (arith, knows.0, (later world after shape (help_effect world after seen h list shape helps r')).count)

    by_help : (h : Help) → Helps h world list → Requested flagged_form (request_of_help h) world after seen → Knows (after_help o h seen) op after since × asks (after_help o h seen)
    by_help (Clearing flag made) helps r' = ((counted (Clearing flag made) helps r', knows.1.0), tt)
    by_help h helps r' = ((counted h helps r', (knows.1.0, (list, help_fed world after seen list shape h helps r'))), tt)
