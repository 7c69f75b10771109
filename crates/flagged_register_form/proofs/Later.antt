-- What every effect keeps, and with it what searches and wrap-ups know.
use Rattle.std.specs.Prelude.{if◌then◌else◌, ◌==◌, Some, None}
use Rattle.std.proofs.lemmas.Bool.{eq-eqb}
use Rattle.std.proofs.Common.{subst, ◌/◌, ◌≡◌, ◌≢◌, ℕ, ◌+◌, ◌<◌, ◌≤◌, ◌∷◌, true, false, length, refl, sym, ap, ◌∙◌, inl, inr, ◌⊎◌, arith, Bool}
use Rattle.word_fields.specs.Versioned.{versioned_value, versioned_bit, versioned_version, changed_word}
use Rattle.word_fields.proofs.ChangedWords.{version-cleared, value-cleared}
use Rattle.lin_report.specs.declared.calls.Op.{Op}
use Rattle.normal_traits.specs.World.{Listed, Won, Change, World, Among}
use Rattle.normal_traits.specs.Steps.{with_word}
use Rattle.flagged_register_form.specs.Register.{FLAG, REGISTER, note_place, flag_value, flag_word, toggled, flag_of, Help, Search, decision_place, decided, value_at}
use Rattle.flagged_register_form.specs.Register.Help.{Deciding, Checking, Reading, Changing, Clearing}
use Rattle.flagged_register_form.specs.Register.Search.{AtFlag, AtRegister, Named, Helping}
use Rattle.flagged_register_form.specs.Meanings.{Flagged, Made, Shape, flag_won, Helps, WasDown, WasRead, Learnt, Knows, content, IsName}
use Rattle.flagged_register_form.proofs.Basics.{register_flag, flag_register, note_flag, note_register, flagged_value, flagged_bit, decision_flag, decided_some, decision_register, note_decision, same_decision, value_flag, value_register, value_decision}
use Rattle.flagged_register_form.proofs.Effects.{Effect}
use Rattle.flagged_register_form.proofs.Effects.Effect.{quiet, sets, makes, decides, clears}
use Rattle.normal_traits.proofs.Stays.{word_beside}
use Rattle.client_lemmas.proofs.Words.{same_place, Rises, rises_version, rises_seen}

pub record Later (world after : World) : Type 0 where
  pub journal : (won : Won) → Among won world.journal → Among won after.journal
  pub changes : (change : Change) → Among change world.changes → Among change after.changes
  pub count : length world.changes ≤ length after.changes
  pub flag : Rises (world.words FLAG) (after.words FLAG)
  pub register : versioned_version (world.words REGISTER) ≤ versioned_version (after.words REGISTER)
  pub still : versioned_value (world.words FLAG) ≡ 0 → after.words REGISTER ≡ world.words REGISTER
  pub notes : (block : ℕ) → world.used block ≡ true → after.words (note_place block) ≡ world.words (note_place block)
  pub values : (block : ℕ) → world.used block ≡ true → after.words (value_at block) ≡ world.words (value_at block)
  pub decisions : (block : ℕ) → world.used block ≡ true → world.words (decision_place block) ≢ 0 → after.words (decision_place block) ≡ world.words (decision_place block)

-- ---- a list's flag

-- the word of a flag, and its fields
pub flag_is : (world : World) (list : Listed) (flagged : Flagged world list) → flag_of list.entries ≡ flag_word flagged.from list.block
flag_is world list flagged = ap flag_of flagged.entries

pub flag_names : (world : World) (list : Listed) → Shape world → Flagged world list → versioned_value (flag_of list.entries) ≡ flag_value list.block
flag_names world list shape flagged = ap versioned_value (flag_is world list flagged) ∙ flagged_value flagged.from list.block (shape.flaggers list flagged).small

pub flag_clear : (world : World) (list : Listed) → Shape world → Flagged world list → versioned_bit (flag_of list.entries) ≡ 0
flag_clear world list shape flagged = ap versioned_bit (flag_is world list flagged) ∙ flagged_bit flagged.from list.block (shape.flaggers list flagged).small

-- ---- every effect

-- the flag's word is exchanged
flag_later : (world : World) (word : ℕ) (used : ℕ → Bool) (new : Won) → versioned_version (world.words FLAG) < versioned_version word
    → Later world (record { words = with_word FLAG word world.words; changes = world.changes; used = used; journal = new ∷ world.journal })
flag_later world word used new higher =
    let same : with_word FLAG word world.words REGISTER ≡ world.words REGISTER = word_beside FLAG word world.words REGISTER register_flag in
    record {
      journal = λ won among. inr among;
      changes = λ change among. among;
      count = omega arith;
      flag = inr (inr (omega (arith, higher, ap versioned_version (same_place FLAG word world.words))));
      register = omega (arith, ap versioned_version same);
      still = λ down. same;
      notes = λ block used. word_beside FLAG word world.words (note_place block) (note_flag block);
      values = λ block used. word_beside FLAG word world.words (value_at block) (value_flag block);
      decisions = λ block used some. word_beside FLAG word world.words (decision_place block) (decision_flag block);
    }

pub later : (world after : World) → Shape world → Effect world after → Later world after
later world after shape (quiet words q) = record {
  journal = λ won among. among;
  changes = λ change among. among;
  count = omega arith;
  flag = elim q.flag [ inl same ↦ inl same | inr cleared ↦ inr (inl cleared) ];
  register = omega (arith, ap versioned_version q.register);
  still = λ down. q.register;
  notes = q.notes;
  values = q.values;
  decisions = λ block used some. q.decisions block used;
}
later world after shape (sets list from word s) =
    let raised : versioned_version word ≡ versioned_version from + 1 = sym (version-cleared word) ∙ ap versioned_version s.exchanged.to ∙ s.exchanged.raised in
    flag_later world word _ _ (omega (arith, raised, ap versioned_version s.here))
later world after shape (makes list m) =
    let word = toggled (world.words REGISTER) list.block in
    let new : with_word REGISTER word world.words REGISTER ≡ word = same_place REGISTER word world.words in
    record {
      journal = λ won among. inr among;
      changes = λ change among. inr among;
      count = omega arith;
      flag = inl (word_beside REGISTER word world.words FLAG flag_register);
      register = omega (arith, ap versioned_version new, m.raised);
      still = λ down. absurd (omega (arith, down, sym (value-cleared (world.words FLAG)) ∙ ap versioned_value m.stands.flag ∙ flag_names world list shape m.flagged));
      notes = λ block used. word_beside REGISTER word world.words (note_place block) (note_register block);
      values = λ block used. word_beside REGISTER word world.words (value_at block) (value_register block);
      decisions = λ block used some. word_beside REGISTER word world.words (decision_place block) (decision_register block);
    }
later world after shape (decides list made d) =
    let place = decision_place list.block in
    let same : with_word place (decided made) world.words REGISTER ≡ world.words REGISTER = word_beside place (decided made) world.words REGISTER (λ e. decision_register list.block (sym e)) in
    record {
      journal = λ won among. inr among;
      changes = λ change among. among;
      count = omega arith;
      flag = inl (word_beside place (decided made) world.words FLAG (λ e. decision_flag list.block (sym e)));
      register = omega (arith, ap versioned_version same);
      still = λ down. same;
      notes = λ block used. word_beside place (decided made) world.words (note_place block) (note_decision block list.block);
      values = λ block used. word_beside place (decided made) world.words (value_at block) (value_decision block list.block);
      decisions = λ block used some. word_beside place (decided made) world.words (decision_place block)
          (λ e. some (ap (λ b. world.words (decision_place b)) (same_decision block list.block e) ∙ d.undecided));
    }
later world after shape (clears list flag c) = flag_later world (changed_word flag 0) _ _ (omega (arith, c.raised, ap versioned_version c.here))

-- ---- what is kept

module _ (world after : World) (shape : Shape world) (l : Later world after) where
  pub flagged_later : (list : Listed) → Flagged world list → Flagged after list
  flagged_later list flagged = record { from = flagged.from; entries = flagged.entries; won = l.journal (flag_won list flagged.from) flagged.won }

  pub note_later : (list : Listed) → Flagged world list → after.words (note_place list.block) ≡ world.words (note_place list.block)
  note_later list flagged = let f = shape.flaggers list flagged in l.notes list.block f.used

  pub value_later : (list : Listed) → Flagged world list → after.words (value_at list.block) ≡ world.words (value_at list.block)
  value_later list flagged = l.values list.block (shape.flaggers list flagged).used

  pub decided_later : (list : Listed) (made : Bool) → Flagged world list → world.words (decision_place list.block) ≡ decided made → after.words (decision_place list.block) ≡ decided made
  decided_later list made flagged agreed = l.decisions list.block (shape.flaggers list flagged).used (λ e. decided_some made (sym agreed ∙ e)) ∙ agreed

  pub made_later : (list : Listed) → Flagged world list → Made world list → Made after list
  made_later list flagged made = record {
    change = l.changes _ made.change;
    passed = omega (arith, made.passed, l.register, ap versioned_version (note_later list flagged));
    agreed = decided_later list true flagged made.agreed;
  }

  pub helps_later : (help : Help) (list : Listed) → Helps help world list → Helps help after list
  helps_later (Deciding flag make) list h = (flagged_later list h.0, h.1)
  helps_later (Checking flag) list h = (flagged_later list h.0, h.1, λ e. h.2 (sym (l.decisions list.block (shape.flaggers list h.0).used h.2) ∙ e))
  helps_later (Reading flag) list h = (flagged_later list h.0, h.1, decided_later list true h.0 h.2)
  helps_later (Changing flag noted) list h = (flagged_later list h.0, h.1, decided_later list true h.0 h.2, h.3 ∙ sym (note_later list h.0))
  helps_later (Clearing flag true) list h = (flagged_later list h.0, h.1, made_later list h.0 h.2)
  helps_later (Clearing flag false) list h = (flagged_later list h.0, h.1, decided_later list false h.0 h.2)

  -- the register's word stands for what it did
  pub content_later : after.words REGISTER ≡ world.words REGISTER → content (after.words REGISTER) after.words ≡ content (world.words REGISTER) world.words
  content_later same = ap (λ register. content register after.words) same ∙ by_name shape.names
    where
      by_name : IsName (world.words REGISTER) world.used → content (world.words REGISTER) after.words ≡ content (world.words REGISTER) world.words
      by_name (inl none) = rw (eq-eqb (versioned_value (world.words REGISTER)) 0 none) refl
      by_name (inr name) =
          let block : versioned_value (world.words REGISTER) / 4 ≡ name.0 = omega (arith, name.3) in
          let used : world.used (versioned_value (world.words REGISTER) / 4) ≡ true = subst (λ b. world.used b ≡ true) (sym block) name.1 in
          ap (λ (w : ℕ). if versioned_value (world.words REGISTER) == 0 then None else Some w) (l.values (versioned_value (world.words REGISTER) / 4) used)

  -- the flag's version never falls
  pub flag_rises : versioned_version (world.words FLAG) ≤ versioned_version (after.words FLAG)
  flag_rises = rises_version (world.words FLAG) (after.words FLAG) l.flag

  pub down_later : (flag : ℕ) → WasDown world flag → WasDown after flag
  down_later flag was = record { clear = was.clear; down = was.down; seen = rises_seen (world.words FLAG) (after.words FLAG) flag l.flag was.clear was.seen }

  pub read_later : (op : Op) (flag register : ℕ) → WasRead world op flag register → WasRead after op flag register
  read_later op flag register was = record {
    down = down_later flag was.down;
    key = was.key;
    value = was.value;
    toggles = was.toggles;
    fits = was.fits;
    same = λ here. by_cases here was.down.seen;
  }
    where
      by_cases : after.words FLAG ≡ flag → (world.words FLAG ≡ flag) ⊎ (versioned_version flag < versioned_version (world.words FLAG)) → after.words REGISTER ≡ register
      by_cases here (inl stood) = l.still (ap versioned_value stood ∙ was.down.down) ∙ was.same stood
      by_cases here (inr past) = absurd (omega (arith, past, flag_rises, ap versioned_version here))

  pub learnt_later : (search : Search) (op : Op) → Learnt search op world → Learnt search op after
  learnt_later (AtFlag o) op learnt = learnt
  learnt_later (AtRegister o flag) op learnt = (learnt.0, down_later flag learnt.1)
  learnt_later (Named o flag register) op learnt = (learnt.0, read_later op flag register learnt.1)
  learnt_later (Helping o help) op learnt = (learnt.0, (learnt.1.0, helps_later help learnt.1.0 learnt.1.1))

  pub knows_later : (search : Search) (op : Op) (since : ℕ) → Knows search op world since → Knows search op after since
  knows_later search op since knows = (omega (arith, knows.0, l.count), learnt_later search op knows.1)
