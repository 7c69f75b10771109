-- Who finds no block left has seen the claim counter at the capacity: a call that ends with Exhausted, and a helper
-- that tells it to a record.
use Rattle.std.proofs.Common.{rules, arith, ◌≡◌, refl, ap, ℕ, ◌+◌, ◌≤◌, nat_lt, Bool, true, false, if◌then◌else◌, inl, inr, List, get_or, Some, None}
use Rattle.std.proofs.lemmas.Bool.{cases_lt, lt-ltb}
use Rattle.lin_report.specs.declared.calls.Outcome.TheVariants.{Plain}
use Rattle.lin_report.specs.declared.calls.Reply.TheVariants.{Exhausted}
use Rattle.step_memory.specs.declared.steps.Request.TheVariants.{Load, Add}
use Rattle.step_memory.specs.declared.steps.Seen.{Seen}
use Rattle.step_memory.specs.Step.{seen_of}
use Rattle.step_memory.proofs.Words.{add_tells, load_tells}
use Rattle.normal_traits.specs.NormalForm.{NormalForm}
use Rattle.fast_slow_engine.specs.declared.phases.Phase.{Phase}
use Rattle.fast_slow_engine.specs.declared.phases.Phase.TheVariants.{Generate, Announce, Help, End}
use Rattle.fast_slow_engine.specs.declared.phases.Announcing.TheVariants as announcing
use Rattle.fast_slow_engine.specs.declared.phases.Generating.TheVariants.{Search, LookForBlock, Claim}
use Rattle.fast_slow_engine.specs.declared.help.Help as helper
use Rattle.fast_slow_engine.specs.declared.help.Helping.{Helping}
use Rattle.fast_slow_engine.specs.declared.help.Helping.TheVariants as helping
use Rattle.fast_slow_engine.specs.declared.help.Work.{Work}
use Rattle.fast_slow_engine.specs.declared.help.Work.TheVariants as work
use Rattle.fast_slow_engine.specs.Mechs.{Mech}
use Rattle.fast_slow_engine.specs.HelpTable.{filling, help_fed, helping_ends, helping_hand, helping_request, work_request}
use Rattle.fast_slow_engine.specs.HelpWords.{told_word}
use Rattle.fast_slow_engine.specs.PhaseTable.{ends, help_stepped, helped, in_phase, may_search, offered, request_in, stepped, tried, with_hand}
use Rattle.run_laws.specs.Claims.{asks_for_block, helping_asks, tells_record, work_asks, work_tells}

saw_no_less : (m n : ℕ) → nat_lt m n ≡ false → n ≤ m
saw_no_less m n no_less =
    elim (cases_lt m n) [ inl less ↦ (let is : nat_lt m n ≡ true = lt-ltb m n less in absurd (cc)) | inr more ↦ more ]

module _ {S W : Type 0} where
  no_end : (b : Bool) (on none : Mech S W) → ends on.phase ≡ false → (if b then on else none).phase ≡ End Exhausted → b ≡ false
  no_end true on none goes e =
      let end : ends on.phase ≡ true = ap ends e in absurd (cc)
  no_end false on none goes e = refl

  either_goes : (b : Bool) (x y : Mech S W) → ends x.phase ≡ false → ends y.phase ≡ false → ends (if b then x else y).phase ≡ false
  either_goes true x y h k = h
  either_goes false x y h k = k

  either_none : (b : Bool) (x y : Mech S W) → tells_record x.phase ≡ None → tells_record y.phase ≡ None → tells_record (if b then x else y).phase ≡ None
  either_none true x y h k = h
  either_none false x y h k = k

  -- a helper tells the record by the second of two works
  tells_second : (b : Bool) (x y : Work S W) (to : ℕ) → work_tells x ≡ None → work_tells (if b then x else y) ≡ Some to → b ≡ false
  tells_second true x y to none tells = absurd (cc)
  tells_second false x y to none tells = refl

  module _ (form : NormalForm S W) where
    tried_goes : (mech : Mech S W) → ends (tried form mech).phase ≡ false
    tried_goes mech = either_goes (may_search mech) (in_phase (Generate (form.begin_of mech.op) Search) mech) (in_phase (Announce announcing.Value) mech) refl refl

    helped_goes : (drives : Bool) (mech : Mech S W) → ends (helped form drives mech).phase ≡ false
    helped_goes true mech = refl
    helped_goes false mech = tried_goes mech

    -- helping is no end of a call
    help_goes : (drives : Bool) (help : helper.Help S W) (seen : Seen) (mech : Mech S W) → ends (help_stepped form drives help seen mech).phase ≡ false
    help_goes drives help seen mech =
        let after = with_hand (helping_hand help.at mech.hand mech.setup.cap seen) mech in
        either_goes (helping_ends form help.at help.head seen) (helped form drives after) (in_phase (Help drives (help_fed form help mech.hand mech.setup.cap seen)) after) (helped_goes drives after) refl

    pub exhausted_phase : (phase : Phase S W) (mech : Mech S W) (words : List ℕ) → asks_for_block phase ≡ true → (stepped form phase (seen_of (request_in form phase mech) words) mech).phase ≡ End Exhausted → mech.setup.cap ≤ get_or words 2 0
    exhausted_phase (Generate s LookForBlock) mech words asks e =
        let saw = load_tells 2 words in
        let past = saw_no_less (seen_of (Load 2) words).before mech.setup.cap (no_end (nat_lt (seen_of (Load 2) words).before mech.setup.cap) (in_phase (Generate s Claim) mech) (in_phase (End Exhausted) mech) refl e) in
        omega (arith, saw, past)
    exhausted_phase (Generate s Claim) mech words asks e =
        let saw = add_tells 2 1 words in
        let past = saw_no_less (seen_of (Add 2 1) words).before mech.setup.cap (no_end (nat_lt (seen_of (Add 2 1) words).before mech.setup.cap) (offered form s (with_hand (Some ((seen_of (Add 2 1) words).before + 1)) mech)) (in_phase (End Exhausted) mech) refl e) in
        omega (arith, saw, past)
    exhausted_phase (Help drives help) mech words asks e =
        let end = ap ends e in
        let goes = help_goes drives help (seen_of (request_in form (Help drives help) mech) words) mech in
        absurd (cc)
    exhausted_phase phase mech words asks e = absurd (search rules)

    -- the same of a helper's work: where it asked, it comes to an exchange of the record only past the capacity
    told_work : (drives : Bool) (head seats word : ℕ) (does : Work S W) (mech : Mech S W) (words : List ℕ) (to : ℕ) → work_asks does ≡ true
        → tells_record (help_stepped form drives (record { head = head; seats = seats; at = helping.Known word does }) (seen_of (work_request form does head word) words) mech).phase ≡ Some to → mech.setup.cap ≤ get_or words 2 0
    told_work drives head seats word (work.Generate op s LookForBlock) mech words to asks tells =
        let saw = load_tells 2 words in
        let past = saw_no_less (seen_of (Load 2) words).before mech.setup.cap (tells_second (nat_lt (seen_of (Load 2) words).before mech.setup.cap) (work.Generate op s Claim) (work.Advance (told_word word (Plain Exhausted))) to refl tells) in
        omega (arith, saw, past)
    told_work drives head seats word (work.Generate op s Claim) mech words to asks tells =
        let saw = add_tells 2 1 words in
        let seen = seen_of (Add 2 1) words in
        let past = saw_no_less seen.before mech.setup.cap (tells_second (nat_lt seen.before mech.setup.cap) (filling form op s head word (Some (seen.before + 1))) (work.Advance (told_word word (Plain Exhausted))) to refl tells) in
        omega (arith, saw, past)
    told_work drives head seats word does mech words to asks tells = absurd (search rules)

    told_help : (drives : Bool) (head seats : ℕ) (at : Helping S W) (mech : Mech S W) (words : List ℕ) (to : ℕ) → helping_asks at ≡ true
        → tells_record (help_stepped form drives (record { head = head; seats = seats; at = at }) (seen_of (helping_request form at head) words) mech).phase ≡ Some to → mech.setup.cap ≤ get_or words 2 0
    told_help drives head seats (helping.Known word does) mech words to asks tells = told_work drives head seats word does mech words to asks tells
    told_help drives head seats at mech words to asks tells = absurd (search rules)

    pub told_phase : (phase : Phase S W) (mech : Mech S W) (words : List ℕ) (to : ℕ) → asks_for_block phase ≡ true → tells_record (stepped form phase (seen_of (request_in form phase mech) words) mech).phase ≡ Some to → mech.setup.cap ≤ get_or words 2 0
    told_phase (Generate s LookForBlock) mech words to asks tells =
        let none = either_none (nat_lt (seen_of (Load 2) words).before mech.setup.cap) (in_phase (Generate s Claim) mech) (in_phase (End Exhausted) mech) refl refl in
        absurd (cc)
    told_phase (Generate s Claim) mech words to asks tells =
        let seen = seen_of (Add 2 1) words in
        let none = either_none (nat_lt seen.before mech.setup.cap) (offered form s (with_hand (Some (seen.before + 1)) mech)) (in_phase (End Exhausted) mech) refl refl in
        absurd (cc)
    told_phase (Help drives help) mech words to asks tells = told_help drives help.head help.seats help.at mech words to asks tells
    told_phase phase mech words to asks tells = absurd (search rules)
