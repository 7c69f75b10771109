-- What a helper knows after its step: of its work, where it loads the record, and where helping ends.
use Rattle.std.proofs.Common.{◌≡◌, ◌∙◌, refl, sym, subst, ap, ℕ, ◌≤◌, if◌then◌else◌, Bool, true, false, length, Option}
use Rattle.lin_report.specs.Object.{IsCommandOf}
use Rattle.step_memory.specs.declared.steps.Seen.{Seen}
use Rattle.word_fields.specs.Records.{record_phase}
use Rattle.node_arena.specs.MemoryMap.{record_place}
use Rattle.help_queue.specs.Gathers.{is_open}
use Rattle.help_queue.specs.Removes.{Removal}
use Rattle.normal_traits.specs.declared.form.Found.{Found}
use Rattle.normal_traits.specs.declared.form.Found.TheVariants as found
use Rattle.normal_traits.specs.World.{World}
use Rattle.normal_traits.specs.NormalForm.{NormalForm}
use Rattle.normal_traits.specs.Laws.{Laws}
use Rattle.fast_slow_engine.specs.declared.phases.Phase.TheVariants.{Help}
use Rattle.fast_slow_engine.specs.declared.phases.Generating.TheVariants.{Search, LookForBlock, Claim}
use Rattle.fast_slow_engine.specs.declared.help.Help as helper
use Rattle.fast_slow_engine.specs.declared.help.Helping.{Helping}
use Rattle.fast_slow_engine.specs.declared.help.Helping.TheVariants.{Record, Known, Remove}
use Rattle.fast_slow_engine.specs.declared.help.Work.{Work}
use Rattle.fast_slow_engine.specs.declared.help.Work.TheVariants as work
use Rattle.fast_slow_engine.specs.declared.help.WorkTurn.{WorkTurn}
use Rattle.fast_slow_engine.specs.declared.help.WorkTurn.TheVariants.{Going, Again, Over}
use Rattle.fast_slow_engine.specs.HelpTable.{CanWork, contended, help_fed, helping_ends, helping_fed, helping_hand, is_over, work_fed, work_hand, work_turn, worked}
use Rattle.fast_slow_engine.specs.Mechs.{Mech}
use Rattle.fast_slow_engine.specs.PhaseTable.{help_stepped, helped, in_phase, with_hand}
use Rattle.offered_blocks.specs.Blocks.{Offer}
use Rattle.offered_blocks.specs.Holds.{HasOffers}
use Rattle.helper_knowledge.specs.Callers.{Caller}
use Rattle.helper_knowledge.specs.Carried.{Carried}
use Rattle.helper_knowledge.specs.HelperStep.{HandIsSpare, RestsOn, Steps, UsedSmall}
use Rattle.helper_knowledge.specs.WorkKnown.{KnowsWork, NamedBy}
use Rattle.helper_knowledge.proofs.LawsOfHelpers.{work_goes_on}
use Rattle.run_world.specs.Ghosts.{Held}
use Rattle.run_world.specs.SeatSteps.{held_in, helps_on}
use Rattle.step_knowledge.specs.Known.{KnowsHelp, KnowsIn}
use Rattle.step_knowledge.specs.Moves.{HelpSteps, RestsHelp, WorkSteps}
use Rattle.step_knowledge.proofs.Goes.Ready.{can_work, still_can}
use Rattle.step_knowledge.proofs.Goes.Searches.{seat_with, tried_knows}

module _ {S W : Type 0} (form : NormalForm S W) where
  over_not : {A : Type 0} (what : Found) → is_over form (contended form what) ≡ true → A
  over_not found.Going e = absurd cc
  over_not found.Ready e = absurd cc
  over_not (found.Answer outcome) e = absurd cc
  over_not found.Contended e = absurd cc

  -- helping doesn't end in a search
  pub ends_off : (at : Helping S W) (head : ℕ) (seen : Seen) → helping_ends form at head seen ≡ true → helps_on at ≡ false
  ends_off (Record known) head seen ends = refl
  ends_off (Remove removal) head seen ends = refl
  ends_off (Known word work.Head) head seen ends = refl
  ends_off (Known word work.Op) head seen ends = refl
  ends_off (Known word (work.Value op)) head seen ends = refl
  ends_off (Known word (work.Generate op s Search)) head seen ends = over_not (form.found_of s seen) ends
  ends_off (Known word (work.Generate op s LookForBlock)) head seen ends = absurd cc
  ends_off (Known word (work.Generate op s Claim)) head seen ends = absurd cc
  ends_off (Known word (work.Fill stores made)) head seen ends = refl
  ends_off (Known word (work.Advance to)) head seen ends = refl
  ends_off (Known word (work.Read read)) head seen ends = refl
  ends_off (Known word (work.Execute run)) head seen ends = refl
  ends_off (Known word (work.Wrap wrap)) head seen ends = refl

  module _ (laws : Laws form) (world after : World) (offers offers' : ℕ → Option (Offer S)) (callers : ℕ → Caller) (holds : HasOffers form world offers) (holds' : HasOffers form after offers') (small : UsedSmall after)
      (mech : Mech S W) (head : ℕ) (own own' : Carried S) (identity : ℕ) (seen : Seen) (spare : HandIsSpare world offers mech.hand) where
    abbrev KnowsAfter : Option ℕ → Helping S W → Type 0
    KnowsAfter hand at = KnowsHelp form after offers' (callers head) head hand own' at

    -- the record was loaded
    met_knows : (b : Bool) (word : ℕ) (hand : Option ℕ) (removal : Removal) → (b ≡ true → NamedBy form after offers' (record_phase word) head word × (1 ≤ (callers head).number)) → KnowsAfter hand (if b then Known word work.Head else Remove removal)
    met_knows true word hand removal named = (let is = named refl in (tt, is.0, is.1))
    met_knows false word hand removal named = tt

    record_knows : (hand : Option ℕ) (removal : Removal) → (is_open (record_phase (world.words (record_place head))) ≡ true → NamedBy form world offers (record_phase (world.words (record_place head))) head (world.words (record_place head)) × (1 ≤ (callers head).number))
        → after ≡ world → offers' ≡ offers → seen.before ≡ world.words (record_place head) → KnowsAfter hand (if is_open (record_phase seen.before) then Known seen.before work.Head else Remove removal)
    record_knows hand removal named same kept saw =
        met_knows (is_open (record_phase seen.before)) seen.before hand removal
        (λ opened.
        let is = subst (λ r. is_open (record_phase r) ≡ true → NamedBy form world offers (record_phase r) head r × (1 ≤ (callers head).number)) (sym saw) named opened in (
          subst (λ (w : World). NamedBy form w offers' (record_phase seen.before) head seen.before) (sym same)
              (subst (λ (o : ℕ → Option (Offer S)). NamedBy form world o (record_phase seen.before) head seen.before) (sym kept)
              is.0),
          is.1,
        ))

    -- a step of its work
    plain_knows : (word : ℕ) (does : Work S W) → RestsOn form world offers head (callers head) → CanWork form does → KnowsWork form world offers (callers head) head word mech.hand own does → 1 ≤ (callers head).number
        → (offers' ≡ offers) × Steps form world after offers head word mech.hand own own' identity mech.setup.cap seen does → is_over form (work_turn form does head word seen) ≡ false
        → KnowsAfter (work_hand does mech.hand mech.setup.cap seen) (worked form (work_turn form does head word seen) word (work_fed form does head word mech.hand mech.setup.cap seen))
    plain_knows word does rests can knows some is on = by_turn (work_turn form does head word seen) refl on
      where
        by_turn : (turn : WorkTurn) → work_turn form does head word seen ≡ turn → is_over form turn ≡ false
            → KnowsAfter (work_hand does mech.hand mech.setup.cap seen) (worked form turn word (work_fed form does head word mech.hand mech.setup.cap seen))
        by_turn Going going on' =
            let next = work_fed form does head word mech.hand mech.setup.cap seen in
            let hand' = work_hand does mech.hand mech.setup.cap seen in
            let known : KnowsWork form after offers' (callers head) head word hand' own' next =
            subst (λ (o : ℕ → Option (Offer S)). KnowsWork form after o (callers head) head word hand' own' next) (sym is.0)
            (work_goes_on form laws world after offers (callers head) head word mech.hand own own' identity mech.setup.cap seen does rests spare small can is.1 going knows) in
            (can_work form after offers' holds' (callers head) head word hand' own' next (still_can form head word mech.hand mech.setup.cap seen world offers holds (callers head) own does can going knows) known, known, some)
        by_turn Again going on' = tt
        by_turn Over going on' = absurd cc

    work_knows : (word : ℕ) (does : Work S W) → RestsOn form world offers head (callers head) → CanWork form does × KnowsWork form world offers (callers head) head word mech.hand own does × (1 ≤ (callers head).number)
        → WorkSteps form world after offers offers' does head word mech own own' identity seen → is_over form (work_turn form does head word seen) ≡ false
        → KnowsAfter (work_hand does mech.hand mech.setup.cap seen) (worked form (work_turn form does head word seen) word (work_fed form does head word mech.hand mech.setup.cap seen))
    work_knows word work.Head rests knows is on = plain_knows word work.Head rests knows.0 knows.1 knows.2 is on
    work_knows word work.Op rests knows is on = plain_knows word work.Op rests knows.0 knows.1 knows.2 is on
    work_knows word (work.Value op) rests knows is on = plain_knows word (work.Value op) rests knows.0 knows.1 knows.2 is on
    work_knows word (work.Generate op s at) rests knows is on = plain_knows word (work.Generate op s at) rests knows.0 knows.1 knows.2 is on
    work_knows word (work.Fill stores made) rests knows is on = plain_knows word (work.Fill stores made) rests knows.0 knows.1 knows.2 is on
    work_knows word (work.Advance to) rests knows is on = tt
    work_knows word (work.Read read) rests knows is on = plain_knows word (work.Read read) rests knows.0 knows.1 knows.2 is on
    work_knows word (work.Execute run) rests knows is on = plain_knows word (work.Execute run) rests knows.0 knows.1 knows.2 is on
    work_knows word (work.Wrap wrap) rests knows is on = plain_knows word (work.Wrap wrap) rests knows.0 knows.1 knows.2 is on

    fed_knows : (at : Helping S W) (seats : ℕ) → RestsHelp form world offers callers at head mech.hand own.filled → KnowsHelp form world offers (callers head) head mech.hand own at
        → HelpSteps form world after offers offers' at head mech own own' identity seen → helping_ends form at head seen ≡ false
        → KnowsAfter (helping_hand at mech.hand mech.setup.cap seen) (helping_fed form at head seats mech.hand mech.setup.cap seen)
    fed_knows (Record known) seats rests knows is on = record_knows mech.hand _ rests is.0 is.1 is.2
    fed_knows (Known word does) seats rests knows is on = work_knows word does rests.0 knows is on
    fed_knows (Remove removal) seats rests knows is on = tt

    -- ---- the machine

    helped_knows : (drives : Bool) (mech' : Mech S W) (begun : ℕ) (held : Option (Held S)) (filled : Option (Offer S)) → IsCommandOf form.object mech'.op
        → (let new = helped form drives mech' in KnowsIn form new.phase new (seat_with begun (held_in new.phase held) (length after.changes) filled) after offers' callers)
    helped_knows true mech' begun held filled command = tt
    helped_knows false mech' begun held filled command = tried_knows form after offers' callers begun filled laws holds'.shape held mech' command

    stepped_knows : (ends : Bool) (drives : Bool) (help : helper.Help S W) (mech' : Mech S W) (begun since : ℕ) (held : Option (Held S)) → IsCommandOf form.object mech'.op
        → (ends ≡ true → since ≡ length after.changes) → (ends ≡ false → KnowsHelp form after offers' (callers help.head) help.head mech'.hand (record { since = since; filled = own'.filled }) help.at)
        → (let new = if ends then helped form drives mech' else in_phase (Help drives help) mech' in KnowsIn form new.phase new (seat_with begun (held_in new.phase held) since own'.filled) after offers' callers)
    stepped_knows true drives help mech' begun since held command over goes =
        let new = helped form drives mech' in
        subst (λ s. KnowsIn form new.phase new (seat_with begun (held_in new.phase held) s own'.filled) after offers' callers) (sym (over refl)) (helped_knows drives mech' begun held own'.filled command)
    stepped_knows false drives help mech' begun since held command over goes = goes refl

    pub help_knows : (drives : Bool) (seats : ℕ) (at : Helping S W) (begun : ℕ) (held : Option (Held S)) → IsCommandOf form.object mech.op → own'.since ≡ (if helps_on at then own.since else length after.changes)
        → RestsHelp form world offers callers at head mech.hand own.filled → KnowsHelp form world offers (callers head) head mech.hand own at → HelpSteps form world after offers offers' at head mech own own' identity seen
        → (let new = help_stepped form drives (record { head = head; seats = seats; at = at }) seen mech in KnowsIn form new.phase new (seat_with begun (held_in new.phase held) own'.since own'.filled) after offers' callers)
    help_knows drives seats at begun held command since rests knows is =
        let help : helper.Help S W = record { head = head; seats = seats; at = at } in
        stepped_knows (helping_ends form at head seen) drives (help_fed form help mech.hand mech.setup.cap seen) (with_hand (helping_hand at mech.hand mech.setup.cap seen) mech) begun own'.since held command
        (λ over. since ∙ ap (λ b. if b then own.since else length after.changes) (ends_off at head seen over)) (λ on. fed_knows at seats rests knows is on)
