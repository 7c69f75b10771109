-- The ticks of a seat's calls go on, its receipts have each number once, and each call follows the answer
-- of the one before it.
use Rattle.std.proofs.Common.{arith, ◌≡◌, ◌≢◌, ◌∙◌, refl, sym, subst, ap, ℕ, ◌+◌, ◌<◌, ◌≤◌, List, [], ◌∷◌, ◌++◌, All, AllPairs, Contains}
use Rattle.std.proofs.lemmas.List.Elements.{All-append, All-cons, All-nil, All-weaker, Contains-append_left, Contains-append_right}
use Rattle.lin_report.specs.declared.calls.Receipt.{Receipt}
use Rattle.normal_traits.specs.NormalForm.{NormalForm}
use Rattle.fast_slow_engine.specs.declared.setup.Setup.{Setup}
use Rattle.fast_slow_engine.specs.Mechs.{Mech}
use Rattle.fast_slow_engine.specs.PhaseTable.{receipt_of, ticks_left}
use Rattle.fast_slow_engine.specs.Runs.{Move, RunState, AreMoves, run_of}
use Rattle.run_laws.specs.Seats.{EachMech}
use Rattle.run_laws.specs.Ticks.{KeepsTicks}
use Rattle.run_laws.proofs.Pairs.{pairs_append, pairs_nil, pairs_one}
use Rattle.run_laws.proofs.MachinesKept.{new_mech}
use Rattle.run_laws.proofs.StepKinds.{StepKind, begins, returns, goes}
use Rattle.run_laws.proofs.Summaries.{HasBegun, ran, started, Summary, each_moved, every_run, tick_of}

-- the ticks of a receipt are below the counter, the begin tick first
pub record HasEnded (tick : ℕ) (r : Receipt) : Type 0 where
  pub forward : r.begin < r.end
  pub below : r.end < tick

-- both are receipts of one call
pub record AreSame (r s : Receipt) : Type 0 where
  pub seat : r.seat ≡ s.seat
  pub number : r.number ≡ s.number

-- the call before the one of a seat with this number has its receipt, and ended before the tick
pub record Answered (receipts : List Receipt) (place number tick : ℕ) : Type 0 where
  pub before : Receipt
  pub answered : Contains receipts before
  pub seat : before.seat ≡ place
  pub number_before : before.number + 1 ≡ number
  pub ended : before.end < tick

answered_more : (receipts lines : List Receipt) (place number number' tick tick' : ℕ) → number' ≡ number → tick ≤ tick' → Answered receipts place number tick → Answered (receipts ++ lines) place number' tick'
answered_more receipts lines place number number' tick tick' same more a = record {
  before = a.before;
  answered = Contains-append_left receipts lines a.before a.answered;
  seat = a.seat;
  number_before = a.number_before ∙ sym same;
  ended = omega (arith, a.ended, more);
}

module _ {S W : Type 0} where
  -- ---- ticks

  pub record TicksGoOn (state : RunState S W) : Type 0 where
    pub ended : All (HasEnded (tick_of state)) state.receipts
    pub begun : EachMech (λ seat mech. ticks_left mech.phase ≡ 1 → mech.begin < tick_of state) state.mechs

  -- the begin tick of a call that runs was there before the move
  old_begin : (tick : ℕ) (old mech : Mech S W) → HasBegun old mech → (ticks_left old.phase ≡ 1 → old.begin < tick) → ticks_left mech.phase ≡ 1 → mech.begin < tick
  old_begin tick old mech has below one =
      elim has [
        | ran same ↦ subst (λ (m : Mech S W). m.begin < tick) (sym same) (below (subst (λ (m : Mech S W). ticks_left m.phase ≡ 1) same one))
        | started rest two number ↦ absurd (omega (arith, one, two))
      ]

  -- what the step adds
  record AddsTicks (mech new : Mech S W) (more_lines : List Receipt) (before after : ℕ) : Type 0 where
    pub more : before ≤ after
    pub lines : All (HasEnded after) more_lines
    pub begun : ticks_left new.phase ≡ 1 → new.begin < after

  adds_ticks : (mech new : Mech S W) (lines : List Receipt) (events before after : ℕ) → (ticks_left mech.phase ≡ 1 → mech.begin < before) → StepKind mech.phase mech new lines events before after → AddsTicks mech new lines before after
  adds_ticks mech new lines events before after below kind =
      elim kind [
        | begins two one begin none event word ↦ record { more = omega (arith, word); lines = subst (All (HasEnded after)) (sym none) (All-nil (HasEnded after)); begun = λ left. omega (arith, begin, word) }
        | returns reply one rest line event word ↦
            let early = below one in
            let last : HasEnded after (receipt_of mech reply before) = record { forward = early; below = omega (arith, word) } in
            record {
              more = omega (arith, word);
              lines = subst (All (HasEnded after)) (sym line) (All-cons (HasEnded after) (receipt_of mech reply before) [] last (All-nil (HasEnded after)));
              begun = λ left. absurd (omega (arith, left, rest));
            }
        | goes one still begin none event word ↦ record { more = omega (arith, word); lines = subst (All (HasEnded after)) (sym none) (All-nil (HasEnded after)); begun = λ still_one. omega (arith, begin, word, below one) }
      ]

  go_on : (state after : RunState S W) → Summary state after → TicksGoOn state → TicksGoOn after
  go_on state after h on =
      let below = old_begin (tick_of state) h.old h.mech h.begun (on.begun h.seat h.old h.at) in
      let step = adds_ticks h.mech h.new h.lines h.events (tick_of state) (tick_of after) below h.kind in
      let older = All-weaker (HasEnded (tick_of state)) (HasEnded (tick_of after)) (λ r e. record { forward = e.forward; below = omega (arith, e.below, step.more) }) state.receipts on.ended in
      record {
        ended = subst (All (HasEnded (tick_of after))) (sym h.receipts) (All-append (HasEnded (tick_of after)) state.receipts h.lines older step.lines);
        begun = each_moved (λ seat mech. ticks_left mech.phase ≡ 1 → mech.begin < tick_of state) (λ seat mech. ticks_left mech.phase ≡ 1 → mech.begin < tick_of after) state.mechs after.mechs h.seat h.old h.new h.at h.mechs on.begun
            (λ seat mech apart e one. omega (arith, e one, step.more)) step.begun;
      }

  -- ---- numbers

  -- the receipts of a seat have the numbers of its calls that have returned
  pub record IsNumbered (receipts : List Receipt) (place : ℕ) (mech : Mech S W) : Type 0 where
    pub most : All (λ r. r.seat ≡ place → r.number ≤ mech.number) receipts
    pub fewer : 0 < ticks_left mech.phase → All (λ r. r.seat ≡ place → r.number < mech.number) receipts

  pub record NumbersGoOn (state : RunState S W) : Type 0 where
    pub each : EachMech (IsNumbered state.receipts) state.mechs
    pub once : AllPairs (λ r s. ¬ AreSame r s) state.receipts

  begun_numbered : (receipts : List Receipt) (place : ℕ) (old mech : Mech S W) → HasBegun old mech → IsNumbered receipts place old → IsNumbered receipts place mech
  begun_numbered receipts place old mech has is =
      elim has [
        | ran same ↦ subst (IsNumbered receipts place) (sym same) is
        | started rest two number ↦ record {
          most = All-weaker (λ r. r.seat ≡ place → r.number ≤ old.number) (λ r. r.seat ≡ place → r.number ≤ mech.number) (λ r e here. omega (arith, e here, number)) receipts is.most;
          fewer = λ left. All-weaker (λ r. r.seat ≡ place → r.number ≤ old.number) (λ r. r.seat ≡ place → r.number < mech.number) (λ r e here. omega (arith, e here, number)) receipts is.most;
        }
      ]

  record AddsNumber (receipts : List Receipt) (place : ℕ) (mech new : Mech S W) (lines : List Receipt) : Type 0 where
    pub numbered : IsNumbered (receipts ++ lines) place new
    pub others : All (λ (r : Receipt). r.seat ≡ place) lines
    pub pairs : AllPairs (λ r s. ¬ AreSame r s) lines
    pub cross : All (λ r. All (λ s. ¬ AreSame r s) lines) receipts

  no_number : (receipts : List Receipt) (place : ℕ) (mech new : Mech S W) (lines : List Receipt) → lines ≡ [] → new.number ≡ mech.number → 0 < ticks_left mech.phase → IsNumbered receipts place mech
      → AddsNumber receipts place mech new lines
  no_number receipts place mech new lines none same left is =
      subst (AddsNumber receipts place mech new) (sym none) (record {
        numbered = record {
          most = All-append (λ r. r.seat ≡ place → r.number ≤ new.number) receipts [] (All-weaker (λ r. r.seat ≡ place → r.number ≤ mech.number) (λ r. r.seat ≡ place → r.number ≤ new.number) (λ r e here. omega (arith, e here, same)) receipts is.most) (All-nil (λ r. r.seat ≡ place → r.number ≤ new.number));
          fewer = λ some. All-append (λ r. r.seat ≡ place → r.number < new.number) receipts [] (All-weaker (λ r. r.seat ≡ place → r.number < mech.number) (λ r. r.seat ≡ place → r.number < new.number) (λ r e here. omega (arith, e here, same)) receipts (is.fewer left)) (All-nil (λ r. r.seat ≡ place → r.number < new.number));
        };
        others = All-nil (λ (r : Receipt). r.seat ≡ place);
        pairs = pairs_nil (λ r s. ¬ AreSame r s);
        cross = λ k d inside. All-nil (λ s. ¬ AreSame _ s);
      })

  one_number : (receipts : List Receipt) (place : ℕ) (mech new : Mech S W) (lines : List Receipt) (last : Receipt) → lines ≡ last ∷ [] → last.seat ≡ place → last.number ≡ mech.number → new.number ≡ mech.number
      → 0 < ticks_left mech.phase → ticks_left new.phase ≡ 0 → IsNumbered receipts place mech → AddsNumber receipts place mech new lines
  one_number receipts place mech new lines last line seat number same left rest is =
      subst (AddsNumber receipts place mech new) (sym line) (record {
        numbered = record {
          most = All-append (λ r. r.seat ≡ place → r.number ≤ new.number) receipts (last ∷ [])
              (All-weaker (λ r. r.seat ≡ place → r.number ≤ mech.number) (λ r. r.seat ≡ place → r.number ≤ new.number) (λ r e here. omega (arith, e here, same)) receipts is.most)
              (All-cons (λ r. r.seat ≡ place → r.number ≤ new.number) last [] (λ here. omega (arith, number, same)) (All-nil (λ r. r.seat ≡ place → r.number ≤ new.number)));
          fewer = λ some. absurd (omega (arith, some, rest));
        };
        others = All-cons (λ (r : Receipt). r.seat ≡ place) last [] seat (All-nil (λ (r : Receipt). r.seat ≡ place));
        pairs = pairs_one (λ r s. ¬ AreSame r s) last;
        cross = All-weaker (λ r. r.seat ≡ place → r.number < mech.number) (λ r. All (λ s. ¬ AreSame r s) (last ∷ []))
            (λ r e. All-cons (λ s. ¬ AreSame r s) last [] (λ alike. omega (arith, e (alike.seat ∙ seat), alike.number, number)) (All-nil (λ s. ¬ AreSame r s))) receipts (is.fewer left);
      })

  adds_number : (receipts : List Receipt) (place : ℕ) (mech new : Mech S W) (lines : List Receipt) (events before after : ℕ) → mech.seat ≡ place → new.number ≡ mech.number → IsNumbered receipts place mech
      → StepKind mech.phase mech new lines events before after → AddsNumber receipts place mech new lines
  adds_number receipts place mech new lines events before after seat same is kind =
      elim kind [
        | begins two one begin none event word ↦ no_number receipts place mech new lines none same (omega (arith, two)) is
        | returns reply one rest line event word ↦ one_number receipts place mech new lines (receipt_of mech reply before) line seat refl same (omega (arith, one)) rest is
        | goes one still begin none event word ↦ no_number receipts place mech new lines none same (omega (arith, one)) is
      ]

  beside_numbered : (receipts lines : List Receipt) (i place : ℕ) (mech : Mech S W) → place ≢ i → All (λ (r : Receipt). r.seat ≡ i) lines → IsNumbered receipts place mech → IsNumbered (receipts ++ lines) place mech
  beside_numbered receipts lines i place mech apart others is = record {
    most = All-append (λ r. r.seat ≡ place → r.number ≤ mech.number) receipts lines is.most (All-weaker (λ (r : Receipt). r.seat ≡ i) (λ r. r.seat ≡ place → r.number ≤ mech.number) (λ r e here. absurd (apart (sym here ∙ e))) lines others);
    fewer = λ left. All-append (λ r. r.seat ≡ place → r.number < mech.number) receipts lines (is.fewer left) (All-weaker (λ (r : Receipt). r.seat ≡ i) (λ r. r.seat ≡ place → r.number < mech.number) (λ r e here. absurd (apart (sym here ∙ e))) lines others);
  }

  numbers_more : (state after : RunState S W) → Summary state after → NumbersGoOn state → NumbersGoOn after
  numbers_more state after h on =
      let is = begun_numbered state.receipts h.seat h.old h.mech h.begun (on.each h.seat h.old h.at) in
      let step = adds_number state.receipts h.seat h.mech h.new h.lines h.events (tick_of state) (tick_of after) h.own h.same.number is h.kind in
      let each = each_moved (IsNumbered state.receipts) (IsNumbered (state.receipts ++ h.lines)) state.mechs after.mechs h.seat h.old h.new h.at h.mechs on.each
      (λ seat mech apart e. beside_numbered state.receipts h.lines h.seat seat mech apart step.others e) step.numbered in
      record {
        each = subst (λ l. EachMech (IsNumbered l) after.mechs) (sym h.receipts) each;
        once = subst (AllPairs (λ r s. ¬ AreSame r s)) (sym h.receipts) (pairs_append (λ r s. ¬ AreSame r s) state.receipts h.lines on.once step.pairs step.cross);
      }

  -- ---- turns

  -- the last answer of a seat: of the call before the one that runs, or of the last one
  pub record HasLast (receipts : List Receipt) (tick place : ℕ) (mech : Mech S W) : Type 0 where
    pub resting : ticks_left mech.phase ≡ 0 → 0 < mech.number → Answered receipts place (mech.number + 1) tick
    pub beginning : ticks_left mech.phase ≡ 2 → 1 < mech.number → Answered receipts place mech.number tick
    pub running : ticks_left mech.phase ≡ 1 → 1 < mech.number → Answered receipts place mech.number mech.begin

  pub record TurnsGoOn (state : RunState S W) : Type 0 where
    pub each : EachMech (HasLast state.receipts (tick_of state)) state.mechs
    pub in_turn : All (λ r. 1 < r.number → Answered state.receipts r.seat r.number r.begin) state.receipts

  begun_last : (receipts : List Receipt) (tick place : ℕ) (old mech : Mech S W) → HasBegun old mech → HasLast receipts tick place old → HasLast receipts tick place mech
  begun_last receipts tick place old mech has last =
      elim has [
        | ran same ↦ subst (HasLast receipts tick place) (sym same) last
        | started rest two number ↦ record {
          resting = λ none. absurd (omega (arith, none, two));
          beginning = λ left more. subst (λ n. Answered receipts place n tick) (sym number) (last.resting rest (omega (arith, number, more)));
          running = λ one. absurd (omega (arith, one, two));
        }
      ]

  record AddsTurn (receipts : List Receipt) (place after : ℕ) (new : Mech S W) (lines : List Receipt) : Type 0 where
    pub last : HasLast (receipts ++ lines) after place new
    pub turn : All (λ r. 1 < r.number → Answered (receipts ++ lines) r.seat r.number r.begin) lines

  no_turn : (receipts : List Receipt) (place after : ℕ) (new : Mech S W) (lines : List Receipt) → lines ≡ [] → HasLast (receipts ++ []) after place new → AddsTurn receipts place after new lines
  no_turn receipts place after new lines none last =
      subst (AddsTurn receipts place after new) (sym none) (record { last = last; turn = All-nil (λ r. 1 < r.number → Answered (receipts ++ []) r.seat r.number r.begin) })

  one_turn : (receipts : List Receipt) (place before after : ℕ) (mech new : Mech S W) (lines : List Receipt) (last : Receipt) → lines ≡ last ∷ [] → last.seat ≡ place → last.number ≡ mech.number → last.begin ≡ mech.begin → last.end ≡ before
      → after ≡ before + 1 → new.number ≡ mech.number → ticks_left new.phase ≡ 0 → (1 < mech.number → Answered receipts place mech.number mech.begin) → AddsTurn receipts place after new lines
  one_turn receipts place before after mech new lines last line seat number begin end word same rest answered =
      subst (AddsTurn receipts place after new) (sym line) (record {
        last = record {
          resting = λ none some. record {
            before = last;
            answered = Contains-append_right receipts (last ∷ []) last (0, omega arith, refl);
            seat = seat;
            number_before = omega (arith, number, same);
            ended = omega (arith, end, word);
          };
          beginning = λ two. absurd (omega (arith, two, rest));
          running = λ one. absurd (omega (arith, one, rest));
        };
        turn = All-cons (λ r. 1 < r.number → Answered (receipts ++ last ∷ []) r.seat r.number r.begin) last []
            (λ more. subst (λ p. Answered (receipts ++ last ∷ []) p last.number last.begin) (sym seat) (answered_more receipts (last ∷ []) place mech.number last.number mech.begin last.begin number (omega (arith, begin)) (answered (omega (arith, more, number)))))
            (All-nil (λ r. 1 < r.number → Answered (receipts ++ last ∷ []) r.seat r.number r.begin));
      })

  adds_turn : (receipts : List Receipt) (place : ℕ) (mech new : Mech S W) (lines : List Receipt) (events before after : ℕ) → mech.seat ≡ place → new.number ≡ mech.number → HasLast receipts before place mech
      → StepKind mech.phase mech new lines events before after → AddsTurn receipts place after new lines
  adds_turn receipts place mech new lines events before after seat same last kind =
      elim kind [
        | begins two one begin none event word ↦ no_turn receipts place after new lines none (record {
          resting = λ rest. absurd (omega (arith, rest, one));
          beginning = λ left. absurd (omega (arith, left, one));
          running = λ left more. answered_more receipts [] place mech.number new.number before new.begin same (omega (arith, begin)) (last.beginning two (omega (arith, more, same)));
        })
        | returns reply one rest line event word ↦ one_turn receipts place before after mech new lines (receipt_of mech reply before) line seat refl refl refl word same rest (last.running one)
        | goes one still begin none event word ↦ no_turn receipts place after new lines none (record {
          resting = λ rest. absurd (omega (arith, rest, still));
          beginning = λ left. absurd (omega (arith, left, still));
          running = λ left more. answered_more receipts [] place mech.number new.number mech.begin new.begin same (omega (arith, begin)) (last.running one (omega (arith, more, same)));
        })
      ]

  last_more : (receipts lines : List Receipt) (tick tick' place : ℕ) (mech : Mech S W) → tick ≤ tick' → HasLast receipts tick place mech → HasLast (receipts ++ lines) tick' place mech
  last_more receipts lines tick tick' place mech more last = record {
    resting = λ rest some. answered_more receipts lines place (mech.number + 1) (mech.number + 1) tick tick' refl more (last.resting rest some);
    beginning = λ two some. answered_more receipts lines place mech.number mech.number tick tick' refl more (last.beginning two some);
    running = λ one some. answered_more receipts lines place mech.number mech.number mech.begin mech.begin refl (omega arith) (last.running one some);
  }

  tick_rises : (mech new : Mech S W) (lines : List Receipt) (events before after : ℕ) → StepKind mech.phase mech new lines events before after → before ≤ after
  tick_rises mech new lines events before after kind =
      elim kind [
        | begins two one begin none event word ↦ omega (arith, word)
        | returns reply one rest line event word ↦ omega (arith, word)
        | goes one still begin none event word ↦ omega (arith, word)
      ]

  turns_more : (state after : RunState S W) → Summary state after → TurnsGoOn state → TurnsGoOn after
  turns_more state after h on =
      let rises = tick_rises h.mech h.new h.lines h.events (tick_of state) (tick_of after) h.kind in
      let last = begun_last state.receipts (tick_of state) h.seat h.old h.mech h.begun (on.each h.seat h.old h.at) in
      let step = adds_turn state.receipts h.seat h.mech h.new h.lines h.events (tick_of state) (tick_of after) h.own h.same.number last h.kind in
      let each = each_moved (HasLast state.receipts (tick_of state)) (HasLast (state.receipts ++ h.lines) (tick_of after)) state.mechs after.mechs h.seat h.old h.new h.at h.mechs on.each
      (λ seat mech apart e. last_more state.receipts h.lines (tick_of state) (tick_of after) seat mech rises e) step.last in
      let older = All-weaker (λ r. 1 < r.number → Answered state.receipts r.seat r.number r.begin) (λ r. 1 < r.number → Answered (state.receipts ++ h.lines) r.seat r.number r.begin)
      (λ r e more. answered_more state.receipts h.lines r.seat r.number r.number r.begin r.begin refl (omega arith) (e more)) state.receipts on.in_turn in
      record {
        each = subst (λ l. EachMech (HasLast l (tick_of after)) after.mechs) (sym h.receipts) each;
        in_turn = subst (λ l. All (λ r. 1 < r.number → Answered l r.seat r.number r.begin) l) (sym h.receipts)
            (All-append (λ r. 1 < r.number → Answered (state.receipts ++ h.lines) r.seat r.number r.begin) state.receipts h.lines older step.turn);
      }

  module _ (form : NormalForm S W) where
    go_on_open : (setup : Setup) → TicksGoOn (run_of form setup [])
    go_on_open setup = record {
      ended = All-nil (HasEnded (tick_of (run_of form setup [])));
      begun = λ seat mech at. subst (λ (m : Mech S W). ticks_left m.phase ≡ 1 → m.begin < tick_of (run_of form setup [])) (sym (new_mech form setup seat mech at)) (λ one. absurd (omega (arith, one)));
    }

    numbers_open : (setup : Setup) → NumbersGoOn (run_of form setup [])
    numbers_open setup = record {
      each = λ seat mech at. record { most = All-nil (λ r. r.seat ≡ seat → r.number ≤ mech.number); fewer = λ left. All-nil (λ r. r.seat ≡ seat → r.number < mech.number) };
      once = pairs_nil (λ r s. ¬ AreSame r s);
    }

    new_last : (tick place : ℕ) (mech : Mech S W) → ticks_left mech.phase ≡ 0 → mech.number ≡ 0 → HasLast [] tick place mech
    new_last tick place mech rest none = record {
      resting = λ left some. absurd (omega (arith, some, none));
      beginning = λ two. absurd (omega (arith, two, rest));
      running = λ one. absurd (omega (arith, one, rest));
    }

    turns_open : (setup : Setup) → TurnsGoOn (run_of form setup [])
    turns_open setup = record {
      each = λ seat mech at. let is = new_mech form setup seat mech at in new_last (tick_of (run_of form setup [])) seat mech (ap (λ (m : Mech S W). ticks_left m.phase) is) (ap (λ (m : Mech S W). m.number) is);
      in_turn = All-nil (λ r. 1 < r.number → Answered [] r.seat r.number r.begin);
    }

    pub ticks_go_on : (setup : Setup) (moves : List Move) → AreMoves form setup moves → KeepsTicks form setup moves → TicksGoOn (run_of form setup moves)
    ticks_go_on = every_run form TicksGoOn go_on_open go_on

    pub numbers_go_on : (setup : Setup) (moves : List Move) → AreMoves form setup moves → KeepsTicks form setup moves → NumbersGoOn (run_of form setup moves)
    numbers_go_on = every_run form NumbersGoOn numbers_open numbers_more

    pub turns_go_on : (setup : Setup) (moves : List Move) → AreMoves form setup moves → KeepsTicks form setup moves → TurnsGoOn (run_of form setup moves)
    turns_go_on = every_run form TurnsGoOn turns_open turns_more
