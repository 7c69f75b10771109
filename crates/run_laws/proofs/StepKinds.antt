-- A step draws the begin tick, draws the end tick and returns, or goes on.
use Rattle.std.proofs.Common.{rules, arith, ◌≡◌, ◌≢◌, ◌∙◌, refl, ap, ℕ, ◌+◌, ◌<◌, ◌^◌, true, false, List, [], ◌∷◌, length, get_or, Some, None}
use Rattle.std.proofs.Math.Nat.{mod-eq_of_lt}
use Rattle.std.specs.Option.{option_to_list}
use Rattle.lin_report.specs.declared.calls.Reply.{Reply}
use Rattle.lin_report.specs.declared.calls.Receipt.{Receipt}
use Rattle.step_memory.specs.declared.steps.Request.TheVariants.{Add}
use Rattle.step_memory.specs.Step.{seen_of, words_after}
use Rattle.step_memory.proofs.Words.{add_tells, word_at_place}
use Rattle.node_arena.specs.declared.places.TheConstants.{TICKS}
use Rattle.normal_traits.specs.NormalForm.{NormalForm}
use Rattle.fast_slow_engine.specs.declared.phases.Phase.{Phase}
use Rattle.fast_slow_engine.specs.declared.phases.Phase.TheVariants.{Idle, Begin, Look, Generate, Apply, Wrap, Announce, Enter, Drive, Help, Collect, Value, End}
use Rattle.fast_slow_engine.specs.Mechs.{Mech}
use Rattle.fast_slow_engine.specs.PhaseTable.{pending_call, pending_in, receipt_of, request_in, rests, event_in, stepped, ticks_left, turn_in}
use Rattle.fast_slow_engine.specs.Runs.{returned}
use Rattle.fast_slow_engine.proofs.Ticks.{draws}
use Rattle.run_laws.specs.Ticks.{LeavesWord, draws_tick}
use Rattle.run_laws.proofs.Begins.{begin_stays}

-- an addition of one to the tick counter
drawn : (words : List ℕ) → 0 < length words → get_or words 0 0 + 1 < 2 ^ 64 → get_or (words_after (Add 0 1) words) 0 0 ≡ get_or words 0 0 + 1
drawn words inside room = word_at_place (Add 0 1) words inside ∙ mod-eq_of_lt room

module _ {S W : Type 0} where
  -- what a step of a machine in a phase comes to: the machine after it, the lines that it writes, how many
  -- events it is, and the tick counter before and after
  pub data StepKind (phase : Phase S W) (old new : Mech S W) (lines : List Receipt) (events before after : ℕ) : Type 0 where
    begins : ticks_left phase ≡ 2 → ticks_left new.phase ≡ 1 → new.begin ≡ before → lines ≡ [] → events ≡ 1 → after ≡ before + 1 → StepKind phase old new lines events before after
    returns : (reply : Reply) → ticks_left phase ≡ 1 → ticks_left new.phase ≡ 0 → lines ≡ receipt_of old reply before ∷ [] → events ≡ 1 → after ≡ before + 1 → StepKind phase old new lines events before after
    goes : ticks_left phase ≡ 1 → ticks_left new.phase ≡ 1 → new.begin ≡ old.begin → lines ≡ [] → events ≡ 0 → after ≡ before → StepKind phase old new lines events before after

  -- a machine rests where its call has no tick left
  pub rests_none : (phase : Phase S W) → rests phase ≡ true → ticks_left phase ≡ 0
  rests_none Idle free = refl
  rests_none Begin free = absurd (search rules)
  rests_none Look free = absurd (search rules)
  rests_none (Generate s at) free = absurd (search rules)
  rests_none (Apply run stores at) free = absurd (search rules)
  rests_none (Wrap w) free = absurd (search rules)
  rests_none (Announce at) free = absurd (search rules)
  rests_none (Enter owner) free = absurd (search rules)
  rests_none Drive free = absurd (search rules)
  rests_none (Help drives help) free = absurd (search rules)
  rests_none Collect free = absurd (search rules)
  rests_none (Value reference) free = absurd (search rules)
  rests_none (End reply) free = absurd (search rules)

  -- a call is pending where it has one tick left
  pub pending_open : (phase : Phase S W) (mech : Mech S W) → ticks_left phase ≡ 1 → pending_in phase mech ≡ Some (pending_call mech)
  pending_open Idle mech one = absurd (omega (arith, one))
  pending_open Begin mech one = absurd (omega (arith, one))
  pending_open Look mech one = refl
  pending_open (Generate s at) mech one = refl
  pending_open (Apply run stores at) mech one = refl
  pending_open (Wrap w) mech one = refl
  pending_open (Announce at) mech one = refl
  pending_open (Enter owner) mech one = refl
  pending_open Drive mech one = refl
  pending_open (Help drives help) mech one = refl
  pending_open Collect mech one = refl
  pending_open (Value reference) mech one = refl
  pending_open (End reply) mech one = refl

  pub pending_none : (phase : Phase S W) (mech : Mech S W) → ticks_left phase ≢ 1 → pending_in phase mech ≡ None
  pending_none Idle mech other = refl
  pending_none Begin mech other = refl
  pending_none Look mech other = absurd (other refl)
  pending_none (Generate s at) mech other = absurd (other refl)
  pending_none (Apply run stores at) mech other = absurd (other refl)
  pending_none (Wrap w) mech other = absurd (other refl)
  pending_none (Announce at) mech other = absurd (other refl)
  pending_none (Enter owner) mech other = absurd (other refl)
  pending_none Drive mech other = absurd (other refl)
  pending_none (Help drives help) mech other = absurd (other refl)
  pending_none Collect mech other = absurd (other refl)
  pending_none (Value reference) mech other = absurd (other refl)
  pending_none (End reply) mech other = absurd (other refl)

  module _ (form : NormalForm S W) where
    -- a step that draws no tick
    quiet : (phase : Phase S W) (mech : Mech S W) (words : List ℕ) → ticks_left phase ≡ 1 → draws_tick phase ≡ false
        → event_in phase mech ≡ None → returned (turn_in phase (seen_of (request_in form phase mech) words) mech) ≡ []
        → rests phase ≡ false → LeavesWord TICKS (request_in form phase mech) words
        → StepKind phase mech (stepped form phase (seen_of (request_in form phase mech) words) mech) (returned (turn_in phase (seen_of (request_in form phase mech) words) mech)) (length (option_to_list (event_in phase mech))) (get_or words 0 0) (get_or (words_after (request_in form phase mech) words) 0 0)
    quiet phase mech words one silent none ends runs leaves =
        let seen = seen_of (request_in form phase mech) words in
        let events : length (option_to_list (event_in phase mech)) ≡ 0 = ap (λ e. length (option_to_list e)) none in
        let left = (draws form phase seen mech runs).ticks in
        goes one (omega (arith, left, events, one)) (begin_stays form phase seen mech silent) ends events leaves

    pub kind_of : (phase : Phase S W) (mech : Mech S W) (words : List ℕ) → rests phase ≡ false → (draws_tick phase ≡ false → LeavesWord TICKS (request_in form phase mech) words)
        → 0 < length words → get_or words 0 0 + 1 < 2 ^ 64
        → StepKind phase mech (stepped form phase (seen_of (request_in form phase mech) words) mech) (returned (turn_in phase (seen_of (request_in form phase mech) words) mech)) (length (option_to_list (event_in phase mech))) (get_or words 0 0) (get_or (words_after (request_in form phase mech) words) 0 0)
    kind_of Idle mech words runs leaves inside room = absurd (search rules)
    kind_of Begin mech words runs leaves inside room = begins refl refl (add_tells 0 1 words) refl refl (drawn words inside room)
    kind_of Look mech words runs leaves inside room = quiet Look mech words refl refl refl refl refl (leaves refl)
    kind_of (Generate s at) mech words runs leaves inside room = quiet (Generate s at) mech words refl refl refl refl refl (leaves refl)
    kind_of (Apply run stores at) mech words runs leaves inside room = quiet (Apply run stores at) mech words refl refl refl refl refl (leaves refl)
    kind_of (Wrap w) mech words runs leaves inside room = quiet (Wrap w) mech words refl refl refl refl refl (leaves refl)
    kind_of (Announce at) mech words runs leaves inside room = quiet (Announce at) mech words refl refl refl refl refl (leaves refl)
    kind_of (Enter owner) mech words runs leaves inside room = quiet (Enter owner) mech words refl refl refl refl refl (leaves refl)
    kind_of Drive mech words runs leaves inside room = quiet Drive mech words refl refl refl refl refl (leaves refl)
    kind_of (Help drives help) mech words runs leaves inside room = quiet (Help drives help) mech words refl refl refl refl refl (leaves refl)
    kind_of Collect mech words runs leaves inside room = quiet Collect mech words refl refl refl refl refl (leaves refl)
    kind_of (Value reference) mech words runs leaves inside room = quiet (Value reference) mech words refl refl refl refl refl (leaves refl)
    kind_of (End reply) mech words runs leaves inside room =
        returns reply refl refl (ap (λ tick. receipt_of mech reply tick ∷ []) (add_tells 0 1 words)) refl (drawn words inside room)
