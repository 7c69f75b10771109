-- Whose the line of a call is, and when it is written: by cases on the phases, once.
use Rattle.std.proofs.Common.{rules, arith, ◌≡◌, refl, subst, ap, ℕ, ◌+◌, Bool, true, false, if◌then◌else◌, length, None}
use Rattle.lin_report.specs.declared.calls.Receipt.{Receipt}
use Rattle.step_memory.specs.declared.steps.Seen.{Seen}
use Rattle.normal_traits.specs.NormalForm.{NormalForm}
use Rattle.fast_slow_engine.specs.declared.setup.Turn.{Turn}
use Rattle.fast_slow_engine.specs.declared.setup.Turn.TheVariants.{Going, Returned}
use Rattle.fast_slow_engine.specs.declared.phases.Phase.{Phase}
use Rattle.fast_slow_engine.specs.declared.phases.Phase.TheVariants.{Idle, Begin, Look, Generate, Apply, Wrap, Announce, Enter, Drive, Help, Collect, Value, End}
use Rattle.fast_slow_engine.specs.Mechs.{Mech}
use Rattle.fast_slow_engine.specs.PhaseTable.{mech_fed, mech_turn, pending_in, rests, turn_in}
use Rattle.fast_slow_engine.specs.Runs.{returned}
use Rattle.fast_slow_engine.specs.Lines.{CallsEnd, IsLineOf, LinesAreOwn, RestPendsNothing, returns}
use Rattle.fast_slow_engine.proofs.Ticks.{draws}

module _ {S W : Type 0} where
  own_in : (phase : Phase S W) (seen : Seen) (mech : Mech S W) (line : Receipt) → turn_in phase seen mech ≡ Returned line → IsLineOf mech line
  own_in Idle seen mech line e = absurd (search rules)
  own_in Begin seen mech line e = absurd (search rules)
  own_in Look seen mech line e = absurd (search rules)
  own_in (Generate search' at) seen mech line e = absurd (search rules)
  own_in (Apply run stores at) seen mech line e = absurd (search rules)
  own_in (Wrap wrap) seen mech line e = absurd (search rules)
  own_in (Announce at) seen mech line e = absurd (search rules)
  own_in (Enter owner) seen mech line e = absurd (search rules)
  own_in Drive seen mech line e = absurd (search rules)
  own_in (Help drives help) seen mech line e = absurd (search rules)
  own_in Collect seen mech line e = absurd (search rules)
  own_in (Value reference) seen mech line e = absurd (search rules)
  own_in (End reply) seen mech line e = subst (IsLineOf mech) (ap (line_in line) e) (record { seat = refl; number = refl; op = refl })
    where
      line_in : Receipt → Turn → Receipt
      line_in other Going = other
      line_in other (Returned r) = r

  pub lines_are_own : LinesAreOwn S W
  lines_are_own mech seen line e = own_in mech.phase seen mech line e

  none_in : (phase : Phase S W) (mech : Mech S W) → rests phase ≡ true → pending_in phase mech ≡ None
  none_in Idle mech idle = refl
  none_in Begin mech idle = refl
  none_in Look mech idle = absurd (search rules)
  none_in (Generate search' at) mech idle = absurd (search rules)
  none_in (Apply run stores at) mech idle = absurd (search rules)
  none_in (Wrap wrap) mech idle = absurd (search rules)
  none_in (Announce at) mech idle = absurd (search rules)
  none_in (Enter owner) mech idle = absurd (search rules)
  none_in Drive mech idle = absurd (search rules)
  none_in (Help drives help) mech idle = absurd (search rules)
  none_in Collect mech idle = absurd (search rules)
  none_in (Value reference) mech idle = absurd (search rules)
  none_in (End reply) mech idle = absurd (search rules)

  pub rest_pends_nothing : RestPendsNothing S W
  rest_pends_nothing mech idle = none_in mech.phase mech idle

-- of a step that leaves as many lines to write as this, which are one with those that it wrote
by_lines : (turn : Turn) (idle : Bool) → ◌≡◌ {A = ℕ} ((if idle then 0 else 1) + length (returned turn)) 1 → idle ≡ returns turn
by_lines Going true e = absurd (omega (arith, e))
by_lines Going false e = refl
by_lines (Returned line) true e = refl
by_lines (Returned line) false e = absurd (omega (arith, e))

pub calls_end : {S W : Type 0} (form : NormalForm S W) → CallsEnd form
calls_end form mech seen runs =
    by_lines (mech_turn mech seen) (rests (mech_fed form mech seen).phase)
    (subst (λ (b : Bool). ◌≡◌ {A = ℕ} ((if rests (mech_fed form mech seen).phase then 0 else 1) + length (returned (mech_turn mech seen))) (if b then 0 else 1)) runs (draws form mech.phase seen mech runs).lines)
