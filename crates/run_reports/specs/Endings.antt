-- How the calls that returned ended, over the changes of the run.
use Rattle.std.specs.Prelude.{◌≡◌, ◌≢◌, ℕ, ◌<◌, ◌≤◌, false, IsTrue, List, ◌∷◌, ◌++◌, length, slice_get, slice_index, Some, All, Contains}
use Rattle.lin_report.specs.declared.calls.Receipt.{Receipt}
use Rattle.lin_report.specs.declared.calls.Reply.TheVariants.{Exhausted}
use Rattle.lin_report.specs.Commands.{may_exhaust}
use Rattle.node_arena.specs.declared.places.TheConstants.{CLAIMS}
use Rattle.normal_traits.specs.World.{Called, Change, Listed, Won, Among, Observes, first_changes, held_after}
use Rattle.normal_traits.specs.World.Maker.{By}
use Rattle.normal_traits.specs.NormalForm.{NormalForm}
use Rattle.fast_slow_engine.specs.declared.setup.Setup.{Setup}
use Rattle.fast_slow_engine.specs.Mechs.{Mech}
use Rattle.fast_slow_engine.specs.PhaseTable.{ticks_left}
use Rattle.fast_slow_engine.specs.Runs.{Move, run_of}
use Rattle.helper_knowledge.specs.Callers.{called}
use Rattle.run_laws.specs.Drawn.{IsDrawnAt}
use Rattle.run_exchanges.specs.RunGhosts.{ghost_of, world_of}
use Rattle.run_reports.specs.Changes.{changes_at}

-- the call of a line
abbrev pub called_by : Receipt → Called
called_by r = record { seat = r.seat; number = r.number; op = r.op }

-- the change stands in front of these older ones
abbrev pub StandsOver : List Change → Change → List Change → Type 0
StandsOver changes change older = (newer : List Change) × (changes ≡ newer ++ change ∷ older)

module _ {S W : Type 0} (form : NormalForm S W) where
  -- no change of the run is that of the line's call; so it is of a call that observed or was left no block
  abbrev pub ChangedNone : Setup → List Move → Receipt → Type 0
  ChangedNone setup moves r = (change : Change) → Among change (ghost_of form setup moves).changes → change.list.call ≢ called_by r

  -- where a list of the line's call won an exchange, that entry makes no change and the list is given up; this is
  -- what holds of a call that was left no block, whatever the client
  abbrev pub WonInVain : Setup → List Move → Receipt → Type 0
  WonInVain setup moves r =
      (won : Won) (list : Listed) (j : ℕ) → Among won (ghost_of form setup moves).journal → won.maker ≡ By list j → list.call ≡ called_by r
      → (form.adds list j ≡ false) × form.dead list (world_of form setup moves)

  -- no won exchange is that of a list of the line's call; so it is of a call that was left no block, where the first
  -- entry of each list makes its change
  abbrev pub WonNone : Setup → List Move → Receipt → Type 0
  WonNone setup moves r =
      (won : Won) (list : Listed) (j : ℕ) → Among won (ghost_of form setup moves).journal → won.maker ≡ By list j → list.call ≢ called_by r

  -- the line's call made this change between its two ticks, and tells its reply
  pub record MadeChange (setup : Setup) (moves : List Move) (r : Receipt) (change : Change) (older : List Change) : Type 0 where
    pub stands : StandsOver (ghost_of form setup moves).changes change older
    pub call : change.list.call ≡ called_by r
    pub reply : change.reply ≡ r.reply
    pub begun : changes_at form setup moves r.begin ≤ length older
    pub ended : length older < changes_at form setup moves r.end

  -- it observed after some of the changes that there were between its two ticks, and made none
  pub record HasSeen (setup : Setup) (moves : List Move) (r : Receipt) : Type 0 where
    pub count : ℕ
    pub begun : changes_at form setup moves r.begin ≤ count
    pub ended : count ≤ changes_at form setup moves r.end
    pub observes : Observes form.object r.op (held_after form.object (first_changes count (ghost_of form setup moves).changes))
    pub told : r.reply ≡ (form.object.apply r.op (held_after form.object (first_changes count (ghost_of form setup moves).changes))).1
    pub unchanged : ChangedNone setup moves r

  -- no block was left for it before its seat drew its end tick, and it changed nothing
  pub record WasRefused (setup : Setup) (moves : List Move) (r : Receipt) : Type 0 where
    pub exhausted : r.reply ≡ Exhausted
    pub may : IsTrue (may_exhaust r.op)
    pub move : Move
    pub older : List Move
    pub drawn : IsDrawnAt form setup moves r.end move older
    pub own : move.seat ≡ r.seat
    pub none_left : setup.cap ≤ slice_index (run_of form setup older).words CLAIMS
    pub unchanged : ChangedNone setup moves r
    pub in_vain : WonInVain setup moves r

  -- a call that returned made a change, observed, or was left no block
  pub data HasEnded (setup : Setup) (moves : List Move) (r : Receipt) : Type 0 where
    made : (change : Change) (older : List Change) → MadeChange setup moves r change older → HasEnded setup moves r
    saw : HasSeen setup moves r → HasEnded setup moves r
    refused : WasRefused setup moves r → HasEnded setup moves r

  -- a change is that of a call that runs, or of one that returned
  pub data IsMadeBy (setup : Setup) (moves : List Move) (change : Change) (older : List Change) : Type 0 where
    runs : (seat : ℕ) (mech : Mech S W) → slice_get (run_of form setup moves).mechs seat ≡ Some mech → ticks_left mech.phase ≡ 1 → change.list.call ≡ called mech → IsMadeBy setup moves change older
    returned : (r : Receipt) → Contains (run_of form setup moves).receipts r → MadeChange setup moves r change older → IsMadeBy setup moves change older

  -- how all calls stand to all changes, in a run
  pub record CallsAccounted (setup : Setup) (moves : List Move) : Type 0 where
    pub ended : All (HasEnded setup moves) (run_of form setup moves).receipts
    pub made : (change : Change) (older : List Change) → StandsOver (ghost_of form setup moves).changes change older → IsMadeBy setup moves change older
    -- no call made two changes
    pub once : (change mate : Change) (older rest : List Change) → StandsOver (ghost_of form setup moves).changes change older → StandsOver older mate rest
        → change.list.call.seat ≡ mate.list.call.seat → ¬ (change.list.call.number ≡ mate.list.call.number)
