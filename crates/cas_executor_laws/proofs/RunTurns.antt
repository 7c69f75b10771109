-- What a step of a run does to each entry of its block.
use Rattle.std.proofs.Common.{◌≡◌, ◌≢◌, ◌∙◌, refl, sym, ℕ, ◌+◌, ◌<◌, Bool, true, false, ◌⊎◌, inl, inr, List, length, Some, arith}
use Rattle.step_memory.specs.declared.steps.Seen.{Seen}
use Rattle.step_memory.specs.Step.{requested_place}
use Rattle.node_arena.specs.declared.places.TheConstants.{STATE_FIELD}
use Rattle.node_arena.proofs.PlacesApart.{same_field}
use Rattle.normal_traits.specs.declared.lists.Entry.{Entry}
use Rattle.cas_executor.specs.declared.slow_run.SlowStep.{SlowStep}
use Rattle.cas_executor.specs.declared.slow_run.SlowStep.TheVariants.{LoadState, Install, LoadTarget, Succeed, Fail, LoadDecision, Clear}
use Rattle.cas_executor.specs.SlowRuns.{installs, state_place, step_request}
use Rattle.cas_executor_laws.specs.ExecRuns.{IsEntry}
use Rattle.cas_executor_laws.specs.Entries.{View, Turn, LeavesBit}
use Rattle.cas_executor_laws.specs.Entries.Turn.{stays, installs as turns_installed, succeeds, fails, clears}
use Rattle.cas_executor_laws.specs.Parts.{Site, IsSite, RequestMade, KnowsEntry, view_in}
use Rattle.cas_executor_laws.proofs.Exchanges.{load_leaves, exchange_did}
use Rattle.cas_executor_laws.proofs.Exchanges.Exchanged.{won, lost}

-- the states of two entries have places of their own
pub states_apart : (block i j : ℕ) → i < 2 → j < 2 → i ≢ j → state_place block i ≢ state_place block j
states_apart block i j few few' apart same =
    apart (let e = same_field block (STATE_FIELD + i) block (STATE_FIELD + j) (omega arith) (omega arith) same in omega arith)

-- two entries of one place are one
pub same_entry : (entries : List Entry) (j : ℕ) (first second : Entry) → IsEntry entries j first → IsEntry entries j second → first ≡ second
same_entry entries j first second at at' = (let both : Some first ≡ Some second = sym at ∙ at' in cc)

-- a step that leaves others no bit
pub record OwnTurn (entry : Entry) (old new : View) : Type 0 where
  pub turn : Turn entry old new
  pub leaves : LeavesBit entry old new turn

module _ (site : Site) (is : IsSite site) (words after : ℕ → ℕ) (took took' : ℕ → Bool) (seen : Seen) (j : ℕ) (entry : Entry) (within : j < length site.entries) (listed : IsEntry site.entries j entry) where
  few : j < 2
  few = omega (arith, within, is.short)

  own_outside : entry.target ≢ state_place site.block j
  own_outside = is.outside j j entry few listed

  -- ---- the entry that the run is at

  abbrev all_stays : ((place : ℕ) → after place ≡ words place) → took' j ≡ took j → OwnTurn entry (view_in site words took j entry) (view_in site after took' j entry)
  all_stays leaves same = record { turn = stays (leaves (state_place site.block j)) (leaves entry.target) same; leaves = tt }

  pub own_turn : (step : SlowStep) → RequestMade (step_request site.block j entry step) words after seen → KnowsEntry step entry (view_in site words took j entry)
      → (installs step ≡ true → seen.won ≡ true → took' j ≡ true) → (installs step ≡ false ⊎ seen.won ≡ false → took' j ≡ took j)
      → OwnTurn entry (view_in site words took j entry) (view_in site after took' j entry)
  own_turn LoadState made knows wins same = all_stays (load_leaves _ words after seen made) (same (inl refl))
  own_turn LoadTarget made knows wins same = all_stays (load_leaves _ words after seen made) (same (inl refl))
  own_turn LoadDecision made knows wins same = all_stays (load_leaves _ words after seen made) (same (inl refl))
  own_turn Install made knows wins same =
      elim (exchange_did _ _ _ words after seen made) [
        | won at there others saw ↦ record { turn = turns_installed at there (others (state_place site.block j) (λ e. own_outside (sym e))) (wins refl saw); leaves = tt }
        | lost differs leaves saw ↦ all_stays leaves (same (inr saw))
      ]
  own_turn Succeed made knows wins same =
      elim (exchange_did _ _ _ words after seen made) [
        | won at there others saw ↦ record { turn = succeeds at knows.1 there (others entry.target own_outside) (same (inl refl)); leaves = tt }
        | lost differs leaves saw ↦ all_stays leaves (same (inr saw))
      ]
  own_turn Fail made knows wins same =
      elim (exchange_did _ _ _ words after seen made) [
        | won at there others saw ↦ record { turn = fails at (knows.1 at).0 knows.0 (knows.1 at).1 there (others entry.target own_outside) (same (inl refl)); leaves = tt }
        | lost differs leaves saw ↦ all_stays leaves (same (inr saw))
      ]
  own_turn Clear made knows wins same =
      elim (exchange_did _ _ _ words after seen made) [
        | won at there others saw ↦ record { turn = clears knows.1 at there (others (state_place site.block j) (λ e. own_outside (sym e))) (same (inl refl)); leaves = tt }
        | lost differs leaves saw ↦ all_stays leaves (same (inr saw))
      ]

  -- ---- another entry

  -- the places of another entry are none of a step on this one
  pub state_beside : (step : SlowStep) (i : ℕ) → i < length site.entries → i ≢ j → state_place site.block i ≢ requested_place (step_request site.block j entry step)
  state_beside LoadState i within' apart = states_apart site.block i j (omega (arith, within', is.short)) few apart
  state_beside Succeed i within' apart = states_apart site.block i j (omega (arith, within', is.short)) few apart
  state_beside Fail i within' apart = states_apart site.block i j (omega (arith, within', is.short)) few apart
  state_beside LoadDecision i within' apart = states_apart site.block i j (omega (arith, within', is.short)) few apart
  state_beside Install i within' apart = λ e. is.outside i j entry (omega (arith, within', is.short)) listed (sym e)
  state_beside LoadTarget i within' apart = λ e. is.outside i j entry (omega (arith, within', is.short)) listed (sym e)
  state_beside Clear i within' apart = λ e. is.outside i j entry (omega (arith, within', is.short)) listed (sym e)

  pub target_beside : (step : SlowStep) (i : ℕ) (other : Entry) → IsEntry site.entries i other → i ≢ j → other.target ≢ requested_place (step_request site.block j entry step)
  target_beside LoadState i other listed' apart = is.outside j i other few listed'
  target_beside Succeed i other listed' apart = is.outside j i other few listed'
  target_beside Fail i other listed' apart = is.outside j i other few listed'
  target_beside LoadDecision i other listed' apart = is.outside j i other few listed'
  target_beside Install i other listed' apart = λ e. apart (is.apart i j other entry listed' listed e)
  target_beside LoadTarget i other listed' apart = λ e. apart (is.apart i j other entry listed' listed e)
  target_beside Clear i other listed' apart = λ e. apart (is.apart i j other entry listed' listed e)

  -- so nothing of it changes
  pub other_turn : (step : SlowStep) → RequestMade (step_request site.block j entry step) words after seen → (i : ℕ) (other : Entry) → i < length site.entries → IsEntry site.entries i other → i ≢ j → took' i ≡ took i
      → OwnTurn other (view_in site words took i other) (view_in site after took' i other)
  other_turn step made i other within' listed' apart same =
      record {
        turn = stays (made.beside (state_place site.block i) (state_beside step i within' apart)) (made.beside other.target (target_beside step i other listed' apart)) same;
        leaves = tt;
      }
