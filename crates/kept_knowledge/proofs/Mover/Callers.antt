-- The calls that the seats make are the same after a move that draws no begin tick.
use Rattle.std.proofs.Common.{◌≡◌, ◌∙◌, refl, sym, subst, ap, ℕ, zero, suc, ◌⊎◌, List, ◌∷◌, slice_get, Option, Some, None, inl, inr, arith}
use Rattle.std.proofs.lemmas.Bool.{cases_eq}
use Rattle.lin_report.specs.declared.calls.Op.{Op}
use Rattle.normal_traits.specs.NormalForm.{NormalForm}
use Rattle.normal_traits.specs.Laws.{Laws}
use Rattle.fast_slow_engine.specs.declared.phases.Phase.{Phase}
use Rattle.fast_slow_engine.specs.declared.phases.Phase.TheVariants as phase
use Rattle.fast_slow_engine.specs.declared.setup.Setup.{Setup}
use Rattle.fast_slow_engine.specs.Mechs.{Mech}
use Rattle.fast_slow_engine.specs.Runs.{AreMoves, Move, begun, run_of}
use Rattle.helper_knowledge.specs.Callers.{Caller, called, caller_of}
use Rattle.helper_knowledge.proofs.Kept.CallersFollow.{goes_on}
use Rattle.run_knowledge.specs.RunGhosts.{ghost_of}
use Rattle.run_knowledge.specs.SeatSteps.{begun_after}
use Rattle.run_knowledge.specs.Kept.{IsKept, caller_at, callers_in}
use Rattle.run_knowledge.proofs.Words.Moved.{seat_after, seen_by}
use Rattle.run_knowledge.proofs.Words.Seats.{machine_after}
use Rattle.kept_knowledge.proofs.Others.Callers.{mover_called, other_called}

-- a phase is that in which the begin tick is drawn, or a step in it leaves how many changes there were at the begin
pub begin_or : {S W : Type 0} (at : Phase S W) → (at ≡ phase.Begin) ⊎ ((count before : ℕ) → begun_after at count before ≡ before)
begin_or phase.Idle = inr (λ count before. refl)
begin_or phase.Begin = inl refl
begin_or phase.Look = inr (λ count before. refl)
begin_or (phase.Generate s step) = inr (λ count before. refl)
begin_or (phase.Apply run stores step) = inr (λ count before. refl)
begin_or (phase.Wrap w) = inr (λ count before. refl)
begin_or (phase.Announce step) = inr (λ count before. refl)
begin_or (phase.Enter owner) = inr (λ count before. refl)
begin_or phase.Drive = inr (λ count before. refl)
begin_or (phase.Help drives help) = inr (λ count before. refl)
begin_or phase.Collect = inr (λ count before. refl)
begin_or (phase.Value reference) = inr (λ count before. refl)
begin_or (phase.End reply) = inr (λ count before. refl)

module _ {S W : Type 0} (form : NormalForm S W) (laws : Laws form) (setup : Setup) (older : List Move) (move : Move) (mech : Mech S W) (are : AreMoves form setup (move ∷ older))
    (at : slice_get (run_of form setup older).mechs move.seat ≡ Some mech) (kept : IsKept form setup older) where
  abbrev callers : ℕ → Caller
  callers = callers_in (run_of form setup older) (ghost_of form setup older)

  abbrev callers' : ℕ → Caller
  callers' = callers_in (run_of form setup (move ∷ older)) (ghost_of form setup (move ∷ older))

  caller_was : callers move.seat ≡ caller_of (called mech) ((ghost_of form setup older).seats move.seat).begun
  caller_was = ap (λ (o : Option (Mech S W)). caller_at o ((ghost_of form setup older).seats move.seat).begun) at

  -- it makes the call that it made, with its begin, unless the move draws the begin tick
  caller_goes : (begins : Option Op) → begins ≡ move.begins → ((count before : ℕ) → begun_after (begun move.begins mech).phase count before ≡ before) → callers' move.seat ≡ callers move.seat
  caller_goes (Some op) is stays =
      let drawn : suc zero ≡ zero = subst (λ (b : Option Op). begun_after (begun b mech).phase (suc zero) zero ≡ zero) (sym is) (stays (suc zero) zero) in
      absurd (omega (arith, drawn))
  caller_goes None is stays =
      let own = (ghost_of form setup older).seats move.seat in
      let same : begun move.begins mech ≡ mech = ap (λ (b : Option Op). begun b mech) (sym is) in
      let began : (seat_after form setup older move mech).begun ≡ own.begun = stays _ own.begun in
      mover_called form laws setup older move mech are at kept
      ∙ goes_on form (begun move.begins mech) (seen_by form setup older move mech) own.begun (seat_after form setup older move mech).begun (machine_after form setup older move mech).number began refl
      ∙ ap (λ (m : Mech S W). caller_of (called m) own.begun) same ∙ sym caller_was

  pub callers_stay : ((count before : ℕ) → begun_after (begun move.begins mech).phase count before ≡ before) → callers' ≡ callers
  callers_stay stays = λ i. λ seat. each seat i
    where
      each : (seat : ℕ) → callers' seat ≡ callers seat
      each seat = elim (cases_eq seat move.seat) [
        | inl same ↦ subst (λ s. callers' s ≡ callers s) (sym same) (caller_goes move.begins refl stays)
        | inr apart ↦ other_called form laws setup older move mech are at kept seat apart
      ]
