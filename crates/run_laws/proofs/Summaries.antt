-- What a move comes to: a call of its seat may begin, and then its machine makes one step.
use Rattle.std.proofs.Common.{◌≡◌, ◌≢◌, ◌∙◌, refl, sym, subst, ℕ, ◌+◌, List, [], ◌∷◌, ◌++◌, length, slice_get, slice_set, get_or, Option, Some, None, inl, inr}
use Rattle.std.specs.Option.{option_to_list}
use Rattle.std.proofs.lemmas.Bool.{cases_eq}
use Rattle.std.proofs.lemmas.Option.{slice_get_within}
use Rattle.lin_report.specs.declared.calls.Op.{Op}
use Rattle.lin_report.specs.declared.calls.Receipt.{Receipt}
use Rattle.step_memory.specs.Step.{seen_of}
use Rattle.normal_traits.specs.NormalForm.{NormalForm}
use Rattle.fast_slow_engine.specs.declared.setup.Setup.{Setup}
use Rattle.fast_slow_engine.specs.Mechs.{Mech, SameCall}
use Rattle.fast_slow_engine.specs.PhaseTable.{mech_event, mech_fed, mech_request, mech_turn, ticks_left}
use Rattle.fast_slow_engine.specs.Runs.{Move, RunState, CanMove, IsMove, AreMoves, begun, returned, run_of, run_step}
use Rattle.fast_slow_engine.proofs.SameCalls.{same_fed}
use Rattle.run_laws.specs.Seats.{EachMech, IsSeated}
use Rattle.run_laws.specs.Ticks.{MoveKeepsTicks, KeepsTicks}
use Rattle.run_laws.proofs.Steps.{at_set, beside_set, move_steps, some_same}
use Rattle.run_laws.proofs.MachinesKept.{begun_own, seats_stay}
use Rattle.run_laws.proofs.StepKinds.{StepKind, rests_none}
use Rattle.run_laws.proofs.TicksCounted.{CountsTicks, counts_ticks, move_kind}

module _ {S W : Type 0} where
  -- the tick counter
  abbrev pub tick_of : RunState S W → ℕ
  tick_of state = get_or state.words 0 0

  -- the machine with the call that the move begins, if it begins one
  pub data HasBegun (old mech : Mech S W) : Type 0 where
    ran : mech ≡ old → HasBegun old mech
    started : ticks_left old.phase ≡ 0 → ticks_left mech.phase ≡ 2 → mech.number ≡ old.number + 1 → HasBegun old mech

  has_begun : (form : NormalForm S W) (begins : Option Op) (mech : Mech S W) → CanMove form begins mech → HasBegun mech (begun begins mech)
  has_begun form None mech can = ran refl
  has_begun form (Some op) mech can = started (rests_none mech.phase can.0) refl refl

  -- a move from a state to another
  pub record Summary (state after : RunState S W) : Type 0 where
    pub seat : ℕ
    pub old : Mech S W
    pub mech : Mech S W
    pub new : Mech S W
    pub lines : List Receipt
    pub events : ℕ
    pub at : slice_get state.mechs seat ≡ Some old
    pub begun : HasBegun old mech
    pub own : mech.seat ≡ seat
    pub same : SameCall new mech
    pub kind : StepKind mech.phase mech new lines events (tick_of state) (tick_of after)
    pub mechs : after.mechs ≡ slice_set state.mechs seat new
    pub receipts : after.receipts ≡ state.receipts ++ lines

  -- what holds of each machine after a move of one seat: it is kept for the other seats, and holds of the
  -- new machine
  pub each_moved : (P Q : ℕ → Mech S W → Type 0) (mechs after : List (Mech S W)) (i : ℕ) (old new : Mech S W) → slice_get mechs i ≡ Some old → after ≡ slice_set mechs i new
      → EachMech P mechs → ((seat : ℕ) (mech : Mech S W) → seat ≢ i → P seat mech → Q seat mech) → Q i new → EachMech Q after
  each_moved P Q mechs after i old new at is each keeps this seat mech found =
      let found : slice_get (slice_set mechs i new) seat ≡ Some mech = subst (λ l. slice_get l seat ≡ Some mech) is found in
      elim (cases_eq seat i) [
        | inl same ↦ subst (λ k. Q k mech) (sym same) (subst (Q i) (some_same new mech (sym (at_set mechs i new (slice_get_within mechs i old at)) ∙ subst (λ k. slice_get (slice_set mechs i new) k ≡ Some mech) same found)) this)
        | inr apart ↦ keeps seat mech apart (each seat mech (sym (beside_set mechs i seat new apart) ∙ found))
      ]

  module _ (form : NormalForm S W) where
    summary_of : (setup : Setup) (state : RunState S W) (move : Move) → CountsTicks form state → IsSeated setup state → (is : IsMove form state move) → MoveKeepsTicks form state move
        → Summary state (run_step form state move)
    summary_of setup state move counts seated is keeps =
        let mech = begun move.begins is.mech in
        let seen = seen_of (mech_request form mech) state.words in
        subst (Summary state) (sym (move_steps form state move is.mech is.seated)) (record {
          seat = move.seat;
          old = is.mech;
          mech = mech;
          new = mech_fed form mech seen;
          lines = returned (mech_turn mech seen);
          events = length (option_to_list (mech_event mech));
          at = is.seated;
          begun = has_begun form move.begins is.mech is.can;
          own = (begun_own form setup move.seat move.begins is.mech (seated.own move.seat is.mech is.seated)).seat;
          same = same_fed form mech seen;
          kind = move_kind form state move counts is keeps;
          mechs = refl;
          receipts = refl;
        })

    -- the last move of a run
    pub summary : (setup : Setup) (older : List Move) (move : Move) → AreMoves form setup (move ∷ older) → KeepsTicks form setup (move ∷ older) → Summary (run_of form setup older) (run_of form setup (move ∷ older))
    summary setup older move are keeps =
        summary_of setup (run_of form setup older) move (counts_ticks form setup older are.0 keeps.0) (seats_stay form setup older are.0) are.1 keeps.1

    -- what holds at the opening and is kept by each move holds of every run
    pub every_run : (P : RunState S W → Type 0) → ((setup : Setup) → P (run_of form setup [])) → ((state after : RunState S W) → Summary state after → P state → P after)
        → (setup : Setup) (moves : List Move) → AreMoves form setup moves → KeepsTicks form setup moves → P (run_of form setup moves)
    every_run P opens more setup [] are keeps = opens setup
    every_run P opens more setup (move ∷ older) are keeps =
        more (run_of form setup older) (run_of form setup (move ∷ older)) (summary setup older move are keeps) (every_run P opens more setup older are.0 keeps.0)
