-- What a seat has begun: its number counts it, and it is of commands.
use Rattle.std.proofs.Common.{arith, ◌≡◌, ◌∙◌, refl, sym, subst, ap, ℕ, ◌+◌, ◌≤◌, Bool, cond, eq-eqb, ne_eqb, List, [], ◌∷◌, ◌++◌, length, length-append, append-nil, slice_get, slice_set, Option, Some, None, All, inl, inr}
use Rattle.std.proofs.lemmas.Bool.{cases_eq}
use Rattle.std.proofs.lemmas.List.Elements.{All-push}
use Rattle.std.proofs.lemmas.Option.{slice_get_within}
use Rattle.std.specs.Option.{option_to_list}
use Rattle.lin_report.specs.declared.calls.Op.{Op}
use Rattle.lin_report.specs.Object.{IsCommandOf}
use Rattle.step_memory.specs.Step.{seen_of}
use Rattle.normal_traits.specs.NormalForm.{NormalForm}
use Rattle.fast_slow_engine.specs.declared.setup.Setup.{Setup}
use Rattle.fast_slow_engine.specs.Mechs.{Mech}
use Rattle.fast_slow_engine.specs.PhaseTable.{mech_fed, mech_request}
use Rattle.fast_slow_engine.specs.Runs.{CanMove, Move, RunState, AreMoves, begun, run_of}
use Rattle.fast_slow_engine.proofs.SameCalls.{same_fed}
use Rattle.run_laws.specs.Seats.{EachMech}
use Rattle.run_laws.proofs.Steps.{at_set, beside_set, move_steps, some_same}
use Rattle.run_laws.proofs.MachinesKept.{new_mech}
use Rattle.move_orders.specs.Orders.{begun_at}

pub own_begun : (move : Move) (older : List Move) → begun_at (move ∷ older) move.seat ≡ begun_at older move.seat ++ option_to_list move.begins
own_begun move older = ap (λ (b : Bool). begun_at older move.seat ++ cond b (option_to_list move.begins) []) (eq-eqb move.seat move.seat refl)

pub other_begun : (move : Move) (older : List Move) (seat : ℕ) → ¬ (seat ≡ move.seat) → begun_at (move ∷ older) seat ≡ begun_at older seat
other_begun move older seat apart = ap (λ (b : Bool). begun_at older seat ++ cond b (option_to_list move.begins) []) (ne_eqb move.seat seat (λ e. apart (sym e))) ∙ append-nil (begun_at older seat)

-- the number counts what was begun, and it is of commands
pub record Counts {S W : Type 0} (form : NormalForm S W) (ops : List Op) (mech : Mech S W) : Type 0 where
  pub number : mech.number ≡ length ops
  pub few : mech.number ≤ 65535
  pub commands : All (IsCommandOf form.object) ops

module _ {S W : Type 0} (form : NormalForm S W) where
  abbrev pub AllCount : List Move → List (Mech S W) → Type 0
  AllCount moves mechs = EachMech (λ seat mech. Counts form (begun_at moves seat) mech) mechs

  one_more : (begins : Option Op) (mech : Mech S W) (ops : List Op) → CanMove form begins mech → Counts form ops mech → Counts form (ops ++ option_to_list begins) (begun begins mech)
  one_more None mech ops can counts = subst (λ l. Counts form l mech) (sym (append-nil ops)) counts
  one_more (Some op) mech ops can counts = record {
    number = ap (λ n. n + 1) counts.number ∙ sym (length-append ops (op ∷ []));
    few = (let fewer = can.1 in omega (arith, fewer));
    commands = All-push (IsCommandOf form.object) ops op counts.commands can.2;
  }

  fed_counts : (ops : List Op) (new mech : Mech S W) → new.number ≡ mech.number → Counts form ops mech → Counts form ops new
  fed_counts ops new mech same counts = record { number = same ∙ counts.number; few = subst (λ n. n ≤ 65535) (sym same) counts.few; commands = counts.commands }

  pub each_counts : (setup : Setup) (moves : List Move) → AreMoves form setup moves → AllCount moves (run_of form setup moves).mechs
  each_counts setup [] are = λ seat mech found. subst (Counts form []) (sym (new_mech form setup seat mech found)) (record { number = refl; few = omega arith; commands = λ k d inside. absurd (omega (arith, inside)) })
  each_counts setup (move ∷ older) are =
      let state = run_of form setup older in
      let is = are.1 in
      let mech = begun move.begins is.mech in
      let seen = seen_of (mech_request form mech) state.words in
      let fed = mech_fed form mech seen in
      let old = each_counts setup older are.0 in
      let new : Counts form (begun_at (move ∷ older) move.seat) fed =
      subst (λ l. Counts form l fed) (sym (own_begun move older)) (fed_counts _ fed mech (same_fed form mech seen).number (one_more move.begins is.mech (begun_at older move.seat) is.can (old move.seat is.mech is.seated))) in
      subst (λ (s : RunState S W). AllCount (move ∷ older) s.mechs) (sym (move_steps form state move is.mech is.seated))
      (λ seat mate found. elim (cases_eq seat move.seat) [
        | inl here ↦
            subst (λ k. Counts form (begun_at (move ∷ older) k) mate) (sym here)
            (subst (Counts form (begun_at (move ∷ older) move.seat)) (some_same fed mate (sym (at_set state.mechs move.seat fed (slice_get_within state.mechs move.seat is.mech is.seated)) ∙ subst (λ k. slice_get (slice_set state.mechs move.seat fed) k ≡ Some mate) here found)) new)
        | inr apart ↦ subst (λ l. Counts form l mate) (sym (other_begun move older seat apart)) (old seat mate (sym (beside_set state.mechs move.seat seat fed apart) ∙ found))
      ])
