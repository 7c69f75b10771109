-- What the lines of a seat tell of what it has begun.
use Rattle.std.proofs.Common.{◌≡◌, ◌∙◌, refl, sym, subst, ap, Bool, false, List, [], ◌∷◌, ◌++◌, append_assoc, append-nil, slice_get, slice_set, Option, Some, None, inl, inr, if◌then◌else◌}
use Rattle.std.proofs.lemmas.Bool.{cases_eq}
use Rattle.std.proofs.lemmas.List.{map-append}
use Rattle.std.proofs.lemmas.Option.{slice_get_within}
use Rattle.std.specs.Option.{option_to_list}
use Rattle.lin_report.specs.declared.calls.Op.{Op}
use Rattle.lin_report.specs.declared.calls.Receipt.{Receipt}
use Rattle.step_memory.specs.declared.steps.Seen.{Seen}
use Rattle.step_memory.specs.Step.{seen_of}
use Rattle.normal_traits.specs.NormalForm.{NormalForm}
use Rattle.fast_slow_engine.specs.declared.setup.Setup.{Setup}
use Rattle.fast_slow_engine.specs.declared.setup.Turn.{Turn}
use Rattle.fast_slow_engine.specs.declared.setup.Turn.TheVariants.{Going, Returned}
use Rattle.fast_slow_engine.specs.Mechs.{Mech}
use Rattle.fast_slow_engine.specs.PhaseTable.{mech_fed, mech_request, mech_turn, rests}
use Rattle.fast_slow_engine.specs.Runs.{CanMove, Move, RunState, AreMoves, begun, returned, run_of}
use Rattle.fast_slow_engine.specs.Lines.{returns}
use Rattle.fast_slow_engine.proofs.LineOwners.{calls_end, lines_are_own}
use Rattle.fast_slow_engine.proofs.SameCalls.{same_fed}
use Rattle.run_laws.specs.Seats.{EachMech}
use Rattle.run_laws.proofs.Steps.{at_set, beside_set, move_steps, some_same}
use Rattle.run_laws.proofs.MachinesKept.{seats_stay, begun_own, new_mech}
use Rattle.move_orders.specs.Orders.{begun_at}
use Rattle.move_orders.specs.SeatLines.{LinesTell, lines_of, ops_of}
use Rattle.move_orders.proofs.Begun.{other_begun, own_begun}
use Rattle.move_orders.proofs.SeatLines.{lines_append, returned_other, returned_own}

-- the command of a call that runs
abbrev running_by : Bool → Op → List Op
running_by idle op = if idle then [] else op ∷ []

-- a step tells the operation of its call once: by its line, or by the call that goes on
told_by : (turn : Turn) (op : Op) (idle : Bool) → idle ≡ returns turn → ((line : Receipt) → turn ≡ Returned line → line.op ≡ op) → ops_of (returned turn) ++ running_by idle op ≡ op ∷ []
told_by Going op idle is own = ap (λ b. running_by b op) is
told_by (Returned line) op idle is own = ap (λ b. line.op ∷ running_by b op) is ∙ ap (λ (o : Op). o ∷ []) (own line refl)

module _ {S W : Type 0} (form : NormalForm S W) where
  told : (mech : Mech S W) (seen : Seen) → rests mech.phase ≡ false → ops_of (returned (mech_turn mech seen)) ++ running_by (rests (mech_fed form mech seen).phase) mech.op ≡ mech.op ∷ []
  told mech seen runs = told_by (mech_turn mech seen) mech.op (rests (mech_fed form mech seen).phase) (calls_end form mech seen runs) (λ line e. (lines_are_own mech seen line e).op)

  -- what was begun is what the lines tell, and the call that runs
  abbrev Tells : List Op → List Receipt → Mech S W → Type 0
  Tells begun lines mech = ops_of lines ++ running_by (rests mech.phase) mech.op ≡ begun

  begins_one : (begins : Option Op) (mech : Mech S W) (lines : List Receipt) (done : List Op) → CanMove form begins mech → Tells done lines mech
      → (ops_of lines ++ (begun begins mech).op ∷ [] ≡ done ++ option_to_list begins) × (rests (begun begins mech).phase ≡ false)
  begins_one None mech lines done can tells = (ap (λ b. ops_of lines ++ running_by b mech.op) (sym can) ∙ tells ∙ sym (append-nil done), can)
  begins_one (Some op) mech lines done can tells = (ap (λ l. l ++ op ∷ []) (sym (append-nil (ops_of lines)) ∙ ap (λ b. ops_of lines ++ running_by b mech.op) (sym can.0) ∙ tells), refl)

  own_tells : (begins : Option Op) (mech : Mech S W) (lines : List Receipt) (done : List Op) (seen : Seen) → CanMove form begins mech → Tells done lines mech
      → Tells (done ++ option_to_list begins) (lines ++ returned (mech_turn (begun begins mech) seen)) (mech_fed form (begun begins mech) seen)
  own_tells begins mech lines done seen can tells =
      let one = begun begins mech in
      let fed = mech_fed form one seen in
      let rs = returned (mech_turn one seen) in
      let b = begins_one begins mech lines done can tells in
      ap (λ o. ops_of (lines ++ rs) ++ running_by (rests fed.phase) o) (same_fed form one seen).op
      ∙ ap (λ l. l ++ running_by (rests fed.phase) one.op) (map-append (λ (r : Receipt). r.op) lines rs)
      ∙ append_assoc (ops_of lines) (ops_of rs) (running_by (rests fed.phase) one.op)
      ∙ ap (λ l. ops_of lines ++ l) (told one seen b.1)
      ∙ b.0

  abbrev AllTell : List Move → RunState S W → Type 0
  AllTell moves state = EachMech (λ seat mech. Tells (begun_at moves seat) (lines_of seat state.receipts) mech) state.mechs

  -- so it is of each seat after any moves
  all_tell : (setup : Setup) (moves : List Move) → AreMoves form setup moves → AllTell moves (run_of form setup moves)
  all_tell setup [] are = λ seat mech found. subst (Tells [] []) (sym (new_mech form setup seat mech found)) refl
  all_tell setup (move ∷ older) are =
      let state = run_of form setup older in
      let is = are.1 in
      let one = begun move.begins is.mech in
      let seen = seen_of (mech_request form one) state.words in
      let fed = mech_fed form one seen in
      let rs = returned (mech_turn one seen) in
      let old = all_tell setup older are.0 in
      let seated = seats_stay form setup older are.0 in
      let own = (begun_own form setup move.seat move.begins is.mech (seated.own move.seat is.mech is.seated)).seat in
      let new : Tells (begun_at (move ∷ older) move.seat) (lines_of move.seat (state.receipts ++ rs)) fed =
      subst (λ l. Tells l (lines_of move.seat (state.receipts ++ rs)) fed) (sym (own_begun move older))
      (subst (λ l. Tells (begun_at older move.seat ++ option_to_list move.begins) l fed) (sym (lines_append move.seat state.receipts rs ∙ ap (λ l. lines_of move.seat state.receipts ++ l) (returned_own move.seat one seen own)))
      (own_tells move.begins is.mech (lines_of move.seat state.receipts) (begun_at older move.seat) seen is.can (old move.seat is.mech is.seated))) in
      subst (λ (s : RunState S W). AllTell (move ∷ older) s) (sym (move_steps form state move is.mech is.seated))
      (λ seat mate found. elim (cases_eq seat move.seat) [
        | inl here ↦
            subst (λ k. Tells (begun_at (move ∷ older) k) (lines_of k (state.receipts ++ rs)) mate) (sym here)
            (subst (Tells (begun_at (move ∷ older) move.seat) (lines_of move.seat (state.receipts ++ rs))) (some_same fed mate (sym (at_set state.mechs move.seat fed (slice_get_within state.mechs move.seat is.mech is.seated)) ∙ subst (λ k. slice_get (slice_set state.mechs move.seat fed) k ≡ Some mate) here found)) new)
        | inr apart ↦
            subst (λ l. Tells l (lines_of seat (state.receipts ++ rs)) mate) (sym (other_begun move older seat apart))
            (subst (λ l. Tells (begun_at older seat) l mate) (sym (lines_append seat state.receipts rs ∙ ap (λ l. lines_of seat state.receipts ++ l) (returned_other seat one seen (λ e. apart (sym e ∙ own))) ∙ append-nil (lines_of seat state.receipts)))
            (old seat mate (sym (beside_set state.mechs move.seat seat fed apart) ∙ found)))
      ])

  pub lines_tell : LinesTell form
  lines_tell setup moves seat mech are found idle =
      sym (append-nil (ops_of (lines_of seat (run_of form setup moves).receipts))) ∙ ap (λ b. ops_of (lines_of seat (run_of form setup moves).receipts) ++ running_by b mech.op) (sym idle) ∙ all_tell setup moves are seat mech found
