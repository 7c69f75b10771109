-- The calls that run are gathered seat by seat.
use Rattle.std.proofs.Common.{arith, ◌≡◌, ◌∙◌, ◌+◌, ◌++◌, ◌∷◌, ◌<◌, ◌≤◌, [], sym, subst, ap, suc, ℕ, List, length, map, take, slice_index_or, Option, Some, None}
use Rattle.std.specs.List.{flat_map}
use Rattle.std.specs.Option.{option_to_list}
use Rattle.std.specs.Prelude.{IsPermutation}
use Rattle.lin_report.specs.declared.calls.PendingCall.{PendingCall}
use Rattle.lin_report.specs.declared.calls.Receipt.{Receipt}
use Rattle.lin_report.specs.declared.events.Event.{Event}
use Rattle.fast_slow_engine.specs.declared.setup.Setup.{Setup}
use Rattle.event_core.specs.Cores.{CoreView, core_of}
use Rattle.fast_slow_engine.specs.Mechs.{Mech}
use Rattle.fast_slow_engine.specs.PhaseTable.{mech_pending}
use Rattle.fast_slow_engine.specs.Runs.{pending_of}
use Rattle.event_core.specs.Seats.{Seat}
use Rattle.std.proofs.Math.Seq.{take-suc}
use Rattle.std.proofs.lemmas.List.{flat_map_more, length-append, map-append, take_all}

one_at_most : {X : Type 0} (o : Option X) → length (option_to_list o) ≤ 1
one_at_most None = omega arith
one_at_most (Some x) = omega arith

suc_is : (i : ℕ) → suc i ≡ i + 1
suc_is i = omega arith

module _ {S W : Type 0} where
  abbrev machine : Seat S W → Mech S W
  machine seat = seat.mech

  abbrev call_in : Mech S W → List PendingCall
  call_in mech = option_to_list (mech_pending mech)

  -- with the call of the next seat
  next_pending : (seats : List (Seat S W)) (i : ℕ) (s : Seat S W) → i < length seats → s ≡ slice_index_or seats i s
      → pending_of (map machine (take i seats)) ++ call_in s.mech ≡ pending_of (map machine (take (i + 1) seats))
  next_pending seats i s inside at =
      flat_map_more call_in [] (map machine (take i seats)) s.mech
      ∙ ap (flat_map call_in) (sym (map-append machine (take i seats) (s ∷ [])) ∙ ap (λ x. map machine (take i seats ++ x ∷ [])) at ∙ ap (map machine) (sym (take-suc seats i s inside) ∙ ap (λ n. take n seats) (suc_is i)))

  -- the gathered calls are those of the seats so far, at most one of each
  pub gathered : (seats : List (Seat S W)) (i : ℕ) (s : Seat S W) (call : Option PendingCall) (calls calls' : List PendingCall)
      → (calls ≡ pending_of (map machine (take i seats))) × (length calls ≤ i) → i < length seats → s ≡ slice_index_or seats i s
      → call ≡ mech_pending s.mech → calls' ≡ calls ++ option_to_list call
      → (calls' ≡ pending_of (map machine (take (i + 1) seats))) × (length calls' ≤ i + 1)
  gathered seats i s call calls calls' (so_far, few) inside at is put =
      let longer = length-append calls (option_to_list call) in
      let l = ap length put in
      let one = one_at_most call in (
        put ∙ ap (λ c. calls ++ option_to_list c) is ∙ ap (λ l. l ++ call_in s.mech) so_far ∙ next_pending seats i s inside at,
        omega (arith, l, longer, one, few),
      )

  -- in another order they are the calls of the run
  pub all_gathered : {view : CoreView S W} (setup : Setup) (words : List ℕ) (seats items : List (Seat S W)) (receipts : List Receipt) (events : List Event) (i : ℕ) (pending now new : List PendingCall)
      → core_of setup words seats receipts events ≡ view → items ≡ seats → length items ≤ i → pending ≡ pending_of (map (λ (seat : Seat S W). seat.mech) (take i items)) → now ≡ pending
      → IsPermutation now new → IsPermutation (pending_of view.state.mechs) new
  all_gathered {view} setup words seats items receipts events i pending now new is same past gathered_all now_is sorted =
      let all : now ≡ pending_of view.state.mechs = now_is ∙ gathered_all ∙ ap (λ l. pending_of (map (λ (seat : Seat S W). seat.mech) l)) (take_all i items past ∙ same) ∙ ap (λ (v : CoreView S W). pending_of v.state.mechs) is in
      subst (λ l. IsPermutation l new) all sorted
