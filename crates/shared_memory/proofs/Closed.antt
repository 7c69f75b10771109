-- What is known once the table is closed.
use Rattle.std.proofs.Common.{◌≡◌, ◌≢◌, ℕ, zero, suc, ◌<◌, ◌≤◌, Bool, true, List, [], ◌∷◌, slice_index, sym, refl, ap, ◌∙◌, subst, arith, if◌then◌else◌, eq-eqb, ne_eqb, lt_of_not-le}
use mathlib.Core.Option.{some, some-injective, some-ne-none}
use mathlib.Core.Logic.{dite}
use native.Mathlib.Decide.{ℕ_discrete, dec_le}
use lib.ListN.{get_elem?}
use Rattle.atomic_table.specs.Table.{State}
use Rattle.lin_report.specs.declared.calls.Receipt.{Receipt}
use Rattle.node_arena.specs.declared.places.TheConstants.{TICKS, CLAIMS}
use Rattle.normal_traits.specs.NormalForm.{NormalForm}
use Rattle.fast_slow_engine.specs.declared.setup.Setup.{Setup}
use Rattle.fast_slow_engine.specs.PhaseTable.{mech_new, rests}
use Rattle.fast_slow_engine.specs.Runs.{AreMoves, Move, RunState, run_of}
use Rattle.shared_memory.specs.declared.view.View.{View}
use Rattle.shared_memory.specs.declared.view.Gathered.{Gathered}
use Rattle.shared_memory.specs.Rule.{Kept, Rests}
use Rattle.shared_memory.specs.Closing.{Closes, IsWhole, lines_among, lines_in}

-- a word that is read at its place
pub word_read : (ws : List ℕ) (i a : ℕ) → get_elem? ws i ≡ some a → slice_index ws i ≡ a
word_read [] i a e = absurd (some-ne-none a (sym e))
word_read (w ∷ ws) zero a e = some-injective w a e
word_read (w ∷ ws) (suc i) a e = word_read ws i a e

module _ {S W : Type 0} (state : RunState S W) where
  -- where a gathered seat is k, the run gave k the lines of the first one that is
  among : (gs : List Gathered) (k : ℕ) → ((i : ℕ) (g : Gathered) → get_elem? gs i ≡ some g → Rests state g.seat g.receipts) → (i : ℕ) (g : Gathered) → get_elem? gs i ≡ some g → g.seat ≡ k → Rests state k (lines_among gs k)
  among [] k each i g at is = absurd (some-ne-none g (sym at))
  among (x ∷ xs) k each i g at is = dite (ℕ_discrete x.seat k)
      (λ e. subst (λ (b : Bool). Rests state k (if b then x.receipts else lines_among xs k)) (sym (eq-eqb x.seat k e)) (subst (λ (n : ℕ). Rests state n x.receipts) e (each 0 x refl)))
      (λ ne. subst (λ (b : Bool). Rests state k (if b then x.receipts else lines_among xs k)) (sym (ne_eqb x.seat k ne)) (later (λ j h. among xs k (λ m y e. each (suc m) y e) j g h is) i at ne))
    where
      later : ((j : ℕ) → get_elem? xs j ≡ some g → Rests state k (lines_among xs k)) → (i : ℕ) → get_elem? (x ∷ xs) i ≡ some g → x.seat ≢ k → Rests state k (lines_among xs k)
      later again zero h ne = absurd (ne (ap (λ (y : Gathered). y.seat) (some-injective x g h) ∙ is))
      later again (suc j) h ne = again j h

  -- no gathered seat is above the count
  nobody : (gs : List Gathered) (k made : ℕ) → made < k → ((i : ℕ) (g : Gathered) → get_elem? gs i ≡ some g → g.seat ≤ made) → lines_among gs k ≡ []
  nobody [] k made above low = refl
  nobody (x ∷ xs) k made above low =
      let h = low 0 x refl in
      subst (λ (b : Bool). (if b then x.receipts else lines_among xs k) ≡ []) (sym (ne_eqb x.seat k (λ e. omega (arith, e, h, above)))) (nobody xs k made above (λ i g e. low (suc i) g e))

module _ {C S W : Type 0} (form : NormalForm S W) (setup : Setup) where
  -- each seat of the run rests, with the lines that a whole view has of it
  rest_each : (s : State (Unit {0}) (View C S W)) (id : ℕ) (v : View C S W) (kept : Kept form setup s) → get_elem? s.views id ≡ some v → v.live ≡ true → rests v.machine.phase ≡ true → IsWhole v
      → (k : ℕ) → k < setup.seats → Rests (run_of form setup kept.moves) k (lines_in v k)
  rest_each s id v kept at live idle whole k below =
      let state = run_of form setup kept.moves in
      let f = kept.fits id v at live in
      let own : Gathered = record { seat = v.machine.seat; receipts = v.receipts } in
      let each : (i : ℕ) (g : Gathered) → get_elem? (own ∷ v.gathered) i ≡ some g → Rests state g.seat g.receipts × (g.seat ≤ kept.made)
      = all_rest state own v.gathered kept.made (record { mech = v.machine; has = f.has; idle = idle }, f.low) (λ i g e. let o = f.others i g e in (o.3, o.2)) in
      let r = f.root whole.root in
      dite (dec_le k v.made)
      (λ le. dite (ℕ_discrete v.machine.seat k)
      (λ e. among state (own ∷ v.gathered) k (λ i g h. (each i g h).0) 0 own refl e)
      (λ ne. let w = whole.each k le (λ e. ne (sym e)) in among state (own ∷ v.gathered) k (λ i g h. (each i g h).0) (suc w.0) w.1 w.2 w.3))
      (λ more. let high : kept.made < k = subst (λ (n : ℕ). n < k) r.1 (lt_of_not-le more) in
      subst (λ (rs : List Receipt). Rests state k rs) (sym (nobody state (own ∷ v.gathered) k kept.made high (λ i g h. (each i g h).1)))
      (record { mech = mech_new k setup; has = kept.fresh_above k high below; idle = refl }))
    where
      all_rest : (state : RunState S W) (own : Gathered) (gs : List Gathered) (made : ℕ) → Rests state own.seat own.receipts × (own.seat ≤ made) → ((i : ℕ) (g : Gathered) → get_elem? gs i ≡ some g → Rests state g.seat g.receipts × (g.seat ≤ made))
          → (i : ℕ) (g : Gathered) → get_elem? (own ∷ gs) i ≡ some g → Rests state g.seat g.receipts × (g.seat ≤ made)
      all_rest state own gs made one all zero g e = subst (λ (x : Gathered). Rests state x.seat x.receipts × (x.seat ≤ made)) (some-injective own g e) one
      all_rest state own gs made one all (suc i) g e = all i g e

  -- the same as of a closed table, with the setup for itself
  abbrev Ends : Setup → View C S W → ℕ → ℕ → Type 0
  Ends z v a b = (moves : List Move) × AreMoves form z moves × (slice_index (run_of form z moves).words TICKS ≡ a) × (slice_index (run_of form z moves).words CLAIMS ≡ b) × ((k : ℕ) → k < z.seats → Rests (run_of form z moves) k (lines_in v k))

  pub closes : (s : State (Unit {0}) (View C S W)) (id : ℕ) (v : View C S W) (a b : ℕ) (ws : List ℕ) → Kept form setup s → get_elem? s.views id ≡ some v → v.live ≡ true → rests v.machine.phase ≡ true → IsWhole v
      → s.words ≡ ws → get_elem? ws TICKS ≡ some a → get_elem? ws CLAIMS ≡ some b → Closes form v a b
  closes s id v a b ws kept at live idle whole is x y =
      let f = kept.fits id v at live in
      let same : (run_of form setup kept.moves).words ≡ ws = kept.words ∙ is in
      let made : Ends setup v a b =
      (kept.moves, kept.are, ap (λ l. slice_index l TICKS) same ∙ word_read ws TICKS a x, ap (λ l. slice_index l CLAIMS) same ∙ word_read ws CLAIMS b y, rest_each s id v kept at live idle whole) in
      let there : Ends v.machine.setup v a b = subst (λ (z : Setup). Ends z v a b) (sym f.of_run) made in
      record { moves = there.0; are = there.1; drawn = there.2; asked = there.3; rest = there.4 }
