-- The rule is kept where a number is split off, and where a port is gathered into another one.
use Rattle.std.proofs.Common.{◌≡◌, ◌≢◌, ◌⊎◌, ℕ, zero, suc, ◌+◌, ◌<◌, ◌≤◌, Bool, true, false, List, [], ◌∷◌, ◌++◌, length, slice_set, sym, refl, ap, ◌∙◌, subst, inl, inr, ⊎_elim, arith, if◌then◌else◌}
use mathlib.Core.Option.{some, some-injective, some-ne-none}
use native.Mathlib.Decide.{ℕ_discrete}
use lib.ListN.{get_elem?}
use Rattle.std.proofs.lemmas.Bool.{false≢true}
use Rattle.atomic_table.specs.Table.{Splits, Joins}
use Rattle.atomic_table.proofs.Lists.{at_set, set_else}
use Rattle.normal_traits.specs.NormalForm.{NormalForm}
use Rattle.fast_slow_engine.specs.declared.setup.Setup.{Setup}
use Rattle.fast_slow_engine.specs.PhaseTable.{mech_new, rests}
use Rattle.fast_slow_engine.specs.Runs.{RunState, run_of}
use Rattle.shared_memory.specs.declared.view.View.{View}
use Rattle.shared_memory.specs.declared.view.Gathered.{Gathered}
use Rattle.shared_memory.specs.Views.{cut_left, cut_right, glued, spent_view}
use Rattle.shared_memory.specs.Rule.{Fits, HasSeat, Kept, Rests}

abbrev pick : {P : Type 0} → Dec P → ℕ → ℕ → ℕ
pick (yes _) a b = a
pick (no _) a b = b

put : (ℕ → ℕ) → ℕ → ℕ → ℕ → ℕ
put f i c j = pick (ℕ_discrete j i) c (f j)

put_here : (f : ℕ → ℕ) (i c j : ℕ) → j ≡ i → put f i c j ≡ c
unfolding put
put_here f i c j is = go (ℕ_discrete j i)
  where
    go : (d : Dec (j ≡ i)) → pick d c (f j) ≡ c
    go (yes _) = refl
    go (no n) = absurd (n is)

put_else : (f : ℕ → ℕ) (i c j : ℕ) → j ≢ i → put f i c j ≡ f j
unfolding put
put_else f i c j other = go (ℕ_discrete j i)
  where
    go : (d : Dec (j ≡ i)) → pick d c (f j) ≡ f j
    go (yes e) = absurd (other e)
    go (no _) = refl

module _ {A : Type 0} where
  at_end : (l : List A) (a b : A) (j : ℕ) → get_elem? (l ++ a ∷ []) j ≡ some b → (get_elem? l j ≡ some b) ⊎ ((j ≡ length l) × (a ≡ b))
  at_end [] a b zero e = inr (refl, some-injective a b e)
  at_end [] a b (suc j) e = absurd (some-ne-none b (sym e))
  at_end (x ∷ xs) a b zero e = inl e
  at_end (x ∷ xs) a b (suc j) e = ⊎_elim (λ h. inl h) (λ t. inr (ap suc t.0, t.1)) (at_end xs a b j e)

  at_append : (l m : List A) (b : A) (j : ℕ) → get_elem? (l ++ m) j ≡ some b → (get_elem? l j ≡ some b) ⊎ ((i : ℕ) × (get_elem? m i ≡ some b))
  at_append [] m b j e = inr (j, e)
  at_append (x ∷ xs) m b zero e = inl e
  at_append (x ∷ xs) m b (suc j) e = at_append xs m b j e

glued_root : (a b : Bool) (m n made : ℕ) (P : Type 0) → (a ≡ true → P × (m ≡ made)) → (b ≡ true → P × (n ≡ made)) → (if a then true else b) ≡ true → P × ((if a then m else n) ≡ made)
glued_root true b m n made P x y is = x refl
glued_root false b m n made P x y is = y is

module _ {C S W : Type 0} where
  from_other : (setup : Setup) (state : RunState S W) (owner : ℕ → ℕ) (made rooted other : ℕ) (w : View C S W) → Fits setup state owner made rooted other w → rests w.machine.phase ≡ true
      → (i : ℕ) (g : Gathered) → get_elem? (record { seat = w.machine.seat; receipts = w.receipts } ∷ w.gathered) i ≡ some g → (owner g.seat ≡ other) × (g.seat ≤ made) × Rests state g.seat g.receipts
  from_other setup state owner made rooted other w h idle zero g e =
      subst (λ (x : Gathered). (owner x.seat ≡ other) × (x.seat ≤ made) × Rests state x.seat x.receipts) (some-injective _ g e) (h.mine, h.low, record { mech = w.machine; has = h.has; idle = idle })
  from_other setup state owner made rooted other w h idle (suc i) g e = let o = h.others i g e in (o.0, o.2, o.3)

module _ {C S W : Type 0} (form : NormalForm S W) (setup : Setup) where
  pub splits : (id : ℕ) (v : View C S W) → v.live ≡ true → v.root ≡ true → v.made + 1 < v.machine.setup.seats → Splits (Kept form setup) id v (cut_left v) (cut_right v)
  splits id v live root room s k at =
      let state = run_of form setup k.moves in
      let f = k.fits id v at live in
      let r = f.root root in
      let made' : v.made ≡ k.made = r.1 in
      let new = length (slice_set s.views id (cut_left v)) in
      let owner = put k.owner (k.made + 1) new in
      let keep : (x : ℕ) → x ≤ k.made → owner x ≡ k.owner x = λ x low. put_else k.owner (k.made + 1) new x (omega (arith, low)) in
      let others : (j seat : ℕ) (g : Gathered) → (k.owner g.seat ≡ j) × (g.seat ≢ seat) × (g.seat ≤ k.made) × Rests state g.seat g.receipts → (owner g.seat ≡ j) × (g.seat ≢ seat) × (g.seat ≤ k.made + 1) × Rests state g.seat g.receipts
      = λ j seat g o. (keep g.seat o.2 ∙ o.0, o.1, (let low = o.2 in omega (arith, low)), o.3) in
      record {
        moves = k.moves;
        are = k.are;
        words = k.words;
        made = k.made + 1;
        rooted = k.rooted;
        owner = owner;
        fits = λ j u at' live'. ⊎_elim
            (λ old. ⊎_elim
            (λ t. subst (λ (i : ℕ). Fits setup state owner (k.made + 1) k.rooted i u) (sym t.0) (subst (λ (x : View C S W). Fits setup state owner (k.made + 1) k.rooted id x) t.1 (record {
              of_run = f.of_run;
              mine = keep v.machine.seat f.low ∙ f.mine;
              low = (let low = f.low in omega (arith, low));
              has = f.has;
              others = λ i g h. others id v.machine.seat g (f.others i g h);
              root = λ is. (r.0, ap (λ (n : ℕ). n + 1) r.1);
            })))
            (λ t. let h = k.fits j u t.1 live' in record {
              of_run = h.of_run;
              mine = keep u.machine.seat h.low ∙ h.mine;
              low = (let low = h.low in omega (arith, low));
              has = h.has;
              others = λ i g e. others j u.machine.seat g (h.others i g e);
              root = λ is. absurd (t.0 (sym (h.root is).0 ∙ r.0));
            })
            (at_set s.views id j (cut_left v) u old))
            (λ t. subst (λ (i : ℕ). Fits setup state owner (k.made + 1) k.rooted i u) (sym t.0) (subst (λ (x : View C S W). Fits setup state owner (k.made + 1) k.rooted new x) t.1 (record {
              of_run = f.of_run;
              mine = put_here k.owner (k.made + 1) new (v.made + 1) (omega (arith, made'));
              low = omega (arith, made');
              has = subst (λ (x : Setup). HasSeat state (v.made + 1) (mech_new (v.made + 1) x) []) (sym f.of_run)
                  (k.fresh_above (v.made + 1) (omega (arith, made')) (subst (λ (x : Setup). v.made + 1 < x.seats) f.of_run room));
              others = λ i g none_there. absurd (some-ne-none g (sym none_there));
              root = λ no_root. absurd (false≢true no_root);
            })))
            (at_end (slice_set s.views id (cut_left v)) (cut_right v) u j at');
        fresh_above = λ i above below. k.fresh_above i (omega (arith, above)) below;
      }

  pub joins : (id other : ℕ) (v w : View C S W) → v.live ≡ true → w.live ≡ true → rests w.machine.phase ≡ true → Joins (Kept form setup) id v other w (glued v w) spent_view
  joins id other v w live live_w idle s k at apart at_w =
      let state = run_of form setup k.moves in
      let f = k.fits id v at live in
      let there : get_elem? s.views other ≡ some w = sym (set_else s.views id other (glued v w) apart) ∙ at_w in
      let h = k.fits other w there live_w in
      let to : ℕ → ℕ = put (λ x. x) other id in
      let stay : (x j : ℕ) → x ≡ j → j ≢ other → to x ≡ j = λ x j e ne. put_else (λ y. y) other id x (λ o. ne (sym e ∙ o)) ∙ e in
      let moves : (x : ℕ) → x ≡ other → to x ≡ id = λ x e. put_here (λ y. y) other id x e in
      let differ : (x y : ℕ) → k.owner x ≡ other → k.owner y ≡ id → x ≢ y = λ x y a b e. apart (sym a ∙ (ap k.owner e ∙ b)) in
      record {
        moves = k.moves;
        are = k.are;
        words = k.words;
        made = k.made;
        rooted = to k.rooted;
        owner = λ x. to (k.owner x);
        fits = λ j u at' live'. ⊎_elim
            (λ t. absurd (false≢true (ap (λ (x : View C S W). x.live) t.1 ∙ live')))
            (λ t. ⊎_elim
            (λ q. subst (λ (i : ℕ). Fits setup state (λ x. to (k.owner x)) k.made (to k.rooted) i u) (sym q.0) (subst (λ (x : View C S W). Fits setup state (λ x. to (k.owner x)) k.made (to k.rooted) id x) q.1 (record {
              of_run = f.of_run;
              mine = stay (k.owner v.machine.seat) id f.mine (λ e. apart (sym e));
              low = f.low;
              has = f.has;
              others = λ i g e. ⊎_elim
                  (λ here. let o = f.others i g here in (stay (k.owner g.seat) id o.0 (λ e. apart (sym e)), o.1, o.2, o.3))
                  (λ later.
                  let p = from_other setup state k.owner k.made k.rooted other w h idle later.0 g later.1 in
                  (moves (k.owner g.seat) p.0, differ g.seat v.machine.seat p.0 f.mine, p.1, p.2))
                  (at_append v.gathered (record { seat = w.machine.seat; receipts = w.receipts } ∷ w.gathered) g i e);
              root = glued_root v.root w.root v.made w.made k.made (to k.rooted ≡ id) (λ e. let r = f.root e in (stay k.rooted id r.0 (λ o. apart (sym o)), r.1)) (λ e. let r = h.root e in (moves k.rooted r.0, r.1));
            })))
            (λ q. let z = k.fits j u q.1 live' in record {
              of_run = z.of_run;
              mine = stay (k.owner u.machine.seat) j z.mine t.0;
              low = z.low;
              has = z.has;
              others = λ i g e. let o = z.others i g e in (stay (k.owner g.seat) j o.0 t.0, o.1, o.2, o.3);
              root = λ is. let r = z.root is in (stay k.rooted j r.0 t.0, r.1);
            })
            (at_set s.views id j (glued v w) u t.1))
            (at_set (slice_set s.views id (glued v w)) other j spent_view u at');
        fresh_above = k.fresh_above;
      }
