-- The rule holds as the table opens: of no move.
use Rattle.std.proofs.Common.{arith, ◌≡◌, ◌∙◌, refl, sym, subst, ap, ℕ, zero, suc, ◌<◌, List, [], ◌∷◌, length, map, Some}
use Rattle.std.specs.List.{range_with_len}
use Rattle.std.proofs.lemmas.Option.{slice_get-get_or}
use Rattle.std.proofs.lemmas.List.FromFn.{get_or-map-range_with_len, length-map-range_with_len}
use mathlib.Core.Option.{some, some-injective, some-ne-none}
use lib.ListN.{get_elem?}
use Rattle.atomic_table.specs.Table as table
use Rattle.node_arena.specs.Opening.{opening_words}
use Rattle.normal_traits.specs.NormalForm.{NormalForm}
use Rattle.fast_slow_engine.specs.declared.setup.Setup.{Setup}
use Rattle.fast_slow_engine.specs.Mechs.{Mech}
use Rattle.fast_slow_engine.specs.PhaseTable.{mech_new}
use Rattle.fast_slow_engine.specs.Runs.{opening_run}
use Rattle.shared_memory.specs.declared.view.View.{View}
use Rattle.shared_memory.specs.Views.{first_view}
use Rattle.shared_memory.specs.Rule.{Fits, HasSeat, Kept}

module _ {S W : Type 0} (form : NormalForm S W) where
  -- a run as it opens has each seat as new
  opens_seat : (setup : Setup) (k : ℕ) → k < setup.seats → HasSeat (opening_run form setup) k (mech_new k setup) []
  opens_seat setup k below =
      let make : ℕ → Mech S W = λ seat. mech_new seat setup in
      let mechs = map make (range_with_len 0 setup.seats) in
      let long : length mechs ≡ setup.seats = length-map-range_with_len make 0 setup.seats in
      record {
        machine = slice_get-get_or mechs k (make k) (omega (arith, long, below)) ∙ ap Some (get_or-map-range_with_len make 0 setup.seats k k (make k) below (omega arith));
        lines = refl;
      }

module _ {C S W : Type 0} (form : NormalForm S W) where
  only_first : (u v : View C S W) (j : ℕ) → get_elem? (u ∷ []) j ≡ some v → (j ≡ 0) × (u ≡ v)
  only_first u v zero e = (refl, some-injective u v e)
  only_first u v (suc j) e = absurd (some-ne-none v (sym e))

  pub opens : (setup : Setup) (ws : List ℕ) → ws ≡ opening_words form.opening setup.cap → Kept form setup (table.opening ws [] (first_view {C = C} {S = S} {W = W} setup))
  opens setup ws is = record {
    moves = [];
    are = tt;
    words = sym is;
    made = 0;
    rooted = 0;
    owner = λ k. 0;
    fits = λ j v at live. let o = only_first (first_view setup) v j at in
        let state = opening_run form setup in
        subst (λ (i : ℕ). Fits setup state (λ k. 0) 0 0 i v) (sym o.0) (subst (λ (u : View C S W). Fits setup state (λ k. 0) 0 0 0 u) o.1 (record {
          of_run = refl;
          mine = refl;
          low = omega arith;
          has = opens_seat form setup 0 (let some = setup.some_seat in omega (arith, some));
          others = λ k g none_there. absurd (some-ne-none g (sym none_there));
          root = λ is. (refl, refl);
        }));
    fresh_above = λ k above below. opens_seat form setup k below;
  }
