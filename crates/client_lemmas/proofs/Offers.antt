-- Offers, and the operations that make them.
use Rattle.std.proofs.Common.{◌≡◌, ◌≢◌, ℕ, ◌≤◌, true, not, eqb, ◌||◌, List, [], ◌∷◌, length, ap, ◌∙◌, arith}
use Rattle.std.specs.Prelude.{All, AllPairs}
use Rattle.std.proofs.lemmas.List.Elements.{All-nil, All-cons}
use Rattle.lin_report.specs.declared.calls.Op.{Op}
use Rattle.lin_report.specs.Commands.{may_exhaust}
use Rattle.normal_traits.specs.declared.lists.Entry.{Entry}
use Rattle.normal_traits.specs.World.{World}
use Rattle.normal_traits.specs.NormalForm.{NormalForm}
use Rattle.normal_traits.specs.Laws.{IsGoodEntry, IsGoodStore, IsGoodOffer}
use Rattle.std.proofs.lemmas.List.Kept.{AllPairs-cons}

-- an operation with a code other than those that change nothing may find no block
pub may_exhaust_at : (op : Op) (code : ℕ) → op.code ≡ code → not (eqb code 5 || eqb code 8 || eqb code 9 || eqb code 10) ≡ true → may_exhaust op ≡ true
may_exhaust_at op code e some = ap (λ c. not (eqb c 5 || eqb c 8 || eqb c 9 || eqb c 10)) e ∙ some

-- an offer of one good entry
pub one_entry : {S W : Type 0} (form : NormalForm S W) (world : World) (block : ℕ) (entry : Entry) (stores : List (ℕ × ℕ)) → IsGoodEntry form world entry → All (IsGoodStore form block) stores → AllPairs (λ (a b : ℕ × ℕ). a.0 ≢ b.0) stores → length stores ≤ 20
    → IsGoodOffer form world block (record { entries = entry ∷ []; stores = stores })
one_entry form world block entry stores good stored differ few =
    record {
      some = omega arith;
      few = omega arith;
      entries = All-cons (IsGoodEntry form world) entry [] good (All-nil (IsGoodEntry form world));
      apart = λ i j d order low. absurd (omega (arith, order, low));
      stores = stored;
      distinct = differ;
      count = few;
    }

-- two stores at different places
pub two_apart : (a b : ℕ × ℕ) → a.0 ≢ b.0 → AllPairs (λ (x y : ℕ × ℕ). x.0 ≢ y.0) (a ∷ b ∷ [])
two_apart a b apart = AllPairs-cons (λ (x y : ℕ × ℕ). x.0 ≢ y.0) a (b ∷ []) (All-cons (λ (y : ℕ × ℕ). a.0 ≢ y.0) b [] apart (All-nil (λ (y : ℕ × ℕ). a.0 ≢ y.0))) (λ i j d order low. absurd (omega (arith, order, low)))
