-- The calls in rising order of begin, taken one at a time: the call with the least begin comes first.
use Rattle.std.proofs.Common.{◌≡◌, ℕ, ◌<◌, List, [], ◌∷◌, ◌++◌, true, false, nat_lt, cond, le-ltb, lt-ltb, refl, ap, ◌∙◌, arith}
use Rattle.std.specs.List.{AllByRecursion}
use Rattle.lin_report.specs.Calls.{Call}
use Rattle.lin_report.specs.Text.{insert_call, by_begin}

-- each of the calls began after this tick
abbrev pub IsBelowAll : ℕ → List Call → Type 0
IsBelowAll tick calls = AllByRecursion (λ c. tick < c.begin) calls

insert_call-first : (c : Call) (calls : List Call) → IsBelowAll c.begin calls → insert_call c calls ≡ c ∷ calls
insert_call-first c [] below = refl
insert_call-first c (d ∷ calls) below = rw (le-ltb d.begin c.begin (omega (arith, below.0))) refl

IsBelowAll-insert : (tick : ℕ) (c : Call) (calls : List Call) → tick < c.begin → IsBelowAll tick calls → IsBelowAll tick (insert_call c calls)
IsBelowAll-insert tick c [] first below = (first, tt)
IsBelowAll-insert tick c (d ∷ calls) first below =
    elim (nat_lt d.begin c.begin) as (λ b. IsBelowAll tick (cond b (d ∷ insert_call c calls) (c ∷ d ∷ calls))) [
      | true ↦ (below.0, IsBelowAll-insert tick c calls first below.1)
      | false ↦ (first, below)
    ]

IsBelowAll-by_begin : (tick : ℕ) (calls : List Call) → IsBelowAll tick calls → IsBelowAll tick (by_begin calls)
unfolding by_begin
IsBelowAll-by_begin tick [] below = tt
IsBelowAll-by_begin tick (c ∷ calls) below = IsBelowAll-insert tick c (by_begin calls) below.0 (IsBelowAll-by_begin tick calls below.1)

pub by_begin-first : (c : Call) (calls : List Call) → IsBelowAll c.begin calls → by_begin (c ∷ calls) ≡ c ∷ by_begin calls
unfolding by_begin
by_begin-first c calls below = insert_call-first c (by_begin calls) (IsBelowAll-by_begin c.begin calls below)

pub by_begin-later : (calls : List Call) (c : Call) (more : List Call) → IsBelowAll c.begin calls → IsBelowAll c.begin more → by_begin (calls ++ c ∷ more) ≡ c ∷ by_begin (calls ++ more)
unfolding by_begin
by_begin-later [] c more here below = by_begin-first c more below
by_begin-later (d ∷ calls) c more here below =
    ap (insert_call d) (by_begin-later calls c more here.1 below) ∙ rw (lt-ltb c.begin d.begin here.0) refl
