use Rattle.std.proofs.Common.{◌≡◌, ◌++◌, length, append-nil, sym, ap, subst, arith, inl, inr}
use Rattle.std.proofs.lemmas.Bool.Decides.{nat_tests}
use Rattle.std.proofs.lemmas.Option.{slice_get_cases, slice_get_within}
use Rattle.fast_slow_engine.specs.OfferStores.{entry_stores}
use Rattle.fast_slow_engine.proofs.stores.store_entry.Goals as goal

pub returns-in_default : goal.returns-in_default
returns-in_default c =
    let test = c.in_default.ensures.lookup.0 in
    let long = ap length c.deref.ensures.0 in
    elim (slice_get_cases c.args.list.now.items c.args.j).1 [
      | inl has ↦ absurd (let within = slice_get_within c.args.list.now.items c.args.j has.0 has.2 in grind (arith, nat_tests, test, within, long))
      | inr past ↦ subst (λ o. c.args.stores.now.items ≡ c.args.stores.now.items ++ entry_stores c.args.block c.args.j o) (sym past.1) (sym (append-nil c.args.stores.now.items))
    ]
