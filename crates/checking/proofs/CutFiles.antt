-- What was read of a file, up to the byte after its limit, is judged as the file is.
use Rattle.std.proofs.Common.{◌≡◌, ℕ, ◌+◌, ◌<◌, ◌≤◌, cond, List, length, take, sym, ap, ◌∙◌, subst, arith, Option, Some, None, Result, Err, IsSomeAnd, ⊎_elim, length-take}
use Rattle.std.proofs.lemmas.Bool.{cases_lt, lt-ltb}
use Rattle.std.proofs.lemmas.List.{take_all}
use Rattle.script_reader.specs.declared.causes.Cause.TheVariants.{FileTooLong}
use Rattle.script_reader.specs.declared.causes.Refusal.{Refusal}
use Rattle.script_reader.specs.Words.{lines_of}
use Rattle.script_reader.specs.Outcomes.{lines_outcome}
use Rattle.report_check.specs.declared.orders.Named.{Named}
use Rattle.report_check.specs.Orders.{NAME_LIMIT, named_by, order_outcome}

-- a file of which no more was read than it may have was read whole
pub whole : (P : List ℕ → Type 0) (limit : ℕ) (held : Option (List ℕ)) (bytes : List ℕ) → IsSomeAnd held (λ all. bytes ≡ take (limit + 1) all) → length bytes ≤ limit → P bytes → IsSomeAnd held P
whole P limit None bytes h short p = h
whole P limit (Some all) bytes h short p =
    let fits : length all ≤ limit + 1 = omega (arith, ap length h, length-take (limit + 1) all, short) in
    subst P (h ∙ take_all (limit + 1) all fits) p

-- and one of which more was read is too long
pub long : (limit : ℕ) (held : Option (List ℕ)) (bytes : List ℕ) → IsSomeAnd held (λ all. bytes ≡ take (limit + 1) all) → limit < length bytes → IsSomeAnd held (λ all. limit < length all)
long limit None bytes h more = h
long limit (Some all) bytes h more = omega (arith, ap length h, length-take (limit + 1) all, more)

too_long : (bytes : List ℕ) → 4194304 < length bytes → order_outcome bytes ≡ Err (record { line = 0; cause = FileTooLong })
unfolding order_outcome
too_long bytes more = ap (λ b. cond b (Err (record { line = 0; cause = FileTooLong })) (lines_outcome named_by NAME_LIMIT 1 0 (lines_of bytes))) (lt-ltb 4194304 (length bytes) more)

-- the bytes up to the one after the limit decide what an order is
cut_order : (bytes : List ℕ) → order_outcome (take 4194305 bytes) ≡ order_outcome bytes
cut_order bytes =
    ⊎_elim
    (λ more. too_long (take 4194305 bytes) (omega (arith, length-take 4194305 bytes)) ∙ sym (too_long bytes more))
    (λ short. ap order_outcome (take_all 4194305 bytes (omega arith)))
    (cases_lt 4194304 (length bytes))

pub judged_order : (held : Option (List ℕ)) (bytes : List ℕ) (o : Result (List Named) Refusal) → IsSomeAnd held (λ all. bytes ≡ take 4194305 all) → order_outcome bytes ≡ o → IsSomeAnd held (λ all. order_outcome all ≡ o)
judged_order None bytes o h e = h
judged_order (Some all) bytes o h e = sym (cut_order all) ∙ ap order_outcome (sym h) ∙ e
