-- A file that is too long is refused, however much of it was read.
use Rattle.std.proofs.Common.{◌≡◌, ℕ, ◌<◌, cond, List, length, take, sym, ap, ◌∙◌, arith, Option, Some, None, Result, Err, IsSomeAnd, ⊎_elim, length-take}
use Rattle.std.proofs.lemmas.Bool.{cases_lt, lt-ltb}
use Rattle.std.proofs.lemmas.List.{take_all}
use Rattle.lin_report.specs.declared.calls.Client.{Client}
use Rattle.script_reader.specs.declared.causes.Cause.{Cause}
use Rattle.script_reader.specs.declared.causes.Cause.TheVariants.{FileTooLong}
use Rattle.script_reader.specs.Words.{lines_of}
use Rattle.script_reader.specs.Outcomes.{file_outcome, lines_outcome}
use Rattle.script_reader.specs.Scripts.{script_outcome, command_of, COMMAND_LIMIT}
use Rattle.script_reader.specs.Schedules.{schedule_outcome, entry_of, ENTRY_LIMIT}

too_long : {X : Type 0} (entry : List (List ℕ) → Result X Cause) (limit : ℕ) (bytes : List ℕ) → 1048576 < length bytes → file_outcome entry limit bytes ≡ Err (record { line = 0; cause = FileTooLong })
too_long entry limit bytes long = ap (λ b. cond b (Err (record { line = 0; cause = FileTooLong })) (lines_outcome entry limit 1 0 (lines_of bytes))) (lt-ltb 1048576 (length bytes) long)

-- the bytes up to the one after the greatest length decide
cut_outcome : {X : Type 0} (entry : List (List ℕ) → Result X Cause) (limit : ℕ) (bytes : List ℕ) → file_outcome entry limit (take 1048577 bytes) ≡ file_outcome entry limit bytes
cut_outcome entry limit bytes =
    ⊎_elim
    (λ long. too_long entry limit (take 1048577 bytes) (omega (arith, length-take 1048577 bytes)) ∙ sym (too_long entry limit bytes long))
    (λ short. ap (file_outcome entry limit) (take_all 1048577 bytes (omega arith)))
    (cases_lt 1048576 (length bytes))

-- what was read of a file is judged as the file is
judged : {R : Type 0} (judge : List ℕ → R) (cut : (bytes : List ℕ) → judge (take 1048577 bytes) ≡ judge bytes) (held : Option (List ℕ)) (bytes : List ℕ) (o : R) → IsSomeAnd held (λ all. bytes ≡ take 1048577 all) → judge bytes ≡ o → IsSomeAnd held (λ all. judge all ≡ o)
judged judge cut None bytes o h e = h
judged judge cut (Some all) bytes o h e = sym (cut all) ∙ ap judge (sym h) ∙ e

pub judged_schedule : (seats : ℕ) (held : Option (List ℕ)) (bytes : List ℕ) (o : Result _ _) → IsSomeAnd held (λ all. bytes ≡ take 1048577 all) → schedule_outcome seats bytes ≡ o → IsSomeAnd held (λ all. schedule_outcome seats all ≡ o)
unfolding schedule_outcome
judged_schedule seats = judged (schedule_outcome seats) (λ bytes. cut_outcome (entry_of seats) ENTRY_LIMIT bytes)

pub judged_script : (client : Client) (held : Option (List ℕ)) (bytes : List ℕ) (o : Result _ _) → IsSomeAnd held (λ all. bytes ≡ take 1048577 all) → script_outcome client bytes ≡ o → IsSomeAnd held (λ all. script_outcome client all ≡ o)
unfolding script_outcome
judged_script client = judged (script_outcome client) (λ bytes. cut_outcome (command_of client) COMMAND_LIMIT bytes)
