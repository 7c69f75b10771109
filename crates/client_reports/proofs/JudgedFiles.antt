-- Files judged one after the other.
use Rattle.std.proofs.Common.{◌≡◌, ℕ, ◌+◌, ◌-◌, ◌<◌, ◌≤◌, ◌==◌, cond, List, [], ◌∷◌, ◌++◌, length, get_or, Option, Some, None, Result, Ok, Err, IfErr, IsSomeAnd, sym, ap, ◌∙◌, subst, arith, inl, inr, false, length-append}
use Rattle.std.specs.Result.{result_err}
use Rattle.std.proofs.Math.Seq.{get_or-append_seam}
use Rattle.std.proofs.lemmas.Bool.{cases_lt}
use Rattle.std.proofs.lemmas.Bool.Decides.{nat_tests}
use Rattle.std.proofs.lemmas.List.{get_or_append_left}
use Rattle.lin_report.specs.declared.calls.Op.{Op}
use Rattle.script_reader.specs.declared.causes.Refusal.{Refusal}
use Rattle.script_reader.specs.declared.schedules.ScheduleEntry.{ScheduleEntry}
use Rattle.script_reader.specs.Schedules.{schedule_outcome}
use Rattle.script_reader.specs.Scripts.{script_outcome}
use Rattle.lin_report.specs.declared.calls.Client.{Client}
use Rattle.client_reports.specs.Judging.{refusal_in, AcceptedBefore, IsFirstRefused, SayFirst}

-- what follows of a value that is there
pub there-weaker : {X : Type 0} (P Q : X → Type 0) → ((x : X) → P x → Q x) → (o : Option X) → IsSomeAnd o P → IsSomeAnd o Q
there-weaker P Q f None h = h
there-weaker P Q f (Some x) h = f x h

-- a number above 0 is not that of the schedule
pub counted : (k : ℕ) → (k + 1 == 0) ≡ false
counted k = grind (arith, nat_tests)

pub back : (k : ℕ) → k + 1 - 1 ≡ k
back k = omega arith

module _ (client : Client) (seats : ℕ) (files : ℕ → Option (List ℕ)) where
  -- one command file more
  pub say_more : (commands : List (List Op)) (ops : List Op) → SayFirst client seats files commands → IsSomeAnd (files (length commands + 1)) (λ bytes. script_outcome client bytes ≡ Ok ops) → SayFirst client seats files (commands ++ ops ∷ [])
  say_more commands ops say more k below =
      elim (cases_lt k (length commands)) [
        | inl earlier ↦ subst (λ (o : List Op). IsSomeAnd (files (k + 1)) (λ bytes. script_outcome client bytes ≡ Ok o)) (sym (get_or_append_left commands (ops ∷ []) [] k earlier)) (say k earlier)
        | inr later ↦
            let last : length commands ≡ k = omega (arith, length-append commands (ops ∷ []), below, later) in
            subst (λ n. IsSomeAnd (files (n + 1)) (λ bytes. script_outcome client bytes ≡ Ok (get_or (commands ++ ops ∷ []) n []))) last
            (subst (λ (o : List Op). IsSomeAnd (files (length commands + 1)) (λ bytes. script_outcome client bytes ≡ Ok o)) (sym (get_or-append_seam commands ops [] [])) more)
      ]

  -- how the bytes of a command file are judged, by the number above its place
  refusal_at : (k : ℕ) (bytes : List ℕ) (o : Option Refusal) → result_err (script_outcome client bytes) ≡ o → refusal_in client seats (k + 1) bytes ≡ o
  refusal_at k bytes o h = ap (λ b. cond b (result_err (schedule_outcome seats bytes)) (result_err (script_outcome client bytes))) (counted k) ∙ h

  -- the first command files are accepted
  pub commands_accepted : (commands : List (List Op)) → SayFirst client seats files commands → AcceptedBefore client seats files 1 (length commands + 1)
  commands_accepted commands say earlier from below =
      let k : ℕ = earlier - 1 in
      let within : k < length commands = omega (arith, below, from) in
      let is : k + 1 ≡ earlier = omega (arith, from) in
      subst (λ n. IsSomeAnd (files n) (λ bytes. refusal_in client seats n bytes ≡ None)) is
      (there-weaker _ _ (λ bytes h. refusal_at k bytes None (ap result_err h)) (files (k + 1)) (say k within))

  -- and the next one is refused
  pub refused_next : (commands : List (List Op)) (refusal : Refusal) → SayFirst client seats files commands → length commands + 1 ≤ seats
      → IsSomeAnd (files (length commands + 1)) (λ bytes. script_outcome client bytes ≡ Err refusal) → IsFirstRefused client seats files 1 (length commands + 1) refusal
  refused_next commands refusal say within h = record {
    from = omega arith;
    within = within;
    refused = there-weaker _ _ (λ bytes e. refusal_at (length commands) bytes (Some refusal) (ap result_err e)) (files (length commands + 1)) h;
    before = commands_accepted commands say;
  }

  module _ (entries : List ScheduleEntry) (schedule : IsSomeAnd (files 0) (λ bytes. schedule_outcome seats bytes ≡ Ok entries)) where
    -- with the schedule in front
    pub after_schedule : (file : ℕ) → AcceptedBefore client seats files 1 file → AcceptedBefore client seats files 0 file
    after_schedule file each earlier from below =
        elim (cases_lt earlier 1) [
          | inl first ↦
              let none : 0 ≡ earlier = omega (arith, first) in
              subst (λ n. IsSomeAnd (files n) (λ bytes. refusal_in client seats n bytes ≡ None)) none (there-weaker _ _ (λ bytes h. ap result_err h) (files 0) schedule)
          | inr later ↦ each earlier later below
        ]

    pub accepted_before : (commands : List (List Op)) → SayFirst client seats files commands → AcceptedBefore client seats files 0 (length commands + 1)
    accepted_before commands say = after_schedule (length commands + 1) (commands_accepted commands say)

    pub refused_after : (file : ℕ) (refusal : Refusal) → IsFirstRefused client seats files 1 file refusal → IsFirstRefused client seats files 0 file refusal
    refused_after file refusal h = record { from = omega arith; within = h.within; refused = h.refused; before = after_schedule file h.before }

  pub refused_schedule : (refusal : Refusal) → IsSomeAnd (files 0) (λ bytes. schedule_outcome seats bytes ≡ Err refusal) → IsFirstRefused client seats files 0 0 refusal
  refused_schedule refusal h = record {
    from = omega arith;
    within = omega arith;
    refused = there-weaker _ _ (λ bytes e. ap result_err e) (files 0) h;
    before = λ earlier from below. absurd (omega (arith, below));
  }

-- what holds of the error of a result
pub told_err : {X E : Type 0} (P : E → Type 0) (r : Result X E) (e : E) → r ≡ Err e → P e → IfErr r P
told_err P (Ok x) e is h = tt
told_err P (Err d) e is h = let same : e ≡ d = cc in subst P same h
