-- What a call has written and opened, by its status.
use Rattle.std.proofs.Common.{◌≡◌, ◌≢◌, ◌↔◌, ℕ, ◌⊎◌, Bool, List, Option, Some, None, Result, Ok, Err, IfOk, IfErr, IsSomeAnd, inl, inr, refl, sym, ap, ◌∙◌, rules, arith}
use Rattle.std.specs.Io.KnownBytes.{Appends}
use Rattle.whole_files.specs.Outside.{Opening, AppendsPrefix, WritesMessage}
use Rattle.report_check.specs.declared.verdicts.Verdict.{Verdict}
use Rattle.report_check.specs.declared.verdicts.Verdict.TheVariants.{Legal, NotLegal}
use Rattle.report_check.specs.Sayings.{verdict_text}
use Rattle.checking.specs.declared.checked.CheckedFile.{CheckedFile}
use Rattle.checking.specs.declared.checked.CheckedFile.TheVariants as file
use Rattle.checking.specs.declared.checked.NotAccepted.{NotAccepted}
use Rattle.checking.specs.declared.stops.Stop.{Stop}
use Rattle.checking.specs.declared.stops.Stop.TheVariants.{Usage, Refused, ReadFault, NoMemory}
use Rattle.checking.specs.Checking.{Ends, IsVerdictOn, OpensFor, StopsFor, Tells, verdict_status}
use Rattle.checking.specs.Checking.Tells.{wrote, failed}
use Rattle.checking.specs.Reading.{Opens, Reaches, Refuses}
use Rattle.checking.specs.Stops.{file_of, refused_message, status_of, unread_message}
use Rattle.checking.specs.Words.{Check}

there-weaker : {X : Type 0} (P Q : X → Type 0) → ((x : X) → P x → Q x) → (o : Option X) → IsSomeAnd o P → IsSomeAnd o Q
there-weaker P Q f None h = h
there-weaker P Q f (Some x) h = f x h

not_none : (check : Check) → Some check ≡ None → ⊥
not_none check h = absurd (search rules)

-- a stop has none of the statuses of a verdict
stop_status : (stop : Stop) (n : ℕ) → n ≡ status_of stop → (n ≢ 0) × (n ≢ 5) × (n ≢ 8)
stop_status Usage n is = (omega (arith, is), omega (arith, is), omega (arith, is))
stop_status (Refused why) n is = (omega (arith, is), omega (arith, is), omega (arith, is))
stop_status (ReadFault at) n is = (omega (arith, is), omega (arith, is), omega (arith, is))
stop_status NoMemory n is = (omega (arith, is), omega (arith, is), omega (arith, is))

not_verdict : (stop : Stop) (n : ℕ) → n ≡ status_of stop → (n ≡ 0) ⊎ (n ≡ 5) ⊎ (n ≡ 8) → ⊥
not_verdict stop n is h =
    let none = stop_status stop n is in
    elim h [ inl a ↦ none.0 a | inr b ↦ elim b [ inl a ↦ none.1 a | inr a ↦ none.2 a ] ]

-- the status of a verdict is that of no stop and of no fault
told_status : (it : Verdict) (n : ℕ) → n ≡ verdict_status it → (n ≡ 0) ⊎ (n ≡ 8)
told_status Legal n is = inl is
told_status (NotLegal objection) n is = inr is

not_five : (it : Verdict) (n : ℕ) → n ≡ verdict_status it → n ≡ 5 → ⊥
not_five it n is five = elim (told_status it n is) [ inl a ↦ omega (arith, a, five) | inr a ↦ omega (arith, a, five) ]

module _ (written written' : Option (List ℕ)) (faults faults' status : ℕ) where
  -- a call that wrote a verdict has the status of no message
  no_message : (it : Verdict) (n : ℕ) → Tells written written' faults faults' status it → status ≡ n → n ≢ 0 → n ≢ 5 → n ≢ 8 → ⊥
  no_message it n (failed is prefix rose) at none five eight = five (sym at ∙ is)
  no_message it n (wrote is appends calm) at none five eight = elim (told_status it status is) [ inl a ↦ none (sym at ∙ a) | inr a ↦ eight (sym at ∙ a) ]

  module _ (tells : Bool) (held : List ℕ → Option (List ℕ)) where
    abbrev Judges : Option Check → Result Verdict Stop → Type 0
    Judges words answer = IfOk answer (λ it. IsSomeAnd words (λ check. IsVerdictOn tells held check it))

    -- a verdict was written whole
    pub judged : (words : Option Check) (answer : Result Verdict Stop) → Judges words answer → Ends written written' faults faults' status answer → (status ≡ 0) ⊎ (status ≡ 8)
        → IsSomeAnd words (λ check. (it : Verdict) × IsVerdictOn tells held check it × (status ≡ verdict_status it) × Appends written written' (verdict_text it))
    judged words (Err stop) judges ends h = absurd (not_verdict stop status ends.0 (elim h [ inl a ↦ inl a | inr a ↦ inr (inr a) ]))
    judged words (Ok it) judges (failed five prefix rose) h = absurd (elim h [ inl a ↦ omega (arith, five, a) | inr a ↦ omega (arith, five, a) ])
    judged words (Ok it) judges (wrote is appends calm) h = there-weaker _ _ (λ (check : Check) (v : IsVerdictOn tells held check it). (it, v, is, appends)) words judges

    -- the first bytes of a verdict were written
    pub cut : (words : Option Check) (answer : Result Verdict Stop) → Judges words answer → Ends written written' faults faults' status answer → status ≡ 5
        → IsSomeAnd words (λ check. (it : Verdict) × IsVerdictOn tells held check it × AppendsPrefix written written' (verdict_text it))
    cut words (Err stop) judges ends five = absurd (not_verdict stop status ends.0 (inr (inl five)))
    cut words (Ok it) judges (wrote is appends calm) five = absurd (not_five it status is five)
    cut words (Ok it) judges (failed is prefix rose) five = there-weaker _ _ (λ (check : Check) (v : IsVerdictOn tells held check it). (it, v, prefix)) words judges

    not_usage : (check : Check) (answer : Result Verdict Stop) → IfErr answer (StopsFor tells held (Some check)) → Ends written written' faults faults' status answer → status ≡ 2 → ⊥
    not_usage check (Ok it) stops ends two = no_message it 2 ends two (omega arith) (omega arith) (omega arith)
    not_usage check (Err Usage) stops ends two = absurd stops
    not_usage check (Err (Refused why)) stops ends two = omega (arith, ends.0, two)
    not_usage check (Err (ReadFault at)) stops ends two = omega (arith, ends.0, two)
    not_usage check (Err NoMemory) stops ends two = omega (arith, ends.0, two)

    pub usage : (words : Option Check) (answer : Result Verdict Stop) → Judges words answer → IfErr answer (StopsFor tells held words) → Ends written written' faults faults' status answer → (status ≡ 2) ↔ (words ≡ None)
    usage None (Ok it) judges stops ends = absurd judges
    usage None (Err stop) judges stops ends = (λ _. refl, λ _. ends.0 ∙ ap status_of stops)
    usage (Some check) answer judges stops ends = (λ two. absurd (not_usage check answer stops ends two), λ none. absurd (not_none check none))

    module _ (read : ℕ) (before now : List Opening) where
      pub both_opened : (words : Option Check) (answer : Result Verdict Stop) → Judges words answer → OpensFor words read before now answer → Ends written written' faults faults' status answer
          → (status ≡ 0) ⊎ (status ≡ 5) ⊎ (status ≡ 8) → IsSomeAnd words (λ check. Opens check file.Order read before now)
      both_opened words (Err stop) judges opens ends h = absurd (not_verdict stop status ends.0 h)
      both_opened None (Ok it) judges opens ends h = judges
      both_opened (Some check) (Ok it) judges opens ends h = opens

      pub none_opened : (words : Option Check) (answer : Result Verdict Stop) → IfErr answer (StopsFor tells held words) → OpensFor words read before now answer → Ends written written' faults faults' status answer
          → status ≡ 2 → now ≡ before
      none_opened None answer stops opens ends two = opens
      none_opened (Some check) answer stops opens ends two = absurd (not_usage check answer stops ends two)

      pub some_opened : (words : Option Check) (answer : Result Verdict Stop) → IfErr answer (StopsFor tells held words) → OpensFor words read before now answer → Ends written written' faults faults' status answer
          → status ≡ 6 → IsSomeAnd words (λ check. (last : CheckedFile) × Opens check last read before now)
      some_opened words (Ok it) stops opens ends six = absurd (no_message it 6 ends six (omega arith) (omega arith) (omega arith))
      some_opened None (Err stop) stops opens ends six = let is : status ≡ 2 = ends.0 ∙ ap status_of stops in absurd (omega (arith, is, six))
      some_opened (Some check) (Err Usage) stops opens ends six = absurd stops
      some_opened (Some check) (Err (Refused why)) stops opens ends six = absurd (omega (arith, ends.0, six))
      some_opened (Some check) (Err (ReadFault at)) stops opens ends six = absurd (omega (arith, ends.0, six))
      some_opened (Some check) (Err NoMemory) stops opens ends six = opens

      -- a file is refused
      abbrev IsRefused : Check → Type 0
      IsRefused check = (why : NotAccepted) × Refuses tells held check why × Opens check (file_of why) read before now × WritesMessage written written' faults faults' (refused_message why)

      pub refused : (words : Option Check) (answer : Result Verdict Stop) → IfErr answer (StopsFor tells held words) → OpensFor words read before now answer → Ends written written' faults faults' status answer
          → status ≡ 3 → IsSomeAnd words IsRefused
      refused words (Ok it) stops opens ends three = absurd (no_message it 3 ends three (omega arith) (omega arith) (omega arith))
      refused None (Err stop) stops opens ends three = let is : status ≡ 2 = ends.0 ∙ ap status_of stops in absurd (omega (arith, is, three))
      refused (Some check) (Err Usage) stops opens ends three = absurd stops
      refused (Some check) (Err (Refused why)) stops opens ends three = (why, stops, opens, ends.1)
      refused (Some check) (Err (ReadFault at)) stops opens ends three = absurd (omega (arith, ends.0, three))
      refused (Some check) (Err NoMemory) stops opens ends three = absurd (omega (arith, ends.0, three))

      -- a file couldn't be read
      abbrev IsUnread : Check → Type 0
      IsUnread check = (unread : CheckedFile) × Reaches tells held check unread × Opens check unread read before now × WritesMessage written written' faults faults' (unread_message unread)

      pub unread : (words : Option Check) (answer : Result Verdict Stop) → IfErr answer (StopsFor tells held words) → OpensFor words read before now answer → Ends written written' faults faults' status answer
          → status ≡ 4 → IsSomeAnd words IsUnread
      unread words (Ok it) stops opens ends four = absurd (no_message it 4 ends four (omega arith) (omega arith) (omega arith))
      unread None (Err stop) stops opens ends four = let is : status ≡ 2 = ends.0 ∙ ap status_of stops in absurd (omega (arith, is, four))
      unread (Some check) (Err Usage) stops opens ends four = absurd stops
      unread (Some check) (Err (Refused why)) stops opens ends four = absurd (omega (arith, ends.0, four))
      unread (Some check) (Err (ReadFault at)) stops opens ends four = (at, stops, opens, ends.1)
      unread (Some check) (Err NoMemory) stops opens ends four = absurd (omega (arith, ends.0, four))
