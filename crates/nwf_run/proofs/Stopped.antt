-- What a call comes to by its status, where it wrote no report.
use Rattle.std.proofs.Common.{◌≡◌, ◌≢◌, ℕ, ◌+◌, ◌⊎◌, ◌↔◌, Bool, true, false, List, Option, Some, None, Result, Ok, Err, IfOk, IfErr, IsSomeAnd, inl, inr, refl, rules, sym, ap, ◌∙◌, subst, arith}
use Rattle.script_reader.specs.declared.causes.Refusal.{Refusal}
use Rattle.client_reports.specs.declared.loading.Load.{Load}
use Rattle.client_reports.specs.declared.running.Replayed.{Replayed}
use Rattle.nwf_run.specs.declared.stops.Stop.{Stop}
use Rattle.nwf_run.specs.declared.stops.Stop.TheVariants.{Usage, Refused, ReadFault, NoMemory}
use Rattle.whole_files.specs.Outside.{Opening, WritesMessage}
use Rattle.nwf_run.specs.Reading.{Opens, Reaches, Refuses}
use Rattle.nwf_run.specs.Replaying.{Ends, Makes, OpensFor, OpensSome, Reports, StopsFor}
use Rattle.nwf_run.specs.Replaying.Reports.{wrote, failed}
use Rattle.command_line.specs.Lines.{unread_line}
use Rattle.nwf_run.specs.Stops.{status_of, refused_message}
use Rattle.nwf_run.specs.CommandLine.{Asked, Replay, Sweep, asked_of, files_asked}
use Rattle.nwf_run.specs.CommandLine.Asked.{a_replay, a_sweep, a_load, a_run}

-- where the words are those of a load, it is a load that is asked for
pub load_asked : (P : Asked → Type 0) (r : Option Replay) (s : Option Sweep) (l : Option Load) (load : Load) → r ≡ None → s ≡ None → l ≡ Some load → P (a_load load) → IsSomeAnd (asked_of r s l) P
load_asked P r s l load none without some made =
    subst (λ o. IsSomeAnd (asked_of o s l) P) (sym none) (subst (λ o. IsSomeAnd (asked_of None o l) P) (sym without) (subst (λ o. IsSomeAnd (asked_of None None o) P) (sym some) made))

not_none : (a : Asked) → Some a ≡ None → ⊥
not_none a h = absurd (search rules)

module _ (written written' : Option (List ℕ)) (faults faults' status : ℕ) where
  report_status : (text : List ℕ) (mark : Bool) → Reports written written' faults faults' status text mark → (status ≡ 0) ⊎ ((status ≡ 5) ⊎ (status ≡ 7))
  report_status text true (wrote is appends calm) = inr (inr is)
  report_status text false (wrote is appends calm) = inl is
  report_status text mark (failed is prefix rose) = inr (inl is)

  -- a call that wrote a report has the status of no message
  no_message : (text : List ℕ) (mark : Bool) (n : ℕ) → Reports written written' faults faults' status text mark → status ≡ n → n ≢ 0 → n ≢ 5 → n ≢ 7 → ⊥
  no_message text mark n reports is none five seven =
      elim (report_status text mark reports) [ inl a ↦ none (sym is ∙ a) | inr b ↦ elim b [ inl c ↦ five (sym is ∙ c) | inr d ↦ seven (sym is ∙ d) ] ]

  module _ (tells : Bool) (held : List ℕ → Option (List ℕ)) where
    abbrev Made : Option Asked → Result Replayed Stop → Type 0
    Made words answer = IfOk answer (λ made. IsSomeAnd words (λ a. Makes tells held a made.text.items made.exhausted))

    not_usage : (a : Asked) (answer : Result Replayed Stop) → IfErr answer (StopsFor tells held (Some a)) → Ends written written' faults faults' status answer → status ≡ 2 → ⊥
    not_usage a (Ok made) stops ends two = no_message made.text.items made.exhausted 2 ends two (omega arith) (omega arith) (omega arith)
    not_usage (a_replay r) (Err Usage) stops ends two = absurd stops
    not_usage (a_replay r) (Err (Refused file refusal)) stops ends two = omega (arith, ends.0, two)
    not_usage (a_replay r) (Err (ReadFault file)) stops ends two = omega (arith, ends.0, two)
    not_usage (a_replay r) (Err NoMemory) stops ends two = omega (arith, ends.0, two)
    not_usage (a_run r) (Err Usage) stops ends two = absurd stops
    not_usage (a_sweep s) (Err Usage) stops ends two = absurd stops
    not_usage (a_run r) (Err (Refused file refusal)) stops ends two = omega (arith, ends.0, two)
    not_usage (a_sweep s) (Err (Refused file refusal)) stops ends two = omega (arith, ends.0, two)
    not_usage (a_run r) (Err (ReadFault file)) stops ends two = omega (arith, ends.0, two)
    not_usage (a_sweep s) (Err (ReadFault file)) stops ends two = omega (arith, ends.0, two)
    not_usage (a_run r) (Err NoMemory) stops ends two = omega (arith, ends.0, two)
    not_usage (a_sweep s) (Err NoMemory) stops ends two = omega (arith, ends.0, two)
    not_usage (a_load l) (Err stop) stops ends two = let is : status ≡ 6 = ends.0 ∙ ap status_of stops in omega (arith, is, two)

    pub usage : (words : Option Asked) (answer : Result Replayed Stop) → Made words answer → IfErr answer (StopsFor tells held words) → Ends written written' faults faults' status answer → (status ≡ 2) ↔ (words ≡ None)
    usage None (Ok made) text stops ends = absurd text
    usage None (Err stop) text stops ends = (λ _. refl, λ _. ends.0 ∙ ap status_of stops)
    usage (Some a) answer text stops ends = (λ two. absurd (not_usage a answer stops ends two), λ none. absurd (not_none a none))

    module _ (read : ℕ) (before now : List Opening) where
      pub none_opened : (words : Option Asked) (answer : Result Replayed Stop) → IfErr answer (StopsFor tells held words) → OpensFor words read before now answer → Ends written written' faults faults' status answer
          → status ≡ 2 → now ≡ before
      none_opened None answer stops opens ends two = opens
      none_opened (Some (a_replay r)) answer stops opens ends two = absurd (not_usage (a_replay r) answer stops ends two)
      none_opened (Some (a_load l)) answer stops opens ends two = opens
      none_opened (Some (a_run r)) answer stops opens ends two = absurd (not_usage (a_run r) answer stops ends two)
      none_opened (Some (a_sweep s)) answer stops opens ends two = absurd (not_usage (a_sweep s) answer stops ends two)

      pub some_opened : (words : Option Asked) (answer : Result Replayed Stop) → IfErr answer (StopsFor tells held words) → OpensFor words read before now answer → Ends written written' faults faults' status answer
          → status ≡ 6 → IsSomeAnd words (λ a. OpensSome a read before now)
      some_opened words (Ok made) stops opens ends six = absurd (no_message made.text.items made.exhausted 6 ends six (omega arith) (omega arith) (omega arith))
      some_opened None (Err stop) stops opens ends six = let is : status ≡ 2 = ends.0 ∙ ap status_of stops in absurd (omega (arith, is, six))
      some_opened (Some (a_replay r)) (Err Usage) stops opens ends six = absurd stops
      some_opened (Some (a_replay r)) (Err (Refused file refusal)) stops opens ends six = absurd (omega (arith, ends.0, six))
      some_opened (Some (a_replay r)) (Err (ReadFault file)) stops opens ends six = absurd (omega (arith, ends.0, six))
      some_opened (Some (a_replay r)) (Err NoMemory) stops opens ends six = opens
      some_opened (Some (a_run r)) (Err Usage) stops opens ends six = absurd stops
      some_opened (Some (a_sweep s)) (Err Usage) stops opens ends six = absurd stops
      some_opened (Some (a_run r)) (Err (Refused file refusal)) stops opens ends six = absurd (omega (arith, ends.0, six))
      some_opened (Some (a_sweep s)) (Err (Refused file refusal)) stops opens ends six = absurd (omega (arith, ends.0, six))
      some_opened (Some (a_run r)) (Err (ReadFault file)) stops opens ends six = absurd (omega (arith, ends.0, six))
      some_opened (Some (a_sweep s)) (Err (ReadFault file)) stops opens ends six = absurd (omega (arith, ends.0, six))
      some_opened (Some (a_run r)) (Err NoMemory) stops opens ends six = opens
      some_opened (Some (a_sweep s)) (Err NoMemory) stops opens ends six = opens
      some_opened (Some (a_load l)) (Err stop) stops opens ends six = opens

      -- a file is refused, or can't be read, where a replay is asked for
      abbrev IsRefused : Replay → Type 0
      IsRefused r = (file : ℕ) × (refusal : Refusal) × Refuses tells held r file refusal × Opens r (file + 1) read before now × WritesMessage written written' faults faults' (refused_message file refusal)

      pub refused : (words : Option Asked) (answer : Result Replayed Stop) → IfErr answer (StopsFor tells held words) → OpensFor words read before now answer
          → Ends written written' faults faults' status answer → status ≡ 3 → IsSomeAnd (files_asked words) IsRefused
      refused words (Ok made) stops opens ends three = absurd (no_message made.text.items made.exhausted 3 ends three (omega arith) (omega arith) (omega arith))
      refused (Some (a_replay r)) (Err Usage) stops opens ends three = absurd stops
      refused (Some (a_replay r)) (Err (Refused file refusal)) stops opens ends three = (file, refusal, stops, opens, ends.1)
      refused (Some (a_replay r)) (Err (ReadFault file)) stops opens ends three = absurd (omega (arith, ends.0, three))
      refused (Some (a_replay r)) (Err NoMemory) stops opens ends three = absurd (omega (arith, ends.0, three))
      refused (Some (a_run r)) (Err Usage) stops opens ends three = absurd stops
      refused (Some (a_sweep s)) (Err Usage) stops opens ends three = absurd stops
      refused (Some (a_run r)) (Err (Refused file refusal)) stops opens ends three = (file, refusal, stops, opens, ends.1)
      refused (Some (a_sweep s)) (Err (Refused file refusal)) stops opens ends three = (file, refusal, stops, opens, ends.1)
      refused (Some (a_run r)) (Err (ReadFault file)) stops opens ends three = absurd (omega (arith, ends.0, three))
      refused (Some (a_sweep s)) (Err (ReadFault file)) stops opens ends three = absurd (omega (arith, ends.0, three))
      refused (Some (a_run r)) (Err NoMemory) stops opens ends three = absurd (omega (arith, ends.0, three))
      refused (Some (a_sweep s)) (Err NoMemory) stops opens ends three = absurd (omega (arith, ends.0, three))
      refused (Some (a_load l)) (Err stop) stops opens ends three = let is : status ≡ 6 = ends.0 ∙ ap status_of stops in absurd (omega (arith, is, three))
      refused None (Err stop) stops opens ends three = let is : status ≡ 2 = ends.0 ∙ ap status_of stops in absurd (omega (arith, is, three))

      abbrev IsUnread : Replay → Type 0
      IsUnread r = (file : ℕ) × Reaches tells held r file × Opens r (file + 1) read before now × WritesMessage written written' faults faults' (unread_line file)

      pub unread : (words : Option Asked) (answer : Result Replayed Stop) → IfErr answer (StopsFor tells held words) → OpensFor words read before now answer
          → Ends written written' faults faults' status answer → status ≡ 4 → IsSomeAnd (files_asked words) IsUnread
      unread words (Ok made) stops opens ends four = absurd (no_message made.text.items made.exhausted 4 ends four (omega arith) (omega arith) (omega arith))
      unread (Some (a_replay r)) (Err Usage) stops opens ends four = absurd stops
      unread (Some (a_replay r)) (Err (ReadFault file)) stops opens ends four = (file, stops, opens, ends.1)
      unread (Some (a_replay r)) (Err (Refused file refusal)) stops opens ends four = absurd (omega (arith, ends.0, four))
      unread (Some (a_replay r)) (Err NoMemory) stops opens ends four = absurd (omega (arith, ends.0, four))
      unread (Some (a_run r)) (Err Usage) stops opens ends four = absurd stops
      unread (Some (a_sweep s)) (Err Usage) stops opens ends four = absurd stops
      unread (Some (a_run r)) (Err (ReadFault file)) stops opens ends four = (file, stops, opens, ends.1)
      unread (Some (a_sweep s)) (Err (ReadFault file)) stops opens ends four = (file, stops, opens, ends.1)
      unread (Some (a_run r)) (Err (Refused file refusal)) stops opens ends four = absurd (omega (arith, ends.0, four))
      unread (Some (a_sweep s)) (Err (Refused file refusal)) stops opens ends four = absurd (omega (arith, ends.0, four))
      unread (Some (a_run r)) (Err NoMemory) stops opens ends four = absurd (omega (arith, ends.0, four))
      unread (Some (a_sweep s)) (Err NoMemory) stops opens ends four = absurd (omega (arith, ends.0, four))
      unread (Some (a_load l)) (Err stop) stops opens ends four = let is : status ≡ 6 = ends.0 ∙ ap status_of stops in absurd (omega (arith, is, four))
      unread None (Err stop) stops opens ends four = let is : status ≡ 2 = ends.0 ∙ ap status_of stops in absurd (omega (arith, is, four))
