-- What a search and a claim make of the machine of a call.
use Rattle.std.proofs.Common.{rules, ◌≡◌, ◌∙◌, ap, ℕ, ◌+◌, ◌<◌, nat_lt, Bool, true, if◌then◌else◌, Some}
use Rattle.lin_report.specs.declared.calls.Reply.TheVariants.{Exhausted}
use Rattle.normal_traits.specs.declared.form.Found.{Found}
use Rattle.normal_traits.specs.declared.form.Found.TheVariants as found
use Rattle.normal_traits.specs.NormalForm.{NormalForm}
use Rattle.fast_slow_engine.specs.declared.call.Call.{Call}
use Rattle.fast_slow_engine.specs.declared.phases.Phase.{Phase}
use Rattle.fast_slow_engine.specs.declared.phases.Phase.TheVariants.{Generate, End}
use Rattle.fast_slow_engine.specs.declared.phases.Generating.TheVariants.{LookForBlock, Claim}
use Rattle.fast_slow_engine.specs.Mechs.{Mech, mech_of}
use Rattle.fast_slow_engine.specs.PhaseTable.{failed, mech_fed, offered, in_phase, readied, searched, with_hand}
use Rattle.whole_calls.specs.Standings.{IsAfter}

is_less : (a b : ℕ) → a < b → nat_lt a b ≡ true
is_less a b low = search rules

-- a block was left at the look and at the claim: the call has it in hand, and names its list
pub claims : {S W : Type 0} (form : NormalForm S W) (search : S) (call : Call) (m0 m1 m2 : Mech S W) (w1 w2 : Bool) (asked claimed : ℕ) → m0 ≡ mech_of call (Generate search LookForBlock)
    → m1 ≡ mech_fed form m0 (record { before = asked; won = w1 }) → asked < call.setup.cap → m2 ≡ mech_fed form m1 (record { before = claimed; won = w2 }) → claimed < call.setup.cap
    → IsAfter (offered form search) (record call { hand = Some (claimed + 1) }) m2
claims form search call m0 m1 m2 w1 w2 asked claimed looks one left two more =
    let here = mech_of call (Generate search LookForBlock) in
    let goes : m1 ≡ mech_of call (Generate search Claim) = one ∙ ap (λ x. mech_fed form x (record { before = asked; won = w1 })) looks
    ∙ ap (λ b. if b then in_phase (Generate search Claim) here else in_phase (End Exhausted) here) (is_less _ _ left) in
    let there = mech_of call (Generate search Claim) in (
      Generate search Claim,
      two ∙ ap (λ x. mech_fed form x (record { before = claimed; won = w2 })) goes
          ∙ ap (λ b. if b then offered form search (with_hand (Some (claimed + 1)) there) else in_phase (End Exhausted) there) (is_less _ _ more),
    )

-- a search that found its list, and one that was in another call's way
pub readies : {S W : Type 0} (form : NormalForm S W) (search : S) (what : Found) (call : Call) (phase : Phase S W) (m m' : Mech S W) → m ≡ mech_of call phase → m' ≡ searched form what search m → what ≡ found.Ready → IsAfter (readied form search) call m'
readies form search what call phase m m' begins ends is = (phase, ends ∙ ap (λ f. searched form f search m) is ∙ ap (λ x. readied form search x) begins)

pub fails : {S W : Type 0} (form : NormalForm S W) (search : S) (what : Found) (call : Call) (phase : Phase S W) (m m' : Mech S W) → m ≡ mech_of call phase → m' ≡ searched form what search m → what ≡ found.Contended → IsAfter (failed form) call m'
fails form search what call phase m m' begins ends is = (phase, ends ∙ ap (λ f. searched form f search m) is ∙ ap (λ x. failed form x) begins)
