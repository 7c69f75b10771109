-- What the outcomes of command files and schedules mean, for what a reader answers.
use Rattle.std.proofs.Common.{◌≡◌, ℕ, ◌<◌, ◌≤◌, List, length, All, Result, Ok, Err, arith}
use Rattle.std.specs.Prelude.{IsTrue, IfOk, vec_len}
use Rattle.std.specs.Global.{Vec}
use Rattle.std.proofs.lemmas.List.Elements.{All-from_recursion, All-weaker}
use Rattle.lin_report.specs.declared.calls.Client.{Client}
use Rattle.lin_report.specs.declared.calls.Op.{Op}
use Rattle.lin_report.specs.Object.{is_command}
use Rattle.script_reader.specs.declared.causes.Refusal.{Refusal}
use Rattle.script_reader.specs.declared.causes.ScriptFault.{ScriptFault}
use Rattle.script_reader.specs.declared.schedules.ScheduleEntry.{ScheduleEntry}
use Rattle.script_reader.specs.Outcomes.{FILE_LIMIT, ReadsAs}
use Rattle.script_reader.specs.Faults.{IsOutcomeOf}
use Rattle.script_reader.specs.Scripts.{COMMAND_LIMIT, GREATEST_VALUE, command_of, script_outcome}
use Rattle.script_reader.specs.Schedules.{ENTRY_LIMIT, entry_of, IsSpanInRange, schedule_outcome}
use Rattle.script_reader.proofs.Faults.{accepted, refused}
use Rattle.script_reader.proofs.Kept.{file_keeps}
use Rattle.script_reader.proofs.Entries.{command_is, command_value, entry_is}

pub script_lines : (client : Client) (bytes : List ℕ) → IsOutcomeOf FILE_LIMIT (command_of client) COMMAND_LIMIT bytes (script_outcome client bytes)
unfolding script_outcome
script_lines client bytes = record { accepted = accepted (command_of client) COMMAND_LIMIT FILE_LIMIT bytes; refused = refused (command_of client) COMMAND_LIMIT FILE_LIMIT bytes }

pub script_commands : (client : Client) (bytes : List ℕ) (ops : List Op) → script_outcome client bytes ≡ Ok ops → All (λ op. IsTrue (is_command client op)) ops × (length ops ≤ COMMAND_LIMIT)
unfolding script_outcome
script_commands client bytes ops e =
    let kept = file_keeps (command_of client) COMMAND_LIMIT (λ op. IsTrue (is_command client op)) (command_is client) FILE_LIMIT bytes ops e in
    (All-from_recursion (λ op. IsTrue (is_command client op)) ops kept.0, kept.1)

pub script_values : (client : Client) (bytes : List ℕ) (ops : List Op) → script_outcome client bytes ≡ Ok ops → All (λ (op : Op). op.value ≤ GREATEST_VALUE) ops
unfolding script_outcome
script_values client bytes ops e =
    let kept = file_keeps (command_of client) COMMAND_LIMIT (λ op. op.value ≤ GREATEST_VALUE) (command_value client) FILE_LIMIT bytes ops e in
    All-from_recursion (λ op. op.value ≤ GREATEST_VALUE) ops kept.0

pub schedule_lines : (seats : ℕ) (bytes : List ℕ) → IsOutcomeOf FILE_LIMIT (entry_of seats) ENTRY_LIMIT bytes (schedule_outcome seats bytes)
unfolding schedule_outcome
schedule_lines seats bytes = record { accepted = accepted (entry_of seats) ENTRY_LIMIT FILE_LIMIT bytes; refused = refused (entry_of seats) ENTRY_LIMIT FILE_LIMIT bytes }

-- an entry as callers know it
abbrev IsEntry : ℕ → ScheduleEntry → Type 0
IsEntry seats entry = (entry.seat < seats) × IsSpanInRange entry.span

pub schedule_entries : (seats : ℕ) (bytes : List ℕ) (entries : List ScheduleEntry) → schedule_outcome seats bytes ≡ Ok entries
    → All (λ (entry : ScheduleEntry). entry.seat < seats) entries × All (λ (entry : ScheduleEntry). IsSpanInRange entry.span) entries × (length entries ≤ ENTRY_LIMIT)
unfolding schedule_outcome
schedule_entries seats bytes entries e =
    let kept = file_keeps (entry_of seats) ENTRY_LIMIT (IsEntry seats) (entry_is seats) FILE_LIMIT bytes entries e in
    let each : All (IsEntry seats) entries = All-from_recursion (IsEntry seats) entries kept.0 in (
      All-weaker (IsEntry seats) (λ (entry : ScheduleEntry). entry.seat < seats) (λ entry h. h.0) entries each,
      All-weaker (IsEntry seats) (λ (entry : ScheduleEntry). IsSpanInRange entry.span) (λ entry h. h.1) entries each,
      kept.1,
    )

-- what holds of accepted entries holds of what a reader answers
pub answered : {X : Type 0} (P : List X → Type 0) (r : Result (Vec X) ScriptFault) (outcome : Result (List X) Refusal) → ((xs : List X) → outcome ≡ Ok xs → P xs) → ReadsAs r outcome → IfOk r (λ v. P v.items)
answered P (Ok v) outcome each e = each v.items e
answered P (Err fault) outcome each e = tt

pub counted : {X : Type 0} (limit : ℕ) (r : Result (Vec X) ScriptFault) (outcome : Result (List X) Refusal) → ((xs : List X) → outcome ≡ Ok xs → length xs ≤ limit) → ReadsAs r outcome → IfOk r (λ v. vec_len v ≤ limit)
counted limit (Ok v) outcome each e = omega (arith, v.ok.0, each v.items e)
counted limit (Err fault) outcome each e = tt
