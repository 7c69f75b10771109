-- What a judge keeps: of each call what it needs by its name, which names were passed, and the latest begin.
use Rattle.std.specs.Prelude.{◌≡◌, ℕ, ◌+◌, ◌*◌, nat_lt, Bool, false, if◌then◌else◌, Option, Some, None, List, length, slice_index_or}
use Rattle.std.specs.Option.{option_map}
use Rattle.std.specs.List.{list_any}
use Rattle.lin_report.specs.declared.calls.Reply.{Reply}
use Rattle.lin_report.specs.Object.{Object}
use Rattle.lin_report.specs.Calls.{Call}
use Rattle.report_check.specs.declared.orders.Named.{Named}
use Rattle.report_check.specs.declared.table.Told.{Told}
use Rattle.report_check.specs.declared.verdicts.Reason.{Reason}
use Rattle.report_check.specs.declared.verdicts.Reason.TheVariants.{NoSuchCall}
use Rattle.report_check.specs.Orders.{IsName}
use Rattle.report_check.specs.Verdicts.{same_name, call_named, reason_of}

-- names that some call may have lie at places below this
abbrev pub PLACES : ℕ
PLACES = 524288

-- the place of a name
abbrev pub table_place : Named → ℕ
table_place name = name.seat * 65536 + name.number

-- what is kept of a call
abbrev pub told : Call → Told
told c = record { op = c.op; answer = c.answer; begin = c.begin }

-- at the place of each name stands what is kept of the call that has it
pub record IsTableOf (calls : List Call) (table : List (Option Told)) : Type 0 where
  pub long : length table ≡ PLACES
  pub tells : (name : Named) → IsName name → slice_index_or table (table_place name) None ≡ option_map told (call_named calls name)

-- the names are marked, and no other
pub record Marks (names : List Named) (marks : List Bool) : Type 0 where
  pub long : length marks ≡ PLACES
  pub tells : (name : Named) → IsName name → slice_index_or marks (table_place name) false ≡ list_any (same_name name) names

-- whether a call with this answer had ended before a tick
abbrev pub told_late : Option (Reply × ℕ) → ℕ → Bool
told_late None tick = false
told_late (Some answer) tick = nat_lt answer.1 tick

-- the first reason that applies, by what is kept
abbrev pub told_reason : (object : Object) → object.Held → Option Told → Bool → ℕ → Option Reason
told_reason object held None named latest = Some NoSuchCall
told_reason object held (Some t) named latest = reason_of t.answer named (told_late t.answer latest) (object.apply t.op held).1

-- the later of a tick and the begin of a call, if there is one
abbrev pub later : ℕ → Option Told → ℕ
later tick None = tick
later tick (Some t) = if nat_lt tick t.begin then t.begin else tick
