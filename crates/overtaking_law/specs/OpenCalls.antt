-- What the code keeps of the open calls, one place a seat.
use Rattle.std.specs.Prelude.{ℕ, ◌+◌, ◌==◌, if◌then◌else◌, List, Option, Some, None, slice_index_or}
use Rattle.overtaking_law.specs.declared.open_calls.OpenCall.{OpenCall}

-- the open call of a seat
abbrev pub open_call_of : List (Option OpenCall) → ℕ → Option OpenCall
open_call_of calls seat = slice_index_or calls seat None

-- how often it was overtaken
abbrev pub overtaken_so_far : Option OpenCall → ℕ
overtaken_so_far None = 0
overtaken_so_far (Some call) = call.overtaken

-- a call after its completion, or that of another call
abbrev pub without : ℕ → Option OpenCall → Option OpenCall
without number None = None
without number (Some call) = if call.number == number then None else Some call

-- overtaken once more
abbrev pub once_more : Option OpenCall → Option OpenCall
once_more None = None
once_more (Some call) = Some (record { number = call.number; overtaken = call.overtaken + 1 })

-- after a return of a seat
abbrev pub after_return : ℕ → ℕ → Option OpenCall → Option OpenCall
after_return seat place call = if place == seat then call else once_more call
