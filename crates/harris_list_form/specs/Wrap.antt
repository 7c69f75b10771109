-- The list's wrap-up: what it says of a list that stopped. It takes no step.
use Rattle.std.specs.Prelude.{ℕ, ◌==◌, if◌then◌else◌, List}
use Rattle.lin_report.specs.declared.calls.Op.{Op}
use Rattle.lin_report.specs.declared.calls.Reply.TheVariants.{Yes}
use Rattle.lin_report.specs.declared.calls.Outcome.TheVariants.{Plain}
use Rattle.step_memory.specs.declared.steps.Request.{Request}
use Rattle.step_memory.specs.declared.steps.Request.TheVariants.{Load}
use Rattle.step_memory.specs.declared.steps.Seen.{Seen}
use Rattle.normal_traits.specs.declared.form.Wrapped.{Wrapped}
use Rattle.normal_traits.specs.declared.form.Wrapped.TheVariants as wrapped
use Rattle.normal_traits.specs.declared.lists.Entry.{Entry}
use Rattle.harris_list_form.specs.declared.states.TheConstants.{LIST_START}
use Rattle.harris_list_form.specs.declared.states.ListWrap.{ListWrap}
use Rattle.harris_list_form.specs.declared.states.ListWrap.TheVariants.{Over}

-- the first entry makes the change: where it failed the call tries again, else it is done, whatever became
-- of a second entry
abbrev pub wrap_begun : Op → List Entry → ℕ → ListWrap × Wrapped
wrap_begun op entries stop = if stop == 0 then (Over, wrapped.Restart) else (Over, wrapped.Done (Plain Yes))

-- a wrap-up never goes on. Asked all the same, it would load a word and be done: its functions are total
abbrev pub wrap_asked : ListWrap → Request
wrap_asked Over = Load LIST_START

abbrev pub wrap_fed : ListWrap → Seen → ListWrap × Wrapped
wrap_fed Over seen = (Over, wrapped.Done (Plain Yes))

-- so there is nothing that a wrap-up must be to be asked
abbrev pub Wraps : ListWrap → Type 0
Wraps Over = Unit {0}
