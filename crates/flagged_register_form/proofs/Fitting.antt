-- What the trial client tells of itself, and does not leave to a node, is Yes, No or Absent: it fits the record of a call.
use Rattle.std.proofs.Common.{ℕ, ◌==◌, true, false, List, arith}
use Rattle.lin_report.specs.declared.calls.TheConstants.{GET}
use Rattle.lin_report.specs.declared.calls.Op.{Op}
use Rattle.lin_report.specs.declared.calls.Outcome.TheVariants.{Plain}
use Rattle.lin_report.specs.declared.calls.Reply.TheVariants.{No}
use Rattle.step_memory.specs.declared.steps.Seen.{Seen}
use Rattle.normal_traits.specs.declared.form.Found.TheVariants as found
use Rattle.normal_traits.specs.declared.form.Wrapped.TheVariants as wrapped
use Rattle.normal_traits.specs.declared.lists.Entry.{Entry}
use Rattle.normal_traits.specs.Laws.{FitsRecord, FoundFits, WrappedFits}
use Rattle.flagged_register_form.specs.Register.{Help, Search, found_of, is_in, toggles, told, wrap_begun_of, wrap_found_of}
use Rattle.flagged_register_form.specs.Register.Help.{Clearing}
use Rattle.flagged_register_form.specs.Register.Search.{AtFlag, AtRegister}
use Rattle.client_lemmas.proofs.Outcomes.{either}

told_fits : (op : Op) (register : ℕ) → FitsRecord (told op register)
told_fits op register = either FitsRecord (op.code == GET) _ (Plain No) (either FitsRecord (is_in register) _ _ tt (omega arith)) (omega arith)

pub found_fits : (search : Search) (seen : Seen) → FoundFits (found_of search seen)
found_fits (AtRegister op flag) seen = either FoundFits (op.key == 0) _ found.Going (either FoundFits (toggles op seen.before) found.Ready _ tt (told_fits op seen.before)) tt
found_fits (AtFlag op) seen = tt
found_fits _ seen = tt

pub begun_fits : (op : Op) (entries : List Entry) (stop : ℕ) → WrappedFits (wrap_begun_of op entries stop)
begun_fits op entries stop = either WrappedFits (stop == 0) wrapped.Restart wrapped.Going tt tt

pub wrapped_fits : (help : Help) (seen : Seen) → WrappedFits (wrap_found_of help seen)
wrapped_fits (Clearing flag true) seen = omega arith
wrapped_fits (Clearing flag false) seen = tt
wrapped_fits _ seen = tt
